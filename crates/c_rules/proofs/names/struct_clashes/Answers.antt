use Rattle.std.proofs.Common.{List, Contains, ⊎_elim, refl, inl, inr, subst, sym, map}
use Rattle.std.proofs.lemmas.Bool.{iff_false, false≢true}
use Rattle.c_tree.specs.declared.tree.CMember.{CMember}
use Rattle.c_tree.specs.Rules.{var_names, NamesClash}
use Rattle.c_rules.proofs.Anys.{is_in, none_more, none_in}
use Rattle.c_rules.proofs.names.struct_clashes.Goals as goal

pub returns-then-branch : goal.returns-then-branch
returns-then-branch c =
    (λ _. inl (subst (λ (members : List CMember). NamesClash (map (λ (member : CMember). member.name) members)) c.as_slice.ensures (c.in_ok-members_clash.ensures.0 c.if-branch.true)), λ _. refl)

pub returns-then-branch-2 : goal.returns-then-branch-2
returns-then-branch-2 c =
    (λ _. inr (c.member-item.result, subst (λ (members : List CMember). Contains members c.member-item.result) c.as_slice-member-items.ensures (is_in c.as_slice-member-items.result.now c.loop-member.member-index c.member-item.result c.loop-member-test.true c.member-item.is), c.in_ok-choice_clashes.ensures.0 c.if-branch-2.true), λ _. refl)

pub loop-member-preserved : goal.loop-member-preserved
loop-member-preserved c =
    none_more (λ (member : CMember). NamesClash (var_names member.choice)) c.as_slice-member-items.result.now c.loop-member.member-index c.member-item.result c.loop-member-test.true c.member-item.is c.loop-member.invariant
    (iff_false c.in_ok-choice_clashes.ensures c.if-branch-2.false)

pub returns : goal.returns
returns c = (
  λ never. absurd (false≢true never),
  λ clash. absurd (⊎_elim
      (λ members. iff_false c.in_ok-members_clash.ensures c.if-branch.false (subst (λ (members : List CMember). NamesClash (map (λ (member : CMember). member.name) members)) (sym c.as_slice.ensures) members))
      (λ (member, among, clashes). none_in (λ (member : CMember). NamesClash (var_names member.choice)) c.as_slice-member-items.result.now c.args.item.now.members c.loop-member.member-index c.loop-member-test.false c.as_slice-member-items.ensures c.loop-member.invariant member among clashes)
      clash),
)
