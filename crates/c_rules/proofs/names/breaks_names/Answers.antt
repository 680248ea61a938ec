use Rattle.std.proofs.Common.{List, Contains, ⊎_elim, refl, inl, inr, subst, sym, map}
use Rattle.std.proofs.lemmas.Bool.{iff_false, false≢true}
use Rattle.c_tree.specs.declared.tree.CStruct.{CStruct}
use Rattle.c_tree.specs.Rules.{NamesClash}
use Rattle.c_rules.specs.Names.{StructClashes}
use Rattle.c_rules.proofs.Anys.{is_in, none_more, none_in}
use Rattle.c_rules.proofs.names.breaks_names.Goals as goal

pub returns-then-branch : goal.returns-then-branch
returns-then-branch c =
    (λ _. inl (subst (λ (structs : List CStruct). NamesClash (map (λ (struct : CStruct). struct.name) structs)) c.as_slice.ensures (c.in_ok-structs_clash.ensures.0 c.if-branch.true)), λ _. refl)

pub returns-then-branch-2 : goal.returns-then-branch-2
returns-then-branch-2 c = (λ _. inr (inl (c.in_ok-globals_clash.ensures.0 c.if-branch-2.true)), λ _. refl)

pub returns-then-branch-3 : goal.returns-then-branch-3
returns-then-branch-3 c =
    let struct = c.item-item.result in
    let among = subst (λ (structs : List CStruct). Contains structs struct) c.as_slice-item-items.ensures (is_in c.as_slice-item-items.result.now c.loop-item.item-index struct c.loop-item-test.true c.item-item.is) in
    (λ _. ⊎_elim (λ members. inr (inr (inl (struct, among, members)))) (λ (member, of, choice). inr (inr (inr (struct, member, among, of, choice)))) (c.in_ok-struct_clashes.ensures.0 c.if-branch-3.true), λ _. refl)

pub loop-item-preserved : goal.loop-item-preserved
loop-item-preserved c =
    none_more StructClashes c.as_slice-item-items.result.now c.loop-item.item-index c.item-item.result c.loop-item-test.true c.item-item.is c.loop-item.invariant
    (iff_false c.in_ok-struct_clashes.ensures c.if-branch-3.false)

pub returns : goal.returns
returns c =
    let none = none_in StructClashes c.as_slice-item-items.result.now c.args.file.now.structs c.loop-item.item-index c.loop-item-test.false c.as_slice-item-items.ensures c.loop-item.invariant in (
      λ never. absurd (false≢true never),
      λ clash. absurd (⊎_elim
          (λ structs. iff_false c.in_ok-structs_clash.ensures c.if-branch.false (subst (λ (structs : List CStruct). NamesClash (map (λ (struct : CStruct). struct.name) structs)) (sym c.as_slice.ensures) structs))
          (λ more. ⊎_elim (λ globals. iff_false c.in_ok-globals_clash.ensures c.if-branch-2.false globals)
          (λ inner. ⊎_elim (λ (struct, among, members). none struct among (inl members)) (λ (struct, member, among, of, choice). none struct among (inr (member, of, choice))) inner) more)
          clash),
    )
