use Rattle.std.proofs.Common.{◌↔◌, List, ℕ, Bor, IfOk, IsTrue, ap, map, subst, ◌∙◌}
use Rattle.std.proofs.lemmas.List.{take_all}
use Rattle.c_tree.specs.declared.tree.CMember.{CMember}
use Rattle.c_tree.specs.Rules.{NamesClash}
use Rattle.c_rules.proofs.names.members_clash.Goals as goal

pub returns : goal.returns
returns c =
    subst (λ names. IfOk c.names_clash.result (λ clash. IsTrue clash ↔ NamesClash names))
    (ap (map (λ (name : Bor (List ℕ)). name.now)) c.as_slice.ensures.value ∙ (c.loop-member.invariant ∙ ap (map (λ (member : CMember). member.name)) (take_all c.loop-member.member-index c.args.members.now c.loop-member-test.false)))
    c.names_clash.ensures
