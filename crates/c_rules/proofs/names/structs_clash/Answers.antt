use Rattle.std.proofs.Common.{◌↔◌, List, ℕ, Bor, IfOk, IsTrue, ap, map, subst, ◌∙◌}
use Rattle.std.proofs.lemmas.List.{take_all}
use Rattle.c_tree.specs.declared.tree.CStruct.{CStruct}
use Rattle.c_tree.specs.Rules.{NamesClash}
use Rattle.c_rules.proofs.names.structs_clash.Goals as goal

pub returns : goal.returns
returns c =
    subst (λ names. IfOk c.names_clash.result (λ clash. IsTrue clash ↔ NamesClash names))
    (ap (map (λ (name : Bor (List ℕ)). name.now)) c.as_slice.ensures.value ∙ (c.loop-item.invariant ∙ ap (map (λ (item : CStruct). item.name)) (take_all c.loop-item.item-index c.args.structs.now c.loop-item-test.false)))
    c.names_clash.ensures
