use Rattle.std.proofs.Common.{◌↔◌, List, ℕ, Bor, IfOk, IsTrue, ap, map, subst, ◌∙◌}
use Rattle.c_tree.specs.Rules.{var_names, NamesClash}
use Rattle.c_rules.proofs.names.choice_clashes.Goals as goal

pub returns : goal.returns
returns c =
    subst (λ names. IfOk c.names_clash.result (λ clash. IsTrue clash ↔ NamesClash names))
    (ap (map (λ (name : Bor (List ℕ)). name.now)) c.as_slice-2.ensures.value ∙ (c.in_ok-names.ensures ∙ ap var_names c.as_slice.ensures))
    c.names_clash.ensures
