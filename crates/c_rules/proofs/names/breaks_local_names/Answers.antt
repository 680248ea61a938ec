use Rattle.std.proofs.Common.{◌↔◌, List, ℕ, Bor, ◌++◌, IfOk, IsTrue, ap, map, subst, sym, ◌∙◌}
use Rattle.std.proofs.lemmas.List.{map-append}
use Rattle.c_tree.specs.declared.tree.CVar.{CVar}
use Rattle.c_tree.specs.Rules.{var_names, NamesClash}
use Rattle.c_rules.proofs.names.breaks_local_names.Goals as goal

pub returns : goal.returns
returns c =
    let now = λ (name : Bor (List ℕ)). name.now in
    let first = c.in_ok-names.ensures ∙ ap var_names c.as_slice.ensures in
    let second = c.in_ok-others.ensures ∙ ap var_names c.as_slice-2.ensures in
    subst (λ names. IfOk c.names_clash.result (λ clash. IsTrue clash ↔ NamesClash names))
    (ap (map now) (c.as_slice-3.ensures.value ∙ c.in_ok-append.ensures.items)
    ∙ (map-append now c.in_ok-names.names.items c.in_ok-others.others.items
    ∙ (ap (λ names. names ++ map now c.in_ok-others.others.items) first ∙ ap (λ names. var_names c.args.function.now.params ++ names) second)) ∙ sym (map-append (λ (var : CVar). var.name) c.args.function.now.params c.args.function.now.vars))
    c.names_clash.ensures
