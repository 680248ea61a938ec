use Rattle.std.proofs.Common.{sym, ap, ◌∙◌}
use Rattle.std.specs.List.{flat_map}
use Rattle.sl_parse.specs.TreeRules.{sooner, first_of, noted, noted_again, in_notes, seen_kind}
use Rattle.sl_parse.proofs.FirstFault.{first_append}
use Rattle.sl_parse.proofs.tree_rules.notes.in_notes.Goals as goal

pub returns-in-Some : goal.returns-in-Some
returns-in-Some c =
    let form = (seen_kind c.args.kind.now).form in
    c.sooner.ensures ∙ (ap (λ x. sooner x c.in_others.result) c.in_note.ensures ∙ (ap (sooner (first_of (noted form c.in-Some.first.now))) c.in_others.ensures
    ∙ (sym (first_append (noted form c.in-Some.first.now) (flat_map noted_again c.in-Some.others.now)) ∙ ap (λ xs. first_of (in_notes form c.args.span xs)) (sym c.in-Some.ensures.cases.0))))
