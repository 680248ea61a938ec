use Rattle.std.proofs.Common.{[], ap, ap₂, ◌∙◌, sym, subst, map}
use Rattle.c_tree.specs.Rules.{BreaksInside, any_with, recounts}
use Rattle.c_rules.specs.Least.{least, IsLeast}
use Rattle.c_rules.specs.Bodies.{rule_of, of_block}
use Rattle.c_rules.proofs.Decided.{inside_least}
use Rattle.c_rules.proofs.Rounds.{any_map}
use Rattle.c_rules.proofs.inside.least_inside.Goals as goal

pub returns : goal.returns
returns c =
    let file = c.args.around.now.file.now in
    let earlier = c.args.around.now.earlier.now in
    let function = c.args.around.now.function.now in
    let rule = rule_of file earlier function in
    let body = c.of_block-body.ensures ∙ ap (of_block rule) c.as_slice.ensures in
    let again = c.in_ok-recounts.ensures ∙ (ap (λ block. any_with [] (map recounts block)) c.as_slice-2.ensures ∙ any_map [] function.body) in
    let last = c.least-last.ensures ∙ ap₂ least c.told.ensures c.told-2.ensures in
    let behind = c.least-behind.ensures ∙ ap₂ least body last in
    let whole = c.least.ensures ∙ ap₂ least c.told-3.ensures behind in
    subst (IsLeast (BreaksInside file earlier function)) (sym whole)
    (inside_least file earlier function c.in_ok-names.names c.in_ok-recounts.recounts c.breaks_end-ends.result c.in_ok-names.ensures again c.breaks_end-ends.ensures)
