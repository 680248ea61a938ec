use Rattle.std.proofs.Common.{sym, ap, ◌∙◌}
use Rattle.std.specs.Prelude.{codes}
use Rattle.std.specs.Str.{bytes_eq}
use Rattle.sl_parse.proofs.Noting.{truth_first, truth_second, no_truth}
use Rattle.sl_parse.proofs.tree_rules.forms.is_truth.Goals as goal

pub returns-then-eq : goal.returns-then-eq
returns-then-eq c = truth_first c.args.e.now c.in-Name.name c.in-Name.is c.eq.result (c.eq.ensures ∙ ap (λ t. bytes_eq t (codes "T")) c.as_str.ensures) c.if-eq.true

pub returns-else-eq : goal.returns-else-eq
returns-else-eq c =
    truth_second c.args.e.now c.in-Name.name c.in-Name.is c.eq.result c.eq-else-eq.result (c.eq.ensures ∙ ap (λ t. bytes_eq t (codes "T")) c.as_str.ensures) c.if-eq.false
    (c.eq-else-eq.ensures ∙ ap (λ t. bytes_eq t (codes "F")) c.as_str-else-eq.ensures)

pub returns-in_default : goal.returns-in_default
returns-in_default c = sym (no_truth c.args.e.now c.in_default.not-Name)
