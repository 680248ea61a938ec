use Rattle.std.proofs.Common.{sym, ◌∙◌}
use Rattle.sl_parse_expr.proofs.Building.{number_same}
use Rattle.sl_parse.proofs.Noting.{is_numbered, no_number}
use Rattle.sl_parse.proofs.tree_rules.forms.is_number.Goals as goal

pub returns-in-Literal : goal.returns-in-Literal
returns-in-Literal c = c.eq.ensures ∙ (number_same c.in-Literal.literal.kind ∙ sym (is_numbered c.args.e.now c.in-Literal.field-0 c.in-Literal.literal c.in-Literal.is))

pub returns-in_default : goal.returns-in_default
returns-in_default c = sym (no_number c.args.e.now c.in_default.not-Literal)
