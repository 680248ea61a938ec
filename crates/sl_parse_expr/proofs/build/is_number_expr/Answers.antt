use Rattle.std.proofs.Common.{false, sym, ap, ◌∙◌, if◌then◌else◌}
use mathlib.Core.Bool.{not}
use Rattle.sl_tree.specs.WellShaped.{number_kind}
use Rattle.sl_parse_expr.proofs.Building.{is_numbered, no_number, number_same}
use Rattle.sl_parse_expr.proofs.build.is_number_expr.Goals as goal

pub returns-then-not-negative : goal.returns-then-not-negative
returns-then-not-negative c =
    let token = c.in-Literal.token in
    c.eq.ensures ∙ (number_same token.kind ∙ sym (is_numbered c.args.of.now c.in-Literal.negative token c.in-Literal.is ∙ ap (λ b. if b then false else number_kind token.kind) c.if-not-negative.true))

pub returns-else-not-negative : goal.returns-else-not-negative
returns-else-not-negative c =
    let token = c.in-Literal.token in
    ap not c.if-not-negative.false ∙ sym (is_numbered c.args.of.now c.in-Literal.negative token c.in-Literal.is ∙ ap (λ b. if b then false else number_kind token.kind) c.if-not-negative.false)

pub returns-in_default : goal.returns-in_default
returns-in_default c = sym (no_number c.args.of.now c.in_default.not-Literal)
