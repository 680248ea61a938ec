use Rattle.std.proofs.Common.{true, sym, ap, ◌∙◌, true≢false}
use Rattle.sl_tree.specs.WellShaped.{expr}
use Rattle.sl_tree.specs.declared.tree.ExprKind.TheVariants as expr_kind
use Rattle.sl_parse_expr.specs.Told.{spanned}
use Rattle.sl_parse_expr.proofs.Building.{no_number, negative_from}
use Rattle.sl_parse_expr.proofs.build.negative_of.Goals as goal

pub unreachable-requires : goal.unreachable-requires
unreachable-requires c = true≢false (sym c.requires ∙ no_number c.args.of c.in_default.not-Literal)

pub returns : goal.returns
unfolding expr
returns c =
    let of = c.args.of in
    let token = c.in-Literal.token in
    ap (λ t. (expr (expr_kind.Literal true t) c.join-span.result, 0)) c.in-Literal.token-is
    ∙ (ap (λ s. (expr (expr_kind.Literal true token) s, 0)) c.join-span.ensures
    ∙ sym (negative_from (spanned c.args.minus) of 0 c.in-Literal.field-0 token c.in-Literal.is c.requires))
