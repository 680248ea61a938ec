use Rattle.std.proofs.Common.{suc, add-one, sym, ap, ◌∙◌}
use Rattle.sl_tree.specs.Sorts.{spelled}
use Rattle.sl_parse_expr.proofs.Building.{minus_number, minus_plain}
use Rattle.sl_parse_expr.proofs.build.minus_of.Goals as goal

pub negative_of-requires : goal.negative_of-requires
negative_of-requires c = sym c.is_number_expr.ensures ∙ c.if-is_number_expr.true

pub returns-then-is_number_expr : goal.returns-then-is_number_expr
unfolding spelled
returns-then-is_number_expr c =
    ap (λ v. (v.0, c.args.levels)) c.negative_of.ensures
    ∙ sym (minus_number (spelled c.args.bytes.now c.args.operator) c.args.of c.args.levels (sym c.is_number_expr.ensures ∙ c.if-is_number_expr.true))

pub returns-in_ok-prefix_of : goal.returns-in_ok-prefix_of
unfolding spelled
returns-in_ok-prefix_of c =
    let k = spelled c.args.bytes.now c.args.operator in
    let plain = minus_plain k c.args.of c.args.levels (sym c.is_number_expr.ensures ∙ c.if-is_number_expr.false) in
    rw add-one (ap (λ e. (e, suc c.args.levels)) c.in_ok-prefix_of.ensures ∙ sym plain)
