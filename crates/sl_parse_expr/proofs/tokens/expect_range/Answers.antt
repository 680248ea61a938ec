use Rattle.std.proofs.Common.{◌∷◌, [], sym, ◌∙◌}
use Rattle.sl_tree.specs.Sorts.{until_name, to_name}
use Rattle.sl_parse_expr.proofs.Behind.{one_none, one_more, one_other}
use Rattle.sl_parse_expr.proofs.tokens.expect_range.Goals as goal

pub returns-in-None-clause-told : goal.returns-in-None-clause-told
returns-in-None-clause-told c = one_none c.args.bytes.now c.args.tokens.now c.args.at (until_name ∷ to_name ∷ []) c.in-None.ensures.lookup.3

pub returns-then-is_range-clause-told : goal.returns-then-is_range-clause-told
returns-then-is_range-clause-told c =
    let w = c.in-Some.ensures.lookup in
    one_more c.args.bytes.now c.args.tokens.now c.args.at (until_name ∷ to_name ∷ []) c.in-Some.token.now w.3.0 w.1 (rw (← c.sort.ensures) (sym c.is_range.ensures ∙ c.if-is_range.true))

pub returns-else-is_range-clause-told : goal.returns-else-is_range-clause-told
returns-else-is_range-clause-told c =
    let w = c.in-Some.ensures.lookup in
    one_other c.args.bytes.now c.args.tokens.now c.args.at (until_name ∷ to_name ∷ []) c.in-Some.token.now w.3.0 w.1 (rw (← c.sort.ensures) (sym c.is_range.ensures ∙ c.if-is_range.false))
