use Rattle.std.proofs.Common.{sym, ◌∙◌}
use Rattle.sl_tree.specs.WellShaped.{names}
use Rattle.sl_parse_expr.proofs.Behind.{one_none, one_more, one_other}
use Rattle.sl_parse_expr.proofs.tokens.expect_name.Goals as goal

pub returns-in-None-clause-told : goal.returns-in-None-clause-told
returns-in-None-clause-told c = one_none c.args.bytes.now c.args.tokens.now c.args.at names c.in-None.ensures.lookup.3

pub returns-then-is_name-clause-told : goal.returns-then-is_name-clause-told
returns-then-is_name-clause-told c =
    let w = c.in-Some.ensures.lookup in
    one_more c.args.bytes.now c.args.tokens.now c.args.at names c.in-Some.token.now w.3.0 w.1 (rw (← c.sort.ensures) (sym c.is_name.ensures ∙ c.if-is_name.true))

pub returns-else-is_name-clause-told : goal.returns-else-is_name-clause-told
returns-else-is_name-clause-told c =
    let w = c.in-Some.ensures.lookup in
    one_other c.args.bytes.now c.args.tokens.now c.args.at names c.in-Some.token.now w.3.0 w.1 (rw (← c.sort.ensures) (sym c.is_name.ensures ∙ c.if-is_name.false))
