use Rattle.std.proofs.Common.{sym, ◌∙◌}
use Rattle.sl_tree.specs.WellShaped.{names}
use Rattle.sl_parse_expr.proofs.Behind.{one_none, one_more, one_other}
use Rattle.sl_parse.proofs.AtTokens.{wrong_at}
use Rattle.sl_parse.proofs.tokens.expect_name.Goals as goal

pub returns-in-None-clause-told : goal.returns-in-None-clause-told
returns-in-None-clause-told c =
    wrong_at c.args.file c.args.bytes.now c.args.tokens.now c.args.at _ _ c.broken.ensures c.requires.in_bounds (λ b. one_none c.args.bytes.now c.args.tokens.now c.args.at names c.in-None.ensures.lookup.3)

pub returns-then-is_name-clause-told : goal.returns-then-is_name-clause-told
returns-then-is_name-clause-told c =
    let w = c.in-Some.ensures.lookup in
    one_more c.args.bytes.now c.args.tokens.now c.args.at names c.in-Some.token.now w.3.0 w.1 (rw (← c.sort.ensures) (sym c.is_name.ensures ∙ c.if-is_name.true))

pub returns-else-is_name-clause-told : goal.returns-else-is_name-clause-told
returns-else-is_name-clause-told c =
    let w = c.in-Some.ensures.lookup in
    wrong_at c.args.file c.args.bytes.now c.args.tokens.now c.args.at _ _ c.broken-else-is_name.ensures c.requires.in_bounds
    (λ b. one_other c.args.bytes.now c.args.tokens.now c.args.at names c.in-Some.token.now w.3.0 w.1 (rw (← c.sort.ensures) (sym c.is_name.ensures ∙ c.if-is_name.false)))
