use Rattle.std.proofs.Common.{sym, ◌∙◌}
use Rattle.sl_parse_expr.proofs.Behind.{token_none, token_more, token_other}
use Rattle.sl_parse.proofs.AtTokens.{differs_at}
use Rattle.sl_parse.proofs.library.expect_sort.Goals as goal

pub returns-in-None-clause-told : goal.returns-in-None-clause-told
returns-in-None-clause-told c =
    differs_at c.args.file c.args.bytes.now c.args.tokens.now c.args.at _ _ c.differs.ensures (token_none c.args.bytes.now c.args.tokens.now c.args.at c.args.wanted c.in-None.ensures.lookup.3)

pub returns-then-sort-wanted-clause-told : goal.returns-then-sort-wanted-clause-told
returns-then-sort-wanted-clause-told c =
    let w = c.in-Some.ensures.lookup in
    (_, token_more c.args.bytes.now c.args.tokens.now c.args.at c.args.wanted c.in-Some.token.now w.3.0 w.1 (sym c.sort.ensures ∙ c.if-sort-wanted.true))

pub returns-else-sort-wanted-clause-told : goal.returns-else-sort-wanted-clause-told
returns-else-sort-wanted-clause-told c =
    let w = c.in-Some.ensures.lookup in
    differs_at c.args.file c.args.bytes.now c.args.tokens.now c.args.at _ _ c.differs-else-sort-wanted.ensures
    (token_other c.args.bytes.now c.args.tokens.now c.args.at c.args.wanted c.in-Some.token.now w.3.0 w.1 (λ e. c.if-sort-wanted.false (c.sort.ensures ∙ e)))
