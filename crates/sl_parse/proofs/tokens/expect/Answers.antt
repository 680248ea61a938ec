use Rattle.std.proofs.Common.{sym, ◌∙◌}
use Rattle.sl_parse_expr.proofs.Behind.{token_none, token_more, token_other}
use Rattle.sl_parse.proofs.AtTokens.{wrong_at}
use Rattle.sl_parse.proofs.tokens.expect.Goals as goal

pub returns-in-None-clause-told : goal.returns-in-None-clause-told
returns-in-None-clause-told c =
    wrong_at c.args.file c.args.bytes.now c.args.tokens.now c.args.at _ _ c.broken.ensures c.requires.in_bounds (λ b. token_none c.args.bytes.now c.args.tokens.now c.args.at c.args.wanted c.in-None.ensures.lookup.3)

pub returns-then-sort-wanted-clause-told : goal.returns-then-sort-wanted-clause-told
returns-then-sort-wanted-clause-told c =
    let w = c.in-Some.ensures.lookup in
    token_more c.args.bytes.now c.args.tokens.now c.args.at c.args.wanted c.in-Some.token.now w.3.0 w.1 (sym c.sort.ensures ∙ c.if-sort-wanted.true)

pub returns-else-sort-wanted-clause-told : goal.returns-else-sort-wanted-clause-told
returns-else-sort-wanted-clause-told c =
    let w = c.in-Some.ensures.lookup in
    wrong_at c.args.file c.args.bytes.now c.args.tokens.now c.args.at _ _ c.broken-else-sort-wanted.ensures c.requires.in_bounds
    (λ b. token_other c.args.bytes.now c.args.tokens.now c.args.at c.args.wanted c.in-Some.token.now w.3.0 w.1 (λ e. c.if-sort-wanted.false (c.sort.ensures ∙ e)))
