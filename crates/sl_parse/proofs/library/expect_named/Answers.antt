use Rattle.std.proofs.Common.{sym, ◌∙◌}
use Rattle.sl_parse.specs.Grammar.{is_named}
use Rattle.sl_parse.proofs.AtTokens.{differs_at, pass_none, pass_more, pass_other}
use Rattle.sl_parse.proofs.library.expect_named.Goals as goal

pub returns-in-None-clause-told : goal.returns-in-None-clause-told
returns-in-None-clause-told c =
    differs_at c.args.file c.args.bytes.now c.args.tokens.now c.args.at _ _ c.differs.ensures (pass_none c.args.bytes.now c.args.tokens.now c.args.at (is_named c.args.wanted.now) c.in-None.ensures.lookup.3)

pub returns-then-is_named-clause-told : goal.returns-then-is_named-clause-told
returns-then-is_named-clause-told c =
    let w = c.in-Some.ensures.lookup in
    (_, pass_more c.args.bytes.now c.args.tokens.now c.args.at (is_named c.args.wanted.now) c.in-Some.token.now w.3.0 w.1 (sym c.is_named.ensures ∙ c.if-is_named.true))

pub returns-else-is_named-clause-told : goal.returns-else-is_named-clause-told
returns-else-is_named-clause-told c =
    let w = c.in-Some.ensures.lookup in
    differs_at c.args.file c.args.bytes.now c.args.tokens.now c.args.at _ _ c.differs-else-is_named.ensures
    (pass_other c.args.bytes.now c.args.tokens.now c.args.at (is_named c.args.wanted.now) c.in-Some.token.now w.3.0 w.1 (sym c.is_named.ensures ∙ c.if-is_named.false))
