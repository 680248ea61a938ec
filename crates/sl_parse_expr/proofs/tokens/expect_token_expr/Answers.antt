use Rattle.std.proofs.Common.{◌∷◌, ◌++◌, [], sym, ◌∙◌}
use Rattle.sl_tree.specs.Sorts.{this_word}
use Rattle.sl_tree.specs.WellShaped.{literals, names}
use Rattle.sl_parse_expr.proofs.Behind.{one_none, one_more, one_other}
use Rattle.sl_parse_expr.proofs.tokens.expect_token_expr.Goals as goal

pub returns-in-None-clause-told : goal.returns-in-None-clause-told
returns-in-None-clause-told c = one_none c.args.bytes.now c.args.tokens.now c.args.at (literals ++ names ++ this_word ∷ []) c.in-None.ensures.lookup.3

pub returns-then-is_token_expr-clause-told : goal.returns-then-is_token_expr-clause-told
returns-then-is_token_expr-clause-told c =
    let w = c.in-Some.ensures.lookup in
    one_more c.args.bytes.now c.args.tokens.now c.args.at (literals ++ names ++ this_word ∷ []) c.in-Some.token.now w.3.0 w.1 (rw (← c.sort.ensures) (sym c.is_token_expr.ensures ∙ c.if-is_token_expr.true))

pub returns-else-is_token_expr-clause-told : goal.returns-else-is_token_expr-clause-told
returns-else-is_token_expr-clause-told c =
    let w = c.in-Some.ensures.lookup in
    one_other c.args.bytes.now c.args.tokens.now c.args.at (literals ++ names ++ this_word ∷ []) c.in-Some.token.now w.3.0 w.1 (rw (← c.sort.ensures) (sym c.is_token_expr.ensures ∙ c.if-is_token_expr.false))
