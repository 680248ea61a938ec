use Rattle.std.proofs.Common.{◌∷◌, [], sym, ◌∙◌}
use Rattle.sl_tree.specs.Sorts.{val_word, var_word}
use Rattle.sl_parse_expr.proofs.Behind.{one_none, one_more, one_other}
use Rattle.sl_parse_expr.proofs.tokens.expect_declaring.Goals as goal

pub returns-in-None-clause-told : goal.returns-in-None-clause-told
returns-in-None-clause-told c = one_none c.args.bytes.now c.args.tokens.now c.args.at (val_word ∷ var_word ∷ []) c.in-None.ensures.lookup.3

pub returns-then-is_declaring-clause-told : goal.returns-then-is_declaring-clause-told
returns-then-is_declaring-clause-told c =
    let w = c.in-Some.ensures.lookup in
    one_more c.args.bytes.now c.args.tokens.now c.args.at (val_word ∷ var_word ∷ []) c.in-Some.token.now w.3.0 w.1 (rw (← c.sort.ensures) (sym c.is_declaring.ensures ∙ c.if-is_declaring.true))

pub returns-else-is_declaring-clause-told : goal.returns-else-is_declaring-clause-told
returns-else-is_declaring-clause-told c =
    let w = c.in-Some.ensures.lookup in
    one_other c.args.bytes.now c.args.tokens.now c.args.at (val_word ∷ var_word ∷ []) c.in-Some.token.now w.3.0 w.1 (rw (← c.sort.ensures) (sym c.is_declaring.ensures ∙ c.if-is_declaring.false))
