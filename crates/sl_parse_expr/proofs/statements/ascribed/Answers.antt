use Rattle.std.proofs.Common.{◌∷◌, [], ◌+◌, arith}
use Rattle.sl_grammar.specs.Law.{found_as}
use Rattle.sl_tree.specs.Sorts.{colon}
use Rattle.sl_parse_expr.specs.Names.{Type_term}
use Rattle.sl_parse_expr.specs.Grammar.{read}
use Rattle.sl_parse_expr.specs.Told.{behind, reads, ascribed_form, ascribed_view}
use Rattle.sl_parse_expr.proofs.Telling.{comes, comes_not, token_here, two_err}
use Rattle.sl_parse_expr.proofs.StatementsRead.{ascribed_none, ascribed_stops, ascribed_whole}
use Rattle.sl_parse_expr.proofs.statements.ascribed.Goals as goal

pub returns-then-peek-ne-COLON-clause-told : goal.returns-then-peek-ne-COLON-clause-told
returns-then-peek-ne-COLON-clause-told c =
    let ts = behind c.args.bytes.now c.args.tokens.now c.args.start in
    ascribed_none c.args.room ts (comes_not colon c.peek.result ts c.peek.ensures.sort c.if-peek-ne-COLON.true)

pub returns-in_err-of-clause-told : goal.returns-in_err-of-clause-told
returns-in_err-of-clause-told c =
    let bytes = c.args.bytes.now in
    let tokens = c.args.tokens.now in
    let ts = behind bytes tokens c.args.start in
    let us = behind bytes tokens (c.args.start + 1) in
    let h = comes colon c.peek.result ts c.peek.ensures.sort c.if-peek-ne-COLON.false in
    let d = token_here bytes tokens c.args.start (c.args.start + 1) (colon ∷ []) (omega arith) (c.peek.ensures.present (omega arith)) h in
    two_err bytes tokens (read c.args.room Type_term us) (found_as ascribed_view (reads (ascribed_form c.args.room) ts)) c.in_err-of.field-0.0 c.from_residual.result
    c.in_err-of.ensures.told c.from_residual.ensures.1 (λ rest e. ascribed_stops c.args.room ts us rest d.0 h d.1 e)

pub returns-clause-told : goal.returns-clause-told
returns-clause-told c =
    let bytes = c.args.bytes.now in
    let tokens = c.args.tokens.now in
    let ts = behind bytes tokens c.args.start in
    let us = behind bytes tokens (c.args.start + 1) in
    let h = comes colon c.peek.result ts c.peek.ensures.sort c.if-peek-ne-COLON.false in
    let d = token_here bytes tokens c.args.start (c.args.start + 1) (colon ∷ []) (omega arith) (c.peek.ensures.present (omega arith)) h in
    ascribed_whole c.args.room ts us (behind bytes tokens c.in_ok-of.next) d.0 c.in_ok-of.of c.in_ok-of.levels h d.1 c.in_ok-of.ensures.told
