use Rattle.std.proofs.Common.{◌∷◌, [], ◌+◌, arith}
use Rattle.sl_grammar.specs.Law.{found_as}
use Rattle.sl_tree.specs.Sorts.{equals, left_brace}
use Rattle.sl_parse_expr.specs.Told.{behind}
use Rattle.sl_parse_expr.proofs.Telling.{comes, comes_not, token_here}
use Rattle.sl_parse.specs.Names.{perhaps, given_form}
use Rattle.sl_parse.specs.Values.{given_in}
use Rattle.sl_parse.specs.Told.{reads}
use Rattle.sl_parse.proofs.Telling.{err_told}
use Rattle.sl_parse.proofs.MethodsRead.{given_none, given_block, given_value, given_block_fault, given_value_fault}
use Rattle.sl_parse.proofs.members.given.Goals as goal

pub returns-then-peek-ne-EQUALS-clause-told : goal.returns-then-peek-ne-EQUALS-clause-told
returns-then-peek-ne-EQUALS-clause-told c =
    let ts = behind c.args.bytes.now c.args.tokens.now c.args.start in
    given_none ts (comes_not equals c.peek.result ts c.peek.ensures.sort c.if-peek-ne-EQUALS.true)

pub returns-in_err-of-clause-told : goal.returns-in_err-of-clause-told
returns-in_err-of-clause-told c =
    let file = c.args.file in
    let bytes = c.args.bytes.now in
    let tokens = c.args.tokens.now in
    let ts = behind bytes tokens c.args.start in
    let us = behind bytes tokens (c.args.start + 1) in
    let h = comes equals c.peek.result ts c.peek.ensures.sort c.if-peek-ne-EQUALS.false in
    let d = token_here bytes tokens c.args.start (c.args.start + 1) (equals ∷ []) (omega arith) (c.peek.ensures.present (omega arith)) h in
    let l = comes left_brace c.peek-2.result us c.peek-2.ensures.sort c.if-peek-eq-LEFT_BRACE.true in
    err_told file bytes tokens (λ b. found_as given_in (reads b (perhaps given_form) ts)) c.in_err-of.field-0.0 c.from_residual.result
    (given_block_fault file bytes tokens ts us d.0 c.in_err-of.field-0.0 h d.1 l c.in_err-of.ensures.told) c.from_residual.ensures.1

pub returns-then-peek-eq-LEFT_BRACE-clause-told : goal.returns-then-peek-eq-LEFT_BRACE-clause-told
returns-then-peek-eq-LEFT_BRACE-clause-told c =
    let bytes = c.args.bytes.now in
    let tokens = c.args.tokens.now in
    let ts = behind bytes tokens c.args.start in
    let us = behind bytes tokens (c.args.start + 1) in
    let h = comes equals c.peek.result ts c.peek.ensures.sort c.if-peek-ne-EQUALS.false in
    let d = token_here bytes tokens c.args.start (c.args.start + 1) (equals ∷ []) (omega arith) (c.peek.ensures.present (omega arith)) h in
    let l = comes left_brace c.peek-2.result us c.peek-2.ensures.sort c.if-peek-eq-LEFT_BRACE.true in
    given_block ts us (behind bytes tokens c.in_ok-of.next) d.0 c.in_ok-of.of h d.1 l c.in_ok-of.ensures.told

pub returns-in_err-of-2-clause-told : goal.returns-in_err-of-2-clause-told
returns-in_err-of-2-clause-told c =
    let file = c.args.file in
    let bytes = c.args.bytes.now in
    let tokens = c.args.tokens.now in
    let ts = behind bytes tokens c.args.start in
    let us = behind bytes tokens (c.args.start + 1) in
    let h = comes equals c.peek.result ts c.peek.ensures.sort c.if-peek-ne-EQUALS.false in
    let d = token_here bytes tokens c.args.start (c.args.start + 1) (equals ∷ []) (omega arith) (c.peek.ensures.present (omega arith)) h in
    let l = comes_not left_brace c.peek-2.result us c.peek-2.ensures.sort c.if-peek-eq-LEFT_BRACE.false in
    err_told file bytes tokens (λ b. found_as given_in (reads b (perhaps given_form) ts)) c.in_err-of-2.field-0.0 c.from_residual-in_err-of-2.result
    (given_value_fault file bytes tokens ts us d.0 c.in_err-of-2.field-0.0 h d.1 l c.in_err-of-2.ensures.told) c.from_residual-in_err-of-2.ensures.1

pub returns-clause-told : goal.returns-clause-told
returns-clause-told c =
    let bytes = c.args.bytes.now in
    let tokens = c.args.tokens.now in
    let ts = behind bytes tokens c.args.start in
    let us = behind bytes tokens (c.args.start + 1) in
    let h = comes equals c.peek.result ts c.peek.ensures.sort c.if-peek-ne-EQUALS.false in
    let d = token_here bytes tokens c.args.start (c.args.start + 1) (equals ∷ []) (omega arith) (c.peek.ensures.present (omega arith)) h in
    let l = comes_not left_brace c.peek-2.result us c.peek-2.ensures.sort c.if-peek-eq-LEFT_BRACE.false in
    given_value ts us (behind bytes tokens c.in_ok-of-2.next) d.0 c.in_ok-of-2.of h d.1 l c.in_ok-of-2.ensures.told
