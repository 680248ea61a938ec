use Rattle.std.proofs.Common.{◌+◌, ◌∷◌, [], arith}
use Rattle.sl_tree.specs.Sorts.{left_brace}
use Rattle.sl_parse_expr.specs.Told.{behind}
use Rattle.sl_parse_expr.proofs.Telling.{comes, comes_not, token_here}
use Rattle.sl_parse.specs.Names.{Braced}
use Rattle.sl_parse.specs.Told.{found_tree}
use Rattle.sl_parse.proofs.Telling.{err_told}
use Rattle.sl_parse.proofs.MembersRead.{braced_none, braced_whole, braced_fails}
use Rattle.sl_parse.proofs.members.braced.Goals as goal

pub returns-then-peek-ne-LEFT_BRACE-clause-told : goal.returns-then-peek-ne-LEFT_BRACE-clause-told
returns-then-peek-ne-LEFT_BRACE-clause-told c =
    let ts = behind c.args.bytes.now c.args.tokens.now c.args.start in
    braced_none c.args.globals ts (comes_not left_brace c.peek.result ts c.peek.ensures.sort c.if-peek-ne-LEFT_BRACE.true)

pub returns-in_err-all-clause-told : goal.returns-in_err-all-clause-told
returns-in_err-all-clause-told c =
    let bytes = c.args.bytes.now in
    let tokens = c.args.tokens.now in
    let ts = behind bytes tokens c.args.start in
    let us = behind bytes tokens (c.args.start + 1) in
    let h = comes left_brace c.peek.result ts c.peek.ensures.sort c.if-peek-ne-LEFT_BRACE.false in
    let p = token_here bytes tokens c.args.start (c.args.start + 1) (left_brace ∷ []) (omega arith) (c.peek.ensures.present (omega arith)) h in
    err_told c.args.file bytes tokens (λ b. found_tree b (Braced c.args.globals) ts) c.in_err-all.field-0.0 c.from_residual.result
    (braced_fails c.args.file bytes tokens c.args.globals ts us p.0 h p.1 c.in_err-all.field-0.0 c.in_err-all.ensures.told) c.from_residual.ensures.1

pub returns-clause-told : goal.returns-clause-told
returns-clause-told c =
    let bytes = c.args.bytes.now in
    let tokens = c.args.tokens.now in
    let ts = behind bytes tokens c.args.start in
    let us = behind bytes tokens (c.args.start + 1) in
    let h = comes left_brace c.peek.result ts c.peek.ensures.sort c.if-peek-ne-LEFT_BRACE.false in
    let p = token_here bytes tokens c.args.start (c.args.start + 1) (left_brace ∷ []) (omega arith) (c.peek.ensures.present (omega arith)) h in
    braced_whole c.args.globals ts us (behind bytes tokens c.in_ok-all.next) p.0 c.in_ok-all.all h p.1 c.in_ok-all.ensures.told
