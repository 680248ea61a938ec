use Rattle.std.proofs.Common.{◌∷◌, [], ◌+◌, arith}
use Rattle.sl_grammar.specs.Law.{found_as}
use Rattle.sl_tree.specs.Sorts.{colon}
use Rattle.sl_parse_expr.specs.Told.{behind}
use Rattle.sl_parse_expr.proofs.Telling.{comes, comes_not, token_here}
use Rattle.sl_parse.specs.Names.{perhaps, typed_form}
use Rattle.sl_parse.specs.Values.{typed_in}
use Rattle.sl_parse.specs.Told.{reads}
use Rattle.sl_parse.proofs.Telling.{err_told}
use Rattle.sl_parse.proofs.MethodsRead.{typed_none, typed_some, typed_fault}
use Rattle.sl_parse.proofs.members.typed.Goals as goal

pub returns-then-peek-ne-COLON-clause-told : goal.returns-then-peek-ne-COLON-clause-told
returns-then-peek-ne-COLON-clause-told c =
    let ts = behind c.args.bytes.now c.args.tokens.now c.args.start in
    typed_none ts (comes_not colon c.peek.result ts c.peek.ensures.sort c.if-peek-ne-COLON.true)

pub returns-in_err-of-clause-told : goal.returns-in_err-of-clause-told
returns-in_err-of-clause-told c =
    let file = c.args.file in
    let bytes = c.args.bytes.now in
    let tokens = c.args.tokens.now in
    let ts = behind bytes tokens c.args.start in
    let h = comes colon c.peek.result ts c.peek.ensures.sort c.if-peek-ne-COLON.false in
    let d = token_here bytes tokens c.args.start (c.args.start + 1) (colon ∷ []) (omega arith) (c.peek.ensures.present (omega arith)) h in
    err_told file bytes tokens (λ b. found_as typed_in (reads b (perhaps typed_form) ts)) c.in_err-of.field-0.0 c.from_residual.result
    (typed_fault file bytes tokens ts (behind bytes tokens (c.args.start + 1)) d.0 c.in_err-of.field-0.0 h d.1 c.in_err-of.ensures.told) c.from_residual.ensures.1

pub returns-clause-told : goal.returns-clause-told
returns-clause-told c =
    let bytes = c.args.bytes.now in
    let tokens = c.args.tokens.now in
    let ts = behind bytes tokens c.args.start in
    let h = comes colon c.peek.result ts c.peek.ensures.sort c.if-peek-ne-COLON.false in
    let d = token_here bytes tokens c.args.start (c.args.start + 1) (colon ∷ []) (omega arith) (c.peek.ensures.present (omega arith)) h in
    typed_some ts (behind bytes tokens (c.args.start + 1)) (behind bytes tokens c.in_ok-of.next) d.0 c.in_ok-of.of h d.1 c.in_ok-of.ensures.told
