use Rattle.sl_grammar.specs.Law.{found_as}
use Rattle.sl_grammar.specs.Grammar.{Ref}
use Rattle.sl_tree.specs.Sorts.{left_parenthesis}
use Rattle.sl_parse_expr.specs.Told.{behind}
use Rattle.sl_parse_expr.proofs.Telling.{comes, comes_not}
use Rattle.sl_parse.specs.Names.{Params, perhaps}
use Rattle.sl_parse.specs.Values.{method_params_in}
use Rattle.sl_parse.specs.Told.{reads}
use Rattle.sl_parse.proofs.Telling.{err_told}
use Rattle.sl_parse.proofs.MethodsRead.{method_params_none, method_params_some, method_params_fault}
use Rattle.sl_parse.proofs.members.method_params.Goals as goal

pub returns-then-peek-ne-LEFT_PARENTHESIS-clause-told : goal.returns-then-peek-ne-LEFT_PARENTHESIS-clause-told
returns-then-peek-ne-LEFT_PARENTHESIS-clause-told c =
    let ts = behind c.args.bytes.now c.args.tokens.now c.args.start in
    method_params_none ts (comes_not left_parenthesis c.peek.result ts c.peek.ensures.sort c.if-peek-ne-LEFT_PARENTHESIS.true)

pub returns-in_err-all-clause-told : goal.returns-in_err-all-clause-told
returns-in_err-all-clause-told c =
    let file = c.args.file in
    let bytes = c.args.bytes.now in
    let tokens = c.args.tokens.now in
    let ts = behind bytes tokens c.args.start in
    let h = comes left_parenthesis c.peek.result ts c.peek.ensures.sort c.if-peek-ne-LEFT_PARENTHESIS.false in
    err_told file bytes tokens (λ b. found_as method_params_in (reads b (perhaps (Ref Params)) ts)) c.in_err-all.field-0.0 c.from_residual.result
    (method_params_fault file bytes tokens ts c.in_err-all.field-0.0 h c.in_err-all.ensures.told) c.from_residual.ensures.1

pub returns-clause-told : goal.returns-clause-told
returns-clause-told c =
    let bytes = c.args.bytes.now in
    let tokens = c.args.tokens.now in
    let ts = behind bytes tokens c.args.start in
    let h = comes left_parenthesis c.peek.result ts c.peek.ensures.sort c.if-peek-ne-LEFT_PARENTHESIS.false in
    method_params_some ts (behind bytes tokens c.in_ok-all.next) c.in_ok-all.all h c.in_ok-all.ensures.told
