use Rattle.sl_grammar.specs.Law.{found_as}
use Rattle.sl_tree.specs.Sorts.{spelled}
use Rattle.sl_parse_expr.specs.Told.{behind}
use Rattle.sl_parse.specs.Names.{result_form}
use Rattle.sl_parse.specs.Told.{reads, result_view}
use Rattle.sl_parse.proofs.Telling.{err_told_two}
use Rattle.sl_parse.proofs.MethodsRead.{result_done, result_unmarked, result_untyped, result_ungiven}
use Rattle.sl_parse.proofs.members.result.Goals as goal

pub returns-in_err-expect-clause-told : goal.returns-in_err-expect-clause-told
returns-in_err-expect-clause-told c =
    let file = c.args.file in
    let bytes = c.args.bytes.now in
    let tokens = c.args.tokens.now in
    let ts = behind bytes tokens c.args.start in
    let e = c.in_err-expect.field-0.0 in
    err_told_two file bytes tokens (λ b. found_as result_view (reads b result_form ts)) e c.from_residual.result (result_unmarked file bytes tokens ts e c.in_err-expect.ensures.told) c.from_residual.ensures.1

pub returns-in_err-of-clause-told : goal.returns-in_err-of-clause-told
returns-in_err-of-clause-told c =
    let file = c.args.file in
    let bytes = c.args.bytes.now in
    let tokens = c.args.tokens.now in
    let start = c.args.start in
    let e = c.in_err-of.field-0.0 in
    err_told_two file bytes tokens (λ b. found_as result_view (reads b result_form (behind bytes tokens start))) e c.from_residual-in_err-of.result
    (result_untyped file bytes tokens start (spelled bytes c.in_ok-expect.field-0) e c.in_ok-expect.ensures.told c.in_err-of.ensures.told) c.from_residual-in_err-of.ensures.1

pub returns-in-Err-clause-told : goal.returns-in-Err-clause-told
returns-in-Err-clause-told c =
    let bytes = c.args.bytes.now in
    let tokens = c.args.tokens.now in
    result_ungiven c.args.file bytes tokens c.args.start (behind bytes tokens c.in_ok-of.at) (spelled bytes c.in_ok-expect.field-0) c.in_ok-of.of c.in-Err.fault
    c.in_ok-expect.ensures.told c.in_ok-of.ensures.told c.in-Err.ensures.told

pub returns-clause-told : goal.returns-clause-told
returns-clause-told c =
    let bytes = c.args.bytes.now in
    let tokens = c.args.tokens.now in
    result_done bytes tokens c.args.start (behind bytes tokens c.in_ok-of.at) (behind bytes tokens c.in-Ok.read.1) (spelled bytes c.in_ok-expect.field-0) c.in_ok-of.of c.in-Ok.read.0
    c.in_ok-expect.ensures.told c.in_ok-of.ensures.told c.in-Ok.ensures.told
