use Rattle.std.proofs.Common.{◌≡◌, ◌+◌, suc, arith}
use Rattle.sl_grammar.specs.Law.{found_as}
use Rattle.sl_tree.specs.Sorts.{spelled}
use Rattle.sl_parse_expr.specs.Told.{behind}
use Rattle.sl_parse.specs.Names.{extends_form}
use Rattle.sl_parse.specs.Values.{extends_in}
use Rattle.sl_parse.specs.Told.{reads}
use Rattle.sl_parse.proofs.Telling.{err_told}
use Rattle.sl_parse.proofs.ParamsRead.{extends_unmarked, extends_told}
use Rattle.sl_parse.proofs.params.extends.Goals as goal

pub returns-in_err-expect-clause-told : goal.returns-in_err-expect-clause-told
returns-in_err-expect-clause-told c =
    let bytes = c.args.bytes.now in
    let tokens = c.args.tokens.now in
    let ts = behind bytes tokens c.args.start in
    err_told c.args.file bytes tokens (λ b. found_as extends_in (reads b extends_form ts)) c.in_err-expect.field-0.0 c.from_residual.result
    (extends_unmarked c.args.file bytes tokens ts c.in_err-expect.field-0.0 c.in_err-expect.ensures.told) c.from_residual.ensures.1

pub returns-clause-told : goal.returns-clause-told
returns-clause-told c =
    let bytes = c.args.bytes.now in
    let tokens = c.args.tokens.now in
    let n : suc c.args.start ≡ c.args.start + 1 = omega arith in
    let word = rw (n) at c.in_ok-expect.ensures.told in
    extends_told c.args.file bytes tokens (behind bytes tokens c.args.start) (behind bytes tokens (c.args.start + 1)) (spelled bytes c.in_ok-expect.field-0) c.types.result word c.types.ensures.told
