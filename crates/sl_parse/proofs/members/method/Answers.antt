use Rattle.std.proofs.Common.{◌+◌}
use Rattle.sl_grammar.specs.Law.{found_as}
use Rattle.sl_tree.specs.Sorts.{spelled}
use Rattle.sl_parse_expr.specs.Told.{behind}
use Rattle.sl_parse.specs.Names.{method_form}
use Rattle.sl_parse.specs.Values.{method_from}
use Rattle.sl_parse.specs.Told.{reads}
use Rattle.sl_parse.proofs.Telling.{err_told}
use Rattle.sl_parse.proofs.MethodsRead.{method_done, method_unmarked, method_unnamed, method_behind, types_fault, params_fault, result_fault}
use Rattle.sl_parse.proofs.members.method.Goals as goal

pub returns-in_err-expect-clause-told : goal.returns-in_err-expect-clause-told
returns-in_err-expect-clause-told c =
    let file = c.args.file in
    let bytes = c.args.bytes.now in
    let tokens = c.args.tokens.now in
    let o = c.args.overrides in
    let ts = behind bytes tokens c.args.start in
    let e = c.in_err-expect.field-0.0 in
    err_told file bytes tokens (λ b. found_as (method_from o) (reads b method_form ts)) e c.from_residual.result (method_unmarked file bytes tokens o ts e c.in_err-expect.ensures.told) c.from_residual.ensures.1

pub returns-in_err-token-clause-told : goal.returns-in_err-token-clause-told
returns-in_err-token-clause-told c =
    let file = c.args.file in
    let bytes = c.args.bytes.now in
    let tokens = c.args.tokens.now in
    let o = c.args.overrides in
    let start = c.args.start in
    let e = c.in_err-token.field-0.0 in
    err_told file bytes tokens (λ b. found_as (method_from o) (reads b method_form (behind bytes tokens start))) e c.from_residual-in_err-token.result
    (method_unnamed file bytes tokens o start (spelled bytes c.in_ok-expect.field-0) e c.in_ok-expect.ensures.told c.in_err-token.ensures.told) c.from_residual-in_err-token.ensures.1

pub returns-in_err-types-clause-told : goal.returns-in_err-types-clause-told
returns-in_err-types-clause-told c =
    let file = c.args.file in
    let bytes = c.args.bytes.now in
    let tokens = c.args.tokens.now in
    let o = c.args.overrides in
    let start = c.args.start in
    let e = c.in_err-types.field-0.0 in
    err_told file bytes tokens (λ b. found_as (method_from o) (reads b method_form (behind bytes tokens start))) e c.from_residual-in_err-types.result
    (method_behind file bytes tokens o start (spelled bytes c.in_ok-expect.field-0) (spelled bytes c.in_ok-token.token) e c.in_ok-expect.ensures.told c.in_ok-token.ensures.told
    (types_fault file bytes tokens (behind bytes tokens (start + 2)) e c.in_err-types.ensures.told)) c.from_residual-in_err-types.ensures.1

pub returns-in_err-params-clause-told : goal.returns-in_err-params-clause-told
returns-in_err-params-clause-told c =
    let file = c.args.file in
    let bytes = c.args.bytes.now in
    let tokens = c.args.tokens.now in
    let o = c.args.overrides in
    let start = c.args.start in
    let e = c.in_err-params.field-0.0 in
    err_told file bytes tokens (λ b. found_as (method_from o) (reads b method_form (behind bytes tokens start))) e c.from_residual-in_err-params.result
    (method_behind file bytes tokens o start (spelled bytes c.in_ok-expect.field-0) (spelled bytes c.in_ok-token.token) e c.in_ok-expect.ensures.told c.in_ok-token.ensures.told
    (params_fault file bytes tokens (behind bytes tokens (start + 2)) (behind bytes tokens c.in_ok-types.at) c.in_ok-types.types e c.in_ok-types.ensures.told c.in_err-params.ensures.told)) c.from_residual-in_err-params.ensures.1

pub returns-in_err-of-clause-told : goal.returns-in_err-of-clause-told
returns-in_err-of-clause-told c =
    let file = c.args.file in
    let bytes = c.args.bytes.now in
    let tokens = c.args.tokens.now in
    let o = c.args.overrides in
    let start = c.args.start in
    let e = c.in_err-of.field-0.0 in
    err_told file bytes tokens (λ b. found_as (method_from o) (reads b method_form (behind bytes tokens start))) e c.from_residual-in_err-of.result
    (method_behind file bytes tokens o start (spelled bytes c.in_ok-expect.field-0) (spelled bytes c.in_ok-token.token) e c.in_ok-expect.ensures.told c.in_ok-token.ensures.told
    (result_fault file bytes tokens (behind bytes tokens (start + 2)) (behind bytes tokens c.in_ok-types.at) (behind bytes tokens c.in_ok-params.at) c.in_ok-types.types c.in_ok-params.params e
    c.in_ok-types.ensures.told c.in_ok-params.ensures.told c.in_err-of.ensures.told)) c.from_residual-in_err-of.ensures.1

pub returns-clause-told : goal.returns-clause-told
unfolding spelled
returns-clause-told c =
    let bytes = c.args.bytes.now in
    let tokens = c.args.tokens.now in
    method_done bytes tokens c.args.start c.args.overrides (behind bytes tokens c.in_ok-types.at) (behind bytes tokens c.in_ok-params.at) (behind bytes tokens c.in_ok-of.next)
    (spelled bytes c.in_ok-expect.field-0) (spelled bytes c.in_ok-token.token) c.in_ok-name.name c.in_ok-types.types c.in_ok-params.params c.in_ok-of.of c.in_ok-of.body
    c.in_ok-expect.ensures.told c.in_ok-token.ensures.told c.in_ok-name.ensures c.in_ok-types.ensures.told c.in_ok-params.ensures.told c.in_ok-of.ensures.told
