use Rattle.std.proofs.Common.{◌≡◌, ◌+◌, suc, arith}
use Rattle.sl_tree.specs.Sorts.{spelled}
use Rattle.sl_tree.specs.WellShaped.{field}
use Rattle.sl_parse.specs.Names.{Pair}
use Rattle.sl_parse_expr.specs.Told.{behind}
use Rattle.sl_parse.specs.Told.{found_tree}
use Rattle.sl_parse.proofs.Telling.{err_told}
use Rattle.sl_parse.proofs.NotesRead.{pair_read, pair_unnamed, pair_unequal, pair_ungiven}
use Rattle.sl_parse.proofs.notes.pair.Goals as goal

pub returns-in_err-token-clause-told : goal.returns-in_err-token-clause-told
returns-in_err-token-clause-told c =
    let bytes = c.args.bytes.now in
    let tokens = c.args.tokens.now in
    let ts = behind bytes tokens c.args.start in
    err_told c.args.file bytes tokens (λ b. found_tree b Pair ts) c.in_err-token.field-0.0 c.from_residual.result
    (pair_unnamed c.args.file bytes tokens ts c.in_err-token.field-0.0 c.in_err-token.ensures.told) c.from_residual.ensures.1

pub returns-in_err-expect-clause-told : goal.returns-in_err-expect-clause-told
returns-in_err-expect-clause-told c =
    let bytes = c.args.bytes.now in
    let tokens = c.args.tokens.now in
    let ts = behind bytes tokens c.args.start in
    let more = behind bytes tokens (c.args.start + 1) in
    let n : suc c.args.start ≡ c.args.start + 1 = omega arith in
    let name = rw (n) at c.in_ok-token.ensures.told in
    err_told c.args.file bytes tokens (λ b. found_tree b Pair ts) c.in_err-expect.field-0.0 c.from_residual-in_err-expect.result
    (pair_unequal c.args.file bytes tokens ts c.in_err-expect.field-0.0 more (spelled bytes c.in_ok-token.token) name c.in_err-expect.ensures.told) c.from_residual-in_err-expect.ensures.1

pub returns-in_err-value-clause-told : goal.returns-in_err-value-clause-told
returns-in_err-value-clause-told c =
    let bytes = c.args.bytes.now in
    let tokens = c.args.tokens.now in
    let ts = behind bytes tokens c.args.start in
    let more = behind bytes tokens (c.args.start + 1) in
    let rest = behind bytes tokens (c.args.start + 2) in
    let n : suc c.args.start ≡ c.args.start + 1 = omega arith in
    let m : suc (c.args.start + 1) ≡ c.args.start + 2 = omega arith in
    let name = rw (n) at c.in_ok-token.ensures.told in
    let equal = rw (m) at c.in_ok-expect.ensures.told in
    err_told c.args.file bytes tokens (λ b. found_tree b Pair ts) c.in_err-value.field-0.0 c.from_residual-in_err-value.result
    (pair_ungiven c.args.file bytes tokens ts c.in_err-value.field-0.0 more rest (spelled bytes c.in_ok-token.token) (spelled bytes c.in_ok-expect.field-0) name equal c.in_err-value.ensures.told)
    c.from_residual-in_err-value.ensures.1

pub returns-clause-told : goal.returns-clause-told
unfolding spelled field
returns-clause-told c =
    let bytes = c.args.bytes.now in
    let tokens = c.args.tokens.now in
    let ts = behind bytes tokens c.args.start in
    let more = behind bytes tokens (c.args.start + 1) in
    let rest = behind bytes tokens (c.args.start + 2) in
    let n : suc c.args.start ≡ c.args.start + 1 = omega arith in
    let m : suc (c.args.start + 1) ≡ c.args.start + 2 = omega arith in
    let name = rw (n) at c.in_ok-token.ensures.told in
    let equal = rw (m) at c.in_ok-expect.ensures.told in
    rw (c.in_ok-name.ensures) (pair_read ts more rest (behind bytes tokens c.in_ok-value.next) (spelled bytes c.in_ok-token.token) (spelled bytes c.in_ok-expect.field-0) c.in_ok-value.value name equal c.in_ok-value.ensures.told)
