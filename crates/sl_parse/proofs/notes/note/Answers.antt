use Rattle.std.proofs.Common.{◌≡◌, ◌+◌, suc, arith}
use Rattle.sl_tree.specs.Sorts.{spelled, left_parenthesis}
use Rattle.sl_parse.specs.Names.{Note_of}
use Rattle.sl_parse_expr.specs.Told.{behind}
use Rattle.sl_parse_expr.proofs.Telling.{comes, comes_not}
use Rattle.sl_parse.specs.Told.{found_tree}
use Rattle.sl_parse.proofs.Telling.{err_told}
use Rattle.sl_parse.proofs.NotesRead.{note_bare, note_paired, note_unmarked, note_unnamed, note_unpaired}
use Rattle.sl_parse.proofs.notes.note.Goals as goal

pub returns-in_err-expect-clause-told : goal.returns-in_err-expect-clause-told
returns-in_err-expect-clause-told c =
    let bytes = c.args.bytes.now in
    let tokens = c.args.tokens.now in
    let ts = behind bytes tokens c.args.start in
    err_told c.args.file bytes tokens (λ b. found_tree b Note_of ts) c.in_err-expect.field-0.0 c.from_residual.result
    (note_unmarked c.args.file bytes tokens ts c.in_err-expect.field-0.0 c.in_err-expect.ensures.told) c.from_residual.ensures.1

pub returns-in_err-token-clause-told : goal.returns-in_err-token-clause-told
returns-in_err-token-clause-told c =
    let bytes = c.args.bytes.now in
    let tokens = c.args.tokens.now in
    let ts = behind bytes tokens c.args.start in
    let more = behind bytes tokens (c.args.start + 1) in
    let n : suc c.args.start ≡ c.args.start + 1 = omega arith in
    let sign = rw (n) at c.in_ok-expect.ensures.told in
    err_told c.args.file bytes tokens (λ b. found_tree b Note_of ts) c.in_err-token.field-0.0 c.from_residual-in_err-token.result
    (note_unnamed c.args.file bytes tokens ts c.in_err-token.field-0.0 more (spelled bytes c.in_ok-expect.field-0) sign c.in_err-token.ensures.told) c.from_residual-in_err-token.ensures.1

pub returns-then-peek-ne-LEFT_PARENTHESIS-clause-told : goal.returns-then-peek-ne-LEFT_PARENTHESIS-clause-told
unfolding spelled
returns-then-peek-ne-LEFT_PARENTHESIS-clause-told c =
    let bytes = c.args.bytes.now in
    let tokens = c.args.tokens.now in
    let ts = behind bytes tokens c.args.start in
    let more = behind bytes tokens (c.args.start + 1) in
    let rest = behind bytes tokens (c.args.start + 2) in
    let n : suc c.args.start ≡ c.args.start + 1 = omega arith in
    let m : suc (c.args.start + 1) ≡ c.args.start + 2 = omega arith in
    let sign = rw (n) at c.in_ok-expect.ensures.told in
    let name = rw (m) at c.in_ok-token.ensures.told in
    let none = comes_not left_parenthesis c.peek.result rest c.peek.ensures.sort c.if-peek-ne-LEFT_PARENTHESIS.true in
    rw (c.in_ok-name.ensures, c.new-pairs.ensures)
    (note_bare ts more rest (spelled bytes c.in_ok-expect.field-0) (spelled bytes c.in_ok-token.token) c.span_between-span.result sign name none (c.span_between-span.ensures bytes))

pub returns-in_err-pairs-clause-told : goal.returns-in_err-pairs-clause-told
returns-in_err-pairs-clause-told c =
    let bytes = c.args.bytes.now in
    let tokens = c.args.tokens.now in
    let ts = behind bytes tokens c.args.start in
    let more = behind bytes tokens (c.args.start + 1) in
    let rest = behind bytes tokens (c.args.start + 2) in
    let n : suc c.args.start ≡ c.args.start + 1 = omega arith in
    let m : suc (c.args.start + 1) ≡ c.args.start + 2 = omega arith in
    let sign = rw (n) at c.in_ok-expect.ensures.told in
    let name = rw (m) at c.in_ok-token.ensures.told in
    let some = comes left_parenthesis c.peek.result rest c.peek.ensures.sort c.if-peek-ne-LEFT_PARENTHESIS.false in
    err_told c.args.file bytes tokens (λ b. found_tree b Note_of ts) c.in_err-pairs.field-0.0 c.from_residual-in_err-pairs.result
    (note_unpaired c.args.file bytes tokens ts c.in_err-pairs.field-0.0 more rest (spelled bytes c.in_ok-expect.field-0) (spelled bytes c.in_ok-token.token) sign name some c.in_err-pairs.ensures.told)
    c.from_residual-in_err-pairs.ensures.1

pub returns-clause-told : goal.returns-clause-told
unfolding spelled
returns-clause-told c =
    let bytes = c.args.bytes.now in
    let tokens = c.args.tokens.now in
    let ts = behind bytes tokens c.args.start in
    let more = behind bytes tokens (c.args.start + 1) in
    let rest = behind bytes tokens (c.args.start + 2) in
    let left = behind bytes tokens c.in_ok-pairs.next in
    let n : suc c.args.start ≡ c.args.start + 1 = omega arith in
    let m : suc (c.args.start + 1) ≡ c.args.start + 2 = omega arith in
    let sign = rw (n) at c.in_ok-expect.ensures.told in
    let name = rw (m) at c.in_ok-token.ensures.told in
    let some = comes left_parenthesis c.peek.result rest c.peek.ensures.sort c.if-peek-ne-LEFT_PARENTHESIS.false in
    rw (c.in_ok-name.ensures)
    (note_paired ts more rest (spelled bytes c.in_ok-expect.field-0) (spelled bytes c.in_ok-token.token) c.span_between-span-2.result c.in_ok-pairs.pairs left sign name some c.in_ok-pairs.ensures.told (c.span_between-span-2.ensures bytes))
