use Rattle.std.proofs.Common.{refl, arith}
use Rattle.sl_parse.proofs.LibraryRead.{word, org, sireum, point, all, stopped_at, read_all_six, stop_one, stop_two, stop_three, stop_four, stop_five, stop_six}
use Rattle.sl_parse.proofs.library.library.Goals as goal

pub returns-in_err-expect_sort-clause-told : goal.returns-in_err-expect_sort-clause-told
returns-in_err-expect_sort-clause-told c =
    let file = c.args.file in
    let bytes = c.args.bytes.now in
    let tokens = c.args.tokens.now in
    let start = c.args.start in
    stopped_at file bytes tokens start 0 word c.in_err-expect_sort.field-0.0 c.from_residual.result c.requires.in_bounds c.in_err-expect_sort.ensures.told c.from_residual.ensures.1
    (stop_one file bytes tokens start)

pub returns-in_err-expect_named-clause-told : goal.returns-in_err-expect_named-clause-told
returns-in_err-expect_named-clause-told c =
    let file = c.args.file in
    let bytes = c.args.bytes.now in
    let tokens = c.args.tokens.now in
    let start = c.args.start in
    stopped_at file bytes tokens start 1 org c.in_err-expect_named.field-0.0 c.from_residual-in_err-expect_named.result (omega (arith, c.in_ok-expect_sort.ensures.lies)) c.in_err-expect_named.ensures.told c.from_residual-in_err-expect_named.ensures.1
    (stop_two file bytes tokens start c.in_ok-expect_sort.ensures.told)

pub returns-in_err-expect_sort-2-clause-told : goal.returns-in_err-expect_sort-2-clause-told
returns-in_err-expect_sort-2-clause-told c =
    let file = c.args.file in
    let bytes = c.args.bytes.now in
    let tokens = c.args.tokens.now in
    let start = c.args.start in
    stopped_at file bytes tokens start 2 point c.in_err-expect_sort-2.field-0.0 c.from_residual-in_err-expect_sort-2.result (omega (arith, c.in_ok-expect_named.ensures.lies)) c.in_err-expect_sort-2.ensures.told c.from_residual-in_err-expect_sort-2.ensures.1
    (stop_three file bytes tokens start c.in_ok-expect_sort.ensures.told c.in_ok-expect_named.ensures.told)

pub returns-in_err-expect_named-2-clause-told : goal.returns-in_err-expect_named-2-clause-told
returns-in_err-expect_named-2-clause-told c =
    let file = c.args.file in
    let bytes = c.args.bytes.now in
    let tokens = c.args.tokens.now in
    let start = c.args.start in
    stopped_at file bytes tokens start 3 sireum c.in_err-expect_named-2.field-0.0 c.from_residual-in_err-expect_named-2.result (omega (arith, c.in_ok-expect_sort-2.ensures.lies)) c.in_err-expect_named-2.ensures.told c.from_residual-in_err-expect_named-2.ensures.1
    (stop_four file bytes tokens start c.in_ok-expect_sort.ensures.told c.in_ok-expect_named.ensures.told c.in_ok-expect_sort-2.ensures.told)

pub returns-in_err-expect_sort-3-clause-told : goal.returns-in_err-expect_sort-3-clause-told
returns-in_err-expect_sort-3-clause-told c =
    let file = c.args.file in
    let bytes = c.args.bytes.now in
    let tokens = c.args.tokens.now in
    let start = c.args.start in
    stopped_at file bytes tokens start 4 point c.in_err-expect_sort-3.field-0.0 c.from_residual-in_err-expect_sort-3.result (omega (arith, c.in_ok-expect_named-2.ensures.lies)) c.in_err-expect_sort-3.ensures.told c.from_residual-in_err-expect_sort-3.ensures.1
    (stop_five file bytes tokens start c.in_ok-expect_sort.ensures.told c.in_ok-expect_named.ensures.told c.in_ok-expect_sort-2.ensures.told c.in_ok-expect_named-2.ensures.told)

pub returns-in_err-expect_sort-4-clause-told : goal.returns-in_err-expect_sort-4-clause-told
returns-in_err-expect_sort-4-clause-told c =
    let file = c.args.file in
    let bytes = c.args.bytes.now in
    let tokens = c.args.tokens.now in
    let start = c.args.start in
    stopped_at file bytes tokens start 5 all c.in_err-expect_sort-4.field-0.0 c.from_residual-in_err-expect_sort-4.result (omega (arith, c.in_ok-expect_sort-3.ensures.lies)) c.in_err-expect_sort-4.ensures.told c.from_residual-in_err-expect_sort-4.ensures.1
    (stop_six file bytes tokens start c.in_ok-expect_sort.ensures.told c.in_ok-expect_named.ensures.told c.in_ok-expect_sort-2.ensures.told c.in_ok-expect_named-2.ensures.told c.in_ok-expect_sort-3.ensures.told)

pub returns-clause-told : goal.returns-clause-told
returns-clause-told c =
    read_all_six c.args.file c.args.bytes.now c.args.tokens.now c.args.start c.in_ok-expect_sort.ensures.told c.in_ok-expect_named.ensures.told c.in_ok-expect_sort-2.ensures.told c.in_ok-expect_named-2.ensures.told c.in_ok-expect_sort-3.ensures.told c.in_ok-expect_sort-4.ensures.told _ refl
