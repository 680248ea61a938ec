use Rattle.std.proofs.Common.{◌≡◌, ◌+◌, drop, length, arith, ap, sym, ◌∙◌, length-drop, drop-drop}
use Rattle.sl_token.specs.Characters.{continue_len}
use Rattle.sl_token.specs.Spellings.{name_len}
use Rattle.sl_token.proofs.Going.{name_stops, name_ends, rest_of_name}
use Rattle.sl_token.proofs.runs.name_len.Goals as goal

pub returns-then-more-eq0-clause-run : goal.returns-then-more-eq0-clause-run
returns-then-more-eq0-clause-run c =
    let bytes = c.args.bytes.now in
    let len = c.loop-len.len in
    let so_far : name_len 0 bytes ≡ len + name_len 0 (drop len bytes) = c.loop-len.invariant.1 in
    let stops = name_stops (drop len bytes) (ap continue_len (sym c.behind.ensures) ∙ sym c.continue_len-more.ensures.len ∙ c.if-more-eq0.true) in
    omega arith

pub overflow_add-len : goal.overflow_add-len
overflow_add-len c =
    let size = ap length c.behind.ensures in
    let within = c.continue_len-more.ensures.within in
    let rest = length-drop c.loop-len.len c.args.bytes.now in
    let some = c.loop-len-test.true in
    grind arith

pub loop-len-preserved : goal.loop-len-preserved
loop-len-preserved c =
    let bytes = c.args.bytes.now in
    let len = c.loop-len.len in
    let so_far : name_len 0 bytes ≡ len + name_len 0 (drop len bytes) = c.loop-len.invariant.1 in
    let size = ap length c.behind.ensures in
    let within = c.continue_len-more.ensures.within in
    let rest = length-drop len bytes in
    let past = c.loop-len-test.true in
    let goes = rest_of_name (drop len bytes) c.continue_len-more.result (c.continue_len-more.ensures.len ∙ ap continue_len c.behind.ensures) c.if-more-eq0.false (omega arith) in
    let behind = ap (name_len 0) (drop-drop c.continue_len-more.result len bytes) in
    (omega arith, omega arith)

pub returns-clause-run : goal.returns-clause-run
returns-clause-run c =
    let bytes = c.args.bytes.now in
    let len = c.loop-len.len in
    let so_far : name_len 0 bytes ≡ len + name_len 0 (drop len bytes) = c.loop-len.invariant.1 in
    let ends = name_ends bytes len c.loop-len-test.false in
    omega arith
