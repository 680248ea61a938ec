use Rattle.std.proofs.Common.{◌≡◌, ◌+◌, drop, arith, ap, sym, ◌∙◌}
use Rattle.sl_token.specs.Spellings.{operator_len, goes_on}
use Rattle.sl_token.proofs.Going.{operator_stops, operator_goes_on, operator_ends}
use Rattle.sl_token.proofs.runs.operator_len.Goals as goal

pub returns-then-not-goes_on-clause-run : goal.returns-then-not-goes_on-clause-run
returns-then-not-goes_on-clause-run c =
    let bytes = c.args.bytes.now in
    let at = c.loop-at.at in
    let so_far : operator_len bytes ≡ at + operator_len (drop at bytes) = c.loop-at.invariant in
    let stops = operator_stops bytes at c.loop-at-test.true (ap goes_on (sym c.behind.ensures) ∙ sym c.goes_on.ensures ∙ c.if-not-goes_on.true) in
    omega arith

pub loop-at-preserved : goal.loop-at-preserved
loop-at-preserved c =
    let bytes = c.args.bytes.now in
    let at = c.loop-at.at in
    let so_far : operator_len bytes ≡ at + operator_len (drop at bytes) = c.loop-at.invariant in
    let goes = operator_goes_on bytes at c.loop-at-test.true (ap goes_on (sym c.behind.ensures) ∙ sym c.goes_on.ensures ∙ c.if-not-goes_on.false) in
    omega arith

pub returns-clause-run : goal.returns-clause-run
returns-clause-run c =
    let bytes = c.args.bytes.now in
    let at = c.loop-at.at in
    let so_far : operator_len bytes ≡ at + operator_len (drop at bytes) = c.loop-at.invariant in
    let ends = operator_ends bytes at c.loop-at-test.false in
    let within = c.loop-at.auto.at-end in
    omega arith
