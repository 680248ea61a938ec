use Rattle.std.proofs.Common.{◌≡◌, ◌+◌, false, drop, arith, sym, ap, ◌∙◌}
use Rattle.sl_token.specs.Spellings.{text_len}
use Rattle.sl_token.proofs.Going.{text_stops, text_goes_on, text_ends}
use Rattle.sl_token.proofs.runs.text_len.Goals as goal

pub returns-then-ends_text-clause-run : goal.returns-then-ends_text-clause-run
returns-then-ends_text-clause-run c =
    let bytes = c.args.bytes.now in
    let at = c.loop-at.at in
    let so_far : text_len false bytes ≡ at + text_len c.loop-at.escaped (drop at bytes) = c.loop-at.invariant in
    let stops = text_stops bytes at c.loop-at.escaped c.loop-at-test.true (sym c.ends_text.ensures ∙ c.if-ends_text.true) in
    omega arith

pub loop-at-preserved : goal.loop-at-preserved
loop-at-preserved c =
    let bytes = c.args.bytes.now in
    let at = c.loop-at.at in
    let so_far : text_len false bytes ≡ at + text_len c.loop-at.escaped (drop at bytes) = c.loop-at.invariant in
    let goes_on = text_goes_on bytes at c.loop-at.escaped c.loop-at-test.true (sym c.ends_text.ensures ∙ c.if-ends_text.false) in
    let next = ap (λ escaped. text_len escaped (drop (at + 1) bytes)) c.escapes-escaped.ensures in
    omega arith

pub returns-clause-run : goal.returns-clause-run
returns-clause-run c =
    let bytes = c.args.bytes.now in
    let at = c.loop-at.at in
    let so_far : text_len false bytes ≡ at + text_len c.loop-at.escaped (drop at bytes) = c.loop-at.invariant in
    let ends = text_ends bytes at c.loop-at.escaped c.loop-at-test.false in
    let within = c.loop-at.auto.at-end in
    omega arith
