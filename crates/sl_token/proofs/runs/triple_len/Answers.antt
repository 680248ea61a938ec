use Rattle.std.proofs.Common.{◌≡◌, ◌≢◌, ◌+◌, drop, slice_index, arith, ap, sym, ◌∙◌}
use Rattle.sl_token.specs.Spellings.{more, triple_len, marks_behind}
use Rattle.sl_token.proofs.Going.{more_more, marks_end, marks_go_on, triple_ends}
use Rattle.sl_token.proofs.runs.triple_len.Goals as goal

pub returns-then-marks-eq3-clause-len : goal.returns-then-marks-eq3-clause-len
returns-then-marks-eq3-clause-len c =
    let bytes = c.args.bytes.now in
    let at = c.loop-at.at in
    let so_far : triple_len 0 bytes ≡ more at (triple_len c.loop-at.marks (drop at bytes)) = c.loop-at.invariant.1 in
    let ends = marks_end bytes at c.loop-at.marks c.loop-at-test.true (sym c.marks_behind-marks.ensures.marks ∙ c.if-marks-eq3.true) in
    sym (so_far ∙ ap (more at) ends)

pub loop-at-preserved : goal.loop-at-preserved
loop-at-preserved c =
    let bytes = c.args.bytes.now in
    let at = c.loop-at.at in
    let so_far : triple_len 0 bytes ≡ more at (triple_len c.loop-at.marks (drop at bytes)) = c.loop-at.invariant.1 in
    let isnt : marks_behind c.loop-at.marks (slice_index bytes at) ≢ 3 = λ is. c.if-marks-eq3.false (c.marks_behind-marks.ensures.marks ∙ is) in
    let goes = marks_go_on bytes at c.loop-at.marks c.loop-at-test.true isnt in
    let next = ap (λ marks. more 1 (triple_len marks (drop (at + 1) bytes))) (sym c.marks_behind-marks.ensures.marks) in
    let most = c.marks_behind-marks.ensures.most in
    let other = c.if-marks-eq3.false in
    (omega arith, so_far ∙ ap (more at) (goes ∙ next) ∙ more_more at _)

pub returns-clause-len : goal.returns-clause-len
returns-clause-len c =
    let bytes = c.args.bytes.now in
    let at = c.loop-at.at in
    let so_far : triple_len 0 bytes ≡ more at (triple_len c.loop-at.marks (drop at bytes)) = c.loop-at.invariant.1 in
    sym (so_far ∙ ap (more at) (triple_ends bytes at c.loop-at.marks c.loop-at-test.false))
