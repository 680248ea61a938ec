use Rattle.std.proofs.Common.{◌≡◌, ◌≢◌, ◌+◌, drop, slice_index, arith, ap, sym, ◌∙◌}
use Rattle.sl_token.specs.Spellings.{more, comment_len, depth_behind, before_behind}
use Rattle.sl_token.proofs.Going.{more_more, comment_ends, comment_goes_on, comment_unended}
use Rattle.sl_token.proofs.runs.comment_len.Goals as goal

pub returns-then-depth-eq0-clause-len : goal.returns-then-depth-eq0-clause-len
returns-then-depth-eq0-clause-len c =
    let bytes = c.args.bytes.now in
    let at = c.loop-at.at in
    let here = c.loop-at in
    let so_far : comment_len 1 0 bytes ≡ more at (comment_len here.depth here.before (drop at bytes)) = here.invariant.2 in
    let ends = comment_ends bytes at here.depth here.before c.loop-at-test.true (sym c.depth_behind-depth.ensures.depth ∙ c.if-depth-eq0.true) in
    sym (so_far ∙ ap (more at) ends)

pub loop-at-preserved : goal.loop-at-preserved
loop-at-preserved c =
    let bytes = c.args.bytes.now in
    let at = c.loop-at.at in
    let here = c.loop-at in
    let so_far : comment_len 1 0 bytes ≡ more at (comment_len here.depth here.before (drop at bytes)) = here.invariant.2 in
    let few = here.invariant.1 in
    let isnt : depth_behind here.depth here.before (slice_index bytes at) ≢ 0 = λ is. c.if-depth-eq0.false (c.depth_behind-depth.ensures.depth ∙ is) in
    let goes = comment_goes_on bytes at here.depth here.before c.loop-at-test.true isnt in
    let depth = ap (λ depth. more 1 (comment_len depth (before_behind here.before (slice_index bytes at)) (drop (at + 1) bytes)))
    (sym c.depth_behind-depth.ensures.depth) in
    let before = ap (λ before. more 1 (comment_len c.depth_behind-depth.result before (drop (at + 1) bytes)))
    (sym c.before_behind-before.ensures) in
    let most = c.depth_behind-depth.ensures.most in
    let some = c.if-depth-eq0.false in
    (omega arith, omega arith, so_far ∙ ap (more at) (goes ∙ depth ∙ before) ∙ more_more at _)

pub returns-clause-len : goal.returns-clause-len
returns-clause-len c =
    let bytes = c.args.bytes.now in
    let at = c.loop-at.at in
    let here = c.loop-at in
    let so_far : comment_len 1 0 bytes ≡ more at (comment_len here.depth here.before (drop at bytes)) = here.invariant.2 in
    sym (so_far ∙ ap (more at) (comment_unended bytes at here.depth here.before c.loop-at-test.false))
