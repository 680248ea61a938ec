use Rattle.std.proofs.Common.{◌≡◌, ◌≤◌, length, ◌+◌, ◌-◌, arith, refl, ap, ◌∙◌, get_or}
use Rattle.sl_text.specs.Places.{feeds_from}
use Rattle.sl_text.proofs.Places.{before_is, line_is, column_is, start_at}
use Rattle.sl_text.proofs.lines.Lines.at.Goals as goal
use Rattle.sl_text.proofs.lines.Lines.at.Goals.{then-before-eq0, else-before-eq0}

pub returns-clause-line : goal.returns-clause-line
returns-clause-line c bytes is =
    let feeds : c.as_slice-feeds.result.now ≡ feeds_from 0 bytes = c.as_slice-feeds.ensures ∙ ap (λ lines. lines.feeds) (c.self.view_is ∙ is) in
    let found = rw feeds at c.count_below-before.ensures in
    line_is bytes c.args.place c.count_below-before.result (before_is bytes c.args.place c.count_below-before.result found.bound found.below found.above)

pub returns-clause-column : goal.returns-clause-column
returns-clause-column c bytes is =
    let feeds : c.as_slice-feeds.result.now ≡ feeds_from 0 bytes = c.as_slice-feeds.ensures ∙ ap (λ lines. lines.feeds) (c.self.view_is ∙ is) in
    let found = rw feeds at c.count_below-before.ensures in
    let before = before_is bytes c.args.place c.count_below-before.result found.bound found.below found.above in
    let ends : c.args.self.now.end ≡ length bytes = ap (λ lines. lines.end) is in
    let inside : c.args.place ≤ length bytes = omega arith in
    column_is bytes c.args.place c.count_below-before.result c.if-before-eq0.start inside before
    (elim c.if-before-eq0.branch [
      | then-before-eq0 w ↦ rw (w.start-is, w.if-before-eq0.true) refl
      | else-before-eq0 w ↦ w.start-is ∙ ap (λ places. get_or places (c.count_below-before.result - 1) 0 + 1) feeds ∙ start_at (feeds_from 0 bytes) c.count_below-before.result w.if-before-eq0.false
    ])
