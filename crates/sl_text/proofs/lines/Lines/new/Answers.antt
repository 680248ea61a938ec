use Rattle.std.proofs.Common.{◌≡◌, ◌<◌, ◌∷◌, ◌++◌, [], length, arith, ap, ◌∙◌, sym, eq-eqb, ne_eqb}
use Rattle.std.proofs.lemmas.List.{take_all}
use Rattle.sl_text.specs.Places.{feeds_from}
use Rattle.sl_text.proofs.Places.{feeds_more_yes, feeds_more_no, IsNonDecreasing-feeds, length-feeds-le}
use Rattle.sl_text.proofs.lines.Lines.new.Goals as goal
use Rattle.sl_text.proofs.lines.Lines.new.Goals.{then-byte-eq-LINE_FEED+in_ok-push, else-byte-eq-LINE_FEED}

pub loop-place-preserved : goal.loop-place-preserved
loop-place-preserved c =
    let inside : c.loop-place.place < length c.args.bytes.now = omega arith in
    elim c.if-byte-eq-LINE_FEED.branch [
      | then-byte-eq-LINE_FEED+in_ok-push w ↦
          w.feeds-is ∙ w.in_ok-push.ensures.ok ∙ ap (λ feeds. feeds ++ c.loop-place.place ∷ []) c.loop-place.invariant ∙ sym (feeds_more_yes c.args.bytes.now c.loop-place.place inside (eq-eqb _ _ w.if-byte-eq-LINE_FEED.true))
      | else-byte-eq-LINE_FEED w ↦
          w.feeds-is ∙ c.loop-place.invariant ∙ sym (feeds_more_no c.args.bytes.now c.loop-place.place inside (ne_eqb _ _ w.if-byte-eq-LINE_FEED.false))
    ]

pub invariant_of-result : goal.invariant_of-result
invariant_of-result c =
    let bytes = c.args.bytes.now in
    let whole : c.loop-place.feeds ≡ feeds_from 0 bytes =
    c.loop-place.invariant ∙ ap (feeds_from 0) (take_all c.loop-place.place bytes (omega arith)) in
    (c.requires, rw whole (length-feeds-le 0 bytes), rw whole (IsNonDecreasing-feeds bytes))
