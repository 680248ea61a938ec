use Rattle.std.proofs.Common.{◌<◌, ◌∷◌, ◌++◌, [], length, arith, ap, ◌∙◌, sym, eq-eqb, ne_eqb}
use Rattle.std.proofs.lemmas.List.{take_all}
use Rattle.sl_text.specs.Places.{feeds_from}
use Rattle.sl_text.proofs.Places.{feeds_more_yes, feeds_more_no}
use Rattle.sl_parse.proofs.file.feeds.Goals as goal
use Rattle.sl_parse.proofs.file.feeds.Goals.{then-byte-eq10+in_ok-push, else-byte-eq10}

pub loop-place-preserved : goal.loop-place-preserved
loop-place-preserved c =
    let inside : c.loop-place.place < length c.args.bytes.now = omega arith in
    elim c.if-byte-eq10.branch [
      | then-byte-eq10+in_ok-push w ↦
          w.feeds-is ∙ w.in_ok-push.ensures.ok ∙ ap (λ feeds. feeds ++ c.loop-place.place ∷ []) c.loop-place.invariant ∙ sym (feeds_more_yes c.args.bytes.now c.loop-place.place inside (eq-eqb _ _ w.if-byte-eq10.true))
      | else-byte-eq10 w ↦
          w.feeds-is ∙ c.loop-place.invariant ∙ sym (feeds_more_no c.args.bytes.now c.loop-place.place inside (ne_eqb _ _ w.if-byte-eq10.false))
    ]

pub returns : goal.returns
returns c = c.loop-place.invariant ∙ ap (feeds_from 0) (take_all c.loop-place.place c.args.bytes.now (omega arith))
