use Rattle.std.proofs.Common.{◌≡◌, ◌≤◌, ℕ, List, ◌+◌, length, append-nil, arith, sym, subst, refl}
use Rattle.sl_text.specs.declared.token.Token.{Token}
use Rattle.sl_token.specs.declared.piece.Piece.{Piece}
use Rattle.sl_token.specs.declared.piece.Piece.TheVariants as piece
use Rattle.sl_token.specs.Cut.{IsCut, tokens_of, TellsFirst, IsFirstBroken, broken_at}
use Rattle.sl_token.specs.Layouts.{IsLayoutOf}
use Rattle.sl_token.proofs.Cuts.{reached_more}
use Rattle.sl_token.proofs.Broken.{cut_keeps, utf8_first, fault_first}
use Rattle.sl_token.proofs.cutting.tokens.Goals as goal

-- a broken rule that is told is the first
tells : (file : ℕ) (text : List ℕ) (number place : ℕ) → IsFirstBroken text number place → TellsFirst file text (broken_at file number place)
tells file text number place first = record { phase = refl; first = first; span = refl }

-- a cut that comes to the end
at_end : (text : List ℕ) (pieces : List Piece) (at : ℕ) → at ≤ length text → length text ≤ at → IsCut text 0 pieces at → IsCut text 0 pieces (length text)
at_end text pieces at within past cut = let same : at ≡ length text = omega arith in subst (IsCut text 0 pieces) same cut

pub loop-at-preserved-in-Blank : goal.loop-at-preserved-in-Blank
loop-at-preserved-in-Blank c =
    let bytes = c.args.bytes.now in
    let here = c.in-Blank.ensures in
    let Holds = λ (tokens : List Token). IsLayoutOf bytes tokens c.loop-at.layout in (
      here.within.1,
      reached_more bytes c.args.file c.loop-at.at Holds Holds (piece.Blank c.in-Blank.len) here.stands here.longest
          (λ tokens holds. subst Holds (sym (append-nil tokens)) holds)
          c.loop-at.invariant.1,
    )

pub loop-at-preserved : goal.loop-at-preserved
loop-at-preserved c =
    let bytes = c.args.bytes.now in
    let here = c.in-Token.ensures in (
      here.within.1,
      reached_more bytes c.args.file c.loop-at.at (λ tokens. IsLayoutOf bytes tokens c.loop-at.layout) (λ tokens. IsLayoutOf bytes tokens c.push.new.self)
          (piece.Token c.in-Token.kind c.in-Token.len) here.stands here.longest
          (λ tokens holds. c.in_ok-push-in-Token.ensures bytes tokens holds)
          c.loop-at.invariant.1,
    )

pub returns-in-Fault-clause-err : goal.returns-in-Fault-clause-err
returns-in-Fault-clause-err c =
    let bytes = c.args.bytes.now in
    let (pieces, cut, layout) = c.loop-at.invariant.1 in
    let fault = c.in-Fault in
    let place = c.loop-at.at + fault.further in
    let told = c.first_of-number.result in
    let first = fault_first bytes pieces c.loop-at.at fault.number fault.further c.utf8_stop-stop.result c.in-None.ensures.none cut fault.ensures.stands c.utf8_stop-stop.ensures in
    subst (TellsFirst c.args.file bytes) (sym c.broken-in-Fault.ensures)
    (tells c.args.file bytes told.0 told.1 (subst (λ (rule : ℕ × ℕ). IsFirstBroken bytes rule.0 rule.1) (sym c.first_of-number.ensures.first) first))

pub returns-in-Some-stop-clause-err : goal.returns-in-Some-stop-clause-err
returns-in-Some-stop-clause-err c =
    let bytes = c.args.bytes.now in
    let (pieces, cut, layout) = c.loop-at.invariant.1 in
    let whole = at_end bytes pieces c.loop-at.at c.loop-at.invariant.0 c.loop-at-test.false cut in
    subst (TellsFirst c.args.file bytes) (sym c.broken-in-Some-stop.ensures)
    (tells c.args.file bytes 2 c.in-Some-stop.place (utf8_first bytes pieces c.in-Some-stop.place c.in-None.ensures.none whole c.in-Some-stop.ensures))

pub returns-in-None-stop-clause-ok : goal.returns-in-None-stop-clause-ok
returns-in-None-stop-clause-ok c =
    let bytes = c.args.bytes.now in
    let (pieces, cut, layout) = c.loop-at.invariant.1 in
    let whole = at_end bytes pieces c.loop-at.at c.loop-at.invariant.0 c.loop-at-test.false cut in
    record {
      keeps = cut_keeps bytes pieces c.in-None.ensures.none c.in-None-stop.ensures whole;
      cut = (pieces, whole, c.into_tokens.ensures bytes (tokens_of c.args.file 0 pieces) layout);
    }
