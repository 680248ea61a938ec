-- The number that `read_decimal` gives is the turns, where it is 0 to the most of them.
use Rattle.std.proofs.Common.{◌≡◌, ℕ, ◌≤◌, pos, nat_abs, refl, sym, ap, subst, ◌∙◌, arith}
use Rattle.std.specs.Prelude.{◌≤ℤ◌}
use Rattle.std.specs.Int.{w64, FitsUnsigned}
use Rattle.std.proofs.lemmas.Int.{ints}
use Rattle.sl_num.specs.Decimals.{IsDecimalOf}
use Rattle.sl_num.proofs.Reading.{stored}
use Rattle.sl_words.specs.Words.{most_turns}
use Rattle.sl_words.specs.WordsReading.{turns_of}
use Rattle.sl_words.proofs.Turns.{turns_taken, turns_refused, turns_unread}
use Rattle.sl_words.proofs.command.turns_of.Goals as goal

pub returns-in_err-turns : goal.returns-in_err-turns
returns-in_err-turns c =
    c.from_residual.ensures ∙ sym (turns_unread c.as_bytes.result.now c.in_err-turns.ensures) ∙ ap turns_of c.as_bytes.ensures.value

pub returns-in-Ok : goal.returns-in-Ok
returns-in-Ok c =
    let number = c.in_ok-turns.turns in
    let is : IsDecimalOf c.args.digits.now number = subst (λ digits. IsDecimalOf digits number) c.as_bytes.ensures.value c.in_ok-turns.ensures in
    let same = stored c.args.digits.now number number is refl in
    sym (turns_taken c.args.digits.now number c.in-Ok.turns is (subst (λ n. pos 0 ≤ℤ n) same c.in-Ok.ensures.0.0) (c.in-Ok.ensures.1 ∙ ap nat_abs same) (omega arith))

-- too many turns are no turns
pub returns-in_default : goal.returns-in_default
returns-in_default c =
    let number = c.in_ok-turns.turns in
    let is : IsDecimalOf c.args.digits.now number = subst (λ digits. IsDecimalOf digits number) c.as_bytes.ensures.value c.in_ok-turns.ensures in
    let same = stored c.args.digits.now number number is refl in
    sym
    (turns_refused c.args.digits.now number is (λ turns e few. let found : c.in-Ok.turns ≡ turns = c.in-Ok.ensures.1 ∙ ap nat_abs (same ∙ e) in omega arith))

-- a number of turns would have fitted 64 bits
pub returns-in_default-2 : goal.returns-in_default-2
returns-in_default-2 c =
    let number = c.in_ok-turns.turns in
    let is : IsDecimalOf c.args.digits.now number = subst (λ digits. IsDecimalOf digits number) c.as_bytes.ensures.value c.in_ok-turns.ensures in
    let same = stored c.args.digits.now number number is refl in
    sym
    (turns_refused c.args.digits.now number is (λ turns e few. c.in_default.ensures (subst (FitsUnsigned w64) (sym (same ∙ e)) (fits turns few))))
  where
    fits : (turns : ℕ) → turns ≤ most_turns → FitsUnsigned w64 (pos turns)
    fits turns few = (omega (arith, ints), omega (arith, ints))
