-- The numbers of turns that digits write.
use Rattle.std.proofs.Common.{◌≡◌, ℕ, ◌≤◌, List, cond, ◌&&◌, nat_le, Option, Some, None, ℤ, pos, negsuc, nat_abs, ◌≤ℤ◌, refl, sym, ap, ◌∙◌, subst, arith}
use Rattle.std.specs.Fmt.{decimal}
use Rattle.std.specs.Str.{bytes_eq}
use Rattle.std.specs.Str.Parse.{digits_value}
use Rattle.std.proofs.lemmas.Bool.{le-leb, leb-true, and_from, and_parts}
use Rattle.std.proofs.lemmas.Fmt.{decimal_is_IsNumeral_wide}
use Rattle.std.proofs.lemmas.Int.{ints}
use Rattle.std.proofs.lemmas.Option.{cond_some}
use Rattle.std.proofs.lemmas.Slice.Eq.{bytes_eq-Decides}
use Rattle.sl_num.specs.Decimals.{IsDecimalOf}
use Rattle.sl_num.proofs.Reading.{same_number}
use Rattle.sl_words.specs.Words.{most_turns, WritesTurns}
use Rattle.sl_words.specs.WordsReading.{turns_of}

-- what is found is what the digits write
pub turns_found : (digits : List ℕ) (turns : ℕ) → turns_of digits ≡ Some turns → WritesTurns digits turns
unfolding turns_of
turns_found digits turns found =
    let value = digits_value 10 digits in
    let parts = cond_some (bytes_eq digits (decimal value) && nat_le value most_turns) value turns found in
    let both = and_parts (bytes_eq digits (decimal value)) (nat_le value most_turns) parts.0 in
    ((bytes_eq-Decides digits (decimal value)).0 both.0 ∙ ap decimal parts.1, subst (λ n. n ≤ most_turns) parts.1 (leb-true value most_turns both.1))

-- and what they write is found
pub turns_there : (digits : List ℕ) (turns : ℕ) → WritesTurns digits turns → turns_of digits ≡ Some turns
unfolding turns_of
turns_there digits turns (is, few) =
    let value : digits_value 10 digits ≡ turns = ap (digits_value 10) is ∙ (decimal_is_IsNumeral_wide turns (omega arith)).1 in
    ap (λ n. cond (bytes_eq digits (decimal n) && nat_le n most_turns) (Some n) None) value
    ∙ ap (λ t. cond t (Some turns) None)
    (and_from (bytes_eq digits (decimal turns)) (nat_le turns most_turns) ((bytes_eq-Decides digits (decimal turns)).1 is) (le-leb turns most_turns few))

-- nothing is found of digits that write no number of turns
pub no_turns : (digits : List ℕ) → ((turns : ℕ) → ¬ WritesTurns digits turns) → turns_of digits ≡ None
no_turns digits none = at (turns_of digits) refl
  where
    at : (found : Option ℕ) → turns_of digits ≡ found → turns_of digits ≡ None
    at None e = e
    at (Some turns) e = absurd (none turns (turns_found digits turns e))

-- what they write is a number in decimal
pub turns_decimal : (digits : List ℕ) (turns : ℕ) → WritesTurns digits turns → IsDecimalOf digits (pos turns)
turns_decimal digits turns (is, few) = record { spelled = is; short = omega arith }

-- The numbers of 128 bits that the code reads -------------------------------------------------------------------------

-- a number that isn't negative is found as turns where it is no greater than the most
pub turns_taken : (digits : List ℕ) (number : ℤ) (turns : ℕ) → IsDecimalOf digits number → pos 0 ≤ℤ number → turns ≡ nat_abs number → turns ≤ most_turns
    → turns_of digits ≡ Some turns
turns_taken digits (pos n) turns is least same few = turns_there digits turns (is.spelled ∙ ap decimal (sym same), few)
turns_taken digits (negsuc n) turns is least same few = absurd (omega (arith, ints))

-- nothing is found where the number is none of turns
pub turns_refused : (digits : List ℕ) (number : ℤ) → IsDecimalOf digits number → ((turns : ℕ) → number ≡ pos turns → turns ≤ most_turns → ⊥)
    → turns_of digits ≡ None
turns_refused digits number is refused =
    no_turns digits (λ turns writes. refused turns (same_number digits number (pos turns) is (turns_decimal digits turns writes)) writes.1)

-- nor where it is no number at all
pub turns_unread : (digits : List ℕ) → ((number : ℤ) → ¬ IsDecimalOf digits number) → turns_of digits ≡ None
turns_unread digits none = no_turns digits (λ turns writes. none (pos turns) (turns_decimal digits turns writes))
