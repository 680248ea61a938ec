-- The numbers of 64 bits that are printed as bytes.
use Rattle.std.proofs.Common.{◌≡◌, ℕ, ◌^◌, ◌-◌, ◌<◌, List, ℤ, pos, negsuc, neg_ℤ, nat_abs, Bool, true, false, cond, ◌&&◌, Option, Some, None, refl, sym, ap, ◌∙◌, subst, arith, bytes_eq, Decides}
use Rattle.std.specs.Prelude.{int_le, ◌≤ℤ◌, Result, Ok, Err, FitsSigned}
use Rattle.std.specs.Int.{w64}
use Rattle.std.specs.Result.{OkIff, result_ok}
use Rattle.std.proofs.lemmas.Result.{Ok-from_Ok_iff, OkIff-at_ok}
use Rattle.std.specs.Fmt.{signed_decimal}
use Rattle.std.specs.Str.Parse.{signed_digits_value}
use Rattle.std.proofs.lemmas.Bool.{and_parts}
use Rattle.std.proofs.lemmas.Bool.Decides.{Decides-and}
use Rattle.std.proofs.lemmas.Int.{ints}
use Rattle.std.proofs.lemmas.Option.{cond_some}
use Rattle.std.proofs.lemmas.Slice.Eq.{bytes_eq-Decides}
use Rattle.sl_num.specs.Decimals.{IsDecimalOf}
use Rattle.sl_num.proofs.Reading.{reads}
use Rattle.sl_plain.specs.Names.{is_number, number_of}

-- the numbers of 64 bits with a sign
abbrev pub IsNumber : ℤ → Type 0
IsNumber number = (neg_ℤ (pos (2 ^ 63)) ≤ℤ number) × (number ≤ℤ pos (2 ^ 63 - 1))

pub Decides-number : (number : ℤ) → Decides (is_number number) (IsNumber number)
Decides-number number =
    let least = at_most (neg_ℤ (pos (2 ^ 63))) number in
    let greatest = at_most number (pos (2 ^ 63 - 1)) in
    Decides-and (int_le (neg_ℤ (pos (2 ^ 63))) number) (int_le number (pos (2 ^ 63 - 1))) least greatest
  where
    at_most : (a b : ℤ) → Decides (int_le a b) (a ≤ℤ b)
    at_most a b = grind (arith, ints)

-- it has less than 38 digits
short : (number : ℤ) → IsNumber number → nat_abs number < 10 ^ 38
short (pos n) is = omega (arith, ints)
short (negsuc n) is = omega (arith, ints)

-- and fits 64 bits
fits_from : (number : ℤ) → IsNumber number → FitsSigned w64 number
fits_from (pos n) is = record { sfits = omega (arith, ints) }
fits_from (negsuc n) is = record { sfits = omega (arith, ints) }

is_from_fits : (number : ℤ) → FitsSigned w64 number → IsNumber number
is_from_fits (pos n) fits = (omega (arith, ints), omega (arith, ints))
is_from_fits (negsuc n) fits = (omega (arith, ints), omega (arith, ints))

-- what is found is printed as these bytes
pub number_found : (bytes : List ℕ) (number : ℤ) → number_of bytes ≡ Some number → IsNumber number × (signed_decimal number ≡ bytes)
unfolding number_of
number_found bytes number found =
    let value = signed_digits_value 10 bytes in
    let parts = cond_some (bytes_eq bytes (signed_decimal value) && is_number value) value number found in
    let both = and_parts (bytes_eq bytes (signed_decimal value)) (is_number value) parts.0 in
    (subst IsNumber parts.1 ((Decides-number value).0 both.1), sym ((bytes_eq-Decides bytes (signed_decimal value)).0 both.0 ∙ ap signed_decimal parts.1))

-- what is read of bytes that a number is printed as
pub number_read : (bytes : List ℕ) (number : ℤ) → IsDecimalOf bytes number → number_of bytes ≡ cond (is_number number) (Some number) None
unfolding number_of
number_read bytes number is =
    let value = (reads bytes number is).value in
    ap (λ n. cond (bytes_eq bytes (signed_decimal n) && is_number n) (Some n) None) value
    ∙ ap (λ t. cond (t && is_number number) (Some number) None) ((bytes_eq-Decides bytes (signed_decimal number)).1 is.spelled)

-- a number is read of the bytes that it is printed as
pub number_there : (number : ℤ) → IsNumber number → number_of (signed_decimal number) ≡ Some number
number_there number is =
    number_read (signed_decimal number) number (record { spelled = refl; short = short number is })
    ∙ ap (λ t. cond t (Some number) None) ((Decides-number number).1 is)

-- none is read of bytes that no number is printed as
pub number_none : (bytes : List ℕ) → ((number : ℤ) → ¬ IsDecimalOf bytes number) → number_of bytes ≡ None
number_none bytes none = at (number_of bytes) refl
  where
    at : (found : Option ℤ) → number_of bytes ≡ found → number_of bytes ≡ None
    at None e = e
    at (Some number) e =
        let parts = number_found bytes number e in absurd (none number (record { spelled = sym parts.1; short = short number parts.0 }))

-- a number becomes one of 64 bits where a test says that it is one
answered : {E : Type 0} (answer : Result ℤ E) (number : ℤ) (passed : Bool) → is_number number ≡ passed → OkIff answer (FitsSigned w64 number) number → result_ok answer ≡ cond passed (Some number) None
answered answer number true e iff = ap result_ok (Ok-from_Ok_iff answer (FitsSigned w64 number) number iff (fits_from number ((Decides-number number).0 e)))
answered (Err d) number false e iff = refl
answered {E} (Ok n) number false e iff =
    let fits = (OkIff-at_ok {E = E} (Ok n) (FitsSigned w64 number) number n iff refl).0 in
    let yes : is_number number ≡ true = (Decides-number number).1 (is_from_fits number fits) in cc

-- a number that was read becomes one of 64 bits where it is one
pub converted : {E : Type 0} (answer : Result ℤ E) (number stored : ℤ) → stored ≡ number → OkIff answer (FitsSigned w64 stored) stored → result_ok answer ≡ cond (is_number number) (Some number) None
converted answer number stored same is =
    answered answer number (is_number number) refl (subst (λ n. OkIff answer (FitsSigned w64 n) n) same is)
