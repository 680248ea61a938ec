-- What is read of bytes that write a number in decimal.
use Rattle.std.proofs.Common.{◌≡◌, ℕ, suc, ◌^◌, ◌<◌, ◌≤◌, false, List, [], ◌∷◌, length, ℤ, pos, negsuc, nat_abs, to_z, of_z, to_z-of_z, sym, ap, subst, ◌∙◌, arith}
use Rattle.std.specs.Prelude.{Result, Ok, Option, Some, None, MatchOption, FitsSigned}
use Rattle.std.specs.Int.{w128}
use Rattle.std.specs.Fmt.{decimal, signed_decimal}
use Rattle.std.specs.Str.{IsAscii, IsUtf8}
use Rattle.std.specs.Str.Parse.{IsNumeral, ParsesSigned, signed_digits_value, starts_with_minus, without_leading_plus, without_leading_sign}
use Rattle.std.proofs.lemmas.Bool.Decides.{nat_tests}
use Rattle.std.proofs.lemmas.Fmt.{decimal_is_IsNumeral_wide, length-decimal-le_wide, IsAscii-decimal_wide}
use Rattle.std.proofs.lemmas.Result.{Ok-from_Ok_iff}
use Rattle.std.proofs.lemmas.Str.Parse.{digit_from_value}
use Rattle.std.proofs.lemmas.Str.{IsUtf8-from_ascii}
use Rattle.std.proofs.lemmas.Str.Ascii.{IsAscii-cons}
use Rattle.sl_num.specs.Decimals.{IsDecimalOf}

-- digits have no sign in front of them
unsigned : (ds : List ℕ) → IsNumeral 10 ds → (starts_with_minus ds ≡ false) × (without_leading_plus ds ≡ ds)
unsigned [] h = absurd (omega (arith, h.0))
unsigned (c ∷ cs) h = let d = digit_from_value c h.1.0 in (grind (arith, nat_tests), grind (arith, nat_tests))

-- the digits behind the sign are a numeral, and the number that they give is this one
pub record Reads (bytes : List ℕ) (n : ℤ) : Type 0 where
  pub digits : IsNumeral 10 (without_leading_sign bytes)
  pub value : signed_digits_value 10 bytes ≡ n

reads_signed : (n : ℤ) → nat_abs n < 10 ^ 38 → Reads (signed_decimal n) n
reads_signed (pos n) short =
    let d = decimal_is_IsNumeral_wide n (omega arith) in
    let plain = unsigned (decimal n) d.0 in
    record { digits = rw (plain.0, plain.1) d.0; value = rw (plain.0, plain.1, d.1) }
reads_signed (negsuc n) short =
    let d = decimal_is_IsNumeral_wide (suc n) (omega arith) in record { digits = d.0; value = rw d.1 }

pub reads : (bytes : List ℕ) (n : ℤ) → IsDecimalOf bytes n → Reads bytes n
reads bytes n d = subst (λ (b : List ℕ). Reads b n) (sym d.spelled) (reads_signed n d.short)

-- at most one number has given bytes
pub same_number : (bytes : List ℕ) (m n : ℤ) → IsDecimalOf bytes m → IsDecimalOf bytes n → m ≡ n
same_number bytes m n p q = sym (reads bytes m p).value ∙ (reads bytes n q).value

fits : (n : ℤ) → nat_abs n < 10 ^ 38 → FitsSigned w128 n
fits (pos n) short = record { sfits = omega arith }
fits (negsuc n) short = record { sfits = omega arith }

-- std's parse reads the number
pub parsed : {E : Type 0} (bytes text : List ℕ) (n : ℤ) (r : Result ℤ E)
    → IsDecimalOf bytes n → text ≡ bytes → ParsesSigned w128 10 text r → r ≡ Ok n
parsed bytes text n r d same h =
    let read = reads text n (record { spelled = same ∙ d.spelled; short = d.short }) in
    Ok-from_Ok_iff r _ _ h (read.digits, subst (FitsSigned w128) (sym read.value) (fits n d.short)) ∙ ap (λ m. Ok m) read.value

-- a number that was read keeps its value where it is stored
pub stored : (bytes : List ℕ) (n m : ℤ) → IsDecimalOf bytes n → m ≡ n → to_z w128 (of_z w128 m) ≡ n
stored bytes n m d same = ap (λ k. to_z w128 (of_z w128 k)) same ∙ to_z-of_z (fits n d.short)

short_ascii : (n : ℤ) → nat_abs n < 10 ^ 38 → IsAscii (signed_decimal n) × (length (signed_decimal n) ≤ 39)
short_ascii (pos n) short =
    (IsAscii-decimal_wide n (omega arith), omega (arith, length-decimal-le_wide 38 n (omega arith) (omega arith) (omega arith)))
short_ascii (negsuc n) short = (
  IsAscii-cons 45 _ (omega arith) (IsAscii-decimal_wide (suc n) (omega arith)),
  omega (arith, length-decimal-le_wide 38 (suc n) (omega arith) (omega arith) (omega arith)),
)

-- a sign and at most 38 digits
pub length-decimal : (bytes : List ℕ) (n : ℤ) → IsDecimalOf bytes n → length bytes ≤ 39
length-decimal bytes n d = rw d.spelled (short_ascii n d.short).1

-- which are text
pub IsUtf8-decimal : (bytes : List ℕ) (n : ℤ) → IsDecimalOf bytes n → IsUtf8 bytes
IsUtf8-decimal bytes n d = IsUtf8-from_ascii bytes (rw d.spelled (short_ascii n d.short).0)

-- what `print_decimal` gives of a number, `read_decimal` reads as that number
pub reads_printed : (n : ℤ) (printed : List ℕ) (result : Option ℤ)
    → nat_abs n < 10 ^ 38 → printed ≡ signed_decimal n
    → MatchOption result ((m : ℤ) → ¬ IsDecimalOf printed m) (λ m. IsDecimalOf printed m)
    → result ≡ Some n
reads_printed n printed None short is read = absurd (read n (record { spelled = is; short = short }))
reads_printed n printed (Some m) short is read = ap (λ k. Some k) (same_number printed m n read (record { spelled = is; short = short }))
