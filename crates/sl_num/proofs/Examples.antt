-- Examples that hold the definitions.
use Rattle.std.proofs.Common.{◌≡◌, ℕ, ◌-◌, ◌^◌, true, false, refl, sym, ap, ◌∙◌, ℤ, pos, neg_ℤ, nat_abs, arith, rules, codes}
use Rattle.std.specs.Prelude.{Ok, Err}
use Rattle.std.specs.Fmt.{digits, signed_decimal}
use Rattle.std.proofs.lemmas.Fmt.{decimal_digit}
use Rattle.sl_num.specs.Types.{IsRange}
use Rattle.sl_num.specs.Arithmetic.{applied}
use Rattle.sl_num.specs.Comparing.{holds}
use Rattle.sl_num.specs.Decimals.{IsDecimalOf}
use Rattle.sl_num.proofs.Reading.{reads}
use Rattle.sl_num.specs.declared.types.IntType.{IntType}
use Rattle.sl_num.specs.declared.arithmetic.Op.TheVariants.{Add, Sub, Mul, Div, Rem, Neg}
use Rattle.sl_num.specs.declared.arithmetic.Halt.TheVariants.{Range, Zero}
use Rattle.sl_num.specs.declared.comparing.Comparison.TheVariants.{Less, LessEqual, Greater, GreaterEqual, Equal, NotEqual}

-- a number's negation
abbrev minus : ℕ → ℤ
minus n = neg_ℤ (pos n)

-- the numbers of 64 bits with a sign
abbrev signed : IntType
signed = record { lo = minus (2 ^ 63); hi = pos (2 ^ 63 - 1); wraps = false }

-- those without
abbrev unsigned : IntType
unsigned = record { lo = pos 0; hi = pos (2 ^ 64 - 1); wraps = false }

-- the numbers from 5 to 10
abbrev small : IntType
small = record { lo = pos 5; hi = pos 10; wraps = false }

-- they are types that `apply` takes
pub types_are_taken : IsRange signed × IsRange unsigned × IsRange small
types_are_taken = (search rules, search rules, search rules)

-- a quotient is truncated towards zero
pub quotients :
    (applied signed Div (pos 7) (pos 2) ≡ Ok (pos 3))
    × (applied signed Div (minus 7) (pos 2) ≡ Ok (minus 3))
    × (applied signed Div (pos 7) (minus 2) ≡ Ok (minus 3))
    × (applied signed Div (minus 7) (minus 2) ≡ Ok (pos 3))
quotients = (refl, refl, refl, refl)

-- a remainder has the sign of the dividend
pub remainders :
    (applied signed Rem (pos 7) (pos 2) ≡ Ok (pos 1))
    × (applied signed Rem (minus 7) (pos 2) ≡ Ok (minus 1))
    × (applied signed Rem (pos 7) (minus 2) ≡ Ok (pos 1))
    × (applied signed Rem (minus 7) (minus 2) ≡ Ok (minus 1))
remainders = (refl, refl, refl, refl)

-- the least number divided by -1 is past the greatest, and its remainder is 0
pub least_by_minus_one :
    (applied signed Div (minus (2 ^ 63)) (minus 1) ≡ Err Range)
    × (applied signed Rem (minus (2 ^ 63)) (minus 1) ≡ Ok (pos 0))
least_by_minus_one = (refl, refl)

-- a zero divisor is told first, also where the value on ℤ isn't in the type
pub zero_divisors :
    (applied signed Div (minus (2 ^ 63)) (pos 0) ≡ Err Zero)
    × (applied signed Rem (pos 7) (pos 0) ≡ Err Zero)
    × (applied small Div (pos 7) (pos 0) ≡ Err Zero)
zero_divisors = (refl, refl, refl)

-- sums at the ends of a type, and one past them
pub sums :
    (applied signed Add (pos (2 ^ 63 - 2)) (pos 1) ≡ Ok (pos (2 ^ 63 - 1)))
    × (applied signed Add (pos (2 ^ 63 - 1)) (pos 1) ≡ Err Range)
    × (applied signed Add (minus (2 ^ 63 - 1)) (minus 1) ≡ Ok (minus (2 ^ 63)))
    × (applied signed Add (minus (2 ^ 63)) (minus 1) ≡ Err Range)
sums = (refl, refl, refl, refl)

-- products in a type and past it, also past 2 ^ 127
pub products :
    (applied unsigned Mul (pos (2 ^ 32)) (pos (2 ^ 32 - 1)) ≡ Ok (pos (2 ^ 64 - 2 ^ 32)))
    × (applied unsigned Mul (pos (2 ^ 32)) (pos (2 ^ 32)) ≡ Err Range)
    × (applied unsigned Mul (pos (2 ^ 64 - 1)) (pos (2 ^ 64 - 1)) ≡ Err Range)
products = (refl, refl, refl)

-- the least number has no negation in its type, whatever the second number is
pub negations :
    (applied signed Neg (pos (2 ^ 63 - 1)) (pos 0) ≡ Ok (minus (2 ^ 63 - 1)))
    × (applied signed Neg (minus (2 ^ 63)) (pos 7) ≡ Err Range)
negations = (refl, refl)

-- a remainder may be below its type
pub remainders_below :
    (applied small Rem (pos 9) (pos 5) ≡ Err Range)
    × (applied small Rem (pos 5) (pos 10) ≡ Ok (pos 5))
    × (applied small Sub (pos 10) (pos 5) ≡ Ok (pos 5))
    × (applied small Sub (pos 10) (pos 6) ≡ Err Range)
remainders_below = (refl, refl, refl, refl)

-- comparisons of unlike numbers and of like ones
pub comparisons :
    (holds Less (minus 2) (pos 1) ≡ true)
    × (holds Less (pos 1) (pos 1) ≡ false)
    × (holds LessEqual (pos 1) (pos 1) ≡ true)
    × (holds Greater (pos 1) (pos 1) ≡ false)
    × (holds GreaterEqual (minus 2) (pos 1) ≡ false)
    × (holds Equal (pos 1) (pos 1) ≡ true)
    × (holds NotEqual (minus 1) (pos 1) ≡ true)
comparisons = (refl, refl, refl, refl, refl, refl, refl)

-- some numbers in decimal
pub decimals :
    IsDecimalOf (codes "0") (pos 0)
    × IsDecimalOf (codes "-10") (minus 10)
    × IsDecimalOf (codes "99999999999999999999999999999999999999") (pos (10 ^ 38 - 1))
unfolding digits
decimals = (
  record { spelled = refl; short = omega arith },
  record { spelled = refl; short = omega arith },
  record { spelled = refl; short = omega arith },
)

-- zero has no sign, and no zero stands in front of it
pub zero_once : (n : ℤ) → ¬ IsDecimalOf (codes "-0") n × ¬ IsDecimalOf (codes "00") n
zero_once n = (
  λ d. let e = d.spelled ∙ ap signed_decimal (sym (reads (codes "-0") n d).value) in cc (decimal_digit 0 (omega arith)),
  λ d. let e = d.spelled ∙ ap signed_decimal (sym (reads (codes "00") n d).value) in cc (decimal_digit 0 (omega arith)),
)

-- 39 digits are too many
pub too_long : (n : ℤ) → ¬ IsDecimalOf (codes "100000000000000000000000000000000000000") n
too_long n d = omega (arith, d.short, ap nat_abs (reads _ n d).value)
