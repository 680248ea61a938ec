-- A product that wraps at 128 bits, without a sign in 64 bits.
use Rattle.std.proofs.Common.{◌≡◌, ℕ, suc, ◌%◌, ◌-◌, ◌^◌, ◌<◌, ◌≤◌, ℤ, pos, negsuc, ap, ◌∙◌, arith}
use Rattle.std.specs.Prelude.{FitsSigned, ◌*ℤ◌}
use Rattle.std.specs.Int.{w128, int_wrap, int_rem_euclid, int_wrapping_mul, cast_signed}
use Rattle.std.proofs.Math.Facts.{to_z-neg}
use Rattle.std.proofs.lemmas.Int.{ints, by_lt_z, wrapping_mul_is}

-- the upper half of the numbers of 128 bits, read with a sign
high : (m : ℕ) → 2 ^ 127 ≤ m → m < 2 ^ 128 → cast_signed w128 m ≡ negsuc (2 ^ 128 - suc m)
high m h le =
    let same : m ≡ 2 ^ 128 - suc (2 ^ 128 - suc m) = omega arith in
    let below : 2 ^ 128 - suc m < 2 ^ 127 = omega arith in
    ap (cast_signed w128) same ∙ to_z-neg w128 (2 ^ 128 - suc m) below

-- so many of 128 bits, read with a sign, in 64 bits
read_signed : (m : ℕ) → m < 2 ^ 128 → int_rem_euclid (cast_signed w128 m) (pos (2 ^ 64)) ≡ pos (m % 2 ^ 64)
read_signed m le =
    by_lt_z (pos m) (pos (2 ^ 127))
    (λ h. let e : cast_signed w128 m ≡ pos m = omega (arith, ints) in ap (λ z. int_rem_euclid z (pos (2 ^ 64))) e)
    (λ h. let e : cast_signed w128 m ≡ negsuc (2 ^ 128 - suc m) = high m (omega (arith, ints)) le in ap (λ z. int_rem_euclid z (pos (2 ^ 64))) e ∙ ap pos (omega arith))

wrap_again : (z : ℤ) → int_rem_euclid (int_wrap w128 z) (pos (2 ^ 64)) ≡ int_rem_euclid z (pos (2 ^ 64))
unfolding int_wrap
wrap_again (pos n) = read_signed (n % 2 ^ 128) (omega arith) ∙ ap pos (omega arith)
wrap_again (negsuc n) = read_signed (2 ^ 128 - 1 - n % 2 ^ 128) (omega arith) ∙ ap pos (omega arith)

pub wrapping_product : (a b : ℤ) → FitsSigned w128 a → FitsSigned w128 b → int_rem_euclid (int_wrapping_mul w128 a b) (pos (2 ^ 64)) ≡ int_rem_euclid (a *ℤ b) (pos (2 ^ 64))
wrapping_product a b f g = ap (λ z. int_rem_euclid z (pos (2 ^ 64))) (wrapping_mul_is w128 a b f g) ∙ wrap_again (a *ℤ b)
