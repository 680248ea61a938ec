-- When a product or a quotient of two numbers of 64 bits is one.
use Rattle.std.proofs.Common.{◌≡◌, ◌≢◌, ℕ, zero, suc, ◌*◌, ◌/◌, ◌%◌, ◌<◌, ◌≤◌, true, false, ap, arith, ne_eqb, ◌∙◌, nat_abs}
use Rattle.std.specs.Prelude.{ℤ, pos, negsuc, neg_ℤ, ◌*ℤ◌, int_div, int_rem, int_le, int_lt, ◌≤ℤ◌, ◌<ℤ◌}
use Rattle.std.proofs.lemmas.Int.{ints}
use Rattle.std.proofs.Math.Nat.{le-div_iff_mul-le, div-le_self, div-mul-le_self, mod-le}
use Rattle.std.proofs.Math.IntN.{*ℤ_comm}
use Rattle.std.proofs.lemmas.Nat.{le-div}
use Rattle.sl_num.specs.declared.comparing.Comparison.TheVariants.{Equal}
use Rattle.sl_num.specs.Comparing.{holds}
use Rattle.c_tree.specs.Meaning.{is_int64, is_zero}
use Rattle.c_helpers.proofs.Sums.{Bounded, bounded, tells, tells_strictly}

-- Divisors ------------------------------------------------------------------------------------------------------------

pub not_zero : (b : ℤ) → b ≢ pos 0 → is_zero b ≡ false
not_zero (pos n) h = ne_eqb n 0 (λ e. h (ap pos e))
not_zero (negsuc n) h = ne_eqb (suc n) 0 (λ e. omega arith)

pub is_same : (a b : ℤ) → holds Equal a b ≡ true → a ≡ b
is_same a b h = grind (arith, ints)

pub is_other : (a b : ℤ) → holds Equal a b ≡ false → a ≢ b
is_other a b h = grind (arith, ints)

-- a quotient of natural numbers, in both directions
below_quotient : (k n x : ℕ) → 0 < n → k ≤ x / n → k * n ≤ x
below_quotient k n x positive h = (le-div_iff_mul-le {k = n} {x = k} {y = x} positive).0 h

product_below : (k n x : ℕ) → 0 < n → k * n ≤ x → k ≤ x / n
product_below k n x positive h = le-div k x n positive h

-- a quotient by 2 or more is at most half of what is divided
half : (n x : ℕ) → 2 ≤ n → (x / n) * 2 ≤ x
half n x h = let whole = div-mul-le_self x n in grind arith

-- Products ------------------------------------------------------------------------------------------------------------

-- where both are positive, the greatest number's quotient by b tells of the product
pub greatest_by : (b : ℤ) → pos 0 <ℤ b → is_int64 (int_div (pos 9223372036854775807) b) ≡ true
greatest_by (pos n) above =
    let less = div-le_self 9223372036854775807 n in
    bounded (pos (9223372036854775807 / n)) (record { least = omega (arith, ints); greatest = omega (arith, ints) })
greatest_by (negsuc n) above = absurd (omega (arith, ints))

pub greatest_by_tells : (a b : ℤ) → pos 0 <ℤ a → pos 0 <ℤ b → int_le a (int_div (pos 9223372036854775807) b) ≡ is_int64 (a *ℤ b)
greatest_by_tells (pos m) (pos n) above over =
    tells (pos m) (pos (9223372036854775807 / n)) (pos (m * n))
    (λ h. let k = below_quotient m n 9223372036854775807 (omega (arith, ints)) (omega (arith, ints)) in record { least = omega (arith, ints); greatest = omega (arith, ints) })
    (λ h. let k = product_below m n 9223372036854775807 (omega (arith, ints)) (let g = h.greatest in omega (arith, ints)) in omega (arith, ints))
greatest_by_tells (pos m) (negsuc n) above over = absurd (omega (arith, ints))
greatest_by_tells (negsuc m) b above over = absurd (omega (arith, ints))

-- where b alone is positive, the least number's quotient by b tells of it
pub least_by : (b : ℤ) → pos 0 <ℤ b → is_int64 (int_div (negsuc 9223372036854775807) b) ≡ true
least_by (pos n) above =
    let less = div-le_self 9223372036854775808 n in
    bounded (neg_ℤ (pos (9223372036854775808 / n))) (record { least = omega (arith, ints); greatest = omega (arith, ints) })
least_by (negsuc n) above = absurd (omega (arith, ints))

pub least_by_tells : (a b : ℤ) → a ≤ℤ pos 0 → pos 0 <ℤ b → int_le (int_div (negsuc 9223372036854775807) b) a ≡ is_int64 (a *ℤ b)
least_by_tells (pos zero) (pos n) below above =
    tells (neg_ℤ (pos (9223372036854775808 / n))) (pos 0) (pos 0 *ℤ pos n)
    (λ h. record { least = omega (arith, ints); greatest = omega (arith, ints) })
    (λ h. omega (arith, ints))
least_by_tells (pos (suc m)) (pos n) below above = absurd (omega (arith, ints))
least_by_tells (negsuc m) (pos n) below above =
    tells (neg_ℤ (pos (9223372036854775808 / n))) (negsuc m) (negsuc m *ℤ pos n)
    (λ h. let k = below_quotient (suc m) n 9223372036854775808 (omega (arith, ints)) (omega (arith, ints)) in record { least = omega (arith, ints); greatest = omega (arith, ints) })
    (λ h. let k = product_below (suc m) n 9223372036854775808 (omega (arith, ints)) (let g = h.least in omega (arith, ints)) in omega (arith, ints))
least_by_tells a (negsuc n) below above = absurd (omega (arith, ints))

-- where a alone is, its quotient by a does
pub least_by_tells_second : (a b : ℤ) → pos 0 <ℤ a → b ≤ℤ pos 0 → int_le (int_div (negsuc 9223372036854775807) a) b ≡ is_int64 (a *ℤ b)
least_by_tells_second a b above below = least_by_tells b a below above ∙ ap is_int64 (*ℤ_comm b a)

-- where none is, the greatest number's quotient by b does
pub greatest_by_negative : (b : ℤ) → b <ℤ pos 0 → is_int64 (int_div (pos 9223372036854775807) b) ≡ true
greatest_by_negative (pos n) below = absurd (omega (arith, ints))
greatest_by_negative (negsuc n) below =
    let less = div-le_self 9223372036854775807 (suc n) in
    bounded (neg_ℤ (pos (9223372036854775807 / suc n))) (record { least = omega (arith, ints); greatest = omega (arith, ints) })

pub greatest_by_negative_tells : (a b : ℤ) → a ≤ℤ pos 0 → b <ℤ pos 0 → int_le (int_div (pos 9223372036854775807) b) a ≡ is_int64 (a *ℤ b)
greatest_by_negative_tells a (pos n) under below = absurd (omega (arith, ints))
greatest_by_negative_tells (pos zero) (negsuc n) under below =
    tells (neg_ℤ (pos (9223372036854775807 / suc n))) (pos 0) (pos 0 *ℤ negsuc n)
    (λ h. record { least = omega (arith, ints); greatest = omega (arith, ints) })
    (λ h. omega (arith, ints))
greatest_by_negative_tells (pos (suc m)) (negsuc n) under below = absurd (omega (arith, ints))
greatest_by_negative_tells (negsuc m) (negsuc n) under below =
    tells (neg_ℤ (pos (9223372036854775807 / suc n))) (negsuc m) (negsuc m *ℤ negsuc n)
    (λ h. let k = below_quotient (suc m) (suc n) 9223372036854775807 (omega (arith, ints)) (omega (arith, ints)) in record { least = omega (arith, ints); greatest = omega (arith, ints) })
    (λ h. let k = product_below (suc m) (suc n) 9223372036854775807 (omega (arith, ints)) (let g = h.greatest in omega (arith, ints)) in omega (arith, ints))

-- and where b is zero, the product is one
pub product_by_zero : (a b : ℤ) → b ≤ℤ pos 0 → pos 0 ≤ℤ b → is_int64 (a *ℤ b) ≡ true
product_by_zero a (pos zero) below above = bounded (a *ℤ pos 0) (record { least = omega (arith, ints); greatest = omega (arith, ints) })
product_by_zero a (pos (suc n)) below above = absurd (omega (arith, ints))
product_by_zero a (negsuc n) below above = absurd (omega (arith, ints))

-- Quotients and remainders --------------------------------------------------------------------------------------------

-- that by -1 is a number of 64 bits where a isn't the least
pub quotient_by_minus_one : (a : ℤ) → Bounded a → int_lt (negsuc 9223372036854775807) a ≡ is_int64 (int_div a (negsuc 0))
quotient_by_minus_one (pos m) p =
    tells_strictly (negsuc 9223372036854775807) (pos m) (neg_ℤ (pos (m / 1)))
    (λ h. record { least = omega (arith, ints); greatest = omega (arith, ints) })
    (λ h. omega (arith, ints))
quotient_by_minus_one (negsuc m) p =
    tells_strictly (negsuc 9223372036854775807) (negsuc m) (pos (suc m / 1))
    (λ h. record { least = omega (arith, ints); greatest = omega (arith, ints) })
    (λ h. let g = h.greatest in omega (arith, ints))

-- that by any other number is one
pub other_quotient : (a b : ℤ) → Bounded a → b ≢ pos 0 → b ≢ negsuc 0 → is_int64 (int_div a b) ≡ true
other_quotient (pos m) (pos n) p some other =
    let less = div-le_self m n in bounded (pos (m / n)) (record { least = omega (arith, ints); greatest = omega (arith, ints) })
other_quotient (pos m) (negsuc n) p some other =
    let less = div-le_self m (suc n) in bounded (neg_ℤ (pos (m / suc n))) (record { least = omega (arith, ints); greatest = omega (arith, ints) })
other_quotient (negsuc m) (pos n) p some other =
    let less = div-le_self (suc m) n in bounded (neg_ℤ (pos (suc m / n))) (record { least = omega (arith, ints); greatest = omega (arith, ints) })
other_quotient (negsuc m) (negsuc n) p some other =
    let less = half (suc n) (suc m) (omega (arith, ints)) in bounded (pos (suc m / suc n)) (record { least = omega (arith, ints); greatest = omega (arith, ints) })

-- a remainder is one
pub remainder_fits : (a b : ℤ) → Bounded a → is_int64 (int_rem a b) ≡ true
remainder_fits (pos m) b p =
    let less = mod-le m (nat_abs b) in bounded (pos (m % nat_abs b)) (record { least = omega (arith, ints); greatest = omega (arith, ints) })
remainder_fits (negsuc m) b p =
    let less = mod-le (suc m) (nat_abs b) in bounded (neg_ℤ (pos (suc m % nat_abs b))) (record { least = omega (arith, ints); greatest = omega (arith, ints) })

-- and 0 by -1
pub remainder_by_minus_one : (a : ℤ) → int_rem a (negsuc 0) ≡ pos 0
remainder_by_minus_one (pos m) = omega (arith, ints)
remainder_by_minus_one (negsuc m) = omega (arith, ints)
