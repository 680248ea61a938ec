-- When a sum or a difference of two numbers of 64 bits is one.
use Rattle.std.proofs.Common.{◌≡◌, Bool, true, false, ◌&&◌, refl, sym, arith}
use Rattle.std.specs.Prelude.{ℤ, pos, negsuc, ◌+ℤ◌, ◌-ℤ◌, int_le, int_lt, ◌≤ℤ◌, ◌<ℤ◌}
use Rattle.std.proofs.lemmas.Int.{ints}
use Rattle.c_tree.specs.Meaning.{is_int64}

-- a number of 64 bits, by its bounds
pub record Bounded (n : ℤ) : Type 0 where
  pub least : negsuc 9223372036854775807 ≤ℤ n
  pub greatest : n ≤ℤ pos 9223372036854775807

both_true : (p q : Bool) → p && q ≡ true → (p ≡ true) × (q ≡ true)
both_true true q h = (refl, h)
both_true false q h = absurd (let bad : false ≡ true = h in cc)

and_true : (p q : Bool) → p ≡ true → q ≡ true → p && q ≡ true
and_true p q h k = cc

pub bounds : (n : ℤ) → is_int64 n ≡ true → Bounded n
bounds n h =
    let both = both_true (int_le (negsuc 9223372036854775807) n) (int_le n (pos 9223372036854775807)) h in
    record { least = omega (arith, ints); greatest = omega (arith, ints) }

pub bounded : (n : ℤ) → Bounded n → is_int64 n ≡ true
bounded n h =
    and_true (int_le (negsuc 9223372036854775807) n) (int_le n (pos 9223372036854775807)) (grind (arith, ints)) (grind (arith, ints))

-- two tests that hold together
alike : (p q : Bool) → (p ≡ true → q ≡ true) → (q ≡ true → p ≡ true) → p ≡ q
alike true q f g = sym (f refl)
alike false true f g = g refl
alike false false f g = refl

-- a comparison tells whether a number has 64 bits
pub tells : (x y n : ℤ) → (x ≤ℤ y → Bounded n) → (Bounded n → x ≤ℤ y) → int_le x y ≡ is_int64 n
tells x y n f g =
    alike (int_le x y) (is_int64 n) (λ h. bounded n (f (omega (arith, ints)))) (λ h. let less = g (bounds n h) in grind (arith, ints))

-- so does a strict one
pub tells_strictly : (x y n : ℤ) → (x <ℤ y → Bounded n) → (Bounded n → x <ℤ y) → int_lt x y ≡ is_int64 n
tells_strictly x y n f g =
    alike (int_lt x y) (is_int64 n) (λ h. bounded n (f (omega (arith, ints)))) (λ h. let less = g (bounds n h) in grind (arith, ints))

module _ (a b : ℤ) (p : Bounded a) (q : Bounded b) where
  -- where b is negative, the least number less b is a number of 64 bits, and tells of the sum
  pub least_less : b <ℤ pos 0 → is_int64 (negsuc 9223372036854775807 -ℤ b) ≡ true
  least_less below = bounded (negsuc 9223372036854775807 -ℤ b) (record { least = omega (arith, ints); greatest = omega (arith, ints) })

  pub least_less_tells : b <ℤ pos 0 → int_le (negsuc 9223372036854775807 -ℤ b) a ≡ is_int64 (a +ℤ b)
  least_less_tells below = tells _ a (a +ℤ b) (λ h. record { least = omega (arith, ints); greatest = omega (arith, ints) }) (λ h. omega (arith, ints))

  -- else the greatest less b does
  pub greatest_less : pos 0 ≤ℤ b → is_int64 (pos 9223372036854775807 -ℤ b) ≡ true
  greatest_less above = bounded (pos 9223372036854775807 -ℤ b) (record { least = omega (arith, ints); greatest = omega (arith, ints) })

  pub greatest_less_tells : pos 0 ≤ℤ b → int_le a (pos 9223372036854775807 -ℤ b) ≡ is_int64 (a +ℤ b)
  greatest_less_tells above = tells a _ (a +ℤ b) (λ h. record { least = omega (arith, ints); greatest = omega (arith, ints) }) (λ h. omega (arith, ints))

  -- where b is negative, the greatest number and b have a sum that tells of the difference
  pub greatest_more : b <ℤ pos 0 → is_int64 (pos 9223372036854775807 +ℤ b) ≡ true
  greatest_more below = bounded (pos 9223372036854775807 +ℤ b) (record { least = omega (arith, ints); greatest = omega (arith, ints) })

  pub greatest_more_tells : b <ℤ pos 0 → int_le a (pos 9223372036854775807 +ℤ b) ≡ is_int64 (a -ℤ b)
  greatest_more_tells below = tells a _ (a -ℤ b) (λ h. record { least = omega (arith, ints); greatest = omega (arith, ints) }) (λ h. omega (arith, ints))

  -- else the least number and b have
  pub least_more : pos 0 ≤ℤ b → is_int64 (negsuc 9223372036854775807 +ℤ b) ≡ true
  least_more above = bounded (negsuc 9223372036854775807 +ℤ b) (record { least = omega (arith, ints); greatest = omega (arith, ints) })

  pub least_more_tells : pos 0 ≤ℤ b → int_le (negsuc 9223372036854775807 +ℤ b) a ≡ is_int64 (a -ℤ b)
  least_more_tells above = tells _ a (a -ℤ b) (λ h. record { least = omega (arith, ints); greatest = omega (arith, ints) }) (λ h. omega (arith, ints))
