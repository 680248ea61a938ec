-- Calls with no argument, with one, and with more.
use Rattle.std.proofs.Common.{◌≡◌, ℕ, suc, ◌+◌, ◌<◌, ◌≤◌, List, [], ◌∷◌, length, map, get_or, refl, arith}
use Rattle.sl_plain.specs.declared.reading.expressions.Form.{Form}
use Rattle.sl_plain.specs.declared.reading.expressions.Form.TheVariants.{NotPlain}
use Rattle.sl_plain.specs.Reading.{called}

-- there are too many, or too few
too_many : (n m : ℕ) → suc (n + m) < 1 → ⊥
too_many n m h = omega (arith, h)

more_than_one : (n : ℕ) → suc (suc n) < 2 → ⊥
more_than_one n h = omega (arith, h)

too_few : (n : ℕ) → suc n ≤ 0 → ⊥
too_few n h = omega (arith, h)

less_than_two : 2 ≤ 1 → ⊥
less_than_two h = omega (arith, h)

pub called_none : {A : Type 0} (f : A → Form) (operand : Form) (arguments : List A) → length arguments < 1 → called operand (map f arguments) ≡ called operand []
called_none f operand [] less = refl
called_none f operand (x ∷ xs) less = absurd (too_many (length xs) 0 (omega (arith, less)))

pub called_one : {A : Type 0} (f : A → Form) (operand : Form) (arguments : List A) (d : A) → 1 ≤ length arguments → length arguments < 2 → called operand (map f arguments) ≡ called operand (f (get_or arguments 0 d) ∷ [])
called_one f operand [] d some less = absurd (too_few 0 some)
called_one f operand (x ∷ []) d some less = refl
called_one f operand (x ∷ y ∷ xs) d some less = absurd (more_than_one (length xs) less)

pub called_more : {A : Type 0} (f : A → Form) (operand : Form) (arguments : List A) → 2 ≤ length arguments → called operand (map f arguments) ≡ NotPlain
called_more f operand [] some = absurd (too_few 1 some)
called_more f operand (x ∷ []) some = absurd (less_than_two some)
called_more f operand (x ∷ y ∷ xs) some = refl
