-- What a call of an inline function by its name gives, wherever that is what it means.
use Rattle.std.proofs.Common.{◌≡◌, ◌≢◌, ℕ, ◌++◌, List, [], ◌∷◌, true, Some, None, map, codes}
use Rattle.std.specs.Prelude.{ℤ, pos, ◌+ℤ◌, ◌-ℤ◌, ◌*ℤ◌, int_div, int_rem}
use Rattle.std.specs.Fmt.{signed_decimal}
use Rattle.sl_run.specs.Run.{Puts, Trace, Went}
use Rattle.c_tree.specs.Memory.{Number, Memory}
use Rattle.sl_num.specs.Comparing.{truth}
use Rattle.c_tree.specs.Meaning.{Callees, is_int64}

-- a call of two numbers of 64 bits gives this, and changes nothing
abbrev pub Gives : Callees → List ℕ → ℤ → ℤ → ℤ → Type 0
Gives call name a b number = is_int64 a ≡ true → is_int64 b ≡ true → (t : Trace) (memory : Memory) → call name (Number a ∷ Number b ∷ []) t memory ≡ Went (Some number) t memory

-- calls of the inline functions do what they should
pub record Helps (call : Callees) : Type 0 where
  pub sum : (a b : ℤ) → Gives call (codes "sl_sum_fits") a b (truth (is_int64 (a +ℤ b)))
  pub difference : (a b : ℤ) → Gives call (codes "sl_difference_fits") a b (truth (is_int64 (a -ℤ b)))
  pub product : (a b : ℤ) → Gives call (codes "sl_product_fits") a b (truth (is_int64 (a *ℤ b)))
  pub quotient : (a b : ℤ) → b ≢ pos 0 → Gives call (codes "sl_quotient_fits") a b (truth (is_int64 (int_div a b)))
  pub rest : (a b : ℤ) → b ≢ pos 0 → Gives call (codes "sl_remainder") a b (int_rem a b)
  pub print : (a : ℤ) → is_int64 a ≡ true → (t : Trace) (memory : Memory) → call (codes "sl_print") (Number a ∷ []) t memory ≡ Went None (record t { events = t.events ++ map Puts (signed_decimal a) }) memory
