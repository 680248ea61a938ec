-- What calls of the inline functions give at the limits, by computation alone.
use Rattle.std.proofs.Common.{◌≡◌, ℕ, List, [], ◌∷◌, ◌++◌, map, None, length, refl, eq-eqb, codes, append-nil}
use Rattle.std.specs.Prelude.{ℤ, pos, negsuc}
use Rattle.c_tree.specs.declared.tree.CFile.{CFile}
use Rattle.c_tree.proofs.Running.{running}
use Rattle.sl_run.specs.Run.{Puts, Trace, Went, ◌>>◌}
use Rattle.c_tree.specs.Memory.{Memory, Number}
use Rattle.c_tree.specs.Meaning.{Callees, begin_inline, body}
use Rattle.c_helpers.specs.Functions.{digit, sum_fits, difference_fits, product_fits, quotient_fits, remainder}
use Rattle.c_helpers.specs.Laws.{Gives}

module _ (file : CFile) where
  -- the greatest sum
  pub greatest_sum : Gives file sum_fits (pos 9223372036854775806 ∷ pos 1 ∷ []) (pos 1)
  greatest_sum call t memory = simp (running, eq-eqb (length memory.frames) (length memory.frames) refl)

  -- a sum past it
  pub sum_too_great : Gives file sum_fits (pos 9223372036854775807 ∷ pos 1 ∷ []) (pos 0)
  sum_too_great call t memory = simp (running, eq-eqb (length memory.frames) (length memory.frames) refl)

  -- the least sum
  pub least_sum : Gives file sum_fits (negsuc 9223372036854775806 ∷ negsuc 0 ∷ []) (pos 1)
  least_sum call t memory = simp (running, eq-eqb (length memory.frames) (length memory.frames) refl)

  -- a sum below it
  pub sum_too_small : Gives file sum_fits (negsuc 9223372036854775807 ∷ negsuc 0 ∷ []) (pos 0)
  sum_too_small call t memory = simp (running, eq-eqb (length memory.frames) (length memory.frames) refl)

  -- the greatest difference
  pub greatest_difference : Gives file difference_fits (negsuc 0 ∷ negsuc 9223372036854775807 ∷ []) (pos 1)
  greatest_difference call t memory = simp (running, eq-eqb (length memory.frames) (length memory.frames) refl)

  -- a difference past it
  pub difference_too_great : Gives file difference_fits (pos 0 ∷ negsuc 9223372036854775807 ∷ []) (pos 0)
  difference_too_great call t memory = simp (running, eq-eqb (length memory.frames) (length memory.frames) refl)

  -- a difference below the least
  pub difference_too_small : Gives file difference_fits (negsuc 9223372036854775807 ∷ pos 1 ∷ []) (pos 0)
  difference_too_small call t memory = simp (running, eq-eqb (length memory.frames) (length memory.frames) refl)

  -- the least product
  pub least_product : Gives file product_fits (pos 4294967296 ∷ negsuc 2147483647 ∷ []) (pos 1)
  least_product call t memory = simp (running, eq-eqb (length memory.frames) (length memory.frames) refl)

  -- the same of negative numbers is past the greatest
  pub product_too_great : Gives file product_fits (negsuc 4294967295 ∷ negsuc 2147483647 ∷ []) (pos 0)
  product_too_great call t memory = simp (running, eq-eqb (length memory.frames) (length memory.frames) refl)

  -- the least number by -1
  pub least_times_minus_one : Gives file product_fits (negsuc 9223372036854775807 ∷ negsuc 0 ∷ []) (pos 0)
  least_times_minus_one call t memory = simp (running, eq-eqb (length memory.frames) (length memory.frames) refl)

  -- and by 0
  pub least_times_zero : Gives file product_fits (negsuc 9223372036854775807 ∷ pos 0 ∷ []) (pos 1)
  least_times_zero call t memory = simp (running, eq-eqb (length memory.frames) (length memory.frames) refl)

  -- a product of 3037000500 by itself is past the greatest
  pub square_too_great : Gives file product_fits (pos 3037000500 ∷ pos 3037000500 ∷ []) (pos 0)
  square_too_great call t memory = simp (running, eq-eqb (length memory.frames) (length memory.frames) refl)

  -- and of one less isn't
  pub square_fits : Gives file product_fits (pos 3037000499 ∷ pos 3037000499 ∷ []) (pos 1)
  square_fits call t memory = simp (running, eq-eqb (length memory.frames) (length memory.frames) refl)

  -- the least number divided by -1
  pub least_by_minus_one : Gives file quotient_fits (negsuc 9223372036854775807 ∷ negsuc 0 ∷ []) (pos 0)
  least_by_minus_one call t memory = simp (running, eq-eqb (length memory.frames) (length memory.frames) refl)

  -- the next one divided by -1
  pub next_by_minus_one : Gives file quotient_fits (negsuc 9223372036854775806 ∷ negsuc 0 ∷ []) (pos 1)
  next_by_minus_one call t memory = simp (running, eq-eqb (length memory.frames) (length memory.frames) refl)

  -- the least number has the remainder 0 by -1
  pub least_remains : Gives file remainder (negsuc 9223372036854775807 ∷ negsuc 0 ∷ []) (pos 0)
  least_remains call t memory = simp (running, eq-eqb (length memory.frames) (length memory.frames) refl)

  -- a remainder has the sign of the dividend
  pub negative_remains : Gives file remainder (negsuc 6 ∷ pos 2 ∷ []) (negsuc 0)
  negative_remains call t memory = simp (running, eq-eqb (length memory.frames) (length memory.frames) refl)

  -- a call of `sl_digit` on these numbers puts these bytes
  abbrev digit_put : ℤ → ℤ → List ℕ → Type 0
  digit_put a b bytes =
      (call : Callees) (t : Trace) (memory : Memory)
      → (begin_inline digit (Number a ∷ Number b ∷ []) >> body file digit call) t memory ≡ Went None (record t { events = t.events ++ map Puts bytes }) memory

  -- the 2 of 120
  pub middle_digit : digit_put (negsuc 119) (pos 10) (codes "2")
  middle_digit call t memory = simp (running, eq-eqb (length memory.frames) (length memory.frames) refl)

  -- the 1 of 10
  pub first_digit : digit_put (negsuc 9) (pos 10) (codes "1")
  first_digit call t memory = simp (running, eq-eqb (length memory.frames) (length memory.frames) refl)

  -- 9 has no digit there
  pub no_digit : digit_put (negsuc 8) (pos 10) (codes "")
  no_digit call t memory = simp (running, eq-eqb (length memory.frames) (length memory.frames) refl, append-nil)

  -- the first digit of the least number
  pub digit_of_least : digit_put (negsuc 9223372036854775807) (pos 1000000000000000000) (codes "9")
  digit_of_least call t memory = simp (running, eq-eqb (length memory.frames) (length memory.frames) refl)
