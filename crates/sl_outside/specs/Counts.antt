-- Counts: how many calls of a folder, a source or a sink answered a fault, and how often it was called. A count never falls, and
-- need not rise at 2 ^ 64 - 1, which is its end.
use Rattle.std.specs.Prelude.{◌≡◌, ℕ, ◌+◌, ◌-◌, ◌^◌, ◌≤◌, min, Bool, IsTrue, not}

-- the count rose, or stands at its end. Code that has only the trait's methods cannot raise a count by itself, so an answer
-- that comes only where the count rose is not given without a fault
abbrev pub Rose : ℕ → ℕ → Type 0
Rose before now = min (before + 1) (2 ^ 64 - 1) ≤ now

-- what a call owes to the count: an answer that tells a fault comes only where the count rose by one or is at its end, and every
-- other answer leaves the count
pub record HasCause (is_fault : Bool) (before now : ℕ) : Type 0 where
  pub rose : IsTrue is_fault → Rose before now
  pub by_one : now ≤ before + 1
  pub stayed : IsTrue (not is_fault) → now ≡ before
  pub no_lower : before ≤ now

-- one more, up to the greatest number that a count can have
abbrev pub one_more : ℕ → ℕ
one_more n = min (n + 1) (2 ^ 64 - 1)
