-- What asking a source for its next byte answers and leaves.
use Rattle.std.specs.Prelude.{◌≡◌, ℕ, List, [], ◌∷◌, drop, slice_get, Option, Some, None, Result, Ok, Err, is_err}
use Rattle.sl_outside.specs.declared.source.Failed.{Failed}
use Rattle.sl_outside.specs.Counts.{HasCause, one_more}

-- The first of the bytes that are left comes and is taken, and None comes exactly where none is left. After a fault the same
-- bytes are left. What a source tells, it goes on telling; of one that tells nothing, nothing is said
abbrev pub NextGives : Option (List ℕ) → Option (List ℕ) → Result (Option ℕ) Failed → Type 0
NextGives None after result = Unit {0}
NextGives (Some left) after (Ok next) = (next ≡ slice_get left 0) × (after ≡ Some (drop 1 left))
NextGives (Some left) after (Err failed) = after ≡ Some left

-- a source as clauses see it: what it has left, where it tells that, how often it failed, and how often it was called
pub record SourceState : Type 0 where
  pub left : Option (List ℕ)
  pub faults : ℕ
  pub calls : ℕ

abbrev pub source_state : Option (List ℕ) → ℕ → ℕ → SourceState
source_state left faults calls = record { left = left; faults = faults; calls = calls }

-- a source was asked for its next byte, by one call that answered this
pub record Asked (before after : SourceState) (result : Result (Option ℕ) Failed) : Type 0 where
  pub next : NextGives before.left after.left result
  pub cause : HasCause (is_err result) before.faults after.faults
  pub counted : after.calls ≡ one_more before.calls

-- a source was asked again and again, each time by a call of its own, and gave these answers in order; where the result is a fault,
-- one more call failed after them
abbrev pub Reads : List (Option ℕ) → SourceState → SourceState → Result (Unit {0}) Failed → Type 0
Reads [] before after (Ok done) = after ≡ before
Reads [] before after (Err failed) = Asked before after (Err failed)
Reads (answer ∷ answers) before after result = (between : SourceState) × Asked before between (Ok answer) × Reads answers between after result

-- These answers are those of an input: its bytes in order, and None at its end. What a source answers behind a None counts as None:
-- once an input came to its end, it stays there (ISO C11, 7.21.7.1)
abbrev pub AreOf : (input : List ℕ) → List (Option ℕ) → Type 0
AreOf input [] = Unit {0}
AreOf input (None ∷ answers) = input ≡ []
AreOf [] (Some byte ∷ answers) = ⊥
AreOf (next ∷ input) (Some byte ∷ answers) = (byte ≡ next) × AreOf input answers
