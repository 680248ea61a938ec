-- What putting a piece on a sink answers and leaves.
use Rattle.std.specs.Prelude.{◌≡◌, ◌⊎◌, ℕ, List, [], ◌∷◌, ◌++◌, Option, Some, None, Result, Ok, Err, IsErr, is_err}
use Rattle.sl_outside.specs.declared.source.Failed.{Failed}
use Rattle.sl_outside.specs.Counts.{HasCause, one_more}

-- the list begins with this prefix
abbrev pub IsPrefix : List ℕ → List ℕ → Type 0
IsPrefix prefix list = (more : List ℕ) × (list ≡ prefix ++ more)

-- After Ok the sink holds the piece behind what it held, and after a fault some prefix of the piece behind it. What a sink tells,
-- it goes on telling; of one that tells nothing, nothing is said
abbrev pub PutGives : Option (List ℕ) → Option (List ℕ) → List ℕ → Result (Unit {0}) Failed → Type 0
PutGives None after piece result = Unit {0}
PutGives (Some held) after piece (Ok done) = after ≡ Some (held ++ piece)
PutGives (Some held) after piece (Err failed) = (prefix : List ℕ) × IsPrefix prefix piece × (after ≡ Some (held ++ prefix))

-- a sink as clauses see it: what it holds, where it tells that, how often it failed, and how often it was called
pub record SinkState : Type 0 where
  pub held : Option (List ℕ)
  pub faults : ℕ
  pub calls : ℕ

abbrev pub sink_state : Option (List ℕ) → ℕ → ℕ → SinkState
sink_state held faults calls = record { held = held; faults = faults; calls = calls }

-- a piece was put, by one call that answered this
pub record Put (piece : List ℕ) (before after : SinkState) (result : Result (Unit {0}) Failed) : Type 0 where
  pub taken : PutGives before.held after.held piece result
  pub cause : HasCause (is_err result) before.faults after.faults
  pub counted : after.calls ≡ one_more before.calls

-- a piece was put, by one call, whatever that answered
abbrev pub Tried : List ℕ → SinkState → SinkState → Type 0
Tried piece before after = (result : Result (Unit {0}) Failed) × Put piece before after result

-- bytes were put in order, each by a call of its own, up to the first that failed
abbrev pub Prints : List ℕ → SinkState → SinkState → Result (Unit {0}) Failed → Type 0
Prints [] before after (Ok done) = after ≡ before
Prints [] before after (Err failed) = ⊥
Prints (byte ∷ bytes) before after result =
    ((between : SinkState) × Put (byte ∷ []) before between (Ok tt) × Prints bytes between after result)
    ⊎ (IsErr result × Put (byte ∷ []) before after (Err (record {})))

-- bytes were put in order, each by a call of its own, and then this one was refused
abbrev pub PrintsUpTo : List ℕ → ℕ → SinkState → SinkState → Type 0
PrintsUpTo bytes byte before after = (between : SinkState) × Prints bytes before between (Ok tt) × Put (byte ∷ []) between after (Err (record {}))
