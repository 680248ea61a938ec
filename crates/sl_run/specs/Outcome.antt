-- What the outside knows of a run that is over. What is promised of whole programs are equations of outcomes.
use Rattle.std.specs.Prelude.{◌≡◌, ℕ, suc, ℤ, List, [], ◌∷◌, ◌++◌, map}
use Rattle.sl_run.specs.Run.{Ending, Done, Event, Puts, Asks, Trace, Step, Went, Over, Act, start}

-- how a run ended, its events, the rest of the input, and the turns that were left
pub record Outcome : Type 0 where
  pub ending : Ending
  pub events : List Event
  pub rest : List ℕ
  pub left : ℕ

-- what is known of a run that ended so after these events
abbrev pub ended : Ending → Trace → Outcome
ended e t = record { ending = e; events = t.events; rest = t.rest; left = t.left }

-- what is known of a run whose last part ended so: a run that comes to the end of its program is done with its value
abbrev pub outcome : {S : Type 0} → Step S ℤ → Outcome
outcome (Went value t s) = ended (Done value) t
outcome (Over e t) = ended e t

-- the run so far of a part that ended so
abbrev pub trace_of : {S A : Type 0} → Step S A → Trace
trace_of (Went x t s) = t
trace_of (Over e t) = t

-- a whole run from a first state, on an input, in at most so many turns
unfoldable pub whole_run : {S : Type 0} → Act S ℤ → S → List ℕ → ℕ → Outcome
whole_run program first input turns = outcome (program (start input turns) first)

-- the bytes that are put
abbrev pub printed : List Event → List ℕ
printed [] = []
printed (Puts b ∷ events) = b ∷ printed events
printed (Asks ∷ events) = printed events

-- for each asking of the input, in order, how many bytes were put before it
abbrev pub asked : List Event → List ℕ
asked [] = []
asked (Puts b ∷ events) = map suc (asked events)
asked (Asks ∷ events) = 0 ∷ asked events

-- the events of a run begin with these
abbrev pub BeginsWith : Outcome → List Event → Type 0
BeginsWith run events = (more : List Event) × (run.events ≡ events ++ more)
