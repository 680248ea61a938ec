-- What each part of a run obeys, whatever language it is a part of.
use Rattle.std.specs.Prelude.{◌≡◌, ℕ, ◌+◌, ◌≤◌, List, ◌++◌}
use Rattle.sl_run.specs.Run.{TurnsSpent, Event, Trace, Step, Went, Over, Act}

-- the same run with these events before its own
abbrev pub after_events : List Event → Trace → Trace
after_events earlier t = record t { events = earlier ++ t.events }

-- a part that ended so, with these events before the run's own
abbrev pub step_after : {S A : Type 0} → List Event → Step S A → Step S A
step_after earlier (Went x t s) = Went x (after_events earlier t) s
step_after earlier (Over e t) = Over e (after_events earlier t)

-- Alone: it doesn't look at the events so far, so what it adds is the same after any earlier events
abbrev pub Alone : {S A : Type 0} → Act S A → Type 0
Alone {S} a = (earlier : List Event) (t : Trace) (s : S) → a (after_events earlier t) s ≡ step_after earlier (a t s)

-- at most so many turns are left
abbrev pub LeftAtMost : {S A : Type 0} → ℕ → Step S A → Type 0
LeftAtMost n (Went x t s) = t.left ≤ n
LeftAtMost n (Over e t) = t.left ≤ n

-- the two are one where at most so many turns are left, and leave no more
abbrev pub Agrees : {S A : Type 0} → ℕ → Act S A → Act S A → Type 0
Agrees {S} n a b = (t : Trace) (s : S) → t.left ≤ n → (a t s ≡ b t s) × LeftAtMost n (a t s)

-- Steady: it gives no turn back
abbrev pub Steady : {S A : Type 0} → Act S A → Type 0
Steady a = (n : ℕ) → Agrees n a a

-- it went on with one turn less, or the run is over with no more turns than there were
abbrev pub TakesTurnAt : {S A : Type 0} → ℕ → Step S A → Type 0
TakesTurnAt left (Went x t s) = t.left + 1 ≡ left
TakesTurnAt left (Over e t) = t.left ≤ left

-- TakesTurn: it goes on only by a turn, and changes nothing where none is left
pub record TakesTurn {S : Type 0} (a : Act S (Unit {0})) : Type 0 where
  pub takes : (t : Trace) (s : S) → TakesTurnAt t.left (a t s)
  pub stops : (t : Trace) (s : S) → t.left ≡ 0 → a t s ≡ Over TurnsSpent t

-- what bodies do agrees where what calls do agrees
abbrev pub Respects : {S F A B : Type 0} → ((F → A → Act S B) → F → A → Act S B) → Type 0
Respects {S} {F} {A} {B} bodies = (n : ℕ) (call call' : F → A → Act S B) → ((f : F) (x : A) → Agrees n (call f x) (call' f x)) → (f : F) (x : A) → Agrees n (bodies call f x) (bodies call' f x)
