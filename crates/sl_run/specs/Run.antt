-- Runs: what a program has done to the outside, what is left to it, and how it goes on. Every meaning, that of the
-- source and that of the C, is made of the parts below.
use Rattle.std.specs.Prelude.{ℕ, ℤ, zero, suc, ◌+◌, List, [], ◌∷◌, ◌++◌, Option, Some, None, Bool, false, nat_lt, max, if◌then◌else◌}

-- how a run is over
pub data Ending : Type 0 where
  -- the program came to its end, with its exit value
  Done : (value : ℤ) → Ending
  -- it halted: the kind of halt, and the file and the line of what halted
  Halt : (kind file line : ℕ) → Ending
  -- it needs more turns than it has
  TurnsSpent : Ending
  -- a call would make the live frames pass the limit of the stack
  StackSpent : Ending
  -- it has no meaning from here on, in a function with this number
  Stuck : (function : ℕ) → Ending

-- what the outside sees: a byte is put, or the next byte of the input is asked for
pub data Event : Type 0 where
  Puts : (byte : ℕ) → Event
  Asks : Event

-- a run so far: its events in order, the rest of the input, the turns that are left, how many copies were made, and the most
-- bytes that were live in frames at one time
pub record Trace : Type 0 where
  pub events : List Event
  pub rest : List ℕ
  pub left : ℕ
  pub copies : ℕ
  pub peak : ℕ

-- a run before its first event, on this input, with so many turns
abbrev pub start : List ℕ → ℕ → Trace
start input turns = record { events = []; rest = input; left = turns; copies = 0; peak = 0 }

-- how a part of a run ends: it went on with a value and a state, or the run is over
pub data Step (S A : Type 0) : Type 0 where
  Went : A → Trace → S → Step S A
  Over : Ending → Trace → Step S A

-- a part of a run over states S, with a value in A
abbrev pub Act : Type 0 → Type 0 → Type 0
Act S A = Trace → S → Step S A

-- nothing but a value
abbrev pub pure : {S A : Type 0} → A → Act S A
pure x t s = Went x t s

-- the run is over
abbrev pub over : {S A : Type 0} → Ending → Act S A
over e t s = Over e t

-- what comes after a part that ended so: nothing where the run is over
abbrev pub step_then : {S A B : Type 0} → Step S A → (A → Act S B) → Step S B
step_then (Went x t s) go = go x t s
step_then (Over e t) go = Over e t

-- one part, and then another that has its value
infixl 10 ◌>>=◌
abbrev pub ◌>>=◌ : {S A B : Type 0} → Act S A → (A → Act S B) → Act S B
(a >>= go) t s = step_then (a t s) go

-- one part, and then another
infixl 10 ◌>>◌
abbrev pub ◌>>◌ : {S A B : Type 0} → Act S A → Act S B → Act S B
(a >> b) = a >>= (λ _. b)

-- one of two
abbrev pub choose : {S A : Type 0} → Bool → Act S A → Act S A → Act S A
choose b x y = if b then x else y

-- a byte is put
abbrev pub put : {S : Type 0} → ℕ → Act S (Unit {0})
put b t s = Went tt (record t { events = t.events ++ Puts b ∷ [] }) s

-- bytes are put, one after another
abbrev pub put_all : {S : Type 0} → List ℕ → Act S (Unit {0})
put_all [] = pure tt
put_all (b ∷ bs) = put b >> put_all bs

-- the first byte of an input, if there is one
abbrev pub first_of : List ℕ → Option ℕ
first_of [] = None
first_of (b ∷ bs) = Some b

-- the input after its first byte
abbrev pub rest_of : List ℕ → List ℕ
rest_of [] = []
rest_of (b ∷ bs) = bs

-- the next byte of the input is asked for and taken, if there is one
abbrev pub get : {S : Type 0} → Act S (Option ℕ)
get t s = Went (first_of t.rest) (record t { events = t.events ++ Asks ∷ []; rest = rest_of t.rest }) s

-- so many copies are made
abbrev pub copy : {S : Type 0} → ℕ → Act S (Unit {0})
copy n t s = Went tt (record t { copies = t.copies + n }) s

-- one turn, where so many are left
abbrev pub turn_at : {S : Type 0} → ℕ → Act S (Unit {0})
turn_at zero t s = Over TurnsSpent t
turn_at (suc n) t s = Went tt (record t { left = n }) s

-- one turn, where one is left
abbrev pub turn : {S : Type 0} → Act S (Unit {0})
turn t s = turn_at t.left t s

-- whether so many live bytes pass a limit. With no limit none do
abbrev pub passes : Option ℕ → ℕ → Bool
passes None live = false
passes (Some limit) live = nat_lt limit live

-- so many bytes are live, which is tested against the limit and raises the peak
abbrev pub keep_within : {S : Type 0} → Option ℕ → ℕ → Act S (Unit {0})
keep_within limit live t s = if passes limit live then Over StackSpent t else Went tt (record t { peak = max t.peak live }) s

-- one turn, for a frame with which so many bytes are live. The turn is tested before the limit, and where the limit is passed no
-- turn is taken
abbrev pub turn_within_at : {S : Type 0} → ℕ → Option ℕ → ℕ → Act S (Unit {0})
turn_within_at zero limit live t s = Over TurnsSpent t
turn_within_at (suc n) limit live t s = if passes limit live then Over StackSpent t else Went tt (record t { left = n; peak = max t.peak live }) s

abbrev pub turn_within : {S : Type 0} → Option ℕ → ℕ → Act S (Unit {0})
turn_within limit live t s = turn_within_at t.left limit live t s

-- what a loop does after a round that gave this: another round, or it is left with a value
abbrev pub round_then : {S A : Type 0} → Option A → Act S A → Act S A
round_then None again = again
round_then (Some x) again = pure x

-- goes round until the body gives a value, at most so often; each round takes a turn
abbrev pub loop_within : {S A : Type 0} → ℕ → Act S (Option A) → Act S A
loop_within zero body = over TurnsSpent
loop_within (suc n) body = turn >> (body >>= (λ given. round_then given (loop_within n body)))

-- goes round until the body gives a value, and is left with it. Each round takes a turn, so the turns left bound the rounds: a
-- loop is a turn, the body, and where that gives nothing the loop again (`loop_is` of proofs/Equations.antt, for a body that is
-- `Steady`)
abbrev pub loop : {S A : Type 0} → Act S (Option A) → Act S A
loop body t s = loop_within t.left body t s

-- A call of f on x, where calls nest at most so deep. It is entered, which takes a turn, and then the bodies say what is done,
-- given what calls do
abbrev pub calls_within : {S F A B : Type 0} → ℕ → (F → A → Act S (Unit {0})) → ((F → A → Act S B) → F → A → Act S B) → F → A → Act S B
calls_within zero enter bodies f x = over TurnsSpent
calls_within (suc n) enter bodies f x = enter f x >> bodies (calls_within n enter bodies) f x

-- A call of f on x. Entering takes a turn, so the turns left bound the depth: a call is entering and the body (`calls_are` of
-- proofs/Equations.antt, where entering `TakesTurn` and the bodies are `Respects`). `enter` is `turn` where frames have no
-- bytes, and `turn_within` where they do
abbrev pub calls : {S F A B : Type 0} → (F → A → Act S (Unit {0})) → ((F → A → Act S B) → F → A → Act S B) → F → A → Act S B
calls enter bodies f x t s = calls_within t.left enter bodies f x t s
