-- What the machine as a whole owes: that it stands where its steps left it, and what a run of it comes to.
use Rattle.std.specs.Prelude.{◌≡◌, ℕ, ◌+◌, List, [], ◌∷◌, ◌++◌, Result, Ok, Err, Option, Some, None, IfSome, Bool, false, replicate, slice_get}
use Rattle.std.specs.Option.{option_and_then}
use Rattle.sl_run.specs.Run.{Event, Trace, Over, start}
use Rattle.sl_run.specs.Run as run
use Rattle.sl_run.specs.Outcome.{Outcome, outcome, ended, printed, BeginsWith}
use Rattle.sl_outside.specs.Sink.{Prints, PrintsUpTo}
use Rattle.c_machine.specs.declared.program.Program.{Program}
use Rattle.c_machine.specs.declared.program.Function.{Function}
use Rattle.c_machine.specs.declared.ending.End.{End}
use Rattle.c_machine.specs.declared.ending.State.{State}
use Rattle.c_machine.specs.declared.ending.State.TheVariants as state
use Rattle.c_machine.specs.declared.ending.StepFault.{StepFault}
use Rattle.c_machine.specs.declared.ending.StepFault.TheVariants as fault
use Rattle.c_machine.specs.declared.configuration.Entry.TheVariants.{Rest}
use Rattle.c_machine.specs.declared.configuration.Flow.TheVariants.{Next}
use Rattle.c_machine.specs.declared.configuration.Configuration.{Configuration}
use Rattle.c_machine.specs.declared.machine.Standing.{Standing}
use Rattle.c_machine.specs.declared.machine.Standing.TheVariants.{Going, Ended, Failed}
use Rattle.c_machine.specs.declared.machine.Machine.{Machine}
use Rattle.c_machine.specs.Meaning.{whole, first_state}
use Rattle.c_machine.specs.Outside.{Deed, answers, Gives, ended_after, seen, Outside, Done, IsTold, AsksInput, HasCauses}
use Rattle.c_machine.specs.Stepped.{ending_of, with_left, Ahead, ahead, work, Faulted, Stepped}

-- where a machine stands after a step that answered so
abbrev pub stands_after : Result State StepFault → Standing
stands_after (Ok state.Going) = Going
stands_after (Ok (state.Ended end)) = Ended end
stands_after (Err fault) = Failed fault

-- what a step owes of a machine that stands so: one that stands at an end or a fault answers it again, and changes nothing
abbrev pub Steps : Standing → Machine → Outside → Machine → Outside → Result State StepFault → Type 0
Steps Going m a m' b result = Stepped result (ahead m.at) (work m.at.control) m.at.left m.at.at_end m'.at a b × HasCauses result a b × (m'.standing ≡ stands_after result) × (m'.turns ≡ m.turns)
Steps (Ended end) m a m' b result = (result ≡ Ok (state.Ended end)) × (m' ≡ m) × (b ≡ a)
Steps (Failed fault) m a m' b result = (result ≡ Err fault) × (m' ≡ m) × (b ≡ a)

-- Runs ----------------------------------------------------------------------------------------------------------------

-- what was ahead, with the input at its end or not, is what is ahead now after some deeds, which were done
pub record Reaches (before : Ahead) (at_end : Bool) (m : Configuration) (a b : Outside) : Type 0 where
  pub deeds : List Deed
  pub same : (t : Trace) → Gives at_end t.rest (answers deeds) → before t ≡ ahead m (seen deeds t)
  pub at_end_now : m.at_end ≡ ended_after at_end (answers deeds)
  pub done : Done deeds a b

-- what was ahead ended so, after some deeds, which were done
pub record Finishes (end : End) (before : Ahead) (at_end : Bool) (m : Configuration) (a b : Outside) : Type 0 where
  pub deeds : List Deed
  pub same : (t : Trace) → Gives at_end t.rest (answers deeds) → outcome (before t) ≡ ended (ending_of end) (with_left m.left (seen deeds t))
  pub done : Done deeds a b

-- after some deeds, which were done, a step answered a fault, from this configuration
pub record Fails (fault : StepFault) (before : Ahead) (at_end : Bool) (m : Configuration) (a b : Outside) : Type 0 where
  pub at : Configuration
  pub between : Outside
  pub reached : Reaches before at_end at a between
  pub failed : Faulted fault (ahead at) at.left m between b

-- a run from what was ahead answered so
abbrev pub RanFrom : Result End StepFault → Ahead → Bool → Configuration → Outside → Outside → Type 0
RanFrom (Ok end) before at_end m a b = Finishes end before at_end m a b
RanFrom (Err fault) before at_end m a b = Fails fault before at_end m a b

-- up to the next turn, or to the end
abbrev pub Turned : Result State StepFault → Ahead → ℕ → Bool → Configuration → Outside → Outside → Type 0
Turned (Ok state.Going) before left at_end m a b = Reaches before at_end m a b × (m.left + 1 ≡ left)
Turned (Ok (state.Ended end)) before left at_end m a b = RanFrom (Ok end) before at_end m a b
Turned (Err fault) before left at_end m a b = RanFrom (Err fault) before at_end m a b

-- Beginnings ----------------------------------------------------------------------------------------------------------

-- a configuration before the first function begins
abbrev pub fresh : Program → ℕ → Configuration
fresh program turns = record { program = program; memory = record { globals = replicate program.globals None; frames = [] }; control = []; flow = Next; gives = false; at_end = false; left = turns }

-- and one in which it has begun: its variables are unwritten, and all its statements are to be done
abbrev pub begun : Program → ℕ → ℕ → Function → Configuration
begun program turns number function = record (fresh program turns) {
  memory = record { globals = replicate program.globals None; frames = record { owner = number; cells = replicate function.vars None } ∷ [] };
  control = Rest function.body 0 ∷ [];
  gives = function.gives;
}

-- the first function is there, and has begun
pub record HasBegun (program : Program) (turns : ℕ) (m : Configuration) : Type 0 where
  pub number : ℕ
  pub function : Function
  pub first : program.start ≡ Some number
  pub found : slice_get program.functions number ≡ Some function
  pub is : m ≡ begun program turns number function

-- the function in which a run of a program begins, where there is one
abbrev pub first_function : Program → Option Function
first_function program = option_and_then (λ number. slice_get program.functions number) program.start

-- the first function has begun, or there is none; nothing else was done
abbrev pub Started : State → Program → ℕ → Configuration → Type 0
Started state.Going program turns m = HasBegun program turns m × ((t : Trace) → ahead m t ≡ whole program (with_left turns t) (first_state program))
Started (state.Ended end) program turns m = (m ≡ fresh program turns) × (first_function program ≡ None) × ((t : Trace) → whole program (with_left turns t) (first_state program) ≡ Over (ending_of end) (with_left turns t))

-- Whole runs ----------------------------------------------------------------------------------------------------------

-- the outcome that a machine is to come to on an input, where it stands at no fault
abbrev pub ComesTo : Standing → Configuration → List ℕ → Outcome → Type 0
ComesTo Going m input whole = outcome (ahead m (start input 0)) ≡ whole
ComesTo (Ended end) m input whole = record { ending = ending_of end; events = []; rest = input; left = m.left } ≡ whole
ComesTo (Failed fault) m input whole = ⊥

-- Where a machine stands before its first step. Its first function has begun, and nothing of it was done; it is at an end just where
-- there is no first function
abbrev pub StandsFirst : Standing → ℕ → Configuration → Type 0
StandsFirst Going turns m = HasBegun m.program turns m
StandsFirst (Ended end) turns m = (m ≡ fresh m.program turns) × (first_function m.program ≡ None)
StandsFirst (Failed fault) turns m = ⊥

-- a machine before its first step: nothing was done but that the first function of its program has begun, if there is one, and no
-- turn was taken; on every input it is to come to the whole run
pub record Opened (run : List ℕ → Outcome) (turns : ℕ) (m : Machine) : Type 0 where
  pub whole : (input : List ℕ) → ComesTo m.standing m.at input (run input)
  pub first : StandsFirst m.standing turns m.at
  pub left : m.at.left ≡ turns
  pub at_end : m.at.at_end ≡ false
  pub allowed : m.turns ≡ turns

-- A run on this input, that is to come to this outcome, answered so. At an end it ended as the outcome says: all its bytes were put,
-- the source was asked for its askings, and has left what the outcome leaves, where it tells that; and the machine has the turns left
-- that the outcome has. Or what stands before an asking in it was done, and that asking failed; or what stands before a byte in it was
-- done, that byte was refused, and nothing more was asked for; or, where memory ran out, some of it was done
abbrev pub Ran : Result End StepFault → List ℕ → Outcome → Configuration → Outside → Outside → Type 0
Ran (Ok end) input whole m a b =
    (ending_of end ≡ whole.ending) × (m.left ≡ whole.left) × Prints (printed whole.events) a.sink b.sink (Ok tt)
    × AsksInput input whole.events a.source b.source (Ok tt) × IfSome a.source.left (λ _. b.source.left ≡ Some whole.rest)
Ran (Err fault.Input) input whole m a b =
    (events : List Event) × BeginsWith whole (events ++ run.Asks ∷ []) × Prints (printed events) a.sink b.sink (Ok tt) × AsksInput input events a.source b.source (Err (record {}))
Ran (Err fault.Sink) input whole m a b =
    (events : List Event) × (byte : ℕ) × BeginsWith whole (events ++ run.Puts byte ∷ [])
    × PrintsUpTo (printed events) byte a.sink b.sink × AsksInput input events a.source b.source (Ok tt)
Ran (Err fault.Mem) input whole m a b =
    (events : List Event) × BeginsWith whole events × Prints (printed events) a.sink b.sink (Ok tt) × AsksInput input events a.source b.source (Ok tt)

-- where a machine stands after a run that answered so
abbrev pub stands_at : Result End StepFault → Standing
stands_at (Ok end) = Ended end
stands_at (Err fault) = Failed fault

-- so the run went on some input, which is what the source told that it has left, if it told anything
abbrev pub RanOnSome : Result End StepFault → Ahead → Configuration → Outside → Outside → Type 0
RanOnSome result before m a b = (input : List ℕ) × IsTold a.source.left input × Ran result input (outcome (before (start input 0))) m a b

-- What a run owes of a machine that stands so. The law of `RanFrom` is for every run so far; what it says of whole runs is told where
-- the input hasn't come to its end before
abbrev pub Runs : Standing → Machine → Outside → Machine → Outside → Result End StepFault → Type 0
Runs Going m a m' b result =
    RanFrom result (ahead m.at) m.at.at_end m'.at a b
    × (m.at.at_end ≡ false → RanOnSome result (ahead m.at) m'.at a b)
    × HasCauses result a b × (m'.standing ≡ stands_at result) × (m'.turns ≡ m.turns)
Runs (Ended end) m a m' b result = (result ≡ Ok end) × (m' ≡ m) × (b ≡ a)
Runs (Failed fault) m a m' b result = (result ≡ Err fault) × (m' ≡ m) × (b ≡ a)
