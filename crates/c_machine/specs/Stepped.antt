-- What a step of the machine owes.
use Rattle.std.specs.Prelude.{◌≡◌, ◌⊎◌, ℕ, ℤ, ◌+◌, ◌<◌, ◌≤◌, ◌-◌, ◌*◌, List, [], ◌∷◌, ◌++◌, Bool, map, drop, length, sum, Option, None, Result, Ok, Err, if◌then◌else◌}
use Rattle.sl_run.specs.Run.{Ending, Event, Trace, Step, pure, ◌>>=◌, ◌>>◌}
use Rattle.sl_run.specs.Run as run
use Rattle.sl_run.specs.Outcome.{outcome, ended, trace_of}
use Rattle.sl_outside.specs.Sink.{Put}
use Rattle.sl_outside.specs.Source.{Asked}
use Rattle.sl_run.specs.Statements as statements
use Rattle.c_tree.specs.Meaning as c
use Rattle.c_machine.specs.declared.program.Slot.{Slot}
use Rattle.c_machine.specs.declared.program.Expr.{Expr}
use Rattle.c_machine.specs.declared.program.Stmt.{Stmt, Stmt-F, fold-Stmt}
use Rattle.c_machine.specs.declared.program.Stmt.TheOpen as stmt
use Rattle.c_machine.specs.declared.ending.End.{End}
use Rattle.c_machine.specs.declared.ending.End.TheVariants as end
use Rattle.c_machine.specs.declared.ending.State.{State}
use Rattle.c_machine.specs.declared.ending.State.TheVariants.{Going, Ended}
use Rattle.c_machine.specs.declared.ending.StepFault.{StepFault}
use Rattle.c_machine.specs.declared.ending.StepFault.TheVariants as fault
use Rattle.c_machine.specs.declared.configuration.Entry.{Entry}
use Rattle.c_machine.specs.declared.configuration.Entry.TheVariants.{Rest, Again, Rounds, Back}
use Rattle.c_machine.specs.declared.configuration.Flow.{Flow}
use Rattle.c_machine.specs.declared.configuration.Flow.TheVariants.{Next, Broke, Returned}
use Rattle.c_machine.specs.declared.configuration.Configuration.{Configuration}
use Rattle.c_machine.specs.State as memory
use Rattle.c_machine.specs.Values.{numbers}
use Rattle.c_machine.specs.Meaning.{meaning, called, functions, has_target, store_result}
use Rattle.c_machine.specs.Resume.{state_of, resume}
use Rattle.c_machine.specs.Outside.{Deed, answers, Gives, ended_after, seen, Outside, Done}

-- how the last statement was left, as its meaning says it
abbrev pub flow_of : Flow → c.Flow
flow_of Next = statements.Next
flow_of Broke = statements.Broke
flow_of (Returned value) = statements.Returned value

-- how a run is over that the machine ends so
abbrev pub ending_of : End → Ending
ending_of (end.Done value) = run.Done value
ending_of (end.Halt kind file line) = run.Halt kind file line
ending_of end.TurnsSpent = run.TurnsSpent
ending_of (end.Stuck function) = run.Stuck function

-- a run so far in which these turns are left
abbrev pub with_left : ℕ → Trace → Trace
with_left left t = record t { left = left }

-- how a run goes on to its end, from what happened so far; the turns left are the machine's
abbrev pub Ahead : Type 0
Ahead = Trace → Step memory.State ℤ

-- what is ahead of the machine
unfoldable pub ahead : Configuration → Ahead
ahead m t = resume m.program m.gives m.control (flow_of m.flow) (with_left m.left t) (state_of m.memory)

-- the same with a statement before it
unfoldable pub ahead_of : Stmt → Configuration → Ahead
ahead_of s m t = (meaning s (called m.program) >>= resume m.program m.gives m.control) (with_left m.left t) (state_of m.memory)

-- the numbers for a call's arguments, where its target is declared and all have one
abbrev pub ready : Option Slot → List Expr → memory.State → Option (List ℤ)
ready target arguments state = if has_target target then numbers arguments state else None

-- the machine with so many turns left
abbrev pub with_turns : ℕ → Configuration → Configuration
with_turns left m = record m { left = left }

-- the same with a function before it that begins, after its turn, and whose result is stored
unfoldable pub entering : Option Slot → ℕ → List ℤ → Configuration → Ahead
entering target number arguments m t =
    (functions m.program (called m.program) number arguments >>= store_result target >> pure statements.Next >>= resume m.program m.gives m.control) (with_left m.left t) (state_of m.memory)

-- the machine with something else still to be done
abbrev pub with_control : Configuration → List Entry → Configuration
with_control m control = record m { control = control }

-- Work ----------------------------------------------------------------------------------------------------------------

-- how much work the rounds of a counted loop are at most, so many of them with a body of so much work
abbrev pub rounds_work : (count body : ℕ) → ℕ
rounds_work count body = count * (body + 2) + 1

-- how much work a statement is at most, up to the next turn; the statements of an inline function count, and those of a counted
-- loop count for each of its rounds
abbrev pub weight_step : Stmt-F ℕ → ℕ
weight_step (stmt.If test chosen other) = sum chosen + sum other + 2
weight_step (stmt.Inline target arguments vars gives stmts) = sum stmts + 3
weight_step (stmt.Loop stmts) = 2
weight_step (stmt.Count slot count stmts) = rounds_work count (sum stmts) + 1
weight_step other = 1

unfoldable pub weight : Stmt → ℕ
weight s = fold-Stmt ℕ weight_step s

abbrev pub entry_work : Entry → ℕ
entry_work (Rest stmts from) = sum (map weight (drop from stmts)) + 1
entry_work (Again stmts) = 1
entry_work (Rounds slot from end stmts) = rounds_work (end - from) (sum (map weight stmts))
entry_work (Back target gives) = 1

unfoldable pub work : List Entry → ℕ
work [] = 0
work (entry ∷ control) = entry_work entry + work control

-- Steps ---------------------------------------------------------------------------------------------------------------

-- no turn was taken and the work fell, or one turn was taken
abbrev pub Falls : (bound left : ℕ) → Configuration → Type 0
Falls bound left m = ((m.left ≡ left) × (work m.control < bound)) ⊎ (m.left + 1 ≡ left)

-- What was ahead, with so much work and so many turns left, and the input at its end or not, is what is ahead of the machine now after
-- these deeds, on every input that gives their answers, and they were done. In one step there is at most one of them
pub record GoesOn (before : Ahead) (bound left : ℕ) (at_end : Bool) (m : Configuration) (a b : Outside) : Type 0 where
  pub deeds : List Deed
  pub at_most_one : length deeds ≤ 1
  pub same : (t : Trace) → Gives at_end t.rest (answers deeds) → before t ≡ ahead m (seen deeds t)
  pub at_end_now : m.at_end ≡ ended_after at_end (answers deeds)
  pub done : Done deeds a b
  pub falls : Falls bound left m

-- what was ahead ends so with no more events, and leaves the turns that the machine has left
pub record IsOver (end : End) (before : Ahead) (m : Configuration) : Type 0 where
  pub same : (t : Trace) → outcome (before t) ≡ ended (ending_of end) (with_left m.left t)

-- what was ahead does this next
abbrev pub IsNext : Event → Ahead → Type 0
IsNext event before = (t : Trace) → (more : List Event) × ((trace_of (before t)).events ≡ t.events ++ (event ∷ more))

-- this byte was to be put next, and the sink refused it
pub record IsRefused (before : Ahead) (a b : Outside) : Type 0 where
  pub byte : ℕ
  pub next : IsNext (run.Puts byte) before
  pub put : Put (byte ∷ []) a.sink b.sink (Err (record {}))
  pub unasked : b.source ≡ a.source

-- a byte of the input was to be asked for next, and the source failed
pub record IsUnanswered (before : Ahead) (a b : Outside) : Type 0 where
  pub next : IsNext run.Asks before
  pub asked : Asked a.source b.source (Err (record {}))
  pub unput : b.sink ≡ a.sink

-- What a step owes that answers a fault, from what was ahead with so many turns left: the machine still has them. Of a want of
-- memory it says no more than that, and that nothing was put or asked for
abbrev pub Faulted : StepFault → Ahead → (left : ℕ) → Configuration → Outside → Outside → Type 0
Faulted fault.Input before left m a b = IsUnanswered before a b × (m.left ≡ left)
Faulted fault.Sink before left m a b = IsRefused before a b × (m.left ≡ left)
Faulted fault.Mem before left m a b = (b ≡ a) × (m.left ≡ left)

-- what a step owes that answers so, from what was ahead with so much work and so many turns left, and the input at its end or not
abbrev pub Stepped : Result State StepFault → Ahead → (bound left : ℕ) → (at_end : Bool) → Configuration → Outside → Outside → Type 0
Stepped (Ok Going) before bound left at_end m a b = GoesOn before bound left at_end m a b
Stepped (Ok (Ended end)) before bound left at_end m a b = IsOver end before m × (b ≡ a)
Stepped (Err fault) before bound left at_end m a b = Faulted fault before left m a b

-- the same where nothing is done to the outside
abbrev pub Silent : Result State StepFault → Ahead → (bound left : ℕ) → (at_end : Bool) → Configuration → Type 0
Silent result before bound left at_end m = (a : Outside) → Stepped result before bound left at_end m a a
