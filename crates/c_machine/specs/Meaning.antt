-- What a resolved program does, as a run. It is the meaning of C with numbers for names and no bytes of frames.
use Rattle.std.specs.Prelude.{ℕ, zero, suc, ℤ, pos, negsuc, List, [], Bool, true, false, not, nat_le, Option, None, Some, map, replicate, slice_get}
use Rattle.sl_run.specs.Run.{Stuck, Act, Over, Went, pure, over, ◌>>=◌, ◌>>◌, choose, put, get, turn, round_then, loop, calls}
use Rattle.sl_run.specs.Run as run
use Rattle.sl_run.specs.Statements.{Next, Broke, Returned, in_order, after_round, gotten}
use Rattle.sl_run.specs.Outcome.{Outcome, whole_run}
use Rattle.c_tree.specs.Meaning.{Flow, is_zero}
use Rattle.c_machine.specs.declared.program.Slot.{Slot}
use Rattle.c_machine.specs.declared.program.Expr.{Expr}
use Rattle.c_machine.specs.declared.program.Stmt.{Stmt, Stmt-F, fold-Stmt}
use Rattle.c_machine.specs.declared.program.Stmt.TheOpen as stmt
use Rattle.c_machine.specs.declared.program.Program.{Program}
use Rattle.c_machine.specs.State.{State, owner_of, with_held, is_declared, with_frame, without_frame}
use Rattle.c_machine.specs.Values.{value, numbers}

-- an undefined case
abbrev pub stuck : {A : Type 0} → Act State A
stuck t state = Over (Stuck (owner_of state.frames)) t

-- a part of a run that needs something which there may not be
abbrev pub with_some : {A B : Type 0} → Option A → (A → Act State B) → Act State B
with_some None go = stuck
with_some (Some x) go = go x

-- a part of a run that needs something of the state
abbrev pub with_value : {A B : Type 0} → (State → Option A) → (A → Act State B) → Act State B
with_value of go t state = with_some (of state) go t state

-- Statements ----------------------------------------------------------------------------------------------------------

-- what calls of functions by their numbers do with arguments, and give where they give something
abbrev pub Calls : Type 0
Calls = ℕ → List ℤ → Act State (Option ℤ)

-- what a statement does, given what calls do
abbrev pub Meaning : Type 0
Meaning = Calls → Act State Flow

-- a number is stored in a variable
abbrev pub write : Slot → ℤ → Act State (Unit {0})
write slot number t state = Went tt t (with_held slot number state)

-- what a call gives is stored in a variable, where there is one, and there is something then
abbrev pub store_result : Option Slot → Option ℤ → Act State (Unit {0})
store_result None given = pure tt
store_result (Some slot) given = with_some given (write slot)

-- the variable for a result, where there is one, is declared
abbrev pub has_target : Option Slot → Bool
has_target None = true
has_target (Some slot) = is_declared slot

-- a call: its target is declared, its arguments are computed from left to right, it is done, and what it gives is stored
abbrev pub call_to : Option Slot → List Expr → (List ℤ → Act State (Option ℤ)) → Act State Flow
call_to target arguments call = choose (has_target target) (with_value (numbers arguments) call >>= store_result target >> pure Next) stuck

-- what a function gives whose statements were left so, where it has a result or not. One with a result has to return, and a break
-- has to stand in a loop
abbrev pub given : Bool → Flow → Act State (Option ℤ)
given gives (Returned value) = pure value
given gives Broke = stuck
given false Next = pure None
given true Next = stuck

-- a frame begins
abbrev pub begin : (owner vars : ℕ) → List ℤ → Act State (Unit {0})
begin owner vars arguments t state = Went tt t (with_frame owner vars arguments state)

-- the last frame ends
abbrev pub leave : {A : Type 0} → A → Act State A
leave value t state = Went value t (without_frame state)

-- the statements of a function in its frame, but for the end of the frame
abbrev pub in_frame : Bool → List Meaning → Calls → Act State (Option ℤ)
in_frame gives stmts call = in_order stmts call >>= given gives

-- the statements of a function in its frame, to its end
abbrev pub body : Bool → List Meaning → Calls → Act State (Option ℤ)
body gives stmts call = in_frame gives stmts call >>= leave

-- an inline function begins its frame above its caller's
abbrev pub begin_inline : ℕ → List ℤ → Act State (Unit {0})
begin_inline vars arguments t state = begin (owner_of state.frames) vars arguments t state

-- a number from 0 to 255 is put as a byte, and every other is undefined
abbrev pub put_number : ℤ → Act State Flow
put_number (pos byte) = choose (nat_le byte 255) (put byte >> pure Next) stuck
put_number (negsuc below) = stuck

-- a round of a loop, and how the loop is left after it, or nothing where it goes round again
abbrev pub round : Act State Flow → Act State (Option Flow)
round body = body >>= (λ flow. pure (after_round flow))

-- the rounds of a counted loop from a count on, so many of them: the count is stored, and the body is done; after the last one the
-- count at which the test fails is stored. No round takes a turn
abbrev pub rounds : Slot → Act State Flow → (from count : ℕ) → Act State Flow
rounds slot body from zero = write slot (pos from) >> pure Next
rounds slot body from (suc count) = write slot (pos from) >> (body >>= (λ flow. round_then (after_round flow) (rounds slot body (suc from) count)))

-- the next byte of the input is asked for, and stored as a number; at the end of the input the number is -1
abbrev pub get_to : Slot → Act State (Unit {0})
get_to slot = get >>= (λ answer. write slot (gotten answer))

abbrev pub returned : Option Expr → Act State Flow
returned None = pure (Returned None)
returned (Some e) = with_value (value e) (λ x. pure (Returned (Some x.number)))

-- a statement, given what its parts do
abbrev pub stmt_step : Stmt-F Meaning → Meaning
stmt_step (stmt.Assign slot e) call = choose (is_declared slot) (with_value (value e) (λ x. write slot x.number) >> pure Next) stuck
stmt_step (stmt.Call target arguments function) call = call_to target arguments (call function)
stmt_step (stmt.Inline target arguments vars gives stmts) call = call_to target arguments (λ numbers. begin_inline vars numbers >> body gives stmts call)
stmt_step stmt.Undefined call = stuck
stmt_step (stmt.If test chosen other) call = with_value (value test) (λ x. choose (not (is_zero x.number)) (in_order chosen call) (in_order other call))
stmt_step (stmt.Loop stmts) call = loop (round (in_order stmts call))
stmt_step (stmt.Count slot count stmts) call = choose (is_declared slot) (rounds slot (in_order stmts call) 0 count) stuck
stmt_step stmt.Break call = pure Broke
stmt_step (stmt.Return value) call = returned value
stmt_step (stmt.Put e) call = with_value (value e) (λ x. put_number x.number)
stmt_step (stmt.Get slot) call = choose (is_declared slot) (get_to slot >> pure Next) stuck
stmt_step (stmt.Halt kind file line) call = over (run.Halt kind file line)

unfoldable pub meaning : Stmt → Meaning
meaning s = fold-Stmt Meaning stmt_step s

-- Programs ------------------------------------------------------------------------------------------------------------

-- functions by their numbers, given what their calls do
abbrev pub functions : Program → Calls → Calls
functions program call number arguments =
    with_some (slice_get program.functions number) (λ function.
    begin number function.vars arguments >> body function.gives (map meaning function.body) call)

-- a call takes a turn
abbrev pub enter : ℕ → List ℤ → Act State (Unit {0})
enter number arguments = turn

-- what calls of functions by their numbers do in a run
unfoldable pub called : Program → Calls
called program number arguments = calls enter (functions program) number arguments

-- What the first function gives is the exit value
abbrev pub exit_value : Option ℤ → Act State ℤ
exit_value value = with_some value pure

-- the first function begins, which takes no turn; what it gives is the exit value, and its frame ends
abbrev pub whole : Program → Act State ℤ
whole program =
    with_some program.start (λ number.
    with_some (slice_get program.functions number) (λ function.
    begin number function.vars [] >> (in_frame function.gives (map meaning function.body) (called program) >>= exit_value >>= leave)))

-- the state before the run: the globals are unwritten
abbrev pub first_state : Program → State
first_state program = record { globals = replicate program.globals None; frames = [] }

-- the whole run of a program on an input, in at most so many turns
unfoldable pub program_run : Program → List ℕ → ℕ → Outcome
program_run program input turns = whole_run (whole program) (first_state program) input turns
