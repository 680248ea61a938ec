-- What a core does, as a run. Values are copied. Where a core has no meaning (a variable is read that isn't there or wasn't
-- written, a text stands where a number is wanted, the type of an operation or a called function isn't there, a function ends
-- without a result or by a `Break` outside loops), the run ends with Stuck and the number of the function; a sound core never
-- does (Sound.antt). A value that is stored in a variable that isn't there is dropped, and the types of numbers, places and
-- comparisons aren't looked at: a sound core has all variables and types that it names.
use Rattle.std.specs.Prelude.{ℕ, ℤ, List, [], Bool, not, ◌==◌, nat_abs, Option, None, Some, Result, Ok, Err, length, map, replicate, slice_get}
use Rattle.std.specs.Fmt.{signed_decimal}
use Rattle.sl_num.specs.declared.arithmetic.Op.{Op}
use Rattle.sl_num.specs.declared.arithmetic.Halt.{Halt}
use Rattle.sl_num.specs.declared.arithmetic.Halt.TheVariants.{Range, Zero}
use Rattle.sl_num.specs.Arithmetic.{applied}
use Rattle.sl_num.specs.Comparing.{holds, truth}
use Rattle.sl_run.specs.Run.{Stuck, Act, Over, Went, pure, over, ◌>>=◌, ◌>>◌, choose, put_all, get, turn, loop, calls}
use Rattle.sl_run.specs.Run as run
use Rattle.sl_run.specs.Statements.{FlowOf, Next, Broke, Returned, in_order, after_round, gotten}
use Rattle.sl_run.specs.Outcome.{Outcome, whole_run}
use Rattle.sl_core.specs.declared.tree.Core.{Core}
use Rattle.sl_core.specs.declared.tree.CoreType.{CoreType}
use Rattle.sl_core.specs.declared.tree.CoreType.TheVariants.{Int}
use Rattle.sl_core.specs.declared.tree.CoreFun.{CoreFun}
use Rattle.sl_core.specs.declared.tree.CorePath.{CorePath}
use Rattle.sl_core.specs.declared.tree.CoreRoot.{CoreRoot}
use Rattle.sl_core.specs.declared.tree.CoreRoot.TheVariants.{Var}
use Rattle.sl_core.specs.declared.tree.CoreStmt.{CoreStmt, CoreStmt-F, fold-CoreStmt}
use Rattle.sl_core.specs.declared.tree.CoreStmt.TheOpen as stmt
use Rattle.sl_core.specs.declared.tree.CoreExpr.{CoreExpr, CoreExpr-F, fold-CoreExpr}
use Rattle.sl_core.specs.declared.tree.CoreExpr.TheOpen as expr
use Rattle.sl_core.specs.Memory.{Value, Number, Bytes, Memory, running, held, with_value, with_frame, without_frame}

-- there is no meaning
abbrev pub stuck : {A : Type 0} → Act Memory A
stuck t memory = Over (Stuck (running memory.frames)) t

-- a part of a run that needs something which there may not be
abbrev pub with_some : {A B : Type 0} → Option A → (A → Act Memory B) → Act Memory B
with_some None go = stuck
with_some (Some x) go = go x

-- a part of a run that needs a number
abbrev pub with_number : {B : Type 0} → Value → (ℤ → Act Memory B) → Act Memory B
with_number (Number number) go = go number
with_number (Bytes bytes) go = stuck

-- Places --------------------------------------------------------------------------------------------------------------

-- the variable in which a place begins
abbrev pub root_of : CoreRoot → ℕ
root_of (Var variable) = variable

-- what a place holds is read
abbrev pub read : CorePath → Act Memory Value
read path t memory = with_some (held memory.frames (root_of path.root)) pure t memory

-- a value is stored at a place
abbrev pub store : CorePath → Value → Act Memory (Unit {0})
store path value t memory = Went tt t (record memory { frames = with_value memory.frames (root_of path.root) value })

-- Expressions ---------------------------------------------------------------------------------------------------------

-- the numbers of the kinds of halts: a result that isn't in the type, and a zero divisor
abbrev pub halt_number : Halt → ℕ
halt_number Range = 3
halt_number Zero = 4

-- a number, or the halt that comes in its place
abbrev pub number_or_halt : (file line : ℕ) → Result ℤ Halt → Act Memory Value
number_or_halt file line (Ok number) = pure (Number number)
number_or_halt file line (Err halt) = over (run.Halt (halt_number halt) file line)

-- an operation in a type
abbrev pub apply_in : CoreType → Op → (file line : ℕ) → ℤ → ℤ → Act Memory Value
apply_in (Int kind) op file line a b = number_or_halt file line (applied kind op a b)

-- an expression, given what its parts give
abbrev pub expr_step : Core → CoreExpr-F (Act Memory Value) → Act Memory Value
expr_step core (expr.Number number kind) = pure (Number number)
expr_step core (expr.TextOf bytes) = pure (Bytes bytes)
expr_step core (expr.Path path kind) = read path
expr_step core (expr.Apply op left right kind file line) =
    left >>= (λ x. right >>= (λ y. with_number x (λ a. with_number y (λ b. with_some (slice_get core.types kind) (λ type. apply_in type op file line a b)))))
expr_step core (expr.Compare comparison left right kind) =
    left >>= (λ x. right >>= (λ y. with_number x (λ a. with_number y (λ b. pure (Number (truth (holds comparison a b)))))))

-- the value of an expression; operands are computed from left to right
unfoldable pub evaluate : Core → CoreExpr → Act Memory Value
evaluate core e = fold-CoreExpr (Act Memory Value) (expr_step core) e

-- Statements ----------------------------------------------------------------------------------------------------------

-- how a statement is left: by the next one, by a `Break`, or by a return
abbrev pub Flow : Type 0
Flow = FlowOf Value

-- what calls of functions by their numbers do, and give
abbrev pub Callees : Type 0
Callees = ℕ → Act Memory Value

-- what a statement does, given what calls do
abbrev pub Meaning : Type 0
Meaning = Callees → Act Memory Flow

-- a number is true where it isn't 0
abbrev pub is_true : ℤ → Bool
is_true number = not (nat_abs number == 0)

-- how a value is printed
abbrev pub printed_form : Value → List ℕ
printed_form (Number number) = signed_decimal number
printed_form (Bytes bytes) = bytes

-- a result is stored where there is a place for it
abbrev pub store_result : Option CorePath → Value → Act Memory (Unit {0})
store_result None value = pure tt
store_result (Some path) value = store path value

-- a statement, given what its parts do
abbrev pub stmt_step : Core → CoreStmt-F Meaning → Meaning
stmt_step core (stmt.Store path e) call = evaluate core e >>= store path >> pure Next
stmt_step core (stmt.If test chosen other) call = evaluate core test >>= (λ value. with_number value (λ number. choose (is_true number) (in_order chosen call) (in_order other call)))
stmt_step core (stmt.Loop stmts) call = loop (in_order stmts call >>= (λ flow. pure (after_round flow)))
stmt_step core stmt.Break call = pure Broke
stmt_step core (stmt.Call target function) call = call function >>= store_result target >> pure Next
stmt_step core (stmt.Put e) call = evaluate core e >>= (λ value. put_all (printed_form value)) >> pure Next
stmt_step core (stmt.Get path) call = get >>= (λ byte. store path (Number (gotten byte))) >> pure Next
stmt_step core (stmt.Halt kind file line) call = over (run.Halt kind file line)
stmt_step core (stmt.Return e) call = evaluate core e >>= (λ value. pure (Returned value))

unfoldable pub meaning : Core → CoreStmt → Meaning
meaning core s = fold-CoreStmt Meaning (stmt_step core) s

-- Functions -----------------------------------------------------------------------------------------------------------

-- a frame begins, with nothing written
abbrev pub begin : ℕ → CoreFun → Act Memory (Unit {0})
begin number function t memory = Went tt t (with_frame (record { function = number; vars = replicate (length function.vars) None }) memory)

-- the last frame ends
abbrev pub leave : {A : Type 0} → A → Act Memory A
leave value t memory = Went value t (without_frame memory)

-- what a function gives whose body was left so
abbrev pub given : Flow → Act Memory Value
given (Returned value) = pure value
given Next = stuck
given Broke = stuck

-- a function in its frame, to its end
abbrev pub body : Core → ℕ → CoreFun → Callees → Act Memory Value
body core number function call = begin number function >> (in_order (map (meaning core) function.body) call >>= given >>= leave)

-- functions by their numbers, given what their calls do
abbrev pub functions : Core → (ℕ → Unit {0} → Act Memory Value) → ℕ → Unit {0} → Act Memory Value
functions core call number _ = with_some (slice_get core.functions number) (λ function. body core number function (λ callee. call callee tt))

-- a call takes a turn
abbrev pub enter : ℕ → Unit {0} → Act Memory (Unit {0})
enter number _ = turn

-- what calls of functions do in a run
abbrev pub run_callees : Core → Callees
run_callees core number = calls enter (functions core) number tt

-- Programs ------------------------------------------------------------------------------------------------------------

-- the entry goes to its end, for which no turn is taken; the number that it gives is the exit value
abbrev pub program : Core → Act Memory ℤ
program core = with_some (slice_get core.functions core.entry) (λ function. body core core.entry function (run_callees core)) >>= (λ value. with_number value pure)

-- nothing has begun
abbrev pub no_frames : Memory
no_frames = record { frames = [] }

-- the whole run of a core on an input, in at most so many turns
unfoldable pub core_run : Core → List ℕ → ℕ → Outcome
core_run core input turns = whole_run (program core) no_frames input turns
