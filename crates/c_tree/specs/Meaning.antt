-- What a C program does, as a run (ISO C11, as far as the subset goes). An undefined case ends the run with Stuck and the number
-- of the function in whose frame, or above whose frame in an inline function, it is met. Functions are numbered from 0 in the
-- order of the file.
use Rattle.std.specs.Prelude.{ℕ, zero, suc, ◌+◌, ◌^◌, ◌-◌, ℤ, pos, negsuc, ◌+ℤ◌, ◌-ℤ◌, ◌*ℤ◌, neg_ℤ, int_div, int_rem, int_le, nat_abs, ◌==◌, List, [], ◌∷◌, ◌++◌, Bool, true, false, not, ◌&&◌, Option, Some, None, option_map, map, length, replicate, reverse, slice_get, nat_le, codes}
use Rattle.std.specs.Int.{int_rem_euclid}
use Rattle.std.specs.List.{position}
use Rattle.std.specs.Str.{bytes_eq}
use Rattle.sl_num.specs.declared.comparing.Comparison.{Comparison}
use Rattle.sl_num.specs.Comparing.{holds, truth}
use Rattle.sl_run.specs.Run.{Stuck, Act, Over, Went, pure, over, ◌>>=◌, ◌>>◌, choose, put, get, round_then, loop, keep_within, turn_within, calls}
use Rattle.sl_run.specs.Run as run
use Rattle.sl_run.specs.Statements.{FlowOf, Next, Broke, Returned, in_order, after_round, gotten}
use Rattle.sl_run.specs.Outcome.{Outcome, whole_run}
use Rattle.c_tree.specs.declared.tree.CFile.{CFile}
use Rattle.c_tree.specs.declared.tree.CVar.{CVar}
use Rattle.c_tree.specs.declared.tree.CType.{CType}
use Rattle.c_tree.specs.declared.tree.CType.TheVariants.{Int, Void}
use Rattle.c_tree.specs.declared.tree.CFun.{CFun}
use Rattle.c_tree.specs.declared.tree.CArg.{CArg}
use Rattle.c_tree.specs.declared.tree.CArg.TheVariants.{Value}
use Rattle.c_tree.specs.declared.tree.CPlace.{CPlace}
use Rattle.c_tree.specs.declared.tree.CPlace.TheVariants.{Name}
use Rattle.c_tree.specs.declared.tree.CBinary.{CBinary}
use Rattle.c_tree.specs.declared.tree.CBinary.TheVariants.{Add, Sub, Mul, Div, Rem}
use Rattle.c_tree.specs.declared.tree.CStmt.{CStmt, CStmt-F, fold-CStmt}
use Rattle.c_tree.specs.declared.tree.CStmt.TheOpen as stmt
use Rattle.c_tree.specs.declared.tree.CExpr.{CExpr, CExpr-F, fold-CExpr}
use Rattle.c_tree.specs.declared.tree.CExpr.TheOpen as expr
use Rattle.c_tree.specs.Bytes.{charge}
use Rattle.c_tree.specs.Scope.{Scope, scope_of, number_named, or_else, variable}
use Rattle.c_tree.specs.Memory.{Globals, FrameAt, Pointer, Tree, Unwritten, Number, Memory, live, owner_of, with_frame, without_frame, held, with_held, below_last}

-- how a statement is left: by the next one, by a `break`, or by a return
abbrev pub Flow : Type 0
Flow = FlowOf (Option ℤ)

-- what calls of functions by their names do with arguments, and give where they give something
abbrev pub Callees : Type 0
Callees = List ℕ → List Tree → Act Memory (Option ℤ)

-- an undefined case
abbrev pub stuck : {A : Type 0} → Act Memory A
stuck t memory = Over (Stuck (owner_of memory.frames)) t

-- a part of a run that needs something which there may not be
abbrev pub with_some : {A B : Type 0} → Option A → (A → Act Memory B) → Act Memory B
with_some None go = stuck
with_some (Some x) go = go x

-- Places --------------------------------------------------------------------------------------------------------------

-- the place of a variable in the last frame, or else of a global
abbrev pub place_named : Scope → List ℕ → Memory → Option Pointer
place_named scope name memory =
    or_else
    (option_map (λ number. record { frame = FrameAt (below_last memory.frames); variable = number; path = [] }) (number_named scope.locals name))
    (option_map (λ number. record { frame = Globals; variable = number; path = [] }) (number_named scope.globals name))

abbrev pub place_of : Scope → CPlace → Memory → Option Pointer
place_of scope (Name name) memory = place_named scope name memory

-- a place is found
abbrev pub located : Scope → CPlace → Act Memory Pointer
located scope place t memory = with_some (place_of scope place memory) pure t memory

-- a number that a place holds. A scalar that was never written has none
abbrev pub number_in : Option Tree → Option ℤ
number_in (Some (Number number)) = Some number
number_in other = None

-- the number at a place is read
abbrev pub read_number : Pointer → Act Memory ℤ
read_number pointer t memory = with_some (number_in (held pointer memory)) pure t memory

-- a number is stored at a place
abbrev pub write_number : Pointer → ℤ → Act Memory (Unit {0})
write_number pointer number t memory = Went tt t (with_held pointer (Number number) memory)

-- Expressions ---------------------------------------------------------------------------------------------------------

-- a number is zero
abbrev pub is_zero : ℤ → Bool
is_zero n = nat_abs n == 0

-- two truth values are the same
abbrev pub same : Bool → Bool → Bool
same true other = other
same false other = not other

-- a number of a type of 64 bits, with a sign or without one
pub record Word : Type 0 where
  pub signed : Bool
  pub number : ℤ

-- the value of an operator on ℤ. A quotient is truncated towards zero, and a remainder has the sign of the dividend (ISO C11, 6.5.5)
abbrev pub exact : CBinary → ℤ → ℤ → ℤ
exact Add a b = a +ℤ b
exact Sub a b = a -ℤ b
exact Mul a b = a *ℤ b
exact Div a b = int_div a b
exact Rem a b = int_rem a b

-- whether an operator has a divisor
abbrev pub divides : CBinary → Bool
divides Div = true
divides Rem = true
divides other = false

-- a number is one of 64 bits with a sign
abbrev pub is_int64 : ℤ → Bool
is_int64 n = int_le (neg_ℤ (pos (2 ^ 63))) n && int_le n (pos (2 ^ 63 - 1))

-- a number of 64 bits with a sign, where it is one; else there is an overflow
abbrev pub int64 : ℤ → Act Memory Word
int64 n = choose (is_int64 n) (pure (record { signed = true; number = n })) stuck

-- a number of 64 bits without a sign: what a number is modulo 2 ^ 64
abbrev pub uint64 : ℤ → Act Memory Word
uint64 n = pure (record { signed = false; number = int_rem_euclid n (pos (2 ^ 64)) })

-- An operator on numbers with a sign: undefined where the divisor is zero, where the result overflows, and for a remainder where
-- the quotient does (ISO C11, 6.5.5 and 6.5)
abbrev pub int64_of : CBinary → ℤ → ℤ → Act Memory Word
int64_of Rem a b = int64 (int_div a b) >> int64 (int_rem a b)
int64_of operator a b = int64 (exact operator a b)

-- an operator on two numbers of one type
abbrev pub binary_at : Bool → CBinary → ℤ → ℤ → Act Memory Word
binary_at signed operator a b =
    choose (divides operator && is_zero b) stuck (choose signed (int64_of operator a b) (uint64 (exact operator a b)))

abbrev pub binary : CBinary → Word → Word → Act Memory Word
binary operator left right = choose (same left.signed right.signed) (binary_at left.signed operator left.number right.number) stuck

-- a comparison of two numbers of one type
abbrev pub compared : Comparison → Word → Word → Act Memory Word
compared comparison left right = choose (same left.signed right.signed) (pure (record { signed = true; number = truth (holds comparison left.number right.number) })) stuck

-- a number with a sign, negated
abbrev pub negated : Word → Act Memory Word
negated operand = choose operand.signed (int64 (neg_ℤ operand.number)) stuck

-- whether the variable of a place holds numbers with a sign
abbrev pub kind_is_signed : CType → Bool
kind_is_signed (Int signed width) = signed
kind_is_signed Void = true

abbrev pub var_is_signed : Option CVar → Bool
var_is_signed None = true
var_is_signed (Some var) = kind_is_signed var.kind

abbrev pub place_is_signed : Scope → CPlace → Bool
place_is_signed scope (Name name) = var_is_signed (variable scope name)

-- what a place holds, as a number of its type
abbrev pub read_word : Scope → CPlace → Act Memory Word
read_word scope place = located scope place >>= read_number >>= (λ number. pure (record { signed = place_is_signed scope place; number = number }))

-- an expression, given what its parts give; operands are computed from left to right
abbrev pub expr_step : Scope → CExpr-F (Act Memory Word) → Act Memory Word
expr_step scope (expr.Const signed number) = pure (record { signed = signed; number = pos number })
expr_step scope (expr.Read place) = read_word scope place
expr_step scope (expr.Binary operator left right) = left >>= (λ x. right >>= (λ y. binary operator x y))
expr_step scope (expr.Compare comparison left right) = left >>= (λ x. right >>= (λ y. compared comparison x y))
expr_step scope (expr.Negate operand) = operand >>= negated

-- the value of an expression
unfoldable pub evaluate : Scope → CExpr → Act Memory Word
evaluate scope e = fold-CExpr (Act Memory Word) (expr_step scope) e

-- arguments are computed from left to right
abbrev pub arguments : Scope → List CArg → Act Memory (List Tree)
arguments scope [] = pure []
arguments scope (Value e ∷ others) = evaluate scope e >>= (λ x. arguments scope others >>= (λ rest. pure (Number x.number ∷ rest)))

-- Statements ----------------------------------------------------------------------------------------------------------

-- what a statement does, given what calls do
abbrev pub Meaning : Type 0
Meaning = Callees → Act Memory Flow

abbrev pub in_order_else : Option (List Meaning) → Meaning
in_order_else None call = pure Next
in_order_else (Some ms) call = in_order ms call

-- The rounds of a counted loop from a count on, so many of them: the count is stored in the variable, and the body goes round once;
-- after the last of them the count at which the test fails is stored. No round takes a turn. Nothing in the body stores in the
-- variable (rule 20), so what `++` stores is the next count
abbrev pub rounds : Pointer → Act Memory Flow → (from count : ℕ) → Act Memory Flow
rounds pointer body from zero = write_number pointer (pos from) >> pure Next
rounds pointer body from (suc count) = write_number pointer (pos from) >> (body >>= (λ flow. round_then (after_round flow) (rounds pointer body (suc from) count)))

-- `sl_put` puts a number from 0 to 255 as a byte, and is undefined on every other
abbrev pub put_value : ℤ → Act Memory Flow
put_value (pos byte) = choose (nat_le byte 255) (put byte >> pure Next) stuck
put_value (negsuc below) = stuck

-- what a call gives is stored at a place, and there is something
abbrev pub store_result : Pointer → Option ℤ → Act Memory (Unit {0})
store_result pointer value = with_some value (write_number pointer)

-- A call. Its target is found first, then the arguments are computed, and then it is called; what it gives is stored, or dropped where
-- there is no target
abbrev pub call_to : Scope → Option CPlace → List ℕ → List CArg → Meaning
call_to scope None name args call = arguments scope args >>= call name >> pure Next
call_to scope (Some place) name args call = located scope place >>= (λ pointer. arguments scope args >>= call name >>= store_result pointer) >> pure Next

abbrev pub returned : Scope → Option CExpr → Act Memory Flow
returned scope None = pure (Returned None)
returned scope (Some e) = evaluate scope e >>= (λ x. pure (Returned (Some x.number)))

-- A statement, given what its parts do. What `sl_get` gives is `gotten`: the byte that was there, as an unsigned char (ISO C11,
-- 7.21.7.1), or -1 at the end of the input
abbrev pub stmt_step : Scope → CStmt-F Meaning → Meaning
stmt_step scope (stmt.Assign place e) call = located scope place >>= (λ pointer. evaluate scope e >>= (λ x. write_number pointer x.number)) >> pure Next
stmt_step scope (stmt.Call target name args) call = call_to scope target name args call
stmt_step scope (stmt.If test chosen other) call = evaluate scope test >>= (λ x. choose (not (is_zero x.number)) (in_order chosen call) (in_order_else other call))
stmt_step scope (stmt.Loop body) call = loop (in_order body call >>= (λ flow. pure (after_round flow)))
stmt_step scope (stmt.Count set tested count raised body) call = located scope (Name set) >>= (λ pointer. rounds pointer (in_order body call) 0 count)
stmt_step scope stmt.Break call = pure Broke
stmt_step scope (stmt.Return value) call = returned scope value
stmt_step scope (stmt.Put e) call = evaluate scope e >>= (λ x. put_value x.number)
stmt_step scope (stmt.Get place) call = located scope place >>= (λ pointer. get >>= (λ byte. write_number pointer (gotten byte))) >> pure Next
stmt_step scope (stmt.Halt kind file line) call = over (run.Halt kind file line)

unfoldable pub meaning : Scope → CStmt → Meaning
meaning scope s = fold-CStmt Meaning (stmt_step scope) s

-- a block
abbrev pub block : Scope → List CStmt → Meaning
block scope stmts = in_order (map (meaning scope) stmts)

-- Functions -----------------------------------------------------------------------------------------------------------

-- what a function gives whose body was left so. One with a result has to return, and a `break` has to stand in a loop
abbrev pub given : CType → Flow → Act Memory (Option ℤ)
given kind (Returned value) = pure value
given kind Broke = stuck
given Void Next = pure None
given (Int signed width) Next = stuck

-- the frame of a function begins, with these arguments; its variables are unwritten
abbrev pub begin : ℕ → ℕ → CFun → List Tree → Act Memory (Unit {0})
begin owner bytes function args t memory =
    Went tt t (with_frame (record { owner = owner; bytes = bytes; vars = args ++ replicate (length function.vars) Unwritten }) memory)

-- the last frame ends
abbrev pub leave : {A : Type 0} → A → Act Memory A
leave value t memory = Went value t (without_frame memory)

-- the body of a function in its frame, but for the end of the frame
abbrev pub in_frame : CFile → CFun → Callees → Act Memory (Option ℤ)
in_frame file function call = block (scope_of file function) function.body call >>= given function.result

-- the body of a function in its frame, to its end
abbrev pub body : CFile → CFun → Callees → Act Memory (Option ℤ)
body file function call = in_frame file function call >>= leave

-- an inline function begins its frame, which counts no bytes, above its caller's
abbrev pub begin_inline : CFun → List Tree → Act Memory (Unit {0})
begin_inline function args t memory = begin (owner_of memory.frames) 0 function args t memory

-- What calls of inline functions do, of those in the list, in which each calls only those behind it. No turn is taken
abbrev pub inline_callees : CFile → List CFun → Callees
inline_callees file [] name args = stuck
inline_callees file (function ∷ earlier) name args =
    choose (function.inline && bytes_eq function.name name)
    (begin_inline function args >> body file function (inline_callees file earlier))
    (inline_callees file earlier name args)

-- the number of the function with this name, of those that aren't inline
abbrev pub number_of : CFile → List ℕ → Option ℕ
number_of file name = position (λ function. not function.inline && bytes_eq function.name name) file.functions

-- the calls that functions can make, given what calls of functions that aren't inline do, by number
abbrev pub numbered_call : CFile → (ℕ → List Tree → Act Memory (Option ℤ)) → List ℕ → Option ℕ → List Tree → Act Memory (Option ℤ)
numbered_call file call name None args = inline_callees file (reverse file.functions) name args
numbered_call file call name (Some number) args = call number args

abbrev pub callees : CFile → (ℕ → List Tree → Act Memory (Option ℤ)) → Callees
callees file call name args = numbered_call file call name (number_of file name) args

-- what functions that aren't inline do, given what their calls do
abbrev pub functions : CFile → (ℕ → List Tree → Act Memory (Option ℤ)) → ℕ → List Tree → Act Memory (Option ℤ)
functions file call number args =
    with_some (slice_get file.functions number) (λ function.
    begin number (charge file function) function args >> body file function (callees file call))

-- the charge of the function with this number
abbrev pub charge_of : CFile → Option CFun → ℕ
charge_of file None = 0
charge_of file (Some function) = charge file function

-- A call of a function that isn't inline takes a turn, and then its bytes are live beside those that are
abbrev pub enter : CFile → Option ℕ → ℕ → List Tree → Act Memory (Unit {0})
enter file limit number args t memory = turn_within limit (live memory + charge_of file (slice_get file.functions number)) t memory

-- what calls of functions by their names do in a run with this limit of live bytes
abbrev pub run_callees : CFile → Option ℕ → Callees
run_callees file limit = callees file (calls (enter file limit) (functions file))

-- Programs ------------------------------------------------------------------------------------------------------------

-- What `sl_main` gives is the exit value. Where the rules are kept it gives one
abbrev pub exit_value : Option ℤ → Act Memory ℤ
exit_value value = with_some value pure

-- the frame of `sl_main` begins, which takes no turn
abbrev pub begin_start : CFile → Option ℕ → ℕ → CFun → Act Memory (Unit {0})
begin_start file limit number function = keep_within limit (charge file function) >> begin number (charge file function) function []

-- `sl_main` begins; what it gives is the exit value, and its frame ends
abbrev pub program : CFile → Option ℕ → Act Memory ℤ
program file limit =
    with_some (number_of file (codes "sl_main")) (λ number.
    with_some (slice_get file.functions number) (λ function.
    begin_start file limit number function >> (in_frame file function (run_callees file limit) >>= exit_value >>= leave)))

-- the memory before the run: the globals are unwritten
abbrev pub first_memory : CFile → Memory
first_memory file = record { globals = replicate (length file.globals) Unwritten; frames = [] }

-- the whole run of a C file on an input, in at most so many turns, with a limit of live bytes or none
unfoldable pub c_run : CFile → Option ℕ → List ℕ → ℕ → Outcome
c_run file limit input turns = whole_run (program file limit) (first_memory file) input turns
