-- What small trees do, and how many bytes things have.
use Rattle.std.proofs.Common.{◌≡◌, ℕ, ℤ, List, [], ◌∷◌, true, false, Option, Some, None, refl, codes}
use Rattle.std.specs.Prelude.{◌%◌, pos, negsuc}
use Rattle.sl_num.specs.declared.comparing.Comparison.TheVariants.{Less, Equal}
use Rattle.sl_run.specs.Run.{Done, TurnsSpent, StackSpent, Stuck, Puts, Asks}
use Rattle.sl_run.specs.Run as run
use Rattle.sl_run.specs.Outcome.{Outcome, whole_run}
use Rattle.c_tree.specs.declared.tree.CArg.TheVariants.{Value}
use Rattle.c_tree.specs.declared.tree.CBinary.TheVariants.{Add, Sub, Mul, Div, Rem}
use Rattle.c_tree.specs.declared.tree.CFile.{CFile}
use Rattle.c_tree.specs.declared.tree.CStruct.{CStruct}
use Rattle.c_tree.specs.declared.tree.CMember.{CMember}
use Rattle.c_tree.specs.declared.tree.CFun.{CFun}
use Rattle.c_tree.specs.declared.tree.CPlace.TheVariants.{Name}
use Rattle.c_tree.specs.declared.tree.CStmt.{CStmt}
use Rattle.c_tree.specs.declared.tree.CStmt.TheVariants.{Call, If, Loop, Count, Break, Return, Put, Get, Halt}
use Rattle.c_tree.specs.declared.tree.CType.TheVariants.{Int, Void}
use Rattle.c_tree.specs.declared.tree.CExpr.{CExpr}
use Rattle.c_tree.specs.declared.tree.CExpr.TheVariants.{Binary, Compare, Negate}
use Rattle.c_tree.specs.Bytes.{struct_extent, frame_bytes, charge}
use Rattle.c_tree.specs.Meaning.{c_run}
use Rattle.c_tree.proofs.Running.{running}
use Rattle.c_tree.proofs.Variants.{actions_are}
use Rattle.c_tree.proofs.Small.{word, function_with, inline_with, start_with, signed, unsigned, named, give, say, bare_call, set, file_with, start_alone}

-- Runs ----------------------------------------------------------------------------------------------------------------

-- `sl_main` puts a byte and returns
pub puts_and_returns : (input : List ℕ) (turns : ℕ) → c_run (start_alone (say 65 ∷ give 7 ∷ [])) None input turns ≡ record { ending = Done (pos 7); events = Puts 65 ∷ []; rest = input; left = turns }
unfolding c_run whole_run
puts_and_returns input turns = simp running

-- what stands behind a return isn't done
pub return_ends : (input : List ℕ) (turns : ℕ) → c_run (start_alone (give 7 ∷ say 65 ∷ give 8 ∷ [])) None input turns ≡ record { ending = Done (pos 7); events = []; rest = input; left = turns }
unfolding c_run whole_run
return_ends input turns = simp running

-- 255 is a byte
pub greatest_byte : (input : List ℕ) (turns : ℕ) → c_run (start_alone (say 255 ∷ give 7 ∷ [])) None input turns ≡ record { ending = Done (pos 7); events = Puts 255 ∷ []; rest = input; left = turns }
unfolding c_run whole_run
greatest_byte input turns = simp running

-- 256 is none, and what was put before it stays put
pub no_byte : (input : List ℕ) (turns : ℕ) → c_run (start_alone (say 65 ∷ say 256 ∷ give 7 ∷ [])) None input turns ≡ record { ending = Stuck 0; events = Puts 65 ∷ []; rest = input; left = turns }
unfolding c_run whole_run
no_byte input turns = simp running

-- nor is a negative number
pub no_negative_byte : (input : List ℕ) (turns : ℕ) → c_run (start_alone (Put (Negate (signed 1)) ∷ give 7 ∷ [])) None input turns ≡ record { ending = Stuck 0; events = []; rest = input; left = turns }
unfolding c_run whole_run
no_negative_byte input turns = simp running

-- there is no function `f`
pub no_function : (input : List ℕ) (turns : ℕ) → c_run (start_alone (bare_call (codes "f") ∷ give 7 ∷ [])) None input turns ≡ record { ending = Stuck 0; events = []; rest = input; left = turns }
unfolding c_run whole_run
no_function input turns = simp running

-- there is no `sl_main`
pub no_start : (input : List ℕ) (turns : ℕ) → c_run (file_with [] []) None input turns ≡ record { ending = Stuck 0; events = []; rest = input; left = turns }
unfolding c_run whole_run
no_start input turns = refl

-- `sl_main` comes to its end without a value
pub no_value : (input : List ℕ) (turns : ℕ) → c_run (start_alone []) None input turns ≡ record { ending = Stuck 0; events = []; rest = input; left = turns }
unfolding c_run whole_run
no_value input turns = refl

-- it returns without one, and stands behind another function: the number is its own
pub no_value_behind : (input : List ℕ) (turns : ℕ) → c_run (file_with [] (function_with (codes "f") Void [] ∷ start_with (Return None ∷ []) ∷ [])) None input turns ≡ record { ending = Stuck 1; events = []; rest = input; left = turns }
unfolding c_run whole_run
no_value_behind input turns = simp running

-- a file of `sl_main`, which puts 65, calls `f`, puts 67 and returns 7, and behind it `f` with these statements
abbrev calling : List CStmt → CFile
calling body =
    let start : CFun = start_with (say 65 ∷ bare_call (codes "f") ∷ say 67 ∷ give 7 ∷ []) in
    let called : CFun = function_with (codes "f") (Int true 64) body in
    file_with (start ∷ called ∷ []) (start ∷ called ∷ [])

-- without a turn it isn't called
pub turns_spent : (input : List ℕ) → c_run (calling (say 66 ∷ give 9 ∷ [])) None input 0 ≡ record { ending = TurnsSpent; events = Puts 65 ∷ []; rest = input; left = 0 }
unfolding c_run whole_run
turns_spent input = simp running

-- with a turn it is, and what it gives is dropped
pub turn_taken : (input : List ℕ) → c_run (calling (say 66 ∷ give 9 ∷ [])) None input 1 ≡ record { ending = Done (pos 7); events = Puts 65 ∷ Puts 66 ∷ Puts 67 ∷ []; rest = input; left = 0 }
unfolding c_run whole_run
turn_taken input = simp running

-- what is undefined in it is so in the function with the number 1
pub stuck_in_called : (input : List ℕ) → c_run (calling (say 256 ∷ give 9 ∷ [])) None input 3 ≡ record { ending = Stuck 1; events = Puts 65 ∷ []; rest = input; left = 2 }
unfolding c_run whole_run
stuck_in_called input = simp running

-- it comes to its end without a value, though it has a result
pub no_value_in_called : (input : List ℕ) → c_run (calling []) None input 3 ≡ record { ending = Stuck 1; events = Puts 65 ∷ []; rest = input; left = 2 }
unfolding c_run whole_run
no_value_in_called input = simp running

-- each of the two frames has 16 bytes
pub stack_spent : (input : List ℕ) → c_run (calling (give 9 ∷ [])) (Some 31) input 1 ≡ record { ending = StackSpent; events = Puts 65 ∷ []; rest = input; left = 1 }
unfolding c_run whole_run
stack_spent input = simp running

-- with 32 bytes both have room
pub stack_enough : (input : List ℕ) → c_run (calling (give 9 ∷ [])) (Some 32) input 1 ≡ record { ending = Done (pos 7); events = Puts 65 ∷ Puts 67 ∷ []; rest = input; left = 0 }
unfolding c_run whole_run
stack_enough input = simp running

-- where neither a turn is left nor room in the stack, the turn is missed first
pub turn_first : (input : List ℕ) → c_run (calling (give 9 ∷ [])) (Some 31) input 0 ≡ record { ending = TurnsSpent; events = Puts 65 ∷ []; rest = input; left = 0 }
unfolding c_run whole_run
turn_first input = simp running

-- a function that calls itself takes a turn and a frame for each call
pub goes_round : (input : List ℕ) → c_run (calling (say 66 ∷ bare_call (codes "f") ∷ [])) None input 2 ≡ record { ending = TurnsSpent; events = Puts 65 ∷ Puts 66 ∷ Puts 66 ∷ []; rest = input; left = 0 }
unfolding c_run whole_run
goes_round input = simp running

-- and where three frames have no room, the third isn't begun
pub goes_deep : (input : List ℕ) → c_run (calling (say 66 ∷ bare_call (codes "f") ∷ [])) (Some 47) input 2 ≡ record { ending = StackSpent; events = Puts 65 ∷ Puts 66 ∷ []; rest = input; left = 1 }
unfolding c_run whole_run
goes_deep input = simp running

-- `sl_main` calls `f` twice
abbrev twice_calling : CFile
twice_calling =
    let start : CFun = start_with (bare_call (codes "f") ∷ bare_call (codes "f") ∷ give 7 ∷ []) in
    let called : CFun = function_with (codes "f") Void (say 66 ∷ []) in
    file_with (start ∷ called ∷ []) (start ∷ called ∷ [])

-- after the first call its bytes are free
pub bytes_are_freed : (input : List ℕ) → c_run twice_calling (Some 32) input 2 ≡ record { ending = Done (pos 7); events = Puts 66 ∷ Puts 66 ∷ []; rest = input; left = 0 }
unfolding c_run whole_run
bytes_are_freed input = simp running

-- a file of an inline function `f` with these statements, and behind it `sl_main`, which calls it
abbrev inline_calling : List CStmt → CFile
inline_calling body =
    let start : CFun = start_with (bare_call (codes "f") ∷ give 7 ∷ []) in
    file_with (start ∷ []) (inline_with (codes "f") Void body ∷ start ∷ [])

-- the call takes no turn
pub inline_takes_none : (input : List ℕ) (turns : ℕ) → c_run (inline_calling (say 66 ∷ [])) None input turns ≡ record { ending = Done (pos 7); events = Puts 66 ∷ []; rest = input; left = turns }
unfolding c_run whole_run
inline_takes_none input turns = simp running

-- what is undefined in it is so in the function that called it, with the number 1
pub stuck_in_inline : (input : List ℕ) (turns : ℕ) → c_run (inline_calling (say 256 ∷ [])) None input turns ≡ record { ending = Stuck 1; events = []; rest = input; left = turns }
unfolding c_run whole_run
stuck_in_inline input turns = simp running

-- an inline function can't call itself
pub inline_calls_itself : (input : List ℕ) (turns : ℕ) → c_run (inline_calling (bare_call (codes "f") ∷ [])) None input turns ≡ record { ending = Stuck 1; events = []; rest = input; left = turns }
unfolding c_run whole_run
inline_calls_itself input turns = simp running

-- its 16 bytes are live from the start of `sl_main` on
pub inline_spent : (input : List ℕ) (turns : ℕ) → c_run (inline_calling (say 66 ∷ [])) (Some 31) input turns ≡ record { ending = StackSpent; events = []; rest = input; left = turns }
unfolding c_run whole_run
inline_spent input turns = simp actions_are

-- with 32 bytes it has room, and it is called without a turn
pub inline_enough : (input : List ℕ) (turns : ℕ) → c_run (inline_calling (say 66 ∷ [])) (Some 32) input turns ≡ record { ending = Done (pos 7); events = Puts 66 ∷ []; rest = input; left = turns }
unfolding c_run whole_run
inline_enough input turns = simp (running, actions_are)

-- `sl_main` alone has 16 bytes
pub start_spent : (input : List ℕ) (turns : ℕ) → c_run (start_alone (give 7 ∷ [])) (Some 15) input turns ≡ record { ending = StackSpent; events = []; rest = input; left = turns }
unfolding c_run whole_run
start_spent input turns = refl

-- with 16 bytes it has room
pub start_enough : (input : List ℕ) (turns : ℕ) → c_run (start_alone (give 7 ∷ [])) (Some 16) input turns ≡ record { ending = Done (pos 7); events = []; rest = input; left = turns }
unfolding c_run whole_run
start_enough input turns = simp running

-- Expressions ---------------------------------------------------------------------------------------------------------

-- `sl_main` returns the value of an expression
abbrev giving : CExpr → CFile
giving e = start_alone (Return (Some e) ∷ [])

-- the run is done with this value
abbrev done_with : ℤ → List ℕ → ℕ → Outcome
done_with value input turns = record { ending = Done value; events = []; rest = input; left = turns }

-- the run is stuck in `sl_main`
abbrev stuck_at_once : List ℕ → ℕ → Outcome
stuck_at_once input turns = record { ending = Stuck 0; events = []; rest = input; left = turns }

-- `(-9223372036854775807 - 1)`, the least number
abbrev least : CExpr
least = Binary Sub (Negate (signed 9223372036854775807)) (signed 1)

-- a sum
pub sum_is : (input : List ℕ) (turns : ℕ) → c_run (giving (Binary Add (signed 3) (Negate (signed 5)))) None input turns ≡ done_with (negsuc 1) input turns
unfolding c_run whole_run
sum_is input turns = simp running

-- a product of differences: (2 - 5) * (9 - 2)
pub product_is : (input : List ℕ) (turns : ℕ) → c_run (giving (Binary Mul (Binary Sub (signed 2) (signed 5)) (Binary Sub (signed 9) (signed 2)))) None input turns ≡ done_with (negsuc 20) input turns
unfolding c_run whole_run
product_is input turns = simp running

-- a quotient is truncated towards zero: -7 / 2 is -3
pub quotient_is : (input : List ℕ) (turns : ℕ) → c_run (giving (Binary Div (Negate (signed 7)) (signed 2))) None input turns ≡ done_with (negsuc 2) input turns
unfolding c_run whole_run
quotient_is input turns = simp running

-- and a remainder has the sign of the dividend: -7 % 2 is -1
pub remainder_is : (input : List ℕ) (turns : ℕ) → c_run (giving (Binary Rem (Negate (signed 7)) (signed 2))) None input turns ≡ done_with (negsuc 0) input turns
unfolding c_run whole_run
remainder_is input turns = simp running

-- the least number is one
pub least_is : (input : List ℕ) (turns : ℕ) → c_run (giving least) None input turns ≡ done_with (negsuc 9223372036854775807) input turns
unfolding c_run whole_run
least_is input turns = simp running

-- its quotient by -1 would overflow
pub least_divided : (input : List ℕ) (turns : ℕ) → c_run (giving (Binary Div least (Negate (signed 1)))) None input turns ≡ stuck_at_once input turns
unfolding c_run whole_run
least_divided input turns = simp running

-- so its remainder by -1 is undefined too
pub least_remains : (input : List ℕ) (turns : ℕ) → c_run (giving (Binary Rem least (Negate (signed 1)))) None input turns ≡ stuck_at_once input turns
unfolding c_run whole_run
least_remains input turns = simp running

-- and it has no negation
pub least_negated : (input : List ℕ) (turns : ℕ) → c_run (giving (Negate least)) None input turns ≡ stuck_at_once input turns
unfolding c_run whole_run
least_negated input turns = simp running

-- a sum that overflows
pub sum_overflows : (input : List ℕ) (turns : ℕ) → c_run (giving (Binary Add (signed 9223372036854775807) (signed 1))) None input turns ≡ stuck_at_once input turns
unfolding c_run whole_run
sum_overflows input turns = simp running

-- of numbers without a sign it is 0
pub sum_wraps : (input : List ℕ) (turns : ℕ) → c_run (giving (Compare Equal (Binary Add (unsigned 18446744073709551615) (unsigned 1)) (unsigned 0))) None input turns ≡ done_with (pos 1) input turns
unfolding c_run whole_run
sum_wraps input turns = simp running

-- and 0 - 1 is the greatest
pub difference_wraps : (input : List ℕ) (turns : ℕ) → c_run (giving (Compare Equal (Binary Sub (unsigned 0) (unsigned 1)) (unsigned 18446744073709551615))) None input turns ≡ done_with (pos 1) input turns
unfolding c_run whole_run
difference_wraps input turns = simp running

-- a divisor that is zero
pub zero_divides : (input : List ℕ) (turns : ℕ) → c_run (giving (Binary Div (signed 7) (signed 0))) None input turns ≡ stuck_at_once input turns
unfolding c_run whole_run
zero_divides input turns = simp running

-- of a remainder without a sign
pub zero_remains : (input : List ℕ) (turns : ℕ) → c_run (giving (Binary Rem (unsigned 7) (unsigned 0))) None input turns ≡ stuck_at_once input turns
unfolding c_run whole_run
zero_remains input turns = simp running

-- numbers of two types have no sum
pub types_mixed : (input : List ℕ) (turns : ℕ) → c_run (giving (Binary Add (signed 1) (unsigned 1))) None input turns ≡ stuck_at_once input turns
unfolding c_run whole_run
types_mixed input turns = simp running

-- and aren't compared
pub types_compared : (input : List ℕ) (turns : ℕ) → c_run (giving (Compare Equal (signed 1) (unsigned 1))) None input turns ≡ stuck_at_once input turns
unfolding c_run whole_run
types_compared input turns = simp running

-- a number without a sign has no negation
pub unsigned_negated : (input : List ℕ) (turns : ℕ) → c_run (giving (Negate (unsigned 1))) None input turns ≡ stuck_at_once input turns
unfolding c_run whole_run
unsigned_negated input turns = simp running

-- a comparison that holds is 1
pub less_holds : (input : List ℕ) (turns : ℕ) → c_run (giving (Compare Less (Negate (signed 1)) (signed 0))) None input turns ≡ done_with (pos 1) input turns
unfolding c_run whole_run
less_holds input turns = simp running

-- and one that doesn't is 0
pub less_fails : (input : List ℕ) (turns : ℕ) → c_run (giving (Compare Less (signed 0) (signed 0))) None input turns ≡ done_with (pos 0) input turns
unfolding c_run whole_run
less_fails input turns = simp running

-- Variables -----------------------------------------------------------------------------------------------------------

-- `sl_main` with a variable `a`, beside a global `a` and a global `g`
abbrev with_variable : List CStmt → CFile
with_variable body =
    let start : CFun = record (start_with body) { vars = word (codes "a") ∷ [] } in
    record (file_with (start ∷ []) (start ∷ [])) { globals = word (codes "a") ∷ word (codes "g") ∷ [] }

-- a variable that is read before it is written
pub read_unwritten : (input : List ℕ) (turns : ℕ) → c_run (with_variable (Return (Some (named (codes "a"))) ∷ [])) None input turns ≡ stuck_at_once input turns
unfolding c_run whole_run
read_unwritten input turns = simp running

-- one that is written, and written anew, and read
pub read_written : (input : List ℕ) (turns : ℕ) → c_run (with_variable (set (codes "a") (signed 5) ∷ set (codes "a") (Binary Mul (named (codes "a")) (named (codes "a"))) ∷ Return (Some (named (codes "a"))) ∷ [])) None input turns ≡ done_with (pos 25) input turns
unfolding c_run whole_run
read_written input turns = simp running

-- a global variable is another place than the local one
pub read_global : (input : List ℕ) (turns : ℕ) → c_run (with_variable (set (codes "g") (signed 5) ∷ set (codes "a") (signed 6) ∷ Return (Some (named (codes "g"))) ∷ [])) None input turns ≡ done_with (pos 5) input turns
unfolding c_run whole_run
read_global input turns = simp running

-- and a name that nothing declares is none
pub read_undeclared : (input : List ℕ) (turns : ℕ) → c_run (with_variable (set (codes "b") (signed 5) ∷ give 7 ∷ [])) None input turns ≡ stuck_at_once input turns
unfolding c_run whole_run
read_undeclared input turns = simp running

-- Branches ------------------------------------------------------------------------------------------------------------

-- where the test isn't zero, the first block is done, and then what comes behind
pub first_branch : (input : List ℕ) (turns : ℕ) → c_run (start_alone (If (Negate (signed 1)) (say 65 ∷ []) (Some (say 66 ∷ [])) ∷ say 67 ∷ give 7 ∷ [])) None input turns ≡ record { ending = Done (pos 7); events = Puts 65 ∷ Puts 67 ∷ []; rest = input; left = turns }
unfolding c_run whole_run
first_branch input turns = simp running

-- where it is zero, the other one is
pub other_branch : (input : List ℕ) (turns : ℕ) → c_run (start_alone (If (signed 0) (say 65 ∷ []) (Some (say 66 ∷ [])) ∷ say 67 ∷ give 7 ∷ [])) None input turns ≡ record { ending = Done (pos 7); events = Puts 66 ∷ Puts 67 ∷ []; rest = input; left = turns }
unfolding c_run whole_run
other_branch input turns = simp running

-- without `else` nothing is
pub no_branch : (input : List ℕ) (turns : ℕ) → c_run (start_alone (If (signed 0) (say 65 ∷ []) None ∷ say 67 ∷ give 7 ∷ [])) None input turns ≡ record { ending = Done (pos 7); events = Puts 67 ∷ []; rest = input; left = turns }
unfolding c_run whole_run
no_branch input turns = simp running

-- a return in a block leaves the function
pub branch_returns : (input : List ℕ) (turns : ℕ) → c_run (start_alone (If (signed 1) (give 8 ∷ say 65 ∷ []) None ∷ say 67 ∷ give 7 ∷ [])) None input turns ≡ done_with (pos 8) input turns
unfolding c_run whole_run
branch_returns input turns = simp running

-- `sl_halt` ends the run with its three numbers
pub halt_ends : (input : List ℕ) (turns : ℕ) → c_run (start_alone (say 65 ∷ Halt 2 0 31 ∷ say 66 ∷ give 7 ∷ [])) None input turns ≡ record { ending = run.Halt 2 0 31; events = Puts 65 ∷ []; rest = input; left = turns }
unfolding c_run whole_run
halt_ends input turns = simp running

-- Loops ---------------------------------------------------------------------------------------------------------------

-- `for (a = INT64_C(0); a < COUNT; a++) { .. }`
abbrev counting : ℕ → List CStmt → CStmt
counting count body = Count (codes "a") (codes "a") count (codes "a") body

-- `a`
abbrev counter : CExpr
counter = named (codes "a")

-- a counted loop has each number below its count, and leaves the count in its variable. It takes no turn
pub counts_up : (input : List ℕ) (turns : ℕ) → c_run (with_variable (counting 3 (Put counter ∷ []) ∷ Return (Some counter) ∷ [])) None input turns ≡ record { ending = Done (pos 3); events = Puts 0 ∷ Puts 1 ∷ Puts 2 ∷ []; rest = input; left = turns }
unfolding c_run whole_run
counts_up input turns = simp running

-- with the count 0 its block isn't done, and 0 is stored
pub counts_none : (input : List ℕ) (turns : ℕ) → c_run (with_variable (counting 0 (say 65 ∷ []) ∷ Return (Some counter) ∷ [])) None input turns ≡ done_with (pos 0) input turns
unfolding c_run whole_run
counts_none input turns = simp running

-- where it is left by a `break`, its variable has the number of this round
pub count_broken : (input : List ℕ) (turns : ℕ) → c_run (with_variable (counting 5 (say 65 ∷ If (Compare Equal counter (signed 1)) (Break ∷ []) None ∷ say 66 ∷ []) ∷ Return (Some counter) ∷ [])) None input turns ≡ record { ending = Done (pos 1); events = Puts 65 ∷ Puts 66 ∷ Puts 65 ∷ []; rest = input; left = turns }
unfolding c_run whole_run
count_broken input turns = simp running

-- a `for` whose variable nothing declares has no place
pub count_nowhere : (input : List ℕ) (turns : ℕ) → c_run (start_alone (counting 0 [] ∷ give 7 ∷ [])) None input turns ≡ stuck_at_once input turns
unfolding c_run whole_run
count_nowhere input turns = simp running

-- a loop takes a turn for each round, and is over where none is left
pub loop_spends : (input : List ℕ) → c_run (start_alone (Loop (say 65 ∷ []) ∷ give 7 ∷ [])) None input 2 ≡ record { ending = TurnsSpent; events = Puts 65 ∷ Puts 65 ∷ []; rest = input; left = 0 }
unfolding c_run whole_run
loop_spends input = simp running

-- a `break` leaves it, and what comes behind the loop is done
pub loop_broken : (input : List ℕ) → c_run (start_alone (Loop (say 65 ∷ Break ∷ say 66 ∷ []) ∷ say 67 ∷ give 7 ∷ [])) None input 2 ≡ record { ending = Done (pos 7); events = Puts 65 ∷ Puts 67 ∷ []; rest = input; left = 1 }
unfolding c_run whole_run
loop_broken input = simp running

-- without a turn its block isn't done at all
pub loop_missed : (input : List ℕ) → c_run (start_alone (Loop (Break ∷ []) ∷ give 7 ∷ [])) None input 0 ≡ record { ending = TurnsSpent; events = []; rest = input; left = 0 }
unfolding c_run whole_run
loop_missed input = simp running

-- a `break` leaves the innermost loop around it alone, though it stands in an `if`
pub inner_broken : (input : List ℕ) → c_run (with_variable (counting 2 (Loop (If (signed 1) (Break ∷ []) None ∷ []) ∷ Put counter ∷ []) ∷ give 7 ∷ [])) None input 2 ≡ record { ending = Done (pos 7); events = Puts 0 ∷ Puts 1 ∷ []; rest = input; left = 0 }
unfolding c_run whole_run
inner_broken input = simp running

-- a return leaves all loops around it, and the function
pub loops_return : (input : List ℕ) → c_run (with_variable (Loop (counting 2 (Loop (say 65 ∷ give 8 ∷ []) ∷ say 66 ∷ []) ∷ say 67 ∷ []) ∷ give 7 ∷ [])) None input 2 ≡ record { ending = Done (pos 8); events = Puts 65 ∷ []; rest = input; left = 0 }
unfolding c_run whole_run
loops_return input = simp running

-- a `break` in no loop leaves nothing
pub break_alone : (input : List ℕ) (turns : ℕ) → c_run (start_alone (Break ∷ give 7 ∷ [])) None input turns ≡ stuck_at_once input turns
unfolding c_run whole_run
break_alone input turns = simp running

-- The input -----------------------------------------------------------------------------------------------------------

-- `a = sl_get();`
abbrev getting : CStmt
getting = Get (Name (codes "a"))

-- the first byte is taken; of a number that is no byte, the remainder by 256
pub byte_taken : (byte : ℕ) (input : List ℕ) (turns : ℕ) → c_run (with_variable (getting ∷ Return (Some counter) ∷ [])) None (byte ∷ input) turns ≡ record { ending = Done (pos (byte % 256)); events = Asks ∷ []; rest = input; left = turns }
unfolding c_run whole_run
byte_taken byte input turns = simp running

-- at the end of the input there is -1, each time that it is asked for
pub input_ended : (turns : ℕ) → c_run (with_variable (getting ∷ getting ∷ Return (Some counter) ∷ [])) None [] turns ≡ record { ending = Done (negsuc 0); events = Asks ∷ Asks ∷ []; rest = []; left = turns }
unfolding c_run whole_run
input_ended turns = simp running

-- where there is no place, nothing is asked for
pub get_nowhere : (input : List ℕ) (turns : ℕ) → c_run (start_alone (getting ∷ give 7 ∷ [])) None input turns ≡ stuck_at_once input turns
unfolding c_run whole_run
get_nowhere input turns = simp running

-- all bytes are put, up to the end of the input
pub all_echoed : c_run (with_variable (Loop (getting ∷ If (Compare Less counter (signed 0)) (Break ∷ []) None ∷ Put counter ∷ []) ∷ give 7 ∷ [])) None (65 ∷ 66 ∷ []) 3 ≡ record { ending = Done (pos 7); events = Asks ∷ Puts 65 ∷ Asks ∷ Puts 66 ∷ Asks ∷ []; rest = []; left = 0 }
unfolding c_run whole_run
all_echoed = simp running

-- Calls with arguments ------------------------------------------------------------------------------------------------

-- `NAME = f(INT64_C(60), INT64_C(6));`
abbrev taking : List ℕ → CStmt
taking name = Call (Some (Name name)) (codes "f") (Value (signed 60) ∷ Value (signed 6) ∷ [])

-- `f` puts and returns the sum of its two parameters, and `sl_main` stores what it gives in its variable `a`
abbrev adding : CFile
adding =
    let sum : CExpr = Binary Add (named (codes "x")) (named (codes "y")) in
    let start : CFun = record (start_with (taking (codes "a") ∷ Return (Some (named (codes "a"))) ∷ [])) { vars = word (codes "a") ∷ [] } in
    let called : CFun = record (function_with (codes "f") (Int true 64) (Put sum ∷ Return (Some sum) ∷ [])) { params = word (codes "x") ∷ word (codes "y") ∷ [] } in
    file_with (start ∷ called ∷ []) (start ∷ called ∷ [])

-- the call takes a turn, and its result is stored
pub result_is_stored : (input : List ℕ) → c_run adding None input 1 ≡ record { ending = Done (pos 66); events = Puts 66 ∷ []; rest = input; left = 0 }
unfolding c_run whole_run
result_is_stored input = simp running

-- `sl_main` calls `f` with two arguments, and stores what it gives in the variable with this name
abbrev inline_taking : CFun → List ℕ → CFile
inline_taking called name =
    let start : CFun = record (start_with (taking name ∷ Return (Some (named (codes "a"))) ∷ [])) { vars = word (codes "a") ∷ [] } in
    file_with (start ∷ []) (called ∷ start ∷ [])

-- an inline `f` that puts and returns the difference of its parameters
abbrev subtracting : CFun
subtracting =
    let difference : CExpr = Binary Sub (named (codes "x")) (named (codes "y")) in
    record (inline_with (codes "f") (Int true 64) (Put difference ∷ Return (Some difference) ∷ [])) { params = word (codes "x") ∷ word (codes "y") ∷ [] }

-- the call takes no turn
pub inline_with_arguments : (input : List ℕ) (turns : ℕ) → c_run (inline_taking subtracting (codes "a")) None input turns ≡ record { ending = Done (pos 54); events = Puts 54 ∷ []; rest = input; left = turns }
unfolding c_run whole_run
inline_with_arguments input turns = simp running

-- the place of the result is found before the call: where there is none, nothing is put
pub no_target : (input : List ℕ) (turns : ℕ) → c_run (inline_taking subtracting (codes "b")) None input turns ≡ record { ending = Stuck 1; events = []; rest = input; left = turns }
unfolding c_run whole_run
no_target input turns = simp running

-- the result of a function without one is taken
pub void_is_taken : (input : List ℕ) (turns : ℕ) → c_run (inline_taking (inline_with (codes "f") Void (say 65 ∷ [])) (codes "a")) None input turns ≡ record { ending = Stuck 1; events = Puts 65 ∷ []; rest = input; left = turns }
unfolding c_run whole_run
void_is_taken input turns = simp running

-- Bytes --------------------------------------------------------------------------------------------------------------

-- a member of so many bits, or an array of so many such
abbrev bits : ℕ → Option ℕ → CMember
bits width count = record { name = codes "a"; kind = Int false width; count = count; choice = [] }

-- a struct
abbrev struct_of : List CMember → CStruct
struct_of members = record { name = codes "s"; members = members }

-- a byte and a word behind it: 7 bytes are left free between them
pub byte_and_word : struct_extent (struct_of (bits 8 None ∷ bits 64 None ∷ [])) ≡ record { bytes = 16; align = 8 }
byte_and_word = refl

-- a word and a byte behind it: 7 bytes are left free at the end
pub word_and_byte : struct_extent (struct_of (bits 64 None ∷ bits 8 None ∷ [])) ≡ record { bytes = 16; align = 8 }
word_and_byte = refl

-- bytes stand close
pub two_bytes : struct_extent (struct_of (bits 8 None ∷ bits 8 None ∷ [])) ≡ record { bytes = 2; align = 1 }
two_bytes = refl

-- an array is aligned as its elements are
pub array_between : struct_extent (struct_of (bits 16 None ∷ bits 8 (Some 5) ∷ bits 32 None ∷ [])) ≡ record { bytes = 12; align = 4 }
array_between = refl

-- those of 32 bits at multiples of 4 bytes
pub array_behind : struct_extent (struct_of (bits 8 None ∷ bits 32 (Some 2) ∷ [])) ≡ record { bytes = 12; align = 4 }
array_behind = refl

-- the members of a union stand at one place
pub union_extent : struct_extent (struct_of (record { name = codes "u"; kind = Void; count = None; choice = record { name = codes "a"; kind = Int false 8 } ∷ word (codes "b") ∷ [] } ∷ bits 8 None ∷ [])) ≡ record { bytes = 16; align = 8 }
union_extent = refl

-- a frame without parameters and variables has 16 bytes
pub frame_of_none : frame_bytes (function_with (codes "f") Void []) ≡ 16
frame_of_none = refl

-- a variable of 64 bits has 8 bytes
pub frame_of_word : frame_bytes (record (function_with (codes "f") Void []) { vars = word (codes "a") ∷ [] }) ≡ 24
frame_of_word = refl

-- a variable of 8 bits has one, and the frame is rounded up
pub frame_of_byte : frame_bytes (record (function_with (codes "f") Void []) { vars = record { name = codes "a"; kind = Int false 8 } ∷ [] }) ≡ 24
frame_of_byte = refl

-- a parameter counts as a variable does
pub frame_of_parameter : frame_bytes (record (function_with (codes "f") Void []) { params = word (codes "a") ∷ []; vars = word (codes "b") ∷ [] }) ≡ 32
frame_of_parameter = refl

-- `sl_main` calls the inline `h`, and in a block the inline `g`, which calls `f`: at most three frames are live at one time,
-- `sl_main`'s, `g`'s and `f`'s
abbrev chaining : CFun
chaining = start_with (bare_call (codes "h") ∷ If (signed 1) (bare_call (codes "g") ∷ []) None ∷ give 7 ∷ [])

-- a file of all four
abbrev chained : CFile
chained =
    file_with (chaining ∷ [])
    (record (inline_with (codes "f") Void []) { vars = word (codes "a") ∷ [] }
    ∷ inline_with (codes "g") Void (bare_call (codes "f") ∷ [])
    ∷ inline_with (codes "h") Void []
    ∷ chaining ∷ [])

-- its charge has these three, and not `h`'s
pub charge_of_chain : charge chained chaining ≡ 56
charge_of_chain = simp actions_are
