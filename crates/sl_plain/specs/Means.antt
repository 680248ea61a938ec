-- What a plain program does, as a run. A variable holds a value from its declaration on. Operands are computed from left to right; an
-- operation that gives no number of `Z` halts, with its line; `assert` halts where its condition doesn't hold, and `halt` always.
-- `println` prints a number in decimal, a truth value as `T` or `F`, or a text, and then a line feed. `Port.get()` is the next byte of
-- the input, or -1 at its end, and asks for it each time. The bounds of a `for` are computed once. A turn is the call of `main`, or one
-- asking of a loop whether it goes round, the last one included. What `main` returns is the exit value.
use Rattle.std.specs.Prelude.{ℕ, zero, suc, ℤ, pos, negsuc, ◌-ℤ◌, List, [], ◌∷◌, ◌++◌, Bool, true, false, Option, None, Some, Result, Ok, Err, map, codes, if◌then◌else◌}
use Rattle.std.specs.Fmt.{signed_decimal}
use Rattle.std.specs.Str.{bytes_eq}
use Rattle.sl_num.specs.declared.arithmetic.Halt.{Halt}
use Rattle.sl_num.specs.declared.arithmetic.Op.TheVariants.{Add}
use Rattle.sl_num.specs.declared.comparing.Comparison.{Comparison}
use Rattle.sl_num.specs.Arithmetic.{applied}
use Rattle.sl_num.specs.Comparing.{holds}
use Rattle.sl_run.specs.Run.{Stuck, Act, Over, Went, pure, over, ◌>>=◌, ◌>>◌, choose, put_all, get, turn, loop}
use Rattle.sl_run.specs.Run as run
use Rattle.sl_run.specs.Outcome.{Outcome, whole_run}
use Rattle.sl_run.specs.Statements.{gotten}
use Rattle.sl_core.specs.Meaning.{halt_number}
use Rattle.sl_plain.specs.declared.program.Atom.{Atom}
use Rattle.sl_plain.specs.declared.program.Atom.TheVariants.{Name, Number, Truth}
use Rattle.sl_plain.specs.declared.program.Right.{Right}
use Rattle.sl_plain.specs.declared.program.Right.TheVariants.{Just, Compare, Apply, Get}
use Rattle.sl_plain.specs.declared.program.Condition.{Condition}
use Rattle.sl_plain.specs.declared.program.Condition.TheVariants as condition
use Rattle.sl_plain.specs.declared.program.Stmt.{Stmt, Stmt-F, fold-Stmt}
use Rattle.sl_plain.specs.declared.program.Stmt.TheOpen as stmt
use Rattle.sl_plain.specs.declared.program.Plain.{Plain}
use Rattle.sl_plain.specs.Numbers.{z_type}

-- a value: a number, or a truth value
pub data Value : Type 0 where
  Of : (number : ℤ) → Value
  Is : (truth : Bool) → Value

-- what each name holds, where it was declared in the run
pub record Variables : Type 0 where
  pub held : List ℕ → Option Value

-- a name holds a value
abbrev pub with_held : List ℕ → Value → Variables → Variables
with_held name value variables = record { held = λ other. if bytes_eq name other then Some value else variables.held other }

-- there is no meaning: a name holds nothing, or holds a value of another type. A plain program never comes to it
abbrev pub stuck : {A : Type 0} → Act Variables A
stuck t variables = Over (Stuck 0) t

-- the value of an atom
abbrev pub value_of : Atom → Variables → Option Value
value_of (Name name) variables = variables.held name
value_of (Number number) variables = Some (Of number)
value_of (Truth truth) variables = Some (Is truth)

-- a part of a run that needs the value of an atom
abbrev pub with_value_of : {B : Type 0} → Option Value → (Value → Act Variables B) → Act Variables B
with_value_of None go = stuck
with_value_of (Some value) go = go value

abbrev pub with_value : {B : Type 0} → Atom → (Value → Act Variables B) → Act Variables B
with_value atom go t variables = with_value_of (value_of atom variables) go t variables

-- a part of a run that needs a number
abbrev pub with_number_of : {B : Type 0} → (ℤ → Act Variables B) → Value → Act Variables B
with_number_of go (Of number) = go number
with_number_of go (Is truth) = stuck

abbrev pub with_number : {B : Type 0} → Atom → (ℤ → Act Variables B) → Act Variables B
with_number atom go = with_value atom (with_number_of go)

-- a part of a run that needs a truth value
abbrev pub with_truth_of : {B : Type 0} → (Bool → Act Variables B) → Value → Act Variables B
with_truth_of go (Of number) = stuck
with_truth_of go (Is truth) = go truth

abbrev pub with_truth : {B : Type 0} → Atom → (Bool → Act Variables B) → Act Variables B
with_truth atom go = with_value atom (with_truth_of go)

-- a comparison of two numbers
abbrev pub compare : Comparison → Atom → Atom → Act Variables Bool
compare by a b = with_number a (λ x. with_number b (λ y. pure (holds by x y)))

-- a result, or the halt that comes in its place, on this line of the one file
abbrev pub result_or_halt : (line : ℕ) → Result ℤ Halt → Act Variables Value
result_or_halt line (Ok number) = pure (Of number)
result_or_halt line (Err halt) = over (run.Halt (halt_number halt) 0 line)

-- the value of a right side
abbrev pub right_value : Right → Act Variables Value
right_value (Just atom) = with_value atom pure
right_value (Compare by a b) = compare by a b >>= (λ truth. pure (Is truth))
right_value (Apply op a b line) = with_number a (λ x. with_number b (λ y. result_or_halt line (applied z_type op x y)))
right_value Get = get >>= (λ byte. pure (Of (gotten byte)))

-- whether a condition holds
abbrev pub condition_value : Condition → Act Variables Bool
condition_value (condition.Just atom) = with_truth atom pure
condition_value (condition.Compare by a b) = compare by a b

-- how a value is printed
abbrev pub printed_truth : Bool → List ℕ
printed_truth true = codes "T"
printed_truth false = codes "F"

abbrev pub printed_value : Value → List ℕ
printed_value (Of number) = signed_decimal number
printed_value (Is truth) = printed_truth truth

-- bytes are printed, and a line feed behind them
abbrev pub print_line : List ℕ → Act Variables (Unit {0})
print_line bytes = put_all (bytes ++ 10 ∷ [])

-- a name gets a value
abbrev pub store : List ℕ → Value → Act Variables (Unit {0})
store name value t variables = Went tt t (with_held name value variables)

-- a number that isn't negative, and else 0
abbrev pub natural_of : ℤ → ℕ
natural_of (pos number) = number
natural_of (negsuc below) = 0

-- whether a loop is left after an asking that was answered so: with no more to do, or by another round
abbrev pub round_of : Act Variables (Unit {0}) → Bool → Act Variables (Option (Unit {0}))
round_of body true = body >> pure None
round_of body false = pure (Some tt)

-- as long as a condition holds, the body. Each asking takes a turn
abbrev pub while_holds : Condition → Act Variables (Unit {0}) → Act Variables (Unit {0})
while_holds test body = loop (condition_value test >>= round_of body)

-- The body for so many numbers from this one on, in their order; the name holds the number. Each asking whether there is one more
-- takes a turn. The next number is computed as a sum, on the line of the `for`. That halts only where a bound is no number of `Z`
-- (`next_number` of proofs/Values.antt), which none is that a plain program has
abbrev pub for_numbers : (line : ℕ) → List ℕ → (from : ℤ) (count : ℕ) → Act Variables (Unit {0}) → Act Variables (Unit {0})
for_numbers line name from zero body = turn
for_numbers line name from (suc count) body =
    turn >> store name (Of from) >> body >> result_or_halt line (applied z_type Add from (pos 1)) >>= with_number_of (λ next. for_numbers line name next count body)

-- how many numbers there are from the first up to the second, without it
abbrev pub count_until : ℤ → ℤ → ℕ
count_until first end = natural_of (end -ℤ first)

-- the kinds of halts: an `assert` that doesn't hold, and `halt`
abbrev pub assert_halt : ℕ
assert_halt = 1

abbrev pub halt_halt : ℕ
halt_halt = 2

-- statements in order
abbrev pub in_order : List (Act Variables (Unit {0})) → Act Variables (Unit {0})
in_order [] = pure tt
in_order (s ∷ ss) = s >> in_order ss

abbrev pub meaning_step : Stmt-F (Act Variables (Unit {0})) → Act Variables (Unit {0})
meaning_step (stmt.Declare is_var name type first) = right_value first >>= store name
meaning_step (stmt.Assign name value) = right_value value >>= store name
meaning_step (stmt.Print atom) = with_value atom (λ value. print_line (printed_value value))
meaning_step (stmt.PrintText text) = print_line text
meaning_step (stmt.If test chosen other) = condition_value test >>= (λ so. choose so (in_order chosen) (in_order other))
meaning_step (stmt.While test body) = while_holds test (in_order body)
meaning_step (stmt.For name first end body line) = with_number first (λ a. with_number end (λ b. for_numbers line name a (count_until a b) (in_order body)))
meaning_step (stmt.Assert test line) = condition_value test >>= (λ so. choose so (pure tt) (over (run.Halt assert_halt 0 line)))
meaning_step (stmt.Halt text line) = over (run.Halt halt_halt 0 line)

-- what a statement does
unfoldable pub meaning : Stmt → Act Variables (Unit {0})
meaning s = fold-Stmt (Act Variables (Unit {0})) meaning_step s

-- `main` is called, and does its statements; what it returns is the exit value
abbrev pub program : Plain → Act Variables ℤ
program plain = turn >> in_order (map meaning plain.body) >> with_number plain.value pure

-- nothing is declared
abbrev pub none_held : Variables
none_held = record { held = λ name. None }

-- the whole run of a plain program on an input, in at most so many turns
unfoldable pub plain_run : Plain → List ℕ → ℕ → Outcome
plain_run plain input turns = whole_run (program plain) none_held input turns
