-- What a run of a plain program leaves of the input is what stands behind as many bytes as it asked for.
use Rattle.std.proofs.Common.{◌≡◌, ℕ, zero, suc, ◌+◌, ℤ, pos, List, [], ◌∷◌, ◌++◌, length, drop, Bool, true, false, Option, Some, None, refl, sym, ap, ◌∙◌, subst, map, append_assoc, append-nil, length-append}
use Rattle.std.specs.Prelude.{Result, Ok, Err}
use Rattle.std.proofs.lemmas.List.{length-map, drop-drop}
use Rattle.sl_run.specs.Run.{Ending, Event, Puts, Asks, Trace, Step, Went, Over, Act, pure, over, step_then, ◌>>=◌, ◌>>◌, choose, put_all, first_of, rest_of, get, turn_at, turn, round_then, loop_within, loop, start}
use Rattle.sl_run.specs.Run as run
use Rattle.sl_run.specs.Outcome.{printed, asked, outcome, trace_of, whole_run}
use Rattle.sl_run.proofs.Puts.{put_all_is, asked-puts, asked-append}
use Rattle.sl_num.specs.declared.arithmetic.Halt.{Halt}
use Rattle.sl_num.specs.declared.arithmetic.Op.TheVariants.{Add}
use Rattle.sl_num.specs.declared.comparing.Comparison.{Comparison}
use Rattle.sl_num.specs.Arithmetic.{applied}
use Rattle.sl_num.specs.Comparing.{holds}
use Rattle.sl_run.specs.Statements.{gotten}
use Rattle.sl_plain.specs.declared.program.Atom.{Atom}
use Rattle.sl_plain.specs.declared.program.Right.{Right}
use Rattle.sl_plain.specs.declared.program.Right.TheVariants.{Just, Compare, Apply, Get}
use Rattle.sl_plain.specs.declared.program.Condition.{Condition}
use Rattle.sl_plain.specs.declared.program.Condition.TheVariants as condition
use Rattle.sl_plain.specs.declared.program.Stmt.{Stmt, Stmt-F, ind-Stmt, map-Stmt, roll-Stmt}
use Rattle.sl_plain.specs.declared.program.Stmt.TheOpen as stmt
use Rattle.sl_plain.specs.declared.program.Plain.{Plain}
use Rattle.sl_plain.specs.Numbers.{z_type}
use Rattle.sl_plain.specs.Means.{Value, Of, Is, Variables, value_of, with_value_of, with_value, with_number_of, with_number, with_truth_of, with_truth, compare, result_or_halt, right_value, condition_value, printed_value, print_line, store, round_of, while_holds, for_numbers, count_until, assert_halt, halt_halt, in_order, meaning_step, meaning, program, none_held, plain_run}
use Rattle.sl_plain.proofs.Layers.{meaning_layer}

-- a run went on from one trace to another: there are some more events, and what is left of the input is behind the bytes that they
-- asked for
abbrev From : Trace → Trace → Type 0
From t u = (more : List Event) × (u.events ≡ t.events ++ more) × (u.rest ≡ drop (length (asked more)) t.rest)

-- a part takes of the input just what it asks for
abbrev TakesAsked : {A : Type 0} → Act Variables A → Type 0
TakesAsked a = (t : Trace) (variables : Variables) → From t (trace_of (a t variables))

-- nothing happened
from_same : (t u : Trace) → u.events ≡ t.events → u.rest ≡ t.rest → From t u
from_same t u events rest = ([], events ∙ sym (append-nil t.events), rest)

-- one after another
from_then : (t u v : Trace) → From t u → From u v → From t v
from_then t u v h k = (
  h.0 ++ k.0,
  k.1 ∙ (ap (λ events. events ++ k.0) h.1 ∙ append_assoc t.events h.0 k.0),
  k.2 ∙ (ap (drop (length (asked k.0))) h.2 ∙ (drop-drop (length (asked k.0)) (length (asked h.0)) t.rest ∙ ap (λ n. drop n t.rest) (sym count))),
)
  where
    count : length (asked (h.0 ++ k.0)) ≡ length (asked h.0) + length (asked k.0)
    count =
        ap length (asked-append h.0 k.0)
        ∙ (length-append (asked h.0) (map (λ n. length (printed h.0) + n) (asked k.0))
        ∙ ap (λ n. length (asked h.0) + n) (length-map (asked k.0) (λ n. length (printed h.0) + n)))

-- one part, and then another
then_takes : {A B : Type 0} (t : Trace) (step : Step Variables A) (go : A → Act Variables B) → From t (trace_of step) → ((x : A) → TakesAsked (go x)) → From t (trace_of (step_then step go))
then_takes t (Went x u s) go h k = from_then t u (trace_of (go x u s)) h (k x u s)
then_takes t (Over e u) go h k = h

bind_takes : {A B : Type 0} (a : Act Variables A) (go : A → Act Variables B) → TakesAsked a → ((x : A) → TakesAsked (go x)) → TakesAsked (a >>= go)
bind_takes a go h k t s = then_takes t (a t s) go (h t s) k

pure_takes : {A : Type 0} (x : A) → TakesAsked (pure x)
pure_takes x t s = from_same t t refl refl

over_takes : (A : Type 0) (e : Ending) → TakesAsked (over {A = A} e)
over_takes A e t s = from_same t t refl refl

choose_takes : {A : Type 0} (so : Bool) (a b : Act Variables A) → TakesAsked a → TakesAsked b → TakesAsked (choose so a b)
choose_takes true a b h k = h
choose_takes false a b h k = k

put_all_takes : (bytes : List ℕ) → TakesAsked (put_all bytes)
put_all_takes bytes t s =
    subst (λ step. From t (trace_of step)) (sym (put_all_is bytes t s))
    (map Puts bytes, refl, ap (λ n. drop n t.rest) (sym (ap length (asked-puts bytes))))

-- the first byte is asked for
get_takes : TakesAsked get
get_takes t s = (Asks ∷ [], refl, without t.rest)
  where
    without : (bytes : List ℕ) → rest_of bytes ≡ drop 1 bytes
    without [] = refl
    without (byte ∷ bytes) = refl

turn_takes_at : (n : ℕ) → TakesAsked (turn_at n)
turn_takes_at zero t s = from_same t t refl refl
turn_takes_at (suc n) t s = from_same t (record t { left = n }) refl refl

turn_takes : TakesAsked turn
turn_takes t s = turn_takes_at t.left t s

-- loops
round_takes : {A : Type 0} (given : Option A) (again : Act Variables A) → TakesAsked again → TakesAsked (round_then given again)
round_takes None again h = h
round_takes (Some x) again h = pure_takes x

loop_within_takes : {A : Type 0} (n : ℕ) (body : Act Variables (Option A)) → TakesAsked body → TakesAsked (loop_within n body)
loop_within_takes {A} zero body h = over_takes A run.TurnsSpent
loop_within_takes (suc n) body h =
    bind_takes turn (λ _. body >>= (λ given. round_then given (loop_within n body))) turn_takes
    (λ _. bind_takes body (λ given. round_then given (loop_within n body)) h (λ given. round_takes given (loop_within n body) (loop_within_takes n body h)))

loop_takes : {A : Type 0} (body : Act Variables (Option A)) → TakesAsked body → TakesAsked (loop body)
loop_takes body h t s = loop_within_takes t.left body h t s

-- a part that needs a value
value_takes : {B : Type 0} (atom : Atom) (go : Value → Act Variables B) → ((value : Value) → TakesAsked (go value)) → TakesAsked (with_value atom go)
value_takes atom go h t s = at (value_of atom s)
  where
    at : (value : Option Value) → From t (trace_of (with_value_of value go t s))
    at None = from_same t t refl refl
    at (Some value) = h value t s

number_takes : {B : Type 0} (atom : Atom) (go : ℤ → Act Variables B) → ((number : ℤ) → TakesAsked (go number)) → TakesAsked (with_number atom go)
number_takes atom go h = value_takes atom (with_number_of go) at
  where
    at : (value : Value) → TakesAsked (with_number_of go value)
    at (Of number) = h number
    at (Is truth) = λ t s. from_same t t refl refl

truth_takes : {B : Type 0} (atom : Atom) (go : Bool → Act Variables B) → ((truth : Bool) → TakesAsked (go truth)) → TakesAsked (with_truth atom go)
truth_takes atom go h = value_takes atom (with_truth_of go) at
  where
    at : (value : Value) → TakesAsked (with_truth_of go value)
    at (Of number) = λ t s. from_same t t refl refl
    at (Is truth) = h truth

compare_takes : (by : Comparison) (a b : Atom) → TakesAsked (compare by a b)
compare_takes by a b = number_takes a (λ x. with_number b (λ y. pure (holds by x y))) (λ x. number_takes b (λ y. pure (holds by x y)) (λ y. pure_takes (holds by x y)))

result_takes : (line : ℕ) (result : Result ℤ Halt) → TakesAsked (result_or_halt line result)
result_takes line (Ok number) t s = from_same t t refl refl
result_takes line (Err halt) t s = from_same t t refl refl

right_takes : (right : Right) → TakesAsked (right_value right)
right_takes (Just atom) = value_takes atom pure pure_takes
right_takes (Compare by a b) = bind_takes (compare by a b) (λ truth. pure (Is truth)) (compare_takes by a b) (λ truth. pure_takes (Is truth))
right_takes (Apply op a b line) =
    number_takes a (λ x. with_number b (λ y. result_or_halt line (applied z_type op x y)))
    (λ x. number_takes b (λ y. result_or_halt line (applied z_type op x y)) (λ y. result_takes line (applied z_type op x y)))
right_takes Get = bind_takes get (λ byte. pure (Of (gotten byte))) get_takes (λ byte. pure_takes (Of (gotten byte)))

condition_takes : (test : Condition) → TakesAsked (condition_value test)
condition_takes (condition.Just atom) = truth_takes atom pure pure_takes
condition_takes (condition.Compare by a b) = compare_takes by a b

store_takes : (name : List ℕ) (value : Value) → TakesAsked (store name value)
store_takes name value t s = from_same t t refl refl

stored_takes : (name : List ℕ) (right : Right) → TakesAsked (right_value right >>= store name)
stored_takes name right = bind_takes (right_value right) (store name) (right_takes right) (store_takes name)

-- what comes after an asking
asked_takes : (body : Act Variables (Unit {0})) → TakesAsked body → (so : Bool) → TakesAsked (round_of body so)
asked_takes body h true = bind_takes body (λ _. pure {A = Option (Unit {0})} None) h (λ _. pure_takes {A = Option (Unit {0})} None)
asked_takes body h false = pure_takes {A = Option (Unit {0})} (Some tt)

while_takes : (test : Condition) (body : Act Variables (Unit {0})) → TakesAsked body → TakesAsked (while_holds test body)
while_takes test body h = loop_takes (condition_value test >>= round_of body) (bind_takes (condition_value test) (round_of body) (condition_takes test) (asked_takes body h))

numbers_take : (line : ℕ) (name : List ℕ) (body : Act Variables (Unit {0})) → TakesAsked body → (count : ℕ) (from : ℤ) → TakesAsked (for_numbers line name from count body)
numbers_take line name body h zero from = turn_takes
numbers_take line name body h (suc count) from = more (numbers_take line name body h count)
  where
    rest : ((from : ℤ) → TakesAsked (for_numbers line name from count body)) → (value : Value) → TakesAsked (with_number_of (λ next. for_numbers line name next count body) value)
    rest k (Of number) = k number
    rest k (Is truth) = λ t s. from_same t t refl refl

    more : ((from : ℤ) → TakesAsked (for_numbers line name from count body)) → TakesAsked (for_numbers line name from (suc count) body)
    more k =
        bind_takes (turn >> store name (Of from) >> body >> result_or_halt line (applied z_type Add from (pos 1))) (with_number_of (λ next. for_numbers line name next count body))
        (bind_takes (turn >> store name (Of from) >> body) (λ _. result_or_halt line (applied z_type Add from (pos 1)))
        (bind_takes (turn >> store name (Of from)) (λ _. body) (bind_takes turn (λ _. store name (Of from)) turn_takes (λ _. store_takes name (Of from))) (λ _. h))
        (λ _. result_takes line (applied z_type Add from (pos 1))))
        (rest k)

-- a statement does so
abbrev IsQuiet : Stmt → Type 0
IsQuiet s = TakesAsked (meaning s)

abbrev Known : Type 0
Known = (s : Stmt) × IsQuiet s

abbrev only : Known → Stmt
only known = known.0

-- what a list of statements does
abbrev all_of : List Known → Act Variables (Unit {0})
all_of ss = in_order (map meaning (map only ss))

in_order_takes : (ss : List Known) → TakesAsked (all_of ss)
in_order_takes [] = pure_takes {A = Unit {0}} tt
in_order_takes (s ∷ ss) = bind_takes (meaning s.0) (λ _. all_of ss) s.1 (λ _. in_order_takes ss)

-- what comes after a condition
tested_takes : (test : Condition) (p q : Act Variables (Unit {0})) → TakesAsked p → TakesAsked q → TakesAsked (condition_value test >>= (λ so. choose so p q))
tested_takes test p q h k = bind_takes (condition_value test) (λ so. choose so p q) (condition_takes test) (λ so. choose_takes so p q h k)

is_quiet : (s : Stmt) → IsQuiet s
is_quiet s = ind-Stmt IsQuiet (λ x y same. subst (λ z. IsQuiet (roll-Stmt z)) same (layer y)) s
  where
    via : (x : Stmt-F Stmt) → TakesAsked (meaning_step (map-Stmt Stmt (Act Variables (Unit {0})) meaning x)) → IsQuiet (roll-Stmt x)
    via x h = subst (λ (does : Act Variables (Unit {0})). TakesAsked does) (sym (meaning_layer x)) h

    layer : (y : Stmt-F Known) → IsQuiet (roll-Stmt (map-Stmt Known Stmt only y))
    layer (stmt.Declare is_var name type first) = via (stmt.Declare is_var name type first) (stored_takes name first)
    layer (stmt.Assign name value) = via (stmt.Assign name value) (stored_takes name value)
    layer (stmt.Print atom) = via (stmt.Print atom) (value_takes atom (λ value. print_line (printed_value value)) (λ value. put_all_takes (printed_value value ++ 10 ∷ [])))
    layer (stmt.PrintText text) = via (stmt.PrintText text) (put_all_takes (text ++ 10 ∷ []))
    layer (stmt.If test chosen other) = via (stmt.If test (map only chosen) (map only other)) (tested_takes test (all_of chosen) (all_of other) (in_order_takes chosen) (in_order_takes other))
    layer (stmt.While test body) = via (stmt.While test (map only body)) (while_takes test (all_of body) (in_order_takes body))
    layer (stmt.For name from to body line) =
        via (stmt.For name from to (map only body) line)
        (number_takes from (λ a. with_number to (λ b. for_numbers line name a (count_until a b) (all_of body)))
        (λ a. number_takes to (λ b. for_numbers line name a (count_until a b) (all_of body)) (λ b. numbers_take line name (all_of body) (in_order_takes body) (count_until a b) a)))
    layer (stmt.Assert test line) =
        via (stmt.Assert test line) (tested_takes test (pure tt) (over (run.Halt assert_halt 0 line)) (pure_takes {A = Unit {0}} tt) (over_takes (Unit {0}) (run.Halt assert_halt 0 line)))
    layer (stmt.Halt text line) = via (stmt.Halt text line) (over_takes (Unit {0}) (run.Halt halt_halt 0 line))

body_takes : (ss : List Stmt) → TakesAsked (in_order (map meaning ss))
body_takes [] = pure_takes {A = Unit {0}} tt
body_takes (s ∷ ss) = bind_takes (meaning s) (λ _. in_order (map meaning ss)) (is_quiet s) (λ _. body_takes ss)

program_takes : (plain : Plain) → TakesAsked (program plain)
program_takes plain =
    bind_takes (turn >> in_order (map meaning plain.body)) (λ _. with_number plain.value pure)
    (bind_takes turn (λ _. in_order (map meaning plain.body)) turn_takes (λ _. body_takes plain.body))
    (λ _. number_takes plain.value pure pure_takes)

-- what is known of a run is that of its last part
outcome_is : (step : Step Variables ℤ) (input : List ℕ) (turns : ℕ) → From (start input turns) (trace_of step) → (outcome step).rest ≡ drop (length (asked (outcome step).events)) input
outcome_is (Went value t s) input turns h = h.2 ∙ ap (λ events. drop (length (asked events)) input) (sym h.1)
outcome_is (Over e t) input turns h = h.2 ∙ ap (λ events. drop (length (asked events)) input) (sym h.1)

-- what a run leaves of its input is behind as many bytes as it asked for
pub rest_is : (plain : Plain) (input : List ℕ) (turns : ℕ) → (plain_run plain input turns).rest ≡ drop (length (asked (plain_run plain input turns).events)) input
unfolding plain_run whole_run
rest_is plain input turns = outcome_is (program plain (start input turns) none_held) input turns (program_takes plain (start input turns) none_held)
