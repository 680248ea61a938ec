-- What a resolved program does doesn't look at the events so far.
use Rattle.std.proofs.Common.{ℕ, zero, suc, ℤ, List, [], ◌∷◌, Bool, true, false, Option, Some, None, refl, subst, sym, map, pos, negsuc}
use Rattle.std.specs.Prelude.{nat_le, slice_get, not}
use Rattle.sl_run.specs.Run.{Act, pure, ◌>>=◌, ◌>>◌, choose, put, get, round_then}
use Rattle.sl_run.specs.Laws.{Alone}
use Rattle.sl_run.proofs.Alone.{bind_alone, pure_alone, put_alone, get_alone, choose_alone, turn_alone, round_then_alone, loop_alone, calls_alone}
use Rattle.sl_run.proofs.Statements.{then_on_alone, and_next_alone, round_alone}
use Rattle.sl_run.specs.Statements.{Next, Broke, Returned, after_round, gotten, then_on, in_order}
use Rattle.c_tree.specs.Meaning.{Flow, is_zero}
use Rattle.c_machine.specs.declared.program.Slot.{Slot}
use Rattle.c_machine.specs.declared.program.Expr.{Expr}
use Rattle.c_machine.specs.declared.program.Program.{Program}
use Rattle.c_machine.specs.declared.program.Stmt.{Stmt, Stmt-F, ind-Stmt, map-Stmt, roll-Stmt}
use Rattle.c_machine.specs.declared.program.Stmt.TheOpen as stmt
use Rattle.c_machine.specs.State.{State, is_declared}
use Rattle.c_machine.specs.Values.{value, numbers}
use Rattle.c_machine.specs.Meaning.{stuck, with_some, with_value, Calls, Meaning, write, store_result, has_target, call_to, given, begin, leave, body, begin_inline, put_number, round, rounds, get_to, returned, stmt_step, meaning, functions, enter, called, exit_value}
use Rattle.c_machine.proofs.Layers.{meaning_layer}

-- calls don't look at the events so far
abbrev pub AloneCalls : Calls → Type 0
AloneCalls call = (number : ℕ) (arguments : List ℤ) → Alone (call number arguments)

-- an undefined case
pub stuck_alone : {A : Type 0} → Alone (stuck {A = A})
stuck_alone earlier t s = refl

-- something that there may not be
pub with_some_alone : {A B : Type 0} (x : Option A) (go : A → Act State B) → ((a : A) → Alone (go a)) → Alone (with_some x go)
with_some_alone None go h = stuck_alone
with_some_alone (Some a) go h = h a

-- something that the state may not have
with_value_alone : {A B : Type 0} (of : State → Option A) (go : A → Act State B) → ((a : A) → Alone (go a)) → Alone (with_value of go)
with_value_alone of go h earlier t s = with_some_alone (of s) go h earlier t s

-- a number that is put
put_number_alone : (number : ℤ) → Alone (put_number number)
put_number_alone (pos number) =
    choose_alone (nat_le number 255) (put number >> pure Next) stuck (bind_alone (put number) (λ _. pure Next) (put_alone number) (λ _. pure_alone Next)) stuck_alone
put_number_alone (negsuc below) = stuck_alone

-- a result that is stored
pub store_result_alone : (target : Option Slot) (value : Option ℤ) → Alone (store_result target value)
store_result_alone None value = pure_alone tt
store_result_alone (Some slot) value = with_some_alone value (write slot) (λ number earlier t s. refl)

-- the rounds of a counted loop
pub rounds_alone : (slot : Slot) (body : Act State Flow) → Alone body → (from count : ℕ) → Alone (rounds slot body from count)
rounds_alone slot body h from zero = and_next_alone (write slot (pos from)) (λ earlier t s. refl)
rounds_alone slot body h from (suc count) =
    let rest : Act State Flow = rounds slot body (suc from) count in
    bind_alone (write slot (pos from)) (λ _. body >>= (λ flow. round_then (after_round flow) rest)) (λ earlier t s. refl)
    (λ _. bind_alone body (λ flow. round_then (after_round flow) rest) h (λ flow. round_then_alone (after_round flow) rest (rounds_alone slot body h (suc from) count)))

-- a byte of the input that is stored
get_to_alone : (slot : Slot) → Alone (get_to slot)
get_to_alone slot = bind_alone get (λ answer. write slot (gotten answer)) get_alone (λ answer earlier t s. refl)

-- a call
call_to_alone : (target : Option Slot) (arguments : List Expr) (call : List ℤ → Act State (Option ℤ)) → ((numbers : List ℤ) → Alone (call numbers)) → Alone (call_to target arguments call)
call_to_alone target arguments call h =
    let go : Act State (Unit {0}) = with_value (numbers arguments) call >>= store_result target in
    choose_alone (has_target target) (go >> pure Next) stuck
    (and_next_alone go (bind_alone (with_value (numbers arguments) call) (store_result target) (with_value_alone (numbers arguments) call h) (store_result_alone target)))
    stuck_alone

-- what a function gives
pub given_alone : (gives : Bool) (flow : Flow) → Alone (given gives flow)
given_alone gives (Returned value) earlier t s = refl
given_alone gives Broke earlier t s = refl
given_alone false Next earlier t s = refl
given_alone true Next earlier t s = refl

-- the last frame ends, after what a function gives
pub left_alone : (gives : Bool) (flow : Flow) → Alone (given gives flow >>= leave)
left_alone gives flow = bind_alone (given gives flow) leave (given_alone gives flow) (λ value earlier t s. refl)

-- a function in its frame
body_alone : (gives : Bool) (stmts : List Meaning) (call : Calls) → Alone (in_order stmts call) → Alone (body gives stmts call)
body_alone gives stmts call h =
    bind_alone (in_order stmts call >>= given gives) leave (bind_alone (in_order stmts call) (given gives) h (given_alone gives)) (λ value earlier t s. refl)

-- a return
returned_alone : (value : Option Expr) → Alone (returned value)
returned_alone None = pure_alone (Returned None)
returned_alone (Some e) = with_value_alone (value e) (λ x. pure (Returned (Some x.number))) (λ x. pure_alone (Returned (Some x.number)))

-- a statement is alone where calls are
abbrev Calm : Stmt → Type 0
Calm s = (call : Calls) → AloneCalls call → Alone (meaning s call)

-- one of which it is known
abbrev Certain : Type 0
Certain = (s : Stmt) × Calm s

-- the statement
abbrev only : Certain → Stmt
only certain = certain.0

-- statements in order, of which so much is known
in_order_known : (ms : List Certain) (call : Calls) → AloneCalls call → Alone (in_order (map meaning (map only ms)) call)
in_order_known [] call h = pure_alone Next
in_order_known (m ∷ ms) call h =
    let rest = in_order (map meaning (map only ms)) call in
    bind_alone (meaning m.0 call) (then_on rest) (m.1 call h) (λ flow. then_on_alone rest flow (in_order_known ms call h))

-- a statement
pub meaning_alone : (s : Stmt) (call : Calls) → AloneCalls call → Alone (meaning s call)
meaning_alone s = ind-Stmt Calm (λ x y same. subst (λ z. Calm (roll-Stmt z)) same (layer y)) s
  where
    -- by its layer
    via : (x : Stmt-F Stmt) → ((call : Calls) → AloneCalls call → Alone (stmt_step (map-Stmt Stmt Meaning meaning x) call)) → Calm (roll-Stmt x)
    via x h = subst (λ (m : Meaning). (call : Calls) → AloneCalls call → Alone (m call)) (sym (meaning_layer x)) h

    -- each layer, where it is known of the parts
    layer : (y : Stmt-F Certain) → Calm (roll-Stmt (map-Stmt Certain Stmt only y))
    layer (stmt.Assign slot e) =
        let stored : Act State (Unit {0}) = with_value (value e) (λ x. write slot x.number) in
        via (stmt.Assign slot e)
        (λ call h. choose_alone (is_declared slot) (stored >> pure Next) stuck (and_next_alone stored (with_value_alone (value e) (λ x. write slot x.number) (λ x earlier t s. refl))) stuck_alone)
    layer (stmt.Call target arguments function) = via (stmt.Call target arguments function) (λ call h. call_to_alone target arguments (call function) (h function))
    layer (stmt.Inline target arguments vars gives stmts) =
        via (stmt.Inline target arguments vars gives (map only stmts))
        (λ call h.
        let inside = body gives (map meaning (map only stmts)) call in
        call_to_alone target arguments (λ numbers. begin_inline vars numbers >> inside)
        (λ numbers. bind_alone (begin_inline vars numbers) (λ _. inside) (λ earlier t s. refl) (λ _. body_alone gives (map meaning (map only stmts)) call (in_order_known stmts call h))))
    layer stmt.Undefined = via stmt.Undefined (λ call h. stuck_alone)
    layer (stmt.If test chosen other) =
        via (stmt.If test (map only chosen) (map only other))
        (λ call h.
        let first = in_order (map meaning (map only chosen)) call in
        let second = in_order (map meaning (map only other)) call in
        with_value_alone (value test) (λ x. choose (not (is_zero x.number)) first second) (λ x. choose_alone (not (is_zero x.number)) first second (in_order_known chosen call h) (in_order_known other call h)))
    layer (stmt.Loop stmts) =
        via (stmt.Loop (map only stmts))
        (λ call h.
        let inside = in_order (map meaning (map only stmts)) call in
        loop_alone (round inside) (round_alone inside (in_order_known stmts call h)))
    layer (stmt.Count slot count stmts) =
        via (stmt.Count slot count (map only stmts))
        (λ call h.
        let inside = in_order (map meaning (map only stmts)) call in
        choose_alone (is_declared slot) (rounds slot inside 0 count) stuck (rounds_alone slot inside (in_order_known stmts call h) 0 count) stuck_alone)
    layer stmt.Break = via stmt.Break (λ call h. pure_alone Broke)
    layer (stmt.Return value) = via (stmt.Return value) (λ call h. returned_alone value)
    layer (stmt.Put e) = via (stmt.Put e) (λ call h. with_value_alone (value e) (λ x. put_number x.number) (λ x. put_number_alone x.number))
    layer (stmt.Get slot) = via (stmt.Get slot) (λ call h. choose_alone (is_declared slot) (get_to slot >> pure Next) stuck (and_next_alone (get_to slot) (get_to_alone slot)) stuck_alone)
    layer (stmt.Halt kind file line) = via (stmt.Halt kind file line) (λ call h earlier t s. refl)

-- statements in order
pub in_order_alone : (stmts : List Stmt) (call : Calls) → AloneCalls call → Alone (in_order (map meaning stmts) call)
in_order_alone [] call h = pure_alone Next
in_order_alone (s ∷ stmts) call h =
    let rest = in_order (map meaning stmts) call in
    bind_alone (meaning s call) (then_on rest) (meaning_alone s call h) (λ flow. then_on_alone rest flow (in_order_alone stmts call h))

-- functions
functions_alone : (program : Program) (call : Calls) → AloneCalls call → (number : ℕ) (arguments : List ℤ) → Alone (functions program call number arguments)
functions_alone program call h number arguments =
    with_some_alone (slice_get program.functions number)
    (λ function. begin number function.vars arguments >> body function.gives (map meaning function.body) call)
    (λ function. bind_alone (begin number function.vars arguments) (λ _. body function.gives (map meaning function.body) call) (λ earlier t s. refl)
    (λ _. body_alone function.gives (map meaning function.body) call (in_order_alone function.body call h)))

-- calls in a run
pub called_alone : (program : Program) → AloneCalls (called program)
unfolding called
called_alone program number arguments = calls_alone enter (functions program) (λ f x. turn_alone) (functions_alone program) number arguments

-- what the first function gives
pub exit_value_alone : (value : Option ℤ) → Alone (exit_value value)
exit_value_alone value = with_some_alone value pure (λ number. pure_alone number)
