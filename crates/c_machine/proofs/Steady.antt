-- What a resolved program does agrees where what its calls do agrees.
use Rattle.std.proofs.Common.{◌≡◌, ℕ, zero, suc, ℤ, List, [], ◌∷◌, Bool, true, false, Option, Some, None, refl, subst, sym, map, pos, negsuc}
use Rattle.std.specs.Prelude.{nat_le, slice_get, not}
use Rattle.sl_run.specs.Run.{Act, pure, ◌>>=◌, ◌>>◌, choose, put, get, turn, round_then, loop}
use Rattle.sl_run.specs.Laws.{Agrees, Steady, Respects}
use Rattle.sl_run.proofs.Steady.{bind_agrees, pure_agrees, put_agrees, get_agrees, choose_agrees, turn_agrees, round_then_agrees, loop_agrees, calls_steady}
use Rattle.sl_run.proofs.Statements.{then_on_agrees, and_next_agrees, round_agrees}
use Rattle.sl_run.proofs.Equations.{turn_takes, loop_is, calls_are}
use Rattle.sl_run.specs.Statements.{Next, Broke, Returned, after_round, gotten, then_on, in_order}
use Rattle.c_tree.specs.Meaning.{Flow, is_zero}
use Rattle.c_machine.specs.declared.program.Slot.{Slot}
use Rattle.c_machine.specs.declared.program.Expr.{Expr}
use Rattle.c_machine.specs.declared.program.Function.{Function}
use Rattle.c_machine.specs.declared.program.Program.{Program}
use Rattle.c_machine.specs.declared.program.Stmt.{Stmt, Stmt-F, ind-Stmt, map-Stmt, roll-Stmt}
use Rattle.c_machine.specs.declared.program.Stmt.TheOpen as stmt
use Rattle.c_machine.specs.State.{State, is_declared}
use Rattle.c_machine.specs.Values.{value, numbers}
use Rattle.c_machine.specs.Meaning.{stuck, with_some, with_value, Calls, Meaning, write, store_result, has_target, call_to, given, begin, leave, body, begin_inline, put_number, round, rounds, get_to, returned, stmt_step, meaning, functions, enter, called}
use Rattle.c_machine.proofs.Layers.{meaning_layer}

-- what two ways of calling functions have in common
abbrev pub AgreeingCalls : ℕ → Calls → Calls → Type 0
AgreeingCalls n call call' = (number : ℕ) (arguments : List ℤ) → Agrees n (call number arguments) (call' number arguments)

module _ (n : ℕ) where
  -- an undefined case
  stuck_agrees : {A : Type 0} → Agrees n (stuck {A = A}) stuck
  stuck_agrees t s le = (refl, le)

  -- something that there may not be
  with_some_agrees : {A B : Type 0} (x : Option A) (go go' : A → Act State B) → ((a : A) → Agrees n (go a) (go' a)) → Agrees n (with_some x go) (with_some x go')
  with_some_agrees None go go' h = stuck_agrees
  with_some_agrees (Some a) go go' h = h a

  -- something that the state may not have
  with_value_agrees : {A B : Type 0} (of : State → Option A) (go go' : A → Act State B) → ((a : A) → Agrees n (go a) (go' a)) → Agrees n (with_value of go) (with_value of go')
  with_value_agrees of go go' h t s le = with_some_agrees (of s) go go' h t s le

  -- a number that is put
  put_number_agrees : (number : ℤ) → Agrees n (put_number number) (put_number number)
  put_number_agrees (pos number) =
      choose_agrees n (nat_le number 255) (put number >> pure Next) stuck (put number >> pure Next) stuck
      (bind_agrees n (put number) (put number) (λ _. pure Next) (λ _. pure Next) (put_agrees n number) (λ _. pure_agrees n Next))
      stuck_agrees
  put_number_agrees (negsuc below) = stuck_agrees

  -- a number that is stored
  write_agrees : (slot : Slot) (number : ℤ) → Agrees n (write slot number) (write slot number)
  write_agrees slot number t s le = (refl, le)

  -- a result that is stored
  store_result_agrees : (target : Option Slot) (value : Option ℤ) → Agrees n (store_result target value) (store_result target value)
  store_result_agrees None value = pure_agrees n tt
  store_result_agrees (Some slot) value = with_some_agrees value (write slot) (write slot) (write_agrees slot)

  -- the rounds of a counted loop
  rounds_agree : (slot : Slot) (body body' : Act State Flow) → Agrees n body body' → (from count : ℕ) → Agrees n (rounds slot body from count) (rounds slot body' from count)
  rounds_agree slot body body' h from zero = and_next_agrees n (write slot (pos from)) (write slot (pos from)) (write_agrees slot (pos from))
  rounds_agree slot body body' h from (suc count) =
      let rest : Act State Flow = rounds slot body (suc from) count in
      let rest' : Act State Flow = rounds slot body' (suc from) count in
      bind_agrees n (write slot (pos from)) (write slot (pos from)) (λ _. body >>= (λ flow. round_then (after_round flow) rest)) (λ _. body' >>= (λ flow. round_then (after_round flow) rest'))
      (write_agrees slot (pos from))
      (λ _. bind_agrees n body body' (λ flow. round_then (after_round flow) rest) (λ flow. round_then (after_round flow) rest') h
      (λ flow. round_then_agrees n (after_round flow) rest rest' (rounds_agree slot body body' h (suc from) count)))

  -- a byte of the input that is stored
  get_to_agrees : (slot : Slot) → Agrees n (get_to slot) (get_to slot)
  get_to_agrees slot = bind_agrees n get get (λ answer. write slot (gotten answer)) (λ answer. write slot (gotten answer)) (get_agrees n) (λ answer. write_agrees slot (gotten answer))

  -- a call
  call_to_agrees : (target : Option Slot) (arguments : List Expr) (call call' : List ℤ → Act State (Option ℤ)) → ((numbers : List ℤ) → Agrees n (call numbers) (call' numbers)) → Agrees n (call_to target arguments call) (call_to target arguments call')
  call_to_agrees target arguments call call' h =
      let go : Act State (Unit {0}) = with_value (numbers arguments) call >>= store_result target in
      let go' : Act State (Unit {0}) = with_value (numbers arguments) call' >>= store_result target in
      choose_agrees n (has_target target) (go >> pure Next) stuck (go' >> pure Next) stuck
      (and_next_agrees n go go' (bind_agrees n (with_value (numbers arguments) call) (with_value (numbers arguments) call') (store_result target) (store_result target) (with_value_agrees (numbers arguments) call call' h) (store_result_agrees target)))
      stuck_agrees

  -- what a function gives
  given_agrees : (gives : Bool) (flow : Flow) → Agrees n (given gives flow) (given gives flow)
  given_agrees gives (Returned value) t s le = (refl, le)
  given_agrees gives Broke t s le = (refl, le)
  given_agrees false Next t s le = (refl, le)
  given_agrees true Next t s le = (refl, le)

  -- a function in its frame, whose statements agree
  body_agrees : (gives : Bool) (stmts : List Meaning) (call call' : Calls) → Agrees n (in_order stmts call) (in_order stmts call') → Agrees n (body gives stmts call) (body gives stmts call')
  body_agrees gives stmts call call' h =
      bind_agrees n (in_order stmts call >>= given gives) (in_order stmts call' >>= given gives) leave leave
      (bind_agrees n (in_order stmts call) (in_order stmts call') (given gives) (given gives) h (given_agrees gives))
      (λ value t s le. (refl, le))

  -- a return
  returned_agrees : (value : Option Expr) → Agrees n (returned value) (returned value)
  returned_agrees None = pure_agrees n (Returned None)
  returned_agrees (Some e) = with_value_agrees (value e) (λ x. pure (Returned (Some x.number))) (λ x. pure (Returned (Some x.number))) (λ x. pure_agrees n (Returned (Some x.number)))

  -- a statement agrees with itself where calls agree
  abbrev Calm : Stmt → Type 0
  Calm s = (call call' : Calls) → AgreeingCalls n call call' → Agrees n (meaning s call) (meaning s call')

  -- one of which it is known
  abbrev Certain : Type 0
  Certain = (s : Stmt) × Calm s

  -- the statement
  abbrev only : Certain → Stmt
  only certain = certain.0

  -- statements in order, of which so much is known
  in_order_known : (ms : List Certain) (call call' : Calls) → AgreeingCalls n call call' → Agrees n (in_order (map meaning (map only ms)) call) (in_order (map meaning (map only ms)) call')
  in_order_known [] call call' h = pure_agrees n Next
  in_order_known (m ∷ ms) call call' h =
      let rest = in_order (map meaning (map only ms)) call in
      let rest' = in_order (map meaning (map only ms)) call' in
      bind_agrees n (meaning m.0 call) (meaning m.0 call') (then_on rest) (then_on rest') (m.1 call call' h)
      (λ flow. then_on_agrees n rest rest' flow (in_order_known ms call call' h))

  -- a statement
  pub meaning_agrees : (s : Stmt) (call call' : Calls) → AgreeingCalls n call call' → Agrees n (meaning s call) (meaning s call')
  meaning_agrees s = ind-Stmt Calm (λ x y same. subst (λ z. Calm (roll-Stmt z)) same (layer y)) s
    where
      -- by its layer
      via : (x : Stmt-F Stmt) → ((call call' : Calls) → AgreeingCalls n call call' → Agrees n (stmt_step (map-Stmt Stmt Meaning meaning x) call) (stmt_step (map-Stmt Stmt Meaning meaning x) call')) → Calm (roll-Stmt x)
      via x h = subst (λ (m : Meaning). (call call' : Calls) → AgreeingCalls n call call' → Agrees n (m call) (m call')) (sym (meaning_layer x)) h

      -- each layer, where it is known of the parts
      layer : (y : Stmt-F Certain) → Calm (roll-Stmt (map-Stmt Certain Stmt only y))
      layer (stmt.Assign slot e) =
          let stored : Act State (Unit {0}) = with_value (value e) (λ x. write slot x.number) in
          via (stmt.Assign slot e)
          (λ call call' h. choose_agrees n (is_declared slot) (stored >> pure Next) stuck (stored >> pure Next) stuck
          (and_next_agrees n stored stored (with_value_agrees (value e) (λ x. write slot x.number) (λ x. write slot x.number) (λ x. write_agrees slot x.number)))
          stuck_agrees)
      layer (stmt.Call target arguments function) = via (stmt.Call target arguments function) (λ call call' h. call_to_agrees target arguments (call function) (call' function) (h function))
      layer (stmt.Inline target arguments vars gives stmts) =
          via (stmt.Inline target arguments vars gives (map only stmts))
          (λ call call' h.
          let inside = λ (call : Calls). body gives (map meaning (map only stmts)) call in
          call_to_agrees target arguments (λ numbers. begin_inline vars numbers >> inside call) (λ numbers. begin_inline vars numbers >> inside call')
          (λ numbers. bind_agrees n (begin_inline vars numbers) (begin_inline vars numbers) (λ _. inside call) (λ _. inside call') (λ t s le. (refl, le))
          (λ _. body_agrees gives (map meaning (map only stmts)) call call' (in_order_known stmts call call' h))))
      layer stmt.Undefined = via stmt.Undefined (λ call call' h. stuck_agrees)
      layer (stmt.If test chosen other) =
          via (stmt.If test (map only chosen) (map only other))
          (λ call call' h.
          let first = λ (call : Calls). in_order (map meaning (map only chosen)) call in
          let second = λ (call : Calls). in_order (map meaning (map only other)) call in
          with_value_agrees (value test) (λ x. choose (not (is_zero x.number)) (first call) (second call)) (λ x. choose (not (is_zero x.number)) (first call') (second call'))
          (λ x. choose_agrees n (not (is_zero x.number)) (first call) (second call) (first call') (second call') (in_order_known chosen call call' h) (in_order_known other call call' h)))
      layer (stmt.Loop stmts) =
          let inside = λ (call : Calls). in_order (map meaning (map only stmts)) call in
          via (stmt.Loop (map only stmts)) (λ call call' h. loop_agrees n (round (inside call)) (round (inside call')) (round_agrees n (inside call) (inside call') (in_order_known stmts call call' h)))
      layer (stmt.Count slot count stmts) =
          let inside = λ (call : Calls). in_order (map meaning (map only stmts)) call in
          via (stmt.Count slot count (map only stmts))
          (λ call call' h. choose_agrees n (is_declared slot) (rounds slot (inside call) 0 count) stuck (rounds slot (inside call') 0 count) stuck (rounds_agree slot (inside call) (inside call') (in_order_known stmts call call' h) 0 count) stuck_agrees)
      layer stmt.Break = via stmt.Break (λ call call' h. pure_agrees n Broke)
      layer (stmt.Return value) = via (stmt.Return value) (λ call call' h. returned_agrees value)
      layer (stmt.Put e) = via (stmt.Put e) (λ call call' h. with_value_agrees (value e) (λ x. put_number x.number) (λ x. put_number x.number) (λ x. put_number_agrees x.number))
      layer (stmt.Get slot) =
          via (stmt.Get slot) (λ call call' h. choose_agrees n (is_declared slot) (get_to slot >> pure Next) stuck (get_to slot >> pure Next) stuck (and_next_agrees n (get_to slot) (get_to slot) (get_to_agrees slot)) stuck_agrees)
      layer (stmt.Halt kind file line) = via (stmt.Halt kind file line) (λ call call' h t s le. (refl, le))

  -- statements in order
  pub in_order_agrees : (stmts : List Stmt) (call call' : Calls) → AgreeingCalls n call call' → Agrees n (in_order (map meaning stmts) call) (in_order (map meaning stmts) call')
  in_order_agrees [] call call' h = pure_agrees n Next
  in_order_agrees (s ∷ stmts) call call' h =
      let rest = in_order (map meaning stmts) call in
      let rest' = in_order (map meaning stmts) call' in
      bind_agrees n (meaning s call) (meaning s call') (then_on rest) (then_on rest') (meaning_agrees s call call' h)
      (λ flow. then_on_agrees n rest rest' flow (in_order_agrees stmts call call' h))

-- functions agree where what their calls do agrees
pub functions_respect : (program : Program) → Respects (functions program)
functions_respect program n call call' h number arguments =
    let go = λ (call : Calls) (function : Function). begin number function.vars arguments >> body function.gives (map meaning function.body) call in
    with_some_agrees n (slice_get program.functions number) (go call) (go call')
    (λ function. bind_agrees n (begin number function.vars arguments) (begin number function.vars arguments) (λ _. body function.gives (map meaning function.body) call) (λ _. body function.gives (map meaning function.body) call') (λ t s le. (refl, le))
    (λ _. body_agrees n function.gives (map meaning function.body) call call' (in_order_agrees n function.body call call' h)))

-- a call in a run is a turn, and what the function does
pub called_is : (program : Program) (number : ℕ) (arguments : List ℤ) → called program number arguments ≡ (turn >> functions program (called program) number arguments)
unfolding called
called_is program number arguments = calls_are enter (functions program) (λ f x. turn_takes) (functions_respect program) number arguments

-- no call in a run gives a turn back
pub called_steady : (program : Program) (number : ℕ) (arguments : List ℤ) → Steady (called program number arguments)
unfolding called
called_steady program number arguments = calls_steady enter (functions program) (λ f x n. turn_agrees n) (functions_respect program) number arguments

-- a loop in a run is a turn, its statements, and the loop again unless these are left by a break or a return
pub loop_again : (program : Program) (stmts : List Stmt) → loop (round (in_order (map meaning stmts) (called program))) ≡ (turn >> (round (in_order (map meaning stmts) (called program)) >>= (λ given. round_then given (loop (round (in_order (map meaning stmts) (called program)))))))
loop_again program stmts =
    let inside : Act State Flow = in_order (map meaning stmts) (called program) in
    loop_is (round inside) (λ n. round_agrees n inside inside (in_order_agrees n stmts (called program) (called program) (λ number arguments. called_steady program number arguments n)))
