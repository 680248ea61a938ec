-- What a core does doesn't look at the events so far.
use Rattle.std.proofs.Common.{ℕ, ℤ, List, [], ◌∷◌, Option, Some, None, refl, subst, sym, map}
use Rattle.std.specs.Prelude.{Result, Ok, Err, slice_get}
use Rattle.sl_num.specs.declared.arithmetic.Halt.{Halt}
use Rattle.sl_num.specs.declared.arithmetic.Op.{Op}
use Rattle.sl_num.specs.Arithmetic.{applied}
use Rattle.sl_num.specs.Comparing.{holds, truth}
use Rattle.sl_run.specs.Run.{Act, pure, ◌>>=◌, ◌>>◌, choose, put_all, get}
use Rattle.sl_run.specs.Laws.{Alone}
use Rattle.sl_run.proofs.Alone.{bind_alone, pure_alone, put_all_alone, get_alone, choose_alone, turn_alone, loop_alone, calls_alone}
use Rattle.sl_run.proofs.Statements.{then_on_alone, and_next_alone, round_alone}
use Rattle.sl_core.specs.declared.tree.Core.{Core}
use Rattle.sl_core.specs.declared.tree.CoreType.{CoreType}
use Rattle.sl_core.specs.declared.tree.CoreType.TheVariants.{Int}
use Rattle.sl_core.specs.declared.tree.CoreFun.{CoreFun}
use Rattle.sl_core.specs.declared.tree.CorePath.{CorePath}
use Rattle.sl_core.specs.declared.tree.CoreExpr.{CoreExpr, CoreExpr-F, ind-CoreExpr, map-CoreExpr, roll-CoreExpr}
use Rattle.sl_core.specs.declared.tree.CoreExpr.TheOpen as expr
use Rattle.sl_core.specs.declared.tree.CoreStmt.{CoreStmt, CoreStmt-F, ind-CoreStmt, map-CoreStmt, roll-CoreStmt}
use Rattle.sl_core.specs.declared.tree.CoreStmt.TheOpen as stmt
use Rattle.sl_core.specs.Memory.{Value, Number, Bytes, Memory, held}
use Rattle.sl_run.specs.Statements.{Next, Broke, Returned, after_round, gotten, then_on, in_order}
use Rattle.sl_core.specs.Meaning.{stuck, with_some, with_number, root_of, read, store, number_or_halt, apply_in, expr_step, evaluate, Flow, Callees, Meaning, is_true, printed_form, store_result, stmt_step, meaning, begin, leave, given, body, functions, enter, run_callees}
use Rattle.sl_core.proofs.Layers.{evaluate_layer, meaning_layer}

stuck_alone : {A : Type 0} → Alone (stuck {A = A})
stuck_alone earlier t s = refl

-- something that there may not be
pub with_some_alone : {A B : Type 0} (x : Option A) (go : A → Act Memory B) → ((a : A) → Alone (go a)) → Alone (with_some x go)
with_some_alone None go h = stuck_alone
with_some_alone (Some a) go h = h a

-- a number
with_number_alone : {B : Type 0} (value : Value) (go : ℤ → Act Memory B) → ((number : ℤ) → Alone (go number)) → Alone (with_number value go)
with_number_alone (Number number) go h = h number
with_number_alone (Bytes bytes) go h = stuck_alone

-- what a place holds
read_at_alone : (value : Option Value) → Alone (with_some value pure)
read_at_alone value = with_some_alone value pure (λ x. pure_alone x)

read_alone : (path : CorePath) → Alone (read path)
read_alone path earlier t memory = read_at_alone (held memory.frames (root_of path.root)) earlier t memory

-- a number, or a halt
number_or_halt_alone : (file line : ℕ) (result : Result ℤ Halt) → Alone (number_or_halt file line result)
number_or_halt_alone file line (Ok number) = pure_alone (Number number)
number_or_halt_alone file line (Err halt) = λ earlier t s. refl

apply_in_alone : (type : CoreType) (op : Op) (file line : ℕ) (a b : ℤ) → Alone (apply_in type op file line a b)
apply_in_alone (Int kind) op file line a b = number_or_halt_alone file line (applied kind op a b)

module _ (core : Core) where
  -- two numbers
  two_alone : (left right : Act Memory Value) (go : ℤ → ℤ → Act Memory Value) → Alone left → Alone right → ((a b : ℤ) → Alone (go a b))
      → Alone (left >>= (λ x. right >>= (λ y. with_number x (λ a. with_number y (λ b. go a b)))))
  two_alone left right go h k l =
      bind_alone left _ h (λ x. bind_alone right _ k (λ y. with_number_alone x (λ a. with_number y (λ b. go a b)) (λ a. with_number_alone y (λ b. go a b) (l a))))

  abbrev IsAlone : CoreExpr → Type 0
  IsAlone e = Alone (evaluate core e)

  abbrev Known : Type 0
  Known = (e : CoreExpr) × IsAlone e

  abbrev first : Known → CoreExpr
  first known = known.0

  -- an expression
  pub evaluate_alone : (e : CoreExpr) → Alone (evaluate core e)
  evaluate_alone e = ind-CoreExpr IsAlone (λ x y same. subst (λ z. IsAlone (roll-CoreExpr z)) same (layer y)) e
    where
      via : (x : CoreExpr-F CoreExpr) → Alone (expr_step core (map-CoreExpr CoreExpr (Act Memory Value) (evaluate core) x)) → IsAlone (roll-CoreExpr x)
      via x h = subst Alone (sym (evaluate_layer core x)) h

      layer : (y : CoreExpr-F Known) → IsAlone (roll-CoreExpr (map-CoreExpr Known CoreExpr first y))
      layer (expr.Number number type) = via (expr.Number number type) (pure_alone (Number number))
      layer (expr.TextOf bytes) = via (expr.TextOf bytes) (pure_alone (Bytes bytes))
      layer (expr.Path path type) = via (expr.Path path type) (read_alone path)
      layer (expr.Apply op left right type file line) =
          via (expr.Apply op left.0 right.0 type file line)
          (two_alone (evaluate core left.0) (evaluate core right.0) (λ a b. with_some (slice_get core.types type) (λ kind. apply_in kind op file line a b)) left.1 right.1
          (λ a b. with_some_alone (slice_get core.types type) (λ kind. apply_in kind op file line a b) (λ kind. apply_in_alone kind op file line a b)))
      layer (expr.Compare comparison left right type) =
          via (expr.Compare comparison left.0 right.0 type)
          (two_alone (evaluate core left.0) (evaluate core right.0) (λ a b. pure (Number (truth (holds comparison a b)))) left.1 right.1 (λ a b. pure_alone (Number (truth (holds comparison a b)))))

-- what a function gives
given_alone : (flow : Flow) → Alone (given flow)
given_alone Next = stuck_alone
given_alone Broke = stuck_alone
given_alone (Returned value) = pure_alone value

-- a result that is stored
store_result_alone : (target : Option CorePath) (value : Value) → Alone (store_result target value)
store_result_alone None value = pure_alone tt
store_result_alone (Some path) value = λ earlier t s. refl

module _ (core : Core) where
  -- a statement is alone where calls are
  abbrev Calm : CoreStmt → Type 0
  Calm s = (call : Callees) → ((function : ℕ) → Alone (call function)) → Alone (meaning core s call)

  abbrev Certain : Type 0
  Certain = (s : CoreStmt) × Calm s

  abbrev only : Certain → CoreStmt
  only certain = certain.0

  in_order_known : (ms : List Certain) (call : Callees) → ((function : ℕ) → Alone (call function)) → Alone (in_order (map (meaning core) (map only ms)) call)
  in_order_known [] call h = pure_alone Next
  in_order_known (m ∷ ms) call h =
      bind_alone (meaning core m.0 call) (then_on (in_order (map (meaning core) (map only ms)) call)) (m.1 call h)
      (λ flow. then_on_alone (in_order (map (meaning core) (map only ms)) call) flow (in_order_known ms call h))

  -- a statement
  pub meaning_alone : (s : CoreStmt) (call : Callees) → ((function : ℕ) → Alone (call function)) → Alone (meaning core s call)
  meaning_alone s = ind-CoreStmt Calm (λ x y same. subst (λ z. Calm (roll-CoreStmt z)) same (layer y)) s
    where
      via : (x : CoreStmt-F CoreStmt) → ((call : Callees) → ((function : ℕ) → Alone (call function)) → Alone (stmt_step core (map-CoreStmt CoreStmt Meaning (meaning core) x) call)) → Calm (roll-CoreStmt x)
      via x h = subst (λ (m : Meaning). (call : Callees) → ((function : ℕ) → Alone (call function)) → Alone (m call)) (sym (meaning_layer core x)) h

      layer : (y : CoreStmt-F Certain) → Calm (roll-CoreStmt (map-CoreStmt Certain CoreStmt only y))
      layer (stmt.Store path e) =
          via (stmt.Store path e) (λ call h. and_next_alone (evaluate core e >>= store path) (bind_alone (evaluate core e) (store path) (evaluate_alone core e) (λ value earlier t s. refl)))
      layer (stmt.If test chosen other) =
          via (stmt.If test (map only chosen) (map only other))
          (λ call h.
          let a = in_order (map (meaning core) (map only chosen)) call in
          let b = in_order (map (meaning core) (map only other)) call in
          bind_alone (evaluate core test) (λ value. with_number value (λ number. choose (is_true number) a b)) (evaluate_alone core test)
          (λ value. with_number_alone value (λ number. choose (is_true number) a b) (λ number. choose_alone (is_true number) a b (in_order_known chosen call h) (in_order_known other call h))))
      layer (stmt.Loop stmts) =
          via (stmt.Loop (map only stmts))
          (λ call h.
          let round = in_order (map (meaning core) (map only stmts)) call in
          loop_alone (round >>= (λ flow. pure (after_round flow))) (round_alone round (in_order_known stmts call h)))
      layer stmt.Break = via stmt.Break (λ call h. pure_alone Broke)
      layer (stmt.Call target function) =
          via (stmt.Call target function) (λ call h. and_next_alone (call function >>= store_result target) (bind_alone (call function) (store_result target) (h function) (store_result_alone target)))
      layer (stmt.Put e) =
          via (stmt.Put e) (λ call h. and_next_alone (evaluate core e >>= (λ value. put_all (printed_form value))) (bind_alone (evaluate core e) (λ value. put_all (printed_form value)) (evaluate_alone core e) (λ value. put_all_alone (printed_form value))))
      layer (stmt.Get path) =
          via (stmt.Get path) (λ call h. and_next_alone (get >>= (λ byte. store path (Number (gotten byte)))) (bind_alone get (λ byte. store path (Number (gotten byte))) get_alone (λ byte earlier t s. refl)))
      layer (stmt.Halt kind file line) = via (stmt.Halt kind file line) (λ call h earlier t s. refl)
      layer (stmt.Return e) = via (stmt.Return e) (λ call h. bind_alone (evaluate core e) (λ value. pure (Returned value)) (evaluate_alone core e) (λ value. pure_alone (Returned value)))

  -- statements in order
  pub in_order_alone : (stmts : List CoreStmt) (call : Callees) → ((function : ℕ) → Alone (call function)) → Alone (in_order (map (meaning core) stmts) call)
  in_order_alone [] call h = pure_alone Next
  in_order_alone (s ∷ stmts) call h =
      bind_alone (meaning core s call) (then_on (in_order (map (meaning core) stmts) call)) (meaning_alone s call h)
      (λ flow. then_on_alone (in_order (map (meaning core) stmts) call) flow (in_order_alone stmts call h))

  -- a function
  body_alone : (number : ℕ) (function : CoreFun) (call : Callees) → ((function : ℕ) → Alone (call function)) → Alone (body core number function call)
  body_alone number function call h =
      bind_alone (begin number function) _ (λ earlier t s. refl)
      (λ _. bind_alone (in_order (map (meaning core) function.body) call >>= given) leave (bind_alone (in_order (map (meaning core) function.body) call) given (in_order_alone function.body call h) given_alone) (λ value earlier t s. refl))

  -- functions
  functions_alone : (call : ℕ → Unit {0} → Act Memory Value) → ((number : ℕ) (x : Unit {0}) → Alone (call number x)) → (number : ℕ) (x : Unit {0}) → Alone (functions core call number x)
  functions_alone call h number x =
      with_some_alone (slice_get core.functions number) (λ function. body core number function (λ callee. call callee tt)) (λ function. body_alone number function (λ callee. call callee tt) (λ callee. h callee tt))

  -- calls in a run
  pub run_callees_alone : (number : ℕ) → Alone (run_callees core number)
  run_callees_alone number = calls_alone enter (functions core) (λ number x. turn_alone) functions_alone number tt
