-- What a core does agrees where what its calls do agrees.
use Rattle.std.proofs.Common.{ℕ, ℤ, List, [], ◌∷◌, Option, Some, None, refl, subst, sym, map}
use Rattle.std.specs.Prelude.{Result, Ok, Err, slice_get}
use Rattle.sl_num.specs.declared.arithmetic.Halt.{Halt}
use Rattle.sl_num.specs.declared.arithmetic.Op.{Op}
use Rattle.sl_num.specs.Arithmetic.{applied}
use Rattle.sl_num.specs.Comparing.{holds, truth}
use Rattle.sl_run.specs.Run.{Act, pure, ◌>>=◌, ◌>>◌, choose, put_all, get}
use Rattle.sl_run.specs.Laws.{Agrees, Respects}
use Rattle.sl_run.proofs.Steady.{bind_agrees, pure_agrees, put_all_agrees, get_agrees, choose_agrees, loop_agrees}
use Rattle.sl_run.proofs.Statements.{then_on_agrees, and_next_agrees, round_agrees}
use Rattle.sl_core.specs.declared.tree.Core.{Core}
use Rattle.sl_core.specs.declared.tree.CoreType.{CoreType}
use Rattle.sl_core.specs.declared.tree.CoreType.TheVariants.{Int}
use Rattle.sl_core.specs.declared.tree.CoreFun.{CoreFun}
use Rattle.sl_core.specs.declared.tree.CorePath.{CorePath}
use Rattle.sl_core.specs.declared.tree.CoreExpr.{CoreExpr, CoreExpr-F, ind-CoreExpr, map-CoreExpr, roll-CoreExpr}
use Rattle.sl_core.specs.declared.tree.CoreExpr.TheOpen as expr
use Rattle.sl_core.specs.declared.tree.CoreStmt.{CoreStmt, CoreStmt-F, ind-CoreStmt, map-CoreStmt, roll-CoreStmt}
use Rattle.sl_core.specs.declared.tree.CoreStmt.TheOpen as stmt
use Rattle.sl_core.specs.Memory.{Value, Number, Bytes, Memory, held}
use Rattle.sl_run.specs.Statements.{Next, Broke, Returned, after_round, gotten, then_on, in_order}
use Rattle.sl_core.specs.Meaning.{stuck, with_some, with_number, root_of, read, store, number_or_halt, apply_in, expr_step, evaluate, Flow, Callees, Meaning, is_true, printed_form, store_result, stmt_step, meaning, begin, leave, given, body, functions}
use Rattle.sl_core.proofs.Layers.{evaluate_layer, meaning_layer}

module _ (n : ℕ) where
  stuck_agrees : {A : Type 0} → Agrees n (stuck {A = A}) stuck
  stuck_agrees t s le = (refl, le)

  -- something that there may not be
  with_some_agrees : {A B : Type 0} (x : Option A) (go go' : A → Act Memory B) → ((a : A) → Agrees n (go a) (go' a)) → Agrees n (with_some x go) (with_some x go')
  with_some_agrees None go go' h = stuck_agrees
  with_some_agrees (Some a) go go' h = h a

  -- a number
  with_number_agrees : {B : Type 0} (value : Value) (go go' : ℤ → Act Memory B) → ((number : ℤ) → Agrees n (go number) (go' number)) → Agrees n (with_number value go) (with_number value go')
  with_number_agrees (Number number) go go' h = h number
  with_number_agrees (Bytes bytes) go go' h = stuck_agrees

  -- what a place holds
  read_agrees : (path : CorePath) → Agrees n (read path) (read path)
  read_agrees path t memory le = with_some_agrees (held memory.frames (root_of path.root)) pure pure (λ x. pure_agrees n x) t memory le

  -- a number, or a halt
  number_or_halt_agrees : (file line : ℕ) (result : Result ℤ Halt) → Agrees n (number_or_halt file line result) (number_or_halt file line result)
  number_or_halt_agrees file line (Ok number) = pure_agrees n (Number number)
  number_or_halt_agrees file line (Err halt) = λ t s le. (refl, le)

  apply_in_agrees : (type : CoreType) (op : Op) (file line : ℕ) (a b : ℤ) → Agrees n (apply_in type op file line a b) (apply_in type op file line a b)
  apply_in_agrees (Int kind) op file line a b = number_or_halt_agrees file line (applied kind op a b)

  -- two numbers
  two_agree : (left right : Act Memory Value) (go : ℤ → ℤ → Act Memory Value) → Agrees n left left → Agrees n right right → ((a b : ℤ) → Agrees n (go a b) (go a b))
      → Agrees n (left >>= (λ x. right >>= (λ y. with_number x (λ a. with_number y (λ b. go a b))))) (left >>= (λ x. right >>= (λ y. with_number x (λ a. with_number y (λ b. go a b)))))
  two_agree left right go h k l =
      bind_agrees n left left _ _ h (λ x. bind_agrees n right right _ _ k (λ y. with_number_agrees x (λ a. with_number y (λ b. go a b)) (λ a. with_number y (λ b. go a b)) (λ a. with_number_agrees y (λ b. go a b) (λ b. go a b) (l a))))

  -- what a function gives
  given_agrees : (flow : Flow) → Agrees n (given flow) (given flow)
  given_agrees Next = stuck_agrees
  given_agrees Broke = stuck_agrees
  given_agrees (Returned value) = pure_agrees n value

  -- a result that is stored
  store_result_agrees : (target : Option CorePath) (value : Value) → Agrees n (store_result target value) (store_result target value)
  store_result_agrees None value = pure_agrees n tt
  store_result_agrees (Some path) value = λ t s le. (refl, le)

  module _ (core : Core) where
    abbrev Same : CoreExpr → Type 0
    Same e = Agrees n (evaluate core e) (evaluate core e)

    abbrev Known : Type 0
    Known = (e : CoreExpr) × Same e

    abbrev first : Known → CoreExpr
    first known = known.0

    -- an expression
    pub evaluate_agrees : (e : CoreExpr) → Agrees n (evaluate core e) (evaluate core e)
    evaluate_agrees e = ind-CoreExpr Same (λ x y same. subst (λ z. Same (roll-CoreExpr z)) same (layer y)) e
      where
        via : (x : CoreExpr-F CoreExpr) → Agrees n (expr_step core (map-CoreExpr CoreExpr (Act Memory Value) (evaluate core) x)) (expr_step core (map-CoreExpr CoreExpr (Act Memory Value) (evaluate core) x)) → Same (roll-CoreExpr x)
        via x h = subst (λ (a : Act Memory Value). Agrees n a a) (sym (evaluate_layer core x)) h

        layer : (y : CoreExpr-F Known) → Same (roll-CoreExpr (map-CoreExpr Known CoreExpr first y))
        layer (expr.Number number type) = via (expr.Number number type) (pure_agrees n (Number number))
        layer (expr.TextOf bytes) = via (expr.TextOf bytes) (pure_agrees n (Bytes bytes))
        layer (expr.Path path type) = via (expr.Path path type) (read_agrees path)
        layer (expr.Apply op left right type file line) =
            via (expr.Apply op left.0 right.0 type file line)
            (two_agree (evaluate core left.0) (evaluate core right.0) (λ a b. with_some (slice_get core.types type) (λ kind. apply_in kind op file line a b)) left.1 right.1
            (λ a b. with_some_agrees (slice_get core.types type) (λ kind. apply_in kind op file line a b) (λ kind. apply_in kind op file line a b) (λ kind. apply_in_agrees kind op file line a b)))
        layer (expr.Compare comparison left right type) =
            via (expr.Compare comparison left.0 right.0 type)
            (two_agree (evaluate core left.0) (evaluate core right.0) (λ a b. pure (Number (truth (holds comparison a b)))) left.1 right.1 (λ a b. pure_agrees n (Number (truth (holds comparison a b)))))

    -- what two ways of calling functions have in common
    abbrev Alike : Callees → Callees → Type 0
    Alike call call' = (function : ℕ) → Agrees n (call function) (call' function)

    abbrev Calm : CoreStmt → Type 0
    Calm s = (call call' : Callees) → Alike call call' → Agrees n (meaning core s call) (meaning core s call')

    abbrev Certain : Type 0
    Certain = (s : CoreStmt) × Calm s

    abbrev only : Certain → CoreStmt
    only certain = certain.0

    in_order_known : (ms : List Certain) (call call' : Callees) → Alike call call' → Agrees n (in_order (map (meaning core) (map only ms)) call) (in_order (map (meaning core) (map only ms)) call')
    in_order_known [] call call' h = pure_agrees n Next
    in_order_known (m ∷ ms) call call' h =
        bind_agrees n (meaning core m.0 call) (meaning core m.0 call') (then_on (in_order (map (meaning core) (map only ms)) call)) (then_on (in_order (map (meaning core) (map only ms)) call')) (m.1 call call' h)
        (λ flow. then_on_agrees n (in_order (map (meaning core) (map only ms)) call) (in_order (map (meaning core) (map only ms)) call') flow (in_order_known ms call call' h))

    -- a statement
    pub meaning_agrees : (s : CoreStmt) (call call' : Callees) → Alike call call' → Agrees n (meaning core s call) (meaning core s call')
    meaning_agrees s = ind-CoreStmt Calm (λ x y same. subst (λ z. Calm (roll-CoreStmt z)) same (layer y)) s
      where
        via : (x : CoreStmt-F CoreStmt) → ((call call' : Callees) → Alike call call' → Agrees n (stmt_step core (map-CoreStmt CoreStmt Meaning (meaning core) x) call) (stmt_step core (map-CoreStmt CoreStmt Meaning (meaning core) x) call')) → Calm (roll-CoreStmt x)
        via x h = subst (λ (m : Meaning). (call call' : Callees) → Alike call call' → Agrees n (m call) (m call')) (sym (meaning_layer core x)) h

        layer : (y : CoreStmt-F Certain) → Calm (roll-CoreStmt (map-CoreStmt Certain CoreStmt only y))
        layer (stmt.Store path e) =
            via (stmt.Store path e)
            (λ call call' h. and_next_agrees n (evaluate core e >>= store path) (evaluate core e >>= store path) (bind_agrees n (evaluate core e) (evaluate core e) (store path) (store path) (evaluate_agrees e) (λ value t s le. (refl, le))))
        layer (stmt.If test chosen other) =
            via (stmt.If test (map only chosen) (map only other))
            (λ call call' h.
            let a = in_order (map (meaning core) (map only chosen)) call in
            let a' = in_order (map (meaning core) (map only chosen)) call' in
            let b = in_order (map (meaning core) (map only other)) call in
            let b' = in_order (map (meaning core) (map only other)) call' in
            bind_agrees n (evaluate core test) (evaluate core test) (λ value. with_number value (λ number. choose (is_true number) a b)) (λ value. with_number value (λ number. choose (is_true number) a' b')) (evaluate_agrees test)
            (λ value. with_number_agrees value (λ number. choose (is_true number) a b) (λ number. choose (is_true number) a' b') (λ number. choose_agrees n (is_true number) a b a' b' (in_order_known chosen call call' h) (in_order_known other call call' h))))
        layer (stmt.Loop stmts) =
            via (stmt.Loop (map only stmts))
            (λ call call' h.
            let round = in_order (map (meaning core) (map only stmts)) call in
            let round' = in_order (map (meaning core) (map only stmts)) call' in
            loop_agrees n (round >>= (λ flow. pure (after_round flow))) (round' >>= (λ flow. pure (after_round flow)))
            (round_agrees n round round' (in_order_known stmts call call' h)))
        layer stmt.Break = via stmt.Break (λ call call' h. pure_agrees n Broke)
        layer (stmt.Call target function) =
            via (stmt.Call target function)
            (λ call call' h. and_next_agrees n (call function >>= store_result target) (call' function >>= store_result target) (bind_agrees n (call function) (call' function) (store_result target) (store_result target) (h function) (store_result_agrees target)))
        layer (stmt.Put e) =
            via (stmt.Put e)
            (λ call call' h. and_next_agrees n (evaluate core e >>= (λ value. put_all (printed_form value))) (evaluate core e >>= (λ value. put_all (printed_form value)))
            (bind_agrees n (evaluate core e) (evaluate core e) (λ value. put_all (printed_form value)) (λ value. put_all (printed_form value)) (evaluate_agrees e) (λ value. put_all_agrees n (printed_form value))))
        layer (stmt.Get path) =
            via (stmt.Get path)
            (λ call call' h. and_next_agrees n (get >>= (λ byte. store path (Number (gotten byte)))) (get >>= (λ byte. store path (Number (gotten byte))))
            (bind_agrees n get get (λ byte. store path (Number (gotten byte))) (λ byte. store path (Number (gotten byte))) (get_agrees n) (λ byte t s le. (refl, le))))
        layer (stmt.Halt kind file line) = via (stmt.Halt kind file line) (λ call call' h t s le. (refl, le))
        layer (stmt.Return e) =
            via (stmt.Return e)
            (λ call call' h. bind_agrees n (evaluate core e) (evaluate core e) (λ value. pure (Returned value)) (λ value. pure (Returned value)) (evaluate_agrees e) (λ value. pure_agrees n (Returned value)))

    -- statements in order
    pub in_order_agrees : (stmts : List CoreStmt) (call call' : Callees) → Alike call call' → Agrees n (in_order (map (meaning core) stmts) call) (in_order (map (meaning core) stmts) call')
    in_order_agrees [] call call' h = pure_agrees n Next
    in_order_agrees (s ∷ stmts) call call' h =
        bind_agrees n (meaning core s call) (meaning core s call') (then_on (in_order (map (meaning core) stmts) call)) (then_on (in_order (map (meaning core) stmts) call')) (meaning_agrees s call call' h)
        (λ flow. then_on_agrees n (in_order (map (meaning core) stmts) call) (in_order (map (meaning core) stmts) call') flow (in_order_agrees stmts call call' h))

    -- a function
    body_agrees : (number : ℕ) (function : CoreFun) (call call' : Callees) → Alike call call' → Agrees n (body core number function call) (body core number function call')
    body_agrees number function call call' h =
        let go = in_order (map (meaning core) function.body) call in
        let go' = in_order (map (meaning core) function.body) call' in
        bind_agrees n (begin number function) (begin number function) (λ _. go >>= given >>= leave) (λ _. go' >>= given >>= leave) (λ t s le. (refl, le))
        (λ _. bind_agrees n (go >>= given) (go' >>= given) leave leave (bind_agrees n go go' given given (in_order_agrees function.body call call' h) given_agrees) (λ value t s le. (refl, le)))

-- functions agree where what their calls do agrees
pub functions_respect : (core : Core) → Respects (functions core)
functions_respect core n call call' h number x =
    with_some_agrees n (slice_get core.functions number) (λ function. body core number function (λ callee. call callee tt)) (λ function. body core number function (λ callee. call' callee tt))
    (λ function. body_agrees n core number function (λ callee. call callee tt) (λ callee. call' callee tt) (λ callee. h callee tt))
