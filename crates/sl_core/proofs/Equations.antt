-- What each expression and each statement of a core does one variant at a time.
use Rattle.std.proofs.Common.{◌≡◌, ℕ, ℤ, List, Option, sym, ap, ◌∙◌, map}
use Rattle.std.specs.Prelude.{slice_get}
use Rattle.sl_num.specs.declared.arithmetic.Op.{Op}
use Rattle.sl_num.specs.declared.comparing.Comparison.{Comparison}
use Rattle.sl_num.specs.Comparing.{holds, truth}
use Rattle.sl_run.specs.Run.{Trace, Went, Over, pure, over, ◌>>=◌, ◌>>◌, choose, put_all, get, loop}
use Rattle.sl_run.specs.Run as run
use Rattle.sl_core.specs.declared.tree.Core.{Core}
use Rattle.sl_core.specs.declared.tree.CorePath.{CorePath}
use Rattle.sl_core.specs.declared.tree.CoreExpr.{CoreExpr}
use Rattle.sl_core.specs.declared.tree.CoreExpr.TheOpen as expr_layer
use Rattle.sl_core.specs.declared.tree.CoreExpr.TheVariants as expr
use Rattle.sl_core.specs.declared.tree.CoreStmt.{CoreStmt}
use Rattle.sl_core.specs.declared.tree.CoreStmt.TheOpen as stmt_layer
use Rattle.sl_core.specs.declared.tree.CoreStmt.TheVariants as stmt
use Rattle.sl_core.specs.Memory.{Number, Bytes, Memory}
use Rattle.sl_run.specs.Statements.{Next, Broke, Returned, after_round, gotten, in_order}
use Rattle.sl_core.specs.Meaning.{with_some, with_number, read, store, apply_in, evaluate, Callees, is_true, printed_form, store_result, meaning}
use Rattle.sl_core.proofs.Layers.{evaluate_layer, meaning_layer}

module _ (core : Core) where
  -- a number is itself
  pub number_is : (number : ℤ) (type : ℕ) → evaluate core (expr.Number number type) ≡ pure (Number number)
  number_is number type = ap (evaluate core) (sym (expr.rolls-Number number type)) ∙ evaluate_layer core (expr_layer.Number number type)

  -- a text is its bytes
  pub text_is : (bytes : List ℕ) → evaluate core (expr.TextOf bytes) ≡ pure (Bytes bytes)
  text_is bytes = ap (evaluate core) (sym (expr.rolls-TextOf bytes)) ∙ evaluate_layer core (expr_layer.TextOf bytes)

  -- a place has what it holds
  pub path_is : (path : CorePath) (type : ℕ) → evaluate core (expr.Path path type) ≡ read path
  path_is path type = ap (evaluate core) (sym (expr.rolls-Path path type)) ∙ evaluate_layer core (expr_layer.Path path type)

  -- the left operand is computed, then the right one, and then the operation's number
  pub apply_is : (op : Op) (left right : CoreExpr) (type file line : ℕ)
      → evaluate core (expr.Apply op left right type file line)
      ≡ evaluate core left >>= (λ x. evaluate core right >>= (λ y. with_number x (λ a. with_number y (λ b. with_some (slice_get core.types type) (λ kind. apply_in kind op file line a b)))))
  apply_is op left right type file line = ap (evaluate core) (sym (expr.rolls-Apply op left right type file line)) ∙ evaluate_layer core (expr_layer.Apply op left right type file line)

  -- the left operand is computed, then the right one, and then they are compared
  pub compare_is : (comparison : Comparison) (left right : CoreExpr) (type : ℕ)
      → evaluate core (expr.Compare comparison left right type)
      ≡ evaluate core left >>= (λ x. evaluate core right >>= (λ y. with_number x (λ a. with_number y (λ b. pure (Number (truth (holds comparison a b)))))))
  compare_is comparison left right type = ap (evaluate core) (sym (expr.rolls-Compare comparison left right type)) ∙ evaluate_layer core (expr_layer.Compare comparison left right type)

  module _ (call : Callees) where
    -- the expression is computed and stored
    pub store_is : (path : CorePath) (e : CoreExpr) → meaning core (stmt.Store path e) call ≡ evaluate core e >>= store path >> pure Next
    store_is path e = ap (λ s. meaning core s call) (sym (stmt.rolls-Store path e)) ∙ ap (λ m. m call) (meaning_layer core (stmt_layer.Store path e))

    -- the first statements are done where the number isn't 0, and else the others
    pub if_is : (test : CoreExpr) (chosen other : List CoreStmt)
        → meaning core (stmt.If test chosen other) call
        ≡ evaluate core test >>= (λ value. with_number value (λ number. choose (is_true number) (in_order (map (meaning core) chosen) call) (in_order (map (meaning core) other) call)))
    if_is test chosen other = ap (λ s. meaning core s call) (sym (stmt.rolls-If test chosen other)) ∙ ap (λ m. m call) (meaning_layer core (stmt_layer.If test chosen other))

    -- the statements go round until they leave the loop
    pub loop_is : (stmts : List CoreStmt) → meaning core (stmt.Loop stmts) call ≡ loop (in_order (map (meaning core) stmts) call >>= (λ flow. pure (after_round flow)))
    loop_is stmts = ap (λ s. meaning core s call) (sym (stmt.rolls-Loop stmts)) ∙ ap (λ m. m call) (meaning_layer core (stmt_layer.Loop stmts))

    -- the loop around is left
    pub break_is : meaning core stmt.Break call ≡ pure Broke
    break_is = ap (λ s. meaning core s call) (sym stmt.rolls-Break) ∙ ap (λ m. m call) (meaning_layer core stmt_layer.Break)

    -- the function is called, and its result is stored
    pub call_is : (target : Option CorePath) (function : ℕ) → meaning core (stmt.Call target function) call ≡ call function >>= store_result target >> pure Next
    call_is target function = ap (λ s. meaning core s call) (sym (stmt.rolls-Call target function)) ∙ ap (λ m. m call) (meaning_layer core (stmt_layer.Call target function))

    -- the expression is computed, and then printed
    pub put_is : (e : CoreExpr) → meaning core (stmt.Put e) call ≡ evaluate core e >>= (λ value. put_all (printed_form value)) >> pure Next
    put_is e = ap (λ s. meaning core s call) (sym (stmt.rolls-Put e)) ∙ ap (λ m. m call) (meaning_layer core (stmt_layer.Put e))

    -- the input is asked, and what there is is stored
    pub get_is : (path : CorePath) → meaning core (stmt.Get path) call ≡ get >>= (λ byte. store path (Number (gotten byte))) >> pure Next
    get_is path = ap (λ s. meaning core s call) (sym (stmt.rolls-Get path)) ∙ ap (λ m. m call) (meaning_layer core (stmt_layer.Get path))

    -- the run ends in a halt
    pub halt_is : (kind file line : ℕ) → meaning core (stmt.Halt kind file line) call ≡ over (run.Halt kind file line)
    halt_is kind file line = ap (λ s. meaning core s call) (sym (stmt.rolls-Halt kind file line)) ∙ ap (λ m. m call) (meaning_layer core (stmt_layer.Halt kind file line))

    -- the expression is computed, and then the function is left with it
    pub return_is : (e : CoreExpr) → meaning core (stmt.Return e) call ≡ evaluate core e >>= (λ value. pure (Returned value))
    return_is e = ap (λ s. meaning core s call) (sym (stmt.rolls-Return e)) ∙ ap (λ m. m call) (meaning_layer core (stmt_layer.Return e))

module _ (core : Core) where
  pub number_runs : (number : ℤ) (type : ℕ) (t : Trace) (memory : Memory) → evaluate core (expr.Number number type) t memory ≡ Went (Number number) t memory
  number_runs number type t memory = ap (λ a. a t memory) (number_is core number type)

  pub text_runs : (bytes : List ℕ) (t : Trace) (memory : Memory) → evaluate core (expr.TextOf bytes) t memory ≡ Went (Bytes bytes) t memory
  text_runs bytes t memory = ap (λ a. a t memory) (text_is core bytes)

  pub path_runs : (path : CorePath) (type : ℕ) (t : Trace) (memory : Memory) → evaluate core (expr.Path path type) t memory ≡ read path t memory
  path_runs path type t memory = ap (λ a. a t memory) (path_is core path type)

  pub apply_runs : (op : Op) (left right : CoreExpr) (type file line : ℕ) (t : Trace) (memory : Memory)
      → evaluate core (expr.Apply op left right type file line) t memory
      ≡ (evaluate core left >>= (λ x. evaluate core right >>= (λ y. with_number x (λ a. with_number y (λ b. with_some (slice_get core.types type) (λ kind. apply_in kind op file line a b)))))) t memory
  apply_runs op left right type file line t memory = ap (λ a. a t memory) (apply_is core op left right type file line)

  pub compare_runs : (comparison : Comparison) (left right : CoreExpr) (type : ℕ) (t : Trace) (memory : Memory)
      → evaluate core (expr.Compare comparison left right type) t memory
      ≡ (evaluate core left >>= (λ x. evaluate core right >>= (λ y. with_number x (λ a. with_number y (λ b. pure (Number (truth (holds comparison a b)))))))) t memory
  compare_runs comparison left right type t memory = ap (λ a. a t memory) (compare_is core comparison left right type)

  module _ (call : Callees) where
    pub store_runs : (path : CorePath) (e : CoreExpr) (t : Trace) (memory : Memory) → meaning core (stmt.Store path e) call t memory ≡ (evaluate core e >>= store path >> pure Next) t memory
    store_runs path e t memory = ap (λ a. a t memory) (store_is core call path e)

    pub if_runs : (test : CoreExpr) (chosen other : List CoreStmt) (t : Trace) (memory : Memory)
        → meaning core (stmt.If test chosen other) call t memory
        ≡ (evaluate core test >>= (λ value. with_number value (λ number. choose (is_true number) (in_order (map (meaning core) chosen) call) (in_order (map (meaning core) other) call)))) t memory
    if_runs test chosen other t memory = ap (λ a. a t memory) (if_is core call test chosen other)

    pub loop_runs : (stmts : List CoreStmt) (t : Trace) (memory : Memory) → meaning core (stmt.Loop stmts) call t memory ≡ loop (in_order (map (meaning core) stmts) call >>= (λ flow. pure (after_round flow))) t memory
    loop_runs stmts t memory = ap (λ a. a t memory) (loop_is core call stmts)

    pub break_runs : (t : Trace) (memory : Memory) → meaning core stmt.Break call t memory ≡ Went Broke t memory
    break_runs t memory = ap (λ a. a t memory) (break_is core call)

    pub get_runs : (path : CorePath) (t : Trace) (memory : Memory) → meaning core (stmt.Get path) call t memory ≡ (get >>= (λ byte. store path (Number (gotten byte))) >> pure Next) t memory
    get_runs path t memory = ap (λ a. a t memory) (get_is core call path)

    pub call_runs : (target : Option CorePath) (function : ℕ) (t : Trace) (memory : Memory) → meaning core (stmt.Call target function) call t memory ≡ (call function >>= store_result target >> pure Next) t memory
    call_runs target function t memory = ap (λ a. a t memory) (call_is core call target function)

    pub put_runs : (e : CoreExpr) (t : Trace) (memory : Memory) → meaning core (stmt.Put e) call t memory ≡ (evaluate core e >>= (λ value. put_all (printed_form value)) >> pure Next) t memory
    put_runs e t memory = ap (λ a. a t memory) (put_is core call e)

    pub halt_runs : (kind file line : ℕ) (t : Trace) (memory : Memory) → meaning core (stmt.Halt kind file line) call t memory ≡ Over (run.Halt kind file line) t
    halt_runs kind file line t memory = ap (λ a. a t memory) (halt_is core call kind file line)

    pub return_runs : (e : CoreExpr) (t : Trace) (memory : Memory) → meaning core (stmt.Return e) call t memory ≡ (evaluate core e >>= (λ value. pure (Returned value))) t memory
    return_runs e t memory = ap (λ a. a t memory) (return_is core call e)

-- the same at a moment of a run, as `simp` takes them
pub ruleset running = (number_runs, text_runs, path_runs, apply_runs, compare_runs, store_runs, if_runs, loop_runs, break_runs, get_runs, call_runs, put_runs, halt_runs, return_runs)
