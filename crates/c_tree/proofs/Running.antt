-- What each expression and each statement does at a moment of a run: the equations of Equations.antt, as `simp` takes them.
use Rattle.std.proofs.Common.{◌≡◌, ℕ, List, Bool, Some, None, ap}
use Rattle.std.specs.Prelude.{pos, not}
use Rattle.sl_num.specs.declared.comparing.Comparison.{Comparison}
use Rattle.sl_run.specs.Run.{Trace, Over, Went, pure, ◌>>=◌, ◌>>◌, choose, get, loop}
use Rattle.sl_run.specs.Run as run
use Rattle.c_tree.specs.declared.tree.CArg.{CArg}
use Rattle.c_tree.specs.declared.tree.CBinary.{CBinary}
use Rattle.c_tree.specs.declared.tree.CExpr.{CExpr}
use Rattle.c_tree.specs.declared.tree.CExpr.TheVariants.{Const, Read, Binary, Compare, Negate}
use Rattle.c_tree.specs.declared.tree.CPlace.{CPlace}
use Rattle.c_tree.specs.declared.tree.CPlace.TheVariants.{Name}
use Rattle.c_tree.specs.declared.tree.CStmt.{CStmt}
use Rattle.c_tree.specs.declared.tree.CStmt.TheVariants.{Assign, Call, If, Loop, Count, Break, Return, Put, Get, Halt}
use Rattle.c_tree.specs.Scope.{Scope}
use Rattle.c_tree.specs.Memory.{Memory}
use Rattle.sl_run.specs.Statements.{Next, Broke, Returned, after_round, gotten}
use Rattle.c_tree.specs.Meaning.{Callees, located, write_number, is_zero, binary, compared, negated, read_word, evaluate, arguments, rounds, put_value, store_result, meaning, block}
use Rattle.c_tree.proofs.Equations.{const_is, read_is, binary_is, compare_is, negate_is, assign_is, call_is, call_to_is, if_is, if_else_is, while_is, count_is, break_is, return_is, return_none_is, put_is, get_is, halt_is}

module _ (scope : Scope) where
  -- a constant
  pub const_runs : (signed : Bool) (number : ℕ) (t : Trace) (memory : Memory) → evaluate scope (Const signed number) t memory ≡ Went (record { signed = signed; number = pos number }) t memory
  const_runs signed number t memory = ap (λ a. a t memory) (const_is scope signed number)

  -- a place that is read
  pub read_runs : (place : CPlace) (t : Trace) (memory : Memory) → evaluate scope (Read place) t memory ≡ read_word scope place t memory
  read_runs place t memory = ap (λ a. a t memory) (read_is scope place)

  -- an operator
  pub binary_runs : (operator : CBinary) (left right : CExpr) (t : Trace) (memory : Memory) → evaluate scope (Binary operator left right) t memory ≡ (evaluate scope left >>= (λ x. evaluate scope right >>= (λ y. binary operator x y))) t memory
  binary_runs operator left right t memory = ap (λ a. a t memory) (binary_is scope operator left right)

  -- a comparison
  pub compare_runs : (comparison : Comparison) (left right : CExpr) (t : Trace) (memory : Memory) → evaluate scope (Compare comparison left right) t memory ≡ (evaluate scope left >>= (λ x. evaluate scope right >>= (λ y. compared comparison x y))) t memory
  compare_runs comparison left right t memory = ap (λ a. a t memory) (compare_is scope comparison left right)

  -- a negation
  pub negate_runs : (operand : CExpr) (t : Trace) (memory : Memory) → evaluate scope (Negate operand) t memory ≡ (evaluate scope operand >>= negated) t memory
  negate_runs operand t memory = ap (λ a. a t memory) (negate_is scope operand)

  module _ (call : Callees) where
    -- an assignment
    pub assign_runs : (place : CPlace) (e : CExpr) (t : Trace) (memory : Memory) → meaning scope (Assign place e) call t memory ≡ (located scope place >>= (λ pointer. evaluate scope e >>= (λ x. write_number pointer x.number)) >> pure Next) t memory
    assign_runs place e t memory = ap (λ a. a t memory) (assign_is scope call place e)

    -- a call
    pub call_runs : (name : List ℕ) (args : List CArg) (t : Trace) (memory : Memory) → meaning scope (Call None name args) call t memory ≡ (arguments scope args >>= call name >> pure Next) t memory
    call_runs name args t memory = ap (λ a. a t memory) (call_is scope call name args)

    -- a call whose result is stored
    pub call_to_runs : (place : CPlace) (name : List ℕ) (args : List CArg) (t : Trace) (memory : Memory) → meaning scope (Call (Some place) name args) call t memory ≡ (located scope place >>= (λ pointer. arguments scope args >>= call name >>= store_result pointer) >> pure Next) t memory
    call_to_runs place name args t memory = ap (λ a. a t memory) (call_to_is scope call place name args)

    -- an `if` without `else`
    pub if_runs : (test : CExpr) (chosen : List CStmt) (t : Trace) (memory : Memory) → meaning scope (If test chosen None) call t memory ≡ (evaluate scope test >>= (λ x. choose (not (is_zero x.number)) (block scope chosen call) (pure Next))) t memory
    if_runs test chosen t memory = ap (λ a. a t memory) (if_is scope call test chosen)

    -- an `if` with `else`
    pub if_else_runs : (test : CExpr) (chosen other : List CStmt) (t : Trace) (memory : Memory) → meaning scope (If test chosen (Some other)) call t memory ≡ (evaluate scope test >>= (λ x. choose (not (is_zero x.number)) (block scope chosen call) (block scope other call))) t memory
    if_else_runs test chosen other t memory = ap (λ a. a t memory) (if_else_is scope call test chosen other)

    -- a loop
    pub loop_runs : (body : List CStmt) (t : Trace) (memory : Memory) → meaning scope (Loop body) call t memory ≡ loop (block scope body call >>= (λ flow. pure (after_round flow))) t memory
    loop_runs body t memory = ap (λ a. a t memory) (while_is scope call body)

    -- a counted loop
    pub count_runs : (set tested : List ℕ) (count : ℕ) (raised : List ℕ) (body : List CStmt) (t : Trace) (memory : Memory) → meaning scope (Count set tested count raised body) call t memory ≡ (located scope (Name set) >>= (λ pointer. rounds pointer (block scope body call) 0 count)) t memory
    count_runs set tested count raised body t memory = ap (λ a. a t memory) (count_is scope call set tested count raised body)

    -- a `break`
    pub break_runs : (t : Trace) (memory : Memory) → meaning scope Break call t memory ≡ Went Broke t memory
    break_runs t memory = ap (λ a. a t memory) (break_is scope call)

    -- a return with a value
    pub return_runs : (e : CExpr) (t : Trace) (memory : Memory) → meaning scope (Return (Some e)) call t memory ≡ (evaluate scope e >>= (λ x. pure (Returned (Some x.number)))) t memory
    return_runs e t memory = ap (λ a. a t memory) (return_is scope call e)

    -- a return without a value
    pub return_none_runs : (t : Trace) (memory : Memory) → meaning scope (Return None) call t memory ≡ Went (Returned None) t memory
    return_none_runs t memory = ap (λ a. a t memory) (return_none_is scope call)

    -- a put
    pub put_runs : (e : CExpr) (t : Trace) (memory : Memory) → meaning scope (Put e) call t memory ≡ (evaluate scope e >>= (λ x. put_value x.number)) t memory
    put_runs e t memory = ap (λ a. a t memory) (put_is scope call e)

    -- a byte of the input
    pub get_runs : (place : CPlace) (t : Trace) (memory : Memory) → meaning scope (Get place) call t memory ≡ (located scope place >>= (λ pointer. get >>= (λ byte. write_number pointer (gotten byte))) >> pure Next) t memory
    get_runs place t memory = ap (λ a. a t memory) (get_is scope call place)

    -- a halt
    pub halt_runs : (kind file line : ℕ) (t : Trace) (memory : Memory) → meaning scope (Halt kind file line) call t memory ≡ Over (run.Halt kind file line) t
    halt_runs kind file line t memory = ap (λ a. a t memory) (halt_is scope call kind file line)

-- all of them
pub ruleset running = (const_runs, read_runs, binary_runs, compare_runs, negate_runs, assign_runs, call_runs, call_to_runs, if_runs, if_else_runs, loop_runs, count_runs, break_runs, return_runs, return_none_runs, put_runs, get_runs, halt_runs)
