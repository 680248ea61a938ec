-- What each expression and each statement does, one variant at a time.
use Rattle.std.proofs.Common.{◌≡◌, ℕ, suc, List, Bool, Option, Some, None, refl, sym, ap, ◌∙◌}
use Rattle.std.specs.Prelude.{pos, not}
use Rattle.sl_num.specs.declared.comparing.Comparison.{Comparison}
use Rattle.sl_run.specs.Run.{Act, pure, over, ◌>>=◌, ◌>>◌, choose, get, turn, round_then, loop}
use Rattle.sl_run.specs.Run as run
use Rattle.sl_run.specs.Laws.{Steady}
use Rattle.sl_run.proofs.Then.{bind_assoc}
use Rattle.sl_run.proofs.Equations.{loop_is}
use Rattle.sl_run.proofs.Steady.{bind_agrees, pure_agrees}
use Rattle.c_tree.specs.declared.tree.CArg.{CArg}
use Rattle.c_tree.specs.declared.tree.CBinary.{CBinary}
use Rattle.c_tree.specs.declared.tree.CExpr.{CExpr}
use Rattle.c_tree.specs.declared.tree.CExpr.TheOpen as expr_layer
use Rattle.c_tree.specs.declared.tree.CExpr.TheVariants as expr
use Rattle.c_tree.specs.declared.tree.CPlace.{CPlace}
use Rattle.c_tree.specs.declared.tree.CPlace.TheVariants.{Name}
use Rattle.c_tree.specs.declared.tree.CStmt.{CStmt}
use Rattle.c_tree.specs.declared.tree.CStmt.TheOpen as stmt_layer
use Rattle.c_tree.specs.declared.tree.CStmt.TheVariants as stmt
use Rattle.c_tree.specs.Scope.{Scope}
use Rattle.c_tree.specs.Memory.{Pointer, Tree, Memory}
use Rattle.sl_run.specs.Statements.{Next, Broke, Returned, after_round, gotten}
use Rattle.c_tree.specs.Meaning.{Flow, Callees, located, write_number, is_zero, binary, compared, negated, read_word, evaluate, arguments, rounds, put_value, store_result, meaning, block}
use Rattle.c_tree.proofs.Layers.{evaluate_layer, meaning_layer}
use Rattle.c_tree.proofs.Steady.{block_steady}

module _ (scope : Scope) where
  -- a constant has its number
  pub const_is : (signed : Bool) (number : ℕ) → evaluate scope (expr.Const signed number) ≡ pure (record { signed = signed; number = pos number })
  const_is signed number = ap (evaluate scope) (sym (expr.rolls-Const signed number)) ∙ evaluate_layer scope (expr_layer.Const signed number)

  -- a place has the number that it holds
  pub read_is : (place : CPlace) → evaluate scope (expr.Read place) ≡ read_word scope place
  read_is place = ap (evaluate scope) (sym (expr.rolls-Read place)) ∙ evaluate_layer scope (expr_layer.Read place)

  -- the left operand is computed, then the right one, and then the operator's value
  pub binary_is : (operator : CBinary) (left right : CExpr) → evaluate scope (expr.Binary operator left right) ≡ evaluate scope left >>= (λ x. evaluate scope right >>= (λ y. binary operator x y))
  binary_is operator left right = ap (evaluate scope) (sym (expr.rolls-Binary operator left right)) ∙ evaluate_layer scope (expr_layer.Binary operator left right)

  -- the left operand is computed, then the right one, and then they are compared
  pub compare_is : (comparison : Comparison) (left right : CExpr) → evaluate scope (expr.Compare comparison left right) ≡ evaluate scope left >>= (λ x. evaluate scope right >>= (λ y. compared comparison x y))
  compare_is comparison left right = ap (evaluate scope) (sym (expr.rolls-Compare comparison left right)) ∙ evaluate_layer scope (expr_layer.Compare comparison left right)

  -- the operand is computed, and then negated
  pub negate_is : (operand : CExpr) → evaluate scope (expr.Negate operand) ≡ evaluate scope operand >>= negated
  negate_is operand = ap (evaluate scope) (sym (expr.rolls-Negate operand)) ∙ evaluate_layer scope (expr_layer.Negate operand)

  module _ (call : Callees) where
    -- the place is found, then the expression is computed, and then its number is stored
    pub assign_is : (place : CPlace) (e : CExpr) → meaning scope (stmt.Assign place e) call ≡ located scope place >>= (λ pointer. evaluate scope e >>= (λ x. write_number pointer x.number)) >> pure Next
    assign_is place e = ap (λ s. meaning scope s call) (sym (stmt.rolls-Assign place e)) ∙ ap (λ m. m call) (meaning_layer scope (stmt_layer.Assign place e))

    -- the arguments are computed, and then the function is called
    pub call_is : (name : List ℕ) (args : List CArg) → meaning scope (stmt.Call None name args) call ≡ arguments scope args >>= call name >> pure Next
    call_is name args = ap (λ s. meaning scope s call) (sym (stmt.rolls-Call None name args)) ∙ ap (λ m. m call) (meaning_layer scope (stmt_layer.Call None name args))

    -- the place is found first, and what the function gives is stored there
    pub call_to_is : (place : CPlace) (name : List ℕ) (args : List CArg) → meaning scope (stmt.Call (Some place) name args) call ≡ located scope place >>= (λ pointer. arguments scope args >>= call name >>= store_result pointer) >> pure Next
    call_to_is place name args = ap (λ s. meaning scope s call) (sym (stmt.rolls-Call (Some place) name args)) ∙ ap (λ m. m call) (meaning_layer scope (stmt_layer.Call (Some place) name args))

    -- the block is done where the test isn't zero
    pub if_is : (test : CExpr) (chosen : List CStmt) → meaning scope (stmt.If test chosen None) call ≡ evaluate scope test >>= (λ x. choose (not (is_zero x.number)) (block scope chosen call) (pure Next))
    if_is test chosen = ap (λ s. meaning scope s call) (sym (stmt.rolls-If test chosen None)) ∙ ap (λ m. m call) (meaning_layer scope (stmt_layer.If test chosen None))

    -- one of the two blocks is done
    pub if_else_is : (test : CExpr) (chosen other : List CStmt) → meaning scope (stmt.If test chosen (Some other)) call ≡ evaluate scope test >>= (λ x. choose (not (is_zero x.number)) (block scope chosen call) (block scope other call))
    if_else_is test chosen other = ap (λ s. meaning scope s call) (sym (stmt.rolls-If test chosen (Some other))) ∙ ap (λ m. m call) (meaning_layer scope (stmt_layer.If test chosen (Some other)))

    -- the block is done round after round, until it isn't left by its end
    pub while_is : (body : List CStmt) → meaning scope (stmt.Loop body) call ≡ loop (block scope body call >>= (λ flow. pure (after_round flow)))
    while_is body = ap (λ s. meaning scope s call) (sym (stmt.rolls-Loop body)) ∙ ap (λ m. m call) (meaning_layer scope (stmt_layer.Loop body))

    -- A loop is a turn, then its block, and then the loop again unless the block is left by a `break` or a return
    pub while_turns : ((name : List ℕ) (args : List Tree) → Steady (call name args)) → (body : List CStmt)
        → meaning scope (stmt.Loop body) call ≡ turn >> (block scope body call >>= (λ flow. round_then (after_round flow) (meaning scope (stmt.Loop body) call)))
    while_turns steady body =
        let go : Act Memory Flow = block scope body call in
        let left : Flow → Act Memory (Option Flow) = λ flow. pure (after_round flow) in
        let again : Act Memory Flow = loop (go >>= left) in
        while_is body
        ∙ (loop_is (go >>= left) (λ n. bind_agrees n go go left left (block_steady scope body call steady n) (λ flow. pure_agrees n (after_round flow)))
        ∙ (ap (λ rest. turn >> rest) (bind_assoc go left (λ given. round_then given again))
        ∙ ap (λ again. turn >> (go >>= (λ flow. round_then (after_round flow) again))) (sym (while_is body))))

    -- the place of the variable is found once, and then the block is done for each count from 0 on
    pub count_is : (set tested : List ℕ) (count : ℕ) (raised : List ℕ) (body : List CStmt) → meaning scope (stmt.Count set tested count raised body) call ≡ located scope (Name set) >>= (λ pointer. rounds pointer (block scope body call) 0 count)
    count_is set tested count raised body = ap (λ s. meaning scope s call) (sym (stmt.rolls-Count set tested count raised body)) ∙ ap (λ m. m call) (meaning_layer scope (stmt_layer.Count set tested count raised body))

    -- the loop around it is left
    pub break_is : meaning scope stmt.Break call ≡ pure Broke
    break_is = ap (λ s. meaning scope s call) (sym (stmt.rolls-Break)) ∙ ap (λ m. m call) (meaning_layer scope (stmt_layer.Break))

    -- the expression is computed, and then the function is left with its number
    pub return_is : (e : CExpr) → meaning scope (stmt.Return (Some e)) call ≡ evaluate scope e >>= (λ x. pure (Returned (Some x.number)))
    return_is e = ap (λ s. meaning scope s call) (sym (stmt.rolls-Return (Some e))) ∙ ap (λ m. m call) (meaning_layer scope (stmt_layer.Return (Some e)))

    -- the function is left without a value
    pub return_none_is : meaning scope (stmt.Return None) call ≡ pure (Returned None)
    return_none_is = ap (λ s. meaning scope s call) (sym (stmt.rolls-Return None)) ∙ ap (λ m. m call) (meaning_layer scope (stmt_layer.Return None))

    -- the expression is computed, and then its number is put
    pub put_is : (e : CExpr) → meaning scope (stmt.Put e) call ≡ evaluate scope e >>= (λ x. put_value x.number)
    put_is e = ap (λ s. meaning scope s call) (sym (stmt.rolls-Put e)) ∙ ap (λ m. m call) (meaning_layer scope (stmt_layer.Put e))

    -- the place is found, then a byte is asked for, and then it is stored, or -1 where there is none
    pub get_is : (place : CPlace) → meaning scope (stmt.Get place) call ≡ located scope place >>= (λ pointer. get >>= (λ byte. write_number pointer (gotten byte))) >> pure Next
    get_is place = ap (λ s. meaning scope s call) (sym (stmt.rolls-Get place)) ∙ ap (λ m. m call) (meaning_layer scope (stmt_layer.Get place))

    -- the run ends in a halt
    pub halt_is : (kind file line : ℕ) → meaning scope (stmt.Halt kind file line) call ≡ over (run.Halt kind file line)
    halt_is kind file line = ap (λ s. meaning scope s call) (sym (stmt.rolls-Halt kind file line)) ∙ ap (λ m. m call) (meaning_layer scope (stmt_layer.Halt kind file line))

-- what expressions are
pub ruleset expressions_are = (const_is, read_is, binary_is, compare_is, negate_is)

-- what statements do
pub ruleset statements_are = (assign_is, call_is, call_to_is, if_is, if_else_is, while_is, count_is, break_is, return_is, return_none_is, put_is, get_is, halt_is)

-- Rounds --------------------------------------------------------------------------------------------------------------

-- where no round is left, the count at which the test fails is stored, and the loop is left by its end
pub rounds_end : (pointer : Pointer) (body : Act Memory Flow) (from : ℕ) → rounds pointer body from 0 ≡ write_number pointer (pos from) >> pure Next
rounds_end pointer body from = refl

-- else the count is stored, then the body goes round once, and then the rounds from the next count on unless the body is left by a
-- `break` or a return
pub rounds_go : (pointer : Pointer) (body : Act Memory Flow) (from count : ℕ) → rounds pointer body from (suc count) ≡ write_number pointer (pos from) >> (body >>= (λ flow. round_then (after_round flow) (rounds pointer body (suc from) count)))
rounds_go pointer body from count = refl
