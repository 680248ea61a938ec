-- What each expression of a resolved program gives and each statement does, one variant at a time.
use Rattle.std.proofs.Common.{◌≡◌, ℕ, List, Bool, Option, Some, sym, ap, ◌∙◌, map}
use Rattle.std.specs.Prelude.{pos, not, option_map}
use Rattle.std.specs.Option.{option_and_then}
use Rattle.sl_num.specs.declared.comparing.Comparison.{Comparison}
use Rattle.sl_run.specs.Run.{Trace, Over, Went, pure, over, ◌>>=◌, ◌>>◌, choose, loop}
use Rattle.sl_run.specs.Run as run
use Rattle.c_tree.specs.declared.tree.CBinary.{CBinary}
use Rattle.sl_run.specs.Statements.{Next, Broke, in_order}
use Rattle.c_tree.specs.Meaning.{is_zero}
use Rattle.c_machine.specs.declared.program.Word.{Word}
use Rattle.c_machine.specs.declared.program.Slot.{Slot}
use Rattle.c_machine.specs.declared.program.Expr.{Expr, Expr-F, fold-roll-Expr, map-Expr, roll-Expr}
use Rattle.c_machine.specs.declared.program.Expr.TheOpen as expr_layer
use Rattle.c_machine.specs.declared.program.Expr.TheVariants as expr
use Rattle.c_machine.specs.declared.program.Stmt.{Stmt, Stmt-F, fold-roll-Stmt, map-Stmt, roll-Stmt}
use Rattle.c_machine.specs.declared.program.Stmt.TheOpen as stmt_layer
use Rattle.c_machine.specs.declared.program.Stmt.TheVariants as stmt
use Rattle.c_machine.specs.State.{State, held, is_declared}
use Rattle.c_machine.specs.Values.{binary, compared, negated, value_step, value}
use Rattle.c_machine.specs.Meaning.{stuck, with_value, Calls, Meaning, write, call_to, begin_inline, body, put_number, round, rounds, get_to, returned, stmt_step, meaning}

-- Expressions ---------------------------------------------------------------------------------------------------------

-- the value of an expression
pub value_layer : (x : Expr-F Expr) → value (roll-Expr x) ≡ value_step (map-Expr Expr (State → Option Word) value x)
unfolding value
value_layer x = fold-roll-Expr (State → Option Word) value_step x

-- a constant has its number
pub const_is : (signed : Bool) (number : ℕ) (state : State) → value (expr.Const signed number) state ≡ Some (record { signed = signed; number = pos number })
const_is signed number state = ap (λ e. value e state) (sym (expr.rolls-Const signed number)) ∙ ap (λ v. v state) (value_layer (expr_layer.Const signed number))

-- a variable has the number that it holds
pub read_is : (slot : Slot) (signed : Bool) (state : State) → value (expr.Read slot signed) state ≡ option_map (λ number. record { signed = signed; number = number }) (held slot state)
read_is slot signed state = ap (λ e. value e state) (sym (expr.rolls-Read slot signed)) ∙ ap (λ v. v state) (value_layer (expr_layer.Read slot signed))

-- an operator has the value that it has on those of its operands
pub binary_is : (operator : CBinary) (left right : Expr) (state : State) → value (expr.Binary operator left right) state ≡ option_and_then (λ x. option_and_then (λ y. binary operator x y) (value right state)) (value left state)
binary_is operator left right state = ap (λ e. value e state) (sym (expr.rolls-Binary operator left right)) ∙ ap (λ v. v state) (value_layer (expr_layer.Binary operator left right))

-- a comparison has the value that it has on those of its operands
pub compare_is : (comparison : Comparison) (left right : Expr) (state : State) → value (expr.Compare comparison left right) state ≡ option_and_then (λ x. option_and_then (λ y. compared comparison x y) (value right state)) (value left state)
compare_is comparison left right state = ap (λ e. value e state) (sym (expr.rolls-Compare comparison left right)) ∙ ap (λ v. v state) (value_layer (expr_layer.Compare comparison left right))

-- a negation has the value that it has on that of its operand
pub negate_is : (operand : Expr) (state : State) → value (expr.Negate operand) state ≡ option_and_then negated (value operand state)
negate_is operand state = ap (λ e. value e state) (sym (expr.rolls-Negate operand)) ∙ ap (λ v. v state) (value_layer (expr_layer.Negate operand))

-- what expressions are
pub ruleset expressions_are = (const_is, read_is, binary_is, compare_is, negate_is)

-- Statements ----------------------------------------------------------------------------------------------------------

-- what a statement does
pub meaning_layer : (x : Stmt-F Stmt) → meaning (roll-Stmt x) ≡ stmt_step (map-Stmt Stmt Meaning meaning x)
unfolding meaning
meaning_layer x = fold-roll-Stmt Meaning stmt_step x

module _ (call : Calls) where
  -- the value is stored, where the variable is declared
  pub assign_is : (slot : Slot) (e : Expr) → meaning (stmt.Assign slot e) call ≡ choose (is_declared slot) (with_value (value e) (λ x. write slot x.number) >> pure Next) stuck
  assign_is slot e = ap (λ s. meaning s call) (sym (stmt.rolls-Assign slot e)) ∙ ap (λ m. m call) (meaning_layer (stmt_layer.Assign slot e))

  -- the function with this number is called
  pub call_is : (target : Option Slot) (arguments : List Expr) (function : ℕ) → meaning (stmt.Call target arguments function) call ≡ call_to target arguments (call function)
  call_is target arguments function = ap (λ s. meaning s call) (sym (stmt.rolls-Call target arguments function)) ∙ ap (λ m. m call) (meaning_layer (stmt_layer.Call target arguments function))

  -- the statements of the inline function are done in a frame of their own
  pub inline_is : (target : Option Slot) (arguments : List Expr) (vars : ℕ) (gives : Bool) (stmts : List Stmt) → meaning (stmt.Inline target arguments vars gives stmts) call ≡ call_to target arguments (λ numbers. begin_inline vars numbers >> body gives (map meaning stmts) call)
  inline_is target arguments vars gives stmts = ap (λ s. meaning s call) (sym (stmt.rolls-Inline target arguments vars gives stmts)) ∙ ap (λ m. m call) (meaning_layer (stmt_layer.Inline target arguments vars gives stmts))

  -- nothing is declared
  pub undefined_is : meaning stmt.Undefined call ≡ stuck
  undefined_is = ap (λ s. meaning s call) (sym stmt.rolls-Undefined) ∙ ap (λ m. m call) (meaning_layer stmt_layer.Undefined)

  -- one of the two blocks is done
  pub if_is : (test : Expr) (chosen other : List Stmt) → meaning (stmt.If test chosen other) call ≡ with_value (value test) (λ x. choose (not (is_zero x.number)) (in_order (map meaning chosen) call) (in_order (map meaning other) call))
  if_is test chosen other = ap (λ s. meaning s call) (sym (stmt.rolls-If test chosen other)) ∙ ap (λ m. m call) (meaning_layer (stmt_layer.If test chosen other))

  -- the statements are done round after round
  pub loop_is : (stmts : List Stmt) → meaning (stmt.Loop stmts) call ≡ loop (round (in_order (map meaning stmts) call))
  loop_is stmts = ap (λ s. meaning s call) (sym (stmt.rolls-Loop stmts)) ∙ ap (λ m. m call) (meaning_layer (stmt_layer.Loop stmts))

  -- the statements are done for each count, where the variable is declared
  pub count_is : (slot : Slot) (count : ℕ) (stmts : List Stmt) → meaning (stmt.Count slot count stmts) call ≡ choose (is_declared slot) (rounds slot (in_order (map meaning stmts) call) 0 count) stuck
  count_is slot count stmts = ap (λ s. meaning s call) (sym (stmt.rolls-Count slot count stmts)) ∙ ap (λ m. m call) (meaning_layer (stmt_layer.Count slot count stmts))

  -- the innermost loop is left
  pub break_is : meaning stmt.Break call ≡ pure Broke
  break_is = ap (λ s. meaning s call) (sym stmt.rolls-Break) ∙ ap (λ m. m call) (meaning_layer stmt_layer.Break)

  -- a byte of the input is stored, where the variable is declared
  pub get_is : (slot : Slot) → meaning (stmt.Get slot) call ≡ choose (is_declared slot) (get_to slot >> pure Next) stuck
  get_is slot = ap (λ s. meaning s call) (sym (stmt.rolls-Get slot)) ∙ ap (λ m. m call) (meaning_layer (stmt_layer.Get slot))

  -- the function is left
  pub return_is : (value : Option Expr) → meaning (stmt.Return value) call ≡ returned value
  return_is value = ap (λ s. meaning s call) (sym (stmt.rolls-Return value)) ∙ ap (λ m. m call) (meaning_layer (stmt_layer.Return value))

  -- the number is put
  pub put_is : (e : Expr) → meaning (stmt.Put e) call ≡ with_value (value e) (λ x. put_number x.number)
  put_is e = ap (λ s. meaning s call) (sym (stmt.rolls-Put e)) ∙ ap (λ m. m call) (meaning_layer (stmt_layer.Put e))

  -- the run ends in a halt
  pub halt_is : (kind file line : ℕ) → meaning (stmt.Halt kind file line) call ≡ over (run.Halt kind file line)
  halt_is kind file line = ap (λ s. meaning s call) (sym (stmt.rolls-Halt kind file line)) ∙ ap (λ m. m call) (meaning_layer (stmt_layer.Halt kind file line))
