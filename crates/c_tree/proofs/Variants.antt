-- The leaves, the actions, the tokens, the depth and the types of expressions and statements, and what the rules ask of statements, one
-- variant at a time.
use Rattle.std.proofs.Common.{◌≡◌, ℕ, ◌+◌, List, [], ◌∷◌, ◌++◌, Bool, true, false, Option, Some, None, sym, ap, ◌∙◌, map, codes}
use Rattle.std.specs.Prelude.{max, ◌&&◌, ◌||◌}
use Rattle.std.specs.Fmt.{decimal}
use Rattle.sl_num.specs.declared.comparing.Comparison.{Comparison}
use Rattle.c_tree.specs.declared.tree.CArg.{CArg}
use Rattle.c_tree.specs.declared.tree.CBinary.{CBinary}
use Rattle.c_tree.specs.declared.tree.CExpr.{CExpr}
use Rattle.c_tree.specs.declared.tree.CExpr.TheOpen as expr_layer
use Rattle.c_tree.specs.declared.tree.CExpr.TheVariants as expr
use Rattle.c_tree.specs.declared.tree.CPlace.{CPlace}
use Rattle.c_tree.specs.declared.tree.CPlace.TheVariants.{Name}
use Rattle.c_tree.specs.declared.tree.CStmt.{CStmt}
use Rattle.c_tree.specs.declared.tree.CStmt.TheOpen as stmt_layer
use Rattle.c_tree.specs.declared.tree.CStmt.TheVariants as stmt
use Rattle.c_tree.specs.declared.tree.CType.TheVariants.{Int}
use Rattle.c_tree.specs.Parts.{Constant, Reads, leaves, Assigns, Calls, Tests, Returns, Puts, Gets, Loops, Counts, Halts, argument_of, arguments_of, joined, actions}
use Rattle.c_tree.specs.Flat.{lexemes, const_word, operator_mark, comparison_mark, flat_place, flat_expr, flat_arguments, flat_target, flat_block, flat_returned, flat_stmt}
use Rattle.c_tree.specs.WellFormed.{target_depth, expr_depth, deepest, returned_depth, stmt_depth}
use Rattle.c_tree.specs.Scope.{Scope}
use Rattle.c_tree.specs.Rules.{word, type_of_place, operands_fit, operand_fits, typed, is_among, target_among, any_with, recounts, last_is, ends_function, some_are, strays}
use Rattle.c_tree.proofs.Layers.{leaves_layer, actions_layer, flat_expr_layer, flat_stmt_layer, expr_depth_layer, stmt_depth_layer, typed_layer, recounts_layer, ends_layer, strays_layer}

-- The leaves of expressions -------------------------------------------------------------------------------------------

-- of a constant
pub leaves_of_const : (signed : Bool) (number : ℕ) → leaves (expr.Const signed number) ≡ Constant signed number ∷ []
leaves_of_const signed number = ap leaves (sym (expr.rolls-Const signed number)) ∙ leaves_layer (expr_layer.Const signed number)

-- of a place that is read
pub leaves_of_read : (place : CPlace) → leaves (expr.Read place) ≡ Reads place ∷ []
leaves_of_read place = ap leaves (sym (expr.rolls-Read place)) ∙ leaves_layer (expr_layer.Read place)

-- of an operator
pub leaves_of_binary : (operator : CBinary) (left right : CExpr) → leaves (expr.Binary operator left right) ≡ leaves left ++ leaves right
leaves_of_binary operator left right = ap leaves (sym (expr.rolls-Binary operator left right)) ∙ leaves_layer (expr_layer.Binary operator left right)

-- of a comparison
pub leaves_of_compare : (comparison : Comparison) (left right : CExpr) → leaves (expr.Compare comparison left right) ≡ leaves left ++ leaves right
leaves_of_compare comparison left right = ap leaves (sym (expr.rolls-Compare comparison left right)) ∙ leaves_layer (expr_layer.Compare comparison left right)

-- of a negation
pub leaves_of_negate : (operand : CExpr) → leaves (expr.Negate operand) ≡ leaves operand
leaves_of_negate operand = ap leaves (sym (expr.rolls-Negate operand)) ∙ leaves_layer (expr_layer.Negate operand)

-- The tokens of expressions -------------------------------------------------------------------------------------------

-- of a constant
pub flat_of_const : (signed : Bool) (number : ℕ) → flat_expr (expr.Const signed number) ≡ lexemes (const_word signed ∷ codes "(" ∷ decimal number ∷ codes ")" ∷ [])
flat_of_const signed number = ap flat_expr (sym (expr.rolls-Const signed number)) ∙ flat_expr_layer (expr_layer.Const signed number)

-- of a place that is read
pub flat_of_read : (place : CPlace) → flat_expr (expr.Read place) ≡ flat_place place
flat_of_read place = ap flat_expr (sym (expr.rolls-Read place)) ∙ flat_expr_layer (expr_layer.Read place)

-- of an operator
pub flat_of_binary : (operator : CBinary) (left right : CExpr) → flat_expr (expr.Binary operator left right) ≡ lexemes (codes "(" ∷ []) ++ flat_expr left ++ lexemes (operator_mark operator ∷ []) ++ flat_expr right ++ lexemes (codes ")" ∷ [])
flat_of_binary operator left right = ap flat_expr (sym (expr.rolls-Binary operator left right)) ∙ flat_expr_layer (expr_layer.Binary operator left right)

-- of a comparison
pub flat_of_compare : (comparison : Comparison) (left right : CExpr) → flat_expr (expr.Compare comparison left right) ≡ lexemes (codes "(" ∷ codes "int64_t" ∷ codes ")" ∷ codes "(" ∷ []) ++ flat_expr left ++ lexemes (comparison_mark comparison ∷ []) ++ flat_expr right ++ lexemes (codes ")" ∷ [])
flat_of_compare comparison left right = ap flat_expr (sym (expr.rolls-Compare comparison left right)) ∙ flat_expr_layer (expr_layer.Compare comparison left right)

-- of a negation
pub flat_of_negate : (operand : CExpr) → flat_expr (expr.Negate operand) ≡ lexemes (codes "(" ∷ codes "-" ∷ []) ++ flat_expr operand ++ lexemes (codes ")" ∷ [])
flat_of_negate operand = ap flat_expr (sym (expr.rolls-Negate operand)) ∙ flat_expr_layer (expr_layer.Negate operand)

-- How deep expressions nest -------------------------------------------------------------------------------------------

-- of a constant
pub depth_of_const : (signed : Bool) (number : ℕ) → expr_depth (expr.Const signed number) ≡ 1
depth_of_const signed number = ap expr_depth (sym (expr.rolls-Const signed number)) ∙ expr_depth_layer (expr_layer.Const signed number)

-- of a place that is read
pub depth_of_read : (place : CPlace) → expr_depth (expr.Read place) ≡ 1
depth_of_read place = ap expr_depth (sym (expr.rolls-Read place)) ∙ expr_depth_layer (expr_layer.Read place)

-- of an operator
pub depth_of_binary : (operator : CBinary) (left right : CExpr) → expr_depth (expr.Binary operator left right) ≡ 1 + max (expr_depth left) (expr_depth right)
depth_of_binary operator left right = ap expr_depth (sym (expr.rolls-Binary operator left right)) ∙ expr_depth_layer (expr_layer.Binary operator left right)

-- of a comparison
pub depth_of_compare : (comparison : Comparison) (left right : CExpr) → expr_depth (expr.Compare comparison left right) ≡ 1 + max (expr_depth left) (expr_depth right)
depth_of_compare comparison left right = ap expr_depth (sym (expr.rolls-Compare comparison left right)) ∙ expr_depth_layer (expr_layer.Compare comparison left right)

-- of a negation
pub depth_of_negate : (operand : CExpr) → expr_depth (expr.Negate operand) ≡ 1 + expr_depth operand
depth_of_negate operand = ap expr_depth (sym (expr.rolls-Negate operand)) ∙ expr_depth_layer (expr_layer.Negate operand)

-- What is known of expressions ----------------------------------------------------------------------------------------

module _ (scope : Scope) where
  -- of a constant
  pub typed_of_const : (signed : Bool) (number : ℕ) → typed scope (expr.Const signed number) ≡ record { type = Some (Int signed 64); fits = true }
  typed_of_const signed number = ap (typed scope) (sym (expr.rolls-Const signed number)) ∙ typed_layer scope (expr_layer.Const signed number)

  -- of a place that is read
  pub typed_of_read : (place : CPlace) → typed scope (expr.Read place) ≡ record { type = type_of_place scope place; fits = true }
  typed_of_read place = ap (typed scope) (sym (expr.rolls-Read place)) ∙ typed_layer scope (expr_layer.Read place)

  -- of an operator
  pub typed_of_binary : (operator : CBinary) (left right : CExpr) → typed scope (expr.Binary operator left right) ≡ record { type = (typed scope left).type; fits = (typed scope left).fits && (typed scope right).fits && operands_fit (typed scope left).type (typed scope right).type }
  typed_of_binary operator left right = ap (typed scope) (sym (expr.rolls-Binary operator left right)) ∙ typed_layer scope (expr_layer.Binary operator left right)

  -- of a comparison
  pub typed_of_compare : (comparison : Comparison) (left right : CExpr) → typed scope (expr.Compare comparison left right) ≡ record { type = Some word; fits = (typed scope left).fits && (typed scope right).fits && operands_fit (typed scope left).type (typed scope right).type }
  typed_of_compare comparison left right = ap (typed scope) (sym (expr.rolls-Compare comparison left right)) ∙ typed_layer scope (expr_layer.Compare comparison left right)

  -- of a negation
  pub typed_of_negate : (operand : CExpr) → typed scope (expr.Negate operand) ≡ record { type = Some word; fits = (typed scope operand).fits && operand_fits (typed scope operand).type }
  typed_of_negate operand = ap (typed scope) (sym (expr.rolls-Negate operand)) ∙ typed_layer scope (expr_layer.Negate operand)

-- The actions of statements -------------------------------------------------------------------------------------------

-- of an assignment
pub actions_of_assign : (place : CPlace) (e : CExpr) → actions (stmt.Assign place e) ≡ Assigns place e ∷ []
actions_of_assign place e = ap actions (sym (stmt.rolls-Assign place e)) ∙ actions_layer (stmt_layer.Assign place e)

-- of a call
pub actions_of_call : (target : Option CPlace) (name : List ℕ) (args : List CArg) → actions (stmt.Call target name args) ≡ Calls target name (arguments_of args) ∷ []
actions_of_call target name args = ap actions (sym (stmt.rolls-Call target name args)) ∙ actions_layer (stmt_layer.Call target name args)

-- of an `if` without `else`
pub actions_of_if : (test : CExpr) (chosen : List CStmt) → actions (stmt.If test chosen None) ≡ Tests test ∷ joined (map actions chosen) ++ []
actions_of_if test chosen = ap actions (sym (stmt.rolls-If test chosen None)) ∙ actions_layer (stmt_layer.If test chosen None)

-- of an `if` with `else`
pub actions_of_if_else : (test : CExpr) (chosen other : List CStmt) → actions (stmt.If test chosen (Some other)) ≡ Tests test ∷ joined (map actions chosen) ++ joined (map actions other)
actions_of_if_else test chosen other = ap actions (sym (stmt.rolls-If test chosen (Some other))) ∙ actions_layer (stmt_layer.If test chosen (Some other))

-- of a loop
pub actions_of_loop : (body : List CStmt) → actions (stmt.Loop body) ≡ Loops ∷ joined (map actions body)
actions_of_loop body = ap actions (sym (stmt.rolls-Loop body)) ∙ actions_layer (stmt_layer.Loop body)

-- of a counted loop
pub actions_of_count : (set tested : List ℕ) (count : ℕ) (raised : List ℕ) (body : List CStmt) → actions (stmt.Count set tested count raised body) ≡ Counts set tested raised count ∷ joined (map actions body)
actions_of_count set tested count raised body = ap actions (sym (stmt.rolls-Count set tested count raised body)) ∙ actions_layer (stmt_layer.Count set tested count raised body)

-- of a `break`
pub actions_of_break : actions stmt.Break ≡ []
actions_of_break = ap actions (sym stmt.rolls-Break) ∙ actions_layer stmt_layer.Break

-- of a return
pub actions_of_return : (value : Option CExpr) → actions (stmt.Return value) ≡ Returns value ∷ []
actions_of_return value = ap actions (sym (stmt.rolls-Return value)) ∙ actions_layer (stmt_layer.Return value)

-- of a put
pub actions_of_put : (e : CExpr) → actions (stmt.Put e) ≡ Puts e ∷ []
actions_of_put e = ap actions (sym (stmt.rolls-Put e)) ∙ actions_layer (stmt_layer.Put e)

-- of a byte of the input
pub actions_of_get : (place : CPlace) → actions (stmt.Get place) ≡ Gets place ∷ []
actions_of_get place = ap actions (sym (stmt.rolls-Get place)) ∙ actions_layer (stmt_layer.Get place)

-- of a halt
pub actions_of_halt : (kind file line : ℕ) → actions (stmt.Halt kind file line) ≡ Halts kind file line ∷ []
actions_of_halt kind file line = ap actions (sym (stmt.rolls-Halt kind file line)) ∙ actions_layer (stmt_layer.Halt kind file line)

-- The tokens of statements --------------------------------------------------------------------------------------------

-- of an assignment
pub flat_of_assign : (place : CPlace) (e : CExpr) → flat_stmt (stmt.Assign place e) ≡ flat_place place ++ lexemes (codes "=" ∷ []) ++ flat_expr e ++ lexemes (codes ";" ∷ [])
flat_of_assign place e = ap flat_stmt (sym (stmt.rolls-Assign place e)) ∙ flat_stmt_layer (stmt_layer.Assign place e)

-- of a call
pub flat_of_call : (target : Option CPlace) (name : List ℕ) (args : List CArg) → flat_stmt (stmt.Call target name args) ≡ flat_target target ++ lexemes (name ∷ codes "(" ∷ []) ++ flat_arguments args ++ lexemes (codes ")" ∷ codes ";" ∷ [])
flat_of_call target name args = ap flat_stmt (sym (stmt.rolls-Call target name args)) ∙ flat_stmt_layer (stmt_layer.Call target name args)

-- of an `if` without `else`
pub flat_of_if : (test : CExpr) (chosen : List CStmt) → flat_stmt (stmt.If test chosen None) ≡ lexemes (codes "if" ∷ codes "(" ∷ []) ++ flat_expr test ++ lexemes (codes ")" ∷ []) ++ flat_block (map flat_stmt chosen) ++ []
flat_of_if test chosen = ap flat_stmt (sym (stmt.rolls-If test chosen None)) ∙ flat_stmt_layer (stmt_layer.If test chosen None)

-- of an `if` with `else`
pub flat_of_if_else : (test : CExpr) (chosen other : List CStmt) → flat_stmt (stmt.If test chosen (Some other)) ≡ lexemes (codes "if" ∷ codes "(" ∷ []) ++ flat_expr test ++ lexemes (codes ")" ∷ []) ++ flat_block (map flat_stmt chosen) ++ (lexemes (codes "else" ∷ []) ++ flat_block (map flat_stmt other))
flat_of_if_else test chosen other = ap flat_stmt (sym (stmt.rolls-If test chosen (Some other))) ∙ flat_stmt_layer (stmt_layer.If test chosen (Some other))

-- of a loop
pub flat_of_loop : (body : List CStmt) → flat_stmt (stmt.Loop body) ≡ lexemes (codes "while" ∷ codes "(" ∷ codes "1" ∷ codes ")" ∷ []) ++ flat_block (map flat_stmt body)
flat_of_loop body = ap flat_stmt (sym (stmt.rolls-Loop body)) ∙ flat_stmt_layer (stmt_layer.Loop body)

-- of a counted loop
pub flat_of_count : (set tested : List ℕ) (count : ℕ) (raised : List ℕ) (body : List CStmt) → flat_stmt (stmt.Count set tested count raised body) ≡ lexemes (codes "for" ∷ codes "(" ∷ set ∷ codes "=" ∷ codes "INT64_C" ∷ codes "(" ∷ codes "0" ∷ codes ")" ∷ codes ";" ∷ tested ∷ codes "<" ∷ decimal count ∷ codes ";" ∷ raised ∷ codes "++" ∷ codes ")" ∷ []) ++ flat_block (map flat_stmt body)
flat_of_count set tested count raised body = ap flat_stmt (sym (stmt.rolls-Count set tested count raised body)) ∙ flat_stmt_layer (stmt_layer.Count set tested count raised body)

-- of a `break`
pub flat_of_break : flat_stmt stmt.Break ≡ lexemes (codes "break" ∷ codes ";" ∷ [])
flat_of_break = ap flat_stmt (sym stmt.rolls-Break) ∙ flat_stmt_layer stmt_layer.Break

-- of a return
pub flat_of_return : (value : Option CExpr) → flat_stmt (stmt.Return value) ≡ lexemes (codes "return" ∷ []) ++ flat_returned value ++ lexemes (codes ";" ∷ [])
flat_of_return value = ap flat_stmt (sym (stmt.rolls-Return value)) ∙ flat_stmt_layer (stmt_layer.Return value)

-- of a put
pub flat_of_put : (e : CExpr) → flat_stmt (stmt.Put e) ≡ lexemes (codes "sl_put" ∷ codes "(" ∷ []) ++ flat_expr e ++ lexemes (codes ")" ∷ codes ";" ∷ [])
flat_of_put e = ap flat_stmt (sym (stmt.rolls-Put e)) ∙ flat_stmt_layer (stmt_layer.Put e)

-- of a byte of the input
pub flat_of_get : (place : CPlace) → flat_stmt (stmt.Get place) ≡ flat_place place ++ lexemes (codes "=" ∷ codes "sl_get" ∷ codes "(" ∷ codes ")" ∷ codes ";" ∷ [])
flat_of_get place = ap flat_stmt (sym (stmt.rolls-Get place)) ∙ flat_stmt_layer (stmt_layer.Get place)

-- of a halt
pub flat_of_halt : (kind file line : ℕ) → flat_stmt (stmt.Halt kind file line) ≡ lexemes (codes "sl_halt" ∷ codes "(" ∷ decimal kind ∷ codes "," ∷ decimal file ∷ codes "," ∷ decimal line ∷ codes ")" ∷ codes ";" ∷ [])
flat_of_halt kind file line = ap flat_stmt (sym (stmt.rolls-Halt kind file line)) ∙ flat_stmt_layer (stmt_layer.Halt kind file line)

-- How deep statements nest --------------------------------------------------------------------------------------------

-- of an assignment
pub depth_of_assign : (place : CPlace) (e : CExpr) → stmt_depth (stmt.Assign place e) ≡ 1 + max 1 (expr_depth e)
depth_of_assign place e = ap stmt_depth (sym (stmt.rolls-Assign place e)) ∙ stmt_depth_layer (stmt_layer.Assign place e)

-- of a call
pub depth_of_call : (target : Option CPlace) (name : List ℕ) (args : List CArg) → stmt_depth (stmt.Call target name args) ≡ 1 + max (target_depth target) (deepest (map (λ argument. expr_depth (argument_of argument)) args))
depth_of_call target name args = ap stmt_depth (sym (stmt.rolls-Call target name args)) ∙ stmt_depth_layer (stmt_layer.Call target name args)

-- of an `if` without `else`
pub depth_of_if : (test : CExpr) (chosen : List CStmt) → stmt_depth (stmt.If test chosen None) ≡ 1 + max (expr_depth test) (max (deepest (map stmt_depth chosen)) 0)
depth_of_if test chosen = ap stmt_depth (sym (stmt.rolls-If test chosen None)) ∙ stmt_depth_layer (stmt_layer.If test chosen None)

-- of an `if` with `else`
pub depth_of_if_else : (test : CExpr) (chosen other : List CStmt) → stmt_depth (stmt.If test chosen (Some other)) ≡ 1 + max (expr_depth test) (max (deepest (map stmt_depth chosen)) (deepest (map stmt_depth other)))
depth_of_if_else test chosen other = ap stmt_depth (sym (stmt.rolls-If test chosen (Some other))) ∙ stmt_depth_layer (stmt_layer.If test chosen (Some other))

-- of a loop
pub depth_of_loop : (body : List CStmt) → stmt_depth (stmt.Loop body) ≡ 1 + deepest (map stmt_depth body)
depth_of_loop body = ap stmt_depth (sym (stmt.rolls-Loop body)) ∙ stmt_depth_layer (stmt_layer.Loop body)

-- of a counted loop
pub depth_of_count : (set tested : List ℕ) (count : ℕ) (raised : List ℕ) (body : List CStmt) → stmt_depth (stmt.Count set tested count raised body) ≡ 1 + deepest (map stmt_depth body)
depth_of_count set tested count raised body = ap stmt_depth (sym (stmt.rolls-Count set tested count raised body)) ∙ stmt_depth_layer (stmt_layer.Count set tested count raised body)

-- of a `break`
pub depth_of_break : stmt_depth stmt.Break ≡ 1
depth_of_break = ap stmt_depth (sym stmt.rolls-Break) ∙ stmt_depth_layer stmt_layer.Break

-- of a return
pub depth_of_return : (value : Option CExpr) → stmt_depth (stmt.Return value) ≡ 1 + returned_depth value
depth_of_return value = ap stmt_depth (sym (stmt.rolls-Return value)) ∙ stmt_depth_layer (stmt_layer.Return value)

-- of a put
pub depth_of_put : (e : CExpr) → stmt_depth (stmt.Put e) ≡ 1 + expr_depth e
depth_of_put e = ap stmt_depth (sym (stmt.rolls-Put e)) ∙ stmt_depth_layer (stmt_layer.Put e)

-- of a byte of the input
pub depth_of_get : (place : CPlace) → stmt_depth (stmt.Get place) ≡ 2
depth_of_get place = ap stmt_depth (sym (stmt.rolls-Get place)) ∙ stmt_depth_layer (stmt_layer.Get place)

-- of a halt
pub depth_of_halt : (kind file line : ℕ) → stmt_depth (stmt.Halt kind file line) ≡ 1
depth_of_halt kind file line = ap stmt_depth (sym (stmt.rolls-Halt kind file line)) ∙ stmt_depth_layer (stmt_layer.Halt kind file line)

-- Whether nothing comes behind a statement ----------------------------------------------------------------------------

-- of an assignment
pub ends_of_assign : (place : CPlace) (e : CExpr) → ends_function (stmt.Assign place e) ≡ false
ends_of_assign place e = ap ends_function (sym (stmt.rolls-Assign place e)) ∙ ends_layer (stmt_layer.Assign place e)

-- of a call
pub ends_of_call : (target : Option CPlace) (name : List ℕ) (args : List CArg) → ends_function (stmt.Call target name args) ≡ false
ends_of_call target name args = ap ends_function (sym (stmt.rolls-Call target name args)) ∙ ends_layer (stmt_layer.Call target name args)

-- of an `if` without `else`
pub ends_of_if : (test : CExpr) (chosen : List CStmt) → ends_function (stmt.If test chosen None) ≡ last_is (map ends_function chosen) && false
ends_of_if test chosen = ap ends_function (sym (stmt.rolls-If test chosen None)) ∙ ends_layer (stmt_layer.If test chosen None)

-- of an `if` with `else`
pub ends_of_if_else : (test : CExpr) (chosen other : List CStmt) → ends_function (stmt.If test chosen (Some other)) ≡ last_is (map ends_function chosen) && last_is (map ends_function other)
ends_of_if_else test chosen other = ap ends_function (sym (stmt.rolls-If test chosen (Some other))) ∙ ends_layer (stmt_layer.If test chosen (Some other))

-- of a loop
pub ends_of_loop : (body : List CStmt) → ends_function (stmt.Loop body) ≡ false
ends_of_loop body = ap ends_function (sym (stmt.rolls-Loop body)) ∙ ends_layer (stmt_layer.Loop body)

-- of a counted loop
pub ends_of_count : (set tested : List ℕ) (count : ℕ) (raised : List ℕ) (body : List CStmt) → ends_function (stmt.Count set tested count raised body) ≡ false
ends_of_count set tested count raised body = ap ends_function (sym (stmt.rolls-Count set tested count raised body)) ∙ ends_layer (stmt_layer.Count set tested count raised body)

-- of a `break`
pub ends_of_break : ends_function stmt.Break ≡ false
ends_of_break = ap ends_function (sym stmt.rolls-Break) ∙ ends_layer stmt_layer.Break

-- of a return
pub ends_of_return : (value : Option CExpr) → ends_function (stmt.Return value) ≡ true
ends_of_return value = ap ends_function (sym (stmt.rolls-Return value)) ∙ ends_layer (stmt_layer.Return value)

-- of a put
pub ends_of_put : (e : CExpr) → ends_function (stmt.Put e) ≡ false
ends_of_put e = ap ends_function (sym (stmt.rolls-Put e)) ∙ ends_layer (stmt_layer.Put e)

-- of a byte of the input
pub ends_of_get : (place : CPlace) → ends_function (stmt.Get place) ≡ false
ends_of_get place = ap ends_function (sym (stmt.rolls-Get place)) ∙ ends_layer (stmt_layer.Get place)

-- of a halt
pub ends_of_halt : (kind file line : ℕ) → ends_function (stmt.Halt kind file line) ≡ true
ends_of_halt kind file line = ap ends_function (sym (stmt.rolls-Halt kind file line)) ∙ ends_layer (stmt_layer.Halt kind file line)

-- Whether a `break` stands in a statement outside its loops ------------------------------------------------------------

-- of an assignment
pub strays_of_assign : (place : CPlace) (e : CExpr) → strays (stmt.Assign place e) ≡ false
strays_of_assign place e = ap strays (sym (stmt.rolls-Assign place e)) ∙ strays_layer (stmt_layer.Assign place e)

-- of a call
pub strays_of_call : (target : Option CPlace) (name : List ℕ) (args : List CArg) → strays (stmt.Call target name args) ≡ false
strays_of_call target name args = ap strays (sym (stmt.rolls-Call target name args)) ∙ strays_layer (stmt_layer.Call target name args)

-- of an `if` without `else`
pub strays_of_if : (test : CExpr) (chosen : List CStmt) → strays (stmt.If test chosen None) ≡ some_are (map strays chosen) || false
strays_of_if test chosen = ap strays (sym (stmt.rolls-If test chosen None)) ∙ strays_layer (stmt_layer.If test chosen None)

-- of an `if` with `else`
pub strays_of_if_else : (test : CExpr) (chosen other : List CStmt) → strays (stmt.If test chosen (Some other)) ≡ some_are (map strays chosen) || some_are (map strays other)
strays_of_if_else test chosen other = ap strays (sym (stmt.rolls-If test chosen (Some other))) ∙ strays_layer (stmt_layer.If test chosen (Some other))

-- of a loop
pub strays_of_loop : (body : List CStmt) → strays (stmt.Loop body) ≡ false
strays_of_loop body = ap strays (sym (stmt.rolls-Loop body)) ∙ strays_layer (stmt_layer.Loop body)

-- of a counted loop
pub strays_of_count : (set tested : List ℕ) (count : ℕ) (raised : List ℕ) (body : List CStmt) → strays (stmt.Count set tested count raised body) ≡ false
strays_of_count set tested count raised body = ap strays (sym (stmt.rolls-Count set tested count raised body)) ∙ strays_layer (stmt_layer.Count set tested count raised body)

-- of a `break`
pub strays_of_break : strays stmt.Break ≡ true
strays_of_break = ap strays (sym stmt.rolls-Break) ∙ strays_layer stmt_layer.Break

-- of a return
pub strays_of_return : (value : Option CExpr) → strays (stmt.Return value) ≡ false
strays_of_return value = ap strays (sym (stmt.rolls-Return value)) ∙ strays_layer (stmt_layer.Return value)

-- of a put
pub strays_of_put : (e : CExpr) → strays (stmt.Put e) ≡ false
strays_of_put e = ap strays (sym (stmt.rolls-Put e)) ∙ strays_layer (stmt_layer.Put e)

-- of a byte of the input
pub strays_of_get : (place : CPlace) → strays (stmt.Get place) ≡ false
strays_of_get place = ap strays (sym (stmt.rolls-Get place)) ∙ strays_layer (stmt_layer.Get place)

-- of a halt
pub strays_of_halt : (kind file line : ℕ) → strays (stmt.Halt kind file line) ≡ false
strays_of_halt kind file line = ap strays (sym (stmt.rolls-Halt kind file line)) ∙ strays_layer (stmt_layer.Halt kind file line)

-- Whether a statement stores in the variable of a `for` around it -----------------------------------------------------

-- of an assignment
pub recounts_of_assign : (place : CPlace) (e : CExpr) (counters : List (List ℕ)) → recounts (stmt.Assign place e) counters ≡ is_among counters place
recounts_of_assign place e counters = ap (λ s. recounts s counters) (sym (stmt.rolls-Assign place e)) ∙ ap (λ does. does counters) (recounts_layer (stmt_layer.Assign place e))

-- of a call
pub recounts_of_call : (target : Option CPlace) (name : List ℕ) (args : List CArg) (counters : List (List ℕ)) → recounts (stmt.Call target name args) counters ≡ target_among counters target
recounts_of_call target name args counters = ap (λ s. recounts s counters) (sym (stmt.rolls-Call target name args)) ∙ ap (λ does. does counters) (recounts_layer (stmt_layer.Call target name args))

-- of an `if` without `else`
pub recounts_of_if : (test : CExpr) (chosen : List CStmt) (counters : List (List ℕ)) → recounts (stmt.If test chosen None) counters ≡ any_with counters (map recounts chosen) || false
recounts_of_if test chosen counters = ap (λ s. recounts s counters) (sym (stmt.rolls-If test chosen None)) ∙ ap (λ does. does counters) (recounts_layer (stmt_layer.If test chosen None))

-- of an `if` with `else`
pub recounts_of_if_else : (test : CExpr) (chosen other : List CStmt) (counters : List (List ℕ)) → recounts (stmt.If test chosen (Some other)) counters ≡ any_with counters (map recounts chosen) || any_with counters (map recounts other)
recounts_of_if_else test chosen other counters = ap (λ s. recounts s counters) (sym (stmt.rolls-If test chosen (Some other))) ∙ ap (λ does. does counters) (recounts_layer (stmt_layer.If test chosen (Some other)))

-- of a loop
pub recounts_of_loop : (body : List CStmt) (counters : List (List ℕ)) → recounts (stmt.Loop body) counters ≡ any_with counters (map recounts body)
recounts_of_loop body counters = ap (λ s. recounts s counters) (sym (stmt.rolls-Loop body)) ∙ ap (λ does. does counters) (recounts_layer (stmt_layer.Loop body))

-- of a counted loop
pub recounts_of_count : (set tested : List ℕ) (count : ℕ) (raised : List ℕ) (body : List CStmt) (counters : List (List ℕ)) → recounts (stmt.Count set tested count raised body) counters ≡ is_among counters (Name set) || any_with (set ∷ counters) (map recounts body)
recounts_of_count set tested count raised body counters = ap (λ s. recounts s counters) (sym (stmt.rolls-Count set tested count raised body)) ∙ ap (λ does. does counters) (recounts_layer (stmt_layer.Count set tested count raised body))

-- of a `break`
pub recounts_of_break : (counters : List (List ℕ)) → recounts stmt.Break counters ≡ false
recounts_of_break counters = ap (λ s. recounts s counters) (sym stmt.rolls-Break) ∙ ap (λ does. does counters) (recounts_layer stmt_layer.Break)

-- of a return
pub recounts_of_return : (value : Option CExpr) (counters : List (List ℕ)) → recounts (stmt.Return value) counters ≡ false
recounts_of_return value counters = ap (λ s. recounts s counters) (sym (stmt.rolls-Return value)) ∙ ap (λ does. does counters) (recounts_layer (stmt_layer.Return value))

-- of a put
pub recounts_of_put : (e : CExpr) (counters : List (List ℕ)) → recounts (stmt.Put e) counters ≡ false
recounts_of_put e counters = ap (λ s. recounts s counters) (sym (stmt.rolls-Put e)) ∙ ap (λ does. does counters) (recounts_layer (stmt_layer.Put e))

-- of a byte of the input
pub recounts_of_get : (place : CPlace) (counters : List (List ℕ)) → recounts (stmt.Get place) counters ≡ is_among counters place
recounts_of_get place counters = ap (λ s. recounts s counters) (sym (stmt.rolls-Get place)) ∙ ap (λ does. does counters) (recounts_layer (stmt_layer.Get place))

-- of a halt
pub recounts_of_halt : (kind file line : ℕ) (counters : List (List ℕ)) → recounts (stmt.Halt kind file line) counters ≡ false
recounts_of_halt kind file line counters = ap (λ s. recounts s counters) (sym (stmt.rolls-Halt kind file line)) ∙ ap (λ does. does counters) (recounts_layer (stmt_layer.Halt kind file line))

-- Together ------------------------------------------------------------------------------------------------------------

-- the leaves
pub ruleset leaves_are = (leaves_of_const, leaves_of_read, leaves_of_binary, leaves_of_compare, leaves_of_negate)

-- the tokens of expressions
pub ruleset flat_expressions_are = (flat_of_const, flat_of_read, flat_of_binary, flat_of_compare, flat_of_negate)

-- the depths of expressions
pub ruleset expression_depths_are = (depth_of_const, depth_of_read, depth_of_binary, depth_of_compare, depth_of_negate)

-- the types of expressions
pub ruleset types_are = (typed_of_const, typed_of_read, typed_of_binary, typed_of_compare, typed_of_negate)

-- the actions
pub ruleset actions_are = (actions_of_assign, actions_of_call, actions_of_if, actions_of_if_else, actions_of_loop, actions_of_count, actions_of_break, actions_of_return, actions_of_put, actions_of_get, actions_of_halt)

-- the tokens of statements
pub ruleset flat_statements_are = (flat_of_assign, flat_of_call, flat_of_if, flat_of_if_else, flat_of_loop, flat_of_count, flat_of_break, flat_of_return, flat_of_put, flat_of_get, flat_of_halt)

-- the depths of statements
pub ruleset statement_depths_are = (depth_of_assign, depth_of_call, depth_of_if, depth_of_if_else, depth_of_loop, depth_of_count, depth_of_break, depth_of_return, depth_of_put, depth_of_get, depth_of_halt)

-- which statements end a function
pub ruleset ends_are = (ends_of_assign, ends_of_call, ends_of_if, ends_of_if_else, ends_of_loop, ends_of_count, ends_of_break, ends_of_return, ends_of_put, ends_of_get, ends_of_halt)

-- in which a `break` stands outside loops
pub ruleset strays_are = (strays_of_assign, strays_of_call, strays_of_if, strays_of_if_else, strays_of_loop, strays_of_count, strays_of_break, strays_of_return, strays_of_put, strays_of_get, strays_of_halt)

-- which store in the variable of a `for` around them
pub ruleset recounts_are = (recounts_of_assign, recounts_of_call, recounts_of_if, recounts_of_if_else, recounts_of_loop, recounts_of_count, recounts_of_break, recounts_of_return, recounts_of_put, recounts_of_get, recounts_of_halt)
