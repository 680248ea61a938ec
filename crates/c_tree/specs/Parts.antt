-- What stands in expressions and in bodies, nested or not: what rules and counts speak of.
use Rattle.std.specs.Prelude.{ℕ, List, [], ◌∷◌, ◌++◌, Bool, Option, Some, None}
use Rattle.std.specs.List.{flat_map}
use Rattle.c_tree.specs.declared.tree.CArg.{CArg}
use Rattle.c_tree.specs.declared.tree.CArg.TheVariants.{Value}
use Rattle.c_tree.specs.declared.tree.CPlace.{CPlace}
use Rattle.c_tree.specs.declared.tree.CExpr.{CExpr, CExpr-F, fold-CExpr}
use Rattle.c_tree.specs.declared.tree.CExpr.TheOpen as expr
use Rattle.c_tree.specs.declared.tree.CStmt.{CStmt, CStmt-F, fold-CStmt}
use Rattle.c_tree.specs.declared.tree.CStmt.TheOpen as stmt

-- what stands in an expression and has no expression in it
pub data Leaf : Type 0 where
  -- a constant: whether it is signed, and its number
  Constant : (signed : Bool) (number : ℕ) → Leaf
  -- a place that is read
  Reads : (place : CPlace) → Leaf

abbrev pub leaves_step : CExpr-F (List Leaf) → List Leaf
leaves_step (expr.Const signed number) = Constant signed number ∷ []
leaves_step (expr.Read place) = Reads place ∷ []
leaves_step (expr.Binary operator left right) = left ++ right
leaves_step (expr.Compare comparison left right) = left ++ right
leaves_step (expr.Negate operand) = operand

-- the leaves of an expression, from left to right
unfoldable pub leaves : CExpr → List Leaf
leaves e = fold-CExpr (List Leaf) leaves_step e

-- a statement without the statements in it
pub data Action : Type 0 where
  -- the value of an expression is stored at a place
  Assigns : (place : CPlace) (value : CExpr) → Action
  -- a function is called, and its result stored at a place, if there is one
  Calls : (target : Option CPlace) (name : List ℕ) (arguments : List CExpr) → Action
  -- an expression is tested
  Tests : (test : CExpr) → Action
  -- the function ends, with a value or without one
  Returns : (value : Option CExpr) → Action
  -- a byte is put
  Puts : (value : CExpr) → Action
  -- the next byte of the input is asked for, and what there is is stored at a place
  Gets : (place : CPlace) → Action
  -- a loop `while (1)` goes round
  Loops : Action
  -- a loop `for` goes round: the name that is set, that which is tested and that which is raised, and the count
  Counts : (set tested raised : List ℕ) (count : ℕ) → Action
  -- the run ends in a halt
  Halts : (kind file line : ℕ) → Action

-- the expression of an argument
abbrev pub argument_of : CArg → CExpr
argument_of (Value e) = e

abbrev pub arguments_of : List CArg → List CExpr
arguments_of [] = []
arguments_of (argument ∷ arguments) = argument_of argument ∷ arguments_of arguments

-- what blocks have, one after another
abbrev pub joined : {A : Type 0} → List (List A) → List A
joined lists = flat_map (λ list. list) lists

abbrev pub joined_else : {A : Type 0} → Option (List (List A)) → List A
joined_else None = []
joined_else (Some lists) = joined lists

abbrev pub actions_step : CStmt-F (List Action) → List Action
actions_step (stmt.Assign place e) = Assigns place e ∷ []
actions_step (stmt.Call target name arguments) = Calls target name (arguments_of arguments) ∷ []
actions_step (stmt.If test chosen other) = Tests test ∷ joined chosen ++ joined_else other
actions_step (stmt.Loop body) = Loops ∷ joined body
actions_step (stmt.Count set tested count raised body) = Counts set tested raised count ∷ joined body
actions_step stmt.Break = []
actions_step (stmt.Return value) = Returns value ∷ []
actions_step (stmt.Put e) = Puts e ∷ []
actions_step (stmt.Get place) = Gets place ∷ []
actions_step (stmt.Halt kind file line) = Halts kind file line ∷ []

-- the actions of a statement, and of those in it, in order
unfoldable pub actions : CStmt → List Action
actions s = fold-CStmt (List Action) actions_step s

-- the actions of a body
abbrev pub actions_in : List CStmt → List Action
actions_in body = flat_map actions body
