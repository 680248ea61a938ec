-- What expressions and statements are in each definition over them, layer by layer.
use Rattle.std.proofs.Common.{◌≡◌, ℕ, List, Bool}
use Rattle.sl_run.specs.Run.{Act}
use Rattle.c_tree.specs.declared.tree.CExpr.{CExpr, CExpr-F, fold-roll-CExpr, map-CExpr, roll-CExpr}
use Rattle.c_tree.specs.declared.tree.CStmt.{CStmt, CStmt-F, fold-roll-CStmt, map-CStmt, roll-CStmt}
use Rattle.c_tree.specs.Parts.{Leaf, leaves_step, leaves, Action, actions_step, actions}
use Rattle.c_tree.specs.Flat.{Lexeme, flat_expr_step, flat_expr, flat_stmt_step, flat_stmt}
use Rattle.c_tree.specs.WellFormed.{expr_depth_step, expr_depth, stmt_depth_step, stmt_depth}
use Rattle.c_tree.specs.Scope.{Scope}
use Rattle.c_tree.specs.Rules.{Typed, typed_step, typed, recounts_step, recounts, ends_step, ends_function, strays_step, strays}
use Rattle.c_tree.specs.Memory.{Memory}
use Rattle.c_tree.specs.Meaning.{Word, expr_step, evaluate, Meaning, stmt_step, meaning}

-- the value of an expression
pub evaluate_layer : (scope : Scope) (x : CExpr-F CExpr) → evaluate scope (roll-CExpr x) ≡ expr_step scope (map-CExpr CExpr (Act Memory Word) (evaluate scope) x)
unfolding evaluate
evaluate_layer scope x = fold-roll-CExpr (Act Memory Word) (expr_step scope) x

-- what a statement does
pub meaning_layer : (scope : Scope) (x : CStmt-F CStmt) → meaning scope (roll-CStmt x) ≡ stmt_step scope (map-CStmt CStmt Meaning (meaning scope) x)
unfolding meaning
meaning_layer scope x = fold-roll-CStmt Meaning (stmt_step scope) x

-- the tokens of an expression
pub flat_expr_layer : (x : CExpr-F CExpr) → flat_expr (roll-CExpr x) ≡ flat_expr_step (map-CExpr CExpr (List Lexeme) flat_expr x)
unfolding flat_expr
flat_expr_layer x = fold-roll-CExpr (List Lexeme) flat_expr_step x

-- the tokens of a statement
pub flat_stmt_layer : (x : CStmt-F CStmt) → flat_stmt (roll-CStmt x) ≡ flat_stmt_step (map-CStmt CStmt (List Lexeme) flat_stmt x)
unfolding flat_stmt
flat_stmt_layer x = fold-roll-CStmt (List Lexeme) flat_stmt_step x

-- the leaves of an expression
pub leaves_layer : (x : CExpr-F CExpr) → leaves (roll-CExpr x) ≡ leaves_step (map-CExpr CExpr (List Leaf) leaves x)
unfolding leaves
leaves_layer x = fold-roll-CExpr (List Leaf) leaves_step x

-- the actions of a statement
pub actions_layer : (x : CStmt-F CStmt) → actions (roll-CStmt x) ≡ actions_step (map-CStmt CStmt (List Action) actions x)
unfolding actions
actions_layer x = fold-roll-CStmt (List Action) actions_step x

-- how deep an expression nests
pub expr_depth_layer : (x : CExpr-F CExpr) → expr_depth (roll-CExpr x) ≡ expr_depth_step (map-CExpr CExpr ℕ expr_depth x)
unfolding expr_depth
expr_depth_layer x = fold-roll-CExpr ℕ expr_depth_step x

-- how deep a statement nests
pub stmt_depth_layer : (x : CStmt-F CStmt) → stmt_depth (roll-CStmt x) ≡ stmt_depth_step (map-CStmt CStmt ℕ stmt_depth x)
unfolding stmt_depth
stmt_depth_layer x = fold-roll-CStmt ℕ stmt_depth_step x

-- what is known of an expression
pub typed_layer : (scope : Scope) (x : CExpr-F CExpr) → typed scope (roll-CExpr x) ≡ typed_step scope (map-CExpr CExpr Typed (typed scope) x)
unfolding typed
typed_layer scope x = fold-roll-CExpr Typed (typed_step scope) x

-- whether a statement stores in the variable of a `for` around it
pub recounts_layer : (x : CStmt-F CStmt) → recounts (roll-CStmt x) ≡ recounts_step (map-CStmt CStmt (List (List ℕ) → Bool) recounts x)
unfolding recounts
recounts_layer x = fold-roll-CStmt (List (List ℕ) → Bool) recounts_step x

-- whether a `break` stands in a statement outside its loops
pub strays_layer : (x : CStmt-F CStmt) → strays (roll-CStmt x) ≡ strays_step (map-CStmt CStmt Bool strays x)
unfolding strays
strays_layer x = fold-roll-CStmt Bool strays_step x

-- whether nothing comes behind a statement
pub ends_layer : (x : CStmt-F CStmt) → ends_function (roll-CStmt x) ≡ ends_step (map-CStmt CStmt Bool ends_function x)
unfolding ends_function
ends_layer x = fold-roll-CStmt Bool ends_step x
