-- What expressions and statements mean, and what is known of them, layer by layer.
use Rattle.std.proofs.Common.{◌≡◌, ℕ, Bool, Option}
use Rattle.sl_run.specs.Run.{Act}
use Rattle.sl_core.specs.declared.tree.Core.{Core}
use Rattle.sl_core.specs.declared.tree.CoreFun.{CoreFun}
use Rattle.sl_core.specs.declared.tree.CoreExpr.{CoreExpr, CoreExpr-F, fold-roll-CoreExpr, map-CoreExpr, roll-CoreExpr}
use Rattle.sl_core.specs.declared.tree.CoreStmt.{CoreStmt, CoreStmt-F, fold-roll-CoreStmt, map-CoreStmt, roll-CoreStmt}
use Rattle.sl_core.specs.Memory.{Value, Memory}
use Rattle.sl_core.specs.Meaning.{expr_step, evaluate, Meaning, stmt_step, meaning}
use Rattle.sl_core.specs.Sound.{Kind, kind_step, kind_of, fits_step, fits, expr_range_step, expr_in_range, stmt_range_step, stmt_in_range, strays_step, strays, expr_depth_step, expr_depth, stmt_depth_step, stmt_depth}

-- the value of an expression
pub evaluate_layer : (core : Core) (x : CoreExpr-F CoreExpr) → evaluate core (roll-CoreExpr x) ≡ expr_step core (map-CoreExpr CoreExpr (Act Memory Value) (evaluate core) x)
unfolding evaluate
evaluate_layer core x = fold-roll-CoreExpr (Act Memory Value) (expr_step core) x

-- what a statement does
pub meaning_layer : (core : Core) (x : CoreStmt-F CoreStmt) → meaning core (roll-CoreStmt x) ≡ stmt_step core (map-CoreStmt CoreStmt Meaning (meaning core) x)
unfolding meaning
meaning_layer core x = fold-roll-CoreStmt Meaning (stmt_step core) x

-- what kind of value an expression gives
pub kind_layer : (core : Core) (function : CoreFun) (x : CoreExpr-F CoreExpr)
    → kind_of core function (roll-CoreExpr x) ≡ kind_step core function (map-CoreExpr CoreExpr (Option Kind) (kind_of core function) x)
unfolding kind_of
kind_layer core function x = fold-roll-CoreExpr (Option Kind) (kind_step core function) x

-- whether the numbers of an expression are in range
pub expr_range_layer : (x : CoreExpr-F CoreExpr) → expr_in_range (roll-CoreExpr x) ≡ expr_range_step (map-CoreExpr CoreExpr Bool expr_in_range x)
unfolding expr_in_range
expr_range_layer x = fold-roll-CoreExpr Bool expr_range_step x

-- how deep an expression nests
pub expr_depth_layer : (x : CoreExpr-F CoreExpr) → expr_depth (roll-CoreExpr x) ≡ expr_depth_step (map-CoreExpr CoreExpr ℕ expr_depth x)
unfolding expr_depth
expr_depth_layer x = fold-roll-CoreExpr ℕ expr_depth_step x

-- whether the types in a statement fit
pub fits_layer : (core : Core) (function : CoreFun) (x : CoreStmt-F CoreStmt)
    → fits core function (roll-CoreStmt x) ≡ fits_step core function (map-CoreStmt CoreStmt Bool (fits core function) x)
unfolding fits
fits_layer core function x = fold-roll-CoreStmt Bool (fits_step core function) x

-- whether the numbers of a statement are in range
pub stmt_range_layer : (x : CoreStmt-F CoreStmt) → stmt_in_range (roll-CoreStmt x) ≡ stmt_range_step (map-CoreStmt CoreStmt Bool stmt_in_range x)
unfolding stmt_in_range
stmt_range_layer x = fold-roll-CoreStmt Bool stmt_range_step x

-- whether a `Break` stands in it outside the loops of a statement
pub strays_layer : (x : CoreStmt-F CoreStmt) → strays (roll-CoreStmt x) ≡ strays_step (map-CoreStmt CoreStmt Bool strays x)
unfolding strays
strays_layer x = fold-roll-CoreStmt Bool strays_step x

-- how deep a statement nests
pub stmt_depth_layer : (x : CoreStmt-F CoreStmt) → stmt_depth (roll-CoreStmt x) ≡ stmt_depth_step (map-CoreStmt CoreStmt ℕ stmt_depth x)
unfolding stmt_depth
stmt_depth_layer x = fold-roll-CoreStmt ℕ stmt_depth_step x
