-- The C of expressions and statements, layer by layer.
use Rattle.std.proofs.Common.{◌≡◌, ℕ, List, Option}
use Rattle.sl_core.specs.declared.tree.Core.{Core}
use Rattle.sl_core.specs.declared.tree.CoreExpr.{CoreExpr, CoreExpr-F, fold-roll-CoreExpr, map-CoreExpr, roll-CoreExpr}
use Rattle.sl_core.specs.declared.tree.CoreStmt.{CoreStmt, CoreStmt-F, fold-roll-CoreStmt, map-CoreStmt, roll-CoreStmt}
use Rattle.c_tree.specs.declared.tree.CStmt.{CStmt}
use Rattle.sl_frames.specs.Translated.{Code, code_step, code_of, text_step, text_of, stmts_step, stmts_of, needs_step, needs}

-- the C of an expression
pub code_layer : (x : CoreExpr-F CoreExpr) → code_of (roll-CoreExpr x) ≡ code_step (map-CoreExpr CoreExpr (ℕ → Code) code_of x)
unfolding code_of
code_layer x = fold-roll-CoreExpr (ℕ → Code) code_step x

-- the bytes of an expression that is a text
pub text_layer : (x : CoreExpr-F CoreExpr) → text_of (roll-CoreExpr x) ≡ text_step (map-CoreExpr CoreExpr (Option (List ℕ)) text_of x)
unfolding text_of
text_layer x = fold-roll-CoreExpr (Option (List ℕ)) text_step x

-- the C of a statement
pub stmts_layer : (core : Core) (x : CoreStmt-F CoreStmt) → stmts_of core (roll-CoreStmt x) ≡ stmts_step core (map-CoreStmt CoreStmt (List CStmt) (stmts_of core) x)
unfolding stmts_of
stmts_layer core x = fold-roll-CoreStmt (List CStmt) (stmts_step core) x

-- how many temporaries a statement needs
pub needs_layer : (x : CoreStmt-F CoreStmt) → needs (roll-CoreStmt x) ≡ needs_step (map-CoreStmt CoreStmt ℕ needs x)
unfolding needs
needs_layer x = fold-roll-CoreStmt ℕ needs_step x
