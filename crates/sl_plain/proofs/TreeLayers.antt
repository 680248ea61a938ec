-- What expressions and statements are, layer by layer.
use Rattle.std.proofs.Common.{◌≡◌, ℕ, List, Option}
use Rattle.sl_tree.specs.declared.tree.Expr.{Expr, out-Expr}
use Rattle.sl_tree.specs.declared.tree.ExprKind.{ExprKind, roll-ExprKind}
use Rattle.sl_tree.specs.declared.tree.Field.{Field}
use Rattle.sl_tree.specs.declared.tree.Case.{Case}
use Rattle.sl_tree.specs.declared.tree.Stmt as source
use Rattle.sl_tree.specs.declared.tree.StmtKind.{StmtKind, roll-StmtKind}
use Rattle.sl_tree.specs.declared.tree.Else.{Else, roll-Else}
use Rattle.sl_tree.specs.declared.tree.Else.TheOpen as tree
use Rattle.sl_tree.specs.declared.tree.Else.TheFolds.{map-Else, map-ExprKind, map-StmtKind, fold-roll-Else, fold-roll-ExprKind, fold-roll-StmtKind, fold_out-Expr, fold_out-Stmt}
use Rattle.sl_plain.specs.declared.program.Stmt.{Stmt}
use Rattle.sl_plain.specs.declared.reading.expressions.Form.{Form}
use Rattle.sl_plain.specs.declared.reading.statements.Read.{Read}
use Rattle.sl_plain.specs.Reading.{line_at, expr_kind_step, expr_step, stmt_kind_step, stmt_step, else_step, form_of, form_of_kind, read_of, read_of_kind, else_of}

-- a layer of parts, each given by what it is
abbrev pub Layer : Type 0
Layer = tree.ExprKind-F Else ExprKind StmtKind Case Expr Field source.Stmt

pub expr_layer : (feeds : List ℕ) (x : Expr) → form_of feeds x ≡ form_of_kind feeds (out-Expr x).kind (line_at feeds (out-Expr x).span.from)
unfolding form_of form_of_kind
expr_layer feeds x = fold_out-Expr (Option (List Stmt)) (ℕ → Form) (ℕ → Read) (Unit {0}) Form (Unit {0}) Read else_step expr_kind_step stmt_kind_step (λ case. tt) (expr_step feeds) (λ field. tt) (stmt_step feeds) x

pub expr_kind_layer : (feeds : List ℕ) (x : Layer) → form_of_kind feeds (roll-ExprKind x)
    ≡ expr_kind_step (map-ExprKind Else ExprKind StmtKind Case Expr Field source.Stmt (Option (List Stmt)) (ℕ → Form) (ℕ → Read) (Unit {0}) Form (Unit {0}) Read (else_of feeds) (form_of_kind feeds) (read_of_kind feeds) (λ case. tt) (form_of feeds) (λ field. tt) (read_of feeds) x)
unfolding else_of form_of form_of_kind read_of read_of_kind
expr_kind_layer feeds x = fold-roll-ExprKind (Option (List Stmt)) (ℕ → Form) (ℕ → Read) (Unit {0}) Form (Unit {0}) Read else_step expr_kind_step stmt_kind_step (λ case. tt) (expr_step feeds) (λ field. tt) (stmt_step feeds) x

pub stmt_layer : (feeds : List ℕ) (x : source.Stmt) → read_of feeds x ≡ read_of_kind feeds (source.out-Stmt x).kind (line_at feeds (source.out-Stmt x).span.from)
unfolding read_of read_of_kind
stmt_layer feeds x = fold_out-Stmt (Option (List Stmt)) (ℕ → Form) (ℕ → Read) (Unit {0}) Form (Unit {0}) Read else_step expr_kind_step stmt_kind_step (λ case. tt) (expr_step feeds) (λ field. tt) (stmt_step feeds) x

pub stmt_kind_layer : (feeds : List ℕ) (x : tree.StmtKind-F Else ExprKind StmtKind Case Expr Field source.Stmt) → read_of_kind feeds (roll-StmtKind x)
    ≡ stmt_kind_step (map-StmtKind Else ExprKind StmtKind Case Expr Field source.Stmt (Option (List Stmt)) (ℕ → Form) (ℕ → Read) (Unit {0}) Form (Unit {0}) Read (else_of feeds) (form_of_kind feeds) (read_of_kind feeds) (λ case. tt) (form_of feeds) (λ field. tt) (read_of feeds) x)
unfolding else_of form_of form_of_kind read_of read_of_kind
stmt_kind_layer feeds x = fold-roll-StmtKind (Option (List Stmt)) (ℕ → Form) (ℕ → Read) (Unit {0}) Form (Unit {0}) Read else_step expr_kind_step stmt_kind_step (λ case. tt) (expr_step feeds) (λ field. tt) (stmt_step feeds) x

pub else_layer : (feeds : List ℕ) (x : tree.Else-F Else ExprKind StmtKind Case Expr Field source.Stmt) → else_of feeds (roll-Else x)
    ≡ else_step (map-Else Else ExprKind StmtKind Case Expr Field source.Stmt (Option (List Stmt)) (ℕ → Form) (ℕ → Read) (Unit {0}) Form (Unit {0}) Read (else_of feeds) (form_of_kind feeds) (read_of_kind feeds) (λ case. tt) (form_of feeds) (λ field. tt) (read_of feeds) x)
unfolding else_of form_of form_of_kind read_of read_of_kind
else_layer feeds x = fold-roll-Else (Option (List Stmt)) (ℕ → Form) (ℕ → Read) (Unit {0}) Form (Unit {0}) Read else_step expr_kind_step stmt_kind_step (λ case. tt) (expr_step feeds) (λ field. tt) (stmt_step feeds) x
