-- A list of tokens has one tree at most, however deep: so its levels too are told by its tokens.
use Rattle.std.proofs.Common.{◌≡◌, ℕ, List, [], ◌∷◌, refl, ap, arith}
use Rattle.std.specs.Prelude.{None}
use Rattle.sl_tree.specs.declared.tree.TypeTerm.{TypeTerm}
use Rattle.sl_tree.specs.declared.tree.Pattern.{Pattern}
use Rattle.sl_tree.specs.declared.tree.Expr.{Expr}
use Rattle.sl_tree.specs.declared.tree.Case.{Case}
use Rattle.sl_tree.specs.declared.tree.Stmt.{Stmt}
use Rattle.sl_tree.specs.Sorts.{Spelled}
use Rattle.sl_tree.specs.WellShaped.{IsType, IsPattern, IsExpr, IsCase, IsStmts, IsStmt, IsBlock, block_all}
use Rattle.sl_parse_expr.specs.Names.{Type_term, Expression, A_case, Pattern_of, Statements, Block, Statement}
use Rattle.sl_parse_expr.specs.Values.{Tall}
use Rattle.sl_parse_expr.specs.Grammar.{spells_at}
use Rattle.sl_parse_expr.proofs.SeenAt.{TreesSeen}
use Rattle.sl_parse_expr.proofs.Laws.{one_tree}

-- the same tree with the same levels
abbrev Same : {X : Type 0} → X → ℕ → X → ℕ → Type 0
Same {X} x n y m = ◌≡◌ {A = Tall X} (x, n) (y, m)

-- statements in braces, with the braces
pub block_spelled : {n : ℕ} {xs : List Stmt} {ts : List Spelled} → IsBlock n xs ts → (p : Spelled) × (q : Spelled) × spells_at Block None (p, ((xs, n), q)) ts
block_spelled (block_all p q h1 h2 h3 h4) = (p, q, (p ∷ [], _, h4, (refl, h1), (_, q ∷ [], refl, (h2, refl), (refl, h3))))

module _ (t : TreesSeen) where
  -- trees with their levels
  types : {n m : ℕ} {x y : TypeTerm} {ts : List Spelled} → IsType n x ts → IsType m y ts → Same x n y m
  types {n} {m} {x} {y} {ts} a b = one_tree t Type_term None refl (x, n) (y, m) ts (a, refl) (b, refl)

  exprs : {l m n o : ℕ} {e f : Expr} {ts : List Spelled} → IsExpr l n e ts → IsExpr m o f ts → Same e n f o
  exprs {l} {m} {n} {o} {e} {f} {ts} a b = one_tree t Expression None refl (e, n) (f, o) ts (l, omega arith, a, refl) (m, omega arith, b, refl)

  patterns : {n m : ℕ} {x y : Pattern} {ts : List Spelled} → IsPattern n x ts → IsPattern m y ts → Same x n y m
  patterns {n} {m} {x} {y} {ts} a b = one_tree t Pattern_of None refl (x, n) (y, m) ts (a, refl) (b, refl)

  cases : {n m : ℕ} {x y : Case} {ts : List Spelled} → IsCase n x ts → IsCase m y ts → Same x n y m
  cases {n} {m} {x} {y} {ts} a b = one_tree t A_case None refl (x, n) (y, m) ts (a, refl) (b, refl)

  stmts : {n m : ℕ} {xs ys : List Stmt} {ts : List Spelled} → IsStmts n xs ts → IsStmts m ys ts → Same xs n ys m
  stmts {n} {m} {xs} {ys} {ts} a b = one_tree t Statements None refl (xs, n) (ys, m) ts (a, refl) (b, refl)

  stmt : {n m : ℕ} {x y : Stmt} {ts : List Spelled} → IsStmt n x ts → IsStmt m y ts → Same x n y m
  stmt {n} {m} {x} {y} {ts} a b = one_tree t Statement None refl (x, n) (y, m) ts (a, refl) (b, refl)

  blocks : {n m : ℕ} {xs ys : List Stmt} {ts : List Spelled} → IsBlock n xs ts → IsBlock m ys ts → Same xs n ys m
  blocks {n} {m} {xs} {ys} {ts} a b = by (block_spelled a) (block_spelled b)
    where
      by : (p : Spelled) × (q : Spelled) × spells_at Block None (p, ((xs, n), q)) ts → (p : Spelled) × (q : Spelled) × spells_at Block None (p, ((ys, m), q)) ts → Same xs n ys m
      by (p, q, u) (i, j, v) = ap (λ w. w.1.0) (one_tree t Block None refl (p, ((xs, n), q)) (i, ((ys, m), j)) ts u v)

  -- the trees
  pub one_type : {n m : ℕ} {x y : TypeTerm} {ts : List Spelled} → IsType n x ts → IsType m y ts → x ≡ y
  one_type a b = ap (λ w. w.0) (types a b)

  pub one_expr : {l m n o : ℕ} {e f : Expr} {ts : List Spelled} → IsExpr l n e ts → IsExpr m o f ts → e ≡ f
  one_expr a b = ap (λ w. w.0) (exprs a b)

  pub one_pattern : {n m : ℕ} {x y : Pattern} {ts : List Spelled} → IsPattern n x ts → IsPattern m y ts → x ≡ y
  one_pattern a b = ap (λ w. w.0) (patterns a b)

  pub one_case : {n m : ℕ} {x y : Case} {ts : List Spelled} → IsCase n x ts → IsCase m y ts → x ≡ y
  one_case a b = ap (λ w. w.0) (cases a b)

  pub one_stmts : {n m : ℕ} {xs ys : List Stmt} {ts : List Spelled} → IsStmts n xs ts → IsStmts m ys ts → xs ≡ ys
  one_stmts a b = ap (λ w. w.0) (stmts a b)

  pub one_stmt : {n m : ℕ} {x y : Stmt} {ts : List Spelled} → IsStmt n x ts → IsStmt m y ts → x ≡ y
  one_stmt a b = ap (λ w. w.0) (stmt a b)

  pub one_block : {n m : ℕ} {xs ys : List Stmt} {ts : List Spelled} → IsBlock n xs ts → IsBlock m ys ts → xs ≡ ys
  one_block a b = ap (λ w. w.0) (blocks a b)

  -- how deep they nest
  pub type_levels : {n m : ℕ} {x y : TypeTerm} {ts : List Spelled} → IsType n x ts → IsType m y ts → n ≡ m
  type_levels a b = ap (λ w. w.1) (types a b)

  pub expr_levels : {l m n o : ℕ} {e f : Expr} {ts : List Spelled} → IsExpr l n e ts → IsExpr m o f ts → n ≡ o
  expr_levels a b = ap (λ w. w.1) (exprs a b)

  pub block_levels : {n m : ℕ} {xs ys : List Stmt} {ts : List Spelled} → IsBlock n xs ts → IsBlock m ys ts → n ≡ m
  block_levels a b = ap (λ w. w.1) (blocks a b)
