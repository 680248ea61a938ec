-- A tree has one token at least, its span is that of its tokens, and it has one level at least.
use Rattle.std.proofs.Common.{◌≡◌, ℕ, suc, List, sym, ap, ◌∙◌, subst}
use Rattle.sl_text.specs.declared.place.Span.{Span}
use Rattle.sl_tree.specs.declared.tree.TypeTerm.{TypeTerm, out-TypeTerm, out-roll-TypeTerm}
use Rattle.sl_tree.specs.declared.tree.Pattern.{Pattern, out-Pattern, out-roll-Pattern}
use Rattle.sl_tree.specs.declared.tree.PatternKind.{PatternKind}
use Rattle.sl_tree.specs.declared.tree.Expr.{Expr, out-Expr, out-roll-Expr}
use Rattle.sl_tree.specs.declared.tree.ExprKind.{ExprKind}
use Rattle.sl_tree.specs.declared.tree.Stmt.{Stmt, out-Stmt, out-roll-Stmt}
use Rattle.sl_tree.specs.declared.tree.StmtKind.{StmtKind}
use Rattle.sl_tree.specs.Sorts.{Spelled}
use Rattle.sl_tree.specs.WellShaped.{cover, type_term, pattern, expr, stmt, IsPath, IsType, IsPattern, IsExpr, IsIf, IsMatch, IsStmt, IsIfStmt, path_end, path_more, type_plain, type_applied, pattern_any, pattern_bind, pattern_typed, pattern_literal, pattern_negative, pattern_constant, pattern_class, literal, name, this, paren, select, given, apply, update, negative, prefix, infix_of, if_of, match_of, if_all, match_all, let_of, assign, call_infix, call_if, match_stmt, if_stmt, while_stmt, for_stmt, return_bare, return_value, skip_text, skip_group, if_stmt_all}
use Rattle.sl_tree.proofs.Spans.{Solid, solid_one, solid_left}

-- the parts of a tree that was made
pub type_span_is : (path : List (List ℕ)) (args : List TypeTerm) (s : Span) → (out-TypeTerm (type_term path args s)).span ≡ s
unfolding type_term
type_span_is path args s = ap (λ r. r.span) (out-roll-TypeTerm (record { path = path; args = args; span = s }))

pub pattern_span_is : (kind : PatternKind) (s : Span) → (out-Pattern (pattern kind s)).span ≡ s
unfolding pattern
pattern_span_is kind s = ap (λ r. r.span) (out-roll-Pattern (record { kind = kind; span = s }))

pub expr_span_is : (kind : ExprKind) (s : Span) → (out-Expr (expr kind s)).span ≡ s
unfolding expr
expr_span_is kind s = ap (λ r. r.span) (out-roll-Expr (record { kind = kind; span = s }))

pub expr_kind_is : (kind : ExprKind) (s : Span) → (out-Expr (expr kind s)).kind ≡ kind
unfolding expr
expr_kind_is kind s = ap (λ r. r.kind) (out-roll-Expr (record { kind = kind; span = s }))

pub stmt_span_is : (kind : StmtKind) (s : Span) → (out-Stmt (stmt kind s)).span ≡ s
unfolding stmt
stmt_span_is kind s = ap (λ r. r.span) (out-roll-Stmt (record { kind = kind; span = s }))

-- the tokens of a tree are one at least

again : {ts us : List Spelled} → ts ≡ us → Solid us → Solid ts
again e a = subst Solid (sym e) a

pub path_solid : {path : List (List ℕ)} {ts : List Spelled} → IsPath path ts → Solid ts
path_solid (path_end k h1 h2 h3) = again h2 (solid_one k _)
path_solid (path_more k d h1 h2 h3 h4 h5) = again h4 (solid_one k _)

pub type_solid : {n : ℕ} {t : TypeTerm} {ts : List Spelled} → IsType n t ts → Solid ts
type_solid (type_plain h1 h2 h3) = path_solid h1
type_solid (type_applied k j h1 h2 h3 h4 h5 h6 h7) = again h5 (solid_left _ (path_solid h1))

pub pattern_solid : {n : ℕ} {x : Pattern} {ts : List Spelled} → IsPattern n x ts → Solid ts
pattern_solid (pattern_any k h1 h2 h3 h4 h5) = again h3 (solid_one k _)
pattern_solid (pattern_bind k h1 h2 h3 h4) = again h2 (solid_one k _)
pattern_solid (pattern_typed k c h1 h2 h3 h4 h5 h6) = again h4 (solid_one k _)
pattern_solid (pattern_literal k h1 h2 h3 h4) = again h2 (solid_one k _)
pattern_solid (pattern_negative k j h1 h2 h3 h4 h5) = again h3 (solid_one k _)
pattern_solid (pattern_constant k d h1 h2 h3 h4 h5 h6) = again h4 (solid_one k _)
pattern_solid (pattern_class k j h1 h2 h3 h4 h5 h6 h7) = again h5 (solid_left _ (path_solid h1))

mutual
  pub expr_solid : {level n : ℕ} {e : Expr} {ts : List Spelled} → IsExpr level n e ts → Solid ts
  expr_solid (literal k h1 h2 h3 h4 h5) = again h2 (solid_one k _)
  expr_solid (name k h1 h2 h3 h4 h5) = again h2 (solid_one k _)
  expr_solid (this k h1 h2 h3 h4 h5) = again h2 (solid_one k _)
  expr_solid (paren k j h1 h2 h3 h4 h5 h6 h7) = again h4 (solid_one k _)
  expr_solid (select d k h1 h2 h3 h4 h5 h6 h7 h8) = again h5 (solid_left _ (expr_solid h1))
  expr_solid (given k j h1 h2 h3 h4 h5 h6 h7 h8 h9) = again h6 (solid_left _ (expr_solid h1))
  expr_solid (apply k j h1 h2 h3 h4 h5 h6 h7 h8 h9) = again h6 (solid_left _ (expr_solid h1))
  expr_solid (update k j h1 h2 h3 h4 h5 h6 h7 h8 h9) = again h6 (solid_left _ (expr_solid h1))
  expr_solid (negative k j h1 h2 h3 h4 h5 h6) = again h3 (solid_one k _)
  expr_solid (prefix k h1 h2 h3 h4 h5 h6 h7 h8) = again h5 (solid_one k _)
  expr_solid (infix_of k h1 h2 h3 h4 h5 h6 h7 h8 h9 h10) = again h8 (solid_left _ (expr_solid h1))
  expr_solid (if_of h1 h2) = if_solid h1
  expr_solid (match_of h1 h2) = match_solid h1

  pub if_solid : {n : ℕ} {e : Expr} {ts : List Spelled} → IsIf n e ts → Solid ts
  if_solid (if_all i p q s h1 h2 h3 h4 h5 h6 h7 h8 h9 h10) = again h8 (solid_one i _)

  pub match_solid : {n : ℕ} {e : Expr} {ts : List Spelled} → IsMatch n e ts → Solid ts
  match_solid (match_all h1 h2 h3 h4 h5 h6) = again h4 (solid_left _ (expr_solid h1))

pub if_stmt_solid : {n : ℕ} {x : Stmt} {ts : List Spelled} → IsIfStmt n x ts → Solid ts
if_stmt_solid (if_stmt_all i p q h1 h2 h3 h4 h5 h6 h7 h8 h9) = again h7 (solid_one i _)

pub stmt_solid : {n : ℕ} {x : Stmt} {ts : List Spelled} → IsStmt n x ts → Solid ts
stmt_solid (let_of w k s h1 h2 h3 h4 h5 h6 h7 h8) = again h6 (solid_one w _)
stmt_solid (assign s h1 h2 h3 h4 h5 h6 h7) = again h5 (solid_left _ (expr_solid h1))
stmt_solid (call_infix h1 h2 h3 h4 h5) = expr_solid h1
stmt_solid (call_if h1 h2 h3) = if_solid h1
stmt_solid (match_stmt h1 h2 h3 h4 h5 h6 h7) = again h5 (solid_left _ (expr_solid h1))
stmt_solid (if_stmt h1) = if_stmt_solid h1
stmt_solid (while_stmt w p q h1 h2 h3 h4 h5 h6 h7 h8) = again h6 (solid_one w _)
stmt_solid (for_stmt w p k a u q h1 h2 h3 h4 h5 h6 h7 h8 h9 h10 h11 h12) = again h10 (solid_one w _)
stmt_solid (return_bare w h1 h2 h3 h4) = again h2 (solid_one w _)
stmt_solid (return_value w h1 h2 h3 h4 h5) = again h3 (solid_one w _)
stmt_solid (skip_text k h1 h2 h3 h4) = again h2 (solid_one k _)
stmt_solid (skip_group k h1 h2 h3 h4 h5) = again h3 (solid_one k _)

-- the span of a tree is that of its tokens

pub type_spanned : {n : ℕ} {t : TypeTerm} {ts : List Spelled} → IsType n t ts → (out-TypeTerm t).span ≡ cover ts
type_spanned (type_plain h1 h2 h3) = ap (λ z. (out-TypeTerm z).span) h2 ∙ type_span_is _ _ _
type_spanned (type_applied k j h1 h2 h3 h4 h5 h6 h7) = ap (λ z. (out-TypeTerm z).span) h6 ∙ type_span_is _ _ _

pub if_spanned : {n : ℕ} {e : Expr} {ts : List Spelled} → IsIf n e ts → (out-Expr e).span ≡ cover ts
if_spanned (if_all i p q s h1 h2 h3 h4 h5 h6 h7 h8 h9 h10) = ap (λ z. (out-Expr z).span) h9 ∙ expr_span_is _ _

pub match_spanned : {n : ℕ} {e : Expr} {ts : List Spelled} → IsMatch n e ts → (out-Expr e).span ≡ cover ts
match_spanned (match_all h1 h2 h3 h4 h5 h6) = ap (λ z. (out-Expr z).span) h5 ∙ expr_span_is _ _

pub expr_spanned : {level n : ℕ} {e : Expr} {ts : List Spelled} → IsExpr level n e ts → (out-Expr e).span ≡ cover ts
expr_spanned (literal k h1 h2 h3 h4 h5) = ap (λ z. (out-Expr z).span) h3 ∙ expr_span_is _ _
expr_spanned (name k h1 h2 h3 h4 h5) = ap (λ z. (out-Expr z).span) h3 ∙ expr_span_is _ _
expr_spanned (this k h1 h2 h3 h4 h5) = ap (λ z. (out-Expr z).span) h3 ∙ expr_span_is _ _
expr_spanned (paren k j h1 h2 h3 h4 h5 h6 h7) = ap (λ z. (out-Expr z).span) h5 ∙ expr_span_is _ _
expr_spanned (select d k h1 h2 h3 h4 h5 h6 h7 h8) = ap (λ z. (out-Expr z).span) h6 ∙ expr_span_is _ _
expr_spanned (given k j h1 h2 h3 h4 h5 h6 h7 h8 h9) = ap (λ z. (out-Expr z).span) h7 ∙ expr_span_is _ _
expr_spanned (apply k j h1 h2 h3 h4 h5 h6 h7 h8 h9) = ap (λ z. (out-Expr z).span) h7 ∙ expr_span_is _ _
expr_spanned (update k j h1 h2 h3 h4 h5 h6 h7 h8 h9) = ap (λ z. (out-Expr z).span) h7 ∙ expr_span_is _ _
expr_spanned (negative k j h1 h2 h3 h4 h5 h6) = ap (λ z. (out-Expr z).span) h4 ∙ expr_span_is _ _
expr_spanned (prefix k h1 h2 h3 h4 h5 h6 h7 h8) = ap (λ z. (out-Expr z).span) h6 ∙ expr_span_is _ _
expr_spanned (infix_of k h1 h2 h3 h4 h5 h6 h7 h8 h9 h10) = ap (λ z. (out-Expr z).span) h9 ∙ expr_span_is _ _
expr_spanned (if_of h1 h2) = if_spanned h1
expr_spanned (match_of h1 h2) = match_spanned h1

pub if_stmt_spanned : {n : ℕ} {x : Stmt} {ts : List Spelled} → IsIfStmt n x ts → (out-Stmt x).span ≡ cover ts
if_stmt_spanned (if_stmt_all i p q h1 h2 h3 h4 h5 h6 h7 h8 h9) = ap (λ z. (out-Stmt z).span) h8 ∙ stmt_span_is _ _

pub stmt_spanned : {n : ℕ} {x : Stmt} {ts : List Spelled} → IsStmt n x ts → (out-Stmt x).span ≡ cover ts
stmt_spanned (let_of w k s h1 h2 h3 h4 h5 h6 h7 h8) = ap (λ z. (out-Stmt z).span) h7 ∙ stmt_span_is _ _
stmt_spanned (assign s h1 h2 h3 h4 h5 h6 h7) = ap (λ z. (out-Stmt z).span) h6 ∙ stmt_span_is _ _
stmt_spanned (call_infix h1 h2 h3 h4 h5) = ap (λ z. (out-Stmt z).span) h4 ∙ stmt_span_is _ _
stmt_spanned (call_if h1 h2 h3) = ap (λ z. (out-Stmt z).span) h2 ∙ stmt_span_is _ _
stmt_spanned (match_stmt h1 h2 h3 h4 h5 h6 h7) = ap (λ z. (out-Stmt z).span) h6 ∙ stmt_span_is _ _
stmt_spanned (if_stmt h1) = if_stmt_spanned h1
stmt_spanned (while_stmt w p q h1 h2 h3 h4 h5 h6 h7 h8) = ap (λ z. (out-Stmt z).span) h7 ∙ stmt_span_is _ _
stmt_spanned (for_stmt w p k a u q h1 h2 h3 h4 h5 h6 h7 h8 h9 h10 h11 h12) = ap (λ z. (out-Stmt z).span) h11 ∙ stmt_span_is _ _
stmt_spanned (return_bare w h1 h2 h3 h4) = ap (λ z. (out-Stmt z).span) h3 ∙ stmt_span_is _ _
stmt_spanned (return_value w h1 h2 h3 h4 h5) = ap (λ z. (out-Stmt z).span) h4 ∙ stmt_span_is _ _
stmt_spanned (skip_text k h1 h2 h3 h4) = ap (λ z. (out-Stmt z).span) h3 ∙ stmt_span_is _ _
stmt_spanned (skip_group k h1 h2 h3 h4 h5) = ap (λ z. (out-Stmt z).span) h4 ∙ stmt_span_is _ _

-- a tree has one level at least

pub record Deep (n : ℕ) : Type 0 where
  pub below : ℕ
  pub is : n ≡ suc below

pub type_deep : {n : ℕ} {t : TypeTerm} {ts : List Spelled} → IsType n t ts → Deep n
type_deep (type_plain h1 h2 h3) = record { below = _; is = h3 }
type_deep (type_applied k j h1 h2 h3 h4 h5 h6 h7) = record { below = _; is = h7 }

pub pattern_deep : {n : ℕ} {x : Pattern} {ts : List Spelled} → IsPattern n x ts → Deep n
pattern_deep (pattern_any k h1 h2 h3 h4 h5) = record { below = _; is = h5 }
pattern_deep (pattern_bind k h1 h2 h3 h4) = record { below = _; is = h4 }
pattern_deep (pattern_typed k c h1 h2 h3 h4 h5 h6) = record { below = _; is = h6 }
pattern_deep (pattern_literal k h1 h2 h3 h4) = record { below = _; is = h4 }
pattern_deep (pattern_negative k j h1 h2 h3 h4 h5) = record { below = _; is = h5 }
pattern_deep (pattern_constant k d h1 h2 h3 h4 h5 h6) = record { below = _; is = h6 }
pattern_deep (pattern_class k j h1 h2 h3 h4 h5 h6 h7) = record { below = _; is = h7 }

pub if_deep : {n : ℕ} {e : Expr} {ts : List Spelled} → IsIf n e ts → Deep n
if_deep (if_all i p q s h1 h2 h3 h4 h5 h6 h7 h8 h9 h10) = record { below = _; is = h10 }

pub match_deep : {n : ℕ} {e : Expr} {ts : List Spelled} → IsMatch n e ts → Deep n
match_deep (match_all h1 h2 h3 h4 h5 h6) = record { below = _; is = h6 }

pub expr_deep : {level n : ℕ} {e : Expr} {ts : List Spelled} → IsExpr level n e ts → Deep n
expr_deep (literal k h1 h2 h3 h4 h5) = record { below = _; is = h5 }
expr_deep (name k h1 h2 h3 h4 h5) = record { below = _; is = h5 }
expr_deep (this k h1 h2 h3 h4 h5) = record { below = _; is = h5 }
expr_deep (paren k j h1 h2 h3 h4 h5 h6 h7) = record { below = _; is = h7 }
expr_deep (select d k h1 h2 h3 h4 h5 h6 h7 h8) = record { below = _; is = h8 }
expr_deep (given k j h1 h2 h3 h4 h5 h6 h7 h8 h9) = record { below = _; is = h9 }
expr_deep (apply k j h1 h2 h3 h4 h5 h6 h7 h8 h9) = record { below = _; is = h9 }
expr_deep (update k j h1 h2 h3 h4 h5 h6 h7 h8 h9) = record { below = _; is = h9 }
expr_deep (negative k j h1 h2 h3 h4 h5 h6) = record { below = _; is = h6 }
expr_deep (prefix k h1 h2 h3 h4 h5 h6 h7 h8) = record { below = _; is = h8 }
expr_deep (infix_of k h1 h2 h3 h4 h5 h6 h7 h8 h9 h10) = record { below = _; is = h10 }
expr_deep (if_of h1 h2) = if_deep h1
expr_deep (match_of h1 h2) = match_deep h1

pub if_stmt_deep : {n : ℕ} {x : Stmt} {ts : List Spelled} → IsIfStmt n x ts → Deep n
if_stmt_deep (if_stmt_all i p q h1 h2 h3 h4 h5 h6 h7 h8 h9) = record { below = _; is = h9 }

pub stmt_deep : {n : ℕ} {x : Stmt} {ts : List Spelled} → IsStmt n x ts → Deep n
stmt_deep (let_of w k s h1 h2 h3 h4 h5 h6 h7 h8) = record { below = _; is = h8 }
stmt_deep (assign s h1 h2 h3 h4 h5 h6 h7) = record { below = _; is = h7 }
stmt_deep (call_infix h1 h2 h3 h4 h5) = record { below = _; is = h5 }
stmt_deep (call_if h1 h2 h3) = record { below = _; is = h3 }
stmt_deep (match_stmt h1 h2 h3 h4 h5 h6 h7) = record { below = _; is = h7 }
stmt_deep (if_stmt h1) = if_stmt_deep h1
stmt_deep (while_stmt w p q h1 h2 h3 h4 h5 h6 h7 h8) = record { below = _; is = h8 }
stmt_deep (for_stmt w p k a u q h1 h2 h3 h4 h5 h6 h7 h8 h9 h10 h11 h12) = record { below = _; is = h12 }
stmt_deep (return_bare w h1 h2 h3 h4) = record { below = _; is = h4 }
stmt_deep (return_value w h1 h2 h3 h4 h5) = record { below = _; is = h5 }
stmt_deep (skip_text k h1 h2 h3 h4) = record { below = _; is = h4 }
stmt_deep (skip_group k h1 h2 h3 h4 h5) = record { below = _; is = h5 }
