-- What an expression, a statement, a case and an `else` break first, by their forms.
use Rattle.std.proofs.Common.{◌≡◌, ℕ, suc, List, [], ◌∷◌, ◌++◌, Bool, true, false, ◌&&◌, Option, Some, None, refl, sym, ap, ◌∙◌, arith, length, get_or, map, if◌then◌else◌}
use Rattle.std.specs.Prelude.{◌==◌}
use Rattle.std.specs.List.{flat_map}
use Rattle.std.proofs.lemmas.Bool.{ne_eqb}
use Rattle.std.proofs.lemmas.List.{length-map}
use Rattle.std.proofs.lemmas.List.Folds.{flat_map-map}
use Rattle.sl_text.specs.declared.place.Span.{Span}
use Rattle.sl_text.specs.declared.fault.Broken.{Broken}
use Rattle.sl_tree.specs.declared.tree.Lexeme.{Lexeme}
use Rattle.sl_tree.specs.declared.tree.TypeTerm.{TypeTerm}
use Rattle.sl_tree.specs.declared.tree.Expr.{Expr, out-Expr}
use Rattle.sl_tree.specs.declared.tree.ExprKind.{ExprKind, out-ExprKind}
use Rattle.sl_tree.specs.declared.tree.ExprKind.TheVariants as expr_kind
use Rattle.sl_tree.specs.declared.tree.Field.{Field}
use Rattle.sl_tree.specs.declared.tree.Case.{Case, out-Case}
use Rattle.sl_tree.specs.declared.tree.Stmt.{Stmt, out-Stmt}
use Rattle.sl_tree.specs.declared.tree.StmtKind.{StmtKind, out-StmtKind}
use Rattle.sl_tree.specs.declared.tree.StmtKind.TheVariants as stmt_kind
use Rattle.sl_tree.specs.declared.tree.Else.{Else, out-Else}
use Rattle.sl_tree.specs.declared.tree.Else.TheVariants as else_kind
use Rattle.sl_tree.specs.declared.tree.Else.TheOpen as tree
use Rattle.sl_tree.specs.declared.tree.Else.TheFolds.{map-Else, map-ExprKind, map-StmtKind, map-Case, fold-ExprKind, fold-StmtKind, fold-Field, fold_out-Else, fold_out-ExprKind, fold_out-StmtKind, fold_out-Case, fold_out-Expr, fold_out-Field, fold_out-Stmt}
use Rattle.sl_parse.specs.TreeRules.{at, sooner, first_of, SeenExpr, SeenStmt, SeenCase, in_exprs, in_stmt, in_stmts, expr_kind_step, expr_step, field_step, case_step, stmt_kind_step, stmt_step, else_step, seen_expr, seen_case, seen_stmt, broken_else, broken_expr, broken_option, broken_field, broken_case, broken_stmt, broken_stmts, broken_value}
use Rattle.sl_parse.proofs.FirstFault.{first_append}

-- what an expression and a statement are, as functions of their spans; a field's value
unfoldable seen_expr_kind : ExprKind → Span → SeenExpr
seen_expr_kind x = fold-ExprKind (List Broken) (Span → SeenExpr) (Span → SeenStmt) SeenCase SeenExpr (List Broken) SeenStmt else_step expr_kind_step stmt_kind_step case_step expr_step field_step stmt_step x

unfoldable seen_stmt_kind : StmtKind → Span → SeenStmt
seen_stmt_kind x = fold-StmtKind (List Broken) (Span → SeenExpr) (Span → SeenStmt) SeenCase SeenExpr (List Broken) SeenStmt else_step expr_kind_step stmt_kind_step case_step expr_step field_step stmt_step x

unfoldable seen_field : Field → List Broken
seen_field x = fold-Field (List Broken) (Span → SeenExpr) (Span → SeenStmt) SeenCase SeenExpr (List Broken) SeenStmt else_step expr_kind_step stmt_kind_step case_step expr_step field_step stmt_step x

-- Layers ------------------------------------------------------------------------------------------------------------------------------

expr_layer : (e : Expr) → seen_expr e ≡ seen_expr_kind (out-Expr e).kind (out-Expr e).span
unfolding seen_expr seen_expr_kind
expr_layer e = fold_out-Expr (List Broken) (Span → SeenExpr) (Span → SeenStmt) SeenCase SeenExpr (List Broken) SeenStmt else_step expr_kind_step stmt_kind_step case_step expr_step field_step stmt_step e

expr_kind_layer : (k : ExprKind) → seen_expr_kind k
    ≡ expr_kind_step (map-ExprKind Else ExprKind StmtKind Case Expr Field Stmt (List Broken) (Span → SeenExpr) (Span → SeenStmt) SeenCase SeenExpr (List Broken) SeenStmt broken_else seen_expr_kind seen_stmt_kind seen_case seen_expr seen_field seen_stmt (out-ExprKind k))
unfolding seen_expr_kind seen_stmt_kind seen_field seen_expr seen_case seen_stmt broken_else
expr_kind_layer k = fold_out-ExprKind (List Broken) (Span → SeenExpr) (Span → SeenStmt) SeenCase SeenExpr (List Broken) SeenStmt else_step expr_kind_step stmt_kind_step case_step expr_step field_step stmt_step k

stmt_layer : (x : Stmt) → seen_stmt x ≡ seen_stmt_kind (out-Stmt x).kind (out-Stmt x).span
unfolding seen_stmt seen_stmt_kind
stmt_layer x = fold_out-Stmt (List Broken) (Span → SeenExpr) (Span → SeenStmt) SeenCase SeenExpr (List Broken) SeenStmt else_step expr_kind_step stmt_kind_step case_step expr_step field_step stmt_step x

stmt_kind_layer : (k : StmtKind) → seen_stmt_kind k
    ≡ stmt_kind_step (map-StmtKind Else ExprKind StmtKind Case Expr Field Stmt (List Broken) (Span → SeenExpr) (Span → SeenStmt) SeenCase SeenExpr (List Broken) SeenStmt broken_else seen_expr_kind seen_stmt_kind seen_case seen_expr seen_field seen_stmt (out-StmtKind k))
unfolding seen_expr_kind seen_stmt_kind seen_field seen_expr seen_case seen_stmt broken_else
stmt_kind_layer k = fold_out-StmtKind (List Broken) (Span → SeenExpr) (Span → SeenStmt) SeenCase SeenExpr (List Broken) SeenStmt else_step expr_kind_step stmt_kind_step case_step expr_step field_step stmt_step k

else_layer : (x : Else) → broken_else x
    ≡ else_step (map-Else Else ExprKind StmtKind Case Expr Field Stmt (List Broken) (Span → SeenExpr) (Span → SeenStmt) SeenCase SeenExpr (List Broken) SeenStmt broken_else seen_expr_kind seen_stmt_kind seen_case seen_expr seen_field seen_stmt (out-Else x))
unfolding seen_expr_kind seen_stmt_kind seen_field seen_expr seen_case seen_stmt broken_else
else_layer x = fold_out-Else (List Broken) (Span → SeenExpr) (Span → SeenStmt) SeenCase SeenExpr (List Broken) SeenStmt else_step expr_kind_step stmt_kind_step case_step expr_step field_step stmt_step x

field_layer : (x : Field) → seen_field x ≡ broken_field x
unfolding seen_field seen_expr
field_layer x = fold_out-Field (List Broken) (Span → SeenExpr) (Span → SeenStmt) SeenCase SeenExpr (List Broken) SeenStmt else_step expr_kind_step stmt_kind_step case_step expr_step field_step stmt_step x

-- an expression, a statement and an `else` that are of a layer
of_expr : (e : Expr) (k : ExprKind) (x : tree.ExprKind-F Else ExprKind StmtKind Case Expr Field Stmt) → (out-Expr e).kind ≡ k → out-ExprKind k ≡ x → seen_expr e
    ≡ expr_kind_step (map-ExprKind Else ExprKind StmtKind Case Expr Field Stmt (List Broken) (Span → SeenExpr) (Span → SeenStmt) SeenCase SeenExpr (List Broken) SeenStmt broken_else seen_expr_kind seen_stmt_kind seen_case seen_expr seen_field seen_stmt x) (out-Expr e).span
of_expr e k x is opens =
    expr_layer e ∙ ap (λ f. f (out-Expr e).span) (expr_kind_layer (out-Expr e).kind
    ∙ ap (λ y. expr_kind_step (map-ExprKind Else ExprKind StmtKind Case Expr Field Stmt (List Broken) (Span → SeenExpr) (Span → SeenStmt) SeenCase SeenExpr (List Broken) SeenStmt broken_else seen_expr_kind seen_stmt_kind seen_case seen_expr seen_field seen_stmt y)) (ap out-ExprKind is ∙ opens))

of_stmt : (s : Stmt) (k : StmtKind) (x : tree.StmtKind-F Else ExprKind StmtKind Case Expr Field Stmt) → (out-Stmt s).kind ≡ k → out-StmtKind k ≡ x → seen_stmt s
    ≡ stmt_kind_step (map-StmtKind Else ExprKind StmtKind Case Expr Field Stmt (List Broken) (Span → SeenExpr) (Span → SeenStmt) SeenCase SeenExpr (List Broken) SeenStmt broken_else seen_expr_kind seen_stmt_kind seen_case seen_expr seen_field seen_stmt x) (out-Stmt s).span
of_stmt s k x is opens =
    stmt_layer s ∙ ap (λ f. f (out-Stmt s).span) (stmt_kind_layer (out-Stmt s).kind
    ∙ ap (λ y. stmt_kind_step (map-StmtKind Else ExprKind StmtKind Case Expr Field Stmt (List Broken) (Span → SeenExpr) (Span → SeenStmt) SeenCase SeenExpr (List Broken) SeenStmt broken_else seen_expr_kind seen_stmt_kind seen_case seen_expr seen_field seen_stmt y)) (ap out-StmtKind is ∙ opens))

of_else : (o : Else) (k : Else) (x : tree.Else-F Else ExprKind StmtKind Case Expr Field Stmt) → o ≡ k → out-Else k ≡ x → broken_else o
    ≡ else_step (map-Else Else ExprKind StmtKind Case Expr Field Stmt (List Broken) (Span → SeenExpr) (Span → SeenStmt) SeenCase SeenExpr (List Broken) SeenStmt broken_else seen_expr_kind seen_stmt_kind seen_case seen_expr seen_field seen_stmt x)
of_else o k x is opens =
    else_layer o
    ∙ ap (λ y. else_step (map-Else Else ExprKind StmtKind Case Expr Field Stmt (List Broken) (Span → SeenExpr) (Span → SeenStmt) SeenCase SeenExpr (List Broken) SeenStmt broken_else seen_expr_kind seen_stmt_kind seen_case seen_expr seen_field seen_stmt y)) (ap out-Else is ∙ opens)

-- Lists of parts ----------------------------------------------------------------------------------------------------------------------

exprs_are : (es : List Expr) → in_exprs (map seen_expr es) ≡ flat_map broken_expr es
exprs_are es = flat_map-map (λ (e : SeenExpr). e.broken) seen_expr es

stmts_are : (ss : List Stmt) → in_stmts (map seen_stmt ss) ≡ broken_stmts ss
stmts_are ss = flat_map-map in_stmt seen_stmt ss

fields_are : (fs : List Field) → flat_map (λ (broken : List Broken). broken) (map seen_field fs) ≡ flat_map broken_field fs
fields_are [] = refl
fields_are (f ∷ fs) = ap (λ z. z ++ flat_map (λ (broken : List Broken). broken) (map seen_field fs)) (field_layer f) ∙ ap (λ z. broken_field f ++ z) (fields_are fs)

valued_are : (cs : List Case) → flat_map (λ (c : SeenCase). c.valued) (map seen_case cs) ≡ flat_map (broken_case true) cs
valued_are cs = flat_map-map (λ (c : SeenCase). c.valued) seen_case cs

stated_are : (cs : List Case) → flat_map (λ (c : SeenCase). c.stated) (map seen_case cs) ≡ flat_map (broken_case false) cs
stated_are cs = flat_map-map (λ (c : SeenCase). c.stated) seen_case cs

-- of two parts, and of three
first_two : (xs ys zs : List Broken) → ys ≡ zs → first_of (xs ++ ys) ≡ sooner (first_of xs) (first_of zs)
first_two xs ys zs e = first_append xs ys ∙ ap (λ z. sooner (first_of xs) (first_of z)) e

first_three : (xs ys zs us vs : List Broken) → ys ≡ us → zs ≡ vs → first_of (xs ++ (ys ++ zs)) ≡ sooner (first_of xs) (sooner (first_of us) (first_of vs))
first_three xs ys zs us vs e f = first_append xs (ys ++ zs) ∙ ap (sooner (first_of xs)) (ap (λ z. first_of (z ++ zs)) e ∙ first_two us zs vs f)

-- Expressions -------------------------------------------------------------------------------------------------------------------------

pub literal_first : (e : Expr) (negative : Bool) (token : Lexeme) → (out-Expr e).kind ≡ expr_kind.Literal negative token → first_of (broken_expr e) ≡ None
literal_first e negative token is = ap (λ (s : SeenExpr). first_of s.broken) (of_expr e (expr_kind.Literal negative token) (tree.Literal negative token) is (expr_kind.outs-Literal negative token))

pub name_first : (e : Expr) (text : List ℕ) → (out-Expr e).kind ≡ expr_kind.Name text → first_of (broken_expr e) ≡ None
name_first e text is = ap (λ (s : SeenExpr). first_of s.broken) (of_expr e (expr_kind.Name text) (tree.Name text) is (expr_kind.outs-Name text))

pub this_first : (e : Expr) → (out-Expr e).kind ≡ expr_kind.This → first_of (broken_expr e) ≡ None
this_first e is = ap (λ (s : SeenExpr). first_of s.broken) (of_expr e expr_kind.This tree.This is expr_kind.outs-This)

pub paren_first : (e : Expr) (inner : Expr) → (out-Expr e).kind ≡ expr_kind.Paren inner → first_of (broken_expr e) ≡ first_of (broken_expr inner)
paren_first e inner is = ap (λ (s : SeenExpr). first_of s.broken) (of_expr e (expr_kind.Paren inner) (tree.Paren inner) is (expr_kind.outs-Paren inner))

pub prefix_first : (e : Expr) (text : List ℕ) (operand : Expr) → (out-Expr e).kind ≡ expr_kind.Prefix text operand → first_of (broken_expr e) ≡ first_of (broken_expr operand)
prefix_first e text operand is = ap (λ (s : SeenExpr). first_of s.broken) (of_expr e (expr_kind.Prefix text operand) (tree.Prefix text operand) is (expr_kind.outs-Prefix text operand))

pub infix_first : (e : Expr) (left : Expr) (text : List ℕ) (right : Expr) → (out-Expr e).kind ≡ expr_kind.Infix left text right → first_of (broken_expr e) ≡ sooner (first_of (broken_expr left)) (first_of (broken_expr right))
infix_first e left text right is = ap (λ (s : SeenExpr). first_of s.broken) (of_expr e (expr_kind.Infix left text right) (tree.Infix left text right) is (expr_kind.outs-Infix left text right)) ∙ first_append (broken_expr left) (broken_expr right)

pub select_first : (e : Expr) (operand : Expr) (text : List ℕ) → (out-Expr e).kind ≡ expr_kind.Select operand text → first_of (broken_expr e) ≡ first_of (broken_expr operand)
select_first e operand text is = ap (λ (s : SeenExpr). first_of s.broken) (of_expr e (expr_kind.Select operand text) (tree.Select operand text) is (expr_kind.outs-Select operand text))

pub apply_first : (e : Expr) (operand : Expr) (arguments : List Expr) → (out-Expr e).kind ≡ expr_kind.Apply operand arguments → first_of (broken_expr e) ≡ sooner (first_of (broken_expr operand)) (first_of (flat_map broken_expr arguments))
apply_first e operand arguments is = ap (λ (s : SeenExpr). first_of s.broken) (of_expr e (expr_kind.Apply operand arguments) (tree.Apply operand arguments) is (expr_kind.outs-Apply operand arguments)) ∙ first_two (broken_expr operand) (in_exprs (map seen_expr arguments)) (flat_map broken_expr arguments) (exprs_are arguments)

pub update_first : (e : Expr) (operand : Expr) (fields : List Field) → (out-Expr e).kind ≡ expr_kind.Update operand fields → first_of (broken_expr e) ≡ sooner (first_of (broken_expr operand)) (first_of (flat_map broken_field fields))
update_first e operand fields is = ap (λ (s : SeenExpr). first_of s.broken) (of_expr e (expr_kind.Update operand fields) (tree.Update operand fields) is (expr_kind.outs-Update operand fields)) ∙ first_two (broken_expr operand) (flat_map (λ (broken : List Broken). broken) (map seen_field fields)) (flat_map broken_field fields) (fields_are fields)

pub given_first : (e : Expr) (operand : Expr) (types : List TypeTerm) → (out-Expr e).kind ≡ expr_kind.Given operand types → first_of (broken_expr e) ≡ first_of (broken_expr operand)
given_first e operand types is = ap (λ (s : SeenExpr). first_of s.broken) (of_expr e (expr_kind.Given operand types) (tree.Given operand types) is (expr_kind.outs-Given operand types))

pub if_first : (e : Expr) (test chosen other : Expr) → (out-Expr e).kind ≡ expr_kind.If test chosen other → first_of (broken_expr e) ≡ sooner (first_of (broken_expr test)) (sooner (first_of (broken_expr chosen)) (first_of (broken_expr other)))
if_first e test chosen other is = ap (λ (s : SeenExpr). first_of s.broken) (of_expr e (expr_kind.If test chosen other) (tree.ExprKind::If test chosen other) is (expr_kind.outs-If test chosen other)) ∙ first_three (broken_expr test) (broken_expr chosen) (broken_expr other) (broken_expr chosen) (broken_expr other) refl refl

pub match_first : (e : Expr) (operand : Expr) (cases : List Case) → (out-Expr e).kind ≡ expr_kind.Match operand cases → first_of (broken_expr e) ≡ sooner (first_of (broken_expr operand)) (first_of (flat_map (broken_case true) cases))
match_first e operand cases is = ap (λ (s : SeenExpr). first_of s.broken) (of_expr e (expr_kind.Match operand cases) (tree.ExprKind::Match operand cases) is (expr_kind.outs-Match operand cases)) ∙ first_two (broken_expr operand) (flat_map (λ (c : SeenCase). c.valued) (map seen_case cases)) (flat_map (broken_case true) cases) (valued_are cases)

-- whether an expression can stand on the left of an assignment, and whether it is an application

pub literal_place : (e : Expr) (negative : Bool) (token : Lexeme) → (out-Expr e).kind ≡ expr_kind.Literal negative token → (seen_expr e).place ≡ false
literal_place e negative token is = ap (λ (s : SeenExpr). s.place) (of_expr e (expr_kind.Literal negative token) (tree.Literal negative token) is (expr_kind.outs-Literal negative token))

pub literal_call : (e : Expr) (negative : Bool) (token : Lexeme) → (out-Expr e).kind ≡ expr_kind.Literal negative token → (seen_expr e).call ≡ false
literal_call e negative token is = ap (λ (s : SeenExpr). s.call) (of_expr e (expr_kind.Literal negative token) (tree.Literal negative token) is (expr_kind.outs-Literal negative token))

pub name_place : (e : Expr) (text : List ℕ) → (out-Expr e).kind ≡ expr_kind.Name text → (seen_expr e).place ≡ true
name_place e text is = ap (λ (s : SeenExpr). s.place) (of_expr e (expr_kind.Name text) (tree.Name text) is (expr_kind.outs-Name text))

pub name_call : (e : Expr) (text : List ℕ) → (out-Expr e).kind ≡ expr_kind.Name text → (seen_expr e).call ≡ false
name_call e text is = ap (λ (s : SeenExpr). s.call) (of_expr e (expr_kind.Name text) (tree.Name text) is (expr_kind.outs-Name text))

pub this_place : (e : Expr) → (out-Expr e).kind ≡ expr_kind.This → (seen_expr e).place ≡ true
this_place e is = ap (λ (s : SeenExpr). s.place) (of_expr e expr_kind.This tree.This is expr_kind.outs-This)

pub this_call : (e : Expr) → (out-Expr e).kind ≡ expr_kind.This → (seen_expr e).call ≡ false
this_call e is = ap (λ (s : SeenExpr). s.call) (of_expr e expr_kind.This tree.This is expr_kind.outs-This)

pub paren_place : (e : Expr) (inner : Expr) → (out-Expr e).kind ≡ expr_kind.Paren inner → (seen_expr e).place ≡ (seen_expr inner).place
paren_place e inner is = ap (λ (s : SeenExpr). s.place) (of_expr e (expr_kind.Paren inner) (tree.Paren inner) is (expr_kind.outs-Paren inner))

pub paren_call : (e : Expr) (inner : Expr) → (out-Expr e).kind ≡ expr_kind.Paren inner → (seen_expr e).call ≡ false
paren_call e inner is = ap (λ (s : SeenExpr). s.call) (of_expr e (expr_kind.Paren inner) (tree.Paren inner) is (expr_kind.outs-Paren inner))

pub prefix_place : (e : Expr) (text : List ℕ) (operand : Expr) → (out-Expr e).kind ≡ expr_kind.Prefix text operand → (seen_expr e).place ≡ false
prefix_place e text operand is = ap (λ (s : SeenExpr). s.place) (of_expr e (expr_kind.Prefix text operand) (tree.Prefix text operand) is (expr_kind.outs-Prefix text operand))

pub prefix_call : (e : Expr) (text : List ℕ) (operand : Expr) → (out-Expr e).kind ≡ expr_kind.Prefix text operand → (seen_expr e).call ≡ false
prefix_call e text operand is = ap (λ (s : SeenExpr). s.call) (of_expr e (expr_kind.Prefix text operand) (tree.Prefix text operand) is (expr_kind.outs-Prefix text operand))

pub infix_place : (e : Expr) (left : Expr) (text : List ℕ) (right : Expr) → (out-Expr e).kind ≡ expr_kind.Infix left text right → (seen_expr e).place ≡ false
infix_place e left text right is = ap (λ (s : SeenExpr). s.place) (of_expr e (expr_kind.Infix left text right) (tree.Infix left text right) is (expr_kind.outs-Infix left text right))

pub infix_call : (e : Expr) (left : Expr) (text : List ℕ) (right : Expr) → (out-Expr e).kind ≡ expr_kind.Infix left text right → (seen_expr e).call ≡ false
infix_call e left text right is = ap (λ (s : SeenExpr). s.call) (of_expr e (expr_kind.Infix left text right) (tree.Infix left text right) is (expr_kind.outs-Infix left text right))

pub select_place : (e : Expr) (operand : Expr) (text : List ℕ) → (out-Expr e).kind ≡ expr_kind.Select operand text → (seen_expr e).place ≡ (seen_expr operand).place
select_place e operand text is = ap (λ (s : SeenExpr). s.place) (of_expr e (expr_kind.Select operand text) (tree.Select operand text) is (expr_kind.outs-Select operand text))

pub select_call : (e : Expr) (operand : Expr) (text : List ℕ) → (out-Expr e).kind ≡ expr_kind.Select operand text → (seen_expr e).call ≡ false
select_call e operand text is = ap (λ (s : SeenExpr). s.call) (of_expr e (expr_kind.Select operand text) (tree.Select operand text) is (expr_kind.outs-Select operand text))

pub apply_place : (e : Expr) (operand : Expr) (arguments : List Expr) → (out-Expr e).kind ≡ expr_kind.Apply operand arguments → (seen_expr e).place ≡ (length arguments == 1 && (seen_expr operand).place)
apply_place e operand arguments is = ap (λ (s : SeenExpr). s.place) (of_expr e (expr_kind.Apply operand arguments) (tree.Apply operand arguments) is (expr_kind.outs-Apply operand arguments)) ∙ ap (λ n. n == 1 && (seen_expr operand).place) (length-map arguments seen_expr)

pub apply_call : (e : Expr) (operand : Expr) (arguments : List Expr) → (out-Expr e).kind ≡ expr_kind.Apply operand arguments → (seen_expr e).call ≡ true
apply_call e operand arguments is = ap (λ (s : SeenExpr). s.call) (of_expr e (expr_kind.Apply operand arguments) (tree.Apply operand arguments) is (expr_kind.outs-Apply operand arguments))

pub update_place : (e : Expr) (operand : Expr) (fields : List Field) → (out-Expr e).kind ≡ expr_kind.Update operand fields → (seen_expr e).place ≡ false
update_place e operand fields is = ap (λ (s : SeenExpr). s.place) (of_expr e (expr_kind.Update operand fields) (tree.Update operand fields) is (expr_kind.outs-Update operand fields))

pub update_call : (e : Expr) (operand : Expr) (fields : List Field) → (out-Expr e).kind ≡ expr_kind.Update operand fields → (seen_expr e).call ≡ false
update_call e operand fields is = ap (λ (s : SeenExpr). s.call) (of_expr e (expr_kind.Update operand fields) (tree.Update operand fields) is (expr_kind.outs-Update operand fields))

pub given_place : (e : Expr) (operand : Expr) (types : List TypeTerm) → (out-Expr e).kind ≡ expr_kind.Given operand types → (seen_expr e).place ≡ false
given_place e operand types is = ap (λ (s : SeenExpr). s.place) (of_expr e (expr_kind.Given operand types) (tree.Given operand types) is (expr_kind.outs-Given operand types))

pub given_call : (e : Expr) (operand : Expr) (types : List TypeTerm) → (out-Expr e).kind ≡ expr_kind.Given operand types → (seen_expr e).call ≡ false
given_call e operand types is = ap (λ (s : SeenExpr). s.call) (of_expr e (expr_kind.Given operand types) (tree.Given operand types) is (expr_kind.outs-Given operand types))

pub if_place : (e : Expr) (test chosen other : Expr) → (out-Expr e).kind ≡ expr_kind.If test chosen other → (seen_expr e).place ≡ false
if_place e test chosen other is = ap (λ (s : SeenExpr). s.place) (of_expr e (expr_kind.If test chosen other) (tree.ExprKind::If test chosen other) is (expr_kind.outs-If test chosen other))

pub if_call : (e : Expr) (test chosen other : Expr) → (out-Expr e).kind ≡ expr_kind.If test chosen other → (seen_expr e).call ≡ false
if_call e test chosen other is = ap (λ (s : SeenExpr). s.call) (of_expr e (expr_kind.If test chosen other) (tree.ExprKind::If test chosen other) is (expr_kind.outs-If test chosen other))

pub match_place : (e : Expr) (operand : Expr) (cases : List Case) → (out-Expr e).kind ≡ expr_kind.Match operand cases → (seen_expr e).place ≡ false
match_place e operand cases is = ap (λ (s : SeenExpr). s.place) (of_expr e (expr_kind.Match operand cases) (tree.ExprKind::Match operand cases) is (expr_kind.outs-Match operand cases))

pub match_call : (e : Expr) (operand : Expr) (cases : List Case) → (out-Expr e).kind ≡ expr_kind.Match operand cases → (seen_expr e).call ≡ false
match_call e operand cases is = ap (λ (s : SeenExpr). s.call) (of_expr e (expr_kind.Match operand cases) (tree.ExprKind::Match operand cases) is (expr_kind.outs-Match operand cases))

-- an application to one argument, and to none or more
pub apply_one : (e operand : Expr) (arguments : List Expr) → (out-Expr e).kind ≡ expr_kind.Apply operand arguments → length arguments ≡ 1 → (seen_expr e).place ≡ (seen_expr operand).place
apply_one e operand arguments is one = apply_place e operand arguments is ∙ ap (λ n. n == 1 && (seen_expr operand).place) one

pub apply_more : (e operand : Expr) (arguments : List Expr) → (out-Expr e).kind ≡ expr_kind.Apply operand arguments → (length arguments ≡ 1 → ⊥) → (seen_expr e).place ≡ false
apply_more e operand arguments is never = apply_place e operand arguments is ∙ ap (λ b. b && (seen_expr operand).place) (ne_eqb (length arguments) 1 never)

-- where it stands
stands : (e : Expr) → (seen_expr e).span ≡ (out-Expr e).span
stands e = ap (λ (s : SeenExpr). s.span) (expr_layer e ∙ ap (λ f. f (out-Expr e).span) (expr_kind_layer (out-Expr e).kind)) ∙ by (out-ExprKind (out-Expr e).kind) (out-Expr e).span
  where
    by : (x : tree.ExprKind-F Else ExprKind StmtKind Case Expr Field Stmt) (span : Span)
        → (expr_kind_step (map-ExprKind Else ExprKind StmtKind Case Expr Field Stmt (List Broken) (Span → SeenExpr) (Span → SeenStmt) SeenCase SeenExpr (List Broken) SeenStmt broken_else seen_expr_kind seen_stmt_kind seen_case seen_expr seen_field seen_stmt x) span).span ≡ span
    by (tree.Literal negative token) span = refl
    by (tree.Name text) span = refl
    by tree.This span = refl
    by (tree.Paren inner) span = refl
    by (tree.Prefix text operand) span = refl
    by (tree.Infix left text right) span = refl
    by (tree.Select operand text) span = refl
    by (tree.Apply operand arguments) span = refl
    by (tree.Update operand fields) span = refl
    by (tree.Given operand types) span = refl
    by (tree.ExprKind::If test chosen other) span = refl
    by (tree.ExprKind::Match operand cases) span = refl

-- Statements --------------------------------------------------------------------------------------------------------------------------

pub let_breaks : (s : Stmt) (assigned : Bool) (text : List ℕ) (ascribed : Option TypeTerm) (value : Expr) → (out-Stmt s).kind ≡ stmt_kind.Let assigned text ascribed value → first_of (seen_stmt s).broken ≡ first_of (broken_expr value)
let_breaks s assigned text ascribed value is = ap (λ (z : SeenStmt). first_of z.broken) (of_stmt s (stmt_kind.Let assigned text ascribed value) (tree.Let assigned text ascribed value) is (stmt_kind.outs-Let assigned text ascribed value))

pub while_breaks : (s : Stmt) (test : Expr) (inner : List Stmt) → (out-Stmt s).kind ≡ stmt_kind.While test inner → first_of (seen_stmt s).broken ≡ sooner (first_of (broken_expr test)) (first_of (broken_stmts inner))
while_breaks s test inner is = ap (λ (z : SeenStmt). first_of z.broken) (of_stmt s (stmt_kind.While test inner) (tree.While test inner) is (stmt_kind.outs-While test inner)) ∙ first_two (broken_expr test) (in_stmts (map seen_stmt inner)) (broken_stmts inner) (stmts_are inner)

pub call_breaks : (s : Stmt) (value : Expr) → (out-Stmt s).kind ≡ stmt_kind.Call value → first_of (seen_stmt s).broken ≡ first_of (broken_expr value)
call_breaks s value is = ap (λ (z : SeenStmt). first_of z.broken) (of_stmt s (stmt_kind.Call value) (tree.Call value) is (stmt_kind.outs-Call value))

pub if_stmt_breaks : (s : Stmt) (test : Expr) (chosen : List Stmt) (other : Else) → (out-Stmt s).kind ≡ stmt_kind.If test chosen other → first_of (seen_stmt s).broken ≡ sooner (first_of (broken_expr test)) (sooner (first_of (broken_stmts chosen)) (first_of (broken_else other)))
if_stmt_breaks s test chosen other is = ap (λ (z : SeenStmt). first_of z.broken) (of_stmt s (stmt_kind.If test chosen other) (tree.StmtKind::If test chosen other) is (stmt_kind.outs-If test chosen other)) ∙ first_three (broken_expr test) (in_stmts (map seen_stmt chosen)) (broken_else other) (broken_stmts chosen) (broken_else other) (stmts_are chosen) refl

pub for_breaks : (s : Stmt) (text : List ℕ) (from : Expr) (last : Bool) (to : Expr) (inner : List Stmt) → (out-Stmt s).kind ≡ stmt_kind.For text from last to inner → first_of (seen_stmt s).broken ≡ sooner (first_of (broken_expr from)) (sooner (first_of (broken_expr to)) (first_of (broken_stmts inner)))
for_breaks s text from last to inner is = ap (λ (z : SeenStmt). first_of z.broken) (of_stmt s (stmt_kind.For text from last to inner) (tree.For text from last to inner) is (stmt_kind.outs-For text from last to inner)) ∙ first_three (broken_expr from) (broken_expr to) (in_stmts (map seen_stmt inner)) (broken_expr to) (broken_stmts inner) refl (stmts_are inner)

pub match_stmt_breaks : (s : Stmt) (operand : Expr) (cases : List Case) → (out-Stmt s).kind ≡ stmt_kind.Match operand cases → first_of (seen_stmt s).broken ≡ sooner (first_of (broken_expr operand)) (first_of (flat_map (broken_case false) cases))
match_stmt_breaks s operand cases is = ap (λ (z : SeenStmt). first_of z.broken) (of_stmt s (stmt_kind.Match operand cases) (tree.StmtKind::Match operand cases) is (stmt_kind.outs-Match operand cases)) ∙ first_two (broken_expr operand) (flat_map (λ (c : SeenCase). c.stated) (map seen_case cases)) (flat_map (broken_case false) cases) (stated_are cases)

pub skip_breaks : (s : Stmt) (tokens : List Lexeme) → (out-Stmt s).kind ≡ stmt_kind.Skip tokens → first_of (seen_stmt s).broken ≡ None
skip_breaks s tokens is = ap (λ (z : SeenStmt). first_of z.broken) (of_stmt s (stmt_kind.Skip tokens) (tree.Skip tokens) is (stmt_kind.outs-Skip tokens))

-- an assignment to a place, and one to something else
pub assign_breaks : (s : Stmt) (left right : Expr) → (out-Stmt s).kind ≡ stmt_kind.Assign left right → (seen_expr left).place ≡ true
    → first_of (seen_stmt s).broken ≡ sooner (first_of (broken_expr left)) (first_of (broken_expr right))
assign_breaks s left right is place =
    ap (λ (z : SeenStmt). first_of z.broken) (of_stmt s (stmt_kind.Assign left right) (tree.Assign left right) is (stmt_kind.outs-Assign left right))
    ∙ (ap (λ (b : Bool). first_of ((if b then [] else at 4 (seen_expr left).span ∷ []) ++ (broken_expr left ++ broken_expr right))) place ∙ first_append (broken_expr left) (broken_expr right))

pub wrong_assign_breaks : (s : Stmt) (left right : Expr) → (out-Stmt s).kind ≡ stmt_kind.Assign left right → (seen_expr left).place ≡ false
    → first_of (seen_stmt s).broken ≡ sooner (Some (at 4 (out-Expr left).span)) (sooner (first_of (broken_expr left)) (first_of (broken_expr right)))
wrong_assign_breaks s left right is place =
    ap (λ (z : SeenStmt). first_of z.broken) (of_stmt s (stmt_kind.Assign left right) (tree.Assign left right) is (stmt_kind.outs-Assign left right))
    ∙ (ap (λ (b : Bool). first_of ((if b then [] else at 4 (seen_expr left).span ∷ []) ++ (broken_expr left ++ broken_expr right))) place
    ∙ (ap (λ (p : Span). sooner (Some (at 4 p)) (first_of (broken_expr left ++ broken_expr right))) (stands left) ∙ ap (sooner (Some (at 4 (out-Expr left).span))) (first_append (broken_expr left) (broken_expr right))))

pub return_breaks : (s : Stmt) (value : Option Expr) → (out-Stmt s).kind ≡ stmt_kind.Return value → first_of (seen_stmt s).broken ≡ first_of (broken_option value)
return_breaks s None is = ap (λ (z : SeenStmt). first_of z.broken) (of_stmt s (stmt_kind.Return None) (tree.Return None) is (stmt_kind.outs-Return None))
return_breaks s (Some value) is = ap (λ (z : SeenStmt). first_of z.broken) (of_stmt s (stmt_kind.Return (Some value)) (tree.Return (Some value)) is (stmt_kind.outs-Return (Some value)))

-- rule G5

pub let_idle : (s : Stmt) (assigned : Bool) (text : List ℕ) (ascribed : Option TypeTerm) (value : Expr) → (out-Stmt s).kind ≡ stmt_kind.Let assigned text ascribed value → first_of (seen_stmt s).idle ≡ None
let_idle s assigned text ascribed value is = ap (λ (z : SeenStmt). first_of z.idle) (of_stmt s (stmt_kind.Let assigned text ascribed value) (tree.Let assigned text ascribed value) is (stmt_kind.outs-Let assigned text ascribed value))

pub while_idle : (s : Stmt) (test : Expr) (inner : List Stmt) → (out-Stmt s).kind ≡ stmt_kind.While test inner → first_of (seen_stmt s).idle ≡ None
while_idle s test inner is = ap (λ (z : SeenStmt). first_of z.idle) (of_stmt s (stmt_kind.While test inner) (tree.While test inner) is (stmt_kind.outs-While test inner))

pub if_stmt_idle : (s : Stmt) (test : Expr) (chosen : List Stmt) (other : Else) → (out-Stmt s).kind ≡ stmt_kind.If test chosen other → first_of (seen_stmt s).idle ≡ None
if_stmt_idle s test chosen other is = ap (λ (z : SeenStmt). first_of z.idle) (of_stmt s (stmt_kind.If test chosen other) (tree.StmtKind::If test chosen other) is (stmt_kind.outs-If test chosen other))

pub for_idle : (s : Stmt) (text : List ℕ) (from : Expr) (last : Bool) (to : Expr) (inner : List Stmt) → (out-Stmt s).kind ≡ stmt_kind.For text from last to inner → first_of (seen_stmt s).idle ≡ None
for_idle s text from last to inner is = ap (λ (z : SeenStmt). first_of z.idle) (of_stmt s (stmt_kind.For text from last to inner) (tree.For text from last to inner) is (stmt_kind.outs-For text from last to inner))

pub match_stmt_idle : (s : Stmt) (operand : Expr) (cases : List Case) → (out-Stmt s).kind ≡ stmt_kind.Match operand cases → first_of (seen_stmt s).idle ≡ None
match_stmt_idle s operand cases is = ap (λ (z : SeenStmt). first_of z.idle) (of_stmt s (stmt_kind.Match operand cases) (tree.StmtKind::Match operand cases) is (stmt_kind.outs-Match operand cases))

pub skip_idle : (s : Stmt) (tokens : List Lexeme) → (out-Stmt s).kind ≡ stmt_kind.Skip tokens → first_of (seen_stmt s).idle ≡ None
skip_idle s tokens is = ap (λ (z : SeenStmt). first_of z.idle) (of_stmt s (stmt_kind.Skip tokens) (tree.Skip tokens) is (stmt_kind.outs-Skip tokens))

pub assign_idle : (s : Stmt) (left right : Expr) → (out-Stmt s).kind ≡ stmt_kind.Assign left right → first_of (seen_stmt s).idle ≡ None
assign_idle s left right is = ap (λ (z : SeenStmt). first_of z.idle) (of_stmt s (stmt_kind.Assign left right) (tree.Assign left right) is (stmt_kind.outs-Assign left right))

pub return_idle : (s : Stmt) (value : Option Expr) → (out-Stmt s).kind ≡ stmt_kind.Return value → first_of (seen_stmt s).idle ≡ None
return_idle s None is = ap (λ (z : SeenStmt). first_of z.idle) (of_stmt s (stmt_kind.Return None) (tree.Return None) is (stmt_kind.outs-Return None))
return_idle s (Some value) is = ap (λ (z : SeenStmt). first_of z.idle) (of_stmt s (stmt_kind.Return (Some value)) (tree.Return (Some value)) is (stmt_kind.outs-Return (Some value)))

pub call_idle : (s : Stmt) (value : Expr) (call : Bool) → (out-Stmt s).kind ≡ stmt_kind.Call value → (seen_expr value).call ≡ call → first_of (seen_stmt s).idle ≡ first_of (if call then [] else at 5 (out-Stmt s).span ∷ [])
call_idle s value call is called =
    ap (λ (z : SeenStmt). first_of z.idle) (of_stmt s (stmt_kind.Call value) (tree.Call value) is (stmt_kind.outs-Call value))
    ∙ ap (λ (b : Bool). first_of (if b then [] else at 5 (out-Stmt s).span ∷ [])) called

-- what stands behind an `else`
pub nothing_breaks : (o : Else) → o ≡ else_kind.Nothing → first_of (broken_else o) ≡ None
nothing_breaks o is = ap first_of (of_else o else_kind.Nothing tree.Nothing is else_kind.outs-Nothing)

pub block_breaks : (o : Else) (stmts : List Stmt) → o ≡ else_kind.Block stmts → first_of (broken_else o) ≡ first_of (broken_stmts stmts)
block_breaks o stmts is = ap first_of (of_else o (else_kind.Block stmts) (tree.Block stmts) is (else_kind.outs-Block stmts) ∙ stmts_are stmts)

pub else_if_breaks : (o : Else) (s : Stmt) → o ≡ else_kind.If s → first_of (broken_else o) ≡ first_of (broken_stmt s)
else_if_breaks o s is = ap first_of (of_else o (else_kind.If s) (tree.Else::If s) is (else_kind.outs-If s))

-- Cases -------------------------------------------------------------------------------------------------------------------------------

case_layer : (c : Case) → seen_case c
    ≡ case_step (map-Case Else ExprKind StmtKind Case Expr Field Stmt (List Broken) (Span → SeenExpr) (Span → SeenStmt) SeenCase SeenExpr (List Broken) SeenStmt broken_else seen_expr_kind seen_stmt_kind seen_case seen_expr seen_field seen_stmt (out-Case c))
unfolding seen_expr_kind seen_stmt_kind seen_field seen_expr seen_case seen_stmt broken_else
case_layer c = fold_out-Case (List Broken) (Span → SeenExpr) (Span → SeenStmt) SeenCase SeenExpr (List Broken) SeenStmt else_step expr_kind_step stmt_kind_step case_step expr_step field_step stmt_step c

pub valued_breaks : (c : Case) → first_of (broken_case true c) ≡ sooner (first_of (broken_option (out-Case c).guard)) (first_of (broken_value (out-Case c).body))
valued_breaks c = ap (λ (z : SeenCase). first_of z.valued) (case_layer c) ∙ by (out-Case c).guard
  where
    by : (guard : Option Expr) → first_of (case_step (map-Case Else ExprKind StmtKind Case Expr Field Stmt (List Broken) (Span → SeenExpr) (Span → SeenStmt) SeenCase SeenExpr (List Broken) SeenStmt broken_else seen_expr_kind seen_stmt_kind seen_case seen_expr seen_field seen_stmt (record { pattern = (out-Case c).pattern; guard = guard; body = (out-Case c).body }))).valued
        ≡ sooner (first_of (broken_option guard)) (first_of (broken_value (out-Case c).body))
    by None = refl
    by (Some test) = first_append (broken_expr test) (broken_value (out-Case c).body)

pub stated_breaks : (c : Case) → first_of (broken_case false c) ≡ sooner (first_of (broken_option (out-Case c).guard)) (first_of (broken_stmts (out-Case c).body))
stated_breaks c = ap (λ (z : SeenCase). first_of z.stated) (case_layer c) ∙ by (out-Case c).guard
  where
    by : (guard : Option Expr) → first_of (case_step (map-Case Else ExprKind StmtKind Case Expr Field Stmt (List Broken) (Span → SeenExpr) (Span → SeenStmt) SeenCase SeenExpr (List Broken) SeenStmt broken_else seen_expr_kind seen_stmt_kind seen_case seen_expr seen_field seen_stmt (record { pattern = (out-Case c).pattern; guard = guard; body = (out-Case c).body }))).stated
        ≡ sooner (first_of (broken_option guard)) (first_of (broken_stmts (out-Case c).body))
    by None = ap first_of (stmts_are (out-Case c).body)
    by (Some test) = first_two (broken_expr test) (in_stmts (map seen_stmt (out-Case c).body)) (broken_stmts (out-Case c).body) (stmts_are (out-Case c).body)

-- neither none nor two are one
none_is_one : (n : ℕ) → n ≡ 0 → n ≡ 1 → ⊥
none_is_one n none one = omega (arith, none, one)

two_are_one : (n : ℕ) → suc (suc n) ≡ 1 → ⊥
two_are_one n one = omega (arith, one)

-- the statements of a case of a match expression that are one, and that aren't
pub value_one : (ss : List Stmt) (s : Stmt) → length ss ≡ 1 → s ≡ get_or ss 0 s → broken_value ss ≡ (seen_stmt s).broken
value_one [] s one is = absurd (none_is_one 0 refl one)
value_one (t ∷ []) s one is = ap (λ z. (seen_stmt z).broken) (sym is)
value_one (t ∷ u ∷ ss) s one is = absurd (two_are_one (length ss) one)

pub value_is : (ss : List Stmt) → (length ss ≡ 1 → ⊥) → broken_value ss ≡ broken_stmts ss
value_is [] many = refl
value_is (s ∷ []) many = absurd (many (omega arith))
value_is (s ∷ t ∷ ss) many = stmts_are (s ∷ t ∷ ss)

pub ruleset all_exprs = (literal_first, name_first, this_first, paren_first, prefix_first, infix_first, select_first, apply_first, update_first, given_first, if_first, match_first)

pub ruleset all_places = (literal_place, name_place, this_place, paren_place, prefix_place, infix_place, select_place, apply_place, update_place, given_place, if_place, match_place)

pub ruleset all_calls = (literal_call, name_call, this_call, paren_call, prefix_call, infix_call, select_call, apply_call, update_call, given_call, if_call, match_call)

pub ruleset all_stmts = (let_breaks, while_breaks, call_breaks, if_stmt_breaks, for_breaks, match_stmt_breaks, skip_breaks, assign_breaks, wrong_assign_breaks, return_breaks)

pub ruleset all_idle = (let_idle, while_idle, if_stmt_idle, for_idle, match_stmt_idle, skip_idle, assign_idle, return_idle, call_idle)

pub ruleset all_elses = (nothing_breaks, block_breaks, else_if_breaks)

pub ruleset all_cases = (valued_breaks, stated_breaks)
