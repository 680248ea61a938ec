-- The tokens of each form of tree, from the tokens of its parts.
use Rattle.std.proofs.Common.{◌≡◌, ℕ, List, [], ◌∷◌, ◌++◌, map, Bool, Option, Some, None, sym, ap, ◌∙◌}
use Rattle.std.specs.Prelude.{codes}
use Rattle.sl_text.specs.declared.place.Span.{Span}
use Rattle.sl_tree.specs.declared.tree.Lexeme.{Lexeme}
use Rattle.sl_tree.specs.declared.tree.TypeTerm.{TypeTerm, fold-roll-TypeTerm}
use Rattle.sl_tree.specs.declared.tree.Pattern.{Pattern}
use Rattle.sl_tree.specs.declared.tree.PatternKind.{PatternKind, roll-PatternKind, map-PatternKind, fold-roll-PatternKind}
use Rattle.sl_tree.specs.declared.tree.PatternKind.TheFolds.{fold-roll-Pattern}
use Rattle.sl_tree.specs.declared.tree.PatternKind.TheOpen as open_pattern
use Rattle.sl_tree.specs.declared.tree.PatternKind.TheVariants as pattern_kind
use Rattle.sl_tree.specs.declared.tree.Expr.{Expr}
use Rattle.sl_tree.specs.declared.tree.ExprKind.{ExprKind, roll-ExprKind}
use Rattle.sl_tree.specs.declared.tree.ExprKind.TheVariants as expr_kind
use Rattle.sl_tree.specs.declared.tree.Field.{Field}
use Rattle.sl_tree.specs.declared.tree.Case.{Case}
use Rattle.sl_tree.specs.declared.tree.Stmt.{Stmt}
use Rattle.sl_tree.specs.declared.tree.StmtKind.{StmtKind, roll-StmtKind}
use Rattle.sl_tree.specs.declared.tree.StmtKind.TheVariants as stmt_kind
use Rattle.sl_tree.specs.declared.tree.Else.{Else, roll-Else}
use Rattle.sl_tree.specs.declared.tree.Else.TheVariants as else_kind
use Rattle.sl_tree.specs.declared.tree.Else.TheOpen as tree
use Rattle.sl_tree.specs.declared.tree.Else.TheFolds.{map-Else, map-ExprKind, map-StmtKind, fold-roll-Else, fold-roll-ExprKind, fold-roll-StmtKind, fold-roll-Case, fold-roll-Expr, fold-roll-Field, fold-roll-Stmt}
use Rattle.sl_tree.specs.WellShaped.{type_term, pattern, expr, stmt, field, case_of}
use Rattle.sl_tree.specs.Flat.{Tokens, name, word, mark, operator, commas, round, square, flat_path, flat_type_args, type_step, flat_type, flat_ascribed, flat_literal, pattern_kind_step, pattern_step, flat_pattern, flat_pattern_kind, flat_cases, expr_kind_step, expr_step, field_step, case_step, flat_let, flat_until, stmt_kind_step, stmt_step, else_step, flat_expr, flat_expr_kind, flat_field, flat_case, flat_stmt, flat_stmt_kind, flat_else, flat_statements, flat_block}

-- Types -------------------------------------------------------------------------------------------------------------------------------

pub flat_type_term : (path : List (List ℕ)) (args : List TypeTerm) (span : Span) → flat_type (type_term path args span) ≡ flat_path path ++ flat_type_args (map flat_type args)
unfolding type_term flat_type
flat_type_term path args span = fold-roll-TypeTerm Tokens type_step (record { path = path; args = args; span = span })

-- Patterns ----------------------------------------------------------------------------------------------------------------------------

pattern_layer : (kind : PatternKind) (span : Span) → flat_pattern (pattern kind span) ≡ flat_pattern_kind kind
unfolding pattern flat_pattern flat_pattern_kind
pattern_layer kind span = fold-roll-Pattern Tokens Tokens pattern_kind_step pattern_step (record { kind = kind; span = span })

pattern_kind_layer : (x : open_pattern.PatternKind-F PatternKind Pattern) → flat_pattern_kind (roll-PatternKind x) ≡ pattern_kind_step (map-PatternKind PatternKind Pattern Tokens Tokens flat_pattern_kind flat_pattern x)
unfolding flat_pattern flat_pattern_kind
pattern_kind_layer x = fold-roll-PatternKind Tokens Tokens pattern_kind_step pattern_step x

-- a pattern that is of a layer
of_pattern : {kind : PatternKind} (x : open_pattern.PatternKind-F PatternKind Pattern) (span : Span) → roll-PatternKind x ≡ kind
    → flat_pattern (pattern kind span) ≡ pattern_kind_step (map-PatternKind PatternKind Pattern Tokens Tokens flat_pattern_kind flat_pattern x)
of_pattern x span rolls = pattern_layer _ span ∙ (ap flat_pattern_kind (sym rolls) ∙ pattern_kind_layer x)

pub flat_any : (ascribed : Option TypeTerm) (span : Span) → flat_pattern (pattern (pattern_kind.Any ascribed) span) ≡ mark (codes "_") ∷ flat_ascribed ascribed
flat_any ascribed span = of_pattern (open_pattern.Any ascribed) span (pattern_kind.rolls-Any ascribed)

pub flat_bind : (text : List ℕ) (ascribed : Option TypeTerm) (span : Span) → flat_pattern (pattern (pattern_kind.Bind text ascribed) span) ≡ name text ∷ flat_ascribed ascribed
flat_bind text ascribed span = of_pattern (open_pattern.Bind text ascribed) span (pattern_kind.rolls-Bind text ascribed)

pub flat_literal_pattern : (negative : Bool) (literal : Lexeme) (span : Span) → flat_pattern (pattern (pattern_kind.Literal negative literal) span) ≡ flat_literal negative literal
flat_literal_pattern negative literal span = of_pattern (open_pattern.Literal negative literal) span (pattern_kind.rolls-Literal negative literal)

pub flat_constant : (path : List (List ℕ)) (span : Span) → flat_pattern (pattern (pattern_kind.Constant path) span) ≡ flat_path path
flat_constant path span = of_pattern (open_pattern.Constant path) span (pattern_kind.rolls-Constant path)

pub flat_class : (path : List (List ℕ)) (parts : List Pattern) (span : Span) → flat_pattern (pattern (pattern_kind.Class path parts) span) ≡ flat_path path ++ round (commas (map flat_pattern parts))
flat_class path parts span = of_pattern (open_pattern.Class path parts) span (pattern_kind.rolls-Class path parts)

-- Expressions -------------------------------------------------------------------------------------------------------------------------

expr_layer : (kind : ExprKind) (span : Span) → flat_expr (expr kind span) ≡ flat_expr_kind kind
unfolding expr flat_expr flat_expr_kind
expr_layer kind span =
    fold-roll-Expr Tokens Tokens Tokens Tokens Tokens Tokens Tokens else_step expr_kind_step stmt_kind_step case_step expr_step field_step stmt_step (record { kind = kind; span = span })

expr_kind_layer : (x : tree.ExprKind-F Else ExprKind StmtKind Case Expr Field Stmt) → flat_expr_kind (roll-ExprKind x)
    ≡ expr_kind_step (map-ExprKind Else ExprKind StmtKind Case Expr Field Stmt Tokens Tokens Tokens Tokens Tokens Tokens Tokens flat_else flat_expr_kind flat_stmt_kind flat_case flat_expr flat_field flat_stmt x)
unfolding flat_else flat_expr_kind flat_stmt_kind flat_case flat_expr flat_field flat_stmt
expr_kind_layer x = fold-roll-ExprKind Tokens Tokens Tokens Tokens Tokens Tokens Tokens else_step expr_kind_step stmt_kind_step case_step expr_step field_step stmt_step x

-- an expression that is of a layer
of_expr : {kind : ExprKind} (x : tree.ExprKind-F Else ExprKind StmtKind Case Expr Field Stmt) (span : Span) → roll-ExprKind x ≡ kind → flat_expr (expr kind span)
    ≡ expr_kind_step (map-ExprKind Else ExprKind StmtKind Case Expr Field Stmt Tokens Tokens Tokens Tokens Tokens Tokens Tokens flat_else flat_expr_kind flat_stmt_kind flat_case flat_expr flat_field flat_stmt x)
of_expr x span rolls = expr_layer _ span ∙ (ap flat_expr_kind (sym rolls) ∙ expr_kind_layer x)

pub flat_literal_expr : (negative : Bool) (literal : Lexeme) (span : Span) → flat_expr (expr (expr_kind.Literal negative literal) span) ≡ flat_literal negative literal
flat_literal_expr negative literal span = of_expr (tree.Literal negative literal) span (expr_kind.rolls-Literal negative literal)

pub flat_name : (text : List ℕ) (span : Span) → flat_expr (expr (expr_kind.Name text) span) ≡ name text ∷ []
flat_name text span = of_expr (tree.Name text) span (expr_kind.rolls-Name text)

pub flat_this : (span : Span) → flat_expr (expr expr_kind.This span) ≡ word (codes "this") ∷ []
flat_this span = of_expr tree.This span expr_kind.rolls-This

pub flat_paren : (x : Expr) (span : Span) → flat_expr (expr (expr_kind.Paren x) span) ≡ round (flat_expr x)
flat_paren x span = of_expr (tree.Paren x) span (expr_kind.rolls-Paren x)

pub flat_prefix : (text : List ℕ) (x : Expr) (span : Span) → flat_expr (expr (expr_kind.Prefix text x) span) ≡ operator text ∷ flat_expr x
flat_prefix text x span = of_expr (tree.Prefix text x) span (expr_kind.rolls-Prefix text x)

pub flat_infix : (x : Expr) (text : List ℕ) (y : Expr) (span : Span) → flat_expr (expr (expr_kind.Infix x text y) span) ≡ flat_expr x ++ operator text ∷ flat_expr y
flat_infix x text y span = of_expr (tree.Infix x text y) span (expr_kind.rolls-Infix x text y)

pub flat_select : (x : Expr) (text : List ℕ) (span : Span) → flat_expr (expr (expr_kind.Select x text) span) ≡ flat_expr x ++ mark (codes ".") ∷ name text ∷ []
flat_select x text span = of_expr (tree.Select x text) span (expr_kind.rolls-Select x text)

pub flat_apply : (x : Expr) (args : List Expr) (span : Span) → flat_expr (expr (expr_kind.Apply x args) span) ≡ flat_expr x ++ round (commas (map flat_expr args))
flat_apply x args span = of_expr (tree.Apply x args) span (expr_kind.rolls-Apply x args)

pub flat_update : (x : Expr) (fields : List Field) (span : Span) → flat_expr (expr (expr_kind.Update x fields) span) ≡ flat_expr x ++ round (commas (map flat_field fields))
flat_update x fields span = of_expr (tree.Update x fields) span (expr_kind.rolls-Update x fields)

pub flat_given : (x : Expr) (types : List TypeTerm) (span : Span) → flat_expr (expr (expr_kind.Given x types) span) ≡ flat_expr x ++ square (commas (map flat_type types))
flat_given x types span = of_expr (tree.Given x types) span (expr_kind.rolls-Given x types)

pub flat_if : (x y z : Expr) (span : Span) → flat_expr (expr (expr_kind.If x y z) span) ≡ word (codes "if") ∷ (round (flat_expr x) ++ (flat_expr y ++ word (codes "else") ∷ flat_expr z))
flat_if x y z span = of_expr (tree.ExprKind::If x y z) span (expr_kind.rolls-If x y z)

pub flat_match : (x : Expr) (cases : List Case) (span : Span) → flat_expr (expr (expr_kind.Match x cases) span) ≡ flat_expr x ++ flat_cases (map flat_case cases)
flat_match x cases span = of_expr (tree.ExprKind::Match x cases) span (expr_kind.rolls-Match x cases)

-- Fields and cases --------------------------------------------------------------------------------------------------------------------

pub flat_field_is : (text : List ℕ) (value : Expr) → flat_field (field text value) ≡ name text ∷ mark (codes "=") ∷ flat_expr value
unfolding field flat_field flat_expr
flat_field_is text value =
    fold-roll-Field Tokens Tokens Tokens Tokens Tokens Tokens Tokens else_step expr_kind_step stmt_kind_step case_step expr_step field_step stmt_step (record { name = text; value = value })

-- the guard of a case
abbrev pub guard_tokens : Option Expr → Tokens
guard_tokens None = []
guard_tokens (Some test) = word (codes "if") ∷ flat_expr test

pub flat_case_is : (x : Pattern) (guard : Option Expr) (body : List Stmt) → flat_case (case_of x guard body)
    ≡ word (codes "case") ∷ (flat_pattern x ++ (guard_tokens guard ++ mark (codes "=>") ∷ flat_statements body))
unfolding case_of flat_case flat_expr flat_stmt
flat_case_is x None body =
    fold-roll-Case Tokens Tokens Tokens Tokens Tokens Tokens Tokens else_step expr_kind_step stmt_kind_step case_step expr_step field_step stmt_step (record { pattern = x; guard = None; body = body })
flat_case_is x (Some test) body =
    fold-roll-Case Tokens Tokens Tokens Tokens Tokens Tokens Tokens else_step expr_kind_step stmt_kind_step case_step expr_step field_step stmt_step (record { pattern = x; guard = Some test; body = body })

-- Statements --------------------------------------------------------------------------------------------------------------------------

stmt_layer : (kind : StmtKind) (span : Span) → flat_stmt (stmt kind span) ≡ flat_stmt_kind kind
unfolding stmt flat_stmt flat_stmt_kind
stmt_layer kind span =
    fold-roll-Stmt Tokens Tokens Tokens Tokens Tokens Tokens Tokens else_step expr_kind_step stmt_kind_step case_step expr_step field_step stmt_step (record { kind = kind; span = span })

stmt_kind_layer : (x : tree.StmtKind-F Else ExprKind StmtKind Case Expr Field Stmt) → flat_stmt_kind (roll-StmtKind x)
    ≡ stmt_kind_step (map-StmtKind Else ExprKind StmtKind Case Expr Field Stmt Tokens Tokens Tokens Tokens Tokens Tokens Tokens flat_else flat_expr_kind flat_stmt_kind flat_case flat_expr flat_field flat_stmt x)
unfolding flat_else flat_expr_kind flat_stmt_kind flat_case flat_expr flat_field flat_stmt
stmt_kind_layer x = fold-roll-StmtKind Tokens Tokens Tokens Tokens Tokens Tokens Tokens else_step expr_kind_step stmt_kind_step case_step expr_step field_step stmt_step x

-- a statement that is of a layer
of_stmt : {kind : StmtKind} (x : tree.StmtKind-F Else ExprKind StmtKind Case Expr Field Stmt) (span : Span) → roll-StmtKind x ≡ kind → flat_stmt (stmt kind span)
    ≡ stmt_kind_step (map-StmtKind Else ExprKind StmtKind Case Expr Field Stmt Tokens Tokens Tokens Tokens Tokens Tokens Tokens flat_else flat_expr_kind flat_stmt_kind flat_case flat_expr flat_field flat_stmt x)
of_stmt x span rolls = stmt_layer _ span ∙ (ap flat_stmt_kind (sym rolls) ∙ stmt_kind_layer x)

pub flat_let_stmt : (assigned : Bool) (text : List ℕ) (ascribed : Option TypeTerm) (value : Expr) (span : Span) → flat_stmt (stmt (stmt_kind.Let assigned text ascribed value) span)
    ≡ flat_let assigned ∷ name text ∷ (flat_ascribed ascribed ++ mark (codes "=") ∷ flat_expr value)
flat_let_stmt assigned text ascribed value span = of_stmt (tree.Let assigned text ascribed value) span (stmt_kind.rolls-Let assigned text ascribed value)

pub flat_assign : (place value : Expr) (span : Span) → flat_stmt (stmt (stmt_kind.Assign place value) span) ≡ flat_expr place ++ mark (codes "=") ∷ flat_expr value
flat_assign place value span = of_stmt (tree.Assign place value) span (stmt_kind.rolls-Assign place value)

pub flat_call : (value : Expr) (span : Span) → flat_stmt (stmt (stmt_kind.Call value) span) ≡ flat_expr value
flat_call value span = of_stmt (tree.Call value) span (stmt_kind.rolls-Call value)

pub flat_if_stmt : (test : Expr) (chosen : List Stmt) (other : Else) (span : Span) → flat_stmt (stmt (stmt_kind.If test chosen other) span)
    ≡ word (codes "if") ∷ (round (flat_expr test) ++ (flat_block chosen ++ flat_else other))
flat_if_stmt test chosen other span = of_stmt (tree.StmtKind::If test chosen other) span (stmt_kind.rolls-If test chosen other)

pub flat_while : (test : Expr) (inner : List Stmt) (span : Span) → flat_stmt (stmt (stmt_kind.While test inner) span) ≡ word (codes "while") ∷ (round (flat_expr test) ++ flat_block inner)
flat_while test inner span = of_stmt (tree.While test inner) span (stmt_kind.rolls-While test inner)

pub flat_for : (text : List ℕ) (from : Expr) (last : Bool) (to : Expr) (inner : List Stmt) (span : Span) → flat_stmt (stmt (stmt_kind.For text from last to inner) span)
    ≡ word (codes "for") ∷ (round (name text ∷ mark (codes "<-") ∷ (flat_expr from ++ flat_until last ∷ flat_expr to)) ++ flat_block inner)
flat_for text from last to inner span = of_stmt (tree.For text from last to inner) span (stmt_kind.rolls-For text from last to inner)

pub flat_match_stmt : (x : Expr) (cases : List Case) (span : Span) → flat_stmt (stmt (stmt_kind.Match x cases) span) ≡ flat_expr x ++ flat_cases (map flat_case cases)
flat_match_stmt x cases span = of_stmt (tree.StmtKind::Match x cases) span (stmt_kind.rolls-Match x cases)

pub flat_return_bare : (span : Span) → flat_stmt (stmt (stmt_kind.Return None) span) ≡ word (codes "return") ∷ []
flat_return_bare span = of_stmt (tree.Return None) span (stmt_kind.rolls-Return None)

pub flat_return_value : (value : Expr) (span : Span) → flat_stmt (stmt (stmt_kind.Return (Some value)) span) ≡ word (codes "return") ∷ flat_expr value
flat_return_value value span = of_stmt (tree.Return (Some value)) span (stmt_kind.rolls-Return (Some value))

pub flat_skip : (tokens : List Lexeme) (span : Span) → flat_stmt (stmt (stmt_kind.Skip tokens) span) ≡ tokens
flat_skip tokens span = of_stmt (tree.Skip tokens) span (stmt_kind.rolls-Skip tokens)

-- What stands behind an `else` --------------------------------------------------------------------------------------------------------

else_layer : (x : tree.Else-F Else ExprKind StmtKind Case Expr Field Stmt) → flat_else (roll-Else x)
    ≡ else_step (map-Else Else ExprKind StmtKind Case Expr Field Stmt Tokens Tokens Tokens Tokens Tokens Tokens Tokens flat_else flat_expr_kind flat_stmt_kind flat_case flat_expr flat_field flat_stmt x)
unfolding flat_else flat_expr_kind flat_stmt_kind flat_case flat_expr flat_field flat_stmt
else_layer x = fold-roll-Else Tokens Tokens Tokens Tokens Tokens Tokens Tokens else_step expr_kind_step stmt_kind_step case_step expr_step field_step stmt_step x

pub flat_else_nothing : flat_else else_kind.Nothing ≡ []
flat_else_nothing = ap flat_else (sym else_kind.rolls-Nothing) ∙ else_layer tree.Nothing

pub flat_else_block : (stmts : List Stmt) → flat_else (else_kind.Block stmts) ≡ word (codes "else") ∷ flat_block stmts
flat_else_block stmts = ap flat_else (sym (else_kind.rolls-Block stmts)) ∙ else_layer (tree.Block stmts)

pub flat_else_if : (x : Stmt) → flat_else (else_kind.If x) ≡ word (codes "else") ∷ flat_stmt x
flat_else_if x = ap flat_else (sym (else_kind.rolls-If x)) ∙ else_layer (tree.Else::If x)
