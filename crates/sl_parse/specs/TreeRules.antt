-- The rules that are tested on the tree of a file, each where it is broken:
--
--   G3  a note isn't of the forms of notes, is a second one, or stands before a declaration that has no such note: at the note. A
--       declaration that asks for a note has none: at the declaration.
--   G4  the left side of an assignment holds a node other than a name, `this`, parentheses, a selection or an application to one
--       argument, what stands in arguments aside: at the left side.
--   G5  an expression that is a statement is no application, and isn't the only statement of a case of a match expression: at the
--       statement.
--
-- What is broken in a tree is a list, in the order in which the tree is gone through. `first_of` finds what is told: the least place,
-- and there the least number.
use Rattle.std.specs.Prelude.{ℕ, List, [], ◌∷◌, ◌++◌, Bool, true, false, ◌&&◌, ◌||◌, ◌==◌, Option, Some, None, length, nat_lt, map, count_by, codes, if◌then◌else◌}
use Rattle.std.specs.List.{flat_map, list_all}
use Rattle.std.specs.Str.{bytes_eq}
use Rattle.sl_text.specs.declared.place.Span.{Span}
use Rattle.sl_text.specs.declared.fault.Broken.{Broken}
use Rattle.sl_tree.specs.declared.tree.Expr.{Expr, out-Expr}
use Rattle.sl_tree.specs.declared.tree.ExprKind.{out-ExprKind}
use Rattle.sl_tree.specs.declared.tree.Field.{Field, out-Field}
use Rattle.sl_tree.specs.declared.tree.Case.{Case}
use Rattle.sl_tree.specs.declared.tree.Stmt.{Stmt}
use Rattle.sl_tree.specs.declared.tree.Else.{Else}
use Rattle.sl_tree.specs.declared.tree.Else.TheFolds.{fold-Expr, fold-Case, fold-Stmt, fold-Else}
use Rattle.sl_tree.specs.declared.tree.Else.TheOpen as tree
use Rattle.sl_tree.specs.declared.tree.Note.{Note}
use Rattle.sl_tree.specs.declared.tree.Body.{Body}
use Rattle.sl_tree.specs.declared.tree.Body.TheVariants as body
use Rattle.sl_tree.specs.declared.tree.Decl.{Decl}
use Rattle.sl_tree.specs.declared.tree.DeclKind.{DeclKind}
use Rattle.sl_tree.specs.declared.tree.DeclKind.TheFolds.{fold-Decl, fold-DeclKind}
use Rattle.sl_tree.specs.declared.tree.DeclKind.TheOpen as decl
use Rattle.sl_tree.specs.declared.tree.File.{File}
use Rattle.sl_tree.specs.WellShaped.{number_kind}
use Rattle.sl_parse_expr.specs.Answers.{rule}

-- The first of what is broken ---------------------------------------------------------------------------------------------------------

-- a rule G of this number is broken here
abbrev pub at : ℕ → Span → Broken
at number span = record { rule = rule number; span = span }

-- one stands before the other: at a lesser place, or there with a lesser number
abbrev pub is_before : Broken → Broken → Bool
is_before left right = nat_lt left.span.from right.span.from || (left.span.from == right.span.from && nat_lt left.rule.number right.rule.number)

-- that of two which stands before the other; where neither does, the former
abbrev pub sooner : Option Broken → Option Broken → Option Broken
sooner None right = right
sooner (Some left) None = Some left
sooner (Some left) (Some right) = if is_before right left then Some right else Some left

-- the first of all
abbrev pub first_of : List Broken → Option Broken
first_of [] = None
first_of (broken ∷ others) = sooner (Some broken) (first_of others)

-- Expressions and statements ----------------------------------------------------------------------------------------------------------

-- what an expression shows: the rules that are broken in it; whether it can stand on the left of an assignment; whether it is an
-- application; where it stands
pub record SeenExpr : Type 0 where
  pub broken : List Broken
  pub place : Bool
  pub call : Bool
  pub span : Span

-- what a statement shows: the rules that are broken in it, and G5 where it is an expression that is no application
pub record SeenStmt : Type 0 where
  pub broken : List Broken
  pub idle : List Broken

-- what a case shows: the rules that are broken in it where it is one of a statement, and where it is one of an expression
pub record SeenCase : Type 0 where
  pub stated : List Broken
  pub valued : List Broken

-- The steps, in which each part is given by what it shows: of what an expression or a statement is, as a function of its span.
abbrev pub Layer : (Type 0 → Type 0 → Type 0 → Type 0 → Type 0 → Type 0 → Type 0 → Type 0) → Type 0
Layer F = F (List Broken) (Span → SeenExpr) (Span → SeenStmt) SeenCase SeenExpr (List Broken) SeenStmt

-- an expression of which the node itself is no place and no application; a place; an application
abbrev pub other : List Broken → Span → SeenExpr
other broken span = record { broken = broken; place = false; call = false; span = span }

abbrev pub place_where : Bool → List Broken → Span → SeenExpr
place_where place broken span = record { broken = broken; place = place; call = false; span = span }

abbrev pub call_where : Bool → List Broken → Span → SeenExpr
call_where place broken span = record { broken = broken; place = place; call = true; span = span }

-- what is broken in some expressions, statements, fields and cases, and in an expression that may be left out
abbrev pub in_exprs : List SeenExpr → List Broken
in_exprs exprs = flat_map (λ e. e.broken) exprs

abbrev pub in_stmt : SeenStmt → List Broken
in_stmt stmt = stmt.broken ++ stmt.idle

abbrev pub in_stmts : List SeenStmt → List Broken
in_stmts stmts = flat_map in_stmt stmts

abbrev pub in_option : Option SeenExpr → List Broken
in_option None = []
in_option (Some e) = e.broken

-- the same where the statements are those of a case of a match expression: its only statement may be any expression
abbrev pub in_value : List SeenStmt → List Broken
in_value [] = []
in_value (stmt ∷ []) = stmt.broken
in_value (first ∷ second ∷ others) = in_stmts (first ∷ second ∷ others)

abbrev pub expr_kind_step : Layer tree.ExprKind-F → Span → SeenExpr
expr_kind_step (tree.Literal negative literal) = other []
expr_kind_step (tree.Name text) = place_where true []
expr_kind_step tree.This = place_where true []
expr_kind_step (tree.Paren inner) = place_where inner.place inner.broken
expr_kind_step (tree.Prefix text operand) = other operand.broken
expr_kind_step (tree.Infix left text right) = other (left.broken ++ right.broken)
expr_kind_step (tree.Select operand text) = place_where operand.place operand.broken
expr_kind_step (tree.Apply operand arguments) = call_where (length arguments == 1 && operand.place) (operand.broken ++ in_exprs arguments)
expr_kind_step (tree.Update operand fields) = other (operand.broken ++ flat_map (λ broken. broken) fields)
expr_kind_step (tree.Given operand types) = other operand.broken
expr_kind_step (tree.ExprKind::If test chosen otherwise) = other (test.broken ++ (chosen.broken ++ otherwise.broken))
expr_kind_step (tree.ExprKind::Match operand cases) = other (operand.broken ++ flat_map (λ c. c.valued) cases)

abbrev pub expr_step : Layer tree.Expr-F → SeenExpr
expr_step x = x.kind x.span

abbrev pub field_step : Layer tree.Field-F → List Broken
field_step x = x.value.broken

abbrev pub case_step : Layer tree.Case-F → SeenCase
case_step x = record { stated = in_option x.guard ++ in_stmts x.body; valued = in_option x.guard ++ in_value x.body }

-- a statement that is no expression
abbrev pub busy : List Broken → SeenStmt
busy broken = record { broken = broken; idle = [] }

abbrev pub stmt_kind_step : Layer tree.StmtKind-F → Span → SeenStmt
stmt_kind_step (tree.Let assigned text ascribed value) span = busy value.broken
stmt_kind_step (tree.Assign left right) span = busy ((if left.place then [] else at 4 left.span ∷ []) ++ (left.broken ++ right.broken))
stmt_kind_step (tree.Call value) span = record { broken = value.broken; idle = if value.call then [] else at 5 span ∷ [] }
stmt_kind_step (tree.StmtKind::If test chosen otherwise) span = busy (test.broken ++ (in_stmts chosen ++ otherwise))
stmt_kind_step (tree.While test inner) span = busy (test.broken ++ in_stmts inner)
stmt_kind_step (tree.For text from last to inner) span = busy (from.broken ++ (to.broken ++ in_stmts inner))
stmt_kind_step (tree.StmtKind::Match operand cases) span = busy (operand.broken ++ flat_map (λ c. c.stated) cases)
stmt_kind_step (tree.Return value) span = busy (in_option value)
stmt_kind_step (tree.Skip tokens) span = busy []

abbrev pub stmt_step : Layer tree.Stmt-F → SeenStmt
stmt_step x = x.kind x.span

abbrev pub else_step : Layer tree.Else-F → List Broken
else_step tree.Nothing = []
else_step (tree.Block stmts) = in_stmts stmts
else_step (tree.Else::If stmt) = in_stmt stmt

-- what an expression, a case and a statement show, and what is broken behind an `else`
unfoldable pub seen_expr : Expr → SeenExpr
seen_expr x = fold-Expr (List Broken) (Span → SeenExpr) (Span → SeenStmt) SeenCase SeenExpr (List Broken) SeenStmt else_step expr_kind_step stmt_kind_step case_step expr_step field_step stmt_step x

unfoldable pub seen_case : Case → SeenCase
seen_case x = fold-Case (List Broken) (Span → SeenExpr) (Span → SeenStmt) SeenCase SeenExpr (List Broken) SeenStmt else_step expr_kind_step stmt_kind_step case_step expr_step field_step stmt_step x

unfoldable pub seen_stmt : Stmt → SeenStmt
seen_stmt x = fold-Stmt (List Broken) (Span → SeenExpr) (Span → SeenStmt) SeenCase SeenExpr (List Broken) SeenStmt else_step expr_kind_step stmt_kind_step case_step expr_step field_step stmt_step x

unfoldable pub broken_else : Else → List Broken
broken_else x = fold-Else (List Broken) (Span → SeenExpr) (Span → SeenStmt) SeenCase SeenExpr (List Broken) SeenStmt else_step expr_kind_step stmt_kind_step case_step expr_step field_step stmt_step x

-- the rules that are broken in an expression; in one that may be left out; in a field's value
abbrev pub broken_expr : Expr → List Broken
broken_expr e = (seen_expr e).broken

abbrev pub broken_option : Option Expr → List Broken
broken_option None = []
broken_option (Some e) = broken_expr e

abbrev pub broken_field : Field → List Broken
broken_field field = broken_expr (out-Field field).value

-- in a case of a match expression, where `valued` is true, or of a statement; in a statement, and in statements
abbrev pub broken_case : Bool → Case → List Broken
broken_case valued c = if valued then (seen_case c).valued else (seen_case c).stated

abbrev pub broken_stmt : Stmt → List Broken
broken_stmt stmt = in_stmt (seen_stmt stmt)

abbrev pub broken_stmts : List Stmt → List Broken
broken_stmts stmts = flat_map broken_stmt stmts

-- in the statements of a case of a match expression
abbrev pub broken_value : List Stmt → List Broken
broken_value stmts = in_value (map seen_stmt stmts)

-- Notes -------------------------------------------------------------------------------------------------------------------------------

-- the forms of declarations that notes tell apart; a method by its body: none, a block or an expression
pub data Form : Type 0 where
  An_enum : Form
  Integers : Form
  A_class : Form
  A_trait : Form
  An_object : Form
  Bare_method : Form
  Block_method : Form
  Value_method : Form
  A_global : Form

abbrev pub method_form : Option Body → Form
method_form None = Bare_method
method_form (Some (body.Block stmts)) = Block_method
method_form (Some (body.Value value)) = Value_method

abbrev pub form_step : {A B : Type 0} → decl.DeclKind-F A B → Form
form_step (decl.Enum text names) = An_enum
form_step (decl.Ints text) = Integers
form_step (decl.Class text types params parents methods) = A_class
form_step (decl.Trait text types parents methods) = A_trait
form_step (decl.Object text parents members) = An_object
form_step (decl.Method overrides text types params result given) = method_form given
form_step (decl.Global overrides assigned text ascribed value) = A_global

-- which notes stand before which declarations, by their names
abbrev pub stands_before : Form → List ℕ → Bool
stands_before An_enum name = bytes_eq name (codes "enum")
stands_before Integers name = bytes_eq name (codes "range") || bytes_eq name (codes "bits")
stands_before A_class name = bytes_eq name (codes "datatype") || bytes_eq name (codes "record")
stands_before A_trait name = bytes_eq name (codes "datatype") || (bytes_eq name (codes "record") || (bytes_eq name (codes "sig") || bytes_eq name (codes "msig")))
stands_before An_object name = false
stands_before Bare_method name = bytes_eq name (codes "pure") || bytes_eq name (codes "strictpure")
stands_before Block_method name = bytes_eq name (codes "pure")
stands_before Value_method name = bytes_eq name (codes "strictpure")
stands_before A_global name = false

-- which declarations ask for a note
abbrev pub asks : Form → Bool
asks An_enum = true
asks Integers = true
asks A_class = true
asks A_trait = true
asks An_object = false
asks Bare_method = false
asks Block_method = false
asks Value_method = true
asks A_global = false

-- a Number, with or without `-` before it; `T` or `F`
abbrev pub number_step : {A B C D E F G : Type 0} → tree.ExprKind-F A B C D E F G → Bool
number_step (tree.Literal negative literal) = number_kind literal.kind
number_step rest = false

abbrev pub truth_step : {A B C D E F G : Type 0} → tree.ExprKind-F A B C D E F G → Bool
truth_step (tree.Name text) = bytes_eq text (codes "T") || bytes_eq text (codes "F")
truth_step rest = false

unfoldable pub is_number : Expr → Bool
is_number e = number_step (out-ExprKind (out-Expr e).kind)

unfoldable pub is_truth : Expr → Bool
is_truth e = truth_step (out-ExprKind (out-Expr e).kind)

-- a pair of this name; how many there are
abbrev pub named : List ℕ → Field → Bool
named name pair = bytes_eq (out-Field pair).name name

abbrev pub times : List ℕ → List Field → ℕ
times name pairs = count_by (named name) pairs

-- the pairs of `@range`: `min` and `max`, which are numbers, and once at most `index`, which is `T` or `F`
abbrev pub range_pair : Field → Bool
range_pair pair = ((named (codes "min") pair || named (codes "max") pair) && is_number (out-Field pair).value) || (named (codes "index") pair && is_truth (out-Field pair).value)

abbrev pub range_pairs : List Field → Bool
range_pairs pairs = list_all range_pair pairs && (times (codes "min") pairs == 1 && (times (codes "max") pairs == 1 && nat_lt (times (codes "index") pairs) 2))

-- those of `@bits`: `signed`, which is `T` or `F`, and `width`, which is a number
abbrev pub bits_pair : Field → Bool
bits_pair pair = (named (codes "signed") pair && is_truth (out-Field pair).value) || (named (codes "width") pair && is_number (out-Field pair).value)

abbrev pub bits_pairs : List Field → Bool
bits_pairs pairs = list_all bits_pair pairs && (times (codes "signed") pairs == 1 && times (codes "width") pairs == 1)

-- the pairs that a note of this name takes
abbrev pub takes : List ℕ → List Field → Bool
takes name pairs =
    if bytes_eq name (codes "range") then range_pairs pairs
    else if bytes_eq name (codes "bits") then bits_pairs pairs
    else length pairs == 0

-- a note is one of the forms, and stands before a declaration that has such a note
abbrev pub suits : Note → Form → Bool
suits note form = stands_before form note.name && takes note.name note.pairs

-- what is broken in the values of a note's pairs; in a note; in one more note
abbrev pub in_pairs : Note → List Broken
in_pairs note = flat_map broken_field note.pairs

abbrev pub noted : Form → Note → List Broken
noted form note = (if suits note form then [] else at 3 note.span ∷ []) ++ in_pairs note

abbrev pub noted_again : Note → List Broken
noted_again note = at 3 note.span ∷ in_pairs note

-- what is broken in the notes of a declaration that stands here
abbrev pub in_notes : Form → Span → List Note → List Broken
in_notes form span [] = if asks form then at 3 span ∷ [] else []
in_notes form span (note ∷ others) = noted form note ++ flat_map noted_again others

-- Declarations ------------------------------------------------------------------------------------------------------------------------

-- what a declaration declares: its form, and the rules that are broken in it
pub record SeenDecl : Type 0 where
  pub form : Form
  pub broken : List Broken

abbrev pub in_body : Option Body → List Broken
in_body None = []
in_body (Some (body.Block stmts)) = broken_stmts stmts
in_body (Some (body.Value value)) = broken_expr value

-- in members, each given by the rules that are broken in it
abbrev pub in_members : Option (List (List Broken)) → List Broken
in_members None = []
in_members (Some members) = flat_map (λ broken. broken) members

abbrev pub broken_step : decl.DeclKind-F SeenDecl (List Broken) → List Broken
broken_step (decl.Enum text names) = []
broken_step (decl.Ints text) = []
broken_step (decl.Class text types params parents methods) = in_members methods
broken_step (decl.Trait text types parents methods) = in_members methods
broken_step (decl.Object text parents members) = in_members members
broken_step (decl.Method overrides text types params result given) = in_body given
broken_step (decl.Global overrides assigned text ascribed value) = broken_expr value

abbrev pub decl_kind_step : decl.DeclKind-F SeenDecl (List Broken) → SeenDecl
decl_kind_step x = record { form = form_step x; broken = broken_step x }

abbrev pub decl_step : decl.Decl-F SeenDecl (List Broken) → List Broken
decl_step x = in_notes x.kind.form x.span x.notes ++ x.kind.broken

-- what a declaration declares, by its form and what is broken in it
unfoldable pub seen_kind : DeclKind → SeenDecl
seen_kind x = fold-DeclKind SeenDecl (List Broken) decl_kind_step decl_step x

-- the rules that are broken in a declaration, in members, which may be left out, and in a file
unfoldable pub broken_decl : Decl → List Broken
broken_decl x = fold-Decl SeenDecl (List Broken) decl_kind_step decl_step x

abbrev pub broken_members : Option (List Decl) → List Broken
broken_members None = []
broken_members (Some members) = flat_map broken_decl members

unfoldable pub broken_in : File → List Broken
broken_in file = flat_map broken_decl file.decls
