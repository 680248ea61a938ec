-- The tokens of a tree, in order. Braces repeat, brackets are optional, words in quotation marks stand for themselves, `id` is an
-- identifier, and SEP a Separator:
--
--   file    = ["package" path SEP] "import" "org" "." "sireum" "." "_" {SEP item}
--   item    = import | decl
--   import  = "import" path ["." "_"]
--   path    = id {"." id}
--
--   note    = "@" id ["(" field {"," field} ")"]
--   decl    = {note} (enum | ints | class | trait | object)
--   enum    = "object" id "{" name {SEP name} "}"                 a name is a Quoted or a Symbol
--   ints    = "class" id
--   class   = "class" id [tparams] "(" [param {"," param}] ")" [ext] [methods]
--   trait   = "trait" id [tparams] [ext] [methods]
--   object  = "object" id [ext] [body]
--   tparams = "[" id {"," id} "]"
--   param   = ["val" | "var"] id ":" type
--   ext     = "extends" type {"with" type}
--   methods = "{" [inner {SEP inner}] "}"
--   inner   = {note} ["override"] method
--   body    = "{" [member {SEP member}] "}"
--   member  = {note} ["override"] (method | global)
--   method  = "def" id [tparams] ["(" [param {"," param}] ")"] ":" type ["=" (block | expr)]
--   global  = ("val" | "var") id [":" type] "=" expr
--
--   type    = path ["[" type {"," type} "]"]
--   pattern = "_" [":" type]  |  id [":" type]  |  ["-"] literal  |  id "." path  |  path "(" [pattern {"," pattern}] ")"
--   expr    = ["-"] literal  |  id  |  "this"  |  "(" expr ")"  |  prefix expr  |  expr operator expr  |  expr "." id
--           | expr "(" [expr {"," expr}] ")"  |  expr "(" field {"," field} ")"  |  expr "[" type {"," type} "]"
--           | "if" "(" expr ")" expr "else" expr  |  expr cases
--   field   = id "=" expr
--   cases   = "match" "{" case {case} "}"
--   case    = "case" pattern ["if" expr] "=>" stmts
--   stmts   = [stmt {SEP stmt}]
--   block   = "{" stmts "}"
--   stmt    = ("val" | "var") id [":" type] "=" expr  |  expr "=" expr  |  expr  |  ifs  |  "while" "(" expr ")" block
--           | "for" "(" id "<-" expr ("until" | "to") expr ")" block  |  expr cases  |  "return" [expr]  |  tokens that are passed over
--   ifs     = "if" "(" expr ")" block ["else" (block | ifs)]
--
-- A literal is a Number, a Quoted, a Letter or a Prefixed, and in a pattern `T` or `F` too. A prefix and an operator are Operators.
-- `specs/WellShaped.antt` says which of these phrases there are, of types, patterns, expressions and statements.
--
-- A file's imports are those behind the library's own, which every file has. A tree doesn't tell which of its imports stand before which
-- of its declarations, but by their spans: here the imports come first, and then the declarations. A later crate settles files, in which
-- they may be mixed.
use Rattle.std.specs.Prelude.{ℕ, List, [], ◌∷◌, ◌++◌, Bool, true, false, Option, Some, None, map, codes, if◌then◌else◌}
use Rattle.std.specs.List.{flat_map}
use Rattle.sl_text.specs.declared.token.Kind.TheVariants.{Ident, Word, Operator, Mark, Separator}
use Rattle.sl_tree.specs.declared.tree.Lexeme.{Lexeme}
use Rattle.sl_tree.specs.declared.tree.TypeTerm.{TypeTerm, fold-TypeTerm}
use Rattle.sl_tree.specs.declared.tree.TypeTerm.TheOpen.{TypeTerm-F}
use Rattle.sl_tree.specs.declared.tree.Pattern.{Pattern}
use Rattle.sl_tree.specs.declared.tree.PatternKind.{PatternKind}
use Rattle.sl_tree.specs.declared.tree.PatternKind.TheFolds.{fold-PatternKind, fold-Pattern}
use Rattle.sl_tree.specs.declared.tree.PatternKind.TheOpen as pattern
use Rattle.sl_tree.specs.declared.tree.Expr.{Expr}
use Rattle.sl_tree.specs.declared.tree.ExprKind.{ExprKind}
use Rattle.sl_tree.specs.declared.tree.Field.{Field}
use Rattle.sl_tree.specs.declared.tree.Case.{Case}
use Rattle.sl_tree.specs.declared.tree.Stmt.{Stmt}
use Rattle.sl_tree.specs.declared.tree.StmtKind.{StmtKind}
use Rattle.sl_tree.specs.declared.tree.Else.{Else}
use Rattle.sl_tree.specs.declared.tree.Else.TheFolds.{fold-Else, fold-ExprKind, fold-StmtKind, fold-Case, fold-Expr, fold-Field, fold-Stmt}
use Rattle.sl_tree.specs.declared.tree.Else.TheOpen as tree
use Rattle.sl_tree.specs.declared.tree.Note.{Note}
use Rattle.sl_tree.specs.declared.tree.Param.{Param}
use Rattle.sl_tree.specs.declared.tree.Keyword.{Keyword}
use Rattle.sl_tree.specs.declared.tree.Keyword.TheVariants as keyword
use Rattle.sl_tree.specs.declared.tree.Body.{Body}
use Rattle.sl_tree.specs.declared.tree.Body.TheVariants as body
use Rattle.sl_tree.specs.declared.tree.Decl.{Decl}
use Rattle.sl_tree.specs.declared.tree.DeclKind.TheFolds.{fold-Decl}
use Rattle.sl_tree.specs.declared.tree.DeclKind.TheOpen as decl
use Rattle.sl_tree.specs.declared.tree.Import.{Import}
use Rattle.sl_tree.specs.declared.tree.File.{File}

abbrev pub Tokens : Type 0
Tokens = List Lexeme

-- tokens by their bytes: an identifier, a word, a mark, an operator; the end of a statement
abbrev pub name : List ℕ → Lexeme
name text = record { kind = Ident; text = text }

abbrev pub word : List ℕ → Lexeme
word text = record { kind = Word; text = text }

abbrev pub mark : List ℕ → Lexeme
mark text = record { kind = Mark; text = text }

abbrev pub operator : List ℕ → Lexeme
operator text = record { kind = Operator; text = text }

abbrev pub end : Lexeme
end = record { kind = Separator; text = [] }

-- with a token between one and the next
abbrev pub between : Lexeme → List Tokens → Tokens
between token [] = []
between token (first ∷ others) = first ++ flat_map (λ tokens. token ∷ tokens) others

-- with commas; with Separators
abbrev pub commas : List Tokens → Tokens
commas parts = between (mark (codes ",")) parts

abbrev pub ends : List Tokens → Tokens
ends parts = between end parts

-- in parentheses, in brackets and in braces
abbrev pub round : Tokens → Tokens
round inner = mark (codes "(") ∷ (inner ++ mark (codes ")") ∷ [])

abbrev pub square : Tokens → Tokens
square inner = mark (codes "[") ∷ (inner ++ mark (codes "]") ∷ [])

abbrev pub curly : Tokens → Tokens
curly inner = mark (codes "{") ∷ (inner ++ mark (codes "}") ∷ [])

-- names, each as the tokens that it is
abbrev pub flat_names : List (List ℕ) → List Tokens
flat_names texts = map (λ text. name text ∷ []) texts

-- names with dots between them
abbrev pub flat_path : List (List ℕ) → Tokens
flat_path path = between (mark (codes ".")) (flat_names path)

-- the arguments of a type
abbrev pub flat_type_args : List Tokens → Tokens
flat_type_args [] = []
flat_type_args (first ∷ others) = square (commas (first ∷ others))

abbrev pub type_step : TypeTerm-F Tokens → Tokens
type_step term = flat_path term.path ++ flat_type_args term.args

-- the tokens of a type
unfoldable pub flat_type : TypeTerm → Tokens
flat_type term = fold-TypeTerm Tokens type_step term

-- a type behind a colon
abbrev pub flat_ascribed : Option TypeTerm → Tokens
flat_ascribed None = []
flat_ascribed (Some term) = mark (codes ":") ∷ flat_type term

-- a literal, with or without a minus
abbrev pub flat_literal : Bool → Lexeme → Tokens
flat_literal true literal = operator (codes "-") ∷ literal ∷ []
flat_literal false literal = literal ∷ []

abbrev pub pattern_kind_step : pattern.PatternKind-F Tokens Tokens → Tokens
pattern_kind_step (pattern.Any ascribed) = mark (codes "_") ∷ flat_ascribed ascribed
pattern_kind_step (pattern.Bind text ascribed) = name text ∷ flat_ascribed ascribed
pattern_kind_step (pattern.Literal negative literal) = flat_literal negative literal
pattern_kind_step (pattern.Constant path) = flat_path path
pattern_kind_step (pattern.Class path parts) = flat_path path ++ round (commas parts)

abbrev pub pattern_step : pattern.Pattern-F Tokens Tokens → Tokens
pattern_step x = x.kind

-- the tokens of a pattern, and of what it is
unfoldable pub flat_pattern : Pattern → Tokens
flat_pattern x = fold-Pattern Tokens Tokens pattern_kind_step pattern_step x

unfoldable pub flat_pattern_kind : PatternKind → Tokens
flat_pattern_kind x = fold-PatternKind Tokens Tokens pattern_kind_step pattern_step x

-- The steps of expressions and statements, in which each part is given by its tokens.

-- `match { CASES }`
abbrev pub flat_cases : List Tokens → Tokens
flat_cases cases = word (codes "match") ∷ curly (flat_map (λ tokens. tokens) cases)

abbrev pub expr_kind_step : tree.ExprKind-F Tokens Tokens Tokens Tokens Tokens Tokens Tokens → Tokens
expr_kind_step (tree.Literal negative literal) = flat_literal negative literal
expr_kind_step (tree.Name text) = name text ∷ []
expr_kind_step tree.This = word (codes "this") ∷ []
expr_kind_step (tree.Paren inner) = round inner
expr_kind_step (tree.Prefix text operand) = operator text ∷ operand
expr_kind_step (tree.Infix left text right) = left ++ operator text ∷ right
expr_kind_step (tree.Select operand text) = operand ++ mark (codes ".") ∷ name text ∷ []
expr_kind_step (tree.Apply operand arguments) = operand ++ round (commas arguments)
expr_kind_step (tree.Update operand fields) = operand ++ round (commas fields)
expr_kind_step (tree.Given operand types) = operand ++ square (commas (map flat_type types))
expr_kind_step (tree.ExprKind::If test chosen other) = word (codes "if") ∷ (round test ++ (chosen ++ word (codes "else") ∷ other))
expr_kind_step (tree.ExprKind::Match operand cases) = operand ++ flat_cases cases

abbrev pub expr_step : tree.Expr-F Tokens Tokens Tokens Tokens Tokens Tokens Tokens → Tokens
expr_step x = x.kind

abbrev pub field_step : tree.Field-F Tokens Tokens Tokens Tokens Tokens Tokens Tokens → Tokens
field_step x = name x.name ∷ mark (codes "=") ∷ x.value

-- the guard of a case
abbrev pub flat_guard : Option Tokens → Tokens
flat_guard None = []
flat_guard (Some test) = word (codes "if") ∷ test

abbrev pub case_step : tree.Case-F Tokens Tokens Tokens Tokens Tokens Tokens Tokens → Tokens
case_step x = word (codes "case") ∷ (flat_pattern x.pattern ++ (flat_guard x.guard ++ mark (codes "=>") ∷ ends x.body))

-- `val`, or `var` where it can be assigned
abbrev pub flat_let : Bool → Lexeme
flat_let assigned = if assigned then word (codes "var") else word (codes "val")

-- `until`, or `to` where the last is a part
abbrev pub flat_until : Bool → Lexeme
flat_until last = if last then name (codes "to") else name (codes "until")

-- what is returned
abbrev pub flat_returned : Option Tokens → Tokens
flat_returned None = []
flat_returned (Some value) = value

abbrev pub stmt_kind_step : tree.StmtKind-F Tokens Tokens Tokens Tokens Tokens Tokens Tokens → Tokens
stmt_kind_step (tree.Let assigned text ascribed value) = flat_let assigned ∷ name text ∷ (flat_ascribed ascribed ++ mark (codes "=") ∷ value)
stmt_kind_step (tree.Assign place value) = place ++ mark (codes "=") ∷ value
stmt_kind_step (tree.Call value) = value
stmt_kind_step (tree.StmtKind::If test chosen other) = word (codes "if") ∷ (round test ++ (curly (ends chosen) ++ other))
stmt_kind_step (tree.While test inner) = word (codes "while") ∷ (round test ++ curly (ends inner))
stmt_kind_step (tree.For text from last to inner) =
    word (codes "for") ∷ (round (name text ∷ mark (codes "<-") ∷ (from ++ flat_until last ∷ to)) ++ curly (ends inner))
stmt_kind_step (tree.StmtKind::Match operand cases) = operand ++ flat_cases cases
stmt_kind_step (tree.Return value) = word (codes "return") ∷ flat_returned value
stmt_kind_step (tree.Skip tokens) = tokens

abbrev pub stmt_step : tree.Stmt-F Tokens Tokens Tokens Tokens Tokens Tokens Tokens → Tokens
stmt_step x = x.kind

abbrev pub else_step : tree.Else-F Tokens Tokens Tokens Tokens Tokens Tokens Tokens → Tokens
else_step tree.Nothing = []
else_step (tree.Block stmts) = word (codes "else") ∷ curly (ends stmts)
else_step (tree.Else::If stmt) = word (codes "else") ∷ stmt

-- the tokens of an expression, and of what it is
unfoldable pub flat_expr : Expr → Tokens
flat_expr x = fold-Expr Tokens Tokens Tokens Tokens Tokens Tokens Tokens else_step expr_kind_step stmt_kind_step case_step expr_step field_step stmt_step x

unfoldable pub flat_expr_kind : ExprKind → Tokens
flat_expr_kind x = fold-ExprKind Tokens Tokens Tokens Tokens Tokens Tokens Tokens else_step expr_kind_step stmt_kind_step case_step expr_step field_step stmt_step x

-- `NAME = EXPR`
unfoldable pub flat_field : Field → Tokens
flat_field x = fold-Field Tokens Tokens Tokens Tokens Tokens Tokens Tokens else_step expr_kind_step stmt_kind_step case_step expr_step field_step stmt_step x

-- a case of a match
unfoldable pub flat_case : Case → Tokens
flat_case x = fold-Case Tokens Tokens Tokens Tokens Tokens Tokens Tokens else_step expr_kind_step stmt_kind_step case_step expr_step field_step stmt_step x

-- the tokens of a statement, and of what it is
unfoldable pub flat_stmt : Stmt → Tokens
flat_stmt x = fold-Stmt Tokens Tokens Tokens Tokens Tokens Tokens Tokens else_step expr_kind_step stmt_kind_step case_step expr_step field_step stmt_step x

unfoldable pub flat_stmt_kind : StmtKind → Tokens
flat_stmt_kind x = fold-StmtKind Tokens Tokens Tokens Tokens Tokens Tokens Tokens else_step expr_kind_step stmt_kind_step case_step expr_step field_step stmt_step x

-- what stands behind a statement's `else`, with the `else`
unfoldable pub flat_else : Else → Tokens
flat_else x = fold-Else Tokens Tokens Tokens Tokens Tokens Tokens Tokens else_step expr_kind_step stmt_kind_step case_step expr_step field_step stmt_step x

-- statements with Separators between them
abbrev pub flat_statements : List Stmt → Tokens
flat_statements stmts = ends (map flat_stmt stmts)

abbrev pub flat_block : List Stmt → Tokens
flat_block stmts = curly (flat_statements stmts)

-- the fields of a note
abbrev pub flat_pairs : List Field → Tokens
flat_pairs [] = []
flat_pairs (first ∷ others) = round (commas (map flat_field (first ∷ others)))

abbrev pub flat_note : Note → Tokens
flat_note note = mark (codes "@") ∷ name note.name ∷ flat_pairs note.pairs

-- type parameters
abbrev pub flat_type_params : List (List ℕ) → Tokens
flat_type_params [] = []
flat_type_params (first ∷ others) = square (commas (flat_names (first ∷ others)))

abbrev pub flat_keyword : Keyword → Tokens
flat_keyword keyword.Nothing = []
flat_keyword keyword.Val = word (codes "val") ∷ []
flat_keyword keyword.Var = word (codes "var") ∷ []

abbrev pub flat_param : Param → Tokens
flat_param param = flat_keyword param.keyword ++ name param.name ∷ mark (codes ":") ∷ flat_type param.kind

abbrev pub flat_params : List Param → Tokens
flat_params params = round (commas (map flat_param params))

-- the parameters of a method, which may have none
abbrev pub flat_method_params : Option (List Param) → Tokens
flat_method_params None = []
flat_method_params (Some params) = flat_params params

-- the parents
abbrev pub flat_parents : List TypeTerm → Tokens
flat_parents [] = []
flat_parents (first ∷ others) = word (codes "extends") ∷ between (word (codes "with")) (map flat_type (first ∷ others))

-- the members in their braces
abbrev pub flat_members : Option (List Tokens) → Tokens
flat_members None = []
flat_members (Some members) = curly (ends members)

abbrev pub flat_override : Bool → Tokens
flat_override true = word (codes "override") ∷ []
flat_override false = []

-- what stands behind a method's `=`
abbrev pub flat_body : Body → Tokens
flat_body (body.Block stmts) = flat_block stmts
flat_body (body.Value value) = flat_expr value

abbrev pub flat_given_body : Option Body → Tokens
flat_given_body None = []
flat_given_body (Some x) = mark (codes "=") ∷ flat_body x

abbrev pub decl_kind_step : decl.DeclKind-F Tokens Tokens → Tokens
decl_kind_step (decl.Enum text names) = word (codes "object") ∷ name text ∷ curly (ends (map (λ x. x ∷ []) names))
decl_kind_step (decl.Ints text) = word (codes "class") ∷ name text ∷ []
decl_kind_step (decl.Class text types params parents methods) =
    word (codes "class") ∷ name text ∷ (flat_type_params types ++ (flat_params params ++ (flat_parents parents ++ flat_members methods)))
decl_kind_step (decl.Trait text types parents methods) = word (codes "trait") ∷ name text ∷ (flat_type_params types ++ (flat_parents parents ++ flat_members methods))
decl_kind_step (decl.Object text parents members) = word (codes "object") ∷ name text ∷ (flat_parents parents ++ flat_members members)
decl_kind_step (decl.Method overrides text types params result given) =
    flat_override overrides
    ++ word (codes "def") ∷ name text ∷ (flat_type_params types ++ (flat_method_params params ++ mark (codes ":") ∷ (flat_type result ++ flat_given_body given)))
decl_kind_step (decl.Global overrides assigned text ascribed value) =
    flat_override overrides ++ flat_let assigned ∷ name text ∷ (flat_ascribed ascribed ++ mark (codes "=") ∷ flat_expr value)

abbrev pub decl_step : decl.Decl-F Tokens Tokens → Tokens
decl_step x = flat_map flat_note x.notes ++ x.kind

-- the tokens of a declaration
unfoldable pub flat_decl : Decl → Tokens
flat_decl x = fold-Decl Tokens Tokens decl_kind_step decl_step x

-- `._`, where an import is of all
abbrev pub flat_all : Bool → Tokens
flat_all true = mark (codes ".") ∷ mark (codes "_") ∷ []
flat_all false = []

abbrev pub flat_import : Import → Tokens
flat_import x = word (codes "import") ∷ (flat_path x.path ++ flat_all x.all)

-- the library's own import, which every file has
abbrev pub flat_library : Tokens
flat_library = word (codes "import") ∷ (flat_path (codes "org" ∷ codes "sireum" ∷ []) ++ flat_all true)

-- the line of the package
abbrev pub flat_package : List (List ℕ) → Tokens
flat_package [] = []
flat_package (first ∷ others) = word (codes "package") ∷ (flat_path (first ∷ others) ++ end ∷ [])

-- the tokens of a file, its imports before its declarations
unfoldable pub flat_file : File → Tokens
flat_file file = flat_package file.package ++ ends (flat_library ∷ (map flat_import file.imports ++ map flat_decl file.decls))
