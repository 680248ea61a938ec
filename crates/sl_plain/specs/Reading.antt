-- Which trees are plain, and the programs that they hold. A plain tree is the tree of such a file, where blanks, comments, layout and the
-- statements that are passed over (`Contract(..)`, `Invariant(..)`, `l"..."`) are free:
--
--   // #Sireum
--   import org.sireum._
--   object NAME extends App {
--     def main(args: ISZ[String]): Z = {
--       ..                                  statements
--       return ATOM
--     }
--   }
--
-- Its statements are these:
--
--   val ID: TYPE = RIGHT                       var ID: TYPE = RIGHT          ID = RIGHT
--   println(ATOM)                              println("TEXT")
--   if (CONDITION) { .. } else { .. }          the `else` may be missing
--   while (CONDITION) { .. }                   for (ID <- ATOM until ATOM) { .. }
--   assert(CONDITION)                          halt("TEXT")
--
-- TYPE is `Z` or `B`. ATOM is an ID, `T`, `F`, or a number of 64 bits. CONDITION is an ATOM, or two with one of `== != < <= > >=`
-- between them. RIGHT is a CONDITION, two ATOMs with one of `+ - * / %` between them, or `Port.get()`. The line of an operation is that
-- on which its left operand begins, and the line of a statement that on which it begins.
use Rattle.std.specs.Prelude.{ℕ, ◌+◌, ℤ, List, [], ◌∷◌, ◌++◌, Bool, true, false, not, ◌&&◌, ◌==◌, nat_lt, Option, Some, None, option_map, option_and_then, map, count_by, if◌then◌else◌, codes, bytes_eq}
use Rattle.std.specs.Bool.{then_some}
use Rattle.std.specs.List.{list_all}
use Rattle.sl_num.specs.declared.arithmetic.Op.TheVariants.{Add, Sub, Mul, Div, Rem}
use Rattle.sl_num.specs.declared.comparing.Comparison.TheVariants.{Less, LessEqual, Greater, GreaterEqual, Equal, NotEqual}
use Rattle.sl_text.specs.declared.token.Kind as token_kind
use Rattle.sl_text.specs.declared.token.Kind.TheVariants as token
use Rattle.sl_tree.specs.declared.tree.TypeTerm.{TypeTerm, out-TypeTerm}
use Rattle.sl_tree.specs.declared.tree.Else.TheFolds.{fold-Else, fold-ExprKind, fold-StmtKind, fold-Expr, fold-Stmt}
use Rattle.sl_tree.specs.declared.tree.Else.TheOpen as tree
use Rattle.sl_tree.specs.declared.tree.Expr.{Expr}
use Rattle.sl_tree.specs.declared.tree.ExprKind.{ExprKind}
use Rattle.sl_tree.specs.declared.tree.StmtKind.{StmtKind}
use Rattle.sl_tree.specs.declared.tree.Else.{Else}
use Rattle.sl_tree.specs.declared.tree.Stmt as source
use Rattle.sl_tree.specs.declared.tree.Keyword.{Keyword}
use Rattle.sl_tree.specs.declared.tree.Keyword.TheVariants as keyword
use Rattle.sl_tree.specs.declared.tree.Param.{Param}
use Rattle.sl_tree.specs.declared.tree.Body.{Body}
use Rattle.sl_tree.specs.declared.tree.Body.TheVariants as body
use Rattle.sl_tree.specs.declared.tree.Note.{Note}
use Rattle.sl_tree.specs.declared.tree.Decl.{Decl, out-Decl}
use Rattle.sl_tree.specs.declared.tree.DeclKind.{DeclKind, out-DeclKind}
use Rattle.sl_tree.specs.declared.tree.DeclKind.TheOpen as decl
use Rattle.sl_tree.specs.declared.tree.File.{File}
use Rattle.sl_plain.specs.declared.program.Kind.{Kind}
use Rattle.sl_plain.specs.declared.program.Kind.TheVariants as kind
use Rattle.sl_plain.specs.declared.program.Atom.{Atom}
use Rattle.sl_plain.specs.declared.program.Atom.TheVariants as atom
use Rattle.sl_plain.specs.declared.program.Right.{Right}
use Rattle.sl_plain.specs.declared.program.Right.TheVariants.{Just, Compare, Apply, Get}
use Rattle.sl_plain.specs.declared.program.Condition.{Condition}
use Rattle.sl_plain.specs.declared.program.Condition.TheVariants as condition
use Rattle.sl_plain.specs.declared.program.Stmt.{Stmt}
use Rattle.sl_plain.specs.declared.program.Stmt.TheVariants as stmt
use Rattle.sl_plain.specs.declared.program.Plain.{Plain}
use Rattle.sl_plain.specs.declared.reading.expressions.Form.{Form}
use Rattle.sl_plain.specs.declared.reading.expressions.Form.TheVariants.{Name, Number, Text, Computed, Member, Called, CalledText, NotPlain}
use Rattle.sl_plain.specs.declared.reading.expressions.Sign.{Sign}
use Rattle.sl_plain.specs.declared.reading.expressions.Sign.TheVariants.{Compares, Applies}
use Rattle.sl_plain.specs.declared.reading.statements.Read.{Read}
use Rattle.sl_plain.specs.declared.reading.statements.Read.TheVariants as read
use Rattle.sl_plain.specs.Names.{is_name, is_app_name, number_of, quoted_in}
use Rattle.sl_plain.specs.Checking.{passes}

-- Expressions ---------------------------------------------------------------------------------------------------------

-- The line of a place: 1, and one more for each line feed before the place
abbrev pub line_at : (feeds : List ℕ) → ℕ → ℕ
line_at feeds place = 1 + count_by (λ feed. nat_lt feed place) feeds

abbrev pub number_form : Option ℤ → Form
number_form (Some number) = Number number
number_form None = NotPlain

abbrev pub text_form : Option (List ℕ) → Form
text_form (Some text) = Text text
text_form None = NotPlain

-- a literal, with a `-` before it or not
abbrev pub literal_of : token_kind.Kind → Bool → List ℕ → Form
literal_of token.Number false text = number_form (number_of text)
literal_of token.Number true text = number_form (number_of (codes "-" ++ text))
literal_of token.Quoted false text = text_form (quoted_in text)
literal_of other negative text = NotPlain

-- the atom that a name is
abbrev pub atom_named : List ℕ → Option Atom
atom_named name =
    if bytes_eq name (codes "T") then Some (atom.Truth true)
    else if bytes_eq name (codes "F") then Some (atom.Truth false)
    else if is_name name then Some (atom.Name name)
    else None

abbrev pub atom_of : Form → Option Atom
atom_of (Name name) = atom_named name
atom_of (Number number) = Some (atom.Number number)
atom_of other = None

-- the name that an expression is
abbrev pub name_in : Form → Option (List ℕ)
name_in (Name name) = Some name
name_in other = None

abbrev pub right_of : Form → Option Right
right_of (Computed right) = Some right
right_of (Name name) = option_map Just (atom_named name)
right_of (Number number) = Some (Just (atom.Number number))
right_of other = None

-- a right side that is a condition
abbrev pub condition_in : Right → Option Condition
condition_in (Just atom) = Some (condition.Just atom)
condition_in (Compare by a b) = Some (condition.Compare by a b)
condition_in (Apply op a b line) = None
condition_in Get = None

abbrev pub condition_of : Form → Option Condition
condition_of form = option_and_then condition_in (right_of form)

-- the sign of this byte alone
abbrev pub short_sign : ℕ → Option Sign
short_sign byte =
    if byte == 60 then Some (Compares Less)
    else if byte == 62 then Some (Compares Greater)
    else if byte == 43 then Some (Applies Add)
    else if byte == 45 then Some (Applies Sub)
    else if byte == 42 then Some (Applies Mul)
    else if byte == 47 then Some (Applies Div)
    else if byte == 37 then Some (Applies Rem)
    else None

-- the sign of this byte with a `=` behind it
abbrev pub long_sign : ℕ → Option Sign
long_sign byte =
    if byte == 61 then Some (Compares Equal)
    else if byte == 33 then Some (Compares NotEqual)
    else if byte == 60 then Some (Compares LessEqual)
    else if byte == 62 then Some (Compares GreaterEqual)
    else None

-- what stands between two atoms
abbrev pub sign_of : List ℕ → Option Sign
sign_of (byte ∷ []) = short_sign byte
sign_of (byte ∷ next ∷ []) = if next == 61 then long_sign byte else None
sign_of _ = None

-- two atoms with this sign between them, on this line
abbrev pub signed : Sign → Atom → Atom → (line : ℕ) → Right
signed (Compares by) a b line = Compare by a b
signed (Applies op) a b line = Apply op a b line

abbrev pub joined : Option Sign → Option Atom → Option Atom → (line : ℕ) → Form
joined (Some sign) (Some a) (Some b) line = Computed (signed sign a b line)
joined sign a b line = NotPlain

-- a member of what a name is
abbrev pub member_of : Form → List ℕ → Form
member_of (Name name) member = Member name member
member_of other member = NotPlain

-- a name is called with one argument, or a member with none, of which there is only `Port.get()`
abbrev pub called_right : List ℕ → Option Right → Form
called_right name (Some right) = Called name right
called_right name None = NotPlain

abbrev pub called_with : List ℕ → Form → Form
called_with name (Text text) = CalledText name text
called_with name argument = called_right name (right_of argument)

abbrev pub called_bare : Form → Form
called_bare (Member name member) = if bytes_eq name (codes "Port") && bytes_eq member (codes "get") then Computed Get else NotPlain
called_bare other = NotPlain

abbrev pub called_on : Option (List ℕ) → Form → Form
called_on (Some name) argument = called_with name argument
called_on None argument = NotPlain

abbrev pub called : Form → List Form → Form
called operand [] = called_bare operand
called operand (argument ∷ []) = called_on (name_in operand) argument
called operand (first ∷ second ∷ others) = NotPlain

-- The steps of expressions and statements, in which each part is given by what it is. `line` is that on which the whole begins.

abbrev pub expr_kind_step : tree.ExprKind-F (Option (List Stmt)) (ℕ → Form) (ℕ → Read) (Unit {0}) Form (Unit {0}) Read → (line : ℕ) → Form
expr_kind_step (tree.Literal negative literal) line = literal_of literal.kind negative literal.text
expr_kind_step (tree.Name text) line = Name text
expr_kind_step (tree.Infix left text right) line = joined (sign_of text) (atom_of left) (atom_of right) line
expr_kind_step (tree.Select operand text) line = member_of operand text
expr_kind_step (tree.Apply operand arguments) line = called operand arguments
expr_kind_step other line = NotPlain

abbrev pub expr_step : List ℕ → tree.Expr-F (Option (List Stmt)) (ℕ → Form) (ℕ → Read) (Unit {0}) Form (Unit {0}) Read → Form
expr_step feeds x = x.kind (line_at feeds x.span.from)

-- Statements ----------------------------------------------------------------------------------------------------------

-- whether a path is this name, and whether there is nothing
abbrev pub is_named : List ℕ → List (List ℕ) → Bool
is_named name (other ∷ []) = bytes_eq other name
is_named name others = false

abbrev pub is_none : {A : Type 0} → List A → Bool
is_none [] = true
is_none (x ∷ xs) = false

-- whether a type is this name alone
abbrev pub is_type : List ℕ → TypeTerm → Bool
is_type name term = is_named name (out-TypeTerm term).path && is_none (out-TypeTerm term).args

-- whether this is one type, which is this name alone
abbrev pub are_one_type : List ℕ → List TypeTerm → Bool
are_one_type name (term ∷ []) = is_type name term
are_one_type name others = false

-- `Z` or `B`
abbrev pub kind_of : TypeTerm → Option Kind
kind_of term = if is_type (codes "Z") term then Some kind.Number else if is_type (codes "B") term then Some kind.Truth else None

-- statements of a block, where each is one
abbrev pub block_of : List Read → Option (List Stmt)
block_of [] = Some []
block_of (read.Passes ∷ reads) = block_of reads
block_of (read.Does s ∷ reads) = option_map (λ stmts. s ∷ stmts) (block_of reads)
block_of (other ∷ reads) = None

-- what is read, where it is a statement
abbrev pub does : Option Stmt → Read
does (Some s) = read.Does s
does None = read.NotPlain

abbrev pub named : List ℕ → Option Stmt → Option Stmt
named name s = if is_name name then s else None

abbrev pub declared : Bool → List ℕ → Option TypeTerm → Form → Option Stmt
declared assigned name ascribed value =
    named name (option_and_then (λ term. option_and_then (λ type. option_map (stmt.Declare assigned name type) (right_of value)) (kind_of term)) ascribed)

abbrev pub assigned : Option (List ℕ) → Form → Option Stmt
assigned (Some name) value = named name (option_map (stmt.Assign name) (right_of value))
assigned None value = None

-- a call that is a statement
abbrev pub printed : Right → Option Stmt
printed (Just atom) = Some (stmt.Print atom)
printed other = None

abbrev pub called_stmt : Form → (line : ℕ) → Option Stmt
called_stmt (CalledText name text) line =
    if bytes_eq name (codes "println") then Some (stmt.PrintText text)
    else if bytes_eq name (codes "halt") then Some (stmt.Halt text line)
    else None
called_stmt (Called name right) line =
    if bytes_eq name (codes "println") then printed right
    else if bytes_eq name (codes "assert") then option_map (λ test. stmt.Assert test line) (condition_in right)
    else None
called_stmt other line = None

abbrev pub chosen : Option Condition → Option (List Stmt) → Option (List Stmt) → Option Stmt
chosen (Some test) (Some stmts) (Some others) = Some (stmt.If test stmts others)
chosen test stmts others = None

abbrev pub repeated : Option Condition → Option (List Stmt) → Option Stmt
repeated (Some test) (Some stmts) = Some (stmt.While test stmts)
repeated test stmts = None

-- a `for` with `to` isn't plain
abbrev pub until : (to : Bool) → Option Stmt → Option Stmt
until to s = if to then None else s

abbrev pub counting : List ℕ → Option Atom → Option Atom → Option (List Stmt) → (line : ℕ) → Option Stmt
counting name (Some first) (Some end) (Some stmts) line = Some (stmt.For name first end stmts line)
counting name first end stmts line = None

abbrev pub returned : Option Atom → Read
returned (Some atom) = read.Returns atom
returned None = read.NotPlain

abbrev pub stmt_kind_step : tree.StmtKind-F (Option (List Stmt)) (ℕ → Form) (ℕ → Read) (Unit {0}) Form (Unit {0}) Read → (line : ℕ) → Read
stmt_kind_step (tree.Let var text ascribed value) line = does (declared var text ascribed value)
stmt_kind_step (tree.Assign place value) line = does (assigned (name_in place) value)
stmt_kind_step (tree.Call value) line = does (called_stmt value line)
stmt_kind_step (tree.StmtKind::If test stmts other) line = does (chosen (condition_of test) (block_of stmts) other)
stmt_kind_step (tree.While test stmts) line = does (repeated (condition_of test) (block_of stmts))
stmt_kind_step (tree.For text from last to stmts) line =
    does (until last (named text (counting text (atom_of from) (atom_of to) (block_of stmts) line)))
stmt_kind_step (tree.StmtKind::Match operand cases) line = read.NotPlain
stmt_kind_step (tree.Return None) line = read.NotPlain
stmt_kind_step (tree.Return (Some value)) line = returned (atom_of value)
stmt_kind_step (tree.Skip tokens) line = read.Passes

abbrev pub stmt_step : List ℕ → tree.Stmt-F (Option (List Stmt)) (ℕ → Form) (ℕ → Read) (Unit {0}) Form (Unit {0}) Read → Read
stmt_step feeds x = x.kind (line_at feeds x.span.from)

-- an `else` with one more `if` isn't plain
abbrev pub else_step : tree.Else-F (Option (List Stmt)) (ℕ → Form) (ℕ → Read) (Unit {0}) Form (Unit {0}) Read → Option (List Stmt)
else_step tree.Nothing = Some []
else_step (tree.Block stmts) = block_of stmts
else_step (tree.Else::If s) = None

-- what expressions and statements are, in a file with these line feeds
unfoldable pub form_of : (feeds : List ℕ) → Expr → Form
form_of feeds x = fold-Expr (Option (List Stmt)) (ℕ → Form) (ℕ → Read) (Unit {0}) Form (Unit {0}) Read else_step expr_kind_step stmt_kind_step (λ case. tt) (expr_step feeds) (λ field. tt) (stmt_step feeds) x

unfoldable pub form_of_kind : (feeds : List ℕ) → ExprKind → (line : ℕ) → Form
form_of_kind feeds x = fold-ExprKind (Option (List Stmt)) (ℕ → Form) (ℕ → Read) (Unit {0}) Form (Unit {0}) Read else_step expr_kind_step stmt_kind_step (λ case. tt) (expr_step feeds) (λ field. tt) (stmt_step feeds) x

unfoldable pub read_of : (feeds : List ℕ) → source.Stmt → Read
read_of feeds x = fold-Stmt (Option (List Stmt)) (ℕ → Form) (ℕ → Read) (Unit {0}) Form (Unit {0}) Read else_step expr_kind_step stmt_kind_step (λ case. tt) (expr_step feeds) (λ field. tt) (stmt_step feeds) x

unfoldable pub read_of_kind : (feeds : List ℕ) → StmtKind → (line : ℕ) → Read
read_of_kind feeds x = fold-StmtKind (Option (List Stmt)) (ℕ → Form) (ℕ → Read) (Unit {0}) Form (Unit {0}) Read else_step expr_kind_step stmt_kind_step (λ case. tt) (expr_step feeds) (λ field. tt) (stmt_step feeds) x

unfoldable pub else_of : (feeds : List ℕ) → Else → Option (List Stmt)
else_of feeds x = fold-Else (Option (List Stmt)) (ℕ → Form) (ℕ → Read) (Unit {0}) Form (Unit {0}) Read else_step expr_kind_step stmt_kind_step (λ case. tt) (expr_step feeds) (λ field. tt) (stmt_step feeds) x

-- a `return`, by what stands behind it
abbrev pub returned_in : (feeds : List ℕ) → Option Expr → Read
returned_in feeds None = read.NotPlain
returned_in feeds (Some value) = returned (atom_of (form_of feeds value))

-- Files ---------------------------------------------------------------------------------------------------------------

abbrev pub is_passed : Read → Bool
is_passed read.Passes = true
is_passed other = false

-- the statements of a body and what it returns, behind which nothing is done
abbrev pub body_of : List Read → Option (List Stmt × Atom)
body_of [] = None
body_of (read.Passes ∷ reads) = body_of reads
body_of (read.Does s ∷ reads) = option_map (λ rest. (s ∷ rest.0, rest.1)) (body_of reads)
body_of (read.Returns atom ∷ reads) = if list_all is_passed reads then Some ([], atom) else None
body_of (read.NotPlain ∷ reads) = None

-- How a body is read, statement by statement: the body behind these statements, or behind its return.
abbrev pub body_behind : List Stmt → Option Atom → List Read → Option (List Stmt × Atom)
body_behind stmts None reads = option_map {U = List Stmt × Atom} (λ rest. (stmts ++ rest.0, rest.1)) (body_of reads)
body_behind stmts (Some atom) reads = if list_all is_passed reads then Some (stmts, atom) else None

abbrev pub body_if : Bool → List Stmt → Option Atom → List Read → Option (List Stmt × Atom)
body_if true stmts returned reads = body_behind stmts returned reads
body_if false stmts returned reads = None

-- whether a type is `ISZ[String]`
abbrev pub is_texts : TypeTerm → Bool
is_texts term = is_named (codes "ISZ") (out-TypeTerm term).path && are_one_type (codes "String") (out-TypeTerm term).args

-- the parameter is `args: ISZ[String]`
abbrev pub is_plain_keyword : Keyword → Bool
is_plain_keyword keyword.Nothing = true
is_plain_keyword other = false

abbrev pub is_args : Param → Bool
is_args param = is_plain_keyword param.keyword && bytes_eq param.name (codes "args") && is_texts param.kind

abbrev pub are_args : Option (List Param) → Bool
are_args (Some (param ∷ [])) = is_args param
are_args other = false

-- the reads of a block
abbrev pub reads_of : (feeds : List ℕ) → Option Body → Option (List Read)
reads_of feeds (Some (body.Block stmts)) = Some (map (read_of feeds) stmts)
reads_of feeds (Some (body.Value value)) = None
reads_of feeds None = None

-- the body of `def main(args: ISZ[String]): Z = { .. }`
abbrev pub is_main : Bool → List ℕ → List (List ℕ) → Option (List Param) → TypeTerm → Bool
is_main overrides name types params result = not overrides && bytes_eq name (codes "main") && is_none types && are_args params && is_type (codes "Z") result

abbrev pub main_of : (feeds : List ℕ) → decl.DeclKind-F DeclKind Decl → Option (List Stmt × Atom)
main_of feeds (decl.Method overrides name types params result given) =
    if is_main overrides name types params result then option_and_then body_of (reads_of feeds given) else None
main_of feeds other = None

-- without notes
abbrev pub unnoted : {A : Type 0} → List Note → Option A → Option A
unnoted notes found = if is_none notes then found else None

-- the one member of an App
abbrev pub member_main : (feeds : List ℕ) → Option (List Decl) → Option (List Stmt × Atom)
member_main feeds (Some (member ∷ [])) = unnoted (out-Decl member).notes (main_of feeds (out-DeclKind (out-Decl member).kind))
member_main feeds other = None

-- `object NAME extends App { .. }`
abbrev pub app_with : (feeds : List ℕ) → List ℕ → List TypeTerm → Option (List Decl) → Option Plain
app_with feeds name parents members =
    if is_app_name name && are_one_type (codes "App") parents
    then option_map (λ found. record { name = name; body = found.0; value = found.1 }) (member_main feeds members)
    else None

abbrev pub app_of : (feeds : List ℕ) → decl.DeclKind-F DeclKind Decl → Option Plain
app_of feeds (decl.Object name parents members) = app_with feeds name parents members
app_of feeds other = None

-- the one declaration of a file
abbrev pub decl_app : (feeds : List ℕ) → List Decl → Option Plain
decl_app feeds (declared ∷ []) = unnoted (out-Decl declared).notes (app_of feeds (out-DeclKind (out-Decl declared).kind))
decl_app feeds other = None

-- the program of a tree, before depths, names and types are looked at
unfoldable pub unchecked_of : File → Option Plain
unchecked_of file = if is_none file.«package» && is_none file.imports then decl_app file.feeds file.decls else None

-- the program of a tree, where it is plain
unfoldable pub plain_of : File → Option Plain
plain_of file = option_and_then (λ program. then_some (passes program) program) (unchecked_of file)
