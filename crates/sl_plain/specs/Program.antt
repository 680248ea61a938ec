-- Plain programs: which there are.
--
-- A plain program has one App, whose `main` declares variables of the types `Z` and `B`, assigns them, prints, tests, repeats, asserts and
-- halts, and returns a number. A right side is a name or a value, a comparison or an operation of two of them, or `Port.get()`. An `if`, a
-- `while` and a `for` stand at most 16 deep in one another, where a `while` with nothing in it doesn't count. A name is declared once in
-- the program, and used only behind its declaration in the same block or in blocks in that; the name of a `for` is declared at the
-- beginning of its block. Only a `var` is assigned. Types fit.
use Rattle.std.specs.Prelude.{◌≡◌, ◌≢◌, ℕ, suc, ◌≤◌, List, [], ◌∷◌, ◌++◌, Bool, true, false, ◌&&◌, Option, None, Some, is_some, max, map, All, if◌then◌else◌, bytes_eq}
use Rattle.std.specs.List.{flat_map, fold, IsDistinct}
use Rattle.std.specs.Option.{option_and_then}
use Rattle.sl_num.specs.declared.arithmetic.Op.TheVariants.{Neg}
use Rattle.sl_plain.specs.declared.program.Kind.{Kind}
use Rattle.sl_plain.specs.declared.program.Kind.TheVariants as kind
use Rattle.sl_plain.specs.declared.program.Atom.{Atom}
use Rattle.sl_plain.specs.declared.program.Atom.TheVariants.{Name, Number, Truth}
use Rattle.sl_plain.specs.declared.program.Right.{Right}
use Rattle.sl_plain.specs.declared.program.Right.TheVariants.{Just, Compare, Apply, Get}
use Rattle.sl_plain.specs.declared.program.Condition.{Condition}
use Rattle.sl_plain.specs.declared.program.Condition.TheVariants as condition
use Rattle.sl_plain.specs.declared.program.Stmt.{Stmt, Stmt-F, fold-Stmt}
use Rattle.sl_plain.specs.declared.program.Stmt.TheOpen as stmt
use Rattle.sl_plain.specs.declared.program.Plain.{Plain}
use Rattle.sl_plain.specs.Names.{is_text, is_number, is_app_name}

-- Parts ---------------------------------------------------------------------------------------------------------------

-- lists, one after another
abbrev pub joined : {A : Type 0} → List (List A) → List A
joined lists = flat_map (λ list. list) lists

-- what is written out in a statement
pub data Part : Type 0 where
  AnAtom : Atom → Part
  ARight : Right → Part
  ACondition : Condition → Part
  AText : List ℕ → Part

abbrev pub IsAtom : Atom → Type 0
IsAtom (Name name) = Unit {0}
IsAtom (Number number) = is_number number ≡ true
IsAtom (Truth truth) = Unit {0}

-- a right side: negation has no form of its own
abbrev pub IsRight : Right → Type 0
IsRight (Just atom) = IsAtom atom
IsRight (Compare by a b) = IsAtom a × IsAtom b
IsRight (Apply op a b line) = (op ≢ Neg) × IsAtom a × IsAtom b
IsRight Get = Unit {0}

abbrev pub IsCondition : Condition → Type 0
IsCondition (condition.Just atom) = IsAtom atom
IsCondition (condition.Compare by a b) = IsAtom a × IsAtom b

abbrev pub IsPart : Part → Type 0
IsPart (AnAtom atom) = IsAtom atom
IsPart (ARight right) = IsRight right
IsPart (ACondition test) = IsCondition test
IsPart (AText text) = is_text text ≡ true

abbrev pub parts_step : Stmt-F (List Part) → List Part
parts_step (stmt.Declare is_var name type first) = ARight first ∷ []
parts_step (stmt.Assign name value) = ARight value ∷ []
parts_step (stmt.Print atom) = AnAtom atom ∷ []
parts_step (stmt.PrintText text) = AText text ∷ []
parts_step (stmt.If test chosen other) = ACondition test ∷ joined chosen ++ joined other
parts_step (stmt.While test body) = ACondition test ∷ joined body
parts_step (stmt.For name first end body line) = AnAtom first ∷ AnAtom end ∷ joined body
parts_step (stmt.Assert test line) = ACondition test ∷ []
parts_step (stmt.Halt text line) = AText text ∷ []

-- the parts of a statement, and of the statements in it
unfoldable pub parts_in : Stmt → List Part
parts_in s = fold-Stmt (List Part) parts_step s

-- the parts of a program
abbrev pub parts : Plain → List Part
parts program = flat_map parts_in program.body ++ AnAtom program.value ∷ []

-- Depths --------------------------------------------------------------------------------------------------------------

-- how deep statements with blocks stand in one another
abbrev pub deepest : List ℕ → ℕ
deepest depths = fold max 0 depths

abbrev pub depth_step : Stmt-F ℕ → ℕ
depth_step (stmt.Declare is_var name type first) = 0
depth_step (stmt.Assign name value) = 0
depth_step (stmt.Print atom) = 0
depth_step (stmt.PrintText text) = 0
depth_step (stmt.If test chosen other) = suc (max (deepest chosen) (deepest other))
depth_step (stmt.While test []) = 0
depth_step (stmt.While test (depth ∷ depths)) = suc (deepest (depth ∷ depths))
depth_step (stmt.For name first end body line) = suc (deepest body)
depth_step (stmt.Assert test line) = 0
depth_step (stmt.Halt text line) = 0

unfoldable pub depth : Stmt → ℕ
depth s = fold-Stmt ℕ depth_step s

-- Names and types -----------------------------------------------------------------------------------------------------

-- a declared name: whether it is a `var`, and its type
pub record Declared : Type 0 where
  pub name : List ℕ
  pub is_var : Bool
  pub type : Kind

-- the name of a `for`: a number that isn't assigned
abbrev pub counted : List ℕ → Declared
counted name = record { name = name; is_var = false; type = kind.Number }

-- the declaration of a name among these
abbrev pub declaration : List Declared → List ℕ → Option Declared
declaration [] name = None
declaration (entry ∷ entries) name = if bytes_eq entry.name name then Some entry else declaration entries name

abbrev pub same_kind : Kind → Kind → Bool
same_kind kind.Number kind.Number = true
same_kind kind.Truth kind.Truth = true
same_kind kind.Number kind.Truth = false
same_kind kind.Truth kind.Number = false

-- the type of an atom, where its name is declared
abbrev pub kind_of_atom : List Declared → Atom → Option Kind
kind_of_atom scope (Name name) = option_and_then (λ entry. Some entry.type) (declaration scope name)
kind_of_atom scope (Number number) = Some kind.Number
kind_of_atom scope (Truth truth) = Some kind.Truth

-- whether an atom has this type
abbrev pub has_kind : Kind → Option Kind → Bool
has_kind type None = false
has_kind type (Some other) = same_kind type other

-- two numbers
abbrev pub are_numbers : List Declared → Atom → Atom → Bool
are_numbers scope a b = has_kind kind.Number (kind_of_atom scope a) && has_kind kind.Number (kind_of_atom scope b)

-- whether a right side has this type
abbrev pub right_fits : List Declared → Kind → Right → Bool
right_fits scope type (Just atom) = has_kind type (kind_of_atom scope atom)
right_fits scope type (Compare by a b) = same_kind type kind.Truth && are_numbers scope a b
right_fits scope type (Apply op a b line) = same_kind type kind.Number && are_numbers scope a b
right_fits scope type Get = same_kind type kind.Number

-- whether a condition is one
abbrev pub condition_fits : List Declared → Condition → Bool
condition_fits scope (condition.Just atom) = has_kind kind.Truth (kind_of_atom scope atom)
condition_fits scope (condition.Compare by a b) = are_numbers scope a b

-- whether this is a `var`, and a right side has its type
abbrev pub assigned_fits : List Declared → Option Declared → Right → Bool
assigned_fits scope None value = false
assigned_fits scope (Some entry) value = entry.is_var && right_fits scope entry.type value

-- the names that are declared behind something, where it fits those declared before
abbrev pub Scoped : Type 0
Scoped = List Declared → Option (List Declared)

-- the names where a test holds
abbrev pub where_so : Bool → List Declared → Option (List Declared)
where_so so scope = if so then Some scope else None

-- statements in order
abbrev pub scoped_in_order : List Scoped → Scoped
scoped_in_order [] scope = Some scope
scoped_in_order (s ∷ ss) scope = option_and_then (scoped_in_order ss) (s scope)

-- whether a block fits
abbrev pub block_fits : List Scoped → List Declared → Bool
block_fits block scope = is_some (scoped_in_order block scope)

abbrev pub scoped_step : Stmt-F Scoped → Scoped
scoped_step (stmt.Declare is_var name type first) scope = where_so (right_fits scope type first) (record { name = name; is_var = is_var; type = type } ∷ scope)
scoped_step (stmt.Assign name value) scope = where_so (assigned_fits scope (declaration scope name) value) scope
scoped_step (stmt.Print atom) scope = where_so (is_some (kind_of_atom scope atom)) scope
scoped_step (stmt.PrintText text) scope = Some scope
scoped_step (stmt.If test chosen other) scope = where_so (condition_fits scope test && block_fits chosen scope && block_fits other scope) scope
scoped_step (stmt.While test body) scope = where_so (condition_fits scope test && block_fits body scope) scope
scoped_step (stmt.For name first end body line) scope = where_so (are_numbers scope first end && block_fits body (counted name ∷ scope)) scope
scoped_step (stmt.Assert test line) scope = where_so (condition_fits scope test) scope
scoped_step (stmt.Halt text line) scope = Some scope

-- a statement: the names that are declared behind it. Those declared in its blocks end with them
unfoldable pub scoped : Stmt → Scoped
scoped s = fold-Stmt Scoped scoped_step s

-- the names that a statement declares, and those in it
abbrev pub declared_step : Stmt-F (List Declared) → List Declared
declared_step (stmt.Declare is_var name type first) = record { name = name; is_var = is_var; type = type } ∷ []
declared_step (stmt.Assign name value) = []
declared_step (stmt.Print atom) = []
declared_step (stmt.PrintText text) = []
declared_step (stmt.If test chosen other) = joined chosen ++ joined other
declared_step (stmt.While test body) = joined body
declared_step (stmt.For name first end body line) = counted name ∷ joined body
declared_step (stmt.Assert test line) = []
declared_step (stmt.Halt text line) = []

unfoldable pub declared_in : Stmt → List Declared
declared_in s = fold-Stmt (List Declared) declared_step s

-- all names that a program declares, in order
abbrev pub declared : Plain → List Declared
declared program = flat_map declared_in program.body

-- the returned atom is a number, behind the statements
abbrev pub program_fits : Plain → Bool
program_fits program =
    has_kind kind.Number (option_and_then (λ scope. kind_of_atom scope program.value) (scoped_in_order (map scoped program.body) []))

-- Programs ------------------------------------------------------------------------------------------------------------

-- the name of a declaration
abbrev pub name_of : Declared → List ℕ
name_of entry = entry.name

-- a plain program
pub record IsProgram (program : Plain) : Type 0 where
  pub name : is_app_name program.name ≡ true
  pub written : All IsPart (parts program)
  pub depth : All (λ s. depth s ≤ 16) program.body
  pub distinct : IsDistinct bytes_eq (map name_of (declared program))
  pub fits : program_fits program ≡ true
