-- How the variables of a core are found by the names of a plain program.
use Rattle.std.specs.Prelude.{◌≡◌, ℕ, suc, List, [], ◌∷◌, ◌++◌, Option, None, Some, length, map, if◌then◌else◌}
use Rattle.std.specs.Str.{bytes_eq}
use Rattle.std.specs.Ordering.{nat_cmp}
use Rattle.std.specs.Cmp.Lexicographic.{slice_cmp}
use Rattle.std.specs.BTreeMap.{get_by}
use Rattle.sl_plain.specs.declared.program.Stmt.{Stmt}
use Rattle.sl_plain.specs.declared.lowering.numbers.Variable.{Variable}
use Rattle.sl_plain.specs.declared.lowering.numbers.Variables.{Variables}
use Rattle.sl_plain.specs.Program.{Declared}
use Rattle.sl_plain.specs.Lowered.{Lowered, lowered, in_order}

-- the variable with this name
abbrev pub variable_named : Variables → List ℕ → Option Variable
variable_named variables name = get_by (λ key. slice_cmp nat_cmp name key.items) variables.items

-- the first of these declarations that has the name, as a variable, where they are numbered from here on
abbrev pub numbered_from : ℕ → List Declared → List ℕ → Option Variable
numbered_from number [] name = None
numbered_from number (entry ∷ entries) name = if bytes_eq entry.name name then Some (record { number = number; kind = entry.type }) else numbered_from (suc number) entries name

-- the variables are those of these declarations
pub record AreNumbered (names : List Declared) (variables : Variables) : Type 0 where
  pub count : variables.count ≡ length names
  pub named : (name : List ℕ) → variable_named variables name ≡ numbered_from 0 names name

-- these are declared behind those that were
abbrev pub Declares : List Declared → Variables → Variables → Type 0
Declares entries old new = (before : List Declared) → AreNumbered before old → AreNumbered (before ++ entries) new

-- a part of a core is what it is with the names that the variables are of
abbrev pub IsBy : {A : Type 0} → Variables → (List Declared → A) → A → Type 0
IsBy variables part low = (names : List Declared) → AreNumbered names variables → low ≡ part names

-- statements as one
abbrev pub lowered_all : List Declared → List Stmt → Lowered
lowered_all names stmts = in_order (map (lowered names) stmts)
