-- How depths, names and types of a program are checked.
use Rattle.std.specs.Prelude.{◌≡◌, ℕ, List, [], ◌∷◌, reverse, Bool, true, not, ◌&&◌, nat_le, Option, option_map, map}
use Rattle.std.specs.BTreeMap.{get_by}
use Rattle.std.specs.Ordering.{nat_cmp}
use Rattle.std.specs.Cmp.Lexicographic.{slice_cmp}
use Rattle.sl_plain.specs.declared.program.Plain.{Plain}
use Rattle.sl_plain.specs.declared.checking.scopes.Entry.{Entry}
use Rattle.sl_plain.specs.declared.checking.scopes.Scope.{Scope}
use Rattle.sl_plain.specs.declared.checking.scopes.Variable.{Variable}
use Rattle.sl_plain.specs.Names.{is_among}
use Rattle.sl_plain.specs.Program.{Declared, name_of, declaration, declared, deepest, depth, program_fits}

-- whether no two of these are the same
abbrev pub are_distinct : List (List ℕ) → Bool
are_distinct [] = true
are_distinct (name ∷ names) = not (is_among names name) && are_distinct names

-- a declaration, as it is kept while names and types are checked
abbrev pub entry_of : Entry → Declared
entry_of entry = record { name = entry.name.now; is_var = entry.variable.is_var; type = entry.variable.kind }

-- those of a scope, the last one first
abbrev pub entries_of : Scope → List Declared
entries_of scope = map entry_of (reverse scope.entries.items)

-- what a name is declared as
abbrev pub variable_of : Option Declared → Option Variable
variable_of found = option_map (λ entry. record { is_var = entry.is_var; kind = entry.type }) found

-- each entry has the declaration that it hides
abbrev pub Hide : List Entry → Type 0
Hide [] = Unit {0}
Hide (entry ∷ entries) = (entry.hidden ≡ variable_of (declaration (map entry_of entries) entry.name.now)) × Hide entries

-- each name is found in the map as what it is declared as
pub record IsIndexed (scope : Scope) : Type 0 where
  pub known : (name : List ℕ) → get_by (λ key. slice_cmp nat_cmp name key.now) scope.known ≡ variable_of (declaration (entries_of scope) name)
  pub hidden : Hide (reverse scope.entries.items)

-- the names that a program declares
abbrev pub declared_names : Plain → List (List ℕ)
declared_names program = map name_of (declared program)

-- whether statements stand at most 16 deep in one another
abbrev pub is_shallow : Plain → Bool
is_shallow program = nat_le (deepest (map depth program.body)) 16

-- whether depths, names and types fit
abbrev pub passes : Plain → Bool
passes program = is_shallow program && are_distinct (declared_names program) && program_fits program
