-- What names mean where a function of C is resolved.
use Rattle.std.specs.Prelude.{◌≡◌, ℕ, List, Option, None, Some, true, option_map, slice_get}
use Rattle.std.specs.Option.{option_and_then}
use Rattle.c_tree.specs.declared.tree.CPlace.{CPlace}
use Rattle.c_tree.specs.declared.tree.CPlace.TheVariants.{Name}
use Rattle.c_tree.specs.declared.tree.CVar.{CVar}
use Rattle.c_tree.specs.Scope.{Scope, number_named}
use Rattle.c_tree.specs.Meaning.{kind_is_signed}
use Rattle.c_machine.specs.declared.program.Slot.TheVariants.{Local, Global, Undeclared}
use Rattle.c_machine.specs.declared.program.Function.{Function}
use Rattle.c_rules.specs.declared.naming.Names.{Names}
use Rattle.c_rules.specs.Naming.{item_named}
use Rattle.c_machine.specs.declared.scopes.Variable.{Variable}
use Rattle.c_machine.specs.declared.scopes.Place.{Place}
use Rattle.c_machine.specs.declared.scopes.Around.{Around}
use Rattle.c_machine.specs.declared.scopes.Callee.{Callee}
use Rattle.c_machine.specs.declared.scopes.Callee.TheVariants.{Numbered, Inline, Unknown}

-- the name of a place
abbrev pub name_of : CPlace → List ℕ
name_of (Name name) = name

-- the first variable of a list with this name
abbrev pub first_named : List CVar → List ℕ → Option Variable
first_named vars name = option_and_then (λ number. option_map (λ var. record { number = number; signed = kind_is_signed var.kind }) (slice_get vars number)) (number_named vars name)

-- these are the variables of a list
abbrev pub AreVars : List CVar → Names Variable → Type 0
AreVars vars names = (name : List ℕ) → item_named names name ≡ first_named vars name

-- a variable is a local one, or else a global one. What isn't declared counts as with a sign
abbrev pub place_in : Option Variable → Option Variable → Place
place_in (Some local) global = record { slot = Local local.number; signed = local.signed }
place_in None (Some global) = record { slot = Global global.number; signed = global.signed }
place_in None None = record { slot = Undeclared; signed = true }

-- the variable that a name means
abbrev pub place_named : Around → List ℕ → Place
place_named around name = place_in (item_named around.locals name) (item_named around.globals.now name)

-- what these names mean in this scope
abbrev pub ArePlaces : Scope → (List ℕ → Place) → Type 0
ArePlaces scope places = (name : List ℕ) → places name ≡ place_in (first_named scope.locals name) (first_named scope.globals name)

-- a function that isn't inline goes before an inline one
abbrev pub callee_in : Option ℕ → Option Function → Callee
callee_in (Some number) inline = Numbered number
callee_in None (Some function) = Inline function
callee_in None None = Unknown

-- the function that a call of a name leads to
abbrev pub callee_named : Around → List ℕ → Callee
callee_named around name = callee_in (item_named around.numbers.now name) (item_named around.inlines.now name)
