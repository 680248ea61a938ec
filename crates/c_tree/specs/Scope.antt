-- Which variables a function can name: its parameters and its variables, and else the globals.
use Rattle.std.specs.Prelude.{ℕ, List, ◌++◌, Option, Some, None, slice_get}
use Rattle.std.specs.List.{position}
use Rattle.std.specs.Option.{option_and_then}
use Rattle.std.specs.Str.{bytes_eq}
use Rattle.c_tree.specs.declared.tree.CFile.{CFile}
use Rattle.c_tree.specs.declared.tree.CFun.{CFun}
use Rattle.c_tree.specs.declared.tree.CVar.{CVar}

-- the variables of a function, its parameters first, and the globals
pub record Scope : Type 0 where
  pub locals : List CVar
  pub globals : List CVar

abbrev pub scope_of : CFile → CFun → Scope
scope_of file function = record { locals = function.params ++ function.vars; globals = file.globals }

-- the number of the first variable with this name
abbrev pub number_named : List CVar → List ℕ → Option ℕ
number_named vars name = position (λ var. bytes_eq var.name name) vars

-- the first variable with this name
abbrev pub var_named : List CVar → List ℕ → Option CVar
var_named vars name = option_and_then (λ number. slice_get vars number) (number_named vars name)

-- the variable that a name means: a local one hides a global one (ISO C11, 6.2.1)
abbrev pub or_else : {A : Type 0} → Option A → Option A → Option A
or_else None other = other
or_else (Some x) other = Some x

abbrev pub variable : Scope → List ℕ → Option CVar
variable scope name = or_else (var_named scope.locals name) (var_named scope.globals name)
