-- The C names of what a core numbers: its functions, their variables, and the variables that the translation adds.
use Rattle.std.specs.Prelude.{ℕ, List, ◌++◌, Option, None, Some, if◌then◌else◌, ◌==◌, codes}
use Rattle.std.specs.Fmt.{decimal}
use Rattle.sl_core.specs.declared.tree.Core.{Core}
use Rattle.sl_core.specs.declared.tree.CoreFun.{CoreFun}
use Rattle.sl_core.specs.declared.tree.CorePath.{CorePath}
use Rattle.sl_core.specs.Meaning.{root_of}
use Rattle.c_tree.specs.declared.tree.CPlace.{CPlace}
use Rattle.c_tree.specs.declared.tree.CPlace.TheVariants.{Name}
use Rattle.c_tree.specs.Mangled.{mangled}

-- a variable of a core function: `v0`, `v1` ..
abbrev pub variable_name : ℕ → List ℕ
variable_name number = codes "v" ++ decimal number

-- a variable that holds the result of an operation while a statement is done: `t0`, `t1` ..
abbrev pub temporary_name : ℕ → List ℕ
temporary_name number = codes "t" ++ decimal number

-- the place of a core's place
abbrev pub place_of : CorePath → CPlace
place_of path = Name (variable_name (root_of path.root))

-- a function, given its number: the one in which a run begins is `sl_main`
abbrev pub function_name : Core → ℕ → CoreFun → List ℕ
function_name core number function = if number == core.entry then codes "sl_main" else mangled function.name

-- the name by which the function with this number is called. A sound core calls none that isn't there
abbrev pub called_name : Core → ℕ → Option CoreFun → List ℕ
called_name core number None = codes "sl_main"
called_name core number (Some function) = function_name core number function
