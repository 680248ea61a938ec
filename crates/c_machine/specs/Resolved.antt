-- What resolving gives: a program with the same runs as the C file, whatever rules that breaks.
use Rattle.std.specs.Prelude.{◌≡◌, ℕ, List, ◌++◌, Bool, true, false, not, ◌&&◌, Option, None, length, reverse}
use Rattle.std.specs.List.{position}
use Rattle.std.specs.Str.{bytes_eq}
use Rattle.c_tree.specs.declared.tree.CFile.{CFile}
use Rattle.c_tree.specs.declared.tree.CFun.{CFun}
use Rattle.c_tree.specs.declared.tree.CType.{CType}
use Rattle.c_tree.specs.declared.tree.CType.TheVariants.{Int, Void}
use Rattle.c_tree.specs.Meaning.{inline_callees, c_run}
use Rattle.c_rules.specs.declared.naming.Names.{Names}
use Rattle.c_machine.specs.declared.program.Function.{Function}
use Rattle.c_machine.specs.declared.program.Program.{Program}
use Rattle.c_machine.specs.declared.scopes.Place.{Place}
use Rattle.c_machine.specs.declared.scopes.Callee.{Callee}
use Rattle.c_machine.specs.declared.scopes.Variable.{Variable}
use Rattle.c_machine.specs.Meaning.{Calls, program_run}
use Rattle.c_machine.specs.Naming.{AreVars, ArePlaces, callee_in}
use Rattle.c_rules.specs.Naming.{item_named}
use Rattle.c_machine.specs.Related.{Pairwise, AreCallees, DoAs}

-- whether a function has a result
abbrev pub has_result : CType → Bool
has_result (Int signed width) = true
has_result Void = false

-- a function is one of C, where globals have these names and calls lead to these functions
pub record FunctionIs (globals : Names Variable) (callees : List ℕ → Callee) (function : CFun) (resolved : Function) : Type 0 where
  pub vars : resolved.vars ≡ length function.vars
  pub gives : resolved.gives ≡ has_result function.result
  pub places : List ℕ → Place
  pub mean : (file : CFile) → AreVars file.globals globals → ArePlaces (record { locals = function.params ++ function.vars; globals = file.globals }) places
  pub body : DoAs places callees function.body resolved.body

-- the functions that calls of names lead to, where these are the numbers of functions that aren't inline, and these the inline ones
abbrev pub callees_of : Names ℕ → Names Function → List ℕ → Callee
callees_of numbers inlines name = callee_in (item_named numbers name) (item_named inlines name)

-- calls that lead to inline functions alone
abbrev pub inline_named : Names Function → List ℕ → Callee
inline_named inlines name = callee_in None (item_named inlines name)

-- all functions of a list are
abbrev pub FunctionsAre : Names Variable → (List ℕ → Callee) → List CFun → List Function → Type 0
FunctionsAre globals callees functions resolved = Pairwise (FunctionIs globals callees) functions resolved

-- the first function with a name that isn't inline
abbrev pub plain_named : List CFun → List ℕ → Option ℕ
plain_named functions name = position (λ function. not function.inline && bytes_eq function.name name) functions

-- these are the numbers of the functions that aren't inline
abbrev pub AreNumbers : List CFun → Names ℕ → Type 0
AreNumbers functions numbers = (name : List ℕ) → item_named numbers name ≡ plain_named functions name

-- calls of inline functions do what those do of the functions in this list, the last one first
abbrev pub AreInlines : CFile → List CFun → Names Function → Type 0
AreInlines file functions inlines = (call : Calls) → AreCallees (inline_named inlines) call (inline_callees file functions)

-- calls of inline functions do what those do of the functions in this list, where globals have these names
abbrev pub InlinesOf : Names Variable → List CFun → Names Function → Type 0
InlinesOf globals functions inlines = (file : CFile) → AreVars file.globals globals → AreInlines file (reverse functions) inlines

-- a program has the runs of a C file with no limit of live bytes
abbrev pub MeansFile : CFile → Program → Type 0
MeansFile file program = (input : List ℕ) (turns : ℕ) → program_run program input turns ≡ c_run file None input turns
