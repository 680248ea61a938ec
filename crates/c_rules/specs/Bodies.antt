-- The least rule that an action in a function breaks.
use Rattle.std.specs.Prelude.{ℕ, ◌^◌, nat_lt, List, [], ◌∷◌, ◌++◌, Bool, true, false, not, ◌&&◌, ◌||◌, Option, Some, None, if◌then◌else◌}
use Rattle.std.specs.List.{list_any}
use Rattle.std.specs.Option.{is_some}
use Rattle.std.specs.Str.{bytes_eq}
use Rattle.c_tree.specs.declared.tree.CArg.{CArg}
use Rattle.c_tree.specs.declared.tree.CFile.{CFile}
use Rattle.c_tree.specs.declared.tree.CFun.{CFun}
use Rattle.c_tree.specs.declared.tree.CVar.{CVar}
use Rattle.c_tree.specs.declared.tree.CType.{CType}
use Rattle.c_tree.specs.declared.tree.CPlace.{CPlace}
use Rattle.c_tree.specs.declared.tree.CPlace.TheVariants.{Name}
use Rattle.c_tree.specs.declared.tree.CExpr.{CExpr}
use Rattle.c_tree.specs.declared.tree.CStmt.{CStmt}
use Rattle.c_tree.specs.Parts.{Action, Assigns, Calls, Tests, Returns, Puts, Gets, Loops, Counts, Halts, actions, argument_of}
use Rattle.c_tree.specs.Scope.{Scope, scope_of}
use Rattle.c_tree.specs.Rules.{word, type_of_place, typed}
use Rattle.c_rules.specs.Least.{told, least, least_in}
use Rattle.c_rules.specs.Types.{is_void, same_type, is_other, are_other, is_no_word, kind_in, reads_strange}

-- a function has this name
abbrev pub is_named : List ℕ → CFun → Bool
is_named name function = bytes_eq function.name name

-- arguments don't fit parameters
abbrev pub misfits : Scope → List CExpr → List CVar → Bool
misfits scope [] [] = false
misfits scope [] (param ∷ params) = true
misfits scope (argument ∷ arguments) [] = true
misfits scope (argument ∷ arguments) (param ∷ params) = is_other (typed scope argument).type param.kind || misfits scope arguments params

-- an argument doesn't fit its parameter
abbrev pub pair_misfits : Scope → CArg × CVar → Bool
pair_misfits scope pair = is_other (typed scope (argument_of pair.0)).type pair.1.kind

-- what a call gives doesn't fit its place
abbrev pub result_misfits : Scope → Option CPlace → CType → Bool
result_misfits scope None result = false
result_misfits scope (Some place) result = is_void result || is_other (type_of_place scope place) result

-- a name is declared where a function calls it that stands behind these
abbrev pub is_declared : CFile → List CFun → CFun → List ℕ → Bool
is_declared file earlier function name = list_any (is_named name) file.protos || is_named name function || list_any (is_named name) earlier

-- a variable of a list has this name
abbrev pub is_var : List CVar → List ℕ → Bool
is_var vars name = list_any (λ var. bytes_eq var.name name) vars

-- an inline function with this name is among these
abbrev pub is_inline_among : List CFun → List ℕ → Bool
is_inline_among earlier name = list_any (λ function. function.inline && is_named name function) earlier

-- an expression reads what isn't declared, or its operands don't fit
abbrev pub of_expr : Scope → CExpr → Option ℕ
of_expr scope e = least (told 11 (reads_strange scope e)) (told 14 (not (typed scope e).fits))

-- a place isn't declared
abbrev pub of_place : Scope → CPlace → Option ℕ
of_place scope place = told 11 (not (is_some (type_of_place scope place)))

abbrev pub of_target : Scope → Option CPlace → Option ℕ
of_target scope None = None
of_target scope (Some place) = of_place scope place

-- a called name isn't declared, or is hidden, or an inline function may not call it
abbrev pub of_name : CFile → List CFun → CFun → List ℕ → Option ℕ
of_name file earlier function name =
    least (told 11 (not (is_declared file earlier function name) || is_var function.params name || is_var function.vars name))
    (told 19 (function.inline && not (is_inline_among earlier name)))

-- a function is called so
abbrev pub of_callee : Scope → Option CPlace → List ℕ → List CExpr → CFun → Option ℕ
of_callee scope target name arguments callee =
    if is_named name callee
    then least (told 16 (misfits scope arguments callee.params)) (told 17 (result_misfits scope target callee.result))
    else None

-- an `int64_t`
abbrev pub is_counter : Option CType → Bool
is_counter None = false
is_counter (Some kind) = same_type kind word

-- a `for` counts too far, or its names aren't one, or aren't that of an `int64_t` of the function itself
abbrev pub miscounts : CFun → (set tested raised : List ℕ) → (count : ℕ) → Bool
miscounts function set tested raised count =
    nat_lt (2 ^ 24) count || (not (bytes_eq tested set) || (not (bytes_eq raised set) || not (is_counter (kind_in (function.params ++ function.vars) set))))

unfoldable pub rule_of : CFile → List CFun → CFun → Action → Option ℕ
rule_of file earlier function (Assigns place e) =
    let scope = scope_of file function
    in least (of_place scope place) (least (of_expr scope e) (told 15 (are_other (typed scope e).type (type_of_place scope place))))
rule_of file earlier function (Calls target name arguments) =
    let scope = scope_of file function
    in least (of_name file earlier function name) (least (of_target scope target) (least (least_in (of_expr scope) arguments) (least_in (of_callee scope target name arguments) file.functions)))
rule_of file earlier function (Tests test) =
    let scope = scope_of file function in least (of_expr scope test) (told 18 (is_no_word (typed scope test).type))
rule_of file earlier function (Returns None) = told 15 (not (is_void function.result))
rule_of file earlier function (Returns (Some e)) =
    let scope = scope_of file function in least (of_expr scope e) (told 15 (is_other (typed scope e).type function.result))
rule_of file earlier function (Puts e) =
    let scope = scope_of file function in least (of_expr scope e) (told 15 (is_other (typed scope e).type word))
rule_of file earlier function (Gets place) =
    let scope = scope_of file function in least (of_place scope place) (told 15 (are_other (Some word) (type_of_place scope place)))
rule_of file earlier function Loops = told 19 function.inline
rule_of file earlier function (Counts set tested raised count) =
    let scope = scope_of file function
    in least (least (of_place scope (Name set)) (least (of_place scope (Name tested)) (of_place scope (Name raised)))) (told 20 (miscounts function set tested raised count))
rule_of file earlier function (Halts kind at line) = None

-- what the actions of a statement break, and those of a block
unfoldable pub of_stmt : (Action → Option ℕ) → CStmt → Option ℕ
of_stmt broken stmt = least_in broken (actions stmt)

abbrev pub of_block : (Action → Option ℕ) → List CStmt → Option ℕ
of_block broken block = least_in (of_stmt broken) block
