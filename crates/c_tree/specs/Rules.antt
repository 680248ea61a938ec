-- The rules of the C subset that a tree keeps or breaks, by their numbers. A rule that is broken inside a function is broken on
-- the line of its first token; a rule that is broken elsewhere is broken on the first line behind the prelude. Inside a
-- function are its result, its parameters, its variables and its statements.
--
-- The rules 10 to 22 are about trees. Of these 12 speaks of structs used as types, which no tree has yet. The rules 1 to 9 are
-- about bytes: they are kept where there is a tree with that text. A place that isn't declared has no type and fits every
-- operator; rule 11 is told before the rules of types.
use Rattle.std.specs.Prelude.{◌≡◌, ◌≢◌, ◌⊎◌, ℕ, ◌^◌, ◌<◌, ◌≤◌, List, [], ◌∷◌, ◌++◌, Bool, true, false, not, ◌&&◌, ◌||◌, ◌==◌, Option, Some, None, option_map, Contains, map, codes}
use Rattle.std.specs.List.{count_by, list_any, IsDistinct}
use Rattle.std.specs.Str.{bytes_eq}
use Rattle.c_tree.specs.declared.tree.CFile.{CFile}
use Rattle.c_tree.specs.declared.tree.CStruct.{CStruct}
use Rattle.c_tree.specs.declared.tree.CMember.{CMember}
use Rattle.c_tree.specs.declared.tree.CVar.{CVar}
use Rattle.c_tree.specs.declared.tree.CType.{CType}
use Rattle.c_tree.specs.declared.tree.CType.TheVariants.{Int, Void}
use Rattle.c_tree.specs.declared.tree.CFun.{CFun}
use Rattle.c_tree.specs.declared.tree.CPlace.{CPlace}
use Rattle.c_tree.specs.declared.tree.CPlace.TheVariants.{Name}
use Rattle.c_tree.specs.declared.tree.CStmt.{CStmt, CStmt-F, fold-CStmt}
use Rattle.c_tree.specs.declared.tree.CStmt.TheOpen as stmt
use Rattle.c_tree.specs.declared.tree.CExpr.{CExpr, CExpr-F, fold-CExpr}
use Rattle.c_tree.specs.declared.tree.CExpr.TheOpen as expr
use Rattle.c_tree.specs.Parts.{Reads, leaves, Action, Assigns, Calls, Tests, Returns, Puts, Gets, Loops, Counts, Halts, actions_in}
use Rattle.c_tree.specs.Bytes.{called}
use Rattle.c_tree.specs.Scope.{Scope, scope_of, var_named, variable}
use Rattle.c_tree.specs.Words.{reserved_words}
use Rattle.c_tree.specs.Text.{first_line}
use Rattle.c_tree.specs.Bytes.{struct_extent}

abbrev pub var_names : List CVar → List (List ℕ)
var_names vars = map (λ var. var.name) vars

abbrev pub fun_names : List CFun → List (List ℕ)
fun_names functions = map (λ function. function.name) functions

-- names of one scope: one is declared twice, or is reserved
abbrev pub NamesClash : List (List ℕ) → Type 0
NamesClash names = (¬ IsDistinct bytes_eq names) ⊎ ((name : List ℕ) × Contains names name × Contains reserved_words name)

-- 10, outside functions: names of structs; names of globals and functions; the members of a struct; the members of a union
abbrev pub BreaksNames : CFile → Type 0
BreaksNames file =
    NamesClash (map (λ struct. struct.name) file.structs)
    ⊎ NamesClash (var_names file.globals ++ fun_names file.functions)
    ⊎ ((struct : CStruct) × Contains file.structs struct × NamesClash (map (λ member. member.name) struct.members))
    ⊎ ((struct : CStruct) × (member : CMember) × Contains file.structs struct × Contains struct.members member × NamesClash (var_names member.choice))

-- 10, in a function: its parameters and its variables
abbrev pub BreaksLocalNames : CFun → Type 0
BreaksLocalNames function = NamesClash (var_names (function.params ++ function.vars))

-- a function stands in the file behind these
abbrev pub StandsBehind : CFile → List CFun → CFun → Type 0
StandsBehind file before function = (behind : List CFun) × (file.functions ≡ before ++ function ∷ behind)

-- a name is declared where a function behind these calls it: by a prototype, by the function itself, or by one of these
abbrev pub IsDeclared : CFile → List CFun → CFun → List ℕ → Type 0
IsDeclared file before function name =
    Contains (fun_names file.protos) name
    ⊎ (function.name ≡ name)
    ⊎ Contains (fun_names before) name

-- the names that an expression reads
abbrev pub NamesRead : CExpr → List ℕ → Type 0
NamesRead e name = Contains (leaves e) (Reads (Name name))

-- the names of variables that an action has
abbrev pub NamesVariable : Action → List ℕ → Type 0
NamesVariable (Assigns place e) name = (place ≡ Name name) ⊎ NamesRead e name
NamesVariable (Calls target function arguments) name = (target ≡ Some (Name name)) ⊎ ((e : CExpr) × Contains arguments e × NamesRead e name)
NamesVariable (Tests test) name = NamesRead test name
NamesVariable (Returns value) name = (e : CExpr) × (value ≡ Some e) × NamesRead e name
NamesVariable (Puts e) name = NamesRead e name
NamesVariable (Gets place) name = place ≡ Name name
NamesVariable Loops name = ⊥
NamesVariable (Counts set tested raised count) name = (set ≡ name) ⊎ (tested ≡ name) ⊎ (raised ≡ name)
NamesVariable (Halts kind file line) name = ⊥

-- 11, in a function behind these: a called name isn't declared, or is that of a parameter or a variable of the function, which
-- hides the called one; or a variable isn't declared
abbrev pub BreaksDeclared : CFile → List CFun → CFun → Type 0
BreaksDeclared file before function =
    ((name : List ℕ) × Contains (called function) name × ((¬ IsDeclared file before function name) ⊎ Contains (var_names (function.params ++ function.vars)) name))
    ⊎ ((action : Action) × (name : List ℕ) × Contains (actions_in function.body) action × NamesVariable action name × (variable (scope_of file function) name ≡ None))

-- 13: an array has no element or more than 2 ^ 24, or a struct more than 2 ^ 24 bytes
abbrev pub BreaksSizes : CFile → Type 0
BreaksSizes file =
    (struct : CStruct) × Contains file.structs struct
    × ((2 ^ 24 < (struct_extent struct).bytes)
    ⊎ ((member : CMember) × (count : ℕ) × Contains struct.members member × (member.count ≡ Some count) × ((count ≡ 0) ⊎ (2 ^ 24 < count))))

-- Types ---------------------------------------------------------------------------------------------------------------

-- `int64_t`, and a type that has the operators: it or `uint64_t`
abbrev pub word : CType
word = Int true 64

abbrev pub is_word : CType → Bool
is_word (Int signed width) = width == 64
is_word Void = false

abbrev pub is_signed_word : CType → Bool
is_signed_word (Int signed width) = signed && width == 64
is_signed_word Void = false

abbrev pub is_unsigned_word : CType → Bool
is_unsigned_word (Int signed width) = not signed && width == 64
is_unsigned_word Void = false

-- the type of a variable with this name
abbrev pub type_of_name : Scope → List ℕ → Option CType
type_of_name scope name = option_map (λ var. var.kind) (variable scope name)

abbrev pub type_of_place : Scope → CPlace → Option CType
type_of_place scope (Name name) = type_of_name scope name

-- what is known of an expression: its type, where it has one, and whether operands in it fit their operators
pub record Typed : Type 0 where
  pub type : Option CType
  pub fits : Bool

-- both are of 64 bits with a sign, or both without one
abbrev pub words_alike : CType → CType → Bool
words_alike left right = (is_signed_word left && is_signed_word right) || (is_unsigned_word left && is_unsigned_word right)

-- two operands fit where one of them has no type
abbrev pub operands_fit : Option CType → Option CType → Bool
operands_fit (Some left) (Some right) = words_alike left right
operands_fit (Some left) None = true
operands_fit None right = true

abbrev pub operand_fits : Option CType → Bool
operand_fits None = true
operand_fits (Some operand) = is_signed_word operand

abbrev pub typed_step : Scope → CExpr-F Typed → Typed
typed_step scope (expr.Const signed number) = record { type = Some (Int signed 64); fits = true }
typed_step scope (expr.Read place) = record { type = type_of_place scope place; fits = true }
typed_step scope (expr.Binary operator left right) = record { type = left.type; fits = left.fits && right.fits && operands_fit left.type right.type }
typed_step scope (expr.Compare comparison left right) = record { type = Some word; fits = left.fits && right.fits && operands_fit left.type right.type }
typed_step scope (expr.Negate operand) = record { type = Some word; fits = operand.fits && operand_fits operand.type }

unfoldable pub typed : Scope → CExpr → Typed
typed scope e = fold-CExpr Typed (typed_step scope) e

-- the expressions of an action
abbrev pub HasExpr : Action → CExpr → Type 0
HasExpr (Assigns place value) e = value ≡ e
HasExpr (Calls target name arguments) e = Contains arguments e
HasExpr (Tests test) e = test ≡ e
HasExpr (Returns value) e = value ≡ Some e
HasExpr (Puts value) e = value ≡ e
HasExpr (Gets place) e = ⊥
HasExpr Loops e = ⊥
HasExpr (Counts set tested raised count) e = ⊥
HasExpr (Halts kind file line) e = ⊥

-- 14: operands aren't both `int64_t` or both `uint64_t`, or `-` stands before an operand that isn't an `int64_t`
abbrev pub BreaksOperands : CFile → CFun → Type 0
BreaksOperands file function =
    (action : Action) × (e : CExpr) × Contains (actions_in function.body) action × HasExpr action e × ((typed (scope_of file function) e).fits ≡ false)

-- an expression has a type that isn't this one
abbrev pub HasOtherType : Scope → CExpr → CType → Type 0
HasOtherType scope e wanted = (other : CType) × ((typed scope e).type ≡ Some other) × (other ≢ wanted)

-- an action stores, gives or puts a value of a type that isn't the one that is wanted, or gives none in a function with a result.
-- What is there of the input is an `int64_t`
abbrev pub HasWrongValue : Scope → CFun → Action → Type 0
HasWrongValue scope function (Assigns place e) = (kind : CType) × (type_of_place scope place ≡ Some kind) × HasOtherType scope e kind
HasWrongValue scope function (Calls target name arguments) = ⊥
HasWrongValue scope function (Tests test) = ⊥
HasWrongValue scope function (Returns None) = function.result ≢ Void
HasWrongValue scope function (Returns (Some e)) = HasOtherType scope e function.result
HasWrongValue scope function (Puts e) = HasOtherType scope e word
HasWrongValue scope function (Gets place) = (kind : CType) × (type_of_place scope place ≡ Some kind) × (kind ≢ word)
HasWrongValue scope function Loops = ⊥
HasWrongValue scope function (Counts set tested raised count) = ⊥
HasWrongValue scope function (Halts kind file line) = ⊥

-- 15: an assigned, returned or printed value has a wrong type
abbrev pub BreaksValues : CFile → CFun → Type 0
BreaksValues file function = (action : Action) × Contains (actions_in function.body) action × HasWrongValue (scope_of file function) function action

-- arguments don't fit parameters: they differ in number, or one has another type
abbrev pub ArgumentsMisfit : Scope → List CExpr → List CVar → Type 0
ArgumentsMisfit scope [] [] = ⊥
ArgumentsMisfit scope [] (param ∷ params) = Unit {0}
ArgumentsMisfit scope (argument ∷ arguments) [] = Unit {0}
ArgumentsMisfit scope (argument ∷ arguments) (param ∷ params) = HasOtherType scope argument param.kind ⊎ ArgumentsMisfit scope arguments params

-- a function calls another, with these arguments, and its result goes there
abbrev pub CallsSo : CFile → CFun → CFun → Option CPlace → List CExpr → Type 0
CallsSo file function callee target arguments =
    Contains file.functions callee × Contains (actions_in function.body) (Calls target callee.name arguments)

-- 16: arguments differ in number or type from the parameters
abbrev pub BreaksArguments : CFile → CFun → Type 0
BreaksArguments file function =
    (callee : CFun) × (target : Option CPlace) × (arguments : List CExpr) × CallsSo file function callee target arguments
    × ArgumentsMisfit (scope_of file function) arguments callee.params

-- 17: the result of a void call is taken, or a result goes to a place that isn't of its type
abbrev pub BreaksResults : CFile → CFun → Type 0
BreaksResults file function =
    (callee : CFun) × (place : CPlace) × (arguments : List CExpr) × CallsSo file function callee (Some place) arguments
    × ((callee.result ≡ Void) ⊎ ((kind : CType) × (type_of_place (scope_of file function) place ≡ Some kind) × (kind ≢ callee.result)))

-- 18: a condition isn't of a type of 64 bits
abbrev pub BreaksConditions : CFile → CFun → Type 0
BreaksConditions file function =
    (test : CExpr) × (other : CType) × Contains (actions_in function.body) (Tests test)
    × ((typed (scope_of file function) test).type ≡ Some other) × (is_word other ≡ false)

-- 19: an inline function behind these holds `while`, or calls a function that isn't an inline one of these
abbrev pub BreaksInline : List CFun → CFun → Type 0
BreaksInline before function =
    (function.inline ≡ true)
    × (Contains (actions_in function.body) Loops
    ⊎ ((name : List ℕ) × Contains (called function) name
    × ((callee : CFun) → Contains before callee → callee.inline ≡ true → callee.name ≢ name)))

-- a name is that of a parameter or a variable of the function itself, which is an `int64_t`
abbrev pub CanCount : CFun → List ℕ → Type 0
CanCount function name = option_map (λ var. var.kind) (var_named (function.params ++ function.vars) name) ≡ Some word

-- a place is one of these variables
abbrev pub is_among : List (List ℕ) → CPlace → Bool
is_among names (Name name) = list_any (bytes_eq name) names

abbrev pub target_among : List (List ℕ) → Option CPlace → Bool
target_among names None = false
target_among names (Some place) = is_among names place

-- one of the statements in some blocks does so, with these variables
abbrev pub any_with : List (List ℕ) → List (List (List ℕ) → Bool) → Bool
any_with names stmts = list_any (λ does. does names) stmts

abbrev pub any_else : List (List ℕ) → Option (List (List (List ℕ) → Bool)) → Bool
any_else names None = false
any_else names (Some stmts) = any_with names stmts

abbrev pub recounts_step : CStmt-F (List (List ℕ) → Bool) → List (List ℕ) → Bool
recounts_step (stmt.Assign place e) counters = is_among counters place
recounts_step (stmt.Call target name args) counters = target_among counters target
recounts_step (stmt.If test chosen other) counters = any_with counters chosen || any_else counters other
recounts_step (stmt.Loop body) counters = any_with counters body
recounts_step (stmt.Count set tested count raised body) counters = is_among counters (Name set) || any_with (set ∷ counters) body
recounts_step stmt.Break counters = false
recounts_step (stmt.Return value) counters = false
recounts_step (stmt.Put e) counters = false
recounts_step (stmt.Get place) counters = is_among counters place
recounts_step (stmt.Halt kind file line) counters = false

-- whether a statement stores something in the variable of a `for` that stands around what stores it: in one of these variables, those
-- of the loops around the statement, or in that of a `for` in it. A `for` stores numbers in its own variable
unfoldable pub recounts : CStmt → List (List ℕ) → Bool
recounts s counters = fold-CStmt (List (List ℕ) → Bool) recounts_step s counters

-- 20: a `for` counts to more than 2 ^ 24; or its three names aren't one, or not that of an `int64_t` of the function itself; or
-- something in its body stores in its variable
abbrev pub BreaksCounts : CFun → Type 0
BreaksCounts function =
    ((set : List ℕ) × (tested : List ℕ) × (raised : List ℕ) × (count : ℕ) × Contains (actions_in function.body) (Counts set tested raised count)
    × ((2 ^ 24 < count) ⊎ (tested ≢ set) ⊎ (raised ≢ set) ⊎ (¬ CanCount function set)))
    ⊎ (list_any (λ s. recounts s []) function.body ≡ true)

-- whether the last of some is so
abbrev pub last_is : List Bool → Bool
last_is [] = false
last_is (so ∷ []) = so
last_is (so ∷ other ∷ others) = last_is (other ∷ others)

abbrev pub last_else : Option (List Bool) → Bool
last_else None = false
last_else (Some others) = last_is others

abbrev pub ends_step : CStmt-F Bool → Bool
ends_step (stmt.Return value) = true
ends_step (stmt.Halt kind file line) = true
ends_step (stmt.If test chosen other) = last_is chosen && last_else other
ends_step (stmt.Assign place e) = false
ends_step (stmt.Call target name arguments) = false
ends_step (stmt.Loop body) = false
ends_step (stmt.Count set tested count raised body) = false
ends_step stmt.Break = false
ends_step (stmt.Put e) = false
ends_step (stmt.Get place) = false

-- whether nothing comes behind a statement: it is a return or a halt, or an `if` with `else` both of whose blocks end so
unfoldable pub ends_function : CStmt → Bool
ends_function s = fold-CStmt Bool ends_step s

abbrev pub some_are : List Bool → Bool
some_are truths = list_any (λ so. so) truths

abbrev pub some_else : Option (List Bool) → Bool
some_else None = false
some_else (Some truths) = some_are truths

abbrev pub strays_step : CStmt-F Bool → Bool
strays_step stmt.Break = true
strays_step (stmt.If test chosen other) = some_are chosen || some_else other
strays_step (stmt.Loop body) = false
strays_step (stmt.Count set tested count raised body) = false
strays_step (stmt.Assign place e) = false
strays_step (stmt.Call target name arguments) = false
strays_step (stmt.Return value) = false
strays_step (stmt.Put e) = false
strays_step (stmt.Get place) = false
strays_step (stmt.Halt kind file line) = false

-- whether a `break` stands in a statement, and no loop in the statement stands around it
unfoldable pub strays : CStmt → Bool
strays s = fold-CStmt Bool strays_step s

-- 21: a `break` stands outside loops, or a function with a result can come to its end without a return
abbrev pub BreaksEnd : CFun → Type 0
BreaksEnd function = (some_are (map strays function.body) ≡ true) ⊎ ((function.result ≢ Void) × (last_is (map ends_function function.body) ≡ false))

-- a function and its prototype are alike, names of parameters included
pub record AreAlike (proto function : CFun) : Type 0 where
  pub name : proto.name ≡ function.name
  pub result : proto.result ≡ function.result
  pub params : proto.params ≡ function.params

-- the function with which a run begins
pub record IsStart (function : CFun) : Type 0 where
  pub name : function.name ≡ codes "sl_main"
  pub called : function.inline ≡ false
  pub result : function.result ≡ Int true 64
  pub params : function.params ≡ []

-- 22: a function that isn't inline has no prototype or two; a prototype has no such function, or differs from it; there is no
-- function `sl_main` with the result `int64_t` and no parameters that isn't inline
abbrev pub BreaksPrototypes : CFile → Type 0
BreaksPrototypes file =
    ((function : CFun) × Contains file.functions function × (function.inline ≡ false) × (count_by (λ proto. bytes_eq proto.name function.name) file.protos ≢ 1))
    ⊎ ((proto : CFun) × Contains file.protos proto × ((function : CFun) → Contains file.functions function → function.inline ≡ false → ¬ AreAlike proto function))
    ⊎ ((function : CFun) → Contains file.functions function → ¬ IsStart function)

-- a rule is broken in a function behind these
abbrev pub BreaksInside : CFile → List CFun → CFun → ℕ → Type 0
BreaksInside file before function rule =
    ((rule ≡ 10) × BreaksLocalNames function)
    ⊎ ((rule ≡ 11) × BreaksDeclared file before function)
    ⊎ ((rule ≡ 14) × BreaksOperands file function)
    ⊎ ((rule ≡ 15) × BreaksValues file function)
    ⊎ ((rule ≡ 16) × BreaksArguments file function)
    ⊎ ((rule ≡ 17) × BreaksResults file function)
    ⊎ ((rule ≡ 18) × BreaksConditions file function)
    ⊎ ((rule ≡ 19) × BreaksInline before function)
    ⊎ ((rule ≡ 20) × BreaksCounts function)
    ⊎ ((rule ≡ 21) × BreaksEnd function)

-- a rule is broken outside functions
abbrev pub BreaksOutside : CFile → ℕ → Type 0
BreaksOutside file rule =
    ((rule ≡ 10) × BreaksNames file)
    ⊎ ((rule ≡ 13) × BreaksSizes file)
    ⊎ ((rule ≡ 22) × BreaksPrototypes file)

-- the rule with this number is broken on this line
unfoldable pub Breaks : CFile → ℕ → ℕ → Type 0
Breaks file rule line =
    ((line ≡ first_line) × BreaksOutside file rule)
    ⊎ ((before : List CFun) × (function : CFun) × StandsBehind file before function × (line ≡ function.line) × BreaksInside file before function rule)

-- no rule is broken
abbrev pub KeepsRules : CFile → Type 0
KeepsRules file = (rule line : ℕ) → ¬ Breaks file rule line

-- of the rules that are broken, the one on the least line, and of those on one line the one with the least number
pub record IsFirstBroken (file : CFile) (rule line : ℕ) : Type 0 where
  pub broken : Breaks file rule line
  pub first : (other elsewhere : ℕ) → Breaks file other elsewhere → (line < elsewhere) ⊎ ((line ≡ elsewhere) × (rule ≤ other))
