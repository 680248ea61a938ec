-- Which cores are sound: their numbers are in range, their types fit, they don't nest too deep, and they are never stuck.
use Rattle.std.specs.Prelude.{◌≡◌, ◌≢◌, ◌⊎◌, ℕ, ◌+◌, ℤ, pos, negsuc, neg_ℤ, ◌-◌, ◌^◌, ◌≤◌, ◌<◌, ◌≤ℤ◌, int_le, nat_lt, length, List, Bool, true, false, not, ◌&&◌, ◌||◌, ◌==◌, max, map, is_some, Option, None, Some, slice_get, if◌then◌else◌, All}
use Rattle.std.specs.List.{list_all, list_any, fold, IsDistinct}
use Rattle.std.specs.Option.{option_and_then}
use Rattle.std.specs.Str.{bytes_eq}
use Rattle.sl_num.specs.Types.{IsRange}
use Rattle.sl_run.specs.Run.{Stuck}
use Rattle.sl_core.specs.declared.tree.Core.{Core}
use Rattle.sl_core.specs.declared.tree.CoreType.{CoreType}
use Rattle.sl_core.specs.declared.tree.CoreType.TheVariants.{Int}
use Rattle.sl_core.specs.declared.tree.CoreFun.{CoreFun}
use Rattle.sl_core.specs.declared.tree.CorePath.{CorePath}
use Rattle.sl_core.specs.declared.tree.CoreStmt.{CoreStmt, CoreStmt-F, fold-CoreStmt}
use Rattle.sl_core.specs.declared.tree.CoreStmt.TheOpen as stmt
use Rattle.sl_core.specs.declared.tree.CoreExpr.{CoreExpr, CoreExpr-F, fold-CoreExpr}
use Rattle.sl_core.specs.declared.tree.CoreExpr.TheOpen as expr
use Rattle.sl_core.specs.Meaning.{root_of, core_run}

-- Types ---------------------------------------------------------------------------------------------------------------

-- a type has a number
abbrev pub has_number : ℤ → CoreType → Bool
has_number n (Int kind) = int_le kind.lo n && int_le n kind.hi

-- the type with this number has a number
abbrev pub type_has : Core → ℕ → ℤ → Bool
type_has core kind n = is_some (option_and_then (λ type. if has_number n type then Some type else None) (slice_get core.types kind))

-- what an expression gives: a number of a type, or a text
pub data Kind : Type 0 where
  NumberOf : (type : ℕ) → Kind
  Text : Kind

-- a number of this type
abbrev pub is_number_of : ℕ → Option Kind → Bool
is_number_of type None = false
is_number_of type (Some Text) = false
is_number_of type (Some (NumberOf other)) = other == type

-- two numbers of one type
abbrev pub are_of_one_type : Option Kind → Option Kind → Bool
are_of_one_type (Some (NumberOf type)) other = is_number_of type other
are_of_one_type (Some Text) other = false
are_of_one_type None other = false

-- the type of a place's variable
abbrev pub type_of_place : CoreFun → CorePath → Option ℕ
type_of_place function path = slice_get function.vars (root_of path.root)

-- whether a place has this type
abbrev pub place_has : CoreFun → CorePath → ℕ → Bool
place_has function path type = is_some (option_and_then (λ other. if other == type then Some other else None) (type_of_place function path))

-- what an expression gives, given what its parts give, if they fit
abbrev pub kind_step : Core → CoreFun → CoreExpr-F (Option Kind) → Option Kind
kind_step core function (expr.Number number type) = if type_has core type number then Some (NumberOf type) else None
kind_step core function (expr.TextOf bytes) = Some Text
kind_step core function (expr.Path path type) = if place_has function path type then Some (NumberOf type) else None
kind_step core function (expr.Apply op left right type file line) = if is_number_of type left && is_number_of type right then Some (NumberOf type) else None
kind_step core function (expr.Compare comparison left right type) =
    if are_of_one_type left right && type_has core type (pos 0) && type_has core type (pos 1) then Some (NumberOf type) else None

unfoldable pub kind_of : Core → CoreFun → CoreExpr → Option Kind
kind_of core function e = fold-CoreExpr (Option Kind) (kind_step core function) e

-- a number of some type
abbrev pub is_number : Option Kind → Bool
is_number kind = are_of_one_type kind kind

-- a result fits the place where it is stored, if there is one
abbrev pub result_fits : CoreFun → Option CorePath → ℕ → Bool
result_fits function None type = true
result_fits function (Some path) type = place_has function path type

-- the function with this number can be called, and its result fits
abbrev pub call_fits : Core → CoreFun → Option CorePath → ℕ → Bool
call_fits core function target number =
    not (number == core.entry)
    && is_some (option_and_then (λ callee. if result_fits function target callee.result then Some callee else None) (slice_get core.functions number))

-- the variable of a place has a type that has -1 and all bytes
abbrev pub holds_bytes : Core → CoreFun → CorePath → Bool
holds_bytes core function path = is_some (option_and_then (λ type. if type_has core type (negsuc 0) && type_has core type (pos 255) then Some type else None) (type_of_place function path))

-- the types in a statement fit, given whether they do in its parts
abbrev pub fits_step : Core → CoreFun → CoreStmt-F Bool → Bool
fits_step core function (stmt.Store path e) = is_some (option_and_then (λ type. if is_number_of type (kind_of core function e) then Some type else None) (type_of_place function path))
fits_step core function (stmt.If test chosen other) = is_number (kind_of core function test) && list_all (λ fits. fits) chosen && list_all (λ fits. fits) other
fits_step core function (stmt.Loop stmts) = list_all (λ fits. fits) stmts
fits_step core function stmt.Break = true
fits_step core function (stmt.Call target number) = call_fits core function target number
fits_step core function (stmt.Put e) = is_some (kind_of core function e)
fits_step core function (stmt.Get path) = holds_bytes core function path
fits_step core function (stmt.Halt kind file line) = true
fits_step core function (stmt.Return e) = is_number_of function.result (kind_of core function e)

unfoldable pub fits : Core → CoreFun → CoreStmt → Bool
fits core function s = fold-CoreStmt Bool (fits_step core function) s

abbrev pub strays_step : CoreStmt-F Bool → Bool
strays_step stmt.Break = true
strays_step (stmt.If test chosen other) = list_any (λ strays. strays) chosen || list_any (λ strays. strays) other
strays_step (stmt.Loop stmts) = false
strays_step (stmt.Store path e) = false
strays_step (stmt.Call target number) = false
strays_step (stmt.Put e) = false
strays_step (stmt.Get path) = false
strays_step (stmt.Halt kind file line) = false
strays_step (stmt.Return e) = false

-- whether a `Break` stands in a statement, and no loop in the statement stands around it
unfoldable pub strays : CoreStmt → Bool
strays s = fold-CoreStmt Bool strays_step s

-- Ranges --------------------------------------------------------------------------------------------------------------

-- a place in the source: the number of a file and that of a line have 32 bits
abbrev pub is_source_place : (file line : ℕ) → Bool
is_source_place file line = nat_lt file (2 ^ 32) && nat_lt line (2 ^ 32)

-- whether the bytes of texts are bytes, and the places of operations have 32 bits, given whether it is so in the parts
abbrev pub expr_range_step : CoreExpr-F Bool → Bool
expr_range_step (expr.Number number type) = true
expr_range_step (expr.TextOf bytes) = list_all (λ byte. nat_lt byte 256) bytes
expr_range_step (expr.Path path type) = true
expr_range_step (expr.Apply op left right type file line) = left && right && is_source_place file line
expr_range_step (expr.Compare comparison left right type) = left && right

unfoldable pub expr_in_range : CoreExpr → Bool
expr_in_range e = fold-CoreExpr Bool expr_range_step e

-- the kind of a halt has 8 bits, and its place is as that of an operation
abbrev pub stmt_range_step : CoreStmt-F Bool → Bool
stmt_range_step (stmt.Store path e) = expr_in_range e
stmt_range_step (stmt.If test chosen other) = expr_in_range test && list_all (λ fits. fits) chosen && list_all (λ fits. fits) other
stmt_range_step (stmt.Loop stmts) = list_all (λ fits. fits) stmts
stmt_range_step stmt.Break = true
stmt_range_step (stmt.Call target number) = true
stmt_range_step (stmt.Put e) = expr_in_range e
stmt_range_step (stmt.Get path) = true
stmt_range_step (stmt.Halt kind file line) = nat_lt kind 256 && is_source_place file line
stmt_range_step (stmt.Return e) = expr_in_range e

unfoldable pub stmt_in_range : CoreStmt → Bool
stmt_in_range s = fold-CoreStmt Bool stmt_range_step s

-- Depth ---------------------------------------------------------------------------------------------------------------

-- How deep statements and expressions may nest together. The C of a core nests at most 4 levels deeper, and C may nest 1024 deep;
-- statements that nest no deeper than this need at most 2 ^ 200 temporaries in C
abbrev pub deepest : ℕ
deepest = 200

abbrev pub expr_depth_step : CoreExpr-F ℕ → ℕ
expr_depth_step (expr.Number number type) = 1
expr_depth_step (expr.TextOf bytes) = 1
expr_depth_step (expr.Path path type) = 1
expr_depth_step (expr.Apply op left right type file line) = 1 + max left right
expr_depth_step (expr.Compare comparison left right type) = 1 + max left right

unfoldable pub expr_depth : CoreExpr → ℕ
expr_depth e = fold-CoreExpr ℕ expr_depth_step e

abbrev pub greatest : List ℕ → ℕ
greatest numbers = fold max 0 numbers

abbrev pub stmt_depth_step : CoreStmt-F ℕ → ℕ
stmt_depth_step (stmt.Store path e) = 1 + expr_depth e
stmt_depth_step (stmt.If test chosen other) = 1 + max (expr_depth test) (max (greatest chosen) (greatest other))
stmt_depth_step (stmt.Loop stmts) = 1 + greatest stmts
stmt_depth_step stmt.Break = 1
stmt_depth_step (stmt.Call target number) = 1
stmt_depth_step (stmt.Put e) = 1 + expr_depth e
stmt_depth_step (stmt.Get path) = 1
stmt_depth_step (stmt.Halt kind file line) = 1
stmt_depth_step (stmt.Return e) = 1 + expr_depth e

unfoldable pub stmt_depth : CoreStmt → ℕ
stmt_depth s = fold-CoreStmt ℕ stmt_depth_step s

-- Cores ---------------------------------------------------------------------------------------------------------------

-- an integer type with a number, that doesn't wrap, and whose numbers one integer type of C has: that of 64 bits with a sign or
-- that without
abbrev pub IsType : CoreType → Type 0
IsType (Int kind) = IsRange kind × (kind.lo ≤ℤ kind.hi) × ((pos 0 ≤ℤ kind.lo) ⊎ (kind.hi ≤ℤ pos (2 ^ 63 - 1)))

-- the exit value is a number of 64 bits with a sign
abbrev pub IsExitType : CoreType → Type 0
IsExitType (Int kind) = (neg_ℤ (pos (2 ^ 63)) ≤ℤ kind.lo) × (kind.hi ≤ℤ pos (2 ^ 63 - 1))

-- what is so of each function that is held in memory: its name has bytes, its variables can be counted in 64 bits, and the kinds,
-- files, lines and bytes in its statements have the bits that there are for them
pub record IsInRange (function : CoreFun) : Type 0 where
  pub name : All (λ byte. byte ≤ 255) function.name
  pub vars : length function.vars < 2 ^ 64
  pub body : All (λ s. stmt_in_range s ≡ true) function.body

-- a function: its variables and its result have types that there are, its statements fit, and its `Break`s stand in loops
pub record IsFunction (core : Core) (function : CoreFun) : Type 0 where
  pub vars : All (λ type. is_some (slice_get core.types type) ≡ true) function.vars
  pub result : is_some (slice_get core.types function.result) ≡ true
  pub fit : All (λ s. fits core function s ≡ true) function.body
  pub loops : All (λ s. strays s ≡ false) function.body
  pub depth : All (λ s. stmt_depth s ≤ deepest) function.body
  pub in_range : IsInRange function

-- a sound core. `never_stuck` is of every run
pub record IsSound (core : Core) : Type 0 where
  pub types : All IsType core.types
  pub names : IsDistinct bytes_eq (map (λ function. function.name) core.functions)
  pub functions : All (IsFunction core) core.functions
  pub entry : (function : CoreFun) × (type : CoreType) × (slice_get core.functions core.entry ≡ Some function) × (slice_get core.types function.result ≡ Some type) × IsExitType type
  pub never_stuck : (input : List ℕ) (turns number : ℕ) → (core_run core input turns).ending ≢ Stuck number
