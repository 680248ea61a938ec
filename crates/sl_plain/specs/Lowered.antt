-- The core of a plain program. Its variables are those of `main`, numbered in the order of their declarations, and behind them some
-- without names: each `for` has two, for its next number and for its second bound, behind those of the `for`s around it. All have
-- the type `Z`, and a truth value is 1 or 0. The function in which a run begins calls `main` and gives what that gives.
use Rattle.std.specs.Prelude.{ℕ, suc, ◌+◌, pos, List, [], ◌∷◌, ◌++◌, Option, None, Some, unwrap_or, length, map, max, replicate, codes}
use Rattle.std.specs.List.{position}
use Rattle.sl_num.specs.declared.arithmetic.Op.TheVariants.{Add}
use Rattle.sl_num.specs.declared.comparing.Comparison.TheVariants.{Less}
use Rattle.std.specs.Str.{bytes_eq}
use Rattle.sl_core.specs.declared.tree.Core.{Core}
use Rattle.sl_core.specs.declared.tree.CoreType.TheVariants.{Int}
use Rattle.sl_core.specs.declared.tree.CoreFun.{CoreFun}
use Rattle.sl_core.specs.declared.tree.CorePath.{CorePath}
use Rattle.sl_core.specs.declared.tree.CoreRoot.TheVariants.{Var}
use Rattle.sl_core.specs.declared.tree.CoreStmt.{CoreStmt}
use Rattle.sl_core.specs.declared.tree.CoreStmt.TheVariants as core
use Rattle.sl_core.specs.declared.tree.CoreExpr.{CoreExpr}
use Rattle.sl_core.specs.declared.tree.CoreExpr.TheVariants as expr
use Rattle.sl_num.specs.Comparing.{truth}
use Rattle.sl_plain.specs.declared.program.Kind.{Kind}
use Rattle.sl_plain.specs.declared.program.Kind.TheVariants as kind
use Rattle.sl_plain.specs.declared.program.Atom.{Atom}
use Rattle.sl_plain.specs.declared.program.Atom.TheVariants.{Name, Number, Truth}
use Rattle.sl_plain.specs.declared.program.Right.{Right}
use Rattle.sl_plain.specs.declared.program.Right.TheVariants.{Just, Compare, Apply, Get}
use Rattle.sl_plain.specs.declared.program.Condition.{Condition}
use Rattle.sl_plain.specs.declared.program.Condition.TheVariants as condition
use Rattle.sl_plain.specs.declared.program.Stmt.{Stmt, Stmt-F, fold-Stmt}
use Rattle.sl_plain.specs.declared.program.Stmt.TheOpen as stmt
use Rattle.sl_plain.specs.declared.program.Plain.{Plain}
use Rattle.sl_plain.specs.Numbers.{z_type}
use Rattle.sl_plain.specs.Program.{Declared, declared, kind_of_atom, deepest}
use Rattle.sl_plain.specs.Means.{assert_halt, halt_halt}

-- the number of the type `Z`, the only one
abbrev pub z : ℕ
z = 0

-- the variable with this number
abbrev pub variable : ℕ → CorePath
variable number = record { root = Var number }

-- the variable of a name; a plain program has none that isn't declared
abbrev pub path_of : List Declared → List ℕ → CorePath
path_of names name = variable (unwrap_or (position (λ entry. bytes_eq entry.name name) names) 0)

abbrev pub atom_expr : List Declared → Atom → CoreExpr
atom_expr names (Name name) = expr.Path (path_of names name) z
atom_expr names (Number number) = expr.Number number z
atom_expr names (Truth so) = expr.Number (truth so) z

abbrev pub condition_expr : List Declared → Condition → CoreExpr
condition_expr names (condition.Just atom) = atom_expr names atom
condition_expr names (condition.Compare by a b) = expr.Compare by (atom_expr names a) (atom_expr names b) z

-- the value of a right side is stored
abbrev pub store_right : List Declared → CorePath → Right → CoreStmt
store_right names path (Just atom) = core.Store path (atom_expr names atom)
store_right names path (Compare by a b) = core.Store path (expr.Compare by (atom_expr names a) (atom_expr names b) z)
store_right names path (Apply op a b line) = core.Store path (expr.Apply op (atom_expr names a) (atom_expr names b) z 0 line)
store_right names path Get = core.Get path

-- the variable without a name that stands behind so many others of them
abbrev pub unnamed : List Declared → ℕ → CorePath
unnamed names others = variable (length names + others)

-- the loop around is left where a number is 0
abbrev pub leave_unless : CoreExpr → CoreStmt
leave_unless e = core.If e [] (core.Break ∷ [])

-- the number behind that of a variable is stored there
abbrev pub raise : (line : ℕ) → CorePath → CoreStmt
raise line path = core.Store path (expr.Apply Add (expr.Path path z) (expr.Number (pos 1) z) z 0 line)

-- one round of a `for`: its name gets the next number, which is less than the second bound
abbrev pub for_round : (line : ℕ) → (name next bound : CorePath) → List CoreStmt → List CoreStmt
for_round line name next bound body =
    leave_unless (expr.Compare Less (expr.Path next z) (expr.Path bound z) z)
    ∷ core.Store name (expr.Path next z)
    ∷ (body ++ raise line next ∷ [])

-- a `for`, whose bounds are stored once
abbrev pub for_of : (line : ℕ) → (name next bound : CorePath) → (first end : CoreExpr) → List CoreStmt → List CoreStmt
for_of line name next bound first end body = core.Store next first ∷ core.Store bound end ∷ core.Loop (for_round line name next bound body) ∷ []

-- a text is printed
abbrev pub put_text : List ℕ → CoreStmt
put_text text = core.Put (expr.TextOf text)

-- an atom of this type is printed, and a line feed behind it
abbrev pub print_of : Option Kind → CoreExpr → List CoreStmt
print_of (Some kind.Truth) e = core.If e (put_text (codes "T\n") ∷ []) (put_text (codes "F\n") ∷ []) ∷ []
print_of (Some kind.Number) e = core.Put e ∷ put_text (codes "\n") ∷ []
print_of None e = core.Put e ∷ put_text (codes "\n") ∷ []

-- the core of a statement that stands in `for`s which have so many variables without names
abbrev pub Lowered : Type 0
Lowered = (taken : ℕ) → List CoreStmt

-- statements in order
abbrev pub in_order : List Lowered → Lowered
in_order [] taken = []
in_order (s ∷ ss) taken = s taken ++ in_order ss taken

abbrev pub lowered_step : List Declared → Stmt-F Lowered → Lowered
lowered_step names (stmt.Declare is_var name type first) taken = store_right names (path_of names name) first ∷ []
lowered_step names (stmt.Assign name value) taken = store_right names (path_of names name) value ∷ []
lowered_step names (stmt.Print atom) taken = print_of (kind_of_atom names atom) (atom_expr names atom)
lowered_step names (stmt.PrintText text) taken = put_text (text ++ 10 ∷ []) ∷ []
lowered_step names (stmt.If test chosen other) taken = core.If (condition_expr names test) (in_order chosen taken) (in_order other taken) ∷ []
lowered_step names (stmt.While test body) taken = core.Loop (leave_unless (condition_expr names test) ∷ in_order body taken) ∷ []
lowered_step names (stmt.For name first end body line) taken =
    for_of line (path_of names name) (unnamed names taken) (unnamed names (suc taken)) (atom_expr names first) (atom_expr names end) (in_order body (suc (suc taken)))
lowered_step names (stmt.Assert test line) taken = core.If (condition_expr names test) [] (core.Halt assert_halt 0 line ∷ []) ∷ []
lowered_step names (stmt.Halt text line) taken = core.Halt halt_halt 0 line ∷ []

unfoldable pub lowered : List Declared → Stmt → Lowered
lowered names s = fold-Stmt Lowered (lowered_step names) s

abbrev pub unnamed_step : Stmt-F ℕ → ℕ
unnamed_step (stmt.Declare is_var name type first) = 0
unnamed_step (stmt.Assign name value) = 0
unnamed_step (stmt.Print atom) = 0
unnamed_step (stmt.PrintText text) = 0
unnamed_step (stmt.If test chosen other) = max (deepest chosen) (deepest other)
unnamed_step (stmt.While test body) = deepest body
unnamed_step (stmt.For name first end body line) = suc (suc (deepest body))
unnamed_step (stmt.Assert test line) = 0
unnamed_step (stmt.Halt text line) = 0

-- how many variables without names the `for`s in a statement need
unfoldable pub unnamed_in : Stmt → ℕ
unnamed_in s = fold-Stmt ℕ unnamed_step s

-- and those in a program
abbrev pub unnamed_of : Plain → ℕ
unnamed_of program = deepest (map unnamed_in program.body)

-- the statements of `main`
abbrev pub main_body : Plain → List CoreStmt
main_body program =
    in_order (map (lowered (declared program)) program.body) 0
    ++ core.Return (atom_expr (declared program) program.value) ∷ []

-- `NAME.main`
abbrev pub main_of : Plain → CoreFun
main_of program = record { name = program.name ++ codes ".main"; result = z; vars = replicate (length (declared program) + unnamed_of program) z; body = main_body program }

-- the function in which a run begins
abbrev pub start_fun : CoreFun
start_fun = record {
  name = codes "start";
  result = z;
  vars = z ∷ [];
  body = core.Call (Some (variable 0)) 0 ∷ core.Return (expr.Path (variable 0) z) ∷ [];
}

-- the core of a plain program
unfoldable pub core_of : Plain → Core
core_of program = record { types = Int z_type ∷ []; functions = main_of program ∷ start_fun ∷ []; entry = 1 }
