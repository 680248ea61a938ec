-- The C of a core, whose numbers are all of the type `int64_t`. Each core function is a C function without parameters, whose
-- variables are the core's and then temporaries. An operation is tested before it is computed, by the inline functions of
-- c_helpers, so that no C step is undefined: where it gives no number of the type, `sl_halt` ends the run.
use Rattle.std.specs.Prelude.{ℕ, zero, suc, ◌-◌, ◌^◌, ℤ, pos, negsuc, List, [], ◌∷◌, ◌++◌, true, false, nat_lt, max, map, length, Option, None, Some, option_map, slice_get, if◌then◌else◌, codes}
use Rattle.std.specs.List.{flat_map}
use Rattle.sl_num.specs.declared.arithmetic.Op.{Op}
use Rattle.sl_num.specs.declared.arithmetic.Op.TheVariants.{Add, Sub, Mul, Div, Rem, Neg}
use Rattle.sl_num.specs.declared.comparing.Comparison.TheVariants.{Equal}
use Rattle.sl_core.specs.declared.tree.Core.{Core}
use Rattle.sl_core.specs.declared.tree.CoreFun.{CoreFun}
use Rattle.sl_core.specs.declared.tree.CoreStmt.{CoreStmt, CoreStmt-F, fold-CoreStmt}
use Rattle.sl_core.specs.declared.tree.CoreStmt.TheOpen as stmt
use Rattle.sl_core.specs.declared.tree.CoreExpr.{CoreExpr, CoreExpr-F, fold-CoreExpr}
use Rattle.sl_core.specs.declared.tree.CoreExpr.TheOpen as expr
use Rattle.sl_core.specs.Sound.{greatest}
use Rattle.c_tree.specs.declared.tree.CFile.{CFile}
use Rattle.c_tree.specs.declared.tree.CType.TheVariants.{Int}
use Rattle.c_tree.specs.declared.tree.CVar.{CVar}
use Rattle.c_tree.specs.declared.tree.CFun.{CFun}
use Rattle.c_tree.specs.declared.tree.CArg.TheVariants.{Value}
use Rattle.c_tree.specs.declared.tree.CBinary.TheVariants as binary
use Rattle.c_tree.specs.declared.tree.CPlace.TheVariants.{Name}
use Rattle.c_tree.specs.declared.tree.CExpr.{CExpr}
use Rattle.c_tree.specs.declared.tree.CExpr.TheVariants.{Read, Binary, Compare, Negate}
use Rattle.c_tree.specs.declared.tree.CStmt.{CStmt}
use Rattle.c_tree.specs.declared.tree.CStmt.TheVariants.{Assign, Call, If, Loop, Break, Return, Put, Get, Halt}
use Rattle.c_tree.specs.Rules.{last_is, ends_function}
use Rattle.c_helpers.specs.Functions.{constant, named, helper_functions}
use Rattle.sl_frames.specs.Names.{variable_name, temporary_name, place_of, function_name, called_name}

-- Expressions ---------------------------------------------------------------------------------------------------------

-- a number. The least one is minus the greatest, minus 1, since C has no literals of negative numbers
abbrev pub number_expr : ℤ → CExpr
number_expr (pos number) = constant number
number_expr (negsuc below) = if nat_lt below (2 ^ 63 - 1) then Negate (constant (suc below)) else Binary binary.Sub (Negate (constant below)) (constant 1)

-- a temporary that is read
abbrev pub temporary : ℕ → CExpr
temporary number = named (temporary_name number)

-- `if ((int64_t)(EXPR == INT64_C(0))) { sl_halt(KIND, FILE, LINE); }`
abbrev pub halt_at_zero : CExpr → (kind file line : ℕ) → CStmt
halt_at_zero e kind file line = If (Compare Equal e (constant 0)) (Halt kind file line ∷ []) None

-- `tN = NAME(LEFT, RIGHT);`
abbrev pub call_helper : ℕ → List ℕ → CExpr → CExpr → CStmt
call_helper number name left right = Call (Some (Name (temporary_name number))) name (Value left ∷ Value right ∷ [])

-- `tN = EXPR;`
abbrev pub set_temporary : ℕ → CExpr → CStmt
set_temporary number e = Assign (Name (temporary_name number)) e

-- a result is computed where a helper says that it is in the type, and else the run halts
abbrev pub where_it_fits : ℕ → List ℕ → CExpr → CExpr → (file line : ℕ) → CExpr → List CStmt
where_it_fits number name left right file line result =
    call_helper number name left right ∷ halt_at_zero (temporary number) 3 file line ∷ set_temporary number result ∷ []

-- an operation, whose result is in a temporary then
abbrev pub operate : Op → ℕ → CExpr → CExpr → (file line : ℕ) → List CStmt
operate Add number left right file line = where_it_fits number (codes "sl_sum_fits") left right file line (Binary binary.Add left right)
operate Sub number left right file line = where_it_fits number (codes "sl_difference_fits") left right file line (Binary binary.Sub left right)
operate Mul number left right file line = where_it_fits number (codes "sl_product_fits") left right file line (Binary binary.Mul left right)
operate Div number left right file line = halt_at_zero right 4 file line ∷ where_it_fits number (codes "sl_quotient_fits") left right file line (Binary binary.Div left right)
operate Rem number left right file line = halt_at_zero right 4 file line ∷ call_helper number (codes "sl_remainder") left right ∷ []
operate Neg number left right file line = where_it_fits number (codes "sl_difference_fits") (constant 0) left file line (Binary binary.Sub (constant 0) left)

-- the C of an expression: what is done before, the expression that has the value then, and the first temporary that is free then
pub record Code : Type 0 where
  pub before : List CStmt
  pub value : CExpr
  pub free : ℕ

-- an expression, given that of its parts, from the first temporary that is free. A text has no number, and stands in none in a
-- sound core
abbrev pub code_step : CoreExpr-F (ℕ → Code) → ℕ → Code
code_step (expr.Number number type) free = record { before = []; value = number_expr number; free = free }
code_step (expr.TextOf bytes) free = record { before = []; value = constant 0; free = free }
code_step (expr.Path path type) free = record { before = []; value = Read (place_of path); free = free }
code_step (expr.Compare comparison left right type) free =
    let first = left free in
    let second = right first.free in
    record { before = first.before ++ second.before; value = Compare comparison first.value second.value; free = second.free }
code_step (expr.Apply op left right type file line) free =
    let first = left free in
    let second = right first.free in
    record {
      before = first.before ++ second.before ++ operate op second.free first.value second.value file line;
      value = temporary second.free;
      free = suc second.free;
    }

-- the C of an expression
unfoldable pub code_of : CoreExpr → ℕ → Code
code_of e = fold-CoreExpr (ℕ → Code) code_step e

-- Statements ----------------------------------------------------------------------------------------------------------

-- `sl_put(INT64_C(BYTE));`
abbrev pub put_byte : ℕ → CStmt
put_byte byte = Put (constant byte)

-- `sl_print(EXPR);`
abbrev pub print : CExpr → CStmt
print e = Call None (codes "sl_print") (Value e ∷ [])

-- what is done with the value of an expression, behind what is done before
abbrev pub with_value : CoreExpr → (CExpr → CStmt) → List CStmt
with_value e stmt = let code = code_of e 0 in code.before ++ stmt code.value ∷ []

-- the bytes of an expression that is a text
abbrev pub text_step : CoreExpr-F (Option (List ℕ)) → Option (List ℕ)
text_step (expr.Number number type) = None
text_step (expr.TextOf bytes) = Some bytes
text_step (expr.Path path type) = None
text_step (expr.Apply op left right type file line) = None
text_step (expr.Compare comparison left right type) = None

unfoldable pub text_of : CoreExpr → Option (List ℕ)
text_of e = fold-CoreExpr (Option (List ℕ)) text_step e

-- what is printed: the bytes of a text, one by one, or a number
abbrev pub put_code : Option (List ℕ) → CoreExpr → List CStmt
put_code (Some bytes) e = map put_byte bytes
put_code None e = with_value e print

-- a block behind `else`, if there is anything in it
abbrev pub else_of : List CStmt → Option (List CStmt)
else_of [] = None
else_of (stmt ∷ stmts) = Some (stmt ∷ stmts)

-- blocks, one after another
abbrev pub joined : List (List CStmt) → List CStmt
joined blocks = flat_map (λ block. block) blocks

-- a statement, given those in it. Its temporaries are free again behind it
abbrev pub stmts_step : Core → CoreStmt-F (List CStmt) → List CStmt
stmts_step core (stmt.Store path e) = with_value e (Assign (place_of path))
stmts_step core (stmt.If test chosen other) = with_value test (λ value. If value (joined chosen) (else_of (joined other)))
stmts_step core (stmt.Loop stmts) = Loop (joined stmts) ∷ []
stmts_step core stmt.Break = Break ∷ []
stmts_step core (stmt.Call target number) = Call (option_map place_of target) (called_name core number (slice_get core.functions number)) [] ∷ []
stmts_step core (stmt.Put e) = put_code (text_of e) e
stmts_step core (stmt.Get path) = Get (place_of path) ∷ []
stmts_step core (stmt.Halt kind file line) = Halt kind file line ∷ []
stmts_step core (stmt.Return e) = with_value e (λ value. Return (Some value))

-- the C of a statement
unfoldable pub stmts_of : Core → CoreStmt → List CStmt
stmts_of core s = fold-CoreStmt (List CStmt) (stmts_step core) s

-- how many temporaries an expression needs: one for each operation in it
abbrev pub needed : CoreExpr → ℕ
needed e = (code_of e 0).free

-- how many temporaries a statement needs, given how many those in it need
abbrev pub needs_step : CoreStmt-F ℕ → ℕ
needs_step (stmt.Store path e) = needed e
needs_step (stmt.If test chosen other) = max (needed test) (max (greatest chosen) (greatest other))
needs_step (stmt.Loop stmts) = greatest stmts
needs_step stmt.Break = 0
needs_step (stmt.Call target number) = 0
needs_step (stmt.Put e) = needed e
needs_step (stmt.Get path) = 0
needs_step (stmt.Halt kind file line) = 0
needs_step (stmt.Return e) = needed e

unfoldable pub needs : CoreStmt → ℕ
needs s = fold-CoreStmt ℕ needs_step s

-- Functions -----------------------------------------------------------------------------------------------------------

-- `int64_t NAME;`
abbrev pub declared : List ℕ → CVar
declared name = record { name = name; kind = Int true 64 }

-- so many names, from the first number on
abbrev pub named_from : (ℕ → List ℕ) → ℕ → ℕ → List CVar
named_from name first zero = []
named_from name first (suc count) = declared (name first) ∷ named_from name (suc first) count

-- the variables of a function, and then its temporaries
abbrev pub vars_of : CoreFun → List CVar
vars_of function =
    named_from variable_name 0 (length function.vars) ++ named_from temporary_name 0 (greatest (map needs function.body))

-- a body that comes to its end only by a return or a halt: where that isn't plain to see, there is a return behind it, to which no
-- run of a sound core comes
abbrev pub ended : List CStmt → List CStmt
ended body = if last_is (map ends_function body) then body else body ++ Return (Some (constant 0)) ∷ []

-- the prototype of the function with this number
abbrev pub proto_of : Core → ℕ → CoreFun → CFun
proto_of core number function =
    record { name = function_name core number function; inline = false; result = Int true 64; params = []; vars = []; body = []; line = 0 }

-- the C of the function with this number
abbrev pub function_of : Core → ℕ → CoreFun → CFun
function_of core number function =
    record (proto_of core number function) { vars = vars_of function; body = ended (flat_map (stmts_of core) function.body) }

-- something of each function, from the first number on
abbrev pub of_each : {A : Type 0} → (ℕ → CoreFun → A) → ℕ → List CoreFun → List A
of_each of number [] = []
of_each of number (function ∷ functions) = of number function ∷ of_each of (suc number) functions

-- the C of a core: the inline functions, and then its own
unfoldable pub c_of : Core → CFile
c_of core = record {
  structs = [];
  globals = [];
  protos = of_each (proto_of core) 0 core.functions;
  functions = helper_functions ++ of_each (function_of core) 0 core.functions;
}
