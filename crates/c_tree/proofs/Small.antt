-- Small trees, of which the examples are made.
use Rattle.std.specs.Prelude.{ℕ, List, [], ◌∷◌, true, false, Option, None, Some, map, codes}
use Rattle.c_tree.specs.declared.tree.CFile.{CFile}
use Rattle.c_tree.specs.declared.tree.CStruct.{CStruct}
use Rattle.c_tree.specs.declared.tree.CMember.{CMember}
use Rattle.c_tree.specs.declared.tree.CPlace.TheVariants.{Name}
use Rattle.c_tree.specs.declared.tree.CType.{CType}
use Rattle.c_tree.specs.declared.tree.CType.TheVariants.{Int}
use Rattle.c_tree.specs.declared.tree.CVar.{CVar}
use Rattle.c_tree.specs.declared.tree.CFun.{CFun}
use Rattle.c_tree.specs.declared.tree.CStmt.{CStmt}
use Rattle.c_tree.specs.declared.tree.CStmt.TheVariants.{Assign, Call, Return, Put}
use Rattle.c_tree.specs.declared.tree.CExpr.{CExpr}
use Rattle.c_tree.specs.declared.tree.CExpr.TheVariants.{Const, Read}

-- a variable of 64 bits
abbrev pub word : List ℕ → CVar
word name = record { name = name; kind = Int true 64 }

-- a function that isn't inline, without parameters and variables, on line 20
abbrev pub function_with : List ℕ → CType → List CStmt → CFun
function_with name result body = record { name = name; inline = false; result = result; params = []; vars = []; body = body; line = 20 }

-- an inline one
abbrev pub inline_with : List ℕ → CType → List CStmt → CFun
inline_with name result body = record (function_with name result body) { inline = true }

-- `sl_main` with these statements, on line 20
abbrev pub start_with : List CStmt → CFun
start_with body = function_with (codes "sl_main") (Int true 64) body

-- a function's prototype, on line 7
abbrev pub proto_of : CFun → CFun
proto_of function = record function { vars = []; body = []; line = 7 }

-- `INT64_C(NUMBER)`
abbrev pub signed : ℕ → CExpr
signed number = Const true number

-- `UINT64_C(NUMBER)`
abbrev pub unsigned : ℕ → CExpr
unsigned number = Const false number

-- `NAME`
abbrev pub named : List ℕ → CExpr
named name = Read (Name name)

-- `return INT64_C(VALUE);`
abbrev pub give : ℕ → CStmt
give value = Return (Some (signed value))

-- `sl_put(INT64_C(BYTE));`
abbrev pub say : ℕ → CStmt
say byte = Put (signed byte)

-- `NAME();`
abbrev pub bare_call : List ℕ → CStmt
bare_call name = Call None name []

-- `NAME = EXPR;`
abbrev pub set : List ℕ → CExpr → CStmt
set name e = Assign (Name name) e

-- a file of functions, with prototypes of these
abbrev pub file_with : List CFun → List CFun → CFile
file_with declared functions = record { structs = []; globals = []; protos = map proto_of declared; functions = functions }

-- a file of `sl_main` alone, with these statements
abbrev pub start_alone : List CStmt → CFile
start_alone body = file_with (start_with body ∷ []) (start_with body ∷ [])

-- a member of 64 bits, or an array of so many such
abbrev pub member_of : List ℕ → Option ℕ → CMember
member_of name count = record { name = name; kind = Int true 64; count = count; choice = [] }

-- a file of one struct
abbrev pub struct_alone : CStruct → CFile
struct_alone struct = record { structs = struct ∷ []; globals = []; protos = []; functions = [] }
