-- The tokens of a C tree, in order. Braces repeat, brackets are optional, and words and marks stand for themselves:
--
--   file      = {struct} {global} {prototype} {function}
--   struct    = struct NAME { member {member} } ;
--   member    = type NAME [[ NUMBER ]] ;  |  union { type NAME ; {type NAME ;} } NAME ;
--   global    = static type NAME ;
--   prototype = static result NAME ( params ) ;
--   function  = static [inline] result NAME ( params ) { {type NAME ;} {statement} }
--   params    = void  |  type NAME {, type NAME}
--   statement = place = expression ;  |  [place =] NAME ( [expression {, expression}] ) ;
--             |  if ( expression ) { {statement} } [else { {statement} }]
--             |  while ( 1 ) { {statement} }  |  break ;
--             |  for ( NAME = INT64_C ( 0 ) ; NAME < NUMBER ; NAME ++ ) { {statement} }
--             |  return [expression] ;  |  sl_put ( expression ) ;  |  place = sl_get ( ) ;
--             |  sl_halt ( NUMBER , NUMBER , NUMBER ) ;
--   place     = NAME
--   expression = INT64_C ( NUMBER )  |  UINT64_C ( NUMBER )  |  place  |  ( expression operator expression )  |  ( - expression )
--             |  ( int64_t ) ( expression comparison expression )
--   operator  = +  |  -  |  *  |  /  |  %
--   comparison = <  |  <=  |  >  |  >=  |  ==  |  !=
use Rattle.std.specs.Prelude.{ℕ, List, [], ◌∷◌, ◌++◌, Bool, true, false, Option, Some, None, map, codes, if◌then◌else◌}
use Rattle.std.specs.List.{flat_map}
use Rattle.std.specs.Fmt.{decimal}
use Rattle.c_tree.specs.declared.tree.CFile.{CFile}
use Rattle.c_tree.specs.declared.tree.CStruct.{CStruct}
use Rattle.c_tree.specs.declared.tree.CMember.{CMember}
use Rattle.c_tree.specs.declared.tree.CVar.{CVar}
use Rattle.c_tree.specs.declared.tree.CType.{CType}
use Rattle.c_tree.specs.declared.tree.CType.TheVariants.{Int, Void}
use Rattle.c_tree.specs.declared.tree.CFun.{CFun}
use Rattle.sl_num.specs.declared.comparing.Comparison.{Comparison}
use Rattle.sl_num.specs.declared.comparing.Comparison.TheVariants.{Less, LessEqual, Greater, GreaterEqual, Equal, NotEqual}
use Rattle.c_tree.specs.declared.tree.CBinary.{CBinary}
use Rattle.c_tree.specs.declared.tree.CBinary.TheVariants.{Add, Sub, Mul, Div, Rem}
use Rattle.c_tree.specs.declared.tree.CPlace.{CPlace}
use Rattle.c_tree.specs.declared.tree.CPlace.TheVariants.{Name}
use Rattle.c_tree.specs.declared.tree.CArg.{CArg}
use Rattle.c_tree.specs.declared.tree.CArg.TheVariants.{Value}
use Rattle.c_tree.specs.declared.tree.CStmt.{CStmt, CStmt-F, fold-CStmt}
use Rattle.c_tree.specs.declared.tree.CStmt.TheOpen as stmt
use Rattle.c_tree.specs.declared.tree.CExpr.{CExpr, CExpr-F, fold-CExpr}
use Rattle.c_tree.specs.declared.tree.CExpr.TheOpen as expr

-- a token as a tree has it: its spelling, and the line on which it stands where the tree says so, which it does of the first
-- token of a prototype and of a function
pub record Lexeme : Type 0 where
  pub spelling : List ℕ
  pub line : Option ℕ

-- a token of which the tree doesn't say the line
abbrev pub lexeme : List ℕ → Lexeme
lexeme spelling = record { spelling = spelling; line = None }

abbrev pub lexemes : List (List ℕ) → List Lexeme
lexemes spellings = map lexeme spellings

-- a type's name: `int64_t`, `uint8_t`, `void`
abbrev pub type_name : CType → List ℕ
type_name (Int true width) = codes "int" ++ decimal width ++ codes "_t"
type_name (Int false width) = codes "uint" ++ decimal width ++ codes "_t"
type_name Void = codes "void"

-- a kind and a name
abbrev pub flat_typed : CVar → List Lexeme
flat_typed var = lexemes (type_name var.kind ∷ var.name ∷ [])

-- a declaration of a variable, or of a member of a union
abbrev pub flat_var : CVar → List Lexeme
flat_var var = flat_typed var ++ lexemes (codes ";" ∷ [])

-- the length of an array
abbrev pub flat_count : Option ℕ → List Lexeme
flat_count None = []
flat_count (Some count) = lexemes (codes "[" ∷ decimal count ∷ codes "]" ∷ [])

-- a member of a struct
abbrev pub flat_choice : CMember → List CVar → List Lexeme
flat_choice member [] = lexemes (type_name member.kind ∷ member.name ∷ []) ++ flat_count member.count ++ lexemes (codes ";" ∷ [])
flat_choice member (first ∷ others) = lexemes (codes "union" ∷ codes "{" ∷ []) ++ flat_map flat_var (first ∷ others) ++ lexemes (codes "}" ∷ member.name ∷ codes ";" ∷ [])

abbrev pub flat_member : CMember → List Lexeme
flat_member member = flat_choice member member.choice

abbrev pub flat_struct : CStruct → List Lexeme
flat_struct struct = lexemes (codes "struct" ∷ struct.name ∷ codes "{" ∷ []) ++ flat_map flat_member struct.members ++ lexemes (codes "}" ∷ codes ";" ∷ [])

abbrev pub flat_global : CVar → List Lexeme
flat_global var = lexemes (codes "static" ∷ []) ++ flat_var var

-- the parameters of a function
abbrev pub flat_params : List CVar → List Lexeme
flat_params [] = lexemes (codes "void" ∷ [])
flat_params (first ∷ others) = flat_typed first ++ flat_map (λ param. lexemes (codes "," ∷ []) ++ flat_typed param) others

-- `inline`, or nothing
abbrev pub flat_inline : Bool → List Lexeme
flat_inline true = lexemes (codes "inline" ∷ [])
flat_inline false = []

-- a function up to its parameters. Its first token stands on its line
abbrev pub flat_head : CFun → List Lexeme
flat_head function =
    record { spelling = codes "static"; line = Some function.line }
    ∷ (flat_inline function.inline ++ lexemes (type_name function.result ∷ function.name ∷ codes "(" ∷ []) ++ flat_params function.params ++ lexemes (codes ")" ∷ []))

abbrev pub flat_proto : CFun → List Lexeme
flat_proto function = flat_head function ++ lexemes (codes ";" ∷ [])

-- the word before a constant
abbrev pub const_word : Bool → List ℕ
const_word signed = if signed then codes "INT64_C" else codes "UINT64_C"

abbrev pub operator_mark : CBinary → List ℕ
operator_mark Add = codes "+"
operator_mark Sub = codes "-"
operator_mark Mul = codes "*"
operator_mark Div = codes "/"
operator_mark Rem = codes "%"

abbrev pub comparison_mark : Comparison → List ℕ
comparison_mark Less = codes "<"
comparison_mark LessEqual = codes "<="
comparison_mark Greater = codes ">"
comparison_mark GreaterEqual = codes ">="
comparison_mark Equal = codes "=="
comparison_mark NotEqual = codes "!="

abbrev pub flat_place : CPlace → List Lexeme
flat_place (Name name) = lexemes (name ∷ [])

abbrev pub flat_expr_step : CExpr-F (List Lexeme) → List Lexeme
flat_expr_step (expr.Const signed number) = lexemes (const_word signed ∷ codes "(" ∷ decimal number ∷ codes ")" ∷ [])
flat_expr_step (expr.Read place) = flat_place place
flat_expr_step (expr.Binary operator left right) = lexemes (codes "(" ∷ []) ++ left ++ lexemes (operator_mark operator ∷ []) ++ right ++ lexemes (codes ")" ∷ [])
flat_expr_step (expr.Compare comparison left right) =
    lexemes (codes "(" ∷ codes "int64_t" ∷ codes ")" ∷ codes "(" ∷ []) ++ left ++ lexemes (comparison_mark comparison ∷ []) ++ right ++ lexemes (codes ")" ∷ [])
flat_expr_step (expr.Negate operand) = lexemes (codes "(" ∷ codes "-" ∷ []) ++ operand ++ lexemes (codes ")" ∷ [])

-- the tokens of an expression
unfoldable pub flat_expr : CExpr → List Lexeme
flat_expr e = fold-CExpr (List Lexeme) flat_expr_step e

abbrev pub flat_argument : CArg → List Lexeme
flat_argument (Value e) = flat_expr e

-- the arguments of a call
abbrev pub flat_arguments : List CArg → List Lexeme
flat_arguments [] = []
flat_arguments (first ∷ others) = flat_argument first ++ flat_map (λ argument. lexemes (codes "," ∷ []) ++ flat_argument argument) others

-- where the result of a call goes
abbrev pub flat_target : Option CPlace → List Lexeme
flat_target None = []
flat_target (Some place) = flat_place place ++ lexemes (codes "=" ∷ [])

-- a block, given the tokens of its statements
abbrev pub flat_block : List (List Lexeme) → List Lexeme
flat_block stmts = lexemes (codes "{" ∷ []) ++ flat_map (λ tokens. tokens) stmts ++ lexemes (codes "}" ∷ [])

abbrev pub flat_else : Option (List (List Lexeme)) → List Lexeme
flat_else None = []
flat_else (Some stmts) = lexemes (codes "else" ∷ []) ++ flat_block stmts

abbrev pub flat_returned : Option CExpr → List Lexeme
flat_returned None = []
flat_returned (Some e) = flat_expr e

abbrev pub flat_stmt_step : CStmt-F (List Lexeme) → List Lexeme
flat_stmt_step (stmt.Assign place e) = flat_place place ++ lexemes (codes "=" ∷ []) ++ flat_expr e ++ lexemes (codes ";" ∷ [])
flat_stmt_step (stmt.Call target name arguments) = flat_target target ++ lexemes (name ∷ codes "(" ∷ []) ++ flat_arguments arguments ++ lexemes (codes ")" ∷ codes ";" ∷ [])
flat_stmt_step (stmt.If test chosen other) = lexemes (codes "if" ∷ codes "(" ∷ []) ++ flat_expr test ++ lexemes (codes ")" ∷ []) ++ flat_block chosen ++ flat_else other
flat_stmt_step (stmt.Loop body) = lexemes (codes "while" ∷ codes "(" ∷ codes "1" ∷ codes ")" ∷ []) ++ flat_block body
flat_stmt_step (stmt.Count set tested count raised body) =
    lexemes
    (codes "for" ∷ codes "(" ∷ set ∷ codes "=" ∷ codes "INT64_C" ∷ codes "(" ∷ codes "0" ∷ codes ")" ∷ codes ";"
    ∷ tested ∷ codes "<" ∷ decimal count ∷ codes ";" ∷ raised ∷ codes "++" ∷ codes ")" ∷ [])
    ++ flat_block body
flat_stmt_step stmt.Break = lexemes (codes "break" ∷ codes ";" ∷ [])
flat_stmt_step (stmt.Return value) = lexemes (codes "return" ∷ []) ++ flat_returned value ++ lexemes (codes ";" ∷ [])
flat_stmt_step (stmt.Put e) = lexemes (codes "sl_put" ∷ codes "(" ∷ []) ++ flat_expr e ++ lexemes (codes ")" ∷ codes ";" ∷ [])
flat_stmt_step (stmt.Get place) = flat_place place ++ lexemes (codes "=" ∷ codes "sl_get" ∷ codes "(" ∷ codes ")" ∷ codes ";" ∷ [])
flat_stmt_step (stmt.Halt kind file line) =
    lexemes (codes "sl_halt" ∷ codes "(" ∷ decimal kind ∷ codes "," ∷ decimal file ∷ codes "," ∷ decimal line ∷ codes ")" ∷ codes ";" ∷ [])

-- the tokens of a statement
unfoldable pub flat_stmt : CStmt → List Lexeme
flat_stmt s = fold-CStmt (List Lexeme) flat_stmt_step s

abbrev pub flat_function : CFun → List Lexeme
flat_function function = flat_head function ++ lexemes (codes "{" ∷ []) ++ flat_map flat_var function.vars ++ flat_map flat_stmt function.body ++ lexemes (codes "}" ∷ [])

-- the tokens of a file
unfoldable pub cflat : CFile → List Lexeme
cflat file = flat_map flat_struct file.structs ++ flat_map flat_global file.globals ++ flat_map flat_proto file.protos ++ flat_map flat_function file.functions
