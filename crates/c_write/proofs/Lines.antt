-- A tree with the lines on which its functions stand: its tokens say these lines, and nothing else of it is different.
use Rattle.std.proofs.Common.{◌≡◌, ℕ, ◌≤◌, List, [], ◌∷◌, ◌++◌, Bool, true, false, Option, Some, None, refl, sym, ap, ap₂, subst, ◌∙◌, map, All, codes, decimal}
use Rattle.std.specs.List.{flat_map}
use Rattle.std.proofs.lemmas.List.Elements.{All-nil, All-cons, All-head, All-tail}
use Rattle.c_tree.specs.declared.tree.CFile.{CFile}
use Rattle.c_tree.specs.declared.tree.CStruct.{CStruct}
use Rattle.c_tree.specs.declared.tree.CMember.{CMember}
use Rattle.c_tree.specs.declared.tree.CVar.{CVar}
use Rattle.c_tree.specs.declared.tree.CFun.{CFun}
use Rattle.c_tree.specs.declared.tree.CPlace.{CPlace}
use Rattle.c_tree.specs.declared.tree.CPlace.TheVariants.{Name}
use Rattle.c_tree.specs.declared.tree.CArg.{CArg}
use Rattle.c_tree.specs.declared.tree.CArg.TheVariants.{Value}
use Rattle.c_tree.specs.declared.tree.CStmt.{CStmt, CStmt-F, ind-CStmt, map-CStmt, roll-CStmt}
use Rattle.c_tree.specs.declared.tree.CStmt.TheOpen as stmt
use Rattle.c_tree.specs.declared.tree.CExpr.{CExpr, CExpr-F, ind-CExpr, map-CExpr, roll-CExpr}
use Rattle.c_tree.specs.declared.tree.CExpr.TheOpen as expr
use Rattle.c_tree.specs.Flat.{Lexeme, lexeme, lexemes, type_name, flat_typed, flat_var, flat_count, flat_choice, flat_struct, flat_global, flat_params, flat_inline, flat_proto, const_word, operator_mark, comparison_mark, flat_place, flat_expr, flat_expr_step, flat_argument, flat_arguments, flat_target, flat_block, flat_returned, flat_stmt, flat_stmt_step, flat_function, cflat}
use Rattle.c_tree.specs.WellFormed.{IsHead, IsProto, IsFunction, IsWellFormed, stmt_depth}
use Rattle.c_write.specs.Lined.{Spot, line_at, behind_token, behind, first_spot, lined_all, protos_spot, functions_spot, lined}
use Rattle.c_tree.proofs.Layers.{flat_expr_layer, flat_stmt_layer}
use Rattle.c_write.proofs.Stamped.{stamped}

-- Lists of tokens -----------------------------------------------------------------------------------------------------

-- behind one list of tokens and another
behind-append : (spot : Spot) (front back : List Lexeme) → behind spot (front ++ back) ≡ behind (behind spot front) back
behind-append spot [] back = refl
behind-append spot (token ∷ front) back = behind-append (behind_token spot token.spelling) front back

-- the lines of one list of tokens and another
stamped-append : (spot : Spot) (front back : List Lexeme) → stamped spot (front ++ back) ≡ stamped spot front ++ stamped (behind spot front) back
stamped-append spot [] back = refl
stamped-append spot (token ∷ front) back = ap (λ rest. stamped spot (token ∷ []) ++ rest) (stamped-append (behind_token spot token.spelling) front back)

-- tokens that say no line stay as they are, wherever they come to stand
record SayNoLine (tokens : List Lexeme) : Type 0 where
  same : (spot : Spot) → stamped spot tokens ≡ tokens

-- spellings
plain : (spellings : List (List ℕ)) → SayNoLine (lexemes spellings)
plain spellings = record { same = λ spot. at spot spellings }
  where
    at : (spot : Spot) (those : List (List ℕ)) → stamped spot (lexemes those) ≡ lexemes those
    at spot [] = refl
    at spot (spelling ∷ those) = ap (λ rest. lexeme spelling ∷ rest) (at (behind_token spot spelling) those)

-- one list behind another
join : {front back : List Lexeme} → SayNoLine front → SayNoLine back → SayNoLine (front ++ back)
join {front} {back} of_front of_back = record {
  same = λ spot. stamped-append spot front back ∙ ap₂ (λ a b. a ++ b) (of_front.same spot) (of_back.same (behind spot front));
}

-- those of each item of a list
all_of : {A : Type 0} {flat : A → List Lexeme} → ((x : A) → SayNoLine (flat x)) → (xs : List A) → SayNoLine (flat_map flat xs)
all_of one [] = plain []
all_of one (x ∷ xs) = join (one x) (all_of one xs)

-- The forms -----------------------------------------------------------------------------------------------------------

-- a kind and a name
typed_plain : (var : CVar) → SayNoLine (flat_typed var)
typed_plain var = plain (type_name var.kind ∷ var.name ∷ [])

-- a variable
var_plain : (var : CVar) → SayNoLine (flat_var var)
var_plain var = join (typed_plain var) (plain (codes ";" ∷ []))

-- the length of an array
count_plain : (count : Option ℕ) → SayNoLine (flat_count count)
count_plain None = plain []
count_plain (Some count) = plain (codes "[" ∷ decimal count ∷ codes "]" ∷ [])

-- a member of a struct
choice_plain : (member : CMember) (choice : List CVar) → SayNoLine (flat_choice member choice)
choice_plain member [] = join (join (plain (type_name member.kind ∷ member.name ∷ [])) (count_plain member.count)) (plain (codes ";" ∷ []))
choice_plain member (first ∷ others) =
    join (join (plain (codes "union" ∷ codes "{" ∷ [])) (all_of var_plain (first ∷ others))) (plain (codes "}" ∷ member.name ∷ codes ";" ∷ []))

-- a struct
struct_plain : (struct : CStruct) → SayNoLine (flat_struct struct)
struct_plain struct =
    join (join (plain (codes "struct" ∷ struct.name ∷ codes "{" ∷ [])) (all_of (λ member. choice_plain member member.choice) struct.members))
    (plain (codes "}" ∷ codes ";" ∷ []))

-- a global variable
global_plain : (var : CVar) → SayNoLine (flat_global var)
global_plain var = join (plain (codes "static" ∷ [])) (var_plain var)

-- the parameters of a function
params_plain : (params : List CVar) → SayNoLine (flat_params params)
params_plain [] = plain (codes "void" ∷ [])
params_plain (first ∷ others) = join (typed_plain first) (all_of (λ param. join (plain (codes "," ∷ [])) (typed_plain param)) others)

-- `inline`, or nothing
inline_plain : (inline : Bool) → SayNoLine (flat_inline inline)
inline_plain true = plain (codes "inline" ∷ [])
inline_plain false = plain []

-- a function behind its first token, up to its parameters
abbrev head_rest : CFun → List Lexeme
head_rest function = flat_inline function.inline ++ lexemes (type_name function.result ∷ function.name ∷ codes "(" ∷ []) ++ flat_params function.params ++ lexemes (codes ")" ∷ [])

-- it says no line
head_plain : (function : CFun) → SayNoLine (head_rest function)
head_plain function =
    join (join (join (inline_plain function.inline) (plain (type_name function.result ∷ function.name ∷ codes "(" ∷ []))) (params_plain function.params))
    (plain (codes ")" ∷ []))

-- a place
place_plain : (place : CPlace) → SayNoLine (flat_place place)
place_plain (Name name) = plain (name ∷ [])

-- an expression
expr_plain : (e : CExpr) → SayNoLine (flat_expr e)
expr_plain e = ind-CExpr Plain (λ x y same. subst (λ z. Plain (roll-CExpr z)) same (layer y)) e
  where
    Plain : CExpr → Type 0
    Plain x = SayNoLine (flat_expr x)

    Known : Type 0
    Known = (x : CExpr) × Plain x

    of_layer : (x : CExpr-F CExpr) → SayNoLine (flat_expr_step (map-CExpr CExpr (List Lexeme) flat_expr x)) → Plain (roll-CExpr x)
    of_layer x says = subst SayNoLine (sym (flat_expr_layer x)) says

    layer : (y : CExpr-F Known) → Plain (roll-CExpr (map-CExpr Known CExpr (λ known. known.0) y))
    layer (expr.Const signed number) = of_layer (expr.Const signed number) (plain (const_word signed ∷ codes "(" ∷ decimal number ∷ codes ")" ∷ []))
    layer (expr.Read place) = of_layer (expr.Read place) (place_plain place)
    layer (expr.Binary operator left right) =
        of_layer (expr.Binary operator left.0 right.0)
        (join (join (join (join (plain (codes "(" ∷ [])) left.1) (plain (operator_mark operator ∷ []))) right.1) (plain (codes ")" ∷ [])))
    layer (expr.Compare comparison left right) =
        of_layer (expr.Compare comparison left.0 right.0)
        (join (join (join (join (plain (codes "(" ∷ codes "int64_t" ∷ codes ")" ∷ codes "(" ∷ [])) left.1) (plain (comparison_mark comparison ∷ []))) right.1) (plain (codes ")" ∷ [])))
    layer (expr.Negate operand) =
        of_layer (expr.Negate operand.0) (join (join (plain (codes "(" ∷ codes "-" ∷ [])) operand.1) (plain (codes ")" ∷ [])))

-- an argument
argument_plain : (argument : CArg) → SayNoLine (flat_argument argument)
argument_plain (Value e) = expr_plain e

-- the arguments of a call
arguments_plain : (arguments : List CArg) → SayNoLine (flat_arguments arguments)
arguments_plain [] = plain []
arguments_plain (first ∷ others) = join (argument_plain first) (all_of (λ argument. join (plain (codes "," ∷ [])) (argument_plain argument)) others)

-- where the result of a call goes
target_plain : (target : Option CPlace) → SayNoLine (flat_target target)
target_plain None = plain []
target_plain (Some place) = join (place_plain place) (plain (codes "=" ∷ []))

-- what is returned
returned_plain : (value : Option CExpr) → SayNoLine (flat_returned value)
returned_plain None = plain []
returned_plain (Some e) = expr_plain e

-- a statement
stmt_plain : (s : CStmt) → SayNoLine (flat_stmt s)
stmt_plain s = ind-CStmt Plain (λ x y same. subst (λ z. Plain (roll-CStmt z)) same (layer y)) s
  where
    Plain : CStmt → Type 0
    Plain x = SayNoLine (flat_stmt x)

    Known : Type 0
    Known = (x : CStmt) × Plain x

    first : Known → CStmt
    first known = known.0

    of_layer : (x : CStmt-F CStmt) → SayNoLine (flat_stmt_step (map-CStmt CStmt (List Lexeme) flat_stmt x)) → Plain (roll-CStmt x)
    of_layer x says = subst SayNoLine (sym (flat_stmt_layer x)) says

    inner : (stmts : List Known) → SayNoLine (flat_map (λ tokens. tokens) (map flat_stmt (map first stmts)))
    inner [] = plain []
    inner (known ∷ stmts) = join known.1 (inner stmts)

    block : (stmts : List Known) → SayNoLine (flat_block (map flat_stmt (map first stmts)))
    block stmts = join (join (plain (codes "{" ∷ [])) (inner stmts)) (plain (codes "}" ∷ []))

    tested : (test : CExpr) (chosen : List Known) → SayNoLine (lexemes (codes "if" ∷ codes "(" ∷ []) ++ flat_expr test ++ lexemes (codes ")" ∷ []) ++ flat_block (map flat_stmt (map first chosen)))
    tested test chosen = join (join (join (plain (codes "if" ∷ codes "(" ∷ [])) (expr_plain test)) (plain (codes ")" ∷ []))) (block chosen)

    layer : (y : CStmt-F Known) → Plain (roll-CStmt (map-CStmt Known CStmt first y))
    layer (stmt.Assign place e) = of_layer (stmt.Assign place e) (join (join (join (place_plain place) (plain (codes "=" ∷ []))) (expr_plain e)) (plain (codes ";" ∷ [])))
    layer (stmt.Call target name arguments) =
        of_layer (stmt.Call target name arguments)
        (join (join (join (target_plain target) (plain (name ∷ codes "(" ∷ []))) (arguments_plain arguments)) (plain (codes ")" ∷ codes ";" ∷ [])))
    layer (stmt.If test chosen None) = of_layer (stmt.If test (map first chosen) None) (join (tested test chosen) (plain []))
    layer (stmt.If test chosen (Some other)) =
        of_layer (stmt.If test (map first chosen) (Some (map first other))) (join (tested test chosen) (join (plain (codes "else" ∷ [])) (block other)))
    layer (stmt.Loop body) = of_layer (stmt.Loop (map first body)) (join (plain (codes "while" ∷ codes "(" ∷ codes "1" ∷ codes ")" ∷ [])) (block body))
    layer (stmt.Count set tested count raised body) =
        of_layer (stmt.Count set tested count raised (map first body))
        (join
        (plain
        (codes "for" ∷ codes "(" ∷ set ∷ codes "=" ∷ codes "INT64_C" ∷ codes "(" ∷ codes "0" ∷ codes ")" ∷ codes ";"
        ∷ tested ∷ codes "<" ∷ decimal count ∷ codes ";" ∷ raised ∷ codes "++" ∷ codes ")" ∷ []))
        (block body))
    layer stmt.Break = of_layer stmt.Break (plain (codes "break" ∷ codes ";" ∷ []))
    layer (stmt.Return value) = of_layer (stmt.Return value) (join (join (plain (codes "return" ∷ [])) (returned_plain value)) (plain (codes ";" ∷ [])))
    layer (stmt.Put e) = of_layer (stmt.Put e) (join (join (plain (codes "sl_put" ∷ codes "(" ∷ [])) (expr_plain e)) (plain (codes ")" ∷ codes ";" ∷ [])))
    layer (stmt.Get place) = of_layer (stmt.Get place) (join (place_plain place) (plain (codes "=" ∷ codes "sl_get" ∷ codes "(" ∷ codes ")" ∷ codes ";" ∷ [])))
    layer (stmt.Halt kind file line) =
        of_layer (stmt.Halt kind file line) (plain (codes "sl_halt" ∷ codes "(" ∷ decimal kind ∷ codes "," ∷ decimal file ∷ codes "," ∷ decimal line ∷ codes ")" ∷ codes ";" ∷ []))

-- Functions -----------------------------------------------------------------------------------------------------------

-- a function on a line
abbrev on_line : CFun → ℕ → CFun
on_line function line = record function { line = line }

-- the first token of a function on a line
abbrev static_on : ℕ → Lexeme
static_on line = record { spelling = codes "static"; line = Some line }

-- the tokens of a function on the line on which its first token comes to stand, where only that token says it
static_stamped : (spot : Spot) (line : ℕ) (rest : List Lexeme) → SayNoLine rest → static_on (line_at spot (codes "static")) ∷ rest ≡ stamped spot (static_on line ∷ rest)
static_stamped spot line rest says = ap (λ tokens. static_on (line_at spot (codes "static")) ∷ tokens) (sym (says.same (behind_token spot (codes "static"))))

-- a prototype
proto_stamped : (function : CFun) (spot : Spot) → flat_proto (on_line function (line_at spot (codes "static"))) ≡ stamped spot (flat_proto function)
proto_stamped function spot =
    static_stamped spot function.line (head_rest function ++ lexemes (codes ";" ∷ [])) (join (head_plain function) (plain (codes ";" ∷ [])))

-- a function
function_stamped : (function : CFun) (spot : Spot) → flat_function (on_line function (line_at spot (codes "static"))) ≡ stamped spot (flat_function function)
function_stamped function spot =
    static_stamped spot function.line
    (head_rest function ++ lexemes (codes "{" ∷ []) ++ flat_map flat_var function.vars ++ flat_map flat_stmt function.body ++ lexemes (codes "}" ∷ []))
    (join (join (join (join (head_plain function) (plain (codes "{" ∷ []))) (all_of var_plain function.vars)) (all_of stmt_plain function.body)) (plain (codes "}" ∷ [])))

-- functions that have these tokens
module _ (flat : CFun → List Lexeme) where
  -- the tokens of functions on the lines on which they come to stand
  all_stamped : ((function : CFun) (spot : Spot) → flat (on_line function (line_at spot (codes "static"))) ≡ stamped spot (flat function)) → (spot : Spot) (functions : List CFun) → flat_map flat (lined_all flat spot functions) ≡ stamped spot (flat_map flat functions)
  all_stamped one spot [] = refl
  all_stamped one spot (function ∷ functions) =
      ap₂ (λ a b. a ++ b) (one function spot) (all_stamped one (behind spot (flat function)) functions)
      ∙ sym (stamped-append spot (flat function) (flat_map flat functions))

  -- what holds of functions on any line holds of them on their lines
  all_lined : (P : CFun → Type 0) → ((function : CFun) (line : ℕ) → P function → P (on_line function line)) → (spot : Spot) (functions : List CFun) → All P functions → All P (lined_all flat spot functions)
  all_lined P moves spot [] are = All-nil P
  all_lined P moves spot (function ∷ functions) are =
      All-cons P (on_line function (line_at spot (codes "static"))) (lined_all flat (behind spot (flat function)) functions)
      (moves function (line_at spot (codes "static")) (All-head P function functions are))
      (all_lined P moves (behind spot (flat function)) functions (All-tail P function functions are))

-- the lines of tokens that say none, and then of others and of others behind those
three_stamped : (spot : Spot) (front middle back : List Lexeme) → SayNoLine front → stamped spot (front ++ middle ++ back) ≡ front ++ stamped (behind spot front) middle ++ stamped (behind (behind spot front) middle) back
three_stamped spot front middle back says =
    stamped-append spot (front ++ middle) back
    ∙ ap₂ (λ tokens at. tokens ++ stamped at back) (stamped-append spot front middle ∙ ap (λ tokens. tokens ++ stamped (behind spot front) middle) (says.same spot)) (behind-append spot front middle)

-- the tokens of a tree with its lines are its tokens with their lines
pub cflat_lined : (file : CFile) → cflat (lined file) ≡ stamped first_spot (cflat file)
unfolding cflat lined
cflat_lined file =
    let front = flat_map flat_struct file.structs ++ flat_map flat_global file.globals in
    let protos = all_stamped flat_proto proto_stamped (protos_spot file) file.protos in
    let functions = all_stamped flat_function function_stamped (functions_spot file) file.functions in
    let says = join (all_of struct_plain file.structs) (all_of global_plain file.globals)
    in ap₂ (λ a b. front ++ a ++ b) protos functions
    ∙ sym (three_stamped first_spot front (flat_map flat_proto file.protos) (flat_map flat_function file.functions) says)

-- Well-formed trees ---------------------------------------------------------------------------------------------------

-- the head of a function that is well-formed is so on any line
head_on : (function : CFun) (line : ℕ) → IsHead function → IsHead (on_line function line)
head_on function line is = record { name = is.name; result = is.result; params = is.params }

-- so is a prototype
proto_on : (function : CFun) (line : ℕ) → IsProto function → IsProto (on_line function line)
proto_on function line is = record { head = head_on function line is.head; inline = is.inline; vars = is.vars; body = is.body }

-- and a function
function_on : (function : CFun) (line : ℕ) → IsFunction function → IsFunction (on_line function line)
function_on function line is = record { head = head_on function line is.head; vars = is.vars; body = is.body }

-- a well-formed tree is so with its lines
pub well_formed_lined : (file : CFile) → IsWellFormed file → IsWellFormed (lined file)
unfolding lined
well_formed_lined file is = record {
  structs = is.structs;
  globals = is.globals;
  protos = all_lined flat_proto IsProto proto_on (protos_spot file) file.protos is.protos;
  functions = all_lined flat_function IsFunction function_on (functions_spot file) file.functions is.functions;
  nesting = all_lined flat_function (λ function. All (λ stmt. stmt_depth stmt ≤ 1024) function.body) (λ function line nests. nests) (functions_spot file) file.functions is.nesting;
}
