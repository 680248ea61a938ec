-- Every token of a well-formed tree is one.
use Rattle.std.proofs.Common.{◌≡◌, ℕ, ◌-◌, ◌^◌, ◌<◌, ◌≤◌, List, [], ◌∷◌, ◌++◌, length, Bool, true, false, not, ◌&&◌, ◌||◌, Option, Some, None, refl, sym, ap, subst, inl, inr, ⊎_elim, arith, rules, All, IfSome, map, codes, decimal, bytes_eq}
use Rattle.std.specs.Prelude.{◌==◌}
use Rattle.std.specs.Char.{is_ascii_alphanumeric, is_ascii_digit}
use Rattle.std.specs.Fmt.{digits}
use Rattle.std.specs.List.{list_all, list_any, flat_map}
use Rattle.std.specs.Str.{all_ascii_digits}
use Rattle.std.proofs.lemmas.Bool.{and_parts, or_cases}
use Rattle.std.proofs.lemmas.Bool.Decides.{Decides-by_and, Decides-by_or, Decides-or, Decides-eqb}
use Rattle.std.proofs.lemmas.Fmt.{digits_decimal, decimal_nonempty}
use Rattle.std.proofs.lemmas.List.Elements.{All-nil, All-cons, All-head, All-tail, All-append, Decides-contains}
use Rattle.std.proofs.lemmas.Slice.Eq.{bytes_eq-Decides}
use Rattle.std.proofs.lemmas.Str.Parse.{numerals_by_value}
use Rattle.c_tree.specs.declared.tree.CFile.{CFile}
use Rattle.c_tree.specs.declared.tree.CStruct.{CStruct}
use Rattle.c_tree.specs.declared.tree.CMember.{CMember}
use Rattle.c_tree.specs.declared.tree.CVar.{CVar}
use Rattle.c_tree.specs.declared.tree.CType.{CType}
use Rattle.c_tree.specs.declared.tree.CType.TheVariants.{Int, Void}
use Rattle.c_tree.specs.declared.tree.CFun.{CFun}
use Rattle.sl_num.specs.declared.comparing.Comparison.{Comparison}
use Rattle.sl_num.specs.declared.comparing.Comparison.TheVariants.{Less, LessEqual, Greater, GreaterEqual, Equal, NotEqual}
use Rattle.c_tree.specs.declared.tree.CBinary.{CBinary}
use Rattle.c_tree.specs.declared.tree.CBinary.TheVariants.{Add, Sub, Mul, Div, Rem}
use Rattle.c_tree.specs.declared.tree.CPlace.{CPlace}
use Rattle.c_tree.specs.declared.tree.CPlace.TheVariants.{Name}
use Rattle.c_tree.specs.declared.tree.CArg.{CArg}
use Rattle.c_tree.specs.declared.tree.CArg.TheVariants.{Value}
use Rattle.c_tree.specs.declared.tree.CStmt.{CStmt, CStmt-F, ind-CStmt, map-CStmt, roll-CStmt}
use Rattle.c_tree.specs.declared.tree.CStmt.TheOpen as stmt
use Rattle.c_tree.specs.declared.tree.CExpr.{CExpr, CExpr-F, ind-CExpr, map-CExpr, roll-CExpr}
use Rattle.c_tree.specs.declared.tree.CExpr.TheOpen as expr
use Rattle.c_tree.specs.Words.{IsIdentifierByte, IsDigit, IsIdentifier, marks, IsToken, IsName}
use Rattle.c_tree.specs.Flat.{Lexeme, lexeme, lexemes, type_name, flat_typed, flat_var, flat_count, flat_choice, flat_member, flat_struct, flat_global, flat_params, flat_inline, flat_head, flat_proto, const_word, operator_mark, comparison_mark, flat_place, flat_expr, flat_expr_step, flat_argument, flat_arguments, flat_target, flat_block, flat_returned, flat_stmt, flat_stmt_step, flat_function, cflat}
use Rattle.c_tree.specs.Parts.{Leaf, Constant, Reads, leaves, leaves_step, Action, Assigns, Calls, Tests, Returns, Puts, Gets, Loops, Counts, Halts, actions, actions_step, argument_of, arguments_of, joined}
use Rattle.c_tree.specs.WellFormed.{IsWidth, IsInteger, IsWord, IsResult, IsVar, IsParam, IsChoice, IsMember, IsStruct, IsHead, IsProto, IsPlace, IsLeaf, IsExpr, IsAction, IsStmt, IsFunction, IsWellFormed}
use Rattle.c_write.specs.Written.{flat_for}
use Rattle.c_tree.proofs.Layers.{flat_expr_layer, flat_stmt_layer, leaves_layer, actions_layer}

-- Spellings -----------------------------------------------------------------------------------------------------------

-- whether a byte can stand in an identifier
abbrev is_word_byte : ℕ → Bool
is_word_byte byte = is_ascii_alphanumeric byte || byte == 95

-- whether bytes are an identifier
abbrev is_word : List ℕ → Bool
is_word [] = false
is_word (byte ∷ bytes) = not (is_ascii_digit byte) && list_all is_word_byte (byte ∷ bytes)

-- whether bytes are an identifier or a mark
abbrev is_fixed : List ℕ → Bool
is_fixed spelling = is_word spelling || list_any (λ mark. bytes_eq mark spelling) marks

-- bytes that pass the test are an identifier
word_is : (bytes : List ℕ) → is_word bytes ≡ true → IsIdentifier bytes
word_is [] passed = cc
word_is (byte ∷ bytes) passed =
    let parts = and_parts (not (is_ascii_digit byte)) (list_all is_word_byte (byte ∷ bytes)) passed in
    let each = λ (b : ℕ). Decides-or (is_ascii_alphanumeric b) (b == 95) (λ e. e, λ e. e) (Decides-eqb b 95)
    in record {
      bytes = (Decides-by_and is_word_byte IsIdentifierByte (list_all is_word_byte) each refl (λ _ _. refl) (byte ∷ bytes)).0 parts.1;
      begins = λ digit. let other = parts.0 in cc (ap not digit);
    }

-- bytes that pass the test are a token
fixed_is : (spelling : List ℕ) → is_fixed spelling ≡ true → IsToken spelling
fixed_is spelling passed =
    let is_it = λ (mark : List ℕ). bytes_eq mark spelling in
    let at_some = Decides-by_or is_it (λ mark. mark ≡ spelling) (list_any is_it) (λ mark. bytes_eq-Decides mark spelling) refl (λ _ _. refl) marks in
    let decides = Decides-contains marks spelling (list_any is_it marks) at_some
    in ⊎_elim (λ word. inl (word_is spelling word)) (λ mark. inr (inr (decides.0 mark))) (or_cases (is_word spelling) (list_any is_it marks) passed)

-- so is a digit
digit_is : (byte : ℕ) → IsDigit byte → IsToken (byte ∷ [])
digit_is byte is = inr (inl (record { digits = All-cons IsDigit byte [] is (All-nil IsDigit); some = λ e. cc }))

-- the number of a constant or a count, as it is written, is a token
decimal_is : (n : ℕ) → n < 2 ^ 64 → IsToken (decimal n)
decimal_is n small = inr (inl (record {
  digits =
      (Decides-by_and is_ascii_digit IsDigit all_ascii_digits (λ _. (λ e. e, λ e. e)) refl (λ _ _. refl) (decimal n)).0
      (digits_decimal (numerals_by_value (λ ds. all_ascii_digits ds ≡ true) (search rules)) n small);
  some = λ e. let some = decimal_nonempty n small in let none = ap length e in omega arith;
}))

-- what holds of the four widths holds of each
of_width : (P : ℕ → Type 0) → P 8 → P 16 → P 32 → P 64 → (width : ℕ) → IsWidth width → P width
of_width P p8 p16 p32 p64 width (inl e) = subst P (sym e) p8
of_width P p8 p16 p32 p64 width (inr (inl e)) = subst P (sym e) p16
of_width P p8 p16 p32 p64 width (inr (inr (inl e))) = subst P (sym e) p32
of_width P p8 p16 p32 p64 width (inr (inr (inr e))) = subst P (sym e) p64

-- the name of an integer type is an identifier
integer_is : (kind : CType) → IsInteger kind → is_fixed (type_name kind) ≡ true
unfolding digits
integer_is (Int true width) is = of_width (λ w. is_fixed (type_name (Int true w)) ≡ true) refl refl refl refl width is
integer_is (Int false width) is = of_width (λ w. is_fixed (type_name (Int false w)) ≡ true) refl refl refl refl width is
integer_is Void is = absurd is

-- a kind of parameters is an integer type
word_integer : (kind : CType) → IsWord kind → IsInteger kind
word_integer (Int signed width) is = inr (inr (inr is))
word_integer Void is = is

-- the name of an integer type is a token
kind_is : (kind : CType) → IsInteger kind → IsToken (type_name kind)
kind_is kind is = fixed_is (type_name kind) (integer_is kind is)

-- so is the name of what a function gives
result_is : (kind : CType) → IsResult kind → IsToken (type_name kind)
result_is kind (inl is) = kind_is kind (word_integer kind is)
result_is kind (inr e) = subst (λ k. IsToken (type_name k)) (sym e) (fixed_is (codes "void") refl)

-- Lists of tokens -----------------------------------------------------------------------------------------------------

-- each of these is a token
record AreTokens (tokens : List Lexeme) : Type 0 where
  each : All (λ token. IsToken token.spelling) tokens

-- none
no_tokens : AreTokens []
no_tokens = record { each = All-nil (λ token. IsToken token.spelling) }

-- one more in front
next_on : (line : Option ℕ) {spelling : List ℕ} {tokens : List Lexeme} → IsToken spelling → AreTokens tokens → AreTokens (record { spelling = spelling; line = line } ∷ tokens)
next_on line {spelling} {tokens} is are = record { each = All-cons (λ token. IsToken token.spelling) (record { spelling = spelling; line = line }) tokens is are.each }

-- one more in front, of which no line is said
next : {spelling : List ℕ} {tokens : List Lexeme} → IsToken spelling → AreTokens tokens → AreTokens (lexeme spelling ∷ tokens)
next is are = next_on None is are

-- one list behind another
join : {front back : List Lexeme} → AreTokens front → AreTokens back → AreTokens (front ++ back)
join {front} {back} of_front of_back = record { each = All-append (λ token. IsToken token.spelling) front back of_front.each of_back.each }

-- words and marks
fixed : (spellings : List (List ℕ)) → list_all is_fixed spellings ≡ true → AreTokens (lexemes spellings)
fixed [] passed = no_tokens
fixed (spelling ∷ spellings) passed =
    let parts = and_parts (is_fixed spelling) (list_all is_fixed spellings) passed
    in next (fixed_is spelling parts.0) (fixed spellings parts.1)

-- those of each item of a list
all_of : {A : Type 0} {Good : A → Type 0} {flat : A → List Lexeme} → ((x : A) → Good x → AreTokens (flat x)) → (xs : List A) → All Good xs → AreTokens (flat_map flat xs)
all_of one [] good = no_tokens
all_of {A} {Good} one (x ∷ xs) good = join (one x (All-head Good x xs good)) (all_of one xs (All-tail Good x xs good))

-- what holds of each in two lists together holds of each in both
all_parts : {A : Type 0} (P : A → Type 0) (front back : List A) → All P (front ++ back) → All P front × All P back
all_parts P [] back are = (All-nil P, are)
all_parts P (x ∷ front) back are =
    let parts = all_parts P front back (All-tail P x (front ++ back) are)
    in (All-cons P x front (All-head P x (front ++ back) are) parts.0, parts.1)

-- The forms -----------------------------------------------------------------------------------------------------------

-- a name
name_is : (name : List ℕ) → IsName name → IsToken name
name_is name is = inl is.identifier

-- a kind and a name
typed_tokens : (var : CVar) → IsInteger var.kind → IsName var.name → AreTokens (flat_typed var)
typed_tokens var kind name = next (kind_is var.kind kind) (next (name_is var.name name) no_tokens)

-- a variable
var_tokens : (var : CVar) → IsVar var → AreTokens (flat_var var)
var_tokens var is = join (typed_tokens var is.kind is.name) (fixed (codes ";" ∷ []) refl)

-- the length of an array
count_tokens : (count : Option ℕ) → IfSome count (λ n. n ≤ 2 ^ 32 - 1) → AreTokens (flat_count count)
count_tokens None small = no_tokens
count_tokens (Some count) small = join (fixed (codes "[" ∷ []) refl) (next (decimal_is count (omega arith)) (fixed (codes "]" ∷ []) refl))

-- what a member of a struct can be
choice_tokens : (member : CMember) (choice : List CVar) → IsName member.name → IsChoice member choice → AreTokens (flat_choice member choice)
choice_tokens member [] name is =
    join (join (next (kind_is member.kind is.0) (next (name_is member.name name) no_tokens)) (count_tokens member.count is.1)) (fixed (codes ";" ∷ []) refl)
choice_tokens member (first ∷ others) name is =
    join (join (fixed (codes "union" ∷ codes "{" ∷ []) refl) (all_of var_tokens (first ∷ others) is.2))
    (join (fixed (codes "}" ∷ []) refl) (next (name_is member.name name) (fixed (codes ";" ∷ []) refl)))

-- a member of a struct
member_tokens : (member : CMember) → IsMember member → AreTokens (flat_member member)
member_tokens member is = choice_tokens member member.choice is.name is.choice

-- a struct
struct_tokens : (struct : CStruct) → IsStruct struct → AreTokens (flat_struct struct)
struct_tokens struct is =
    join (join (join (fixed (codes "struct" ∷ []) refl) (next (name_is struct.name is.name) (fixed (codes "{" ∷ []) refl))) (all_of member_tokens struct.members is.members))
    (fixed (codes "}" ∷ codes ";" ∷ []) refl)

-- a global variable
global_tokens : (var : CVar) → IsVar var → AreTokens (flat_global var)
global_tokens var is = join (fixed (codes "static" ∷ []) refl) (var_tokens var is)

-- a parameter
param_tokens : (var : CVar) → IsParam var → AreTokens (flat_typed var)
param_tokens var is = typed_tokens var (word_integer var.kind is.kind) is.name

-- the parameters of a function
params_tokens : (params : List CVar) → All IsParam params → AreTokens (flat_params params)
params_tokens [] are = fixed (codes "void" ∷ []) refl
params_tokens (first ∷ others) are =
    join (param_tokens first (All-head IsParam first others are))
    (all_of (λ var is. join (fixed (codes "," ∷ []) refl) (param_tokens var is)) others (All-tail IsParam first others are))

-- `inline`, or nothing
inline_tokens : (inline : Bool) → AreTokens (flat_inline inline)
inline_tokens true = fixed (codes "inline" ∷ []) refl
inline_tokens false = no_tokens

-- a function up to its parameters
head_tokens : (function : CFun) → IsHead function → AreTokens (flat_head function)
head_tokens function is =
    let result = next (result_is function.result is.result) (next (name_is function.name is.name) (fixed (codes "(" ∷ []) refl))
    in next_on (Some function.line) (fixed_is (codes "static") refl)
    (join (join (join (inline_tokens function.inline) result) (params_tokens function.params is.params)) (fixed (codes ")" ∷ []) refl))

-- a prototype
proto_tokens : (function : CFun) → IsProto function → AreTokens (flat_proto function)
proto_tokens function is = join (head_tokens function is.head) (fixed (codes ";" ∷ []) refl)

-- a place
place_tokens : (place : CPlace) → IsPlace place → AreTokens (flat_place place)
place_tokens (Name name) is = next (name_is name is) no_tokens

-- an operator and a comparison
operator_is : (operator : CBinary) → IsToken (operator_mark operator)
operator_is Add = fixed_is (codes "+") refl
operator_is Sub = fixed_is (codes "-") refl
operator_is Mul = fixed_is (codes "*") refl
operator_is Div = fixed_is (codes "/") refl
operator_is Rem = fixed_is (codes "%") refl

comparison_is : (comparison : Comparison) → IsToken (comparison_mark comparison)
comparison_is Less = fixed_is (codes "<") refl
comparison_is LessEqual = fixed_is (codes "<=") refl
comparison_is Greater = fixed_is (codes ">") refl
comparison_is GreaterEqual = fixed_is (codes ">=") refl
comparison_is Equal = fixed_is (codes "==") refl
comparison_is NotEqual = fixed_is (codes "!=") refl

-- a constant
const_tokens : (signed : Bool) (number : ℕ) → IsLeaf (Constant signed number) → AreTokens (lexemes (const_word signed ∷ codes "(" ∷ decimal number ∷ codes ")" ∷ []))
const_tokens true number small = join (fixed (codes "INT64_C" ∷ codes "(" ∷ []) refl) (next (decimal_is number (omega arith)) (fixed (codes ")" ∷ []) refl))
const_tokens false number small = join (fixed (codes "UINT64_C" ∷ codes "(" ∷ []) refl) (next (decimal_is number (omega arith)) (fixed (codes ")" ∷ []) refl))

-- an expression
expr_tokens : (e : CExpr) → IsExpr e → AreTokens (flat_expr e)
expr_tokens e = ind-CExpr Good (λ x y same. subst (λ z. Good (roll-CExpr z)) same (layer y)) e
  where
    Good : CExpr → Type 0
    Good x = IsExpr x → AreTokens (flat_expr x)

    Known : Type 0
    Known = (x : CExpr) × Good x

    of_layer : (x : CExpr-F CExpr) → (All IsLeaf (leaves_step (map-CExpr CExpr (List Leaf) leaves x)) → AreTokens (flat_expr_step (map-CExpr CExpr (List Lexeme) flat_expr x))) → Good (roll-CExpr x)
    of_layer x tokens is = subst AreTokens (sym (flat_expr_layer x)) (tokens (subst (All IsLeaf) (leaves_layer x) is))

    pair : (front : List Lexeme) (left right : Known) {mark : List ℕ} → AreTokens front → IsToken mark → All IsLeaf (leaves left.0 ++ leaves right.0) → AreTokens (front ++ flat_expr left.0 ++ lexemes (mark ∷ []) ++ flat_expr right.0 ++ lexemes (codes ")" ∷ []))
    pair front left right opens mark_is is =
        let both = all_parts IsLeaf (leaves left.0) (leaves right.0) is
        in join (join (join (join opens (left.1 both.0)) (next mark_is no_tokens)) (right.1 both.1)) (fixed (codes ")" ∷ []) refl)

    layer : (y : CExpr-F Known) → Good (roll-CExpr (map-CExpr Known CExpr (λ known. known.0) y))
    layer (expr.Const signed number) = of_layer (expr.Const signed number) (λ is. const_tokens signed number (All-head IsLeaf (Constant signed number) [] is))
    layer (expr.Read place) = of_layer (expr.Read place) (λ is. place_tokens place (All-head IsLeaf (Reads place) [] is))
    layer (expr.Binary operator left right) =
        of_layer (expr.Binary operator left.0 right.0) (pair (lexemes (codes "(" ∷ [])) left right (fixed (codes "(" ∷ []) refl) (operator_is operator))
    layer (expr.Compare comparison left right) =
        of_layer (expr.Compare comparison left.0 right.0)
        (pair (lexemes (codes "(" ∷ codes "int64_t" ∷ codes ")" ∷ codes "(" ∷ [])) left right (fixed (codes "(" ∷ codes "int64_t" ∷ codes ")" ∷ codes "(" ∷ []) refl) (comparison_is comparison))
    layer (expr.Negate operand) =
        of_layer (expr.Negate operand.0) (λ is. join (join (fixed (codes "(" ∷ codes "-" ∷ []) refl) (operand.1 is)) (fixed (codes ")" ∷ []) refl))

-- an argument
argument_tokens : (argument : CArg) → IsExpr (argument_of argument) → AreTokens (flat_argument argument)
argument_tokens (Value e) is = expr_tokens e is

-- the arguments of a call, of which each but the first stands behind a comma
arguments_tokens : (arguments : List CArg) → All IsExpr (arguments_of arguments) → AreTokens (flat_arguments arguments)
arguments_tokens [] are = no_tokens
arguments_tokens (first ∷ others) are =
    join (argument_tokens first (All-head IsExpr (argument_of first) (arguments_of others) are))
    (behind_first others (All-tail IsExpr (argument_of first) (arguments_of others) are))
  where
    behind_first : (those : List CArg) → All IsExpr (arguments_of those) → AreTokens (flat_map (λ argument. lexemes (codes "," ∷ []) ++ flat_argument argument) those)
    behind_first [] good = no_tokens
    behind_first (argument ∷ those) good =
        join (join (fixed (codes "," ∷ []) refl) (argument_tokens argument (All-head IsExpr (argument_of argument) (arguments_of those) good)))
        (behind_first those (All-tail IsExpr (argument_of argument) (arguments_of those) good))

-- where the result of a call goes
target_tokens : (target : Option CPlace) → IfSome target IsPlace → AreTokens (flat_target target)
target_tokens None is = no_tokens
target_tokens (Some place) is = join (place_tokens place is) (fixed (codes "=" ∷ []) refl)

-- a `for` up to its block
for_tokens : (set tested : List ℕ) (count : ℕ) (raised : List ℕ) → IsAction (Counts set tested raised count) → AreTokens (flat_for set tested count raised)
for_tokens set tested count raised is =
    join (fixed (codes "for" ∷ codes "(" ∷ []) refl)
    (next (name_is set is.0)
    (join (fixed (codes "=" ∷ codes "INT64_C" ∷ codes "(" ∷ []) refl)
    (next (digit_is 48 refl)
    (join (fixed (codes ")" ∷ codes ";" ∷ []) refl)
    (next (name_is tested is.1)
    (next (fixed_is (codes "<") refl)
    (next (decimal_is count (let small = is.3 in omega arith))
    (next (fixed_is (codes ";") refl)
    (next (name_is raised is.2) (fixed (codes "++" ∷ codes ")" ∷ []) refl))))))))))

-- what is returned
returned_tokens : (value : Option CExpr) → IfSome value IsExpr → AreTokens (flat_returned value)
returned_tokens None is = no_tokens
returned_tokens (Some e) is = expr_tokens e is

-- a halt
halt_tokens : (kind file line : ℕ) → IsAction (Halts kind file line) → AreTokens (flat_stmt_step (stmt.Halt kind file line))
halt_tokens kind file line is =
    join (fixed (codes "sl_halt" ∷ codes "(" ∷ []) refl)
    (next (decimal_is kind (let small = is.0 in omega arith))
    (next (fixed_is (codes ",") refl)
    (next (decimal_is file (let small = is.1 in omega arith))
    (next (fixed_is (codes ",") refl)
    (next (decimal_is line (let small = is.2 in omega arith)) (fixed (codes ")" ∷ codes ";" ∷ []) refl))))))

-- a statement
stmt_tokens : (s : CStmt) → IsStmt s → AreTokens (flat_stmt s)
stmt_tokens s = ind-CStmt Good (λ x y same. subst (λ z. Good (roll-CStmt z)) same (layer y)) s
  where
    Good : CStmt → Type 0
    Good x = IsStmt x → AreTokens (flat_stmt x)

    Known : Type 0
    Known = (x : CStmt) × Good x

    first : Known → CStmt
    first known = known.0

    of_layer : (x : CStmt-F CStmt) → (All IsAction (actions_step (map-CStmt CStmt (List Action) actions x)) → AreTokens (flat_stmt_step (map-CStmt CStmt (List Lexeme) flat_stmt x))) → Good (roll-CStmt x)
    of_layer x tokens is = subst AreTokens (sym (flat_stmt_layer x)) (tokens (subst (All IsAction) (actions_layer x) is))

    -- of a statement that is one action
    of_one : (x : CStmt-F CStmt) (action : Action) → actions_step (map-CStmt CStmt (List Action) actions x) ≡ action ∷ [] → (IsAction action → AreTokens (flat_stmt_step (map-CStmt CStmt (List Lexeme) flat_stmt x))) → Good (roll-CStmt x)
    of_one x action one tokens = of_layer x (λ is. tokens (All-head IsAction action [] (subst (All IsAction) one is)))

    inner : (stmts : List Known) → All IsAction (joined (map actions (map first stmts))) → AreTokens (flat_map (λ tokens. tokens) (map flat_stmt (map first stmts)))
    inner [] is = no_tokens
    inner (known ∷ stmts) is =
        let parts = all_parts IsAction (actions known.0) (joined (map actions (map first stmts))) is
        in join (known.1 parts.0) (inner stmts parts.1)

    block : (stmts : List Known) → All IsAction (joined (map actions (map first stmts))) → AreTokens (flat_block (map flat_stmt (map first stmts)))
    block stmts is = join (join (fixed (codes "{" ∷ []) refl) (inner stmts is)) (fixed (codes "}" ∷ []) refl)

    looped : (head : Action) (body : List Known) {tokens : List Lexeme} → (IsAction head → AreTokens tokens) → All IsAction (head ∷ joined (map actions (map first body))) → AreTokens (tokens ++ flat_block (map flat_stmt (map first body)))
    looped head body front is =
        let inside = joined (map actions (map first body))
        in join (front (All-head IsAction head inside is)) (block body (All-tail IsAction head inside is))

    tested : (test : CExpr) (chosen : List Known) (rest : List Action) {tokens : List Lexeme} → (All IsAction rest → AreTokens tokens) → All IsAction (Tests test ∷ joined (map actions (map first chosen)) ++ rest) → AreTokens (lexemes (codes "if" ∷ codes "(" ∷ []) ++ flat_expr test ++ lexemes (codes ")" ∷ []) ++ flat_block (map flat_stmt (map first chosen)) ++ tokens)
    tested test chosen rest other is =
        let inside = joined (map actions (map first chosen)) in
        let parts = all_parts IsAction inside rest (All-tail IsAction (Tests test) (inside ++ rest) is) in
        let test_is = expr_tokens test (All-head IsAction (Tests test) (inside ++ rest) is)
        in join (join (join (join (fixed (codes "if" ∷ codes "(" ∷ []) refl) test_is) (fixed (codes ")" ∷ []) refl)) (block chosen parts.0)) (other parts.1)

    layer : (y : CStmt-F Known) → Good (roll-CStmt (map-CStmt Known CStmt first y))
    layer (stmt.Assign place e) =
        of_one (stmt.Assign place e) (Assigns place e) refl
        (λ is. join (join (join (place_tokens place is.0) (fixed (codes "=" ∷ []) refl)) (expr_tokens e is.1)) (fixed (codes ";" ∷ []) refl))
    layer (stmt.Call target name arguments) =
        of_one (stmt.Call target name arguments) (Calls target name (arguments_of arguments)) refl
        (λ is. join (join (join (target_tokens target is.0) (next (name_is name is.1) (fixed (codes "(" ∷ []) refl))) (arguments_tokens arguments is.2)) (fixed (codes ")" ∷ codes ";" ∷ []) refl))
    layer (stmt.If test chosen None) = of_layer (stmt.If test (map first chosen) None) (tested test chosen [] (λ is. no_tokens))
    layer (stmt.If test chosen (Some other)) =
        of_layer (stmt.If test (map first chosen) (Some (map first other)))
        (tested test chosen (joined (map actions (map first other))) (λ is. join (fixed (codes "else" ∷ []) refl) (block other is)))
    layer (stmt.Loop body) =
        of_layer (stmt.Loop (map first body)) (looped Loops body (λ is. join (fixed (codes "while" ∷ codes "(" ∷ []) refl) (next (digit_is 49 refl) (fixed (codes ")" ∷ []) refl))))
    layer (stmt.Count set tested count raised body) =
        of_layer (stmt.Count set tested count raised (map first body)) (looped (Counts set tested raised count) body (for_tokens set tested count raised))
    layer stmt.Break = of_layer stmt.Break (λ is. fixed (codes "break" ∷ codes ";" ∷ []) refl)
    layer (stmt.Return value) =
        of_one (stmt.Return value) (Returns value) refl (λ is. join (join (fixed (codes "return" ∷ []) refl) (returned_tokens value is)) (fixed (codes ";" ∷ []) refl))
    layer (stmt.Put e) =
        of_one (stmt.Put e) (Puts e) refl (λ is. join (join (fixed (codes "sl_put" ∷ codes "(" ∷ []) refl) (expr_tokens e is)) (fixed (codes ")" ∷ codes ";" ∷ []) refl))
    layer (stmt.Get place) =
        of_one (stmt.Get place) (Gets place) refl (λ is. join (place_tokens place is) (fixed (codes "=" ∷ codes "sl_get" ∷ codes "(" ∷ codes ")" ∷ codes ";" ∷ []) refl))
    layer (stmt.Halt kind file line) = of_one (stmt.Halt kind file line) (Halts kind file line) refl (halt_tokens kind file line)

-- a function
function_tokens : (function : CFun) → IsFunction function → AreTokens (flat_function function)
function_tokens function is =
    join (join (join (join (head_tokens function is.head) (fixed (codes "{" ∷ []) refl)) (all_of var_tokens function.vars is.vars)) (all_of stmt_tokens function.body is.body))
    (fixed (codes "}" ∷ []) refl)

-- every token of a well-formed tree is one
pub flat_tokens : (file : CFile) → IsWellFormed file → All (λ token. IsToken token.spelling) (cflat file)
unfolding cflat
flat_tokens file is =
    let front = join (all_of struct_tokens file.structs is.structs) (all_of global_tokens file.globals is.globals) in
    let all = join (join front (all_of proto_tokens file.protos is.protos)) (all_of function_tokens file.functions is.functions)
    in all.each
