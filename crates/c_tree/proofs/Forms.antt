-- The tokens of a tree, in order, and the numbers that a constant can have.
use Rattle.std.proofs.Common.{◌≡◌, ℕ, ◌≤◌, [], ◌∷◌, ◌++◌, map, Bool, true, false, Some, None, refl, sym, subst, inl, inr, arith, All, codes}
use Rattle.std.specs.Prelude.{length, replicate}
use Rattle.std.specs.Fmt.{digits}
use Rattle.std.proofs.lemmas.List.Elements.{All-nil, All-cons, All-head}
use Rattle.c_tree.specs.declared.tree.CType.TheVariants.{Int}
use Rattle.c_tree.specs.declared.tree.CExpr.TheVariants.{Const, Negate}
use Rattle.c_tree.specs.declared.tree.CPlace.TheVariants.{Name}
use Rattle.c_tree.specs.declared.tree.CStmt.TheVariants.{If, Loop, Count, Put, Get}
use Rattle.c_tree.specs.Words.{reserved_words}
use Rattle.c_tree.specs.Parts.{Constant}
use Rattle.c_tree.specs.Flat.{cflat}
use Rattle.c_tree.specs.WellFormed.{IsInteger, IsWord, greatest, IsLeaf, IsExpr, stmt_depth}
use Rattle.c_tree.proofs.Variants.{leaves_of_const, flat_expressions_are, flat_statements_are, expression_depths_are, statement_depths_are}
use Rattle.c_tree.proofs.Kept.{file}
use Rattle.c_tree.proofs.Small.{signed, unsigned, give, start_alone}

-- the spellings of the tokens of the tree with something of everything
pub tokens_of_file :
    map (λ token. token.spelling) (cflat file)
    ≡ codes "struct" ∷ codes "s" ∷ codes "{"
    ∷ codes "int64_t" ∷ codes "a" ∷ codes "[" ∷ codes "2097151" ∷ codes "]" ∷ codes ";"
    ∷ codes "union" ∷ codes "{" ∷ codes "int64_t" ∷ codes "a" ∷ codes ";" ∷ codes "int64_t" ∷ codes "b" ∷ codes ";" ∷ codes "}" ∷ codes "u" ∷ codes ";"
    ∷ codes "}" ∷ codes ";"
    ∷ codes "static" ∷ codes "int64_t" ∷ codes "g" ∷ codes ";"
    ∷ codes "static" ∷ codes "int64_t" ∷ codes "sl_main" ∷ codes "(" ∷ codes "void" ∷ codes ")" ∷ codes ";"
    ∷ codes "static" ∷ codes "int64_t" ∷ codes "k" ∷ codes "(" ∷ codes "int64_t" ∷ codes "h" ∷ codes ")" ∷ codes ";"
    ∷ codes "static" ∷ codes "void" ∷ codes "e" ∷ codes "(" ∷ codes "void" ∷ codes ")" ∷ codes ";"
    ∷ codes "static" ∷ codes "inline" ∷ codes "void" ∷ codes "h" ∷ codes "(" ∷ codes "int64_t" ∷ codes "x" ∷ codes ")" ∷ codes "{"
    ∷ codes "int64_t" ∷ codes "n" ∷ codes ";"
    ∷ codes "for" ∷ codes "(" ∷ codes "n" ∷ codes "=" ∷ codes "INT64_C" ∷ codes "(" ∷ codes "0" ∷ codes ")" ∷ codes ";" ∷ codes "n" ∷ codes "<" ∷ codes "16777216" ∷ codes ";" ∷ codes "n" ∷ codes "++" ∷ codes ")" ∷ codes "{"
    ∷ codes "sl_put" ∷ codes "(" ∷ codes "x" ∷ codes ")" ∷ codes ";" ∷ codes "}" ∷ codes "}"
    ∷ codes "static" ∷ codes "inline" ∷ codes "void" ∷ codes "i" ∷ codes "(" ∷ codes "void" ∷ codes ")" ∷ codes "{"
    ∷ codes "h" ∷ codes "(" ∷ codes "INT64_C" ∷ codes "(" ∷ codes "65" ∷ codes ")" ∷ codes ")" ∷ codes ";" ∷ codes "}"
    ∷ codes "static" ∷ codes "int64_t" ∷ codes "sl_main" ∷ codes "(" ∷ codes "void" ∷ codes ")" ∷ codes "{"
    ∷ codes "int64_t" ∷ codes "a" ∷ codes ";"
    ∷ codes "a" ∷ codes "=" ∷ codes "k" ∷ codes "(" ∷ codes "(" ∷ codes "INT64_C" ∷ codes "(" ∷ codes "1" ∷ codes ")" ∷ codes "+" ∷ codes "INT64_C" ∷ codes "(" ∷ codes "2" ∷ codes ")" ∷ codes ")" ∷ codes ")" ∷ codes ";"
    ∷ codes "if" ∷ codes "(" ∷ codes "(" ∷ codes "int64_t" ∷ codes ")" ∷ codes "(" ∷ codes "a" ∷ codes "<" ∷ codes "INT64_C" ∷ codes "(" ∷ codes "0" ∷ codes ")" ∷ codes ")" ∷ codes ")" ∷ codes "{" ∷ codes "return" ∷ codes "(" ∷ codes "-" ∷ codes "a" ∷ codes ")" ∷ codes ";" ∷ codes "}" ∷ codes "else" ∷ codes "{" ∷ codes "i" ∷ codes "(" ∷ codes ")" ∷ codes ";" ∷ codes "return" ∷ codes "INT64_C" ∷ codes "(" ∷ codes "0" ∷ codes ")" ∷ codes ";" ∷ codes "}" ∷ codes "}"
    ∷ codes "static" ∷ codes "int64_t" ∷ codes "k" ∷ codes "(" ∷ codes "int64_t" ∷ codes "h" ∷ codes ")" ∷ codes "{"
    ∷ codes "g" ∷ codes "=" ∷ codes "h" ∷ codes ";"
    ∷ codes "if" ∷ codes "(" ∷ codes "UINT64_C" ∷ codes "(" ∷ codes "0" ∷ codes ")" ∷ codes ")" ∷ codes "{" ∷ codes "sl_halt" ∷ codes "(" ∷ codes "1" ∷ codes "," ∷ codes "0" ∷ codes "," ∷ codes "2" ∷ codes ")" ∷ codes ";" ∷ codes "}"
    ∷ codes "return" ∷ codes "g" ∷ codes ";" ∷ codes "}"
    ∷ codes "static" ∷ codes "void" ∷ codes "e" ∷ codes "(" ∷ codes "void" ∷ codes ")" ∷ codes "{"
    ∷ codes "int64_t" ∷ codes "b" ∷ codes ";"
    ∷ codes "while" ∷ codes "(" ∷ codes "1" ∷ codes ")" ∷ codes "{" ∷ codes "b" ∷ codes "=" ∷ codes "sl_get" ∷ codes "(" ∷ codes ")" ∷ codes ";"
    ∷ codes "if" ∷ codes "(" ∷ codes "(" ∷ codes "int64_t" ∷ codes ")" ∷ codes "(" ∷ codes "b" ∷ codes "<" ∷ codes "INT64_C" ∷ codes "(" ∷ codes "0" ∷ codes ")" ∷ codes ")" ∷ codes ")" ∷ codes "{" ∷ codes "break" ∷ codes ";" ∷ codes "}"
    ∷ codes "sl_put" ∷ codes "(" ∷ codes "b" ∷ codes ")" ∷ codes ";" ∷ codes "}" ∷ codes "}"
    ∷ []
unfolding cflat digits
tokens_of_file = simp (flat_statements_are, flat_expressions_are)

-- the first token of a prototype and of a function says its line, and no other does
pub lines_of_start : map (λ token. token.line) (cflat (start_alone (give 0 ∷ []))) ≡ Some 7 ∷ replicate 6 None ++ Some 20 ∷ replicate 13 None
unfolding cflat
lines_of_start = simp (flat_statements_are, flat_expressions_are)

-- ISO C11 has 44 keywords, and the first lines and the last use 9 names more
pub reserved_are : length reserved_words ≡ 53
reserved_are = refl

-- a variable can have 8 bits, and a parameter 64 alone
pub variable_of_byte : IsInteger (Int false 8)
variable_of_byte = inl refl

-- no parameter has 8
pub no_parameter_of_byte : ¬ IsWord (Int false 8)
no_parameter_of_byte word = absurd (omega arith)

-- nothing has 24 bits
pub no_three_bytes : ¬ IsInteger (Int false 24)
no_three_bytes (inl width) = absurd (omega arith)
no_three_bytes (inr (inl width)) = absurd (omega arith)
no_three_bytes (inr (inr (inl width))) = absurd (omega arith)
no_three_bytes (inr (inr (inr width))) = absurd (omega arith)

-- a constant whose number isn't too great is one
pub constant_fits : (is_signed : Bool) (number : ℕ) → number ≤ greatest is_signed → IsExpr (Const is_signed number)
constant_fits is_signed number small = subst (All IsLeaf) (sym (leaves_of_const is_signed number)) (All-cons IsLeaf (Constant is_signed number) [] small (All-nil IsLeaf))

-- and no other is
constant_of : (is_signed : Bool) (number : ℕ) → IsExpr (Const is_signed number) → number ≤ greatest is_signed
constant_of is_signed number is = All-head IsLeaf (Constant is_signed number) [] (subst (All IsLeaf) (leaves_of_const is_signed number) is)

-- 2 ^ 63 - 1 is a signed constant
pub greatest_signed : IsExpr (signed 9223372036854775807)
greatest_signed = constant_fits true 9223372036854775807 (omega arith)

-- 2 ^ 63 is no signed constant
pub no_greater_signed : ¬ IsExpr (signed 9223372036854775808)
no_greater_signed small = let fits = constant_of true 9223372036854775808 small in absurd (omega arith)

-- 2 ^ 64 - 1 is an unsigned one
pub greatest_unsigned : IsExpr (unsigned 18446744073709551615)
greatest_unsigned = constant_fits false 18446744073709551615 (omega arith)

-- 2 ^ 64 is none
pub no_greater_unsigned : ¬ IsExpr (unsigned 18446744073709551616)
no_greater_unsigned small = let fits = constant_of false 18446744073709551616 small in absurd (omega arith)

-- `if (INT64_C(1)) { sl_put((-INT64_C(2))); }` nests four deep: the `if`, the put, the negation and the constant
pub nested_depth : stmt_depth (If (signed 1) (Put (Negate (signed 2)) ∷ []) None) ≡ 4
nested_depth = simp (statement_depths_are, expression_depths_are)

-- `while (1) { for (..) { a = sl_get(); } }` nests four deep: the two loops, the get and its place
pub loop_depth : stmt_depth (Loop (Count (codes "n") (codes "n") 2 (codes "n") (Get (Name (codes "a")) ∷ []) ∷ [])) ≡ 4
loop_depth = simp statement_depths_are
