-- The inline functions, as C trees. Each has two parameters, `a` and `b`, but `sl_print`, which has `a` alone. None has variables.
use Rattle.std.specs.Prelude.{ℕ, ◌^◌, ◌-◌, List, [], ◌∷◌, ◌++◌, true, None, Some, map, codes}
use Rattle.sl_num.specs.declared.comparing.Comparison.TheVariants.{Less, LessEqual, Equal}
use Rattle.c_tree.specs.declared.tree.CArg.TheVariants.{Value}
use Rattle.c_tree.specs.declared.tree.CType.TheVariants.{Int, Void}
use Rattle.c_tree.specs.declared.tree.CVar.{CVar}
use Rattle.c_tree.specs.declared.tree.CFun.{CFun}
use Rattle.c_tree.specs.declared.tree.CBinary.TheVariants.{Add, Sub, Div, Rem}
use Rattle.c_tree.specs.declared.tree.CPlace.TheVariants.{Name}
use Rattle.c_tree.specs.declared.tree.CStmt.{CStmt}
use Rattle.c_tree.specs.declared.tree.CStmt.TheVariants.{Assign, Call, If, Return, Put}
use Rattle.c_tree.specs.declared.tree.CExpr.{CExpr}
use Rattle.c_tree.specs.declared.tree.CExpr.TheVariants.{Const, Read, Binary, Compare, Negate}

-- Parts ---------------------------------------------------------------------------------------------------------------

-- `INT64_C(NUMBER)`
abbrev pub constant : ℕ → CExpr
constant number = Const true number

-- `NAME`
abbrev pub named : List ℕ → CExpr
named name = Read (Name name)

-- the greatest number
abbrev pub greatest : CExpr
greatest = constant (2 ^ 63 - 1)

-- the least number: minus the greatest, minus 1
abbrev pub least : CExpr
least = Binary Sub (Negate greatest) (constant 1)

-- -1
abbrev pub minus_one : CExpr
minus_one = Negate (constant 1)

-- `return EXPR;`
abbrev pub give : CExpr → List CStmt
give e = Return (Some e) ∷ []

-- `if (TEST) { .. } else { .. }`
abbrev pub if_else : CExpr → List CStmt → List CStmt → List CStmt
if_else test chosen other = If test chosen (Some other) ∷ []

-- a parameter
abbrev pub parameter : List ℕ → CVar
parameter name = record { name = name; kind = Int true 64 }

-- `static inline int64_t NAME(int64_t a, int64_t b)`
abbrev pub helper : List ℕ → List CStmt → CFun
helper name body = record { name = name; inline = true; result = Int true 64; params = parameter (codes "a") ∷ parameter (codes "b") ∷ []; vars = []; body = body; line = 0 }

-- Functions -----------------------------------------------------------------------------------------------------------

-- Whether a + b is a number of 64 bits. Where b is negative, the sum is at most a, and not below the least number where a isn't
-- below that less b. Else it is at least a, and not above the greatest where a isn't above that less b
abbrev pub sum_fits : CFun
sum_fits =
    helper (codes "sl_sum_fits")
    (if_else (Compare Less (named (codes "b")) (constant 0))
    (give (Compare LessEqual (Binary Sub least (named (codes "b"))) (named (codes "a"))))
    (give (Compare LessEqual (named (codes "a")) (Binary Sub greatest (named (codes "b"))))))

-- whether a - b is one
abbrev pub difference_fits : CFun
difference_fits =
    helper (codes "sl_difference_fits")
    (if_else (Compare Less (named (codes "b")) (constant 0))
    (give (Compare LessEqual (named (codes "a")) (Binary Add greatest (named (codes "b")))))
    (give (Compare LessEqual (Binary Add least (named (codes "b"))) (named (codes "a")))))

-- Whether a * b is one, where b is positive: it is so up to the greatest number's quotient by b, and down to the least number's.
-- Quotients are rounded towards zero
abbrev pub product_by_positive : List CStmt
product_by_positive =
    if_else (Compare Less (constant 0) (named (codes "a")))
    (give (Compare LessEqual (named (codes "a")) (Binary Div greatest (named (codes "b")))))
    (give (Compare LessEqual (Binary Div least (named (codes "b"))) (named (codes "a"))))

-- Where b is negative. The least number is divided by what is positive alone, since its quotient by -1 is none
abbrev pub product_by_negative : List CStmt
product_by_negative =
    if_else (Compare Less (constant 0) (named (codes "a")))
    (give (Compare LessEqual (Binary Div least (named (codes "a"))) (named (codes "b"))))
    (give (Compare LessEqual (Binary Div greatest (named (codes "b"))) (named (codes "a"))))

-- whether a * b is one, by the sign of b. By 0 it is
abbrev pub product_fits : CFun
product_fits =
    helper (codes "sl_product_fits")
    (if_else (Compare Less (constant 0) (named (codes "b"))) product_by_positive
    (if_else (Compare Less (named (codes "b")) (constant 0)) product_by_negative (give (constant 1))))

-- whether a / b is one, where b isn't 0: only the least number divided by -1 isn't
abbrev pub quotient_fits : CFun
quotient_fits =
    helper (codes "sl_quotient_fits")
    (if_else (Compare Equal (named (codes "b")) minus_one)
    (give (Compare Less least (named (codes "a"))))
    (give (constant 1)))

-- the remainder of a by b, where b isn't 0. C has none of the least number by -1
abbrev pub remainder : CFun
remainder =
    helper (codes "sl_remainder")
    (if_else (Compare Equal (named (codes "b")) minus_one)
    (give (constant 0))
    (give (Binary Rem (named (codes "a")) (named (codes "b")))))

-- Printing ------------------------------------------------------------------------------------------------------------

-- `sl_put(48 - EXPR % 10);`, the last digit of a number that isn't positive
abbrev pub put_digit : CExpr → CStmt
put_digit e = Put (Binary Sub (constant 48) (Binary Rem e (constant 10)))

-- puts the digit of a at b, a power of ten, where a has one there. It isn't positive
abbrev pub digit : CFun
digit =
    record (helper (codes "sl_digit")
    (If (Compare LessEqual (named (codes "a")) (Negate (named (codes "b")))) (put_digit (Binary Div (named (codes "a")) (named (codes "b"))) ∷ []) None ∷ []))
    { result = Void }

-- `sl_digit(a, POWER);`
abbrev pub call_digit : ℕ → CStmt
call_digit power = Call None (codes "sl_digit") (Value (named (codes "a")) ∷ Value (constant power) ∷ [])

-- the powers of ten that are numbers of 64 bits, down to 10
abbrev pub powers : List ℕ
powers =
    1000000000000000000 ∷ 100000000000000000 ∷ 10000000000000000 ∷ 1000000000000000 ∷ 100000000000000 ∷ 10000000000000 ∷ 1000000000000
    ∷ 100000000000 ∷ 10000000000 ∷ 1000000000 ∷ 100000000 ∷ 10000000 ∷ 1000000 ∷ 100000 ∷ 10000 ∷ 1000 ∷ 100 ∷ 10 ∷ []

-- puts `-` where a is negative, and else negates it, since the least number has no negation
abbrev pub put_sign : List CStmt
put_sign = if_else (Compare Less (named (codes "a")) (constant 0)) (Put (constant 45) ∷ []) (Assign (Name (codes "a")) (Negate (named (codes "a"))) ∷ [])

-- puts a in decimal
abbrev pub print : CFun
print = record {
  name = codes "sl_print";
  inline = true;
  result = Void;
  params = parameter (codes "a") ∷ [];
  vars = [];
  body = put_sign ++ map call_digit powers ++ put_digit (named (codes "a")) ∷ [];
  line = 0;
}

-- all of them. `sl_digit` stands in front of `sl_print`, which calls it
unfoldable pub helper_functions : List CFun
helper_functions = sum_fits ∷ difference_fits ∷ product_fits ∷ quotient_fits ∷ remainder ∷ digit ∷ print ∷ []
