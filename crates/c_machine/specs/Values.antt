-- The values of expressions, where they have one: where they have none, C is undefined (ISO C11, 6.5 and 6.5.5).
use Rattle.std.specs.Prelude.{ℤ, pos, neg_ℤ, ◌^◌, int_div, int_rem, List, [], ◌∷◌, true, false, ◌&&◌, Option, None, Some, option_map, if◌then◌else◌}
use Rattle.std.specs.Int.{int_rem_euclid}
use Rattle.std.specs.Option.{option_and_then}
use Rattle.sl_num.specs.declared.comparing.Comparison.{Comparison}
use Rattle.sl_num.specs.Comparing.{holds, truth}
use Rattle.c_tree.specs.declared.tree.CBinary.{CBinary}
use Rattle.c_tree.specs.declared.tree.CBinary.TheVariants.{Rem}
use Rattle.c_tree.specs.Meaning.{is_zero, same, exact, divides, is_int64}
use Rattle.c_machine.specs.declared.program.Word.{Word}
use Rattle.c_machine.specs.declared.program.Expr.{Expr, Expr-F, fold-Expr}
use Rattle.c_machine.specs.declared.program.Expr.TheOpen as expr
use Rattle.c_machine.specs.State.{State, held}

-- a number of 64 bits with a sign, where it is one
abbrev pub int64 : ℤ → Option Word
int64 n = if is_int64 n then Some (record { signed = true; number = n }) else None

-- a number of 64 bits without a sign: what a number is modulo 2 ^ 64
abbrev pub uint64 : ℤ → Word
uint64 n = record { signed = false; number = int_rem_euclid n (pos (2 ^ 64)) }

-- an operator on numbers with a sign. A remainder is undefined where the quotient overflows
abbrev pub int64_of : CBinary → ℤ → ℤ → Option Word
int64_of Rem a b = option_and_then (λ quotient. int64 (int_rem a b)) (int64 (int_div a b))
int64_of operator a b = int64 (exact operator a b)

-- an operator on two numbers, which are both with a sign or both without one
abbrev pub binary : CBinary → Word → Word → Option Word
binary operator left right =
    if same left.signed right.signed
    then if divides operator && is_zero right.number
    then None
    else if left.signed then int64_of operator left.number right.number else Some (uint64 (exact operator left.number right.number))
    else None

abbrev pub compared : Comparison → Word → Word → Option Word
compared comparison left right =
    if same left.signed right.signed then Some (record { signed = true; number = truth (holds comparison left.number right.number) }) else None

abbrev pub negated : Word → Option Word
negated operand = if operand.signed then int64 (neg_ℤ operand.number) else None

abbrev pub value_step : Expr-F (State → Option Word) → State → Option Word
value_step (expr.Const signed number) state = Some (record { signed = signed; number = pos number })
value_step (expr.Read slot signed) state = option_map (λ number. record { signed = signed; number = number }) (held slot state)
value_step (expr.Binary operator left right) state = option_and_then (λ x. option_and_then (λ y. binary operator x y) (right state)) (left state)
value_step (expr.Compare comparison left right) state = option_and_then (λ x. option_and_then (λ y. compared comparison x y) (right state)) (left state)
value_step (expr.Negate operand) state = option_and_then negated (operand state)

-- the value of an expression
unfoldable pub value : Expr → State → Option Word
value e = fold-Expr (State → Option Word) value_step e

-- the numbers of some expressions, where all have one
abbrev pub numbers : List Expr → State → Option (List ℤ)
numbers [] state = Some []
numbers (e ∷ es) state = option_and_then (λ x. option_map (λ others. x.number ∷ others) (numbers es state)) (value e state)
