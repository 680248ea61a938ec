-- The integers: what an operation on two numbers of a type gives. It is computed on ℤ, without bounds, and halts where the result
-- isn't in the type. A quotient is truncated towards zero, and a remainder has the sign of the dividend, as in C and Scala. A zero
-- divisor halts first.
use Rattle.std.specs.Prelude.{ℤ, ◌+ℤ◌, ◌-ℤ◌, ◌*ℤ◌, neg_ℤ, int_div, int_rem, int_le, Bool, true, false, ◌&&◌, ◌==◌, Result, Ok, Err, if◌then◌else◌, nat_abs}
use Rattle.sl_num.specs.declared.types.IntType.{IntType}
use Rattle.sl_num.specs.declared.arithmetic.Op.{Op}
use Rattle.sl_num.specs.declared.arithmetic.Op.TheVariants.{Add, Sub, Mul, Div, Rem, Neg}
use Rattle.sl_num.specs.declared.arithmetic.Halt.{Halt}
use Rattle.sl_num.specs.declared.arithmetic.Halt.TheVariants.{Range, Zero}

-- the value on ℤ. `Neg` doesn't look at the second number
abbrev pub exact : Op → ℤ → ℤ → ℤ
exact Add a b = a +ℤ b
exact Sub a b = a -ℤ b
exact Mul a b = a *ℤ b
exact Div a b = int_div a b
exact Rem a b = int_rem a b
exact Neg a b = neg_ℤ a

-- whether an operation has a divisor
abbrev pub divides : Op → Bool
divides Div = true
divides Rem = true
divides other = false

-- a number where it is in the type
abbrev pub in_type : IntType → ℤ → Result ℤ Halt
in_type kind n = if int_le kind.lo n && int_le n kind.hi then Ok n else Err Range

-- what an operation gives in a type
abbrev pub applied : IntType → Op → ℤ → ℤ → Result ℤ Halt
applied kind op a b = if divides op && nat_abs b == 0 then Err Zero else in_type kind (exact op a b)
