use Rattle.std.proofs.Common.{◌≡◌, ℕ, zero, suc, ◌+◌, ◌^◌, ◌<◌, ◌≤◌, ◌/◌, false, ◌∙◌, ap, arith, ℤ, pos, negsuc, neg_ℤ, of_z, nat_abs, int_div}
use Rattle.std.proofs.Math.Nat.{div-le_self}
use Rattle.std.proofs.lemmas.Bool.Decides.{nat_tests}
use Rattle.std.proofs.lemmas.Int.{ints, quot_is, rem_is}
use Rattle.std.specs.Prelude.{◌==◌, FitsSigned}
use Rattle.std.specs.Int.{w128}
use Rattle.sl_num.specs.declared.types.IntType.{IntType}
use Rattle.sl_num.specs.Types.{IsIn, IsRange}
use Rattle.sl_num.specs.Arithmetic.{in_type}
use Rattle.sl_num.proofs.arithmetic.apply.Goals as goal
use lib.Signed.{mag}

not_zero : (b : ℤ) → (of_z w128 b ≡ 0 → ⊥) → (nat_abs b == 0) ≡ false
not_zero (pos n) h = grind (arith, nat_tests)
not_zero (negsuc n) h = grind (arith, nat_tests)

mag-neg : (n : ℕ) → mag (neg_ℤ (pos n)) ≤ n
mag-neg zero = omega arith
mag-neg (suc n) = omega arith

-- a quotient is no larger than the dividend
mag-div : (a b : ℤ) → mag (int_div a b) ≤ mag a + 1
mag-div (pos a) (pos b) = omega (arith, div-le_self a b)
mag-div (pos a) (negsuc b) = omega (arith, mag-neg (a / suc b), div-le_self a (suc b))
mag-div (negsuc a) (pos b) = omega (arith, mag-neg (suc a / b), div-le_self (suc a) b)
mag-div (negsuc a) (negsuc b) = omega (arith, div-le_self (suc a) (suc b))

mag-in : (kind : IntType) (a : ℤ) → IsRange kind → IsIn kind a → mag a < 2 ^ 64
mag-in kind (pos n) r i = omega (arith, ints)
mag-in kind (negsuc n) r i = omega (arith, ints)

quot_fits : (kind : IntType) (a b : ℤ) → IsRange kind → IsIn kind a → FitsSigned w128 (int_div a b)
quot_fits kind a b r i = record { sfits = omega (arith, mag-in kind a r i, mag-div a b) }

pub returns-in-Add : goal.returns-in-Add
returns-in-Add c = rw c.in-Add.is (c.within.ensures ∙ ap (in_type c.args.kind) (omega (arith, ints)))

pub returns-in-Sub : goal.returns-in-Sub
returns-in-Sub c = rw c.in-Sub.is (c.within-in-Sub.ensures ∙ ap (in_type c.args.kind) (omega (arith, ints)))

pub returns-in-Neg : goal.returns-in-Neg
returns-in-Neg c = rw c.in-Neg.is (c.within-in-Neg.ensures ∙ ap (in_type c.args.kind) (omega (arith, ints)))

pub returns-in-Div : goal.returns-in-Div
returns-in-Div c =
    let fits = quot_fits _ _ c.args.b c.requires.range c.requires.left in
    rw (c.in-Div.is, not_zero c.args.b c.if-b-ne0.true)
    (c.within-in-Div.ensures ∙ ap (in_type c.args.kind) (quot_is w128 _ _ c.ranges.a c.ranges.b fits))

pub returns-in-Rem : goal.returns-in-Rem
returns-in-Rem c =
    rw (c.in-Rem.is, not_zero c.args.b c.if-b-ne0-2.true)
    (c.within-in-Rem.ensures ∙ ap (in_type c.args.kind) (rem_is w128 _ _ c.ranges.a c.ranges.b))
