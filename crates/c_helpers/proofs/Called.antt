-- What calls of the inline functions give.
use Rattle.std.proofs.Common.{◌≡◌, ◌≢◌, List, [], ◌∷◌, true, refl, sym, ap, subst, ◌∙◌, arith, eq-eqb, length, codes}
use Rattle.std.specs.List.{IsDistinct}
use Rattle.std.specs.Str.{bytes_eq}
use Rattle.std.proofs.lemmas.List.Elements.{All-from_recursion}
use Rattle.std.specs.Prelude.{All, map, ℤ, pos, negsuc, ◌+ℤ◌, ◌-ℤ◌, ◌*ℤ◌, int_div, int_rem, int_le, int_lt, ◌≤ℤ◌, ◌<ℤ◌}
use Rattle.std.proofs.lemmas.Int.{ints}
use Rattle.sl_num.specs.declared.comparing.Comparison.TheVariants.{Less, LessEqual, Equal}
use Rattle.sl_num.specs.Comparing.{holds, truth}
use Rattle.c_tree.specs.declared.tree.CFile.{CFile}
use Rattle.c_tree.specs.declared.tree.CFun.{CFun}
use Rattle.c_tree.specs.declared.tree.CExpr.{CExpr}
use Rattle.c_tree.specs.declared.tree.CExpr.TheVariants.{Binary, Compare}
use Rattle.c_tree.specs.declared.tree.CBinary.TheVariants.{Add, Sub, Div, Rem}
use Rattle.c_tree.specs.declared.tree.CStmt.{CStmt}
use Rattle.c_tree.proofs.Running.{running}
use Rattle.c_tree.specs.Meaning.{is_int64}
use Rattle.c_helpers.specs.Functions.{constant, named, greatest, least, minus_one, give, if_else, sum_fits, difference_fits, product_fits, quotient_fits, remainder, helper_functions}
use Rattle.c_helpers.specs.Laws.{Gives, Undefined, Laws}
use Rattle.c_helpers.proofs.Frame.{scope_in, two, Yields, Returns, yields_constant, yields_a, yields_b, yields_comparison, yields_sum, yields_difference, yields_quotient, yields_remainder, yields_greatest, yields_least, yields_minus_one, returns_value, returns_by, gives_returned}
use Rattle.c_helpers.proofs.Sums.{Bounded, bounds, least_less, least_less_tells, greatest_less, greatest_less_tells, greatest_more, greatest_more_tells, least_more, least_more_tells}
use Rattle.c_helpers.proofs.Standing.{all_formed, all_nest_little, all_keep}
use Rattle.c_helpers.proofs.Printed.{prints, puts_digit, digit_reached}
use Rattle.c_helpers.proofs.Quotients.{not_zero, is_same, is_other, greatest_by, greatest_by_tells, least_by, least_by_tells, least_by_tells_second, greatest_by_negative, greatest_by_negative_tells, product_by_zero, quotient_by_minus_one, other_quotient, remainder_fits, remainder_by_minus_one}

module _ (file : CFile) (a b : ℤ) where
  -- a return of a number that is known to be another
  returns_same : (e : CExpr) (m n : ℤ) → m ≡ n → Yields (scope_in file) (two a b) e m → Returns (scope_in file) (two a b) (give e) n
  returns_same e m n same value = returns_value (scope_in file) (two a b) e n (subst (λ k. Yields (scope_in file) (two a b) e k) same value)

  -- a return of `x <= y`
  returns_order : (l r : CExpr) (x y n : ℤ) → Yields (scope_in file) (two a b) l x → Yields (scope_in file) (two a b) r y → int_le x y ≡ is_int64 n → Returns (scope_in file) (two a b) (give (Compare LessEqual l r)) (truth (is_int64 n))
  returns_order l r x y n left right same = returns_same (Compare LessEqual l r) (truth (int_le x y)) (truth (is_int64 n)) (ap truth same) (yields_comparison (scope_in file) (two a b) LessEqual l r x y left right)

  -- a return of 1, where a number has 64 bits
  returns_one : (n : ℤ) → is_int64 n ≡ true → Returns (scope_in file) (two a b) (give (constant 1)) (truth (is_int64 n))
  returns_one n fits = returns_same (constant 1) (pos 1) (truth (is_int64 n)) (sym (ap truth fits)) (yields_constant (scope_in file) (two a b) 1)

  -- one of two blocks, by `x < y`
  returns_by_less : (l r : CExpr) (x y n : ℤ) (chosen other : List CStmt) → Yields (scope_in file) (two a b) l x → Yields (scope_in file) (two a b) r y
      → (x <ℤ y → Returns (scope_in file) (two a b) chosen n) → (y ≤ℤ x → Returns (scope_in file) (two a b) other n) → Returns (scope_in file) (two a b) (if_else (Compare Less l r) chosen other) n
  returns_by_less l r x y n chosen other left right first second =
      returns_by (scope_in file) (two a b) (Compare Less l r) chosen other (int_lt x y) n (yields_comparison (scope_in file) (two a b) Less l r x y left right)
      (λ h. first (omega (arith, ints))) (λ h. second (omega (arith, ints)))

  -- one of two, by `b == -1`
  returns_by_minus_one : (n : ℤ) (chosen other : List CStmt) → (b ≡ negsuc 0 → Returns (scope_in file) (two a b) chosen n) → (b ≢ negsuc 0 → Returns (scope_in file) (two a b) other n)
      → Returns (scope_in file) (two a b) (if_else (Compare Equal (named (codes "b")) minus_one) chosen other) n
  returns_by_minus_one n chosen other first second =
      returns_by (scope_in file) (two a b) (Compare Equal (named (codes "b")) minus_one) chosen other (holds Equal b (negsuc 0)) n
      (yields_comparison (scope_in file) (two a b) Equal (named (codes "b")) minus_one b (negsuc 0) (yields_b file a b) (yields_minus_one (scope_in file) (two a b)))
      (λ h. first (is_same b (negsuc 0) h)) (λ h. second (is_other b (negsuc 0) h))

  -- the parts
  a_is : Yields (scope_in file) (two a b) (named (codes "a")) a
  a_is = yields_a file a b

  b_is : Yields (scope_in file) (two a b) (named (codes "b")) b
  b_is = yields_b file a b

  zero_is : Yields (scope_in file) (two a b) (constant 0) (pos 0)
  zero_is = yields_constant (scope_in file) (two a b) 0

  least_is : Yields (scope_in file) (two a b) least (negsuc 9223372036854775807)
  least_is = yields_least (scope_in file) (two a b)

  greatest_is : Yields (scope_in file) (two a b) greatest (pos 9223372036854775807)
  greatest_is = yields_greatest (scope_in file) (two a b)

  module _ (p : is_int64 a ≡ true) (q : is_int64 b ≡ true) where
    a_bounded : Bounded a
    a_bounded = bounds a p

    b_bounded : Bounded b
    b_bounded = bounds b q

    gives_sum : Gives file sum_fits (a ∷ b ∷ []) (truth (is_int64 (a +ℤ b)))
    gives_sum =
        gives_returned file a b (codes "sl_sum_fits") _ _ (
        returns_by_less (named (codes "b")) (constant 0) b (pos 0) (truth (is_int64 (a +ℤ b))) _ _ b_is zero_is
        (λ h. returns_order (Binary Sub least (named (codes "b"))) (named (codes "a")) (negsuc 9223372036854775807 -ℤ b) a (a +ℤ b)
        (yields_difference (scope_in file) (two a b) least (named (codes "b")) (negsuc 9223372036854775807) b least_is b_is (least_less a b a_bounded b_bounded h)) a_is
        (least_less_tells a b a_bounded b_bounded h))
        (λ h. returns_order (named (codes "a")) (Binary Sub greatest (named (codes "b"))) a (pos 9223372036854775807 -ℤ b) (a +ℤ b)
        a_is (yields_difference (scope_in file) (two a b) greatest (named (codes "b")) (pos 9223372036854775807) b greatest_is b_is (greatest_less a b a_bounded b_bounded h))
        (greatest_less_tells a b a_bounded b_bounded h)))

    gives_difference : Gives file difference_fits (a ∷ b ∷ []) (truth (is_int64 (a -ℤ b)))
    gives_difference =
        gives_returned file a b (codes "sl_difference_fits") _ _ (
        returns_by_less (named (codes "b")) (constant 0) b (pos 0) (truth (is_int64 (a -ℤ b))) _ _ b_is zero_is
        (λ h. returns_order (named (codes "a")) (Binary Add greatest (named (codes "b"))) a (pos 9223372036854775807 +ℤ b) (a -ℤ b)
        a_is (yields_sum (scope_in file) (two a b) greatest (named (codes "b")) (pos 9223372036854775807) b greatest_is b_is (greatest_more a b a_bounded b_bounded h))
        (greatest_more_tells a b a_bounded b_bounded h))
        (λ h. returns_order (Binary Add least (named (codes "b"))) (named (codes "a")) (negsuc 9223372036854775807 +ℤ b) a (a -ℤ b)
        (yields_sum (scope_in file) (two a b) least (named (codes "b")) (negsuc 9223372036854775807) b least_is b_is (least_more a b a_bounded b_bounded h)) a_is
        (least_more_tells a b a_bounded b_bounded h)))

    gives_product : Gives file product_fits (a ∷ b ∷ []) (truth (is_int64 (a *ℤ b)))
    gives_product =
        gives_returned file a b (codes "sl_product_fits") _ _ (
        returns_by_less (constant 0) (named (codes "b")) (pos 0) b (truth (is_int64 (a *ℤ b))) _ _ zero_is b_is
        (λ h. returns_by_less (constant 0) (named (codes "a")) (pos 0) a (truth (is_int64 (a *ℤ b))) _ _ zero_is a_is
        (λ k. returns_order (named (codes "a")) (Binary Div greatest (named (codes "b"))) a (int_div (pos 9223372036854775807) b) (a *ℤ b)
        a_is (yields_quotient (scope_in file) (two a b) greatest (named (codes "b")) (pos 9223372036854775807) b greatest_is b_is (not_zero b (λ e. omega (arith, ints))) (greatest_by b h))
        (greatest_by_tells a b k h))
        (λ k. returns_order (Binary Div least (named (codes "b"))) (named (codes "a")) (int_div (negsuc 9223372036854775807) b) a (a *ℤ b)
        (yields_quotient (scope_in file) (two a b) least (named (codes "b")) (negsuc 9223372036854775807) b least_is b_is (not_zero b (λ e. omega (arith, ints))) (least_by b h)) a_is
        (least_by_tells a b k h)))
        (λ h. returns_by_less (named (codes "b")) (constant 0) b (pos 0) (truth (is_int64 (a *ℤ b))) _ _ b_is zero_is
        (λ j. returns_by_less (constant 0) (named (codes "a")) (pos 0) a (truth (is_int64 (a *ℤ b))) _ _ zero_is a_is
        (λ k. returns_order (Binary Div least (named (codes "a"))) (named (codes "b")) (int_div (negsuc 9223372036854775807) a) b (a *ℤ b)
        (yields_quotient (scope_in file) (two a b) least (named (codes "a")) (negsuc 9223372036854775807) a least_is a_is (not_zero a (λ e. omega (arith, ints))) (least_by a k)) b_is
        (least_by_tells_second a b k h))
        (λ k. returns_order (Binary Div greatest (named (codes "b"))) (named (codes "a")) (int_div (pos 9223372036854775807) b) a (a *ℤ b)
        (yields_quotient (scope_in file) (two a b) greatest (named (codes "b")) (pos 9223372036854775807) b greatest_is b_is (not_zero b (λ e. omega (arith, ints))) (greatest_by_negative b j)) a_is
        (greatest_by_negative_tells a b k j)))
        (λ j. returns_one (a *ℤ b) (product_by_zero a b h j))))

    module _ (some : b ≢ pos 0) where
      gives_quotient : Gives file quotient_fits (a ∷ b ∷ []) (truth (is_int64 (int_div a b)))
      gives_quotient =
          gives_returned file a b (codes "sl_quotient_fits") _ _ (
          returns_by_minus_one (truth (is_int64 (int_div a b))) _ _
          (λ e. returns_same (Compare Less least (named (codes "a"))) (truth (int_lt (negsuc 9223372036854775807) a)) (truth (is_int64 (int_div a b)))
          (ap truth (quotient_by_minus_one a a_bounded ∙ ap (λ d. is_int64 (int_div a d)) (sym e)))
          (yields_comparison (scope_in file) (two a b) Less least (named (codes "a")) (negsuc 9223372036854775807) a least_is a_is))
          (λ other. returns_one (int_div a b) (other_quotient a b a_bounded some other)))

      gives_remainder : Gives file remainder (a ∷ b ∷ []) (int_rem a b)
      gives_remainder =
          gives_returned file a b (codes "sl_remainder") _ _ (
          returns_by_minus_one (int_rem a b) _ _
          (λ e. returns_same (constant 0) (pos 0) (int_rem a b) (sym (remainder_by_minus_one a) ∙ ap (int_rem a) (sym e)) zero_is)
          (λ other. returns_value (scope_in file) (two a b) (Binary Rem (named (codes "a")) (named (codes "b"))) (int_rem a b)
          (yields_remainder (scope_in file) (two a b) (named (codes "a")) (named (codes "b")) a b a_is b_is (not_zero b some) (other_quotient a b a_bounded some other) (remainder_fits a b a_bounded))))

-- by 0
module _ (file : CFile) (a : ℤ) where
  gives_quotient_by_zero : Gives file quotient_fits (a ∷ pos 0 ∷ []) (pos 1)
  gives_quotient_by_zero call t memory = simp (running, eq-eqb (length memory.frames) (length memory.frames) refl)

  undefined_by_zero : Undefined file remainder (a ∷ pos 0 ∷ [])
  undefined_by_zero call t memory = simp (running, eq-eqb (length memory.frames) (length memory.frames) refl)

-- the functions are inline
are_inline : All (λ (function : CFun). function.inline ≡ true) helper_functions
unfolding helper_functions
are_inline = All-from_recursion (λ (function : CFun). function.inline ≡ true) helper_functions (refl, (refl, (refl, (refl, (refl, (refl, (refl, tt)))))))

-- their names differ
names_differ : IsDistinct bytes_eq (map (λ (function : CFun). function.name) helper_functions)
unfolding IsDistinct helper_functions
names_differ = ((refl, (refl, (refl, (refl, (refl, (refl, tt)))))), ((refl, (refl, (refl, (refl, (refl, tt))))), ((refl, (refl, (refl, (refl, tt)))), ((refl, (refl, (refl, tt))), ((refl, (refl, tt)), ((refl, tt), (tt, tt)))))))

-- each function does what its law says
pub laws : Laws
laws = record {
  inline = are_inline;
  names = names_differ;
  formed = all_formed;
  nesting = all_nest_little;
  keep = all_keep;
  sum = gives_sum;
  difference = gives_difference;
  product = gives_product;
  quotient = gives_quotient;
  quotient_by_zero = gives_quotient_by_zero;
  rest = gives_remainder;
  rest_by_zero = undefined_by_zero;
  digit = puts_digit;
  print = prints;
  reached = digit_reached;
}
