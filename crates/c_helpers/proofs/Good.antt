-- The inline functions keep the rules, and a text can have them.
use Rattle.std.proofs.Common.{◌≡◌, ◌≢◌, ℕ, ◌+◌, ◌-◌, ◌^◌, ◌≤◌, List, [], ◌∷◌, ◌++◌, false, true, Some, None, refl, arith, All, Contains, map, codes}
use Rattle.std.specs.List.{IsDistinct}
use Rattle.std.proofs.lemmas.List.Elements.{All-nil, All-cons, All-append, All-map, All-weaker, All-from_recursion}
use Rattle.sl_num.specs.declared.comparing.Comparison.TheVariants.{Less, LessEqual, Equal}
use Rattle.c_tree.specs.declared.tree.CArg.TheVariants.{Value}
use Rattle.c_tree.specs.declared.tree.CBinary.TheVariants.{Add, Sub, Div, Rem}
use Rattle.c_tree.specs.declared.tree.CFile.{CFile}
use Rattle.c_tree.specs.declared.tree.CFun.{CFun}
use Rattle.c_tree.specs.declared.tree.CPlace.TheVariants.{Name}
use Rattle.c_tree.specs.declared.tree.CStmt.{CStmt}
use Rattle.c_tree.specs.declared.tree.CStmt.TheVariants.{Assign, If, Return, Put}
use Rattle.c_tree.specs.declared.tree.CType.TheVariants.{Void}
use Rattle.c_tree.specs.declared.tree.CExpr.{CExpr}
use Rattle.c_tree.specs.declared.tree.CExpr.TheVariants.{Binary, Compare, Negate}
use Rattle.c_tree.specs.Words.{IsName, reserved_words}
use Rattle.c_tree.specs.Scope.{Scope}
use Rattle.c_tree.specs.WellFormed.{expr_depth}
use Rattle.c_tree.specs.Rules.{var_names, word, NamesClash, some_are, strays, last_is, ends_function}
use Rattle.c_tree.proofs.Variants.{expression_depths_are, strays_are, ends_are}
use Rattle.c_helpers.specs.Functions.{constant, named, greatest, least, minus_one, give, if_else, parameter, sum_fits, difference_fits, product_by_positive, product_by_negative, product_fits, quotient_fits, remainder, put_digit, digit, call_digit, powers, put_sign, print}
use Rattle.c_tree.proofs.Names.{name_is, none_of, no_clash}
use Rattle.c_helpers.proofs.Keeping.{IsKnown, ExprGood, inside, CanCall, StmtGood, FunctionGood}
use Rattle.c_helpers.proofs.Composing.{constant_good, named_good, binary_good, compare_good, negate_good, assign_good, call_good, return_good, put_good, if_good, if_else_good, deeper}

-- the parameters are names, and not reserved
pub a_is_name : IsName (codes "a")
a_is_name = name_is (codes "a") refl refl

pub b_is_name : IsName (codes "b")
b_is_name = name_is (codes "b") refl refl

-- they don't clash
two_keep : ¬ NamesClash (codes "a" ∷ codes "b" ∷ [])
unfolding IsDistinct
two_keep =
    no_clash (codes "a" ∷ codes "b" ∷ []) ((refl, tt), (tt, tt))
    (All-from_recursion (λ name. ¬ Contains reserved_words name) (codes "a" ∷ codes "b" ∷ []) (none_of reserved_words (codes "a") refl, (none_of reserved_words (codes "b") refl, tt)))

one_keeps : ¬ NamesClash (codes "a" ∷ [])
unfolding IsDistinct
one_keeps =
    no_clash (codes "a" ∷ []) (tt, tt) (All-from_recursion (λ name. ¬ Contains reserved_words name) (codes "a" ∷ []) (none_of reserved_words (codes "a") refl, tt))

-- What has these parameters --------------------------------------------------------------------------------------------

module _ (file : CFile) (before : List CFun) (function : CFun) where
  abbrev scope : Scope
  scope = inside file before function

  abbrev IsGood : CExpr → Type 0
  IsGood e = ExprGood scope e

  -- statements that nest so deep
  abbrev AreGood : ℕ → List CStmt → Type 0
  AreGood depth body = All (StmtGood file before function depth) body

  alone : (depth : ℕ) (s : CStmt) → StmtGood file before function depth s → AreGood depth (s ∷ [])
  alone depth s good = All-cons (StmtGood file before function depth) s [] good (All-nil (StmtGood file before function depth))

  -- small numbers, the greatest and the least
  number : (n : ℕ) → n ≤ 2 ^ 63 - 1 → IsGood (constant n)
  number n small = constant_good scope n small

  greatest_good : IsGood greatest
  greatest_good = number (2 ^ 63 - 1) (omega arith)

  least_good : IsGood least
  least_good = binary_good scope Sub (Negate greatest) (constant 1) (negate_good scope greatest greatest_good) (number 1 (omega arith))

  minus_one_good : IsGood minus_one
  minus_one_good = negate_good scope (constant 1) (number 1 (omega arith))

  -- a choice
  chooses : (depth : ℕ) (test : CExpr) (chosen other : List CStmt) → IsGood test → expr_depth test ≤ depth → AreGood depth chosen → AreGood depth other → AreGood (1 + depth) (if_else test chosen other)
  chooses depth test chosen other good deep first second = alone (1 + depth) (If test chosen (Some other)) (if_else_good file before function depth test chosen other good deep first second)

  -- a digit that is put
  puts_digit : (e : CExpr) → IsGood e → expr_depth e ≤ 5 → StmtGood file before function 10 (put_digit e)
  puts_digit e good deep =
      put_good file before function 10 (Binary Sub (constant 48) (Binary Rem e (constant 10)))
      (binary_good scope Sub (constant 48) (Binary Rem e (constant 10)) (number 48 (omega arith)) (binary_good scope Rem e (constant 10) good (number 10 (omega arith))))
      (simp expression_depths_are (omega arith))

  module _ (a_known : IsKnown scope (codes "a")) where
    a : IsGood (named (codes "a"))
    a = named_good scope (codes "a") a_known

    -- the sign of a number, of which the digits are put then
    sign_body : AreGood 5 put_sign
    sign_body =
        chooses 4 (Compare Less (named (codes "a")) (constant 0)) (Put (constant 45) ∷ []) (Assign (Name (codes "a")) (Negate (named (codes "a"))) ∷ [])
        (compare_good scope Less (named (codes "a")) (constant 0) a (number 0 (omega arith)))
        (simp expression_depths_are (omega arith))
        (alone 4 (Put (constant 45)) (put_good file before function 4 (constant 45) (number 45 (omega arith)) (simp expression_depths_are (omega arith))))
        (alone 4 (Assign (Name (codes "a")) (Negate (named (codes "a"))))
        (assign_good file before function 4 (codes "a") (Negate (named (codes "a"))) a_known (negate_good scope (named (codes "a")) a) (simp expression_depths_are (omega arith)) (omega arith)))

    module _ (b_known : IsKnown scope (codes "b")) where
      b : IsGood (named (codes "b"))
      b = named_good scope (codes "b") b_known

      -- the one digit of `sl_digit`
      digit_body : AreGood 11 digit.body
      digit_body =
          alone 11 (If (Compare LessEqual (named (codes "a")) (Negate (named (codes "b")))) (put_digit (Binary Div (named (codes "a")) (named (codes "b"))) ∷ []) None)
          (if_good file before function 10 (Compare LessEqual (named (codes "a")) (Negate (named (codes "b")))) (put_digit (Binary Div (named (codes "a")) (named (codes "b"))) ∷ [])
          (compare_good scope LessEqual (named (codes "a")) (Negate (named (codes "b"))) a (negate_good scope (named (codes "b")) b))
          (simp expression_depths_are (omega arith))
          (alone 10 (put_digit (Binary Div (named (codes "a")) (named (codes "b"))))
          (puts_digit (Binary Div (named (codes "a")) (named (codes "b"))) (binary_good scope Div (named (codes "a")) (named (codes "b")) a b) (simp expression_depths_are (omega arith)))))

      module _ (result : function.result ≡ word) where
        -- a return
        gives : (e : CExpr) → IsGood e → expr_depth e ≤ 10 → AreGood 11 (give e)
        gives e good deep = alone 11 (Return (Some e)) (return_good file before function 11 e result good (omega arith))

        -- a return of a comparison
        gives_order : (left right : CExpr) → IsGood left → IsGood right → expr_depth (Compare LessEqual left right) ≤ 10 → AreGood 11 (give (Compare LessEqual left right))
        gives_order left right first second deep = gives (Compare LessEqual left right) (compare_good scope LessEqual left right first second) deep

        sum_body : AreGood 12 sum_fits.body
        sum_body =
            chooses 11 (Compare Less (named (codes "b")) (constant 0)) _ _ (compare_good scope Less (named (codes "b")) (constant 0) b (number 0 (omega arith))) (simp expression_depths_are (omega arith))
            (gives_order (Binary Sub least (named (codes "b"))) (named (codes "a")) (binary_good scope Sub least (named (codes "b")) least_good b) a (simp expression_depths_are (omega arith)))
            (gives_order (named (codes "a")) (Binary Sub greatest (named (codes "b"))) a (binary_good scope Sub greatest (named (codes "b")) greatest_good b) (simp expression_depths_are (omega arith)))

        difference_body : AreGood 12 difference_fits.body
        difference_body =
            chooses 11 (Compare Less (named (codes "b")) (constant 0)) _ _ (compare_good scope Less (named (codes "b")) (constant 0) b (number 0 (omega arith))) (simp expression_depths_are (omega arith))
            (gives_order (named (codes "a")) (Binary Add greatest (named (codes "b"))) a (binary_good scope Add greatest (named (codes "b")) greatest_good b) (simp expression_depths_are (omega arith)))
            (gives_order (Binary Add least (named (codes "b"))) (named (codes "a")) (binary_good scope Add least (named (codes "b")) least_good b) a (simp expression_depths_are (omega arith)))

        positive_body : AreGood 12 product_by_positive
        positive_body =
            chooses 11 (Compare Less (constant 0) (named (codes "a"))) _ _ (compare_good scope Less (constant 0) (named (codes "a")) (number 0 (omega arith)) a) (simp expression_depths_are (omega arith))
            (gives_order (named (codes "a")) (Binary Div greatest (named (codes "b"))) a (binary_good scope Div greatest (named (codes "b")) greatest_good b) (simp expression_depths_are (omega arith)))
            (gives_order (Binary Div least (named (codes "b"))) (named (codes "a")) (binary_good scope Div least (named (codes "b")) least_good b) a (simp expression_depths_are (omega arith)))

        negative_body : AreGood 12 product_by_negative
        negative_body =
            chooses 11 (Compare Less (constant 0) (named (codes "a"))) _ _ (compare_good scope Less (constant 0) (named (codes "a")) (number 0 (omega arith)) a) (simp expression_depths_are (omega arith))
            (gives_order (Binary Div least (named (codes "a"))) (named (codes "b")) (binary_good scope Div least (named (codes "a")) least_good a) b (simp expression_depths_are (omega arith)))
            (gives_order (Binary Div greatest (named (codes "b"))) (named (codes "a")) (binary_good scope Div greatest (named (codes "b")) greatest_good b) a (simp expression_depths_are (omega arith)))

        -- deeper
        within : (depth limit : ℕ) (body : List CStmt) → depth ≤ limit → AreGood depth body → AreGood limit body
        within depth limit body le good = All-weaker (StmtGood file before function depth) (StmtGood file before function limit) (deeper file before function depth limit le) body good

        product_body : AreGood 14 product_fits.body
        product_body =
            chooses 13 (Compare Less (constant 0) (named (codes "b"))) product_by_positive _ (compare_good scope Less (constant 0) (named (codes "b")) (number 0 (omega arith)) b) (simp expression_depths_are (omega arith))
            (within 12 13 product_by_positive (omega arith) positive_body)
            (chooses 12 (Compare Less (named (codes "b")) (constant 0)) product_by_negative (give (constant 1)) (compare_good scope Less (named (codes "b")) (constant 0) b (number 0 (omega arith))) (simp expression_depths_are (omega arith))
            negative_body
            (within 11 12 (give (constant 1)) (omega arith) (gives (constant 1) (number 1 (omega arith)) (simp expression_depths_are (omega arith)))))

        quotient_body : AreGood 12 quotient_fits.body
        quotient_body =
            chooses 11 (Compare Equal (named (codes "b")) minus_one) _ _ (compare_good scope Equal (named (codes "b")) minus_one b minus_one_good) (simp expression_depths_are (omega arith))
            (gives (Compare Less least (named (codes "a"))) (compare_good scope Less least (named (codes "a")) least_good a) (simp expression_depths_are (omega arith)))
            (gives (constant 1) (number 1 (omega arith)) (simp expression_depths_are (omega arith)))

        remainder_body : AreGood 12 remainder.body
        remainder_body =
            chooses 11 (Compare Equal (named (codes "b")) minus_one) _ _ (compare_good scope Equal (named (codes "b")) minus_one b minus_one_good) (simp expression_depths_are (omega arith))
            (gives (constant 0) (number 0 (omega arith)) (simp expression_depths_are (omega arith)))
            (gives (Binary Rem (named (codes "a")) (named (codes "b"))) (binary_good scope Rem (named (codes "a")) (named (codes "b")) a b) (simp expression_depths_are (omega arith)))

-- The functions -------------------------------------------------------------------------------------------------------

module _ (file : CFile) (before : List CFun) where
  -- a function whose statements nest little, and keep the rules
  keeps : (function : CFun) (depth : ℕ) → depth ≤ 1024 → ¬ NamesClash (var_names (function.params ++ function.vars)) → All (StmtGood file before function depth) function.body
      → some_are (map strays function.body) ≡ false → (function.result ≢ Void → last_is (map ends_function function.body) ≡ true) → FunctionGood file before function
  keeps function depth small apart good none ending = record {
    names = apart;
    body = All-weaker (StmtGood file before function depth) (StmtGood file before function 1024) (deeper file before function depth 1024 small) function.body good;
    loops = none;
    ends = ending;
  }

  pub sum_keeps : FunctionGood file before sum_fits
  sum_keeps = keeps sum_fits 12 (omega arith) two_keep (sum_body file before sum_fits (record { spelled = a_is_name; type = refl }) (record { spelled = b_is_name; type = refl }) refl) (simp strays_are) (λ _. simp ends_are)

  pub difference_keeps : FunctionGood file before difference_fits
  difference_keeps = keeps difference_fits 12 (omega arith) two_keep (difference_body file before difference_fits (record { spelled = a_is_name; type = refl }) (record { spelled = b_is_name; type = refl }) refl) (simp strays_are) (λ _. simp ends_are)

  pub product_keeps : FunctionGood file before product_fits
  product_keeps = keeps product_fits 14 (omega arith) two_keep (product_body file before product_fits (record { spelled = a_is_name; type = refl }) (record { spelled = b_is_name; type = refl }) refl) (simp strays_are) (λ _. simp ends_are)

  pub quotient_keeps : FunctionGood file before quotient_fits
  quotient_keeps = keeps quotient_fits 12 (omega arith) two_keep (quotient_body file before quotient_fits (record { spelled = a_is_name; type = refl }) (record { spelled = b_is_name; type = refl }) refl) (simp strays_are) (λ _. simp ends_are)

  pub remainder_keeps : FunctionGood file before remainder
  remainder_keeps = keeps remainder 12 (omega arith) two_keep (remainder_body file before remainder (record { spelled = a_is_name; type = refl }) (record { spelled = b_is_name; type = refl }) refl) (simp strays_are) (λ _. simp ends_are)

  pub digit_keeps : FunctionGood file before digit
  digit_keeps = keeps digit 11 (omega arith) two_keep (digit_body file before digit (record { spelled = a_is_name; type = refl }) (record { spelled = b_is_name; type = refl })) (simp strays_are) (λ not. absurd (not refl))

  -- where `sl_digit` can be called, its calls are
  module _ (can : CanCall file before print (codes "sl_digit") (parameter (codes "a") ∷ parameter (codes "b") ∷ []) Void) where
    a_known : IsKnown (inside file before print) (codes "a")
    a_known = record { spelled = a_is_name; type = refl }

    calls_digit : (power : ℕ) → power ≤ 2 ^ 63 - 1 → StmtGood file before print 10 (call_digit power)
    calls_digit power small =
        call_good file before print 10 None (codes "sl_digit") (Value (named (codes "a")) ∷ Value (constant power) ∷ [])
        (record {
          params = parameter (codes "a") ∷ parameter (codes "b") ∷ [];
          result = Void;
          can = can;
          fits = (a file before print a_known, refl, (number file before print power small, refl, tt));
          stored = tt;
        })
        (simp expression_depths_are (omega arith)) (omega arith)

    powers_small : All (λ power. power ≤ 2 ^ 63 - 1) powers
    powers_small =
        All-from_recursion (λ power. power ≤ 2 ^ 63 - 1) powers (
          omega arith,
          (
            omega arith,
            (
              omega arith,
              (
                omega arith,
                (
                  omega arith,
                  (
                    omega arith,
                    (
                      omega arith,
                      (
                        omega arith,
                        (
                          omega arith,
                          (omega arith, (omega arith, (omega arith, (omega arith, (omega arith, (omega arith, (omega arith, (omega arith, (omega arith, tt))))))))),
                        ),
                      ),
                    ),
                  ),
                ),
              ),
            ),
          ),
        )

    pub print_keeps : FunctionGood file before print
    print_keeps =
        keeps print 10 (omega arith) one_keeps
        (All-append (StmtGood file before print 10) put_sign (map call_digit powers ++ put_digit (named (codes "a")) ∷ [])
        (All-weaker (StmtGood file before print 5) (StmtGood file before print 10) (deeper file before print 5 10 (omega arith)) put_sign (sign_body file before print a_known))
        (All-append (StmtGood file before print 10) (map call_digit powers) (put_digit (named (codes "a")) ∷ [])
        (All-map (StmtGood file before print 10) call_digit powers (All-weaker (λ power. power ≤ 2 ^ 63 - 1) (λ power. StmtGood file before print 10 (call_digit power)) calls_digit powers powers_small))
        (alone file before print 10 (put_digit (named (codes "a"))) (puts_digit file before print (named (codes "a")) (a file before print a_known) (simp expression_depths_are (omega arith))))))
        (simp strays_are) (λ not. absurd (not refl))
