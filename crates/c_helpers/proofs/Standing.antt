-- The inline functions where they stand in front in a file.
use Rattle.std.proofs.Common.{◌≡◌, ℕ, ◌≤◌, List, [], ◌∷◌, ◌++◌, refl, sym, subst, ap, ◌∙◌, inl, inr, arith, All, Contains, map, codes}
use Rattle.std.proofs.lemmas.List.{append-nil, get_or-map, length-map}
use Rattle.std.proofs.lemmas.List.Elements.{All-nil, All-cons, All-append, All-weaker, All-from_recursion}
use Rattle.c_tree.specs.declared.tree.CFile.{CFile}
use Rattle.c_tree.specs.declared.tree.CVar.{CVar}
use Rattle.c_tree.specs.declared.tree.CFun.{CFun}
use Rattle.c_tree.specs.declared.tree.CType.TheVariants.{Void}
use Rattle.c_tree.specs.Words.{IsName}
use Rattle.c_tree.specs.WellFormed.{IsParam, IsResult, IsFunction, IsVar, stmt_depth}
use Rattle.c_tree.specs.Rules.{BreaksInside}
use Rattle.c_tree.proofs.Lists.{not_empty, first_in}
use Rattle.c_helpers.specs.Functions.{parameter, sum_fits, difference_fits, product_fits, quotient_fits, remainder, digit, print, helper_functions}
use Rattle.c_helpers.specs.Laws.{IsOther}
use Rattle.c_tree.proofs.Names.{name_is, none_of, names_differ}
use Rattle.c_helpers.proofs.Keeping.{AreAll, CanCall, FunctionGood, formed_body, body_nesting, function_keeps}
use Rattle.c_helpers.proofs.Good.{a_is_name, b_is_name, sum_keeps, difference_keeps, product_keeps, quotient_keeps, remainder_keeps, digit_keeps, print_keeps}

-- what is of a list is, under a function, of the list of what that gives
pub Contains-map : {X Y : Type 0} (f : X → Y) (xs : List X) (x : X) → Contains xs x → Contains (map f xs) (f x)
Contains-map f xs x (k, inside, is) = (k, let long = length-map xs f in omega arith, get_or-map f xs k x (f x) inside ∙ ap f is)

abbrev two : List CVar
two = parameter (codes "a") ∷ parameter (codes "b") ∷ []

-- `sl_digit` can be called by `sl_print` behind it
module _ (file : CFile) (others before : List CFun) (these : file.functions ≡ helper_functions ++ others) (apart : All IsOther others) (among : Contains before digit) where
  only_digit : All (AreAll (codes "sl_digit") two Void) helper_functions
  unfolding helper_functions
  only_digit =
      All-from_recursion (AreAll (codes "sl_digit") two Void) helper_functions (
        λ same. absurd (names_differ (codes "sl_sum_fits") (codes "sl_digit") refl same),
        (
          λ same. absurd (names_differ (codes "sl_difference_fits") (codes "sl_digit") refl same),
          (
            λ same. absurd (names_differ (codes "sl_product_fits") (codes "sl_digit") refl same),
            (
              λ same. absurd (names_differ (codes "sl_quotient_fits") (codes "sl_digit") refl same),
              (
                λ same. absurd (names_differ (codes "sl_remainder") (codes "sl_digit") refl same),
                (
                  λ same. (refl, refl),
                  (λ same. absurd (names_differ (codes "sl_print") (codes "sl_digit") refl same), tt),
                ),
              ),
            ),
          ),
        ),
      )

  only : All (AreAll (codes "sl_digit") two Void) file.functions
  only =
      subst (All (AreAll (codes "sl_digit") two Void)) (sym these)
      (All-append (AreAll (codes "sl_digit") two Void) helper_functions others only_digit
      (All-weaker IsOther (AreAll (codes "sl_digit") two Void) (λ other differs same. absurd (differs same)) others apart))

  can_digit : CanCall file before print (codes "sl_digit") two Void
  can_digit = record {
    spelled = name_is (codes "sl_digit") refl refl;
    only = only;
    declared = inr (inr (Contains-map (λ (function : CFun). function.name) before digit among));
    seen = none_of (codes "a" ∷ []) (codes "sl_digit") refl;
    below = λ _. (digit, among, refl, refl);
  }

-- A text can have them ------------------------------------------------------------------------------------------------

-- the file of them alone
abbrev alone : CFile
alone = record { structs = []; globals = []; protos = []; functions = helper_functions }

params_formed : All IsParam two
params_formed = All-from_recursion IsParam two (record { name = a_is_name; kind = refl }, (record { name = b_is_name; kind = refl }, tt))

-- a function with such parameters
formed_two : (before : List CFun) (function : CFun) → function.params ≡ two → function.vars ≡ [] → IsName function.name → IsResult function.result → FunctionGood alone before function → IsFunction function
formed_two before function params none name result good = record {
  head = record { name = name; result = result; params = subst (All IsParam) (sym params) params_formed };
  vars = subst (All IsVar) (sym none) (All-nil IsVar);
  body = formed_body alone before function good;
}

print_good : FunctionGood alone (digit ∷ []) print
print_good = print_keeps alone (digit ∷ []) (can_digit alone [] (digit ∷ []) (sym (append-nil helper_functions)) (All-nil IsOther) (first_in digit []))

print_formed : IsFunction print
print_formed = record {
  head = record { name = name_is (codes "sl_print") refl refl; result = inr refl; params = All-cons IsParam (parameter (codes "a")) [] (record { name = a_is_name; kind = refl }) (All-nil IsParam) };
  vars = All-nil IsVar;
  body = formed_body alone (digit ∷ []) print print_good;
}

pub all_formed : All IsFunction helper_functions
unfolding helper_functions
all_formed =
    All-from_recursion IsFunction helper_functions (
      formed_two [] sum_fits refl refl (name_is (codes "sl_sum_fits") refl refl) (inl refl) (sum_keeps alone []),
      (
        formed_two [] difference_fits refl refl (name_is (codes "sl_difference_fits") refl refl) (inl refl) (difference_keeps alone []),
        (
          formed_two [] product_fits refl refl (name_is (codes "sl_product_fits") refl refl) (inl refl) (product_keeps alone []),
          (
            formed_two [] quotient_fits refl refl (name_is (codes "sl_quotient_fits") refl refl) (inl refl) (quotient_keeps alone []),
            (
              formed_two [] remainder refl refl (name_is (codes "sl_remainder") refl refl) (inl refl) (remainder_keeps alone []),
              (
                formed_two [] digit refl refl (name_is (codes "sl_digit") refl refl) (inr refl) (digit_keeps alone []),
                (print_formed, tt),
              ),
            ),
          ),
        ),
      ),
    )

-- the statements of a function don't nest too deep
abbrev pub NestsLittle : CFun → Type 0
NestsLittle function = All (λ s. stmt_depth s ≤ 1024) function.body

pub all_nest_little : All NestsLittle helper_functions
unfolding helper_functions
all_nest_little =
    All-from_recursion NestsLittle helper_functions (
      body_nesting alone [] sum_fits (sum_keeps alone []),
      (
        body_nesting alone [] difference_fits (difference_keeps alone []),
        (
          body_nesting alone [] product_fits (product_keeps alone []),
          (
            body_nesting alone [] quotient_fits (quotient_keeps alone []),
            (
              body_nesting alone [] remainder (remainder_keeps alone []),
              (
                body_nesting alone [] digit (digit_keeps alone []),
                (body_nesting alone (digit ∷ []) print print_good, tt),
              ),
            ),
          ),
        ),
      ),
    )

-- They break no rule --------------------------------------------------------------------------------------------------

module _ (file : CFile) (others : List CFun) (these : file.functions ≡ helper_functions ++ others) (apart : All IsOther others) where
  -- of one that is another
  as_other : (before : List CFun) (function other : CFun) → function ≡ other → FunctionGood file before function → (rule : ℕ) → ¬ BreaksInside file before other rule
  as_other before function other same good = subst (λ other. (rule : ℕ) → ¬ BreaksInside file before other rule) same (function_keeps file before function good)

  sixth : (x a b c d e : CFun) → digit ≡ x → Contains (a ∷ b ∷ c ∷ d ∷ e ∷ x ∷ []) digit
  sixth x a b c d e same = (5, omega arith, sym same)

  pub all_keep : (before behind : List CFun) (function : CFun) → helper_functions ≡ before ++ function ∷ behind → (rule : ℕ) → ¬ BreaksInside file before function rule
  unfolding helper_functions
  all_keep [] behind function split = as_other [] sum_fits function (let h : sum_fits ≡ function = cc in h) (sum_keeps file [])
  all_keep (a ∷ []) behind function split = as_other (a ∷ []) difference_fits function (let h : difference_fits ≡ function = cc in h) (difference_keeps file (a ∷ []))
  all_keep (a ∷ b ∷ []) behind function split = as_other (a ∷ b ∷ []) product_fits function (let h : product_fits ≡ function = cc in h) (product_keeps file (a ∷ b ∷ []))
  all_keep (a ∷ b ∷ c ∷ []) behind function split = as_other (a ∷ b ∷ c ∷ []) quotient_fits function (let h : quotient_fits ≡ function = cc in h) (quotient_keeps file (a ∷ b ∷ c ∷ []))
  all_keep (a ∷ b ∷ c ∷ d ∷ []) behind function split = as_other (a ∷ b ∷ c ∷ d ∷ []) remainder function (let h : remainder ≡ function = cc in h) (remainder_keeps file (a ∷ b ∷ c ∷ d ∷ []))
  all_keep (a ∷ b ∷ c ∷ d ∷ e ∷ []) behind function split = as_other (a ∷ b ∷ c ∷ d ∷ e ∷ []) digit function (let h : digit ≡ function = cc in h) (digit_keeps file (a ∷ b ∷ c ∷ d ∷ e ∷ []))
  all_keep (a ∷ b ∷ c ∷ d ∷ e ∷ f ∷ []) behind function split =
      as_other (a ∷ b ∷ c ∷ d ∷ e ∷ f ∷ []) print function (let h : print ≡ function = cc in h)
      (print_keeps file (a ∷ b ∷ c ∷ d ∷ e ∷ f ∷ []) (can_digit file others (a ∷ b ∷ c ∷ d ∷ e ∷ f ∷ []) these apart (sixth f a b c d e (let h : digit ≡ f = cc in h))))
  all_keep (a ∷ b ∷ c ∷ d ∷ e ∷ f ∷ g ∷ before) behind function split = absurd (not_empty function before behind (let rest : [] ≡ before ++ function ∷ behind = cc in rest))
