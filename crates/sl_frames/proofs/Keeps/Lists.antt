-- Lists of functions, of which each is made of a core function and its number.
use Rattle.std.proofs.Common.{◌≡◌, ◌⊎◌, ℕ, ◌+◌, zero, suc, List, [], ◌∷◌, ◌++◌, Bool, true, false, cond, Some, refl, sym, subst, ap, ◌∙◌, inl, inr, arith, All, Contains, bytes_eq}
use Rattle.std.specs.Prelude.{slice_get}
use Rattle.std.specs.List.{IsDistinct, count_by, fold}
use Rattle.std.proofs.lemmas.List.Elements.{All-nil, All-cons, All-head, All-tail, All-contains, All-weaker, All-from_recursion}
use Rattle.std.proofs.lemmas.Map.Keys.{IsDistinct-head, IsDistinct-tail}
use Rattle.std.proofs.lemmas.Slice.Eq.{bytes_eq-Decides}
use Rattle.sl_core.specs.declared.tree.CoreFun.{CoreFun}
use Rattle.c_tree.specs.declared.tree.CFun.{CFun}
use Rattle.c_tree.specs.Rules.{fun_names}
use Rattle.c_tree.proofs.Lists.{in_none, first_in}
use Rattle.c_tree.proofs.Names.{names_differ, differ_names}
use Rattle.c_helpers.proofs.Keeping.{AreAll}
use Rattle.sl_frames.specs.Translated.{of_each}

-- Of each function ----------------------------------------------------------------------------------------------------

-- what holds of what is made of each function holds of all of it
pub all_each : {A : Type 0} (P : A → Type 0) (make : ℕ → CoreFun → A) (first : ℕ) (functions : List CoreFun)
    → ((number place : ℕ) (function : CoreFun) → number ≡ first + place → slice_get functions place ≡ Some function → P (make number function)) → All P (of_each make first functions)
all_each P make first [] holds = All-nil P
all_each P make first (function ∷ functions) holds =
    All-cons P (make first function) (of_each make (suc first) functions) (holds first 0 function (omega arith) refl)
    (all_each P make (suc first) functions (λ number place other is there. holds number (suc place) other (omega arith) there))

-- what is made of a function is there
pub each_in : {A : Type 0} (make : ℕ → CoreFun → A) (first place : ℕ) (functions : List CoreFun) (function : CoreFun) → slice_get functions place ≡ Some function → Contains (of_each make first functions) (make (first + place) function)
each_in make first place [] function is = cc
each_in make first zero (other ∷ functions) function is =
    let same : other ≡ function = cc in
    let start : first + zero ≡ first = omega arith in
    subst (λ number. Contains (make first other ∷ of_each make (suc first) functions) (make number function)) (sym start)
    (subst (λ function. Contains (make first other ∷ of_each make (suc first) functions) (make first function)) same (first_in (make first other) (of_each make (suc first) functions)))
each_in make first (suc place) (other ∷ functions) function is =
    let rest = each_in make (suc first) place functions function is in
    let next : suc first + place ≡ first + suc place = omega arith in
    subst (λ number. Contains (make first other ∷ of_each make (suc first) functions) (make number function)) next
    (suc rest.0, (let inside = rest.1 in omega arith), rest.2)

-- Where a list is split -----------------------------------------------------------------------------------------------

-- an element of two lists stands in the first or in the second
pub split_append : {X : Type 0} (xs ys before behind : List X) (x : X) → xs ++ ys ≡ before ++ x ∷ behind
    → ((mid : List X) × (xs ≡ before ++ x ∷ mid)) ⊎ ((rest : List X) × (before ≡ xs ++ rest) × (ys ≡ rest ++ x ∷ behind))
split_append [] ys before behind x same = inr (before, refl, same)
split_append (a ∷ xs) ys [] behind x same = let first : a ≡ x = cc in inl (xs, ap (λ b. b ∷ xs) first)
split_append (a ∷ xs) ys (b ∷ before) behind x same =
    let first : a ≡ b = cc in
    let others : xs ++ ys ≡ before ++ x ∷ behind = cc in
    next a b xs ys before behind x first (split_append xs ys before behind x others)
  where
    next : {X : Type 0} (a b : X) (xs ys before behind : List X) (x : X) → a ≡ b
        → ((mid : List X) × (xs ≡ before ++ x ∷ mid)) ⊎ ((rest : List X) × (before ≡ xs ++ rest) × (ys ≡ rest ++ x ∷ behind))
        → ((mid : List X) × (a ∷ xs ≡ b ∷ before ++ x ∷ mid)) ⊎ ((rest : List X) × (b ∷ before ≡ a ∷ xs ++ rest) × (ys ≡ rest ++ x ∷ behind))
    next a b xs ys before behind x first (inl (mid, is)) = inl (mid, cc)
    next a b xs ys before behind x first (inr (rest, is, are)) = inr (rest, cc, are)

-- an element in the middle is in the list
pub in_middle : {X : Type 0} (xs before behind : List X) (x : X) → xs ≡ before ++ x ∷ behind → Contains xs x
in_middle {X = X} xs before behind x is = subst (λ list. Contains list x) (sym is) (within before)
  where
    within : (before : List X) → Contains (before ++ x ∷ behind) x
    within [] = first_in x behind
    within (y ∷ before) = let rest = within before in (suc rest.0, (let inside = rest.1 in omega arith), rest.2)

-- Names ---------------------------------------------------------------------------------------------------------------

-- what holds of the names of functions holds of each of these
pub of_names : (P : List ℕ → Type 0) (functions : List CFun) → All P (fun_names functions) → All (λ (function : CFun). P function.name) functions
of_names P [] all = All-nil (λ (function : CFun). P function.name)
of_names P (function ∷ functions) all =
    All-cons (λ (function : CFun). P function.name) function functions (All-head P function.name (fun_names functions) all) (of_names P functions (All-tail P function.name (fun_names functions) all))

-- where names differ, one of the functions is the only one with its name
pub only_one : (functions : List CFun) (function : CFun) → IsDistinct bytes_eq (fun_names functions) → Contains functions function → All (AreAll function.name function.params function.result) functions
only_one [] function apart among = absurd (in_none function among)
only_one (first ∷ functions) function apart (zero, inside, is) =
    All-cons (AreAll function.name function.params function.result) first functions (λ same. (ap (λ (f : CFun). f.params) is, ap (λ (f : CFun). f.result) is))
    (All-weaker (λ (other : CFun). bytes_eq first.name other.name ≡ false) (AreAll function.name function.params function.result)
    (λ other differs same. absurd (names_differ first.name other.name differs (ap (λ (f : CFun). f.name) is ∙ sym same))) functions
    (of_names (λ name. bytes_eq first.name name ≡ false) functions (All-from_recursion (λ name. bytes_eq first.name name ≡ false) (fun_names functions) (IsDistinct-head bytes_eq first.name (fun_names functions) apart))))
only_one (first ∷ functions) function apart (suc place, inside, is) =
    let rest : Contains functions function = (place, omega arith, is) in
    let others = of_names (λ name. bytes_eq first.name name ≡ false) functions (All-from_recursion (λ name. bytes_eq first.name name ≡ false) (fun_names functions) (IsDistinct-head bytes_eq first.name (fun_names functions) apart)) in
    All-cons (AreAll function.name function.params function.result) first functions
    (λ same. absurd (names_differ first.name function.name (subst (λ (f : CFun). bytes_eq first.name f.name ≡ false) is (others place function (omega arith))) same))
    (only_one functions function (IsDistinct-tail bytes_eq first.name (fun_names functions) apart) rest)

-- How many have a name ------------------------------------------------------------------------------------------------

module _ (name : List ℕ) where
  -- so many, and those that have the name
  abbrev counted : ℕ → List CFun → ℕ
  counted start functions = fold (λ count (function : CFun). count + cond (bytes_eq function.name name) 1 0) start functions

  -- one that has it counts, and one that has another name doesn't
  one_more : (test : Bool) (start : ℕ) → test ≡ true → start + cond test 1 0 ≡ suc start
  one_more test start is = rw is (omega arith)

  no_more : (test : Bool) (start : ℕ) → test ≡ false → start + cond test 1 0 ≡ start
  no_more test start is = rw is (omega arith)

  -- none has a name that differs from all
  count_none : (start : ℕ) (functions : List CFun) → All (λ other. bytes_eq name other ≡ false) (fun_names functions) → counted start functions ≡ start
  count_none start [] all = refl
  count_none start (function ∷ functions) all =
      let differs = All-head (λ other. bytes_eq name other ≡ false) function.name (fun_names functions) all in
      let other : bytes_eq function.name name ≡ false = differ_names function.name name (λ same. names_differ name function.name differs (sym same)) in
      count_none (start + cond (bytes_eq function.name name) 1 0) functions (All-tail (λ other. bytes_eq name other ≡ false) function.name (fun_names functions) all)
      ∙ no_more (bytes_eq function.name name) start other

  -- one has a name that is there, where names differ
  count_from : (start : ℕ) (functions : List CFun) → IsDistinct bytes_eq (fun_names functions) → Contains (fun_names functions) name → counted start functions ≡ suc start
  count_from start [] apart among = absurd (in_none name among)
  count_from start (function ∷ functions) apart (zero, inside, is) =
      let others = All-from_recursion (λ other. bytes_eq function.name other ≡ false) (fun_names functions) (IsDistinct-head bytes_eq function.name (fun_names functions) apart) in
      count_none (start + cond (bytes_eq function.name name) 1 0) functions (subst (λ name. All (λ other. bytes_eq name other ≡ false) (fun_names functions)) is others)
      ∙ one_more (bytes_eq function.name name) start ((bytes_eq-Decides function.name name).1 is)
  count_from start (function ∷ functions) apart (suc place, inside, is) =
      let rest : Contains (fun_names functions) name = (place, omega arith, is) in
      let others = All-from_recursion (λ other. bytes_eq function.name other ≡ false) (fun_names functions) (IsDistinct-head bytes_eq function.name (fun_names functions) apart) in
      let differs : bytes_eq function.name name ≡ false = All-contains (λ other. bytes_eq function.name other ≡ false) (fun_names functions) name others rest in
      count_from (start + cond (bytes_eq function.name name) 1 0) functions (IsDistinct-tail bytes_eq function.name (fun_names functions) apart) rest
      ∙ ap suc (no_more (bytes_eq function.name name) start differs)

  pub count_one : (functions : List CFun) → IsDistinct bytes_eq (fun_names functions) → Contains (fun_names functions) name → count_by (λ (function : CFun). bytes_eq function.name name) functions ≡ 1
  count_one functions apart among = count_from 0 functions apart among
