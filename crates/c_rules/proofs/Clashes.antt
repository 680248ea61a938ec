-- Names that don't clash, and names that do.
use Rattle.std.proofs.Common.{◌≡◌, ℕ, suc, ◌+◌, ◌<◌, List, [], ◌∷◌, ◌++◌, Bool, true, false, not, ◌||◌, cond, Decides, refl, sym, subst, ap, ◌∙◌, inl, inr, arith, length, get_or, take, drop, map, Contains, All, bytes_eq}
use Rattle.std.specs.Cmp.{IsEquivalence}
use Rattle.std.specs.List.{list_any, IsDistinct}
use Rattle.std.proofs.lemmas.Bool.{not-true, not-false}
use Rattle.std.proofs.lemmas.Bool.Decides.{same_from_decides}
use Rattle.std.proofs.lemmas.List.{map-append}
use Rattle.std.proofs.lemmas.List.Folds.{list_any-append}
use Rattle.std.proofs.lemmas.List.Elements.{All-nil, All-push, All-contains, All-from_recursion, Contains-append_right}
use Rattle.std.proofs.lemmas.Map.Keys.{IsDistinct-push, IsDistinct-from_apart, IsDistinct-head, IsDistinct-tail}
use Rattle.std.proofs.lemmas.Slice.Eq.{bytes_eq-Decides}
use Rattle.c_tree.specs.Words.{reserved_words}
use Rattle.c_tree.specs.Rules.{NamesClash}
use Rattle.c_rules.specs.Names.{is_reserved}
use Rattle.c_tree.proofs.Lists.{in_none, first_in}
use Rattle.c_rules.proofs.Anys.{any_holds, in_cases, around, one_more}

-- names that don't clash
pub record AreFine (names : List (List ℕ)) : Type 0 where
  pub distinct : IsDistinct bytes_eq names
  pub free : All (λ name. is_reserved name ≡ false) names

-- a name is reserved
reserved_holds : (name : List ℕ) → Decides (is_reserved name) (Contains reserved_words name)
unfolding is_reserved
reserved_holds name =
    let some = any_holds (λ word. bytes_eq word name) (λ word. word ≡ name) (λ word. bytes_eq-Decides word name) reserved_words
    in (λ passed. let found = some.0 passed in subst (Contains reserved_words) found.2 found.1, λ among. some.1 (name, among, refl))

-- it doesn't matter which of two texts comes first
pub bytes_flip : (left right : List ℕ) → bytes_eq left right ≡ bytes_eq right left
bytes_flip left right =
    let decides = bytes_eq-Decides right left
    in same_from_decides (bytes_eq left right) (bytes_eq right left) (bytes_eq-Decides left right) (λ passed. sym (decides.0 passed), λ same. decides.1 (sym same))

-- texts are the same or not
bytes_alike : IsEquivalence bytes_eq
bytes_alike = record {
  refl = λ x. (bytes_eq-Decides x x).1 refl;
  symm = bytes_flip;
  congr = λ x y z same. ap (λ w. bytes_eq w z) ((bytes_eq-Decides x y).0 same);
}

pub fine_none : AreFine []
fine_none = record { distinct = IsDistinct-from_apart bytes_eq [] (λ i j d before within. absurd (omega arith)); free = All-nil (λ name. is_reserved name ≡ false) }

pub fine_more : (names : List (List ℕ)) (name : List ℕ) → AreFine names → is_reserved name ≡ false → list_any (bytes_eq name) names ≡ false → AreFine (names ++ name ∷ [])
fine_more names name fine free fresh = record {
  distinct = IsDistinct-push bytes_alike names name fine.distinct fresh;
  free = All-push (λ name. is_reserved name ≡ false) names name fine.free free;
}

-- they don't clash
pub fine_apart : (names : List (List ℕ)) → AreFine names → ¬ NamesClash names
fine_apart names fine (inl twice) = twice fine.distinct
fine_apart names fine (inr (name, among, reserved)) =
    let free = All-contains (λ name. is_reserved name ≡ false) names name fine.free among in
    let taken = (reserved_holds name).1 reserved in cc

-- a reserved name clashes
pub clash_reserved : (before behind : List (List ℕ)) (name : List ℕ) → is_reserved name ≡ true → NamesClash (before ++ name ∷ behind)
clash_reserved before behind name taken = inr (name, Contains-append_right before (name ∷ behind) name (first_in name behind), (reserved_holds name).0 taken)

-- a name that stands before it already isn't distinct
twice : (before behind : List (List ℕ)) (name : List ℕ) → Contains before name → ¬ IsDistinct bytes_eq (before ++ name ∷ behind)
twice [] behind name among distinct = in_none name among
twice (first ∷ before) behind name among distinct =
    let apart = All-from_recursion (λ other. bytes_eq first other ≡ false) (before ++ name ∷ behind) (IsDistinct-head bytes_eq first (before ++ name ∷ behind) distinct) in
    let differs = All-contains (λ other. bytes_eq first other ≡ false) (before ++ name ∷ behind) name apart (Contains-append_right before (name ∷ behind) name (first_in name behind))
    in in_cases ⊥ name first before (λ same. let equal = (bytes_eq-Decides first name).1 same in cc)
    (λ rest. twice before behind name rest (IsDistinct-tail bytes_eq first (before ++ name ∷ behind) distinct)) among

pub clash_again : (before behind : List (List ℕ)) (name : List ℕ) → list_any (bytes_eq name) before ≡ true → NamesClash (before ++ name ∷ behind)
clash_again before behind name again =
    let found = (any_holds (bytes_eq name) (λ other. name ≡ other) (bytes_eq-Decides name) before).0 again
    in inl (twice before behind name (subst (Contains before) (sym found.2) found.1))

either : (first second : Bool) → cond first true second ≡ second || (first || false)
either true true = refl
either true false = refl
either false true = refl
either false false = refl

-- what was seen, with one more
pub seen_more : (asked name : List ℕ) (names : List (List ℕ)) (old new : Bool) → new ≡ cond (bytes_eq name asked) true old → old ≡ list_any (bytes_eq asked) names → new ≡ list_any (bytes_eq asked) (names ++ name ∷ [])
seen_more asked name names old new becomes was =
    becomes
    ∙ (ap (λ same. cond same true old) (bytes_flip name asked)
    ∙ (ap (cond (bytes_eq asked name) true) was
    ∙ (either (bytes_eq asked name) (list_any (bytes_eq asked) names)
    ∙ sym (list_any-append (bytes_eq asked) names (name ∷ [])))))

-- Steps of a loop over things with names -----------------------------------------------------------------------------------

module _ {X : Type 0} (f : X → List ℕ) (xs : List X) (i : ℕ) (x : X) (within : i < length xs) (is : x ≡ get_or xs i x) where
  -- the names with one more, and all names around one
  names_more : map f (take (i + 1) xs) ≡ map f (take i xs) ++ f x ∷ []
  names_more = ap (map f) (one_more xs i x within is) ∙ map-append f (take i xs) (x ∷ [])

  names_around : map f xs ≡ map f (take i xs) ++ f x ∷ map f (drop (suc i) xs)
  names_around = ap (map f) (around xs i x within is) ∙ map-append f (take i xs) (x ∷ drop (suc i) xs)

  pub seen_step : (asked key : List ℕ) (old new : Bool) → key ≡ f x → old ≡ list_any (bytes_eq asked) (map f (take i xs)) → new ≡ cond (bytes_eq key asked) true old → new ≡ list_any (bytes_eq asked) (map f (take (i + 1) xs))
  seen_step asked key old new named was becomes =
      seen_more asked (f x) (map f (take i xs)) old new (becomes ∙ ap (λ name. cond (bytes_eq name asked) true old) named) was
      ∙ ap (list_any (bytes_eq asked)) (sym names_more)

  pub fine_step : (key : List ℕ) (had fresh : Bool) → key ≡ f x → AreFine (map f (take i xs)) → is_reserved (f x) ≡ false → had ≡ list_any (bytes_eq key) (map f (take i xs)) → fresh ≡ not had → fresh ≡ true → AreFine (map f (take (i + 1) xs))
  fine_step key had fresh named fine free was gives new =
      let none : list_any (bytes_eq key) (map f (take i xs)) ≡ false = sym was ∙ not-true had (sym gives ∙ new)
      in subst AreFine (sym names_more) (fine_more (map f (take i xs)) (f x) fine free (subst (λ name. list_any (bytes_eq name) (map f (take i xs)) ≡ false) named none))

  pub reserved_step : is_reserved (f x) ≡ true → NamesClash (map f xs)
  reserved_step taken = subst NamesClash (sym names_around) (clash_reserved (map f (take i xs)) (map f (drop (suc i) xs)) (f x) taken)

  pub again_step : (key : List ℕ) (had fresh : Bool) → key ≡ f x → had ≡ list_any (bytes_eq key) (map f (take i xs)) → fresh ≡ not had → fresh ≡ false → NamesClash (map f xs)
  again_step key had fresh named was gives old =
      let some : list_any (bytes_eq key) (map f (take i xs)) ≡ true = sym was ∙ not-false had (sym gives ∙ old)
      in subst NamesClash (sym names_around) (clash_again (map f (take i xs)) (map f (drop (suc i) xs)) (f x) (subst (λ name. list_any (bytes_eq name) (map f (take i xs)) ≡ true) named some))
