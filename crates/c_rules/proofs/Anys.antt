-- Whether some element is so, and what stands in lists.
use Rattle.std.proofs.Common.{◌≡◌, ℕ, zero, suc, ◌+◌, ◌<◌, ◌≤◌, List, [], ◌∷◌, ◌++◌, Bool, Decides, sym, subst, ap, ◌∙◌, arith, length, get_or, take, drop, Contains, All}
use Rattle.std.specs.List.{list_any}
use Rattle.std.proofs.lemmas.List.{take_all, take_more}
use Rattle.std.proofs.Math.Seq.{split_at}
use Rattle.std.proofs.lemmas.List.Folds.{Any-from_list_any, list_any-from_Any}
use Rattle.std.proofs.lemmas.List.Elements.{All-push, All-contains, Contains-append_right}

-- some element is so
pub any_holds : {X : Type 0} (p : X → Bool) (P : X → Type 0) → ((x : X) → Decides (p x) (P x)) → (xs : List X) → Decides (list_any p xs) ((x : X) × Contains xs x × P x)
any_holds p P each xs = (
  λ passed. let found = Any-from_list_any p xs passed in (found.1, (found.0, found.2, found.3), (each found.1).0 found.4),
  λ (x, among, holds). list_any-from_Any p xs (among.0, x, among.1, among.2, (each x).1 holds),
)

-- what is in the rest of a list is in it
pub behind_in : {X : Type 0} (x y : X) (xs : List X) → Contains xs x → Contains (y ∷ xs) x
behind_in x y xs among = Contains-append_right (y ∷ []) xs x among

-- what is in a list is its first element or in the rest
pub in_cases : {X : Type 0} (P : Type 0) (x y : X) (xs : List X) → (y ≡ x → P) → (Contains xs x → P) → Contains (y ∷ xs) x → P
in_cases P x y xs first rest (zero, less, is) = first is
in_cases P x y xs first rest (suc k, less, is) = rest (k, omega arith, is)

-- a list around one of its elements
pub around : {X : Type 0} (xs : List X) (i : ℕ) (x : X) → i < length xs → x ≡ get_or xs i x → xs ≡ take i xs ++ x ∷ drop (suc i) xs
around xs i x within is = split_at xs i x within ∙ ap (λ y. take i xs ++ y ∷ drop (suc i) xs) (sym is)

-- one more element
pub one_more : {X : Type 0} (xs : List X) (i : ℕ) (x : X) → i < length xs → x ≡ get_or xs i x → take (i + 1) xs ≡ take i xs ++ x ∷ []
one_more xs i x within is = take_more xs i x within ∙ ap (λ y. take i xs ++ y ∷ []) (sym is)

-- such an element is in the list
pub is_in : {X : Type 0} (xs : List X) (i : ℕ) (x : X) → i < length xs → x ≡ get_or xs i x → Contains xs x
is_in xs i x within is = (i, within, sym is)

-- no element so far is so, nor is one more
pub none_more : {X : Type 0} (P : X → Type 0) (xs : List X) (i : ℕ) (x : X) → i < length xs → x ≡ get_or xs i x → All (λ y. ¬ P y) (take i xs) → ¬ P x → All (λ y. ¬ P y) (take (i + 1) xs)
none_more P xs i x within is none here = subst (All (λ y. ¬ P y)) (sym (one_more xs i x within is)) (All-push (λ y. ¬ P y) (take i xs) x none here)

-- no element is so
pub none_in : {X : Type 0} (P : X → Type 0) (xs ys : List X) (i : ℕ) → length xs ≤ i → xs ≡ ys → All (λ y. ¬ P y) (take i xs) → (y : X) → Contains ys y → ¬ P y
none_in P xs ys i whole same none y among = All-contains (λ y. ¬ P y) ys y (subst (All (λ y. ¬ P y)) (take_all i xs whole ∙ same) none) among
