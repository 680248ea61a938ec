-- What is short to say of the elements of short lists.
use Rattle.std.proofs.Common.{◌≡◌, ◌≢◌, List, [], ◌∷◌, ◌++◌, refl, sym, subst, arith, Contains}
use Rattle.std.proofs.lemmas.List.Elements.{All-nil, All-cons, All-contains}

-- nothing is in the empty list
pub in_none : {X : Type 0} (x : X) → ¬ Contains [] x
in_none x among = let less = among.1 in absurd (omega arith)

-- the first element is in a list
pub first_in : {X : Type 0} (x : X) (xs : List X) → Contains (x ∷ xs) x
first_in x xs = (0, omega arith, refl)

-- and so is the second
pub second_in : {X : Type 0} (x y : X) (xs : List X) → Contains (x ∷ y ∷ xs) y
second_in x y xs = (1, omega arith, refl)

-- what is in one of two lists that are the same is in the other
pub in_same : {X : Type 0} {x : X} {xs ys : List X} → xs ≡ ys → Contains ys x → Contains xs x
in_same {X} {x} same among = subst (λ list. Contains list x) (sym same) among

-- what holds of the one element of a list holds of what is in it
pub of_one : {X : Type 0} (P : X → Type 0) (x y : X) → P x → Contains (x ∷ []) y → P y
of_one P x y holds among = All-contains P (x ∷ []) y (All-cons P x [] holds (All-nil P)) among

-- a list with an element somewhere isn't empty
pub not_empty : {X : Type 0} (x : X) (before behind : List X) → [] ≢ before ++ x ∷ behind
not_empty x [] behind none = cc
not_empty x (y ∷ before) behind none = cc

-- each element of a list is so, which is said of those before it and it
abbrev pub AllPlaces : {X : Type 0} → (List X → X → Type 0) → List X → Type 0
AllPlaces P [] = Unit {0}
AllPlaces P (x ∷ xs) = P [] x × AllPlaces (λ before y. P (x ∷ before) y) xs

-- so it holds of each place
pub at_place : {X : Type 0} (P : List X → X → Type 0) (xs before behind : List X) (x : X) → AllPlaces P xs → xs ≡ before ++ x ∷ behind → P before x
at_place P [] before behind x all is = absurd (not_empty x before behind is)
at_place P (y ∷ xs) [] behind x all is = let same : y ≡ x = cc in subst (P []) same all.0
at_place P (y ∷ xs) (z ∷ before) behind x all is =
    let same : y ≡ z = cc in
    let rest : xs ≡ before ++ x ∷ behind = cc in
    subst (λ first. P (first ∷ before) x) same (at_place (λ before y'. P (y ∷ before) y') xs before behind x all.1 rest)
