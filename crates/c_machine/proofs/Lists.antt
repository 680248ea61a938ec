-- Lists whose elements are related two by two.
use Rattle.std.proofs.Common.{◌≡◌, ℕ, zero, suc, ◌+◌, ◌<◌, ◌≤◌, List, [], ◌∷◌, ◌++◌, Option, None, Some, length, take, get_or, sym, ap, ◌∙◌, subst}
use Rattle.std.specs.Prelude.{slice_get}
use Rattle.std.proofs.lemmas.List.{take_more, take_all}
use Rattle.c_machine.specs.Related.{Pairwise}

-- two things are there and related, or none is
abbrev pub Both : {A B : Type 0} → (A → B → Type 0) → Option A → Option B → Type 0
Both related None None = Unit {0}
Both related (Some x) (Some y) = related x y
Both related None (Some y) = ⊥
Both related (Some x) None = ⊥

module _ {A B : Type 0} (related : A → B → Type 0) where
  -- what stands at a place
  pub both_at : (xs : List A) (ys : List B) (n : ℕ) → Pairwise related xs ys → Both related (slice_get xs n) (slice_get ys n)
  both_at [] [] n h = tt
  both_at (x ∷ xs) (y ∷ ys) zero h = h.0
  both_at (x ∷ xs) (y ∷ ys) (suc n) h = both_at xs ys n h.1
  both_at [] (y ∷ ys) n h = absurd h
  both_at (x ∷ xs) [] n h = absurd h

  -- two more
  pub pairwise_push : (xs : List A) (ys : List B) (x : A) (y : B) → Pairwise related xs ys → related x y → Pairwise related (xs ++ x ∷ []) (ys ++ y ∷ [])
  pairwise_push [] [] x y h k = (k, tt)
  pairwise_push (z ∷ xs) (w ∷ ys) x y h k = (h.0, pairwise_push xs ys x y h.1 k)
  pairwise_push [] (w ∷ ys) x y h k = absurd h
  pairwise_push (z ∷ xs) [] x y h k = absurd h

  -- two more in a loop
  pub pairwise_more : (xs : List A) (ys zs : List B) (i : ℕ) (x d : A) (y : B) → i < length xs → x ≡ get_or xs i d → zs ≡ ys ++ y ∷ [] → Pairwise related (take i xs) ys → related x y → Pairwise related (take (i + 1) xs) zs
  pairwise_more xs ys zs i x d y within is pushed h k =
      subst (Pairwise related (take (i + 1) xs)) (sym pushed)
      (subst (λ some. Pairwise related some (ys ++ y ∷ [])) (ap (λ x. take i xs ++ x ∷ []) is ∙ sym (take_more xs i d within)) (pairwise_push (take i xs) ys x y h k))

  -- all
  pub pairwise_all : (xs : List A) (ys : List B) (i : ℕ) → length xs ≤ i → Pairwise related (take i xs) ys → Pairwise related xs ys
  pairwise_all xs ys i whole h = subst (λ some. Pairwise related some ys) (take_all i xs whole) h
