-- What is read and written in lists: in two, one behind the other, and below a place.
use Rattle.std.proofs.Common.{◌≡◌, ◌≢◌, ℕ, zero, suc, ◌+◌, ◌<◌, ◌≤◌, List, [], ◌∷◌, ◌++◌, length, Some, slice_get, slice_set, refl, sym, ap, ◌∙◌, arith}
use Rattle.std.proofs.lemmas.List.{length-set}

-- what is there is the same
pub some_same : {A : Type 0} (x y : A) → Some x ≡ Some y → x ≡ y
some_same x y is = cc

module _ {A : Type 0} where
  -- what is read in the first of two lists
  pub get_left : (xs ys : List A) (i : ℕ) → i < length xs → slice_get (xs ++ ys) i ≡ slice_get xs i
  get_left [] ys i within = absurd (omega arith)
  get_left (x ∷ xs) ys zero within = refl
  get_left (x ∷ xs) ys (suc i) within = get_left xs ys i (omega arith)

  -- and in the second
  pub get_right : (xs ys : List A) (i n : ℕ) → n ≡ length xs + i → slice_get (xs ++ ys) n ≡ slice_get ys i
  get_right [] ys i n is = let same : n ≡ i = omega arith in ap (slice_get ys) same
  get_right (x ∷ xs) ys i zero is = absurd (omega arith)
  get_right (x ∷ xs) ys i (suc n) is = get_right xs ys i n (omega arith)

  -- what is written in the first of two lists
  pub set_left : (xs ys : List A) (i : ℕ) (a : A) → i < length xs → slice_set (xs ++ ys) i a ≡ slice_set xs i a ++ ys
  set_left [] ys i a within = absurd (omega arith)
  set_left (x ∷ xs) ys zero a within = refl
  set_left (x ∷ xs) ys (suc i) a within = ap (λ zs. x ∷ zs) (set_left xs ys i a (omega arith))

  -- and in the second
  pub set_right : (xs ys : List A) (i n : ℕ) (a : A) → n ≡ length xs + i → slice_set (xs ++ ys) n a ≡ xs ++ slice_set ys i a
  set_right [] ys i n a is = let same : n ≡ i = omega arith in ap (λ n. slice_set ys n a) same
  set_right (x ∷ xs) ys i zero a is = absurd (omega arith)
  set_right (x ∷ xs) ys i (suc n) a is = ap (λ zs. x ∷ zs) (set_right xs ys i n a (omega arith))

  -- what was written is there
  pub get_set_same : (xs : List A) (i : ℕ) (a : A) → i < length xs → slice_get (slice_set xs i a) i ≡ Some a
  get_set_same [] i a within = absurd (omega arith)
  get_set_same (x ∷ xs) zero a within = refl
  get_set_same (x ∷ xs) (suc i) a within = get_set_same xs i a (omega arith)

  -- another place holds what it held
  pub get_set_other : (xs : List A) (i j : ℕ) (a : A) → j ≢ i → slice_get (slice_set xs i a) j ≡ slice_get xs j
  get_set_other [] i j a other = refl
  get_set_other (x ∷ xs) zero zero a other = absurd (other refl)
  get_set_other (x ∷ xs) zero (suc j) a other = refl
  get_set_other (x ∷ xs) (suc i) zero a other = refl
  get_set_other (x ∷ xs) (suc i) (suc j) a other = get_set_other xs i j a (λ e. other (ap suc e))

  -- two lists are the same below a place, and as long
  pub record SameBelow (limit : ℕ) (xs ys : List A) : Type 0 where
    pub long : length xs ≡ length ys
    pub same : (i : ℕ) → i < limit → slice_get xs i ≡ slice_get ys i

  pub same_below : (limit : ℕ) (xs : List A) → SameBelow limit xs xs
  same_below limit xs = record { long = refl; same = λ i below. refl }

  -- a list is another below what is written
  pub set_below : (limit i : ℕ) (xs : List A) (a : A) → limit ≤ i → SameBelow limit xs (slice_set xs i a)
  set_below limit i xs a above = record { long = sym (length-set xs i a); same = λ j below. sym (get_set_other xs i j a (λ e. omega arith)) }

  -- one after another, below what is the lower
  pub then_below : (limit limit' : ℕ) (xs ys zs : List A) → limit ≤ limit' → SameBelow limit xs ys → SameBelow limit' ys zs → SameBelow limit xs zs
  then_below limit limit' xs ys zs less first second =
      record { long = first.long ∙ second.long; same = λ i below. first.same i below ∙ second.same i (omega arith) }
