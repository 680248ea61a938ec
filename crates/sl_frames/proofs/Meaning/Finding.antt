-- Where the first element stands that passes a test.
use Rattle.std.proofs.Common.{◌≡◌, ℕ, zero, suc, ◌+◌, ◌<◌, List, [], ◌∷◌, length, Bool, true, false, not, cond, Some, None, refl, ap, ◌∙◌, arith}
use Rattle.std.specs.Prelude.{slice_get, nat_lt}
use Rattle.std.specs.List.{position, position_or_len}
use Rattle.std.proofs.lemmas.Bool.{lt-ltb, le-ltb}
use Rattle.std.proofs.lemmas.Option.{slice_get_within}
use Rattle.sl_core.proofs.Slots.{some_same}

module _ {A : Type 0} where
  module _ (test : A → Bool) where
    -- what stands before a place fails
    abbrev pub FailBefore : List A → ℕ → Type 0
    FailBefore xs i = (j : ℕ) (y : A) → j < i → slice_get xs j ≡ Some y → test y ≡ false

    place_is : (xs : List A) (i : ℕ) (x : A) → slice_get xs i ≡ Some x → test x ≡ true → FailBefore xs i → position_or_len test xs ≡ i
    place_is [] i x is passes before = cc
    place_is (z ∷ zs) zero x is passes before =
        let same : z ≡ x = some_same z x is in
        ap (λ (fails : Bool). cond (not fails) (1 + position_or_len test zs) 0) (ap test same ∙ passes)
    place_is (z ∷ zs) (suc i) x is passes before =
        let rest : position_or_len test zs ≡ i = place_is zs i x is passes (λ j y less there. before (suc j) y (omega arith) there) in
        ap (λ (fails : Bool). cond (not fails) (1 + position_or_len test zs) 0) (before 0 z (omega arith) refl) ∙ (omega arith)

    -- the first that passes
    pub found_at : (xs : List A) (i : ℕ) (x : A) → slice_get xs i ≡ Some x → test x ≡ true → FailBefore xs i → position test xs ≡ Some i
    found_at xs i x is passes before =
        let place : position_or_len test xs ≡ i = place_is xs i x is passes before in
        let within : i < length xs = slice_get_within xs i x is in
        ap (λ (place : ℕ). cond (nat_lt place (length xs)) (Some place) None) place
        ∙ ap (λ (inside : Bool). cond inside (Some i) None) (lt-ltb i (length xs) within)

    none_is : (xs : List A) → ((j : ℕ) (y : A) → slice_get xs j ≡ Some y → test y ≡ false) → position_or_len test xs ≡ length xs
    none_is [] all = refl
    none_is (z ∷ zs) all =
        let rest : position_or_len test zs ≡ length zs = none_is zs (λ j y there. all (suc j) y there) in
        ap (λ (fails : Bool). cond (not fails) (1 + position_or_len test zs) 0) (all 0 z refl) ∙ (omega arith)

    -- none that passes
    pub found_none : (xs : List A) → ((j : ℕ) (y : A) → slice_get xs j ≡ Some y → test y ≡ false) → position test xs ≡ None
    found_none xs all =
        let place : position_or_len test xs ≡ length xs = none_is xs all in
        ap (λ (place : ℕ). cond (nat_lt place (length xs)) (Some place) None) place
        ∙ ap (λ (inside : Bool). cond inside (Some (length xs)) None) (le-ltb (length xs) (length xs) (omega arith))

-- by whether a place is before another
pub before_or_behind : (i n : ℕ) {P : Type 0} → (i < n → P) → ((k : ℕ) → i ≡ n + k → P) → P
before_or_behind i zero before behind = behind i (omega arith)
before_or_behind zero (suc n) before behind = before (omega arith)
before_or_behind (suc i) (suc n) before behind = before_or_behind i n (λ less. before (omega arith)) (λ k is. behind k (omega arith))
