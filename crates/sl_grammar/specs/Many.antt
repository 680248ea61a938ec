-- Phrases that repeat: any number of them, also with something between each two.
use Rattle.std.specs.Prelude.{◌≡◌, ℕ, zero, suc, List, [], ◌∷◌, ◌++◌, length, Bool, ◌⊎◌}
use Rattle.std.proofs.Common.{inl, inr}
use Rattle.sl_grammar.specs.Phrase.{Found, Stopped, spells_both, read_both, read_either}
use Rattle.sl_grammar.specs.Law.{read_nothing, found_as}

abbrev pub spells_many : {K X : Type 0} → (X → List K → Type 0) → List X → List K → Type 0
spells_many l [] ts = ts ≡ []
spells_many {K} l (x ∷ xs) ts = (a : List K) × (b : List K) × (ts ≡ a ++ b) × l x a × spells_many l xs b

abbrev pub list_of : {X : Type 0} → (X × List X) ⊎ Unit {0} → List X
list_of (inl p) = p.0 ∷ p.1
list_of (inr u) = []

-- at most so many less one
abbrev pub read_many : {K X : Type 0} → (K → Bool) → (List K → Found K X) → ℕ → List K → Found K (List X)
read_many starts read zero ts = Stopped ts
read_many starts read (suc n) ts = found_as list_of (read_either starts (read_both read (read_many starts read n)) read_nothing ts)

abbrev pub read_list : {K X : Type 0} → (K → Bool) → (List K → Found K X) → List K → Found K (List X)
read_list starts read ts = read_many starts read (suc (length ts)) ts

-- the second of two phrases, where the first is of no interest
abbrev pub spells_after : {K S X : Type 0} → (S → List K → Type 0) → (X → List K → Type 0) → X → List K → Type 0
spells_after {K} {S} sep l x ts = (s : S) × spells_both sep l (s, x) ts

abbrev pub last_of : {S X : Type 0} → S × X → X
last_of p = p.1

abbrev pub read_after : {K S X : Type 0} → (List K → Found K S) → (List K → Found K X) → List K → Found K X
read_after read_sep read ts = found_as last_of (read_both read_sep read ts)

-- none, or one and any number with a separator before each
abbrev pub spells_separated : {K S X : Type 0} → (S → List K → Type 0) → (X → List K → Type 0) → List X → List K → Type 0
spells_separated sep l [] ts = ts ≡ []
spells_separated {K} sep l (x ∷ xs) ts = (a : List K) × (b : List K) × (ts ≡ a ++ b) × l x a × spells_many (spells_after sep l) xs b

abbrev pub read_separated : {K S X : Type 0} → (K → Bool) → (K → Bool) → (List K → Found K S) → (List K → Found K X) → List K → Found K (List X)
read_separated starts more read_sep read ts = found_as list_of (read_either starts (read_both read (read_list more (read_after read_sep read))) read_nothing ts)
