-- A phrase less its words that begin with some tokens.
use Rattle.std.specs.Prelude.{◌≡◌, List, [], ◌∷◌, Bool, false, if◌then◌else◌}
use Rattle.sl_grammar.specs.Phrase.{Found, Stopped}

-- whether a list begins with a token that passes
abbrev pub starts_with : {K : Type 0} → (K → Bool) → List K → Bool
starts_with a [] = false
starts_with a (k ∷ ks) = a k

-- the words of a phrase that begin with no token that passes
abbrev pub spells_without : {K X : Type 0} → (K → Bool) → (X → List K → Type 0) → X → List K → Type 0
spells_without a l x ts = (starts_with a ts ≡ false) × l x ts

abbrev pub read_without : {K X : Type 0} → (K → Bool) → (List K → Found K X) → List K → Found K X
read_without a read ts = if starts_with a ts then Stopped ts else read ts
