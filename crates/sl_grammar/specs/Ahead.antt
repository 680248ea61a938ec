-- A choice that looks two tokens ahead: at two such tokens the one phrase, and else the other.
use Rattle.std.proofs.Common.{inl, inr}
use Rattle.std.specs.Prelude.{◌≡◌, List, [], ◌∷◌, Bool, false, ◌⊎◌, if◌then◌else◌}
use Rattle.sl_grammar.specs.Phrase.{Found, Done, found_then, spells_token, spells_both, read_token, read_both}

-- whether a list begins with a token that passes the first test and then one that passes the second
abbrev pub leads : {K : Type 0} → (K → Bool) → (K → Bool) → List K → Bool
leads a b [] = false
leads a b (k ∷ []) = false
leads a b (k ∷ (j ∷ js)) = if a k then b j else false

-- a token of `a` and then a phrase, or else another phrase whose first two tokens aren't such
abbrev pub spells_ahead : {K X Y : Type 0} → (K → Bool) → (K → Bool) → (X → List K → Type 0) → (Y → List K → Type 0) → (K × X) ⊎ Y → List K → Type 0
spells_ahead a starts g q (inl x) ts = spells_both (spells_token a) g x ts
spells_ahead a starts g q (inr y) ts = (leads a starts ts ≡ false) × q y ts

abbrev pub read_ahead : {K X Y : Type 0} → (K → Bool) → (K → Bool) → (List K → Found K X) → (List K → Found K Y) → List K → Found K ((K × X) ⊎ Y)
read_ahead a starts read_g read_q ts =
    if leads a starts ts then found_then (read_both (read_token a) read_g ts) (λ x left. Done (inl x) left) else found_then (read_q ts) (λ y left. Done (inr y) left)
