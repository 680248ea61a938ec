-- Readers of one token, of one phrase or another, and of a phrase seen as something else.
use Rattle.std.proofs.Common.{◌≡◌, List, [], ◌∷◌, ◌++◌, refl, sym, ◌∙◌, subst, ◌⊎◌, inl, inr, Bool, true, false, if◌then◌else◌}
use Rattle.sl_grammar.specs.Phrase.{Begins, Found, Done, Stopped, IsFront, IsRead, found_then, spells_either, read_either, spells_token, read_token}

module _ {K : Type 0} (passes : K → Bool) (k0 : K) (p0 : passes k0 ≡ true) where
  token_at : (k : K) (ks : List K) (b : Bool) → passes k ≡ b → IsRead (spells_token passes) (k ∷ ks) (if b then Done k ks else Stopped (k ∷ ks))
  token_at k ks true e = (k ∷ [], refl, record { begins = (k, [], (refl, e)); ends = λ j more r (x, tail, w). absurd (two j tail x w.0) }, (refl, e))
    where
      two : (j : K) (tail : List K) (x : K) → k ∷ (j ∷ tail) ≡ x ∷ [] → ⊥
      two j tail x h = cc
  token_at k ks false e = ([], refl, record { begins = (k0, k0 ∷ [], (refl, p0)); ends = λ j more r (x, tail, w). wrong j more x tail r w.0 w.1 }, λ x w. none x w.0)
    where
      wrong : (j : K) (more : List K) (x : K) (tail : List K) → k ∷ ks ≡ j ∷ more → j ∷ tail ≡ x ∷ [] → passes x ≡ true → ⊥
      wrong j more x tail r h q = differ (subst (λ z. passes z ≡ true) same q)
        where
          same : x ≡ k
          same = cc

          differ : passes k ≡ true → ⊥
          differ q = cc (sym e ∙ q)

      none : (x : K) → [] ≡ x ∷ [] → ⊥
      none x h = cc

  pub token_reads : (ts : List K) → IsRead (spells_token passes) ts (read_token passes ts)
  token_reads [] = ([], refl, record { begins = (k0, k0 ∷ [], (refl, p0)); ends = λ j more r w. absurd (no j more r) }, λ x w. none x w.0)
    where
      no : (j : K) (more : List K) → [] ≡ j ∷ more → ⊥
      no j more r = cc

      none : (x : K) → [] ≡ x ∷ [] → ⊥
      none x h = cc
  token_reads (k ∷ ks) = token_at k ks (passes k) refl

module _ {K X Y : Type 0} (l : X → List K → Type 0) (m : Y → List K → Type 0) (starts : K → Bool) (sure : (k : K) → starts k ≡ true → Begins l (k ∷ [])) (only : (k : K) → Begins l (k ∷ []) → starts k ≡ true) (other : (k : K) → Begins m (k ∷ []) → starts k ≡ false) (some : (x : X) → l x [] → ⊥) where
  abbrev Either : X ⊎ Y → List K → Type 0
  Either = spells_either l m

  left_begins : (ts : List K) → Begins l ts → Begins Either ts
  left_begins ts (x, more, w) = (inl x, more, w)

  right_begins : (ts : List K) → Begins m ts → Begins Either ts
  right_begins ts (y, more, w) = (inr y, more, w)

  cases : (ts : List K) → Begins Either ts → Begins l ts ⊎ Begins m ts
  cases ts (inl x, more, w) = inl (x, more, w)
  cases ts (inr y, more, w) = inr (y, more, w)

  head : {Z : Type 0} (n : Z → List K → Type 0) (k : K) (ks : List K) → Begins n (k ∷ ks) → Begins n (k ∷ [])
  head n k ks (z, more, w) = (z, ks ++ more, w)

  clash : (k : K) → starts k ≡ true → Begins m (k ∷ []) → ⊥
  clash k e b = cc (sym e ∙ other k b)

  missing : (k : K) → starts k ≡ false → Begins l (k ∷ []) → ⊥
  missing k e b = cc (sym e ∙ only k b)

  -- the front that the first phrase has is the front of either, where the first token is its own
  left_front : (k : K) (used rest : List K) → starts k ≡ true → (ks : List K) → k ∷ ks ≡ used ++ rest → IsFront l used rest → IsFront Either used rest
  left_front k used rest e ks h front = record { begins = left_begins used front.begins; ends = ends used h front }
    where
      ends : (used : List K) → k ∷ ks ≡ used ++ rest → IsFront l used rest → (j : K) (more : List K) → rest ≡ j ∷ more → Begins Either (used ++ j ∷ []) → ⊥
      ends [] h front j more r b = front.ends j more r (subst (λ z. Begins l (z ∷ [])) same (sure k e))
        where
          same : k ≡ j
          same = cc
      ends (u ∷ us) h front j more r b = by (cases ((u ∷ us) ++ j ∷ []) b)
        where
          by : Begins l ((u ∷ us) ++ j ∷ []) ⊎ Begins m ((u ∷ us) ++ j ∷ []) → ⊥
          by (inl b) = front.ends j more r b
          by (inr b) = clash k e (subst (λ z. Begins m (z ∷ [])) same (head m u (us ++ j ∷ []) b))
            where
              same : u ≡ k
              same = cc

  -- likewise for the second phrase, where the first token isn't the first phrase's
  right_front : (ts used rest : List K) → ((k : K) (ks : List K) → ts ≡ k ∷ ks → starts k ≡ false) → ts ≡ used ++ rest → IsFront m used rest → IsFront Either used rest
  right_front ts used rest not_first h front = record { begins = right_begins used front.begins; ends = ends used h front }
    where
      ends : (used : List K) → ts ≡ used ++ rest → IsFront m used rest → (j : K) (more : List K) → rest ≡ j ∷ more → Begins Either (used ++ j ∷ []) → ⊥
      ends [] h front j more r b = by (cases (j ∷ []) b)
        where
          by : Begins l (j ∷ []) ⊎ Begins m (j ∷ []) → ⊥
          by (inl b) = missing j (not_first j more (h ∙ r)) b
          by (inr b) = front.ends j more r b
      ends (u ∷ us) h front j more r b = by (cases ((u ∷ us) ++ j ∷ []) b)
        where
          by : Begins l ((u ∷ us) ++ j ∷ []) ⊎ Begins m ((u ∷ us) ++ j ∷ []) → ⊥
          by (inl b) = missing u (not_first u (us ++ rest) h) (head l u (us ++ j ∷ []) b)
          by (inr b) = front.ends j more r b

  -- a front of the first phrase that no word of it spells is spelled by none of the other
  left_none : (k : K) (ks used rest : List K) → starts k ≡ true → k ∷ ks ≡ used ++ rest → IsFront l used rest → ((x : X) → l x used → ⊥) → (z : X ⊎ Y) → Either z used → ⊥
  left_none k ks used rest e h front none (inl x) w = none x w
  left_none k ks [] rest e h front none (inr y) w = front.ends k ks (sym h) (sure k e)
  left_none k ks (u ∷ us) rest e h front none (inr y) w = clash k e (y, us, subst (λ z. m y (z ∷ us)) same w)
    where
      same : u ≡ k
      same = cc

  right_none : (ts used rest : List K) → ((k : K) (ks : List K) → ts ≡ k ∷ ks → starts k ≡ false) → ts ≡ used ++ rest → ((y : Y) → m y used → ⊥) → (z : X ⊎ Y) → Either z used → ⊥
  right_none ts used rest not_first h none (inr y) w = none y w
  right_none ts [] rest not_first h none (inl x) w = some x w
  right_none ts (u ∷ us) rest not_first h none (inl x) w = missing u (not_first u (us ++ rest) h) (x, us, w)

  left_read : (k : K) (ks : List K) → starts k ≡ true → (f : Found K X) → IsRead l (k ∷ ks) f → IsRead Either (k ∷ ks) (found_then f (λ x left. Done (inl x) left))
  left_read k ks e (Done x rest) (used, h, front, w) = (used, h, left_front k used rest e ks h front, w)
  left_read k ks e (Stopped rest) (used, h, front, none) = (used, h, left_front k used rest e ks h front, left_none k ks used rest e h front none)

  right_read : (ts : List K) → ((k : K) (ks : List K) → ts ≡ k ∷ ks → starts k ≡ false) → (f : Found K Y) → IsRead m ts f → IsRead Either ts (found_then f (λ y left. Done (inr y) left))
  right_read ts not_first (Done y rest) (used, h, front, w) = (used, h, right_front ts used rest not_first h front, w)
  right_read ts not_first (Stopped rest) (used, h, front, none) = (used, h, right_front ts used rest not_first h front, right_none ts used rest not_first h none)

  -- a reader that looks at the first token reads the longest front of either
  pub either_reads : (read : List K → Found K X) (go : List K → Found K Y) (ts : List K) → ((k : K) (ks : List K) → ts ≡ k ∷ ks → starts k ≡ true → IsRead l ts (read ts)) → IsRead m ts (go ts) → IsRead Either ts (read_either starts read go ts)
  either_reads read go [] h w = right_read [] (λ j js e. absurd cc) (go []) w
  either_reads read go (t ∷ ts) h w = at (starts t) refl
    where
      at : (b : Bool) → starts t ≡ b → IsRead Either (t ∷ ts) (if b then found_then (read (t ∷ ts)) (λ x left. Done (inl x) left) else found_then (go (t ∷ ts)) (λ y left. Done (inr y) left))
      at true e = left_read t ts e (read (t ∷ ts)) (h t ts refl e)
      at false e = right_read (t ∷ ts) (λ j js f. subst (λ z. starts z ≡ false) (same j js f) e) (go (t ∷ ts)) w
        where
          same : (j : K) (js : List K) → t ∷ ts ≡ j ∷ js → t ≡ j
          same j js f = cc
