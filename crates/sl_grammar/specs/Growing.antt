-- Readers that repeat as a loop in code does: a state grows by each phrase, and says whether one more may come.
use Rattle.std.specs.Prelude.{ℕ, zero, suc, List, [], ◌∷◌, length, Bool, if◌then◌else◌}
use Rattle.sl_grammar.specs.Phrase.{Found, Done, Stopped, found_then}

-- steps in order
abbrev pub folded : {X Q : Type 0} → (X → Q → X) → X → List Q → X
folded step x [] = x
folded step x (q ∷ qs) = folded step (step x q) qs

module _ {K X Q : Type 0} (starts : K → Bool) (open_to : X → Bool) (read : List K → Found K Q) (step : X → Q → X) where
  -- while a token begins one more, and the state is open to it, it is read and the state grows; so many times at most less one
  abbrev pub grow : ℕ → X → List K → Found K X
  grow zero x ts = Stopped ts
  grow (suc n) x [] = Done x []
  grow (suc n) x (k ∷ ks) = if open_to x then (if starts k then found_then (read (k ∷ ks)) (λ q rest. grow n (step x q) rest) else Done x (k ∷ ks)) else Done x (k ∷ ks)

  unfoldable pub grown : X → List K → Found K X
  grown x ts = grow (suc (length ts)) x ts
