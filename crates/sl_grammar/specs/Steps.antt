-- Phrases that repeat while there is room: a state says whether there is, and each phrase changes it.
use Rattle.std.specs.Prelude.{◌≡◌, ℕ, zero, suc, List, [], ◌∷◌, ◌++◌, length, Bool, true}
use Rattle.sl_grammar.specs.Phrase.{Found, Stopped, read_either}
use Rattle.sl_grammar.specs.Law.{found_as, read_then, read_nothing}
use Rattle.sl_grammar.specs.Many.{list_of}
use Rattle.sl_grammar.specs.Guard.{guard}

abbrev pub spells_steps : {K Q S : Type 0} → (Q → List K → Type 0) → (S → Bool) → (S → Q → S) → S → List Q → List K → Type 0
spells_steps link room step s [] ts = ts ≡ []
spells_steps {K} link room step s (q ∷ qs) ts = (room s ≡ true) × (a : List K) × (b : List K) × (ts ≡ a ++ b) × link q a × spells_steps link room step (step s q) qs b

abbrev pub read_steps : {K Q S : Type 0} → (K → Bool) → (List K → Found K Q) → (S → Bool) → (S → Q → S) → ℕ → S → List K → Found K (List Q)
read_steps more read room step zero s ts = Stopped ts
read_steps more read room step (suc n) s ts = found_as list_of (read_either (guard (room s) more) (read_then read (λ q. read_steps more read room step n (step s q))) read_nothing ts)

abbrev pub read_all_steps : {K Q S : Type 0} → (K → Bool) → (List K → Found K Q) → (S → Bool) → (S → Q → S) → S → List K → Found K (List Q)
read_all_steps more read room step s ts = read_steps more read room step (suc (length ts)) s ts
