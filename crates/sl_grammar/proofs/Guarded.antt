-- Readers that refuse a token that would nest too deep.
use Rattle.std.proofs.Common.{◌≡◌, ℕ, List, [], ◌∷◌, refl, ◌⊎◌, inl, inr, Bool, true, false, if◌then◌else◌}
use Rattle.sl_grammar.specs.Phrase.{Begins, Found, spells_either, read_either}
use Rattle.sl_grammar.specs.Law.{Disjoint, Starts, Law, Chooses, Shape, no_token, either_token}
use Rattle.sl_grammar.specs.Guard.{guard}
use Rattle.sl_grammar.proofs.Laws.{either_law, in_left, in_right}
use Rattle.sl_grammar.proofs.Pieces.{either_shape, choice_law}

closed : {K X : Type 0} {l : X → List K → Type 0} → ((x : X) (ts : List K) → l x ts → ⊥) → Starts l no_token
closed none = record { sure = λ k e. absurd cc; only = λ k w. absurd (none w.0 (k ∷ w.1) w.2) }

-- a choice whose first phrase there may be no room for
module _ {K X Y : Type 0} {l : X → List K → Type 0} {m : Y → List K → Type 0} {f g : K → Bool} {b : Bool} where
  pub guarded_shape : (c : Bool) → (c ≡ true → Shape l f false) → (c ≡ false → (x : X) (ts : List K) → l x ts → ⊥) → Shape m g b → Shape (spells_either l m) (either_token (guard c f) g) b
  guarded_shape true sl none sm = either_shape (sl refl) sm
  guarded_shape false sl none sm = record {
    starts = record { sure = λ k e. (let (y, more, w) = sm.starts.sure k e in (inr y, more, w)); only = λ k w. only k w };
    word = (let (y, a, w) = sm.word in (inr y, a, w));
    some = some;
    empty = λ e. let (y, v) = sm.empty e in (inr y, v);
  }
    where
      only : (k : K) → Begins (spells_either l m) (k ∷ []) → g k ≡ true
      only k (inl x, more, w) = absurd (none refl x (k ∷ more) w)
      only k (inr y, more, w) = sm.starts.only k (y, more, w)

      some : b ≡ false → (z : X ⊎ Y) → spells_either l m z [] → ⊥
      some e (inl x) w = none refl x [] w
      some e (inr y) w = sm.some e y w

  pub guarded_law : {read : List K → Found K X} {go : List K → Found K Y} {p q : K → Bool} {n : ℕ} (c : Bool) → (c ≡ true → Shape l f false) → (c ≡ true → Law l read p n) → (c ≡ false → (x : X) (ts : List K) → l x ts → ⊥) → Shape m g b → Law m go q n → Disjoint f g → Law (spells_either l m) (read_either (guard c f) read go) (if b then either_token f (either_token p q) else either_token p q) n
  guarded_law true sl ll none sm lm apart = choice_law b (sl refl) (ll refl) sm lm apart
  guarded_law {read} {go} {p} {q} {n} false sl ll none sm lm apart = by b
    where
      chooses : Chooses l m no_token
      chooses = record { left = closed (none refl); right = λ k w e. absurd cc; some = λ x w. none refl x [] w }

      by : (b : Bool) → Law (spells_either l m) (read_either no_token read go) (if b then either_token f (either_token p q) else either_token p q) n
      by true = either_law l m read go no_token p q (either_token f (either_token p q)) n chooses (λ k e. absurd cc) lm (λ k e. in_right f (either_token p q) k (in_left p q k e)) (λ k e. in_right f (either_token p q) k (in_right p q k e)) (λ y w k e. absurd cc)
      by false = either_law l m read go no_token p q (either_token p q) n chooses (λ k e. absurd cc) lm (in_left p q) (in_right p q) (λ y w k e. absurd cc)
