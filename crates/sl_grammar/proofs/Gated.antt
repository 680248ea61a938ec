-- A reader of a phrase and then of a choice, whose first form there is room for only where the phrase is open to it.
use Rattle.std.proofs.Common.{◌≡◌, ℕ, suc, ◌+◌, ◌≤◌, List, [], ◌∷◌, length, refl, ◌⊎◌, inl, inr, Bool, true, false, if◌then◌else◌, arith}
use Rattle.sl_grammar.specs.Phrase.{Found, spells_either, read_either}
use Rattle.sl_grammar.specs.Law.{Disjoint, Law, Shape, either_token, spells_then, read_then}
use Rattle.sl_grammar.specs.Guard.{guard}
use Rattle.sl_grammar.proofs.Then.{then_law}
use Rattle.sl_grammar.proofs.Laws.{in_left, in_right, alike_law}
use Rattle.sl_grammar.proofs.Pieces.{seen_shape}
use Rattle.sl_grammar.proofs.Guarded.{guarded_shape, guarded_law}

module _ {K Y Z : Type 0} (m : Y → List K → Type 0) (r : Z → List K → Type 0) where
  -- the first form where it fits, or else the second
  abbrev Choice : Bool → Y ⊎ Z → List K → Type 0
  Choice fits = spells_either (λ y us. (fits ≡ true) × m y us) r

  shut : (fits : Bool) → fits ≡ false → (y : Y) (ts : List K) → (fits ≡ true) × m y ts → ⊥
  shut fits e y ts w = cc (w.0, e)

  module _ (f g : K → Bool) (c : Bool) (sm : Shape m f false) (sr : Shape r g c) where
    fit_shape : (fits : Bool) → fits ≡ true → Shape (λ y us. (fits ≡ true) × m y us) f false
    fit_shape fits e = seen_shape (record { to = λ y ts w. (e, w); back = λ y ts w. (y, refl, w.1) }) sm

    choice_shape : (fits : Bool) → Shape (Choice fits) (either_token (guard fits f) g) c
    choice_shape fits = guarded_shape fits (fit_shape fits) (shut fits) sr

    choice_law : {read_m : List K → Found K Y} {read_r : List K → Found K Z} {p q : K → Bool} {n : ℕ} → Law m read_m p n → Law r read_r q n → Disjoint f g → (fits : Bool) → Law (Choice fits) (read_either (guard fits f) read_m read_r) (if c then either_token f (either_token p q) else either_token p q) n
    choice_law lm lr apart fits = guarded_law fits (fit_shape fits) (λ e. alike_law (λ y ts w. (e, w)) (λ y ts w. w.1) lm) (shut fits) sr lr apart

within : {K : Type 0} (f g : K → Bool) (fits : Bool) (k : K) → either_token (guard fits f) g k ≡ true → either_token f g k ≡ true
within f g true k e = e
within f g false k e = in_right f g k e

-- a phrase that's never empty, and then the choice
pub gate_law : {K X Y Z : Type 0} {l : X → List K → Type 0} {m : Y → List K → Type 0} {r : Z → List K → Type 0} {read_l : List K → Found K X} {read_m : List K → Found K Y} {read_r : List K → Found K Z} {h f g o p q after : K → Bool} (fits : X → Bool) (c : Bool) (a b : ℕ) → a ≤ suc b → Shape l h false → Law l read_l o a → Shape m f false → Law m read_m p b → Shape r g c → Law r read_r q b → Disjoint f g → Disjoint o (either_token f g) → ((k : K) → (if c then either_token o (either_token f (either_token p q)) else either_token p q) k ≡ true → after k ≡ true) → Law (spells_then l (λ x. spells_either (λ y us. (fits x ≡ true) × m y us) r)) (read_then read_l (λ x. read_either (guard (fits x) f) read_m read_r)) after a
gate_law {K} {X} {Y} {Z} {l} {m} {r} {read_l} {read_m} {read_r} {h} {f} {g} {o} {p} {q} {after} fits c a b ab sl ll sm lm sr lr apart clear into =
    then_law l (λ x. Choice m r (fits x)) read_l (λ x. read_either (guard (fits x) f) read_m read_r) o (if c then either_token f (either_token p q) else either_token p q) after (λ x. either_token (guard (fits x) f) g) a b ll
    (λ x. choice_law m r f g c sm sr lm lr apart (fits x))
    (record { word = λ x u w. (choice_shape m r f g c sm sr (fits x)).word; only = λ x u k w v. (choice_shape m r f g c sm sr (fits x)).starts.only k v; apart = λ x k e v. clear k e (within f g (fits x) k v); size = size })
    (keep c into) (empty c sr into)
  where
    size : (x : X) (u : List K) → l x u → a ≤ length u + b
    size x [] w = absurd (sl.some refl x w)
    size x (k ∷ u) w = omega arith

    keep : (c : Bool) → ((k : K) → (if c then either_token o (either_token f (either_token p q)) else either_token p q) k ≡ true → after k ≡ true) → (k : K) → (if c then either_token f (either_token p q) else either_token p q) k ≡ true → after k ≡ true
    keep true into k e = into k (in_right o (either_token f (either_token p q)) k e)
    keep false into k e = into k e

    empty : (c : Bool) → Shape r g c → ((k : K) → (if c then either_token o (either_token f (either_token p q)) else either_token p q) k ≡ true → after k ≡ true) → (x : X) (z : Y ⊎ Z) → Choice m r (fits x) z [] → (k : K) → o k ≡ true → after k ≡ true
    empty true sr into x z w k e = into k (in_left o (either_token f (either_token p q)) k e)
    empty false sr into x (inl y) w k e = absurd (sm.some refl y w.1)
    empty false sr into x (inr z) w k e = absurd (sr.some refl z w)
