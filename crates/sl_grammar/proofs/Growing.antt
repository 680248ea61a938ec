-- Readers that repeat are loops whose state grows.
use Rattle.std.proofs.Common.{◌≡◌, ℕ, zero, suc, ◌<◌, List, [], ◌∷◌, ◌++◌, length, refl, ap, ◌∙◌, subst, inl, inr, Bool, true, false, if◌then◌else◌, arith, length-append}
use Rattle.sl_grammar.specs.Phrase.{Found, Done, Stopped, IsRead, found_then, left_of}
use Rattle.sl_grammar.specs.Law.{found_as, read_then, read_nothing}
use Rattle.sl_grammar.specs.Many.{list_of, read_many, read_list}
use Rattle.sl_grammar.specs.Steps.{read_steps, read_all_steps}
use Rattle.sl_grammar.specs.Grammar.{step_on}
use Rattle.sl_grammar.specs.Growing.{folded, grow, grown}

-- what was found, seen as something else, and gone on from
pub found_as_as : {K X Y Z : Type 0} (f : Y → Z) (g : X → Y) (x : Found K X) → found_as f (found_as g x) ≡ found_as (λ z. f (g z)) x
found_as_as f g (Done x rest) = refl
found_as_as f g (Stopped rest) = refl

pub as_then : {K X Y Z : Type 0} (f : Y → Z) (x : Found K X) (g : X → List K → Found K Y) → found_as f (found_then x g) ≡ found_then x (λ y rest. found_as f (g y rest))
as_then f (Done x rest) g = refl
as_then f (Stopped rest) g = refl

pub then_as : {K X Y Z : Type 0} (f : X → Y) (x : Found K X) (g : Y → List K → Found K Z) → found_then (found_as f x) g ≡ found_then x (λ y rest. g (f y) rest)
then_as f (Done x rest) g = refl
then_as f (Stopped rest) g = refl

pub then_then : {K X Y Z : Type 0} (x : Found K X) (f : X → List K → Found K Y) (g : Y → List K → Found K Z) → found_then (found_then x f) g ≡ found_then x (λ y rest. found_then (f y rest) g)
then_then (Done x rest) f g = refl
then_then (Stopped rest) f g = refl

-- one step more, at the end
pub folded_more : {X Q : Type 0} (step : X → Q → X) (x : X) (qs : List Q) (q : Q) → folded step x (qs ++ q ∷ []) ≡ step (folded step x qs) q
folded_more step x [] q = refl
folded_more step x (p ∷ qs) q = folded_more step (step x p) qs q

-- a reader of a language without the empty word leaves less than it was given
pub shrinks_read : {K Q : Type 0} (l : Q → List K → Type 0) (read : List K → Found K Q) → ((ts : List K) → IsRead l ts (read ts)) → ((q : Q) → l q [] → ⊥) → (ts : List K) (q : Q) (rest : List K) → read ts ≡ Done q rest → length rest < length ts
shrinks_read {K} {Q} l read reads some ts q rest e = by (read ts) (reads ts) e
  where
    by : (f : Found K Q) → IsRead l ts f → f ≡ Done q rest → length rest < length ts
    by (Done p more) ([], h, front, w) d = absurd (some p w)
    by (Done p more) (k ∷ us, h, front, w) d = let less : length more ≡ length rest = ap (λ f. length (left_of f)) d in omega (arith, less, ap length h, length-append us more)
    by (Stopped more) w d = absurd cc

module _ {K X Q : Type 0} (starts : K → Bool) (open_to : X → Bool) (read : List K → Found K Q) (step : X → Q → X) where
  -- where the loop ends
  pub grown_end : (x : X) → grown starts open_to read step x [] ≡ Done x []
  unfolding grown
  grown_end x = refl

  pub grown_shut : (x : X) (ts : List K) → open_to x ≡ false → grown starts open_to read step x ts ≡ Done x ts
  unfolding grown
  grown_shut x [] e = refl
  grown_shut x (k ∷ ks) e = rw e

  pub grown_other : (x : X) (k : K) (ks : List K) → starts k ≡ false → grown starts open_to read step x (k ∷ ks) ≡ Done x (k ∷ ks)
  unfolding grown
  grown_other x k ks e = by (open_to x)
    where
      by : (b : Bool) → (if b then (if starts k then found_then (read (k ∷ ks)) (λ q rest. grow starts open_to read step (suc (length ks)) (step x q) rest) else Done x (k ∷ ks)) else Done x (k ∷ ks)) ≡ Done x (k ∷ ks)
      by true = rw e
      by false = refl

  -- where it goes on
  goes_on : (n : ℕ) (x : X) (k : K) (ks : List K) → open_to x ≡ true → starts k ≡ true → grow starts open_to read step (suc n) x (k ∷ ks) ≡ found_then (read (k ∷ ks)) (λ q rest. grow starts open_to read step n (step x q) rest)
  goes_on n x k ks o s = rw (o, s)

  pub grown_stops : (x : X) (k : K) (ks rest : List K) → open_to x ≡ true → starts k ≡ true → read (k ∷ ks) ≡ Stopped rest → grown starts open_to read step x (k ∷ ks) ≡ Stopped rest
  unfolding grown
  grown_stops x k ks rest o s r = goes_on (suc (length ks)) x k ks o s ∙ ap (λ f. found_then f (λ q rest. grow starts open_to read step (suc (length ks)) (step x q) rest)) r

  module _ (shrinks : (ts : List K) (q : Q) (rest : List K) → read ts ≡ Done q rest → length rest < length ts) where
    -- any number that's more than the length will do
    enough : (m n : ℕ) (x : X) (ts : List K) → length ts < m → length ts < n → grow starts open_to read step m x ts ≡ grow starts open_to read step n x ts
    enough zero n x ts a b = absurd (omega arith)
    enough (suc m) zero x ts a b = absurd (omega arith)
    enough (suc m) (suc n) x [] a b = refl
    enough (suc m) (suc n) x (k ∷ ks) a b = by (λ y rest. enough m n y rest) (open_to x) (starts k) (read (k ∷ ks)) refl
      where
        by : ((y : X) (rest : List K) → length rest < m → length rest < n → grow starts open_to read step m y rest ≡ grow starts open_to read step n y rest) → (b c : Bool) (f : Found K Q) → read (k ∷ ks) ≡ f → (if b then (if c then found_then f (λ q rest. grow starts open_to read step m (step x q) rest) else Done x (k ∷ ks)) else Done x (k ∷ ks)) ≡ (if b then (if c then found_then f (λ q rest. grow starts open_to read step n (step x q) rest) else Done x (k ∷ ks)) else Done x (k ∷ ks))
        by less true true (Done q rest) e = let lt : length rest < length (k ∷ ks) = shrinks (k ∷ ks) q rest e in less (step x q) rest (omega (arith, lt)) (omega (arith, lt))
        by less true true (Stopped rest) e = refl
        by less true false f e = refl
        by less false c f e = refl

    pub grown_step : (x : X) (k : K) (ks : List K) (q : Q) (rest : List K) → open_to x ≡ true → starts k ≡ true → read (k ∷ ks) ≡ Done q rest → grown starts open_to read step x (k ∷ ks) ≡ grown starts open_to read step (step x q) rest
    unfolding grown
    grown_step x k ks q rest o s r =
        let lt : length rest < length (k ∷ ks) = shrinks (k ∷ ks) q rest r in
        goes_on (suc (length ks)) x k ks o s ∙ (ap (λ f. found_then f (λ q rest. grow starts open_to read step (suc (length ks)) (step x q) rest)) r
        ∙ enough (suc (length ks)) (suc (length rest)) (step x q) rest (omega (arith, lt)) (omega arith))

-- any number of phrases
module _ {K X Q : Type 0} (starts : K → Bool) (read : List K → Found K Q) (step : X → Q → X) where
  many_grow : (n : ℕ) (x : X) (ts : List K) → found_as (λ qs. folded step x qs) (read_many starts read n ts) ≡ grow starts (λ x. true) read step n x ts
  many_grow zero x ts = refl
  many_grow (suc n) x [] = refl
  many_grow (suc n) x (k ∷ ks) = by (λ y rest. many_grow n y rest) (starts k) (read (k ∷ ks))
    where
      goes : (q : Q) (f : Found K (List Q)) → found_as (λ qs. folded step x qs) (found_as list_of (found_then (found_then f (λ y left. Done (q, y) left)) (λ x left. Done (inl x) left))) ≡ found_as (λ qs. folded step (step x q) qs) f
      goes q (Done qs rest) = refl
      goes q (Stopped rest) = refl

      by : ((y : X) (rest : List K) → found_as (λ qs. folded step y qs) (read_many starts read n rest) ≡ grow starts (λ x. true) read step n y rest) → (b : Bool) (f : Found K Q) → found_as (λ qs. folded step x qs) (found_as list_of (if b then found_then (found_then f (λ x rest. found_then (read_many starts read n rest) (λ y left. Done (x, y) left))) (λ x left. Done (inl x) left) else found_then (read_nothing (k ∷ ks)) (λ y left. Done (inr y) left))) ≡ (if b then found_then f (λ q rest. grow starts (λ x. true) read step n (step x q) rest) else Done x (k ∷ ks))
      by less true (Done q rest) = goes q (read_many starts read n rest) ∙ less (step x q) rest
      by less true (Stopped rest) = refl
      by less false f = refl

  pub many_grown : (x : X) (ts : List K) → found_as (λ qs. folded step x qs) (read_list starts read ts) ≡ grown starts (λ x. true) read step x ts
  unfolding grown
  many_grown x ts = many_grow (suc (length ts)) x ts

module _ {K X Q : Type 0} (starts : K → Bool) (open_to : X → Bool) (read : List K → Found K Q) (step : X → Q → X) where
  -- steps while there is room
  module _ {S : Type 0} (room : S → Bool) (next : S → Q → S) (view : S → X) (seen : (s : S) (q : Q) → view (next s q) ≡ step (view s) q) (opens : (s : S) → room s ≡ open_to (view s)) where
    steps_grow : (n : ℕ) (s : S) (ts : List K) → found_as (λ qs. folded step (view s) qs) (read_steps starts read room next n s ts) ≡ grow starts open_to read step n (view s) ts
    steps_grow zero s ts = refl
    steps_grow (suc n) s [] = refl
    steps_grow (suc n) s (k ∷ ks) = by (λ q rest. turn (step (view s) q) q rest (seen s q) (steps_grow n (next s q) rest)) (room s) (open_to (view s)) (opens s) (starts k) (read (k ∷ ks))
      where
        goes : (q : Q) (f : Found K (List Q)) → found_as (λ qs. folded step (view s) qs) (found_as list_of (found_then (found_then f (λ y left. Done (q, y) left)) (λ x left. Done (inl x) left))) ≡ found_as (λ qs. folded step (step (view s) q) qs) f
        goes q (Done qs rest) = refl
        goes q (Stopped rest) = refl

        turn : (x : X) (q : Q) (rest : List K) → view (next s q) ≡ x → found_as (λ qs. folded step (view (next s q)) qs) (read_steps starts read room next n (next s q) rest) ≡ grow starts open_to read step n (view (next s q)) rest → found_as (λ qs. folded step x qs) (read_steps starts read room next n (next s q) rest) ≡ grow starts open_to read step n x rest
        turn x q rest e = subst (λ x. found_as (λ qs. folded step x qs) (read_steps starts read room next n (next s q) rest) ≡ grow starts open_to read step n x rest) e

        by : ((q : Q) (rest : List K) → found_as (λ qs. folded step (step (view s) q) qs) (read_steps starts read room next n (next s q) rest) ≡ grow starts open_to read step n (step (view s) q) rest) → (a b : Bool) → a ≡ b → (c : Bool) (f : Found K Q) → found_as (λ qs. folded step (view s) qs) (found_as list_of (if (if a then c else false) then found_then (found_then f (λ q rest. found_then (read_steps starts read room next n (next s q) rest) (λ y left. Done (q, y) left))) (λ x left. Done (inl x) left) else found_then (read_nothing (k ∷ ks)) (λ y left. Done (inr y) left))) ≡ (if b then (if c then found_then f (λ q rest. grow starts open_to read step n (step (view s) q) rest) else Done (view s) (k ∷ ks)) else Done (view s) (k ∷ ks))
        by less true true e true (Done q rest) = goes q (read_steps starts read room next n (next s q) rest) ∙ less q rest
        by less true true e true (Stopped rest) = refl
        by less true true e false f = refl
        by less false false e c f = refl
        by less true false e c f = absurd cc
        by less false true e c f = absurd cc

    pub steps_grown : (s : S) (ts : List K) → found_as (λ qs. folded step (view s) qs) (read_all_steps starts read room next s ts) ≡ grown starts open_to read step (view s) ts
    unfolding grown
    steps_grown s ts = steps_grow (suc (length ts)) s ts

  -- a phrase and steps from it, where the state is what was read
  module _ (first : List K → Found K X) (room : X × List Q → Bool) (opens : (y : X) (qs : List Q) → room (y, qs) ≡ open_to (folded step y qs)) where
    pub chain_grown : (ts : List K) → found_as (λ (v : X × List Q). folded step v.0 v.1) (read_then first (λ y. read_all_steps starts read room step_on (y, [])) ts) ≡ found_then (first ts) (λ y rest. grown starts open_to read step y rest)
    chain_grown ts = by (first ts)
      where
        view : X × List Q → X
        view v = folded step v.0 v.1

        goes : (y : X) (f : Found K (List Q)) → found_as (λ (v : X × List Q). folded step v.0 v.1) (found_then f (λ qs left. Done (y, qs) left)) ≡ found_as (λ qs. folded step y qs) f
        goes y (Done qs rest) = refl
        goes y (Stopped rest) = refl

        by : (f : Found K X) → found_as (λ (v : X × List Q). folded step v.0 v.1) (found_then f (λ y rest. found_then (read_all_steps starts read room step_on (y, []) rest) (λ qs left. Done (y, qs) left))) ≡ found_then f (λ y rest. grown starts open_to read step y rest)
        by (Done y rest) =
            goes y (read_all_steps starts read room step_on (y, []) rest)
            ∙ steps_grown room step_on view (λ s q. folded_more step s.0 s.1 q) (λ s. opens s.0 s.1) (y, []) rest
        by (Stopped rest) = refl
