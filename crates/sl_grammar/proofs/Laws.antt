-- The laws of one token, of nothing, of one phrase or another, and of a phrase seen as something else.
use Rattle.std.proofs.Common.{◌≡◌, ℕ, ◌<◌, List, [], ◌∷◌, ◌++◌, length, refl, sym, ap, ◌∙◌, subst, ◌⊎◌, inl, inr, Bool, true, false, if◌then◌else◌}
use Rattle.sl_grammar.specs.Phrase.{Begins, Found, Done, Stopped, IsFront, IsRead, spells_token, read_token, spells_either, read_either}
use Rattle.sl_grammar.specs.Law.{Word, Starts, Law, Chooses, Seen, no_token, either_token, spells_nothing, read_nothing, found_as, spells_then}
use Rattle.sl_grammar.proofs.Either.{token_reads, either_reads}

pub not_true : (b : Bool) → (b ≡ true → ⊥) → b ≡ false
not_true true h = absurd (h refl)
not_true false h = refl

pub in_left : {K : Type 0} (p q : K → Bool) (k : K) → p k ≡ true → either_token p q k ≡ true
in_left p q k h = rw h

pub in_right : {K : Type 0} (p q : K → Bool) (k : K) → q k ≡ true → either_token p q k ≡ true
in_right p q k h = by (p k)
  where
    by : (b : Bool) → (if b then true else q k) ≡ true
    by true = refl
    by false = h

pub in_either : {K : Type 0} (p q : K → Bool) (k : K) → either_token p q k ≡ true → (p k ≡ true) ⊎ (q k ≡ true)
in_either p q k h = by (p k) refl h
  where
    by : (b : Bool) → p k ≡ b → (if b then true else q k) ≡ true → (p k ≡ true) ⊎ (q k ≡ true)
    by true e h = inl e
    by false e h = inr h

-- one token
module _ {K : Type 0} (passes : K → Bool) (k0 : K) (p0 : passes k0 ≡ true) where
  pub token_law : (n : ℕ) → Law (spells_token passes) (read_token passes) no_token n
  token_law n = record { reads = λ ts lt. token_reads passes k0 p0 ts; goes = goes; one = one }
    where
      goes : (x : K) (a : List K) (k : K) → length a < n → spells_token passes x a → Begins (spells_token passes) (a ++ k ∷ []) → no_token k ≡ true
      goes x a k lt w (y, more, v) = absurd (two (subst (λ z. (z ++ k ∷ []) ++ more ≡ y ∷ []) w.0 v.0))
        where
          two : (x ∷ (k ∷ more)) ≡ y ∷ [] → ⊥
          two e = cc

      one : (x y : K) (a : List K) → length a < n → spells_token passes x a → spells_token passes y a → x ≡ y
      one x y a lt w v = let e : x ∷ [] ≡ y ∷ [] = sym w.0 ∙ v.0 in cc

pub token_starts : {K : Type 0} (passes : K → Bool) → Starts (spells_token passes) passes
token_starts passes = record { sure = λ k p. (k, [], (refl, p)); only = only }
  where
    only : (k : _) → Begins (spells_token passes) (k ∷ []) → passes k ≡ true
    only k (x, more, w) = subst (λ z. passes z ≡ true) same w.1
      where
        same : x ≡ k
        same = let e = w.0 in cc

-- nothing
pub nothing_law : {K : Type 0} (n : ℕ) → Law {K = K} spells_nothing read_nothing no_token n
nothing_law {K} n = record { reads = λ ts lt. ([], refl, record { begins = (tt, [], refl); ends = λ k more r b. none k b }, refl); goes = goes; one = λ x y a lt w v. refl }
  where
    none : (k : K) → Begins spells_nothing (k ∷ []) → ⊥
    none k (x, more, e) = cc

    goes : (x : Unit {0}) (a : List K) (k : K) → length a < n → spells_nothing x a → Begins spells_nothing (a ++ k ∷ []) → no_token k ≡ true
    goes x a k lt w b = absurd (none k (subst (λ z. Begins spells_nothing (z ++ k ∷ [])) w b))

pub nothing_starts : {K : Type 0} → Starts {K = K} spells_nothing no_token
nothing_starts {K} = record { sure = λ k e. absurd cc; only = only }
  where
    only : (k : K) → Begins spells_nothing (k ∷ []) → no_token k ≡ true
    only k (x, more, e) = absurd cc

-- one phrase or another: what tells that the first begins never begins the second
module _ {K X Y : Type 0} (l : X → List K → Type 0) (m : Y → List K → Type 0) (read : List K → Found K X) (go : List K → Found K Y) (starts after_l after_m after : K → Bool) (n : ℕ) (chooses : Chooses l m starts) where
  abbrev Either : X ⊎ Y → List K → Type 0
  Either = spells_either l m

  head : {Z : Type 0} (p : Z → List K → Type 0) (z : Z) (k : K) (ks : List K) → p z (k ∷ ks) → Begins p (k ∷ [])
  head p z k ks w = (z, ks, w)

  first : (x : X) (k : K) (ks : List K) → l x (k ∷ ks) → starts k ≡ true
  first x k ks w = chooses.left.only k (x, ks, w)

  clash : {A : Type 0} (x : X) (y : Y) (k : K) (a b : List K) → l x (k ∷ a) → m y (k ∷ b) → A
  clash x y k a b w v = absurd (chooses.right k (y, b, v) (first x k a w))

  module _ (ll : (k : K) → starts k ≡ true → Law l read after_l n) (lm : Law m go after_m n) where
    reads : (ts : List K) → length ts < n → IsRead Either ts (read_either starts read go ts)
    reads ts lt =
        either_reads l m starts chooses.left.sure chooses.left.only (λ k b. not_true (starts k) (chooses.right k b)) chooses.some read go ts
        (λ k ks e s. (ll k s).reads ts lt) (lm.reads ts lt)

    one : (p q : X ⊎ Y) (a : List K) → length a < n → Either p a → Either q a → p ≡ q
    one (inl x) (inl y) [] lt w v = absurd (chooses.some x w)
    one (inl x) (inl y) (k ∷ a) lt w v = ap inl ((ll k (first x k a w)).one x y (k ∷ a) lt w v)
    one (inl x) (inr y) [] lt w v = absurd (chooses.some x w)
    one (inl x) (inr y) (k ∷ a) lt w v = clash x y k a a w v
    one (inr x) (inl y) [] lt w v = absurd (chooses.some y v)
    one (inr x) (inl y) (k ∷ a) lt w v = clash y x k a a v w
    one (inr x) (inr y) a lt w v = ap inr (lm.one x y a lt w v)

    module _ (keep_l : (k : K) → after_l k ≡ true → after k ≡ true) (keep_m : (k : K) → after_m k ≡ true → after k ≡ true) (empty : (y : Y) → m y [] → (k : K) → starts k ≡ true → after k ≡ true) where
      goes : (p : X ⊎ Y) (a : List K) (k : K) → length a < n → Either p a → Begins Either (a ++ k ∷ []) → after k ≡ true
      goes (inl x) [] k lt w b = absurd (chooses.some x w)
      goes (inl x) (h ∷ a) k lt w (inl y, more, v) = keep_l k ((ll h (first x h a w)).goes x (h ∷ a) k lt w (y, more, v))
      goes (inl x) (h ∷ a) k lt w (inr y, more, v) = clash x y h a ((a ++ k ∷ []) ++ more) w v
      goes (inr x) [] k lt w (inl y, more, v) = empty x w k (first y k more v)
      goes (inr x) (h ∷ a) k lt w (inl y, more, v) = clash y x h ((a ++ k ∷ []) ++ more) a v w
      goes (inr x) a k lt w (inr y, more, v) = keep_m k (lm.goes x a k lt w (y, more, v))

      pub either_law : Law Either (read_either starts read go) after n
      either_law = record { reads = reads; goes = goes; one = one }

pub either_starts : {K X Y : Type 0} (l : X → List K → Type 0) (m : Y → List K → Type 0) (p q : K → Bool) → Starts l p → Starts m q → Starts (spells_either l m) (either_token p q)
either_starts {K} l m p q sl sm = record { sure = sure; only = only }
  where
    sure : (k : K) → either_token p q k ≡ true → Begins (spells_either l m) (k ∷ [])
    sure k h = by (in_either p q k h)
      where
        by : (p k ≡ true) ⊎ (q k ≡ true) → Begins (spells_either l m) (k ∷ [])
        by (inl e) = let (x, more, w) = sl.sure k e in (inl x, more, w)
        by (inr e) = let (y, more, w) = sm.sure k e in (inr y, more, w)

    only : (k : K) → Begins (spells_either l m) (k ∷ []) → either_token p q k ≡ true
    only k (inl x, more, w) = in_left p q k (sl.only k (x, more, w))
    only k (inr y, more, w) = in_right p q k (sm.only k (y, more, w))

-- a first phrase that's never empty has the first token
pub then_starts : {K X Y : Type 0} (l : X → List K → Type 0) (m : X → Y → List K → Type 0) (p : K → Bool) → Starts l p → ((x : X) → l x [] → ⊥) → ((x : X) (a : List K) → l x a → Word (m x)) → Starts (spells_then l m) p
then_starts {K} {X} {Y} l m p sl some word = record { sure = sure; only = only }
  where
    sure : (k : K) → p k ≡ true → Begins (spells_then l m) (k ∷ [])
    sure k e =
        let (x, more, w) = sl.sure k e in
        let (y, b, v) = word x (k ∷ more) w in
        ((x, y), more ++ b, (k ∷ more, b, refl, w, v))

    only : (k : K) → Begins (spells_then l m) (k ∷ []) → p k ≡ true
    only k ((x, y), more, ([], b, e, w, v)) = absurd (some x w)
    only k ((x, y), more, (h ∷ a, b, e, w, v)) =
        let same : h ≡ k = cc in
        sl.only k (x, a, subst (λ z. l x (z ∷ a)) same w)

-- a phrase seen as something else
module _ {K X Y : Type 0} (l : X → List K → Type 0) (f : X → Y) (m : Y → List K → Type 0) (seen : Seen l f m) where
  begins_to : (a : List K) → Begins l a → Begins m a
  begins_to a (x, more, w) = (f x, more, seen.to x (a ++ more) w)

  begins_back : (a : List K) → Begins m a → Begins l a
  begins_back a (y, more, w) = let (x, e, v) = seen.back y (a ++ more) w in (x, more, v)

  seen_front : (a rest : List K) → IsFront l a rest → IsFront m a rest
  seen_front a rest front = record { begins = begins_to a front.begins; ends = λ k more r b. front.ends k more r (begins_back (a ++ k ∷ []) b) }

  seen_read : (ts : List K) (found : Found K X) → IsRead l ts found → IsRead m ts (found_as f found)
  seen_read ts (Done x rest) (a, e, front, w) = (a, e, seen_front a rest front, seen.to x a w)
  seen_read ts (Stopped rest) (a, e, front, none) = (a, e, seen_front a rest front, λ y w. let (x, g, v) = seen.back y a w in none x v)

  pub seen_law : (read : List K → Found K X) (after : K → Bool) (n : ℕ) → Law l read after n → Law m (λ ts. found_as f (read ts)) after n
  seen_law read after n ll = record { reads = λ ts lt. seen_read ts (read ts) (ll.reads ts lt); goes = goes; one = one }
    where
      goes : (y : Y) (a : List K) (k : K) → length a < n → m y a → Begins m (a ++ k ∷ []) → after k ≡ true
      goes y a k lt w b = let (x, e, v) = seen.back y a w in ll.goes x a k lt v (begins_back (a ++ k ∷ []) b)

      one : (y z : Y) (a : List K) → length a < n → m y a → m z a → y ≡ z
      one y z a lt w v =
          let (x, e, w') = seen.back y a w in
          let (x', e', v') = seen.back z a v in
          sym e ∙ (ap f (ll.one x x' a lt w' v') ∙ e')

  pub seen_starts : (p : K → Bool) → Starts l p → Starts m p
  seen_starts p s = record { sure = λ k e. begins_to (k ∷ []) (s.sure k e); only = λ k b. s.only k (begins_back (k ∷ []) b) }

-- the same phrases with the same words
pub alike_law : {K X : Type 0} {l m : X → List K → Type 0} {read : List K → Found K X} {p : K → Bool} {n : ℕ} → ((x : X) (ts : List K) → l x ts → m x ts) → ((x : X) (ts : List K) → m x ts → l x ts) → Law l read p n → Law m read p n
alike_law {K} {X} {l} {m} {read} {p} {n} to back ll = record { reads = λ ts lt. subst (IsRead m ts) (same (read ts)) (other.reads ts lt); goes = other.goes; one = other.one }
  where
    other : Law m (λ ts. found_as (λ x. x) (read ts)) p n
    other = seen_law l (λ x. x) m (record { to = to; back = λ y ts w. (y, refl, back y ts w) }) read p n ll

    same : (f : Found K X) → found_as (λ x. x) f ≡ f
    same (Done x rest) = refl
    same (Stopped rest) = refl
