-- A reader of two phrases, one after the other, of which the first may decide what the second is.
use Rattle.std.proofs.Common.{◌≡◌, ℕ, ◌+◌, ◌<◌, List, [], ◌∷◌, ◌++◌, length, refl, sym, ap, ◌∙◌, subst, ◌⊎◌, inl, inr, Bool, true, arith, append_assoc, append-nil, length-append}
use Rattle.sl_grammar.specs.Phrase.{Begins, Found, Done, Stopped, IsFront, IsRead, found_then}
use Rattle.sl_grammar.specs.Law.{Law, Joins, spells_then, read_then}
use Rattle.sl_grammar.proofs.Both.{Cut, cut}

pub one_more : {K : Type 0} (a : List K) (k : K) (c : List K) → (a ++ k ∷ []) ++ c ≡ a ++ k ∷ c
one_more a k c = append_assoc a (k ∷ []) c

pub front_of : {K X : Type 0} (l : X → List K → Type 0) (a b : List K) → Begins l (a ++ b) → Begins l a
front_of l a b (x, more, w) = (x, b ++ more, subst (l x) (append_assoc a b more) w)

pub length_front : {K : Type 0} (ts a b : List K) → ts ≡ a ++ b → length ts ≡ length a + length b
length_front ts a b e = ap length e ∙ length-append a b

module _ {K X Y : Type 0} (l : X → List K → Type 0) (m : X → Y → List K → Type 0) (read : List K → Found K X) (go : X → List K → Found K Y) (after_l after_m after : K → Bool) (first : X → K → Bool) (n j : ℕ) (ll : Law l read after_l n) (lm : (x : X) → Law (m x) (go x) after_m j) (joins : Joins l m after_l first n j) where
  abbrev Pair : X × Y → List K → Type 0
  Pair = spells_then l m

  -- a front of the first phrase and a word of both: cut at the same place, or the first phrase goes on
  abbrev Split : List K → List K → List K → List K → Type 0
  Split a s a' b' = ((a ≡ a') × (s ≡ b')) ⊎ ((k : K) × (c : List K) × (s ≡ k ∷ c) × Begins l (a ++ k ∷ []))

  split : (a s : List K) → length a < n → Begins l a → (x : X) (y : Y) (a' b' : List K) → l x a' → m x y b' → a ++ s ≡ a' ++ b' → Split a s a' b'
  split a s la begins x y a' b' wx wy e = by (cut a s a' b' e)
    where
      by : Cut a s a' b' → Split a s a' b'
      by (inl (k, c, p, q)) = inr (k, c ++ b', q, (x, c, subst (l x) (p ∙ sym (one_more a k c)) wx))
      by (inr (inl p)) = inl p
      by (inr (inr (k, c, p, q))) =
          let goes_on : Begins l (a' ++ k ∷ []) = front_of l (a' ++ k ∷ []) c (subst (Begins l) (p ∙ sym (one_more a' k c)) begins) in
          let short : length a' < n = omega (arith, length_front a a' (k ∷ c) p) in
          absurd (joins.apart x k (ll.goes x a' k short wx goes_on) (joins.only x a' k wx (y, c ++ s, subst (m x y) q wy)))

  -- the same where the first phrase's front ends and what follows has the head of what is left
  same_cut : (a rest : List K) → length a < n → IsFront l a rest → (s : List K) → ((k : K) (c : List K) → s ≡ k ∷ c → (more : List K) × (rest ≡ k ∷ more)) → (x : X) (y : Y) (a' b' : List K) → l x a' → m x y b' → a ++ s ≡ a' ++ b' → (a ≡ a') × (s ≡ b')
  same_cut a rest la front s head x y a' b' wx wy e = by (split a s la front.begins x y a' b' wx wy e)
    where
      by : Split a s a' b' → (a ≡ a') × (s ≡ b')
      by (inl p) = p
      by (inr (k, c, p, b)) = let h = head k c p in absurd (front.ends k h.0 h.1 b)

  -- the same at two words of both, of which the second may go on
  abbrev Again : List K → List K → List K → List K → List K → Type 0
  Again a b t a' b' = ((a ≡ a') × (b ++ t ≡ b')) ⊎ ((b ≡ []) × ((k : K) × (c : List K) × (t ≡ k ∷ c) × Begins l (a ++ k ∷ [])))

  again : (x : X) (y : Y) (a b t : List K) → length a < n → l x a → m x y b → (x' : X) (y' : Y) (a' b' : List K) → l x' a' → m x' y' b' → a ++ (b ++ t) ≡ a' ++ b' → Again a b t a' b'
  again x y a b t la wx wy x' y' a' b' wx' wy' e = by b wy (split a (b ++ t) la (x, [], subst (l x) (sym (append-nil a)) wx) x' y' a' b' wx' wy' e)
    where
      by : (b : List K) → m x y b → Split a (b ++ t) a' b' → Again a b t a' b'
      by b wy (inl p) = inl p
      by [] wy (inr p) = inr (refl, p)
      by (h ∷ b) wy (inr (k, c, p, goes_on)) =
          let same : h ≡ k = cc in
          absurd (joins.apart x k (ll.goes x a k la wx goes_on) (joins.only x a k wx (y, b, subst (λ z. m x y (z ∷ b)) same wy)))

  -- the second phrase, at the first that has the same words
  moved : (x x' : X) (y : Y) (a a' s b' : List K) → length a < n → l x a → l x' a' → a ≡ a' → s ≡ b' → m x' y b' → m x y s
  moved x x' y a a' s b' la wx wx' e f wy = subst (m x y) (sym f) (subst (λ z. m z y b') (sym (ll.one x x' a la wx (subst (l x') (sym e) wx'))) wy)

  -- the first phrase stops: so do both
  first_stops : (ts a rest : List K) → length a < n → ts ≡ a ++ rest → IsFront l a rest → ((x : X) → l x a → ⊥) → IsRead Pair ts (Stopped rest)
  first_stops ts a rest la e front none = (a, e, record { begins = begins; ends = ends }, no_word)
    where
      begins : Begins Pair a
      begins =
          let (x, more, w) = front.begins in
          let (y, b, v) = joins.word x (a ++ more) w in
          ((x, y), more ++ b, (a ++ more, b, sym (append_assoc a more b), w, v))

      ends : (k : K) (more : List K) → rest ≡ k ∷ more → Begins Pair (a ++ k ∷ []) → ⊥
      ends k more r (p, tail, (a', b', e', wx, wy)) =
          let same = same_cut a rest la front (k ∷ tail) (λ k' c h. (more, r ∙ cc)) p.0 p.1 a' b' wx wy (sym (one_more a k tail) ∙ e') in
          none p.0 (subst (l p.0) (sym same.0) wx)

      no_word : (p : X × Y) → Pair p a → ⊥
      no_word p (a', b', e', wx, wy) =
          let same = same_cut a rest la front [] (λ k c h. absurd cc) p.0 p.1 a' b' wx wy (append-nil a ∙ e') in
          none p.0 (subst (l p.0) (sym same.0) wx)

  starts : (b left s : List K) → (k : K) (more : List K) → left ≡ k ∷ more → (i : K) (c : List K) → (b ++ k ∷ []) ++ s ≡ i ∷ c → (more : List K) × (b ++ left ≡ i ∷ more)
  starts [] left s k more r i c e = (more, r ∙ cc)
  starts (h ∷ b) left s k more r i c e = (b ++ left, cc)

  begins_with : (b left : List K) (i : K) (c : List K) → b ≡ i ∷ c → (more : List K) × (b ++ left ≡ i ∷ more)
  begins_with b left i c e = (c ++ left, ap (λ x. x ++ left) e)

  -- the first phrase is whole: the second decides
  second : (a rest : List K) → length a < n → IsFront l a rest → (x : X) → l x a → (b left : List K) → rest ≡ b ++ left → IsFront (m x) b left → IsFront Pair (a ++ b) left
  second a rest la front x wx b left r back = record { begins = begins; ends = ends }
    where
      begins : Begins Pair (a ++ b)
      begins = let (y, more, w) = back.begins in ((x, y), more, (a, b ++ more, append_assoc a b more, wx, w))

      ends : (k : K) (more : List K) → left ≡ k ∷ more → Begins Pair ((a ++ b) ++ k ∷ []) → ⊥
      ends k more f (p, tail, (a', b', e', wx', wy')) =
          let same = same_cut a rest la front ((b ++ k ∷ []) ++ tail) (λ i c h. let s = starts b left tail k more f i c h in (s.0, r ∙ s.1)) p.0 p.1 a' b' wx' wy'
          (sym (append_assoc a (b ++ k ∷ []) tail) ∙ (ap (λ z. z ++ tail) (sym (append_assoc a b (k ∷ []))) ∙ e')) in
          back.ends k more f (p.1, tail, moved x p.0 p.1 a a' ((b ++ k ∷ []) ++ tail) b' la wx wx' same.0 same.1 wy')

  then_second : (ts a rest : List K) → length a < n → ts ≡ a ++ rest → IsFront l a rest → (x : X) → l x a → (f : Found K Y) → IsRead (m x) rest f → IsRead Pair ts (found_then f (λ y left. Done (x, y) left))
  then_second ts a rest la e front x wx (Done y left) (b, r, back, wy) =
      (a ++ b, e ∙ (ap (λ z. a ++ z) r ∙ sym (append_assoc a b left)), second a rest la front x wx b left r back, (a, b, refl, wx, wy))
  then_second ts a rest la e front x wx (Stopped left) (b, r, back, none) =
      (a ++ b, e ∙ (ap (λ z. a ++ z) r ∙ sym (append_assoc a b left)), second a rest la front x wx b left r back, no_word)
    where
      no_word : (p : X × Y) → Pair p (a ++ b) → ⊥
      no_word p (a', b', e', wx', wy') =
          let same = same_cut a rest la front b (λ i c h. let s = begins_with b left i c h in (s.0, r ∙ s.1)) p.0 p.1 a' b' wx' wy' e' in
          none p.1 (moved x p.0 p.1 a a' b b' la wx wx' same.0 same.1 wy')

  pub then_reads : (ts : List K) → length ts < n → IsRead Pair ts (read_then read go ts)
  then_reads ts lt = by (read ts) (ll.reads ts lt)
    where
      by : (f : Found K X) → IsRead l ts f → IsRead Pair ts (found_then f (λ x rest. found_then (go x rest) (λ y left. Done (x, y) left)))
      by (Done x rest) (a, e, front, wx) =
          then_second ts a rest (omega (arith, length_front ts a rest e)) e front x wx (go x rest) ((lm x).reads rest (omega (arith, length_front ts a rest e, joins.size x a wx)))
      by (Stopped rest) (a, e, front, none) = first_stops ts a rest (omega (arith, length_front ts a rest e)) e front none

  then_one : (p q : X × Y) (ts : List K) → length ts < n → Pair p ts → Pair q ts → p ≡ q
  then_one (x, y) (x', y') ts lt (a, b, e, wx, wy) (a', b', e', wx', wy') =
      by (again x y a b [] la wx wy x' y' a' b' wx' wy' (ap (λ z. a ++ z) (append-nil b) ∙ (sym e ∙ e')))
    where
      la : length a < n
      la = omega (arith, length_front ts a b e)

      by : Again a b [] a' b' → ◌≡◌ {A = X × Y} (x, y) (x', y')
      by (inl (s, t)) =
          let same : x ≡ x' = ll.one x x' a la wx (subst (l x') (sym s) wx') in
          let other : y ≡ y' = (lm x).one y y' b (omega (arith, length_front ts a b e, joins.size x a wx)) wy (moved x x' y' a a' b b' la wx wx' s (sym (append-nil b) ∙ t) wy') in
          cc
      by (inr (s, (k, c, t, u))) = absurd cc

  module _ (keep : (k : K) → after_m k ≡ true → after k ≡ true) (empty : (x : X) (y : Y) → m x y [] → (k : K) → after_l k ≡ true → after k ≡ true) where
    then_goes : (p : X × Y) (ts : List K) (k : K) → length ts < n → Pair p ts → Begins Pair (ts ++ k ∷ []) → after k ≡ true
    then_goes p ts k lt (a, b, e, wx, wy) (q, more, (a', b', e', wx', wy')) = by (again p.0 p.1 a b (k ∷ more) la wx wy q.0 q.1 a' b' wx' wy' joined)
      where
        la : length a < n
        la = omega (arith, length_front ts a b e)

        joined : a ++ (b ++ k ∷ more) ≡ a' ++ b'
        joined = sym (append_assoc a b (k ∷ more)) ∙ (ap (λ z. z ++ k ∷ more) (sym e) ∙ (sym (one_more ts k more) ∙ e'))

        by : Again a b (k ∷ more) a' b' → after k ≡ true
        by (inl (s, t)) =
            let longer : m p.0 q.1 ((b ++ k ∷ []) ++ more) = moved p.0 q.0 q.1 a a' ((b ++ k ∷ []) ++ more) b' la wx wx' s (one_more b k more ∙ t) wy' in
            keep k ((lm p.0).goes p.1 b k (omega (arith, length_front ts a b e, joins.size p.0 a wx)) wy (q.1, more, longer))
        by (inr (s, (i, c, t, u))) =
            let same : i ≡ k = cc in
            empty p.0 p.1 (subst (m p.0 p.1) s wy) k (ll.goes p.0 a k la wx (subst (λ z. Begins l (a ++ z ∷ [])) same u))

    pub then_law : Law Pair (read_then read go) after n
    then_law = record { reads = then_reads; goes = then_goes; one = then_one }
