-- A choice that looks two tokens ahead is read.
use Rattle.std.proofs.Common.{◌≡◌, ℕ, suc, ◌+◌, ◌<◌, ◌≤◌, List, [], ◌∷◌, ◌++◌, length, refl, sym, ap, ◌∙◌, subst, ◌⊎◌, inl, inr, Bool, true, false, if◌then◌else◌, arith, append-nil}
use Rattle.sl_grammar.specs.Phrase.{Begins, Found, Done, Stopped, IsFront, IsRead, found_then, spells_token, read_token, spells_both, read_both}
use Rattle.sl_grammar.specs.Law.{Word, Law, Shape, either_token}
use Rattle.sl_grammar.specs.Ahead.{leads, spells_ahead, read_ahead}
use Rattle.sl_grammar.proofs.Then.{one_more}
use Rattle.sl_grammar.proofs.Laws.{token_law, in_left, in_right}
use Rattle.sl_grammar.proofs.Pieces.{token_shape, then_any, longer}

-- the first two tokens of a list
module _ {K : Type 0} (a b : K → Bool) where
  leads_front : (u r : List K) → leads a b (u ++ r) ≡ false → leads a b u ≡ false
  leads_front [] r e = refl
  leads_front (k ∷ []) r e = refl
  leads_front (k ∷ (j ∷ u)) r e = e

  not_first : (k : K) (more : List K) → a k ≡ false → leads a b (k ∷ more) ≡ false
  not_first k [] e = refl
  not_first k (j ∷ js) e = rw e

  both_pass : (k j : K) → a k ≡ true → b j ≡ true → (if a k then b j else false) ≡ true
  both_pass k j e f = rw (e, f)

  passes : (k j : K) → (if a k then b j else false) ≡ true → (a k ≡ true) × (b j ≡ true)
  passes k j h = by (a k) refl h
    where
      by : (c : Bool) → a k ≡ c → (if c then b j else false) ≡ true → (a k ≡ true) × (b j ≡ true)
      by true e h = (e, h)
      by false e h = absurd cc

module _ {K X Y : Type 0} (a starts : K → Bool) (g : X → List K → Type 0) (q : Y → List K → Type 0) where
  abbrev Ahead : (K × X) ⊎ Y → List K → Type 0
  Ahead = spells_ahead a starts g q

  -- a token and then the phrase
  abbrev Pair : K × X → List K → Type 0
  Pair = spells_both (spells_token a) g

  parts : (p : K × X) (k : K) (us : List K) → Pair p (k ∷ us) → (a k ≡ true) × g p.1 us
  parts p k us (u, b, e, (f, t), w) =
      let s : k ∷ us ≡ p.0 ∷ b = e ∙ ap (λ z. z ++ b) f in
      let h : p.0 ≡ k = cc in
      let r : b ≡ us = cc in
      (subst (λ z. a z ≡ true) h t, subst (g p.1) r w)

  some_pair : (p : K × X) → Pair p [] → ⊥
  some_pair p (u, b, e, (f, t), w) = let s : [] ≡ p.0 ∷ b = e ∙ ap (λ z. z ++ b) f in cc

  pair : (k : K) (x : X) (us : List K) → a k ≡ true → g x us → Pair (k, x) (k ∷ us)
  pair k x us e w = (k ∷ [], us, refl, (refl, e), w)

  module _ (word : Word g) where
    -- a token that begins a word of the second phrase begins a word of both
    at_token : (k : K) (y : Y) (more : List K) → q y (k ∷ more) → Begins Ahead (k ∷ [])
    at_token k y more w = by (a k) refl
      where
        by : (c : Bool) → a k ≡ c → Begins Ahead (k ∷ [])
        by true e = let (x, us, v) = word in (inl (k, x), us, pair k x us e v)
        by false e = (inr y, more, (not_first a starts k more e, w))

    -- so does a front whose first two tokens aren't such
    at_front : (used more : List K) (y : Y) → leads a starts used ≡ false → q y (used ++ more) → Begins Ahead used
    at_front [] [] y e w = (inr y, [], (refl, w))
    at_front [] (k ∷ more) y e w = let (z, rest, v) = at_token k y more w in (z, k ∷ rest, v)
    at_front (k ∷ []) more y e w = at_token k y more w
    at_front (k ∷ (j ∷ u)) more y e w = (inr y, more, (e, w))

    module _ (begins : (k : K) → a k ≡ true → Begins q (k ∷ [])) where
      -- the tokens that begin it are those of the second phrase
      pub ahead_shape : {first : K → Bool} → Shape q first false → Shape (spells_ahead a starts g q) first false
      ahead_shape {first} sq = record { starts = record { sure = sure; only = only }; word = a_word; some = λ e. some; empty = λ e. absurd cc }
        where
          sure : (k : K) → first k ≡ true → Begins Ahead (k ∷ [])
          sure k e = let (y, more, w) = sq.starts.sure k e in at_token k y more w

          only : (k : K) → Begins Ahead (k ∷ []) → first k ≡ true
          only k (inl p, more, w) = sq.starts.only k (begins k (parts p k more w).0)
          only k (inr y, more, w) = sq.starts.only k (y, more, w.1)

          a_word : Word Ahead
          a_word = let (y, us, w) = sq.word in at_front [] us y refl w

          some : (z : (K × X) ⊎ Y) → Ahead z [] → ⊥
          some (inl p) w = some_pair p w
          some (inr y) w = sq.some refl y w.1

  module _ (sg : Shape g starts false) where
    pair_leads : (p : K × X) (k j : K) (us : List K) → Pair p (k ∷ (j ∷ us)) → (if a k then starts j else false) ≡ true
    pair_leads p k j us w = let (e, v) = parts p k (j ∷ us) w in both_pass a starts k j e (sg.starts.only j (p.1, us, v))

    -- a whole word of the first kind is at least two tokens
    whole_leads : (p : K × X) (us more : List K) → Pair p us → leads a starts (us ++ more) ≡ true
    whole_leads p [] more w = absurd (some_pair p w)
    whole_leads p (k ∷ []) more w = absurd (sg.some refl p.1 (parts p k [] w).1)
    whole_leads p (k ∷ (j ∷ us)) more w = pair_leads p k j us w

    clash : {Z : Type 0} (b : Bool) → b ≡ true → b ≡ false → Z
    clash b e f = absurd cc

    one_token : (k : K) → a k ≡ true → Begins Pair (k ∷ [])
    one_token k e = let (x, us, v) = sg.word in ((k, x), us, pair k x us e v)

    two_tokens : (k j : K) → a k ≡ true → starts j ≡ true → Begins Pair (k ∷ (j ∷ []))
    two_tokens k j e f = let (x, more, v) = sg.starts.sure j f in ((k, x), more, pair k x (j ∷ more) e v)

    module _ (k j : K) (js : List K) (ek : a k ≡ true) (ej : starts j ≡ true) where
      -- at two such tokens the front of the first kind has both
      long : (used rest : List K) → k ∷ (j ∷ js) ≡ used ++ rest → IsFront Pair used rest → (u : List K) × (used ≡ k ∷ (j ∷ u))
      long [] rest h front = absurd (front.ends k (j ∷ js) (sym h) (one_token k ek))
      long (i ∷ []) rest h front = absurd (front.ends j js r (subst (λ z. Begins Pair (z ∷ (j ∷ []))) same (two_tokens k j ek ej)))
        where
          same : k ≡ i
          same = cc

          r : rest ≡ j ∷ js
          r = cc
      long (i ∷ (i' ∷ u)) rest h front = (u, cc)

      -- and no word of the second kind begins with it
      no_second : (used : List K) → (u : List K) × (used ≡ k ∷ (j ∷ u)) → (more : List K) (y : Y) → Ahead (inr y) (used ++ more) → ⊥
      no_second used (u, e) more y w = clash (leads a starts (used ++ more)) (ap (λ z. leads a starts (z ++ more)) e ∙ both_pass a starts k j ek ej) w.0

      left_front : (used rest : List K) → k ∷ (j ∷ js) ≡ used ++ rest → IsFront Pair used rest → IsFront Ahead used rest
      left_front used rest h front = record { begins = (let (p, more, w) = front.begins in (inl p, more, w)); ends = ends }
        where
          ends : (c : K) (more : List K) → rest ≡ c ∷ more → Begins Ahead (used ++ c ∷ []) → ⊥
          ends c more r (inl p, tail, w) = front.ends c more r (p, tail, w)
          ends c more r (inr y, tail, w) = no_second used (long used rest h front) (c ∷ tail) y (subst (Ahead (inr y)) (one_more used c tail) w)

      left_read : (f : Found K (K × X)) → IsRead Pair (k ∷ (j ∷ js)) f → IsRead Ahead (k ∷ (j ∷ js)) (found_then f (λ x left. Done (inl x) left))
      left_read (Done p rest) (used, h, front, w) = (used, h, left_front used rest h front, w)
      left_read (Stopped rest) (used, h, front, none) = (used, h, left_front used rest h front, no_word)
        where
          no_word : (z : (K × X) ⊎ Y) → Ahead z used → ⊥
          no_word (inl p) w = none p w
          no_word (inr y) w = no_second used (long used rest h front) [] y (subst (Ahead (inr y)) (sym (append-nil used)) w)

    module _ (begins : (k : K) → a k ≡ true → Begins q (k ∷ [])) (ts : List K) (other : leads a starts ts ≡ false) where
      -- else no word of the first kind goes on behind the second's front
      no_first : (used : List K) (c : K) (rest : List K) → ts ≡ used ++ c ∷ rest → IsFront q used (c ∷ rest) → (p : K × X) (tail : List K) → Pair p ((used ++ c ∷ []) ++ tail) → ⊥
      no_first [] c rest h front p tail w = front.ends c rest refl (begins c (parts p c tail w).0)
      no_first (k ∷ []) c rest h front p tail w = clash (leads a starts ts) (ap (leads a starts) h ∙ pair_leads p k c tail w) other
      no_first (k ∷ (j ∷ u)) c rest h front p tail w = clash (leads a starts ts) (ap (leads a starts) h ∙ pair_leads p k j ((u ++ c ∷ []) ++ tail) w) other

      right_front : (used rest : List K) → ts ≡ used ++ rest → IsFront q used rest → IsFront Ahead used rest
      right_front used rest h front =
          record {
            begins = (let (y, more, w) = front.begins in at_front sg.word used more y (leads_front a starts used rest (ap (leads a starts) (sym h) ∙ other)) w);
            ends = ends;
          }
        where
          ends : (c : K) (more : List K) → rest ≡ c ∷ more → Begins Ahead (used ++ c ∷ []) → ⊥
          ends c more r (inl p, tail, w) = no_first used c more (h ∙ ap (λ z. used ++ z) r) (subst (IsFront q used) r front) p tail w
          ends c more r (inr y, tail, w) = front.ends c more r (y, tail, w.1)

      right_read : (f : Found K Y) → IsRead q ts f → IsRead Ahead ts (found_then f (λ y left. Done (inr y) left))
      right_read (Done y rest) (used, h, front, w) = (used, h, right_front used rest h front, (leads_front a starts used rest (ap (leads a starts) (sym h) ∙ other), w))
      right_read (Stopped rest) (used, h, front, none) = (used, h, right_front used rest h front, no_word)
        where
          no_word : (z : (K × X) ⊎ Y) → Ahead z used → ⊥
          no_word (inl p) w = clash (leads a starts ts) (ap (leads a starts) h ∙ whole_leads p used rest w) other
          no_word (inr y) w = none y w.1

    module _ (some : (y : Y) → q y [] → ⊥) (begins : (k : K) → a k ≡ true → Begins q (k ∷ [])) {read_g : List K → Found K X} {read_q : List K → Found K Y} {after_g after_q : K → Bool} (i j : ℕ) (ij : i ≤ suc j) (lg : Law g read_g after_g j) (lq : Law q read_q after_q i) where
      abbrev read_pair : List K → Found K (K × X)
      read_pair = read_both (read_token a) read_g

      abbrev after : K → Bool
      after = either_token starts (either_token after_g after_q)

      -- the first kind's law, where some token begins it
      lp : (k : K) → a k ≡ true → Law Pair read_pair after_g i
      lp k e = then_any i j false sg (token_law a k e i) lg (λ k u v. absurd cc) size
        where
          size : (x : K) (us : List K) → spells_token a x us → i ≤ length us + j
          size x us w = let n : suc j ≤ length us + j = longer (spells_token a) ((token_shape a k e).some refl) j x us w in omega arith

      pair_law : (p : K × X) (us : List K) → Pair p us → Law Pair read_pair after_g i
      pair_law p us w = lp p.0 w.3.1

      reads : (ts : List K) → length ts < i → IsRead Ahead ts (read_ahead a starts read_g read_q ts)
      reads ts lt = by ts lt (leads a starts ts) refl
        where
          by : (ts : List K) → length ts < i → (b : Bool) → leads a starts ts ≡ b → IsRead Ahead ts (if b then found_then (read_pair ts) (λ x left. Done (inl x) left) else found_then (read_q ts) (λ y left. Done (inr y) left))
          by ts lt false e = right_read begins ts e (read_q ts) (lq.reads ts lt)
          by [] lt true e = absurd cc
          by (k ∷ []) lt true e = absurd cc
          by (k ∷ (j ∷ js)) lt true e =
              let (ek, ej) = passes a starts k j e in
              left_read k j js ek ej (read_pair (k ∷ (j ∷ js))) ((lp k ek).reads (k ∷ (j ∷ js)) lt)

      -- what goes on after a word of the second kind is one of the first kind only where that word is one token
      goes_first : (y : Y) (us : List K) (k : K) (more : List K) → Ahead (inr y) us → (p : K × X) → Pair p ((us ++ k ∷ []) ++ more) → starts k ≡ true
      goes_first y [] k more w p v = absurd (some y w.1)
      goes_first y (h ∷ []) k more w p v = sg.starts.only k (p.1, more, (parts p h (k ∷ more) v).1)
      goes_first y (h ∷ (h' ∷ us)) k more w p v = clash (if a h then starts h' else false) (pair_leads p h h' ((us ++ k ∷ []) ++ more) v) w.0

      goes : (z : (K × X) ⊎ Y) (us : List K) (k : K) → length us < i → Ahead z us → Begins Ahead (us ++ k ∷ []) → after k ≡ true
      goes (inl p) us k lt w (inl p', more, v) = in_right starts (either_token after_g after_q) k (in_left after_g after_q k ((pair_law p us w).goes p us k lt w (p', more, v)))
      goes (inl p) us k lt w (inr y, more, v) = clash (leads a starts (us ++ k ∷ more)) (whole_leads p us (k ∷ more) w) (ap (leads a starts) (sym (one_more us k more)) ∙ v.0)
      goes (inr y) us k lt w (inl p, more, v) = in_left starts (either_token after_g after_q) k (goes_first y us k more w p v)
      goes (inr y) us k lt w (inr y', more, v) = in_right starts (either_token after_g after_q) k (in_right after_g after_q k (lq.goes y us k lt w.1 (y', more, v.1)))

      not_both : {Z : Type 0} (p : K × X) (y : Y) (us : List K) → Pair p us → Ahead (inr y) us → Z
      not_both p y us w v = clash (leads a starts us) (ap (leads a starts) (sym (append-nil us)) ∙ whole_leads p us [] w) v.0

      one : (z z' : (K × X) ⊎ Y) (us : List K) → length us < i → Ahead z us → Ahead z' us → z ≡ z'
      one (inl p) (inl p') us lt w v = ap inl ((pair_law p us w).one p p' us lt w v)
      one (inl p) (inr y) us lt w v = not_both p y us w v
      one (inr y) (inl p) us lt w v = not_both p y us v w
      one (inr y) (inr y') us lt w v = ap inr (lq.one y y' us lt w.1 v.1)

      pub ahead_law : Law (spells_ahead a starts g q) (read_ahead a starts read_g read_q) (either_token starts (either_token after_g after_q)) i
      ahead_law = record { reads = reads; goes = goes; one = one }
