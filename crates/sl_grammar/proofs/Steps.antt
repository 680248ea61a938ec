-- Readers of phrases that repeat while there is room.
use Rattle.std.proofs.Common.{◌≡◌, ℕ, zero, suc, ◌+◌, ◌≤◌, List, [], ◌∷◌, length, refl, ◌⊎◌, inl, inr, Bool, true, false, if◌then◌else◌, arith}
use Rattle.sl_grammar.specs.Phrase.{Found, spells_either, read_either}
use Rattle.sl_grammar.specs.Law.{Disjoint, Law, Seen, Shape, no_token, either_token, spells_nothing, read_nothing, spells_then, read_then}
use Rattle.sl_grammar.specs.Many.{list_of}
use Rattle.sl_grammar.specs.Guard.{guard}
use Rattle.sl_grammar.specs.Steps.{spells_steps, read_steps, read_all_steps}
use Rattle.sl_grammar.proofs.Then.{then_law}
use Rattle.sl_grammar.proofs.Laws.{in_right, nothing_law, alike_law, seen_law}
use Rattle.sl_grammar.proofs.Pieces.{then_shape, nothing_shape, seen_shape, empty_law, weaker_law}
use Rattle.sl_grammar.proofs.Many.{shorter_law, only_left}
use Rattle.sl_grammar.proofs.Guarded.{guarded_shape, guarded_law}

module _ {K Q S : Type 0} (link : Q → List K → Type 0) (room : S → Bool) (step : S → Q → S) where
  abbrev Steps : S → List Q → List K → Type 0
  Steps = spells_steps link room step

  -- one and more of them, where there is room
  abbrev Some : S → Q × List Q → List K → Type 0
  Some s p ts = (room s ≡ true) × spells_then link (λ q. Steps (step s q)) p ts

  steps_seen : (s : S) → Seen (spells_either (Some s) spells_nothing) list_of (Steps s)
  steps_seen s = record { to = to; back = back }
    where
      to : (z : (Q × List Q) ⊎ Unit {0}) (ts : List K) → spells_either (Some s) spells_nothing z ts → Steps s (list_of z) ts
      to (inl p) ts (r, w) = (r, w.0, w.1, w.2, w.3, w.4)
      to (inr u) ts w = w

      back : (qs : List Q) (ts : List K) → Steps s qs ts → (z : (Q × List Q) ⊎ Unit {0}) × (list_of z ≡ qs) × spells_either (Some s) spells_nothing z ts
      back [] ts w = (inr tt, refl, w)
      back (q ∷ qs) ts w = (inl (q, qs), refl, (w.0, (w.1, w.2, w.3, w.4, w.5)))

  no_room : (s : S) → room s ≡ false → (p : Q × List Q) (ts : List K) → Some s p ts → ⊥
  no_room s e p ts (r, w) = cc

  module _ (read : List K → Found K Q) (g p : K → Bool) (apart : Disjoint p g) (shape : (s : S) → room s ≡ true → Shape link g false) where
    abbrev pub more : S → K → Bool
    more s = either_token (guard (room s) g) no_token

    some_shape : (s : S) → room s ≡ true → Shape (Some s) g false
    some_shape s e = seen_shape (record { to = λ x ts w. (e, w); back = λ y ts w. (y, refl, w.1) }) (then_shape {m = λ q. Steps (step s q)} (shape s e) (λ q. ([], [], refl)))

    pub steps_shape : (s : S) → Shape (Steps s) (more s) true
    steps_shape s = seen_shape (steps_seen s) (guarded_shape (room s) (some_shape s) (no_room s) nothing_shape)

    pub within_guard : (s : S) (k : K) → more s k ≡ true → g k ≡ true
    within_guard s k e = by (room s) (only_left (guard (room s) g) k e)
      where
        by : (b : Bool) → (if b then g k else false) ≡ true → g k ≡ true
        by true e = e
        by false e = absurd cc

    steps_law : (n : ℕ) → ((s : S) → room s ≡ true → Law link read p n) → (j : ℕ) → j ≤ n → (s : S) → Law (Steps s) (read_steps g read room step j s) (either_token g p) j
    steps_law n ll zero h s = empty_law
    steps_law n ll (suc j) h s =
        seen_law (spells_either (Some s) spells_nothing) list_of (Steps s) (steps_seen s) (read_either (guard (room s) g) (read_then read (λ q. read_steps g read room step j (step s q))) read_nothing) (either_token g p) (suc j)
        (weaker_law (guarded_law (room s) (some_shape s) (λ e. some e (steps_law n ll j (omega arith))) (no_room s) nothing_shape (nothing_law (suc j)) (λ k e f. cc)) fewer)
      where
        some : room s ≡ true → ((s : S) → Law (Steps s) (read_steps g read room step j s) (either_token g p) j) → Law (Some s) (read_then read (λ q. read_steps g read room step j (step s q))) (either_token g p) (suc j)
        some e less =
            alike_law (λ x ts w. (e, w)) (λ x ts w. w.1)
            (then_law link (λ q. Steps (step s q)) read (λ q. read_steps g read room step j (step s q)) p (either_token g p) (either_token g p) (λ q. more (step s q)) (suc j) j
            (shorter_law (suc j) h (ll s e)) (λ q. less (step s q))
            (record { word = λ q a w. ([], [], refl); only = λ q a k w b. (steps_shape (step s q)).starts.only k b; apart = λ q k e f. apart k e (within_guard (step s q) k f); size = size })
            (λ k e. e) (λ q qs w k e. in_right g p k e))
          where
            size : (q : Q) (a : List K) → link q a → suc j ≤ length a + j
            size q [] w = absurd ((shape s e).some refl q w)
            size q (k ∷ a) w = omega arith

        fewer : (k : K) → either_token g (either_token (either_token g p) no_token) k ≡ true → either_token g p k ≡ true
        fewer k e = by (g k) (p k) e
          where
            by : (b c : Bool) → (if b then true else (if (if b then true else c) then true else false)) ≡ true → (if b then true else c) ≡ true
            by true c e = refl
            by false true e = refl
            by false false e = absurd cc

    pub all_steps_law : (n : ℕ) → ((s : S) → room s ≡ true → Law link read p n) → (s : S) → Law (Steps s) (read_all_steps g read room step s) (either_token g p) n
    all_steps_law n ll s = record { reads = λ ts lt. (steps_law n ll (suc (length ts)) (omega arith) s).reads ts (omega arith); goes = (steps_law n ll n (omega arith) s).goes; one = (steps_law n ll n (omega arith) s).one }

    -- a phrase that's never empty, and steps from what it tells
    pub first_steps_law : {X : Type 0} {l : X → List K → Type 0} {read_first : List K → Found K X} {f q after : K → Bool} (start : X → S) (a b : ℕ) → a ≤ suc b → Shape l f false → Law l read_first q a → ((s : S) → room s ≡ true → Law link read p b) → Disjoint q g → ((k : K) → either_token q (either_token g p) k ≡ true → after k ≡ true) → Law (spells_then l (λ x. Steps (start x))) (read_then read_first (λ x. read_all_steps g read room step (start x))) after a
    first_steps_law {X} {l} {read_first} {f} {q} {after} start a b ab sl ll lm clear into =
        then_law l (λ x. Steps (start x)) read_first (λ x. read_all_steps g read room step (start x)) q (either_token g p) after (λ x. more (start x)) a b ll (λ x. all_steps_law b lm (start x))
        (record { word = λ x u w. ([], [], refl); only = λ x u k w v. (steps_shape (start x)).starts.only k v; apart = λ x k e h. clear k e (within_guard (start x) k h); size = size })
        (λ k e. into k (in_right q (either_token g p) k e)) (λ x y w k e. into k (left k e))
      where
        left : (k : K) → q k ≡ true → either_token q (either_token g p) k ≡ true
        left k e = rw e

        size : (x : X) (u : List K) → l x u → a ≤ length u + b
        size x [] w = absurd (sl.some refl x w)
        size x (k ∷ u) w = omega arith
