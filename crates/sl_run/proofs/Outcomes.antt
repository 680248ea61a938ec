-- What is known of runs that go alike: the outside sees the same of both, and what goes alike in two passes goes alike.
use Rattle.std.proofs.Common.{◌≡◌, ◌⊎◌, ℕ, ℤ, List, refl, sym, ◌∙◌, subst, inl, inr}
use Rattle.sl_run.specs.Run.{Ending, Done, Trace, Step, Went, Over, Act, start}
use Rattle.sl_run.specs.Outcome.{outcome, trace_of, whole_run}
use Rattle.sl_run.specs.Alike.{AlikeUnless, FollowsUnless, NoneExcused, Follows, Through}
use Rattle.sl_run.proofs.Alike.{excused_alike}

module _ {S R : Type 0} (excused : Ending → Type 0) (copies : ℕ → ℕ → Type 0) (on : S → R → Type 0) where
  -- of runs that ended alike, with the same value where they went on, the outside knows the same, where the first isn't over in a way
  -- that is excused
  pub alike_outcomes : (x : Step S ℤ) (y : Step R ℤ) → ¬ excused (outcome x).ending → AlikeUnless excused copies on (λ v w. v ≡ w) x y → outcome x ≡ outcome y
  alike_outcomes (Went v t s) (Went w u r) never h = λ k. record { ending = Done (h.0 k); events = h.1.events k; rest = h.1.rest k; left = h.1.left k }
  alike_outcomes (Over e t) (Over f u) never (inl h) = absurd (never h)
  alike_outcomes (Over e t) (Over f u) never (inr h) = λ k. record { ending = h.0 k; events = h.1.events k; rest = h.1.rest k; left = h.1.left k }
  alike_outcomes (Went v t s) (Over f u) never h = absurd h
  alike_outcomes (Over e t) (Went w u r) never h = absurd (never h)

  -- whole runs that go alike are the same to the outside, on every input and for every number of turns, where the first isn't over in
  -- a way that is excused
  pub follows_runs : (a : Act S ℤ) (b : Act R ℤ) (s : S) (r : R) → FollowsUnless excused copies on (λ v w. v ≡ w) a b → on s r → copies 0 0 → (input : List ℕ) (turns : ℕ) → ¬ excused (whole_run a s input turns).ending → whole_run a s input turns ≡ whole_run b r input turns
  unfolding whole_run
  follows_runs a b s r h o made input turns never =
      alike_outcomes (a (start input turns) s) (b (start input turns) r) never
      (h (start input turns) (start input turns) s r (record { events = refl; rest = refl; left = refl; made = made }) o)

  module _ {A B : Type 0} (val val' : A → B → Type 0) (weaker : (x : A) (y : B) → val x y → val' x y) where
    -- parts that ended alike did so for a relation of values that says less
    pub weaken_alike : (x : Step S A) (y : Step R B) → AlikeUnless excused copies on val x y → AlikeUnless excused copies on val' x y
    weaken_alike (Went v t s) (Went w u r) h = (weaker v w h.0, h.1, h.2)
    weaken_alike (Over e t) (Over f u) h = h
    weaken_alike (Went v t s) (Over f u) h = absurd h
    weaken_alike (Over e t) (Went w u r) h = h

    -- parts that go alike do so for a relation of values that says less
    pub weaken_follows : (a : Act S A) (b : Act R B) → FollowsUnless excused copies on val a b → FollowsUnless excused copies on val' a b
    weaken_follows a b h t u s r same o = weaken_alike (a t s) (b u r) (h t u s r same o)

module _ {S R : Type 0} (copies : ℕ → ℕ → Type 0) (on : S → R → Type 0) {A B : Type 0} (val : A → B → Type 0) where
  -- of the copies of parts that ended alike the relation holds
  pub alike_copies : (x : Step S A) (y : Step R B) → AlikeUnless NoneExcused copies on val x y → copies (trace_of x).copies (trace_of y).copies
  alike_copies (Went v t s) (Went w u r) h = h.1.made
  alike_copies (Over e t) (Over f u) (inl h) = absurd h
  alike_copies (Over e t) (Over f u) (inr h) = h.1.made
  alike_copies (Went v t s) (Over f u) h = absurd h
  alike_copies (Over e t) (Went w u r) h = absurd h

  -- of the copies of whole runs that go alike the relation holds, on every input and for every number of turns
  pub follows_copies : (a : Act S A) (b : Act R B) (s : S) (r : R) → Follows copies on val a b → on s r → copies 0 0 → (input : List ℕ) (turns : ℕ) → copies (trace_of (a (start input turns) s)).copies (trace_of (b (start input turns) r)).copies
  follows_copies a b s r h o made input turns =
      alike_copies (a (start input turns) s) (b (start input turns) r)
      (h (start input turns) (start input turns) s r (record { events = refl; rest = refl; left = refl; made = made }) o)

module _ {S R : Type 0} (excused excused' : Ending → Type 0) (copies : ℕ → ℕ → Type 0) (on : S → R → Type 0) {A B : Type 0} (val : A → B → Type 0) (more : (e : Ending) → excused e → excused' e) where
  -- parts that ended alike did so where more is excused
  pub excuse_alike : (x : Step S A) (y : Step R B) → AlikeUnless excused copies on val x y → AlikeUnless excused' copies on val x y
  excuse_alike (Went v t s) (Went w u r) h = h
  excuse_alike (Over e t) (Over f u) (inl h) = inl (more e h)
  excuse_alike (Over e t) (Over f u) (inr h) = inr h
  excuse_alike (Went v t s) (Over f u) h = absurd h
  excuse_alike (Over e t) (Went w u r) h = more e h

  -- parts that go alike do so where more is excused
  pub excuse_follows : (a : Act S A) (b : Act R B) → FollowsUnless excused copies on val a b → FollowsUnless excused' copies on val a b
  excuse_follows a b h t u s r same o = excuse_alike (a t s) (b u r) (h t u s r same o)

-- one of two ways of being over
abbrev pub EitherExcused : (Ending → Type 0) → (Ending → Type 0) → Ending → Type 0
EitherExcused excused excused' e = excused e ⊎ excused' e

module _ {S R Q A B C : Type 0} (excused₁ excused₂ : Ending → Type 0) (copies₁ copies₂ : ℕ → ℕ → Type 0) (on₁ : S → R → Type 0) (on₂ : R → Q → Type 0) (val₁ : A → B → Type 0) (val₂ : B → C → Type 0) where
  -- where the first is over in a way that is excused, anything goes alike with it
  anything_then : (e : Ending) (t : Trace) (z : Step Q C) → EitherExcused excused₁ excused₂ e → AlikeUnless (EitherExcused excused₁ excused₂) (Through copies₁ copies₂) (Through on₁ on₂) (Through val₁ val₂) (Over e t) z
  anything_then e t z h = excused_alike (EitherExcused excused₁ excused₂) (Through copies₁ copies₂) (Through on₁ on₂) (Through val₁ val₂) e t z h

  -- parts that ended alike with one between them ended alike
  pub alike_then : (x : Step S A) (y : Step R B) (z : Step Q C) → AlikeUnless excused₁ copies₁ on₁ val₁ x y → AlikeUnless excused₂ copies₂ on₂ val₂ y z → AlikeUnless (EitherExcused excused₁ excused₂) (Through copies₁ copies₂) (Through on₁ on₂) (Through val₁ val₂) x z
  alike_then (Went v t s) (Went w u r) (Went x p q) h k = ((w, h.0, k.0), record { events = h.1.events ∙ k.1.events; rest = h.1.rest ∙ k.1.rest; left = h.1.left ∙ k.1.left; made = (u.copies, h.1.made, k.1.made) }, (r, h.2, k.2))
  alike_then (Over e t) (Over f u) z (inl h) k = anything_then e t z (inl h)
  alike_then (Over e t) (Over f u) (Over g p) (inr h) (inl k) = anything_then e t (Over g p) (inr (subst excused₂ (sym h.0) k))
  alike_then (Over e t) (Over f u) (Over g p) (inr h) (inr k) = inr (h.0 ∙ k.0, record { events = h.1.events ∙ k.1.events; rest = h.1.rest ∙ k.1.rest; left = h.1.left ∙ k.1.left; made = (u.copies, h.1.made, k.1.made) })
  alike_then (Over e t) (Over f u) (Went x p q) (inr h) k = anything_then e t (Went x p q) (inr (subst excused₂ (sym h.0) k))
  alike_then (Went v t s) (Over f u) z h k = absurd h
  alike_then (Over e t) (Went w u r) z h k = anything_then e t z (inl h)
  alike_then (Went v t s) (Went w u r) (Over g p) h k = absurd k

  -- parts that go alike with one between them go alike
  pub follows_then : (a : Act S A) (b : Act R B) (c : Act Q C) → FollowsUnless excused₁ copies₁ on₁ val₁ a b → FollowsUnless excused₂ copies₂ on₂ val₂ b c → FollowsUnless (EitherExcused excused₁ excused₂) (Through copies₁ copies₂) (Through on₁ on₂) (Through val₁ val₂) a c
  follows_then a b c h k t p s q same o =
      let u : Trace = record t { copies = same.made.0 }
      in alike_then (a t s) (b u o.0) (c p q)
      (h t u s o.0 (record { events = refl; rest = refl; left = refl; made = same.made.1 }) o.1)
      (k u p o.0 q (record { events = same.events; rest = same.rest; left = same.left; made = same.made.2 }) o.2)
