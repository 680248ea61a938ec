-- What a turn, a loop and a call are, with no bound in them.
use Rattle.std.proofs.Common.{◌≡◌, ℕ, zero, suc, ◌+◌, ◌-◌, ◌≤◌, max, refl, sym, ap, ◌∙◌, Option, Bool, true, false, if◌then◌else◌, arith}
use Rattle.sl_run.specs.Run.{TurnsSpent, StackSpent, Trace, Step, Went, Over, Act, step_then, ◌>>=◌, ◌>>◌, turn, turn_at, passes, turn_within_at, turn_within, round_then, loop_within, loop, calls_within, calls}
use Rattle.sl_run.specs.Laws.{LeftAtMost, Agrees, Steady, TakesTurnAt, TakesTurn, Respects}
use Rattle.sl_run.proofs.Steady.{bind_agrees, round_then_agrees}

module _ {S A : Type 0} where
  -- a turn, where one is left
  pub turn_goes : (a : Act S A) (m : ℕ) (t : Trace) (s : S) → t.left ≡ suc m → (turn >> a) t s ≡ a (record t { left = m }) s
  turn_goes a m t s e = ap (λ k. step_then (turn_at k t s) (λ _. a)) e

  -- a turn, where none is left
  pub turn_stops : (a : Act S A) (t : Trace) (s : S) → t.left ≡ 0 → (turn >> a) t s ≡ Over TurnsSpent t
  turn_stops a t s e = ap (λ k. step_then (turn_at k t s) (λ _. a)) e

module _ {S : Type 0} where
  -- a turn of so many takes a turn
  turn_at_takes : (m : ℕ) (t : Trace) (s : S) → m ≡ t.left → TakesTurnAt t.left (turn_at m t s)
  turn_at_takes zero t s e = omega arith
  turn_at_takes (suc m) t s e = omega arith

  -- a turn takes a turn
  pub turn_takes : TakesTurn (turn {S = S})
  turn_takes = record { takes = λ t s. turn_at_takes t.left t s refl; stops = λ t s e. ap (λ k. turn_at k t s) e }

  -- what a test leads to
  if_takes : (left : ℕ) (b : Bool) (x y : Step S (Unit {0})) → TakesTurnAt left x → TakesTurnAt left y → TakesTurnAt left (if b then x else y)
  if_takes left true x y h k = h
  if_takes left false x y h k = k

  -- a turn of so many for a frame takes a turn
  turn_within_at_takes : (m : ℕ) (limit : Option ℕ) (live : ℕ) (t : Trace) (s : S) → m ≡ t.left → TakesTurnAt t.left (turn_within_at m limit live t s)
  turn_within_at_takes zero limit live t s e = omega arith
  turn_within_at_takes (suc m) limit live t s e = if_takes t.left (passes limit live) (Over StackSpent t) (Went tt (record t { left = m; peak = max t.peak live }) s) (omega arith) (omega arith)

  -- a turn for a frame takes a turn, where the state says how many bytes are live
  pub turn_within_by_takes : (limit : Option ℕ) (live : S → ℕ) → TakesTurn (λ (t : Trace) (s : S). turn_within limit (live s) t s)
  turn_within_by_takes limit live = record { takes = λ t s. turn_within_at_takes t.left limit (live s) t s refl; stops = λ t s e. ap (λ k. turn_within_at k limit (live s) t s) e }

  -- a turn for a frame takes a turn
  pub turn_within_takes : (limit : Option ℕ) (live : ℕ) → TakesTurn (turn_within {S = S} limit live)
  turn_within_takes limit live = turn_within_by_takes limit (λ _. live)

  -- what took a turn left no more than there were
  takes_left : (n left : ℕ) (x : Step S (Unit {0})) → TakesTurnAt left x → left ≤ n → LeftAtMost n x
  takes_left n left (Went x t s) h le = omega arith
  takes_left n left (Over e t) h le = omega arith

  -- what takes a turn gives none back
  pub takes_steady : (a : Act S (Unit {0})) → TakesTurn a → Steady a
  takes_steady a h n t s le = (refl, takes_left n t.left (a t s) (h.takes t s) le)

module _ {S A : Type 0} where
  -- a bound on what is left may be greater
  weaker : (n : ℕ) (x : Step S A) → LeftAtMost n x → LeftAtMost (suc n) x
  weaker n (Went x t s) h = omega arith
  weaker n (Over e t) h = omega arith

  -- what comes after a part that took a turn needs to agree only where fewer are left
  took_less : (n : ℕ) (a b : Act S A) → Agrees n a b → (left : ℕ) (x : Step S (Unit {0})) → TakesTurnAt left x → left ≤ suc n → (step_then x (λ _. a) ≡ step_then x (λ _. b)) × LeftAtMost (suc n) (step_then x (λ _. a))
  took_less n a b h left (Went v t s) e le =
      let x : (a t s ≡ b t s) × LeftAtMost n (a t s) = h t s (omega arith)
      in (x.0, weaker n (a t s) x.1)
  took_less n a b h left (Over f t) e le = (refl, omega arith)

  module _ (enter : Act S (Unit {0})) (h : TakesTurn enter) where
    -- where none is left, what comes first takes a turn and so is over
    none_left : (a : Act S A) (t : Trace) (s : S) → t.left ≤ 0 → Over TurnsSpent t ≡ (enter >> a) t s
    none_left a t s le = let e : t.left ≡ 0 = omega arith in sym (ap (λ x. step_then x (λ _. a)) (h.stops t s e))

    -- what comes after what takes a turn needs to agree only where fewer are left
    takes_less : (n : ℕ) (a b : Act S A) → Agrees n a b → Agrees (suc n) (enter >> a) (enter >> b)
    takes_less n a b k t s le = took_less n a b k t.left (enter t s) (h.takes t s) le

  -- something with a bound, which might as well be greater where no more turns are left: then it might as well be the
  -- turns left
  module _ (within : ℕ → Act S A) (more : (n : ℕ) → Agrees n (within n) (within (suc n))) where
    -- a bound that is so much greater than the turns left
    more_by : (k n : ℕ) (t : Trace) (s : S) → n ≡ t.left + k → within n t s ≡ within t.left t s
    more_by zero n t s e = let f : n ≡ t.left = omega arith in ap (λ n. within n t s) f
    more_by (suc k) n t s e =
        let f : n ≡ suc (t.left + k) = omega arith
        in ap (λ n. within n t s) f ∙ (sym (more (t.left + k) t s (omega arith)).0 ∙ more_by k (t.left + k) t s refl)

    -- and so any that is no less
    unbounded : (n : ℕ) → Agrees n (within n) (λ t s. within t.left t s)
    unbounded n t s le = (more_by (n - t.left) n t s (omega arith), (more n t s le).1)

module _ {S A : Type 0} (body : Act S (Option A)) (h : Steady body) where
  -- the body, and where it gives no value what comes after
  abbrev round : Act S A → Act S A
  round again = body >>= (λ given. round_then given again)

  -- a round agrees where what comes after it does
  round_agrees : (n : ℕ) (a b : Act S A) → Agrees n a b → Agrees n (round a) (round b)
  round_agrees n a b k = bind_agrees n body body (λ given. round_then given a) (λ given. round_then given b) (h n) (λ given. round_then_agrees n given a b k)

  -- the bound might as well be greater
  loop_more : (n : ℕ) → Agrees n (loop_within n body) (loop_within (suc n) body)
  loop_more zero t s le = (none_left turn turn_takes (round (loop_within zero body)) t s le, le)
  loop_more (suc n) t s le = takes_less turn turn_takes n (round (loop_within n body)) (round (loop_within (suc n) body)) (round_agrees n (loop_within n body) (loop_within (suc n) body) (loop_more n)) t s le

  -- the equation, with the turns left under another name
  loop_opens : (m : ℕ) (t : Trace) (s : S) → m ≡ t.left → loop_within m body t s ≡ (turn >> round (loop body)) t s
  loop_opens zero t s e = none_left turn turn_takes (round (loop body)) t s (omega arith)
  loop_opens (suc m) t s e =
      (takes_less turn turn_takes m (round (loop_within m body)) (round (loop body)) (round_agrees m (loop_within m body) (loop body) (unbounded (λ n. loop_within n body) loop_more m)) t s (omega arith)).0

  -- a loop is a turn, the body, and where that gives no value the loop again
  pub loop_is : loop body ≡ (turn >> (body >>= (λ given. round_then given (loop body))))
  loop_is = λ k t s. loop_opens t.left t s refl k

module _ {S F A B : Type 0} (enter : F → A → Act S (Unit {0})) (bodies : (F → A → Act S B) → F → A → Act S B) (entered : (f : F) (x : A) → TakesTurn (enter f x)) (h : Respects bodies) where
  -- the bound might as well be greater
  calls_more : (n : ℕ) (f : F) (x : A) → Agrees n (calls_within n enter bodies f x) (calls_within (suc n) enter bodies f x)
  calls_more zero f x t s le = (none_left (enter f x) (entered f x) (bodies (calls_within zero enter bodies) f x) t s le, le)
  calls_more (suc n) f x t s le =
      takes_less (enter f x) (entered f x) n (bodies (calls_within n enter bodies) f x) (bodies (calls_within (suc n) enter bodies) f x) (h n (calls_within n enter bodies) (calls_within (suc n) enter bodies) (calls_more n) f x) t s le

  -- the equation, with the turns left under another name
  calls_open : (m : ℕ) (f : F) (x : A) (t : Trace) (s : S) → m ≡ t.left → calls_within m enter bodies f x t s ≡ (enter f x >> bodies (calls enter bodies) f x) t s
  calls_open zero f x t s e = none_left (enter f x) (entered f x) (bodies (calls enter bodies) f x) t s (omega arith)
  calls_open (suc m) f x t s e =
      (takes_less (enter f x) (entered f x) m (bodies (calls_within m enter bodies) f x) (bodies (calls enter bodies) f x)
      (h m (calls_within m enter bodies) (calls enter bodies) (λ f x. unbounded (λ n. calls_within n enter bodies f x) (λ n. calls_more n f x) m) f x) t s (omega arith)).0

  -- a call is entering, and then what the bodies say, whose calls are such calls
  pub calls_are : (f : F) (x : A) → calls enter bodies f x ≡ (enter f x >> bodies (calls enter bodies) f x)
  calls_are f x = λ k t s. calls_open t.left f x t s refl k
