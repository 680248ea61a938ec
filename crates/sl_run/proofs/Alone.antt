-- What doesn't look at the events so far, put together, doesn't either.
use Rattle.std.proofs.Common.{◌≡◌, ℕ, zero, suc, List, [], ◌∷◌, Option, Some, None, refl, ap, ◌∙◌, max, Bool, true, false, if◌then◌else◌, append_assoc}
use Rattle.sl_run.specs.Run.{Ending, TurnsSpent, StackSpent, Event, Trace, Step, Went, Over, Act, pure, over, step_then, ◌>>=◌, choose, put, put_all, first_of, rest_of, get, copy, turn, turn_at, passes, keep_within, turn_within_at, turn_within, round_then, loop_within, loop, calls_within, calls}
use Rattle.sl_run.specs.Laws.{after_events, step_after, Alone}

module _ {S : Type 0} where
  -- what comes after a part that ended so
  then_alone : {A B : Type 0} (earlier : List Event) (x : Step S A) (go : A → Act S B) → ((x : A) → Alone (go x)) → step_then (step_after earlier x) go ≡ step_after earlier (step_then x go)
  then_alone earlier (Went x t s) go h = h x earlier t s
  then_alone earlier (Over e t) go h = refl

  -- one after another
  pub bind_alone : {A B : Type 0} (a : Act S A) (go : A → Act S B) → Alone a → ((x : A) → Alone (go x)) → Alone (a >>= go)
  bind_alone a go h k earlier t s = ap (λ x. step_then x go) (h earlier t s) ∙ then_alone earlier (a t s) go k

  -- nothing but a value
  pub pure_alone : {A : Type 0} (x : A) → Alone (pure {S = S} x)
  pure_alone x earlier t s = refl

  -- a run that is over
  pub over_alone : {A : Type 0} (e : Ending) → Alone (over {S = S} {A = A} e)
  over_alone e earlier t s = refl

  -- a byte that is put
  pub put_alone : (b : ℕ) → Alone (put {S = S} b)
  put_alone b earlier t s = ap (λ es. Went tt (record t { events = es }) s) (append_assoc earlier t.events _)

  -- bytes that are put
  pub put_all_alone : (bs : List ℕ) → Alone (put_all {S = S} bs)
  put_all_alone [] = pure_alone tt
  put_all_alone (b ∷ bs) = bind_alone (put b) _ (put_alone b) (λ _. put_all_alone bs)

  -- a byte that is asked for
  pub get_alone : Alone (get {S = S})
  get_alone earlier t s = ap (λ es. Went (first_of t.rest) (record t { events = es; rest = rest_of t.rest }) s) (append_assoc earlier t.events _)

  -- copies that are made
  pub copy_alone : (n : ℕ) → Alone (copy {S = S} n)
  copy_alone n earlier t s = refl

  -- a turn of so many
  turn_at_alone : (n : ℕ) (earlier : List Event) (t : Trace) (s : S) → turn_at n (after_events earlier t) s ≡ step_after earlier (turn_at n t s)
  turn_at_alone zero earlier t s = refl
  turn_at_alone (suc n) earlier t s = refl

  -- a turn
  pub turn_alone : Alone (turn {S = S})
  turn_alone earlier t s = turn_at_alone t.left earlier t s

  -- one of two
  pub choose_alone : {A : Type 0} (b : Bool) (x y : Act S A) → Alone x → Alone y → Alone (choose b x y)
  choose_alone true x y h k = h
  choose_alone false x y h k = k

  -- what a test leads to
  if_alone : {A : Type 0} (earlier : List Event) (b : Bool) (x y : Step S A) → (if b then step_after earlier x else step_after earlier y) ≡ step_after earlier (if b then x else y)
  if_alone earlier true x y = refl
  if_alone earlier false x y = refl

  -- live bytes that are kept within the limit of the stack
  pub keep_within_alone : (limit : Option ℕ) (live : ℕ) → Alone (keep_within {S = S} limit live)
  keep_within_alone limit live earlier t s = if_alone earlier (passes limit live) (Over StackSpent t) (Went tt (record t { peak = max t.peak live }) s)

  -- a turn of so many, for a frame
  turn_within_at_alone : (n : ℕ) (limit : Option ℕ) (live : ℕ) (earlier : List Event) (t : Trace) (s : S) → turn_within_at n limit live (after_events earlier t) s ≡ step_after earlier (turn_within_at n limit live t s)
  turn_within_at_alone zero limit live earlier t s = refl
  turn_within_at_alone (suc n) limit live earlier t s = if_alone earlier (passes limit live) (Over StackSpent t) (Went tt (record t { left = n; peak = max t.peak live }) s)

  -- a turn for a frame
  pub turn_within_alone : (limit : Option ℕ) (live : ℕ) → Alone (turn_within {S = S} limit live)
  turn_within_alone limit live earlier t s = turn_within_at_alone t.left limit live earlier t s

  -- a turn for a frame, where the state says how many bytes are live
  pub turn_within_by_alone : (limit : Option ℕ) (live : S → ℕ) → Alone (λ (t : Trace) (s : S). turn_within limit (live s) t s)
  turn_within_by_alone limit live earlier t s = turn_within_alone limit (live s) earlier t s

  -- what a loop does after a round
  pub round_then_alone : {A : Type 0} (given : Option A) (again : Act S A) → Alone again → Alone (round_then given again)
  round_then_alone None again h = h
  round_then_alone (Some x) again h = pure_alone x

  -- a loop with a bound
  loop_within_alone : {A : Type 0} (n : ℕ) (body : Act S (Option A)) → Alone body → Alone (loop_within n body)
  loop_within_alone zero body h = over_alone TurnsSpent
  loop_within_alone (suc n) body h = bind_alone turn _ turn_alone (λ _. bind_alone body _ h (λ given. round_then_alone given (loop_within n body) (loop_within_alone n body h)))

  -- a loop
  pub loop_alone : {A : Type 0} (body : Act S (Option A)) → Alone body → Alone (loop body)
  loop_alone body h earlier t s = loop_within_alone t.left body h earlier t s

  module _ {F A B : Type 0} (enter : F → A → Act S (Unit {0})) (bodies : (F → A → Act S B) → F → A → Act S B) (entered : (f : F) (x : A) → Alone (enter f x)) (h : (call : F → A → Act S B) → ((f : F) (x : A) → Alone (call f x)) → (f : F) (x : A) → Alone (bodies call f x)) where
    -- a call with a bound
    calls_within_alone : (n : ℕ) (f : F) (x : A) → Alone (calls_within n enter bodies f x)
    calls_within_alone zero f x = over_alone TurnsSpent
    calls_within_alone (suc n) f x = bind_alone (enter f x) _ (entered f x) (λ _. h (calls_within n enter bodies) (calls_within_alone n) f x)

    -- a call
    pub calls_alone : (f : F) (x : A) → Alone (calls enter bodies f x)
    calls_alone f x earlier t s = calls_within_alone t.left f x earlier t s
