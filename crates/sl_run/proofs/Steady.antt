-- What agrees where few turns are left, put together, agrees there too. With the same on both sides: what gives no turn
-- back, put together, gives none back.
use Rattle.std.proofs.Common.{◌≡◌, ℕ, zero, suc, ◌≤◌, List, [], ◌∷◌, Option, Some, None, refl, ap, ap₂, ◌∙◌, max, Bool, true, false, if◌then◌else◌, arith}
use Rattle.sl_run.specs.Run.{Ending, StackSpent, TurnsSpent, Trace, Step, Went, Over, Act, pure, over, step_then, ◌>>=◌, choose, put, put_all, get, copy, turn, turn_at, passes, keep_within, turn_within_at, turn_within, round_then, loop_within, loop, calls_within, calls}
use Rattle.sl_run.specs.Laws.{LeftAtMost, Agrees, Steady, Respects}

module _ {S : Type 0} where
  -- what comes after a part that ended so
  then_agrees : {A B : Type 0} (n : ℕ) (x : Step S A) (go go' : A → Act S B) → LeftAtMost n x → ((x : A) → Agrees n (go x) (go' x)) → (step_then x go ≡ step_then x go') × LeftAtMost n (step_then x go)
  then_agrees n (Went x t s) go go' h k = k x t s h
  then_agrees n (Over e t) go go' h k = (refl, h)

  -- one after another
  pub bind_agrees : {A B : Type 0} (n : ℕ) (a a' : Act S A) (go go' : A → Act S B) → Agrees n a a' → ((x : A) → Agrees n (go x) (go' x)) → Agrees n (a >>= go) (a' >>= go')
  bind_agrees n a a' go go' h k t s le =
      let x : (step_then (a t s) go ≡ step_then (a t s) go') × LeftAtMost n (step_then (a t s) go) = then_agrees n (a t s) go go' (h t s le).1 k
      in (x.0 ∙ ap (λ y. step_then y go') (h t s le).0, x.1)

  -- nothing but a value
  pub pure_agrees : {A : Type 0} (n : ℕ) (x : A) → Agrees {S = S} n (pure x) (pure x)
  pure_agrees n x t s le = (refl, le)

  -- a run that is over
  pub over_agrees : {A : Type 0} (n : ℕ) (e : Ending) → Agrees {S = S} {A = A} n (over e) (over e)
  over_agrees n e t s le = (refl, le)

  -- a byte that is put
  pub put_agrees : (n b : ℕ) → Agrees {S = S} n (put b) (put b)
  put_agrees n b t s le = (refl, le)

  -- bytes that are put
  pub put_all_agrees : (n : ℕ) (bs : List ℕ) → Agrees {S = S} n (put_all bs) (put_all bs)
  put_all_agrees n [] = pure_agrees n tt
  put_all_agrees n (b ∷ bs) = bind_agrees n (put b) (put b) (λ _. put_all bs) (λ _. put_all bs) (put_agrees n b) (λ _. put_all_agrees n bs)

  -- a byte that is asked for
  pub get_agrees : (n : ℕ) → Agrees {S = S} n get get
  get_agrees n t s le = (refl, le)

  -- copies that are made
  pub copy_agrees : (n m : ℕ) → Agrees {S = S} n (copy m) (copy m)
  copy_agrees n m t s le = (refl, le)

  -- one of two
  pub choose_agrees : {A : Type 0} (n : ℕ) (b : Bool) (x y x' y' : Act S A) → Agrees n x x' → Agrees n y y' → Agrees n (choose b x y) (choose b x' y')
  choose_agrees n true x y x' y' h k = h
  choose_agrees n false x y x' y' h k = k

  -- what a test leads to
  if_left : {A : Type 0} (n : ℕ) (b : Bool) (x y : Step S A) → LeftAtMost n x → LeftAtMost n y → LeftAtMost n (if b then x else y)
  if_left n true x y h k = h
  if_left n false x y h k = k

  -- live bytes that are kept within the limit of the stack, where both sides have the same limit and as many live bytes
  pub keep_within_agrees : (n : ℕ) (limit limit' : Option ℕ) (live live' : ℕ) → limit ≡ limit' → live ≡ live' → Agrees {S = S} n (keep_within limit live) (keep_within limit' live')
  keep_within_agrees n limit limit' live live' e f t s le =
      (ap₂ (λ limit live. keep_within limit live t s) e f, if_left n (passes limit live) (Over StackSpent t) (Went tt (record t { peak = max t.peak live }) s) le le)

  -- a turn of so many
  turn_at_agrees : (n m : ℕ) (t : Trace) (s : S) → m ≡ t.left → t.left ≤ n → LeftAtMost n (turn_at m t s)
  turn_at_agrees n zero t s e le = le
  turn_at_agrees n (suc m) t s e le = omega arith

  -- a turn
  pub turn_agrees : (n : ℕ) → Agrees {S = S} n turn turn
  turn_agrees n t s le = (refl, turn_at_agrees n t.left t s refl le)

  -- a turn of so many, for a frame
  turn_within_at_agrees : (n m : ℕ) (limit : Option ℕ) (live : ℕ) (t : Trace) (s : S) → m ≡ t.left → t.left ≤ n → LeftAtMost n (turn_within_at m limit live t s)
  turn_within_at_agrees n zero limit live t s e le = le
  turn_within_at_agrees n (suc m) limit live t s e le = if_left n (passes limit live) (Over StackSpent t) (Went tt (record t { left = m; peak = max t.peak live }) s) le (omega arith)

  -- a turn for a frame, where both sides have the same limit and as many live bytes
  pub turn_within_agrees : (n : ℕ) (limit limit' : Option ℕ) (live live' : ℕ) → limit ≡ limit' → live ≡ live' → Agrees {S = S} n (turn_within limit live) (turn_within limit' live')
  turn_within_agrees n limit limit' live live' e f t s le =
      (ap₂ (λ limit live. turn_within limit live t s) e f, turn_within_at_agrees n t.left limit live t s refl le)

  -- a turn for a frame, where the state says how many bytes are live
  pub turn_within_by_agrees : (n : ℕ) (limit limit' : Option ℕ) (live live' : S → ℕ) → limit ≡ limit' → ((s : S) → live s ≡ live' s) → Agrees {S = S} n (λ t s. turn_within limit (live s) t s) (λ t s. turn_within limit' (live' s) t s)
  turn_within_by_agrees n limit limit' live live' e f t s le = turn_within_agrees n limit limit' (live s) (live' s) e (f s) t s le

  -- what a loop does after a round
  pub round_then_agrees : {A : Type 0} (n : ℕ) (given : Option A) (again again' : Act S A) → Agrees n again again' → Agrees n (round_then given again) (round_then given again')
  round_then_agrees n None again again' h = h
  round_then_agrees n (Some x) again again' h = pure_agrees n x

  -- a loop with a bound
  loop_within_agrees : {A : Type 0} (k n : ℕ) (a b : Act S (Option A)) → Agrees n a b → Agrees n (loop_within k a) (loop_within k b)
  loop_within_agrees zero n a b h = over_agrees n TurnsSpent
  loop_within_agrees (suc k) n a b h =
      bind_agrees n turn turn (λ _. a >>= (λ given. round_then given (loop_within k a))) (λ _. b >>= (λ given. round_then given (loop_within k b))) (turn_agrees n) (λ _.
      bind_agrees n a b (λ given. round_then given (loop_within k a)) (λ given. round_then given (loop_within k b)) h (λ given.
      round_then_agrees n given (loop_within k a) (loop_within k b) (loop_within_agrees k n a b h)))

  -- a loop
  pub loop_agrees : {A : Type 0} (n : ℕ) (a b : Act S (Option A)) → Agrees n a b → Agrees n (loop a) (loop b)
  loop_agrees n a b h t s le = loop_within_agrees t.left n a b h t s le

module _ {S F A B : Type 0} (n : ℕ) (enter : F → A → Act S (Unit {0})) (bodies bodies' : (F → A → Act S B) → F → A → Act S B) (entered : (f : F) (x : A) → Steady (enter f x)) (h : (call call' : F → A → Act S B) → ((f : F) (x : A) → Agrees n (call f x) (call' f x)) → (f : F) (x : A) → Agrees n (bodies call f x) (bodies' call' f x)) where
  -- calls with a bound
  calls_within_agree : (k : ℕ) (f : F) (x : A) → Agrees n (calls_within k enter bodies f x) (calls_within k enter bodies' f x)
  calls_within_agree zero f x = over_agrees n TurnsSpent
  calls_within_agree (suc k) f x =
      bind_agrees n (enter f x) (enter f x) (λ _. bodies (calls_within k enter bodies) f x) (λ _. bodies' (calls_within k enter bodies') f x) (entered f x n) (λ _.
      h (calls_within k enter bodies) (calls_within k enter bodies') (calls_within_agree k) f x)

  -- calls, whose bodies agree where what calls do agrees
  pub calls_agree : (f : F) (x : A) → Agrees n (calls enter bodies f x) (calls enter bodies' f x)
  calls_agree f x t s le = calls_within_agree t.left f x t s le

-- what a body does, where no call gives a turn back
pub bodies_steady : {S F A B : Type 0} (bodies : (F → A → Act S B) → F → A → Act S B) → Respects bodies → (call : F → A → Act S B) → ((f : F) (x : A) → Steady (call f x)) → (f : F) (x : A) → Steady (bodies call f x)
bodies_steady bodies h call k f x n = h n call call (λ f x. k f x n) f x

-- a call
pub calls_steady : {S F A B : Type 0} (enter : F → A → Act S (Unit {0})) (bodies : (F → A → Act S B) → F → A → Act S B) → ((f : F) (x : A) → Steady (enter f x)) → Respects bodies → (f : F) (x : A) → Steady (calls enter bodies f x)
calls_steady enter bodies entered h f x n = calls_agree n enter bodies bodies entered (h n) f x
