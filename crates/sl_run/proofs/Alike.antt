-- Parts of runs that go alike, put together, go alike.
use Rattle.std.proofs.Common.{◌≡◌, ℕ, zero, suc, ◌+◌, List, [], ◌∷◌, ◌++◌, Option, Some, None, refl, ap, ap₂, subst, inl, inr, add-zero, max, Bool, true, false, if◌then◌else◌}
use Rattle.sl_run.specs.Run.{Ending, TurnsSpent, StackSpent, Event, Puts, Asks, Trace, Step, Went, Over, Act, pure, over, step_then, ◌>>=◌, ◌>>◌, choose, put, put_all, first_of, rest_of, get, copy, turn_at, turn, passes, keep_within, turn_within_at, turn_within, round_then, loop_within, loop, calls_within, calls}
use Rattle.sl_run.specs.Alike.{SameSoFar, AlikeUnless, FollowsUnless, KeepsCopies, Same}

-- two rounds gave the like: both nothing, or related values
abbrev pub BothGive : {A B : Type 0} → (A → B → Type 0) → Option A → Option B → Type 0
BothGive val None None = Unit {0}
BothGive val (Some x) (Some y) = val x y
BothGive val None (Some y) = ⊥
BothGive val (Some x) None = ⊥

module _ {S R : Type 0} (excused : Ending → Type 0) (copies : ℕ → ℕ → Type 0) (on : S → R → Type 0) where
  -- where the first part is over in a way that is excused, anything goes alike with it
  pub excused_alike : {A B : Type 0} (val : A → B → Type 0) (e : Ending) (t : Trace) (y : Step R B) → excused e → AlikeUnless excused copies on val (Over e t) y
  excused_alike val e t (Went b u r) h = h
  excused_alike val e t (Over f u) h = inl h

  -- what comes after parts that ended alike
  pub then_alike : {A B C D : Type 0} (val : A → B → Type 0) (val' : C → D → Type 0) (x : Step S A) (y : Step R B) (go : A → Act S C) (go' : B → Act R D) → AlikeUnless excused copies on val x y → ((a : A) (b : B) → val a b → FollowsUnless excused copies on val' (go a) (go' b)) → AlikeUnless excused copies on val' (step_then x go) (step_then y go')
  then_alike val val' (Went a t s) (Went b u r) go go' h k = k a b h.0 t u s r h.1 h.2
  then_alike val val' (Over e t) (Over f u) go go' h k = h
  then_alike val val' (Went a t s) (Over f u) go go' h k = absurd h
  then_alike val val' (Over e t) (Went b u r) go go' h k = excused_alike val' e t (go' b u r) h

  -- one after another
  pub bind_follows : {A B C D : Type 0} (val : A → B → Type 0) (val' : C → D → Type 0) (a : Act S A) (b : Act R B) (go : A → Act S C) (go' : B → Act R D) → FollowsUnless excused copies on val a b → ((x : A) (y : B) → val x y → FollowsUnless excused copies on val' (go x) (go' y)) → FollowsUnless excused copies on val' (a >>= go) (b >>= go')
  bind_follows val val' a b go go' h k t u s r same o = then_alike val val' (a t s) (b u r) go go' (h t u s r same o) k

  -- nothing but related values
  pub pure_follows : {A B : Type 0} (val : A → B → Type 0) (x : A) (y : B) → val x y → FollowsUnless excused copies on val (pure x) (pure y)
  pure_follows val x y e t u s r same o = (e, same, o)

  -- runs that are over in the same way
  pub over_follows : {A B : Type 0} (val : A → B → Type 0) (e f : Ending) → e ≡ f → FollowsUnless excused copies on val (over e) (over f)
  over_follows val e f h t u s r same o = inr (h, same)

  -- one more event, the same on both sides
  one_more : (e f : Event) → e ≡ f → (t u : Trace) → SameSoFar copies t u → SameSoFar copies (record t { events = t.events ++ e ∷ [] }) (record u { events = u.events ++ f ∷ [] })
  one_more e f h t u same = record { events = ap₂ (λ es x. es ++ x ∷ []) same.events h; rest = same.rest; left = same.left; made = same.made }

  -- a byte that is put
  pub put_follows : (b c : ℕ) → b ≡ c → FollowsUnless excused copies on Same (put b) (put c)
  put_follows b c h t u s r same o = (refl, one_more (Puts b) (Puts c) (ap Puts h) t u same, o)

  -- the same bytes that are put
  put_all_follows_same : (bs : List ℕ) → FollowsUnless excused copies on Same (put_all bs) (put_all bs)
  put_all_follows_same [] = pure_follows Same tt tt refl
  put_all_follows_same (b ∷ bs) = bind_follows Same Same (put b) (put b) (λ _. put_all bs) (λ _. put_all bs) (put_follows b b refl) (λ x y e. put_all_follows_same bs)

  -- bytes that are put
  pub put_all_follows : (bs cs : List ℕ) → bs ≡ cs → FollowsUnless excused copies on Same (put_all bs) (put_all cs)
  put_all_follows bs cs h = subst (λ cs. FollowsUnless excused copies on Same (put_all bs) (put_all cs)) h (put_all_follows_same bs)

  -- a byte that is asked for: both get the same, or both get none
  pub get_follows : FollowsUnless excused copies on Same get get
  get_follows t u s r same o =
      let asked : SameSoFar copies (record t { events = t.events ++ Asks ∷ [] }) (record u { events = u.events ++ Asks ∷ [] }) = one_more Asks Asks refl t u same
      in (ap first_of same.rest, record { events = asked.events; rest = ap rest_of same.rest; left = same.left; made = same.made }, o)

  -- copies that are made, where so many on one side and so many on the other keep the relation of copies
  pub copy_follows : (m n : ℕ) → KeepsCopies copies m n → FollowsUnless excused copies on Same (copy m) (copy n)
  copy_follows m n h t u s r same o = (refl, record { events = same.events; rest = same.rest; left = same.left; made = h t.copies u.copies same.made }, o)

  -- copies that are made on the first side alone
  pub copy_before_follows : {A B : Type 0} (val : A → B → Type 0) (m : ℕ) (a : Act S A) (b : Act R B) → KeepsCopies copies m 0 → FollowsUnless excused copies on val a b → FollowsUnless excused copies on val (copy m >> a) b
  copy_before_follows val m a b h k t u s r same o =
      k (record t { copies = t.copies + m }) u s r (record { events = same.events; rest = same.rest; left = same.left; made = subst (copies (t.copies + m)) (add-zero u.copies) (h t.copies u.copies same.made) }) o

  -- copies that are made on the second side alone
  pub before_copy_follows : {A B : Type 0} (val : A → B → Type 0) (n : ℕ) (a : Act S A) (b : Act R B) → KeepsCopies copies 0 n → FollowsUnless excused copies on val a b → FollowsUnless excused copies on val a (copy n >> b)
  before_copy_follows val n a b h k t u s r same o =
      k t (record u { copies = u.copies + n }) s r (record { events = same.events; rest = same.rest; left = same.left; made = subst (λ x. copies x (u.copies + n)) (add-zero t.copies) (h t.copies u.copies same.made) }) o

  -- a turn of so many
  turn_at_follows : (n : ℕ) (t u : Trace) (s : S) (r : R) → SameSoFar copies t u → on s r → AlikeUnless excused copies on (Same {A = Unit {0}}) (turn_at n t s) (turn_at n u r)
  turn_at_follows zero t u s r same o = inr (refl, same)
  turn_at_follows (suc n) t u s r same o = (refl, record { events = same.events; rest = same.rest; left = refl; made = same.made }, o)

  -- a turn
  pub turn_follows : FollowsUnless excused copies on Same turn turn
  turn_follows t u s r same o = subst (λ n. AlikeUnless excused copies on (Same {A = Unit {0}}) (turn_at t.left t s) (turn_at n u r)) same.left (turn_at_follows t.left t u s r same o)

  -- one of two
  pub choose_follows : {A B : Type 0} (val : A → B → Type 0) (c d : Bool) (x y : Act S A) (x' y' : Act R B) → c ≡ d → FollowsUnless excused copies on val x x' → FollowsUnless excused copies on val y y' → FollowsUnless excused copies on val (choose c x y) (choose d x' y')
  choose_follows val c d x y x' y' e h k = subst (λ d. FollowsUnless excused copies on val (choose c x y) (choose d x' y')) e (at c)
    where
      at : (c : Bool) → FollowsUnless excused copies on val (choose c x y) (choose c x' y')
      at true = h
      at false = k

  -- what a test leads to
  if_alike : {A B : Type 0} (val : A → B → Type 0) (c d : Bool) (x y : Step S A) (x' y' : Step R B) → c ≡ d → AlikeUnless excused copies on val x x' → AlikeUnless excused copies on val y y' → AlikeUnless excused copies on val (if c then x else y) (if d then x' else y')
  if_alike val c d x y x' y' e h k = subst (λ d. AlikeUnless excused copies on val (if c then x else y) (if d then x' else y')) e (at c)
    where
      at : (c : Bool) → AlikeUnless excused copies on val (if c then x else y) (if c then x' else y')
      at true = h
      at false = k

  -- live bytes that pass the limit of the stack on both sides, or on neither
  pub keep_within_follows : (limit limit' : Option ℕ) (live live' : ℕ) → limit ≡ limit' → live ≡ live' → FollowsUnless excused copies on Same (keep_within limit live) (keep_within limit' live')
  keep_within_follows limit limit' live live' h k t u s r same o =
      if_alike (Same {A = Unit {0}}) (passes limit live) (passes limit' live') (Over StackSpent t) (Went tt (record t { peak = max t.peak live }) s) (Over StackSpent u) (Went tt (record u { peak = max u.peak live' }) r) (ap₂ passes h k)
      (inr (refl, same))
      (refl, record { events = same.events; rest = same.rest; left = same.left; made = same.made }, o)

  -- a turn of so many, for a frame
  turn_within_at_follows : (n : ℕ) (limit limit' : Option ℕ) (live live' : ℕ) → limit ≡ limit' → live ≡ live' → (t u : Trace) (s : S) (r : R) → SameSoFar copies t u → on s r → AlikeUnless excused copies on (Same {A = Unit {0}}) (turn_within_at n limit live t s) (turn_within_at n limit' live' u r)
  turn_within_at_follows zero limit limit' live live' h k t u s r same o = inr (refl, same)
  turn_within_at_follows (suc n) limit limit' live live' h k t u s r same o =
      if_alike (Same {A = Unit {0}}) (passes limit live) (passes limit' live') (Over StackSpent t) (Went tt (record t { left = n; peak = max t.peak live }) s) (Over StackSpent u) (Went tt (record u { left = n; peak = max u.peak live' }) r) (ap₂ passes h k)
      (inr (refl, same))
      (refl, record { events = same.events; rest = same.rest; left = refl; made = same.made }, o)

  -- a turn for a frame, with the same limit and as many live bytes on both sides
  pub turn_within_follows : (limit limit' : Option ℕ) (live live' : ℕ) → limit ≡ limit' → live ≡ live' → FollowsUnless excused copies on Same (turn_within limit live) (turn_within limit' live')
  turn_within_follows limit limit' live live' h k t u s r same o = subst (λ n. AlikeUnless excused copies on (Same {A = Unit {0}}) (turn_within_at t.left limit live t s) (turn_within_at n limit' live' u r)) same.left (turn_within_at_follows t.left limit limit' live live' h k t u s r same o)

  -- a turn of so many, and one for a frame with no limit
  turn_at_follows_within : (n live : ℕ) (t u : Trace) (s : S) (r : R) → SameSoFar copies t u → on s r → AlikeUnless excused copies on (Same {A = Unit {0}}) (turn_at n t s) (turn_within_at n None live u r)
  turn_at_follows_within zero live t u s r same o = inr (refl, same)
  turn_at_follows_within (suc n) live t u s r same o = (refl, record { events = same.events; rest = same.rest; left = refl; made = same.made }, o)

  -- a turn, and one for a frame with no limit
  pub turn_follows_within : (live : ℕ) → FollowsUnless excused copies on Same turn (turn_within None live)
  turn_follows_within live t u s r same o = subst (λ n. AlikeUnless excused copies on (Same {A = Unit {0}}) (turn_at t.left t s) (turn_within_at n None live u r)) same.left (turn_at_follows_within t.left live t u s r same o)

  module _ {A B : Type 0} (val : A → B → Type 0) where
    -- what loops do after two such rounds
    pub round_then_follows : (given : Option A) (given' : Option B) (again : Act S A) (again' : Act R B) → BothGive val given given' → FollowsUnless excused copies on val again again' → FollowsUnless excused copies on val (round_then given again) (round_then given' again')
    round_then_follows None None again again' e h = h
    round_then_follows (Some x) (Some y) again again' e h = pure_follows val x y e
    round_then_follows None (Some y) again again' e h = absurd e
    round_then_follows (Some x) None again again' e h = absurd e

    -- loops with a bound
    loop_within_follows : (n : ℕ) (a : Act S (Option A)) (b : Act R (Option B)) → FollowsUnless excused copies on (BothGive val) a b → FollowsUnless excused copies on val (loop_within n a) (loop_within n b)
    loop_within_follows zero a b h = over_follows val TurnsSpent TurnsSpent refl
    loop_within_follows (suc n) a b h =
        bind_follows Same val turn turn _ _ turn_follows (λ _ _ _.
        bind_follows (BothGive val) val a b _ _ h (λ given given' e.
        round_then_follows given given' (loop_within n a) (loop_within n b) e (loop_within_follows n a b h)))

    -- loops, whose rounds go alike
    pub loop_follows : (a : Act S (Option A)) (b : Act R (Option B)) → FollowsUnless excused copies on (BothGive val) a b → FollowsUnless excused copies on val (loop a) (loop b)
    loop_follows a b h t u s r same o = subst (λ n. AlikeUnless excused copies on val (loop_within t.left a t s) (loop_within n b u r)) same.left (loop_within_follows t.left a b h t u s r same o)

-- the two sides may name functions and arguments differently, and how states and values are related may depend on the call, by a w
module _ {S R : Type 0} (excused : Ending → Type 0) (copies : ℕ → ℕ → Type 0) {W F G A B C D : Type 0} (on : W → S → R → Type 0) (starts : W → F → A → G → B → Type 0) (val : W → C → D → Type 0) where
  module _ (enter : F → A → Act S (Unit {0})) (enter' : G → B → Act R (Unit {0})) (bodies : (F → A → Act S C) → F → A → Act S C) (bodies' : (G → B → Act R D) → G → B → Act R D) (entered : (w : W) (f : F) (x : A) (g : G) (y : B) → starts w f x g y → FollowsUnless excused copies (on w) Same (enter f x) (enter' g y)) (h : (call : F → A → Act S C) (call' : G → B → Act R D) → ((w : W) (f : F) (x : A) (g : G) (y : B) → starts w f x g y → FollowsUnless excused copies (on w) (val w) (call f x) (call' g y)) → (w : W) (f : F) (x : A) (g : G) (y : B) → starts w f x g y → FollowsUnless excused copies (on w) (val w) (bodies call f x) (bodies' call' g y)) where
    -- calls with a bound
    calls_within_follow : (n : ℕ) (w : W) (f : F) (x : A) (g : G) (y : B) → starts w f x g y → FollowsUnless excused copies (on w) (val w) (calls_within n enter bodies f x) (calls_within n enter' bodies' g y)
    calls_within_follow zero w f x g y e = over_follows excused copies (on w) (val w) TurnsSpent TurnsSpent refl
    calls_within_follow (suc n) w f x g y e =
        bind_follows excused copies (on w) Same (val w) (enter f x) (enter' g y) _ _ (entered w f x g y e) (λ _ _ _.
        h (calls_within n enter bodies) (calls_within n enter' bodies') (calls_within_follow n) w f x g y e)

    -- calls, which are entered alike and whose bodies go alike where what calls do goes alike
    pub calls_follow : (w : W) (f : F) (x : A) (g : G) (y : B) → starts w f x g y → FollowsUnless excused copies (on w) (val w) (calls enter bodies f x) (calls enter' bodies' g y)
    calls_follow w f x g y e t u s r same o = subst (λ n. AlikeUnless excused copies (on w) (val w) (calls_within t.left enter bodies f x t s) (calls_within n enter' bodies' g y u r)) same.left (calls_within_follow t.left w f x g y e t u s r same o)
