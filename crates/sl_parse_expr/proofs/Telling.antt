-- What is told of a whole follows from what is told of its parts.
use Rattle.std.proofs.Common.{◌≡◌, ℕ, suc, ◌<◌, ◌≤◌, List, [], ◌∷◌, length, map, get_or, refl, sym, ap, ◌∙◌, inl, inr, ◌⊎◌, Bool, true, false, if◌then◌else◌, arith, length-append}
use Rattle.std.specs.declared.result.Result.{Result}
use Rattle.std.specs.declared.result.Result.TheVariants.{Err}
use Rattle.std.specs.Result.{IsErrAnd}
use Rattle.std.proofs.lemmas.Result.{err_from_is_err_and}
use Rattle.sl_text.specs.declared.token.Token.{Token as TokenOf}
use Rattle.sl_grammar.specs.Phrase.{Found, Done, Stopped, IsRead, found_then, read_both, read_either, read_token}
use Rattle.sl_grammar.specs.Law.{found_as, read_then}
use Rattle.sl_grammar.specs.Guard.{guard}
use Rattle.sl_grammar.specs.Grammar.{is, has, and}
use Rattle.sl_grammar.specs.Growing.{grown}
use Rattle.sl_grammar.proofs.Growing.{grown_end, grown_shut, grown_other, grown_stops, grown_step}
use Rattle.std.specs.Prelude.{eqb}
use Rattle.std.proofs.lemmas.Bool.{eq-eqb, ne_eqb}
use Rattle.std.proofs.Math.Seq.{drop-cons}
use Rattle.sl_tree.specs.Sorts.{Spelled, spelled, sort}
use Rattle.sl_parse_expr.specs.declared.tokens.Stop.{Stop}
use Rattle.sl_parse_expr.specs.declared.tokens.Stop.TheVariants as stop
use Rattle.sl_parse_expr.specs.Told.{behind, head_sort, TellsToken, Tells, TellsThree}

-- what was found, seen as something else: back and forth

pub as_done : {K X Y : Type 0} (f : X → Y) (x : Found K X) (y : Y) (rest : List K) → found_as f x ≡ Done y rest → (v : X) × (x ≡ Done v rest) × (f v ≡ y)
as_done f (Done v left) y rest e = (v, cc, cc)
as_done f (Stopped left) y rest e = absurd cc

pub as_stopped : {K X Y : Type 0} (f : X → Y) (x : Found K X) (rest : List K) → found_as f x ≡ Stopped rest → x ≡ Stopped rest
as_stopped f (Done v left) rest e = absurd cc
as_stopped f (Stopped left) rest e = cc

pub done_as : {K X Y : Type 0} (f : X → Y) (x : Found K X) (v : X) (rest : List K) → x ≡ Done v rest → found_as f x ≡ Done (f v) rest
done_as f x v rest e = ap (found_as f) e

pub stopped_as : {K X Y : Type 0} (f : X → Y) (x : Found K X) (rest : List K) → x ≡ Stopped rest → found_as f x ≡ Stopped rest
stopped_as f x rest e = ap (found_as f) e

-- and gone on from

pub then_done : {K X Y : Type 0} (x : Found K X) (go : X → List K → Found K Y) (v : X) (rest : List K) → x ≡ Done v rest → found_then x go ≡ go v rest
then_done x go v rest e = ap (λ y. found_then y go) e

pub then_stopped : {K X Y : Type 0} (x : Found K X) (go : X → List K → Found K Y) (rest : List K) → x ≡ Stopped rest → found_then x go ≡ Stopped rest
then_stopped x go rest e = ap (λ y. found_then y go) e

-- what is found last of a phrase is seen as the whole
pub tail_as : {K X Y : Type 0} (f : X → Y) (x : Found K X) → found_then x (λ y left. Done (f y) left) ≡ found_as f x
tail_as f (Done v rest) = refl
tail_as f (Stopped rest) = refl

-- one after the other
module _ {K X Y : Type 0} (l : List K → Found K X) (m : List K → Found K Y) (ts : List K) where
  pub both_go : (x : X) (rest : List K) → l ts ≡ Done x rest → read_both l m ts ≡ found_as (λ y. (x, y)) (m rest)
  both_go x rest e = let pair : Y → X × Y = λ y. (x, y) in then_done (l ts) (λ x rest. found_then {Y = X × Y} (m rest) (λ y left. Done (x, y) left)) x rest e ∙ tail_as pair (m rest)

  pub both_first : (rest : List K) → l ts ≡ Stopped rest → read_both l m ts ≡ Stopped rest
  both_first rest e = then_stopped (l ts) (λ x rest. found_then {Y = X × Y} (m rest) (λ y left. Done (x, y) left)) rest e

  pub both_done : (x : X) (rest : List K) (y : Y) (left : List K) → l ts ≡ Done x rest → m rest ≡ Done y left → read_both l m ts ≡ Done (x, y) left
  both_done x rest y left e d = let pair : Y → X × Y = λ y. (x, y) in both_go x rest e ∙ ap (found_as pair) d

  pub both_second : (x : X) (rest left : List K) → l ts ≡ Done x rest → m rest ≡ Stopped left → read_both l m ts ≡ Stopped left
  both_second x rest left e d = let pair : Y → X × Y = λ y. (x, y) in both_go x rest e ∙ ap (found_as pair) d

-- one after the other, where the first decides what the second is
module _ {K X Y : Type 0} (l : List K → Found K X) (m : X → List K → Found K Y) (ts : List K) where
  pub then_go : (x : X) (rest : List K) → l ts ≡ Done x rest → read_then l m ts ≡ found_as (λ y. (x, y)) (m x rest)
  then_go x rest e = let pair : Y → X × Y = λ y. (x, y) in then_done (l ts) (λ x rest. found_then {Y = X × Y} (m x rest) (λ y left. Done (x, y) left)) x rest e ∙ tail_as pair (m x rest)

  pub then_first : (rest : List K) → l ts ≡ Stopped rest → read_then l m ts ≡ Stopped rest
  then_first rest e = then_stopped (l ts) (λ x rest. found_then {Y = X × Y} (m x rest) (λ y left. Done (x, y) left)) rest e

-- one or the other, by the sort of the first token; 99 is the sort of none
module _ {X Y : Type 0} (ks : List ℕ) (l : List Spelled → Found Spelled X) (m : List Spelled → Found Spelled Y) where
  pub either_left : (ts : List Spelled) → has ks 99 ≡ false → has ks (head_sort ts) ≡ true → read_either (is sort ks) l m ts ≡ found_as inl (l ts)
  either_left [] n h = absurd cc
  either_left (k ∷ ts) n h = rw (h) (tail_as inl (l (k ∷ ts)))

  pub either_right : (ts : List Spelled) → has ks (head_sort ts) ≡ false → read_either (is sort ks) l m ts ≡ found_as inr (m ts)
  either_right [] h = tail_as inr (m [])
  either_right (k ∷ ts) h = rw (h) (tail_as inr (m (k ∷ ts)))

  -- where there may be no room for the first
  pub room_left : (c : Bool) (ts : List Spelled) → c ≡ true → has ks 99 ≡ false → has ks (head_sort ts) ≡ true → read_either (guard c (is sort ks)) l m ts ≡ found_as inl (l ts)
  room_left true ts c n h = either_left ts n h
  room_left false ts c n h = absurd cc

  pub room_shut : (c : Bool) (ts : List Spelled) → c ≡ false → read_either (guard c (is sort ks)) l m ts ≡ found_as inr (m ts)
  room_shut true ts e = absurd cc
  room_shut false [] e = tail_as inr (m [])
  room_shut false (k ∷ ts) e = tail_as inr (m (k ∷ ts))

  pub room_right : (c : Bool) (ts : List Spelled) → has ks (head_sort ts) ≡ false → read_either (guard c (is sort ks)) l m ts ≡ found_as inr (m ts)
  room_right true ts h = either_right ts h
  room_right false ts h = room_shut false ts refl

-- one of two tests fails, or of three
pub either_fails : (a b : Bool) → and a b ≡ false → (b ≡ false) ⊎ (a ≡ false)
either_fails true b e = inl e
either_fails false b e = inr refl

pub any_fails : (a b c : Bool) → and a (and b c) ≡ false → (c ≡ false) ⊎ ((b ≡ false) ⊎ (a ≡ false))
any_fails true true c e = inl e
any_fails true false c e = inr (inl refl)
any_fails false b c e = inr (inr refl)

-- one token, by the sort of the first
pub token_taken : (ks : List ℕ) (ts more : List Spelled) (k : Spelled) → ts ≡ k ∷ more → has ks (head_sort ts) ≡ true → read_token (is sort ks) ts ≡ Done k more
token_taken ks ts more k e h = let s : has ks (sort k) ≡ true = rw (e) at h in rw (e, s)

pub token_stops : (ks : List ℕ) (ts : List Spelled) → has ks (head_sort ts) ≡ false → read_token (is sort ks) ts ≡ Stopped ts
token_stops ks [] h = refl
token_stops ks (k ∷ ts) h = rw (h)

-- what a peek tells of one sort
pub comes : (wanted peeked : ℕ) (ts : List Spelled) → peeked ≡ head_sort ts → peeked ≡ wanted → has (wanted ∷ []) (head_sort ts) ≡ true
comes wanted peeked ts e s = let t : eqb wanted (head_sort ts) ≡ true = eq-eqb wanted (head_sort ts) (sym s ∙ e) in rw (t)

pub comes_not : (wanted peeked : ℕ) (ts : List Spelled) → peeked ≡ head_sort ts → (peeked ≡ wanted → ⊥) → has (wanted ∷ []) (head_sort ts) ≡ false
comes_not wanted peeked ts e s = let t : eqb wanted (head_sort ts) ≡ false = ne_eqb wanted (head_sort ts) (λ d. s (e ∙ sym d)) in rw (t)

-- there is a token at an index
pub here : (bytes : List ℕ) (tokens : List TokenOf) (at : ℕ) → at < length tokens → (t : TokenOf) × (behind bytes tokens at ≡ spelled bytes t ∷ behind bytes tokens (suc at))
unfolding behind
here bytes [] at lt = absurd (omega arith)
here bytes (t ∷ ts) at lt = (get_or (t ∷ ts) at t, ap (map (spelled bytes)) (drop-cons (t ∷ ts) at t lt))

pub token_here : (bytes : List ℕ) (tokens : List TokenOf) (at next : ℕ) (ks : List ℕ) → next ≡ suc at → at < length tokens → has ks (head_sort (behind bytes tokens at)) ≡ true
    → (k : Spelled) × (read_token (is sort ks) (behind bytes tokens at) ≡ Done k (behind bytes tokens next))
token_here bytes tokens at next ks n lt h =
    let t = here bytes tokens at lt in
    let s : has ks (sort (spelled bytes t.0)) ≡ true = rw (t.1) at h in
    (spelled bytes t.0, rw (t.1, s, n))

-- what a reader leaves is less than what it was given, or no more

abbrev pub Shrinks : {K X : Type 0} → (List K → Found K X) → Type 0
Shrinks {K} {X} read = (ts : List K) (x : X) (rest : List K) → read ts ≡ Done x rest → length rest < length ts

abbrev pub Keeps : {K X : Type 0} → (List K → Found K X) → Type 0
Keeps {K} {X} read = (ts : List K) (x : X) (rest : List K) → read ts ≡ Done x rest → length rest ≤ length ts

pub token_shrinks : {K : Type 0} (passes : K → Bool) → Shrinks (read_token passes)
token_shrinks passes [] x rest e = absurd cc
token_shrinks {K} passes (k ∷ ts) x rest e = by (passes k) e
  where
    by : (b : Bool) → (if b then Done k ts else Stopped (k ∷ ts)) ≡ Done x rest → length rest < length (k ∷ ts)
    by true e = let same : ts ≡ rest = cc in omega (arith, ap length same)
    by false e = absurd cc

pub shrinks_keeps : {K X : Type 0} (read : List K → Found K X) → Shrinks read → Keeps read
shrinks_keeps read s ts x rest e = omega (arith, s ts x rest e)

-- what finds the longest front leaves no more than it was given
pub read_keeps : {K X : Type 0} (spells : X → List K → Type 0) (read : List K → Found K X) → ((ts : List K) → IsRead spells ts (read ts)) → Keeps read
read_keeps {K} {X} spells read reads ts x rest e = by (read ts) (reads ts) e
  where
    by : (f : Found K X) → IsRead spells ts f → f ≡ Done x rest → length rest ≤ length ts
    by (Done p more) w d = let same : more ≡ rest = cc in omega (arith, ap length same, ap length w.1, length-append w.0 more)
    by (Stopped more) w d = absurd cc

pub both_shrinks : {K X Y : Type 0} (l : List K → Found K X) (m : List K → Found K Y) → Shrinks l → Keeps m → Shrinks (read_both l m)
both_shrinks {K} {X} {Y} l m s k ts p rest e = by (l ts) refl e
  where
    next : (x : X) (left : List K) → l ts ≡ Done x left → (f : Found K Y) → m left ≡ f → found_then {Y = X × Y} f (λ y left. Done (x, y) left) ≡ Done p rest → length rest < length ts
    next x left a (Done y more) b e = let same : more ≡ rest = cc in omega (arith, ap length same, s ts x left a, k left y more b)
    next x left a (Stopped more) b e = absurd cc

    by : (f : Found K X) → l ts ≡ f → found_then {Y = X × Y} f (λ x rest. found_then (m rest) (λ y left. Done (x, y) left)) ≡ Done p rest → length rest < length ts
    by (Done x left) a e = next x left a (m left) refl e
    by (Stopped left) a e = absurd cc

-- loops, by the sort of the first token
module _ {X Q : Type 0} (ks : List ℕ) (open_to : X → Bool) (read : List Spelled → Found Spelled Q) (step : X → Q → X) where
  -- another token comes
  pub loop_ends : (x : X) (ts : List Spelled) → has ks (head_sort ts) ≡ false → grown (is sort ks) open_to read step x ts ≡ Done x ts
  loop_ends x [] h = grown_end (is sort ks) open_to read step x
  loop_ends x (k ∷ ts) h = grown_other (is sort ks) open_to read step x k ts h

  -- there is no room
  pub loop_shut : (x : X) (ts : List Spelled) → open_to x ≡ false → grown (is sort ks) open_to read step x ts ≡ Done x ts
  loop_shut x ts o = grown_shut (is sort ks) open_to read step x ts o

  -- one more begins, and is no whole one
  pub loop_stops : (x : X) (ts rest : List Spelled) → has ks 99 ≡ false → has ks (head_sort ts) ≡ true → open_to x ≡ true → read ts ≡ Stopped rest → grown (is sort ks) open_to read step x ts ≡ Stopped rest
  loop_stops x [] rest n h o r = absurd cc
  loop_stops x (k ∷ ts) rest n h o r = grown_stops (is sort ks) open_to read step x k ts rest o h r

  -- one more is read
  pub loop_goes : Shrinks read → (x : X) (ts : List Spelled) (q : Q) (rest : List Spelled) → has ks 99 ≡ false → has ks (head_sort ts) ≡ true → open_to x ≡ true → read ts ≡ Done q rest
      → grown (is sort ks) open_to read step x ts ≡ grown (is sort ks) open_to read step (step x q) rest
  loop_goes s x [] q rest n h o r = absurd cc
  loop_goes s x (k ∷ ts) q rest n h o r = grown_step (is sort ks) open_to read step s x k ts q rest o h r

-- where a part stops, and so the whole, the error of the part is returned

abbrev pub Stops : {X Y : Type 0} → Found Spelled X → Found Spelled Y → Type 0
Stops f g = (rest : List Spelled) → f ≡ Stopped rest → g ≡ Stopped rest

module _ (bytes : List ℕ) (tokens : List TokenOf) where
  -- what every told says of an error
  abbrev pub Halts : {X : Type 0} → Found Spelled X → Stop → Type 0
  Halts f (stop.At i) = f ≡ Stopped (behind bytes tokens i)
  Halts f stop.Mem = Unit {0}

  pub halts_token : (at : ℕ) (f : Found Spelled Spelled) (x : Stop) → TellsToken bytes tokens at f (Err x) → Halts f x
  halts_token at f (stop.At i) t = t
  halts_token at f stop.Mem t = tt

  pub halts_two : {X Y : Type 0} (f : Found Spelled (X × Y)) (x : Stop) → Tells bytes tokens f (Err x) → Halts f x
  halts_two f (stop.At i) t = t
  halts_two f stop.Mem t = tt

  pub halts_three : {X Y Z : Type 0} (f : Found Spelled (X × (Y × Z))) (x : Stop) → TellsThree bytes tokens f (Err x) → Halts f x
  halts_three f (stop.At i) t = t
  halts_three f stop.Mem t = tt

  pub halts_on : {X Y : Type 0} (f : Found Spelled X) (g : Found Spelled Y) (x : Stop) → Stops f g → Halts f x → Halts g x
  halts_on f g (stop.At i) s t = s (behind bytes tokens i) t
  halts_on f g stop.Mem s t = tt

  -- what is told of one is told of its equal
  pub told_same : {X Y : Type 0} (f g : Found Spelled (X × Y)) (r : Result (X × Y × ℕ) Stop) → g ≡ f → Tells bytes tokens f r → Tells bytes tokens g r
  told_same f g r e t = rw (e) t

  pub told_same_three : {X Y Z : Type 0} (f g : Found Spelled (X × (Y × Z))) (r : Result (X × Y × Z × ℕ) Stop) → g ≡ f → TellsThree bytes tokens f r → TellsThree bytes tokens g r
  told_same_three f g r e t = rw (e) t

  -- the result of a `?`
  pub err_two : {X Y : Type 0} (g : Found Spelled (X × Y)) (x : Stop) (r : Result (X × Y × ℕ) Stop) → IsErrAnd r (λ e. e ≡ x) → Halts g x → Tells bytes tokens g r
  err_two g (stop.At i) r e t = let p = err_from_is_err_and r e in rw (p.1, p.2) t
  err_two g stop.Mem r e t = let p = err_from_is_err_and r e in rw (p.1, p.2) tt

  pub err_three : {X Y Z : Type 0} (g : Found Spelled (X × (Y × Z))) (x : Stop) (r : Result (X × Y × Z × ℕ) Stop) → IsErrAnd r (λ e. e ≡ x) → Halts g x → TellsThree bytes tokens g r
  err_three g (stop.At i) r e t = let p = err_from_is_err_and r e in rw (p.1, p.2) t
  err_three g stop.Mem r e t = let p = err_from_is_err_and r e in rw (p.1, p.2) tt

  -- where a token stops it, or a part that tells two, or three
  pub token_err : {X Y : Type 0} (at : ℕ) (f : Found Spelled Spelled) (g : Found Spelled (X × Y)) (x : Stop) (r : Result (X × Y × ℕ) Stop)
      → TellsToken bytes tokens at f (Err x) → IsErrAnd r (λ e. e ≡ x) → Stops f g → Tells bytes tokens g r
  token_err at f g x r t e s = err_two g x r e (halts_on f g x s (halts_token at f x t))

  pub two_err : {X Y A B : Type 0} (f : Found Spelled (A × B)) (g : Found Spelled (X × Y)) (x : Stop) (r : Result (X × Y × ℕ) Stop)
      → Tells bytes tokens f (Err x) → IsErrAnd r (λ e. e ≡ x) → Stops f g → Tells bytes tokens g r
  two_err f g x r t e s = err_two g x r e (halts_on f g x s (halts_two f x t))

  pub three_err : {X Y A B C : Type 0} (f : Found Spelled (A × (B × C))) (g : Found Spelled (X × Y)) (x : Stop) (r : Result (X × Y × ℕ) Stop)
      → TellsThree bytes tokens f (Err x) → IsErrAnd r (λ e. e ≡ x) → Stops f g → Tells bytes tokens g r
  three_err f g x r t e s = err_two g x r e (halts_on f g x s (halts_three f x t))

  -- the same, of what tells three
  pub token_err_three : {X Y Z : Type 0} (at : ℕ) (f : Found Spelled Spelled) (g : Found Spelled (X × (Y × Z))) (x : Stop) (r : Result (X × Y × Z × ℕ) Stop)
      → TellsToken bytes tokens at f (Err x) → IsErrAnd r (λ e. e ≡ x) → Stops f g → TellsThree bytes tokens g r
  token_err_three at f g x r t e s = err_three g x r e (halts_on f g x s (halts_token at f x t))

  pub two_err_three : {X Y Z A B : Type 0} (f : Found Spelled (A × B)) (g : Found Spelled (X × (Y × Z))) (x : Stop) (r : Result (X × Y × Z × ℕ) Stop)
      → Tells bytes tokens f (Err x) → IsErrAnd r (λ e. e ≡ x) → Stops f g → TellsThree bytes tokens g r
  two_err_three f g x r t e s = err_three g x r e (halts_on f g x s (halts_two f x t))

  pub three_err_three : {X Y Z A B C : Type 0} (f : Found Spelled (A × (B × C))) (g : Found Spelled (X × (Y × Z))) (x : Stop) (r : Result (X × Y × Z × ℕ) Stop)
      → TellsThree bytes tokens f (Err x) → IsErrAnd r (λ e. e ≡ x) → Stops f g → TellsThree bytes tokens g r
  three_err_three f g x r t e s = err_three g x r e (halts_on f g x s (halts_three f x t))
