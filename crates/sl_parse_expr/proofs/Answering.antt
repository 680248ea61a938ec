-- What is answered of a phrase follows from what two readers find: one within a limit, and one without, which is given no more than what
-- the first one read and the next token.
use Rattle.std.proofs.Common.{◌≡◌, ℕ, suc, ◌+◌, ◌-◌, ◌<◌, ◌≤◌, List, [], ◌∷◌, ◌++◌, length, map, take, drop, refl, sym, ap, ◌∙◌, subst, ◌⊎◌, inl, inr, Bool, true, false, arith, length-append, nat_lt, true≢false}
use Rattle.std.proofs.lemmas.Bool.{lt-ltb, ltb-true}
use Rattle.std.specs.Prelude.{min}
use Rattle.std.specs.declared.result.Result.TheVariants.{Ok, Err}
use Rattle.std.proofs.lemmas.List.{append-nil, append_cancel_right, drop_min, drop-take, length-drop, length-map, length-take, take-map}
use Rattle.std.proofs.Math.Seq.{take-append-add}
use Rattle.sl_text.specs.declared.token.Token.{Token}
use Rattle.sl_grammar.specs.Phrase.{Begins, Found, Done, Stopped, IsFront, IsRead, left_of}
use Rattle.sl_grammar.specs.Law.{found_as}
use Rattle.sl_grammar.specs.Grammar.{has}
use Rattle.sl_grammar.proofs.Then.{front_of}
use Rattle.sl_grammar.proofs.Front.{begins_read, begins_left}
use Rattle.sl_tree.specs.Sorts.{Spelled, spelled, sort}
use Rattle.sl_parse_expr.specs.Told.{behind, head_sort}
use Rattle.sl_parse_expr.specs.Answers.{Phrase, AnyDepth, Within, Reaches, GoesTooDeep, IsTooDeep, IsWrong, AreBetween, Answers, room_of, place}
use Rattle.sl_parse_expr.specs.declared.answer.Went.{Went}
use Rattle.sl_parse_expr.specs.Went.{is_done, TellsWent, refusal}
use Rattle.sl_parse_expr.proofs.Behind.{behind_end}
use Rattle.sl_parse_expr.proofs.Fronts.{left_is}

-- the tokens from an index on, and those up to another

pub behind_length : (bytes : List ℕ) (tokens : List Token) (at : ℕ) → length (behind bytes tokens at) ≡ length tokens - at
unfolding behind
behind_length bytes tokens at = length-map (drop at tokens) (spelled bytes) ∙ length-drop at tokens

pub behind_min : (bytes : List ℕ) (tokens : List Token) (i : ℕ) → behind bytes tokens i ≡ behind bytes tokens (min i (length tokens))
unfolding behind
behind_min bytes tokens i = ap (map (spelled bytes)) (sym (drop_min i tokens))

behind_take : (bytes : List ℕ) (tokens : List Token) (at n : ℕ) → behind bytes (take (at + n) tokens) at ≡ take n (behind bytes tokens at)
unfolding behind
behind_take bytes tokens at n = ap (map (spelled bytes)) (drop-take at n tokens) ∙ sym (take-map (spelled bytes) n (drop at tokens))

-- what lies between two indices has as many tokens
pub between : (bytes : List ℕ) (tokens : List Token) (at next : ℕ) (used : List Spelled) → at ≤ length tokens → next ≤ length tokens → behind bytes tokens at ≡ used ++ behind bytes tokens next → AreBetween bytes tokens at next used
between bytes tokens at next used a b e =
    let l : length tokens - at ≡ length used + (length tokens - next) = sym (behind_length bytes tokens at) ∙ (ap length e ∙ (length-append used (behind bytes tokens next) ∙ ap (λ z. length used + z) (behind_length bytes tokens next))) in
    (e, omega arith)

-- up to an index and the token at it
pub given : (bytes : List ℕ) (tokens : List Token) (at last : ℕ) (used : List Spelled) → AreBetween bytes tokens at last used → behind bytes (take (suc last) tokens) at ≡ used ++ take 1 (behind bytes tokens last)
given bytes tokens at last used (e, h) =
    let n : suc last ≡ at + (length used + 1) = omega arith in
    ap (λ z. behind bytes (take z tokens) at) n ∙ (behind_take bytes tokens at (length used + 1) ∙ (ap (take (length used + 1)) e ∙ take-append-add used (behind bytes tokens last) 1))

-- where there are tokens behind an index
more_behind : (bytes : List ℕ) (tokens : List Token) (last : ℕ) (k : Spelled) (more : List Spelled) → behind bytes tokens last ≡ k ∷ more → last < length tokens
more_behind bytes tokens last k more e =
    let l : length tokens - last ≡ suc (length more) = sym (behind_length bytes tokens last) ∙ ap length e in
    omega arith

seen_length : (tokens : List Token) (last : ℕ) → last < length tokens → length (take (suc last) tokens) ≡ suc last
seen_length tokens last h = let l = length-take (suc last) tokens in omega arith

-- where nothing is left of what was given, the reader went past the index
went_past : (bytes : List ℕ) (tokens : List Token) (last next : ℕ) → last < length tokens → behind bytes (take (suc last) tokens) next ≡ [] → last < next
went_past bytes tokens last next h e =
    let s = seen_length tokens last h in
    let l : length (take (suc last) tokens) - next ≡ 0 = sym (behind_length bytes (take (suc last) tokens) next) ∙ ap length e in
    omega arith

-- and where it went past the index, nothing is left, of one token more
all_gone : (bytes : List ℕ) (tokens : List Token) (last next : ℕ) → last ≤ length tokens → last < next → next ≤ length (take (suc last) tokens) → (behind bytes (take (suc last) tokens) next ≡ []) × (last < length tokens)
all_gone bytes tokens last next a b c =
    let l = length-take (suc last) tokens in
    let d : length (take (suc last) tokens) ≤ next = omega arith in
    (behind_end bytes (take (suc last) tokens) next d, omega arith)

left_as : {X Y : Type 0} (f : X → Y) (g : Found Spelled X) → left_of (found_as f g) ≡ left_of g
left_as f (Done x rest) = refl
left_as f (Stopped rest) = refl

-- words seen as others
pub seen_read : {X Y : Type 0} (l : X → List Spelled → Type 0) (m : Y → List Spelled → Type 0) (f : X → Y) → ((x : X) (ts : List Spelled) → l x ts → m (f x) ts) → ((y : Y) (ts : List Spelled) → m y ts → (x : X) × l x ts)
    → (ts : List Spelled) (g : Found Spelled X) → IsRead l ts g → IsRead m ts (found_as f g)
seen_read {X} {Y} l m f to back ts g r = by g r
  where
    begins : (us : List Spelled) → Begins l us → Begins m us
    begins us (x, more, w) = (f x, more, to x (us ++ more) w)

    ends : (us : List Spelled) → Begins m us → Begins l us
    ends us (y, more, w) = let v = back y (us ++ more) w in (v.0, more, v.1)

    front : (used rest : List Spelled) → IsFront l used rest → IsFront m used rest
    front used rest h = record { begins = begins used h.begins; ends = λ k more e b. h.ends k more e (ends (used ++ k ∷ []) b) }

    by : (g : Found Spelled X) → IsRead l ts g → IsRead m ts (found_as f g)
    by (Done x rest) (used, e, h, w) = (used, e, front used rest h, to x used w)
    by (Stopped rest) (used, e, h, n) = (used, e, front used rest h, λ y w. let v = back y used w in n v.0 v.1)

-- the first reader stopped: a phrase within the limit begins with what it read, where that is something, and none goes on or is whole
pub record Halted {X : Type 0} (P : Phrase X) (most : ℕ) (used rest : List Spelled) : Type 0 where
  pub reaches : Reaches most P used
  pub stays : (k : Spelled) (more : List Spelled) → rest ≡ k ∷ more → Begins (Within most P) (used ++ k ∷ []) → ⊥
  pub none : (x : X) → Within most P x used → ⊥

-- the first reader found this tree
pub record Finished {X : Type 0} (P : Phrase X) (most : ℕ) (x : X) (used rest : List Spelled) : Type 0 where
  pub front : IsFront (Within most P) used rest
  pub whole : Within most P x used

module _ {X V : Type 0} (P : Phrase X) (view : V → X) where
  -- what was read without a limit
  abbrev pub ReadsAny : List Spelled → Found Spelled V → Type 0
  ReadsAny ts f = IsRead (AnyDepth P) ts (found_as view f)

  abbrev pub ReadsWithin : ℕ → List Spelled → Found Spelled V → Type 0
  ReadsWithin most ts f = IsRead (Within most P) ts (found_as view f)

  -- some phrase begins with what a phrase within a limit begins with, and with nothing
  any_begins : (most : ℕ) (used : List Spelled) → Reaches most P used → (ts : List Spelled) (f : Found Spelled V) → ReadsAny ts f → Begins (AnyDepth P) used
  any_begins most used (inr (x, more, (n, w, h))) ts f r = (x, more, (n, w))
  any_begins most used (inl e) ts f r = subst (Begins (AnyDepth P)) (sym e) (by f r)
    where
      by : (f : Found Spelled V) → ReadsAny ts f → Begins (AnyDepth P) []
      by (Done v rest) (u, e, h, w) = front_of (AnyDepth P) [] u h.begins
      by (Stopped rest) (u, e, h, n) = front_of (AnyDepth P) [] u h.begins

  -- the second reader went on, or stayed
  abbrev Whole : List Spelled → Found Spelled V → Type 0
  Whole used (Done v rest) = AnyDepth P (view v) used
  Whole used (Stopped rest) = (x : X) → AnyDepth P x used → ⊥

  record Stayed (used rest : List Spelled) (f : Found Spelled V) : Type 0 where
    pub left : left_of f ≡ take 1 rest
    pub front : IsFront (AnyDepth P) used rest
    pub whole : Whole used f

  abbrev WentOn : List Spelled → List Spelled → Found Spelled V → Type 0
  WentOn used rest f = (k : Spelled) × (more : List Spelled) × (rest ≡ k ∷ more) × (left_of f ≡ []) × Begins (AnyDepth P) (used ++ k ∷ [])

  again : (used rest : List Spelled) → Begins (AnyDepth P) used → (f : Found Spelled V) → ReadsAny (used ++ take 1 rest) f → WentOn used rest f ⊎ Stayed used rest f
  again used [] b f r = inr (by f r (sym (left_as view f) ∙ begins_left (AnyDepth P) (used ++ []) (found_as view f) r (subst (Begins (AnyDepth P)) (sym (append-nil used)) b)))
    where
      front : IsFront (AnyDepth P) used []
      front = record { begins = b; ends = λ k more e c. cc }

      same : (u left : List Spelled) → used ++ [] ≡ u ++ left → left ≡ [] → u ≡ used
      same u left e h = sym (append-nil u) ∙ (ap (λ z. u ++ z) (sym h) ∙ (sym e ∙ append-nil used))

      by : (f : Found Spelled V) → ReadsAny (used ++ []) f → left_of f ≡ [] → Stayed used [] f
      by (Done v left) (u, e, h, w) g = record { left = g; front = front; whole = subst (AnyDepth P (view v)) (same u left e g) w }
      by (Stopped left) (u, e, h, n) g = record { left = g; front = front; whole = subst (λ z. (x : X) → AnyDepth P x z → ⊥) (same u left e g) n }
  again used (k ∷ more) b f r = by f r (left_is (AnyDepth P) used k (found_as view f) b r)
    where
      same : (u left : List Spelled) → used ++ k ∷ [] ≡ u ++ left → left ≡ k ∷ [] → u ≡ used
      same u left e h = sym (append_cancel_right used u (k ∷ []) (e ∙ ap (λ z. u ++ z) h))

      front : (u left : List Spelled) → used ++ k ∷ [] ≡ u ++ left → left ≡ k ∷ [] → IsFront (AnyDepth P) u left → IsFront (AnyDepth P) used (k ∷ more)
      front u left e g h = record {
        begins = b;
        ends = λ j js i c. h.ends k [] g (subst (λ z. Begins (AnyDepth P) (z ++ k ∷ [])) (sym (same u left e g)) (let q : j ≡ k = cc in subst (λ z. Begins (AnyDepth P) (used ++ z ∷ [])) q c));
      }

      stay : (f : Found Spelled V) → ReadsAny (used ++ k ∷ []) f → left_of (found_as view f) ≡ k ∷ [] → Stayed used (k ∷ more) f
      stay (Done v left) (u, e, h, w) g = record { left = g; front = front u left e g h; whole = subst (AnyDepth P (view v)) (same u left e g) w }
      stay (Stopped left) (u, e, h, n) g = record { left = g; front = front u left e g h; whole = subst (λ z. (x : X) → AnyDepth P x z → ⊥) (same u left e g) n }

      by : (f : Found Spelled V) → ReadsAny (used ++ k ∷ []) f → (left_of (found_as view f) ≡ []) ⊎ (left_of (found_as view f) ≡ k ∷ []) → WentOn used (k ∷ more) f ⊎ Stayed used (k ∷ more) f
      by f r (inl e) = inl (k, more, refl, sym (left_as view f) ∙ e, begins_read (AnyDepth P) (used ++ k ∷ []) (found_as view f) r e)
      by f r (inr g) = inr (stay f r g)

  module _ (file : ℕ) (bytes : List ℕ) (tokens : List Token) (at depth : ℕ) where
    -- what was given to the second reader
    abbrev pub Given : ℕ → List Spelled
    Given last = behind bytes (take (suc last) tokens) at

    abbrev pub Told : ℕ → Found Spelled V → Went → Type 0
    Told last f went = TellsWent bytes (take (suc last) tokens) f (Ok went)

    abbrev pub Refused : ℕ → Went → Type 0
    Refused last went = Answers P file bytes tokens at depth (Err (refusal (place file bytes (drop last tokens)) (nat_lt last went.next) went.whole))

    abbrev Judged : ℕ → Bool → Bool → Type 0
    Judged last on whole = Answers P file bytes tokens at depth (Err (refusal (place file bytes (drop last tokens)) on whole))

    read_given : (last : ℕ) (used : List Spelled) → AreBetween bytes tokens at last used → (f : Found Spelled V) → ReadsAny (Given last) f → ReadsAny (used ++ take 1 (behind bytes tokens last)) f
    read_given last used b f r = subst (λ ts. ReadsAny ts f) (given bytes tokens at last used b) r

    -- where it went on, it went past the index
    past : (last : ℕ) (used : List Spelled) (f : Found Spelled V) (went : Went) → Told last f went → WentOn used (behind bytes tokens last) f → last < went.next
    past last used f went t (k, more, e, g, b) = went_past bytes tokens last went.next (more_behind bytes tokens last k more e) (sym t.0 ∙ g)

    not_past : (last : ℕ) (used : List Spelled) (f : Found Spelled V) (went : Went) → last ≤ length tokens → Told last f went → Stayed used (behind bytes tokens last) f → last < went.next → ⊥
    not_past last used f went le t s h =
        let (g, lt) = all_gone bytes tokens last went.next le h t.1 in
        let e : take 1 (behind bytes tokens last) ≡ [] = sym s.left ∙ (t.0 ∙ g) in
        let l : length (take 1 (behind bytes tokens last)) ≡ 0 = ap length e in
        let m = length-take 1 (behind bytes tokens last) in
        let n = behind_length bytes tokens last in
        omega arith

    -- the first reader stopped
    pub refused : (last : ℕ) → last ≤ length tokens → (used : List Spelled) → AreBetween bytes tokens at last used → Halted P (room_of depth) used (behind bytes tokens last)
        → (f : Found Spelled V) → ReadsAny (Given last) f → (went : Went) → Told last f went → Refused last went
    refused last le used b h f r went t =
        by (again used (behind bytes tokens last) begins f (read_given last used b f r)) (nat_lt last went.next) refl went.whole refl
      where
        begins : Begins (AnyDepth P) used
        begins = any_begins (room_of depth) used h.reaches (Given last) f r

        deeper : WentOn used (behind bytes tokens last) f → IsTooDeep (room_of depth) P used (behind bytes tokens last)
        deeper (k, more, e, g, c) = (h.reaches, (k, more, e, c, h.stays k more e))

        wrong : IsFront (AnyDepth P) used (behind bytes tokens last) → (f : Found Spelled V) → Whole used f → is_done f ≡ false → IsWrong (room_of depth) P used (behind bytes tokens last)
        wrong front (Done v left) w e = cc
        wrong front (Stopped left) w e = (h.reaches, front, w)

        by : WentOn used (behind bytes tokens last) f ⊎ Stayed used (behind bytes tokens last) f → (c : Bool) → nat_lt last went.next ≡ c → (d : Bool) → went.whole ≡ d → Judged last c d
        by (inl o) true i d e = (last, used, b, refl, inl (refl, deeper o))
        by (inl o) false i d e = absurd (true≢false (sym (lt-ltb last went.next (past last used f went t o)) ∙ i))
        by (inr s) true i d e = absurd (not_past last used f went le t s (ltb-true last went.next i))
        by (inr s) false i true e = tt
        by (inr s) false i false e = (last, used, b, refl, inr (refl, wrong s.front f s.whole (t.2 ∙ e)))

    -- the first reader found a tree
    found : (g : Found Spelled V) → ReadsWithin (room_of depth) (behind bytes tokens at) g → (v : V) (next : ℕ) → g ≡ Done v (behind bytes tokens next) → at ≤ length tokens → next ≤ length tokens
        → (used : List Spelled) × AreBetween bytes tokens at next used × Finished P (room_of depth) (view v) used (behind bytes tokens next)
    found g r v next e a b = by (subst (ReadsWithin (room_of depth) (behind bytes tokens at)) e r)
      where
        by : ReadsWithin (room_of depth) (behind bytes tokens at) (Done v (behind bytes tokens next)) → (used : List Spelled) × AreBetween bytes tokens at next used × Finished P (room_of depth) (view v) used (behind bytes tokens next)
        by (u, i, h, w) = (u, between bytes tokens at next u a b i, record { front = h; whole = w })

    -- and no phrase goes on
    parsed : (x : X) (next : ℕ) → next ≤ length tokens → (used : List Spelled) → AreBetween bytes tokens at next used → Finished P (room_of depth) x used (behind bytes tokens next)
        → ((k : Spelled) (more : List Spelled) → behind bytes tokens next ≡ k ∷ more → Begins (AnyDepth P) (used ++ k ∷ []) → ⊥) → Answers P file bytes tokens at depth (Ok (x, next))
    parsed x next le used b f stays = (le, (used, b, (record { begins = (x, [], (f.whole.0, subst (P f.whole.0 x) (sym (append-nil used)) f.whole.1)); ends = stays }, f.whole)))

    -- as the next token tells
    pub parsed_alone : (after : List ℕ) → ((x : X) (a : List Spelled) (k : Spelled) → AnyDepth P x a → Begins (AnyDepth P) (a ++ k ∷ []) → has after (sort k) ≡ true)
        → (g : Found Spelled V) → ReadsWithin (room_of depth) (behind bytes tokens at) g → (v : V) (next : ℕ) → g ≡ Done v (behind bytes tokens next) → at ≤ length tokens → next ≤ length tokens
        → has after (head_sort (behind bytes tokens next)) ≡ false → Answers P file bytes tokens at depth (Ok (view v, next))
    parsed_alone after goes g r v next e a b h =
        let (used, c, f) = found g r v next e a b in
        parsed (view v) next b used c f
        (λ k more i d. true≢false (sym (goes (view v) used k (f.whole.0, f.whole.1) d) ∙ (ap (λ z. has after (head_sort z)) (sym i) ∙ h)))

    -- as the second reader tells
    pub parsed_again : (g : Found Spelled V) → ReadsWithin (room_of depth) (behind bytes tokens at) g → (v : V) (next : ℕ) → g ≡ Done v (behind bytes tokens next) → at ≤ length tokens → next ≤ length tokens
        → (f : Found Spelled V) → ReadsAny (Given next) f → (went : Went) → Told next f went → went.next ≤ next → Answers P file bytes tokens at depth (Ok (view v, next))
    parsed_again g r v next e a b f q went t h =
        let (used, c, d) = found g r v next e a b in
        parsed (view v) next b used c d (stays used c (again used (behind bytes tokens next) (any_begins (room_of depth) used (reach used d) (Given next) f q) f (read_given next used c f q)))
      where
        reach : (used : List Spelled) → Finished P (room_of depth) (view v) used (behind bytes tokens next) → Reaches (room_of depth) P used
        reach used d = inr d.front.begins

        stays : (used : List Spelled) → AreBetween bytes tokens at next used → WentOn used (behind bytes tokens next) f ⊎ Stayed used (behind bytes tokens next) f
            → (k : Spelled) (more : List Spelled) → behind bytes tokens next ≡ k ∷ more → Begins (AnyDepth P) (used ++ k ∷ []) → ⊥
        stays used c (inl o) k more i d = let l = past next used f went t o in absurd (omega arith)
        stays used c (inr s) k more i d = s.front.ends k more i d

    -- a phrase goes on that is too deep
    pub too_deep : (g : Found Spelled V) → ReadsWithin (room_of depth) (behind bytes tokens at) g → (v : V) (next : ℕ) → g ≡ Done v (behind bytes tokens next) → at ≤ length tokens → next ≤ length tokens
        → (f : Found Spelled V) → ReadsAny (Given next) f → (went : Went) → Told next f went → next < went.next → Refused next went
    too_deep g r v next e a b f q went t h =
        let (used, c, d) = found g r v next e a b in
        by used c d (deeper used d (again used (behind bytes tokens next) (any_begins (room_of depth) used (inr d.front.begins) (Given next) f q) f (read_given next used c f q))) (nat_lt next went.next) (lt-ltb next went.next h)
      where
        by : (used : List Spelled) → AreBetween bytes tokens at next used → Finished P (room_of depth) (view v) used (behind bytes tokens next) → GoesTooDeep (room_of depth) P used (behind bytes tokens next)
            → (c : Bool) → c ≡ true → Judged next c went.whole
        by used c d w true i = (next, used, c, refl, inl (refl, (inr d.front.begins, w)))
        by used c d w false i = cc

        deeper : (used : List Spelled) → Finished P (room_of depth) (view v) used (behind bytes tokens next) → WentOn used (behind bytes tokens next) f ⊎ Stayed used (behind bytes tokens next) f → GoesTooDeep (room_of depth) P used (behind bytes tokens next)
        deeper used d (inl (k, more, i, l, w)) = (k, more, i, w, d.front.ends k more i)
        deeper used d (inr s) = absurd (not_past next used f went b t s h)

    -- the first reader stopped at an index, or behind all tokens
    pub stopped : (g : Found Spelled V) → ReadsWithin (room_of depth) (behind bytes tokens at) g → (stop last : ℕ) → g ≡ Stopped (behind bytes tokens stop) → last ≡ min stop (length tokens) → at ≤ length tokens
        → (f : Found Spelled V) → ReadsAny (Given last) f → (went : Went) → Told last f went → Refused last went
    stopped g r stop last e i a f q went t =
        by (subst (ReadsWithin (room_of depth) (behind bytes tokens at)) (e ∙ ap Stopped (behind_min bytes tokens stop ∙ ap (behind bytes tokens) (sym i))) r)
      where
        le : last ≤ length tokens
        le = omega arith

        by : ReadsWithin (room_of depth) (behind bytes tokens at) (Stopped (behind bytes tokens last)) → Refused last went
        by (used, c, h, n) = refused last le used (between bytes tokens at last used a le c) (record { reaches = inr h.begins; stays = h.ends; none = n }) f q went t

    -- it stopped no earlier than it began
    pub stop_after : (g : Found Spelled V) → ReadsWithin (room_of depth) (behind bytes tokens at) g → (stop last : ℕ) → g ≡ Stopped (behind bytes tokens stop) → last ≡ min stop (length tokens) → at ≤ length tokens → at ≤ last
    stop_after g r stop last e i a =
        by (subst (ReadsWithin (room_of depth) (behind bytes tokens at)) (e ∙ ap Stopped (behind_min bytes tokens stop ∙ ap (behind bytes tokens) (sym i))) r)
      where
        le : last ≤ length tokens
        le = omega arith

        by : ReadsWithin (room_of depth) (behind bytes tokens at) (Stopped (behind bytes tokens last)) → at ≤ last
        by (used, c, h, n) = let b = between bytes tokens at last used a le c in let l = b.1 in omega arith

    -- there is no room for a phrase
    pub closed : ((x : X) (ts : List Spelled) → Within (room_of depth) P x ts → ⊥) → at ≤ length tokens → (f : Found Spelled V) → ReadsAny (Given at) f → (went : Went) → Told at f went → Refused at went
    closed shut a f q went t =
        refused at a [] (refl, omega arith) (record { reaches = inl refl; stays = λ k more e (x, c, w). shut x (k ∷ c) w; none = λ x w. shut x [] w }) f q went t

-- what a second reader tells
module _ {V : Type 0} (bytes : List ℕ) (seen : List Token) (f : Found Spelled V) where
  pub went_done : (v : V) (next : ℕ) → f ≡ Done v (behind bytes seen next) → next ≤ length seen → TellsWent bytes seen f (Ok (record { whole = true; next = next }))
  went_done v next e h = (ap left_of e, h, ap is_done e)

  pub went_stopped : (stop next : ℕ) → f ≡ Stopped (behind bytes seen stop) → next ≡ min stop (length seen) → TellsWent bytes seen f (Ok (record { whole = false; next = next }))
  went_stopped stop next e h = (ap left_of e ∙ (behind_min bytes seen stop ∙ ap (behind bytes seen) (sym h)), omega arith, ap is_done e)
