-- A grammar that passes its test is read.
use Rattle.std.proofs.Common.{append-nil, ◌≡◌, ℕ, suc, ◌+◌, ◌≤◌, List, [], ◌∷◌, ◌++◌, length, refl, sym, ap, ◌∙◌, subst, true≢false, ◌⊎◌, inl, inr, Bool, true, false, if◌then◌else◌, arith}
use Rattle.std.specs.Prelude.{eqb}
use Rattle.std.proofs.lemmas.Bool.{eqb-true}
use Rattle.sl_grammar.specs.Phrase.{Found, Stopped, spells_both, spells_either, read_both, read_either}
use Rattle.sl_grammar.specs.Law.{Word, Disjoint, Law, Shape, no_token, either_token}
use Rattle.sl_grammar.specs.Many.{spells_many, read_list}
use Rattle.sl_grammar.specs.Guard.{guard}
use Rattle.sl_grammar.specs.Grammar.{Form, Token, Nothing, Ref, Then, Either, Room, Many, Chain, Gate, has, less, disjoint, subset, Sets, and, not, sets_of, has_word, some_left, ok, is, Val, step_on, chain_room, spells_form, read_form, Ahead, Without}
use Rattle.sl_grammar.specs.Steps.{spells_steps}
use Rattle.sl_grammar.proofs.Steps.{first_steps_law}
use Rattle.sl_grammar.proofs.Gated.{gate_law}
use Rattle.sl_grammar.proofs.Ahead.{ahead_shape, ahead_law}
use Rattle.sl_grammar.proofs.Without.{without_shape, without_law}
use Rattle.sl_grammar.proofs.Laws.{token_law, nothing_law, alike_law, in_either}
use Rattle.sl_grammar.proofs.Pieces.{token_shape, nothing_shape, solid_shape, loose_shape, either_shape, seen_shape, choice_law, weaker_law, both_law, then_any, longer, then_shape}
use Rattle.sl_grammar.proofs.Many.{many_shape, many_piece}
use Rattle.sl_grammar.proofs.Guarded.{guarded_shape, guarded_law}

-- tests

pub and_left : (a b : Bool) → and a b ≡ true → a ≡ true
and_left true b e = refl
and_left false b e = absurd cc

pub and_right : (a b : Bool) → and a b ≡ true → b ≡ true
and_right true b e = e
and_right false b e = absurd cc

five_parts : (a b c d e : Bool) → and a (and b (and c (and d e))) ≡ true → (a ≡ true) × (b ≡ true) × (c ≡ true) × (d ≡ true) × (e ≡ true)
five_parts true true true true true h = (refl, refl, refl, refl, refl)
five_parts false b c d e h = absurd cc
five_parts true false c d e h = absurd cc
five_parts true true false d e h = absurd cc
five_parts true true true false e h = absurd cc
five_parts true true true true false h = absurd cc

pub parts : (a b c d e f : Bool) → and a (and b (and c (and d (and e f)))) ≡ true → (a ≡ true) × (b ≡ true) × (c ≡ true) × (d ≡ true) × (e ≡ true) × (f ≡ true)
parts true true true true true true h = (refl, refl, refl, refl, refl, refl)
parts false b c d e f h = absurd cc
parts true false c d e f h = absurd cc
parts true true false d e f h = absurd cc
parts true true true false e f h = absurd cc
parts true true true true false f h = absurd cc
parts true true true true true false h = absurd cc

pub seven_parts : (a b c d e f g : Bool) → and a (and b (and c (and d (and e (and f g))))) ≡ true → (a ≡ true) × (b ≡ true) × (c ≡ true) × (d ≡ true) × (e ≡ true) × (f ≡ true) × (g ≡ true)
seven_parts false b c d e f g h = absurd cc
seven_parts true b c d e f g h = let (i, j, k, l, m, n) = parts b c d e f g h in (refl, i, j, k, l, m, n)

not_true : (a : Bool) → not a ≡ true → a ≡ false
not_true true e = absurd cc
not_true false e = refl

has_append : (xs ys : List ℕ) (j : ℕ) → has (xs ++ ys) j ≡ (if has xs j then true else has ys j)
has_append [] ys j = refl
has_append (x ∷ xs) ys j = by (eqb x j) (has_append xs ys j)
  where
    by : (b : Bool) → has (xs ++ ys) j ≡ (if has xs j then true else has ys j) → (if b then true else has (xs ++ ys) j) ≡ (if (if b then true else has xs j) then true else has ys j)
    by true e = refl
    by false e = e

pub disjoint_sound : (xs ys : List ℕ) (j : ℕ) → disjoint xs ys ≡ true → has xs j ≡ true → has ys j ≡ true → ⊥
disjoint_sound [] ys j d e f = cc
disjoint_sound (x ∷ xs) ys j d e f = by (eqb x j) refl (has ys x) refl d e (λ d e. disjoint_sound xs ys j d e f)
  where
    by : (b : Bool) → eqb x j ≡ b → (c : Bool) → has ys x ≡ c → (if c then false else disjoint xs ys) ≡ true → (if b then true else has xs j) ≡ true → (disjoint xs ys ≡ true → has xs j ≡ true → ⊥) → ⊥
    by b p true q d e less = cc
    by true p false q d e less = let s : x ≡ j = eqb-true x j p in cc
    by false p false q d e less = less d e

pub subset_sound : (xs ys : List ℕ) (j : ℕ) → subset xs ys ≡ true → has xs j ≡ true → has ys j ≡ true
subset_sound [] ys j d e = absurd cc
subset_sound (x ∷ xs) ys j d e = by (eqb x j) refl (has ys x) refl d e (subset_sound xs ys j)
  where
    by : (b : Bool) → eqb x j ≡ b → (c : Bool) → has ys x ≡ c → (if c then subset xs ys else false) ≡ true → (if b then true else has xs j) ≡ true → (subset xs ys ≡ true → has xs j ≡ true → has ys j ≡ true) → has ys j ≡ true
    by b p false q d e less = absurd cc
    by true p true q d e less = let s : x ≡ j = eqb-true x j p in cc
    by false p true q d e less = less d e

has_left : (xs ys : List ℕ) (j : ℕ) → has xs j ≡ true → has (xs ++ ys) j ≡ true
has_left xs ys j e = rw (has_append, e)

has_right : (xs ys : List ℕ) (j : ℕ) → has ys j ≡ true → has (xs ++ ys) j ≡ true
has_right xs ys j e = has_append xs ys j ∙ by (has xs j)
  where
    by : (b : Bool) → (if b then true else has ys j) ≡ true
    by true = refl
    by false = e

-- what is in one list and not in another

pub less_has : (xs ys : List ℕ) (j : ℕ) → has (less xs ys) j ≡ true → (has xs j ≡ true) × (has ys j ≡ false)
less_has [] ys j e = absurd cc
less_has (x ∷ xs) ys j e = by (has ys x) refl (eqb x j) refl e (less_has xs ys j)
  where
    by : (c : Bool) → has ys x ≡ c → (b : Bool) → eqb x j ≡ b → has (if c then less xs ys else x ∷ less xs ys) j ≡ true → (has (less xs ys) j ≡ true → (has xs j ≡ true) × (has ys j ≡ false)) → ((if b then true else has xs j) ≡ true) × (has ys j ≡ false)
    by true q true p e go = let (f, g) = go e in (refl, g)
    by true q false p e go = go e
    by false q true p e go = let s : x ≡ j = eqb-true x j p in (refl, subst (λ z. has ys z ≡ false) s q)
    by false q false p e go = go (sym (ap (λ z. if z then true else has (less xs ys) j) p) ∙ e)

pub has_less : (xs ys : List ℕ) (j : ℕ) → has xs j ≡ true → has ys j ≡ false → has (less xs ys) j ≡ true
has_less [] ys j e f = absurd cc
has_less (x ∷ xs) ys j e f = by (has ys x) refl (eqb x j) refl e (λ e. has_less xs ys j e f)
  where
    by : (c : Bool) → has ys x ≡ c → (b : Bool) → eqb x j ≡ b → (if b then true else has xs j) ≡ true → (has xs j ≡ true → has (less xs ys) j ≡ true) → has (if c then less xs ys else x ∷ less xs ys) j ≡ true
    by true q true p e go = let s : x ≡ j = eqb-true x j p in absurd (true≢false (sym q ∙ (ap (λ z. has ys z) s ∙ f)))
    by true q false p e go = go e
    by false q true p e go = ap (λ z. if z then true else has (less xs ys) j) p
    by false q false p e go = ap (λ z. if z then true else has (less xs ys) j) p ∙ go e

pub same_shape : {K X : Type 0} {l : X → List K → Type 0} {p q : K → Bool} {b : Bool} → ((k : K) → p k ≡ q k) → Shape l p b → Shape l q b
same_shape same s = record { starts = record { sure = λ k e. s.starts.sure k (same k ∙ e); only = λ k w. sym (same k) ∙ s.starts.only k w }; word = s.word; some = s.some; empty = s.empty }

pub passes : {K : Type 0} (kind : K → ℕ) (sample : ℕ → K) (k : ℕ) (ks : List ℕ) → eqb k (kind (sample k)) ≡ true → is kind (k ∷ ks) (sample k) ≡ true
passes kind sample k ks e = rw e

-- a kind that is left has a token
left_in : {K : Type 0} (kind : K → ℕ) (sample : ℕ → K) (ks : List ℕ) → some_left kind sample ks ≡ true → (k : ℕ) × (is kind ks (sample k) ≡ true)
left_in kind sample [] e = absurd cc
left_in kind sample (k ∷ ks) e = (k, passes kind sample k ks e)

module _ {K : Type 0} (kind : K → ℕ) where
  abbrev In : List ℕ → K → Bool
  In = is kind

  either_in : (xs ys : List ℕ) (k : K) → either_token (In xs) (In ys) k ≡ In (xs ++ ys) k
  either_in xs ys k = sym (has_append xs ys (kind k))

  apart_in : (xs ys : List ℕ) → disjoint xs ys ≡ true → Disjoint (In xs) (In ys)
  apart_in xs ys d k = disjoint_sound xs ys (kind k) d

  after_in : (f p q : List ℕ) (c : Bool) (k : K) → (if c then either_token (In f) (either_token (In p) (In q)) else either_token (In p) (In q)) k ≡ true → In (if c then f ++ (p ++ q) else p ++ q) k ≡ true
  after_in f p q true k u = by (in_either (In f) (either_token (In p) (In q)) k u)
    where
      by : (In f k ≡ true) ⊎ (either_token (In p) (In q) k ≡ true) → In (f ++ (p ++ q)) k ≡ true
      by (inl e) = has_left f (p ++ q) (kind k) e
      by (inr e) = has_right f (p ++ q) (kind k) (sym (either_in p q k) ∙ e)
  after_in f p q false k u = sym (either_in p q k) ∙ u

  -- what may go on after a gate
  gate_in : (o f p q : List ℕ) (c : Bool) (k : K) → (if c then either_token (In o) (either_token (In f) (either_token (In p) (In q))) else either_token (In p) (In q)) k ≡ true → In (let both = if c then f ++ (p ++ q) else p ++ q in if c then o ++ both else both) k ≡ true
  gate_in o f p q true k u = by (in_either (In o) (either_token (In f) (either_token (In p) (In q))) k u)
    where
      by : (In o k ≡ true) ⊎ (either_token (In f) (either_token (In p) (In q)) k ≡ true) → In (o ++ (f ++ (p ++ q))) k ≡ true
      by (inl e) = has_left o (f ++ (p ++ q)) (kind k) e
      by (inr e) = has_right o (f ++ (p ++ q)) (kind k) (after_in f p q true k e)
  gate_in o f p q false k u = after_in f p q false k u

  module _ {X Y : Type 0} {l : X → List K → Type 0} {m : Y → List K → Type 0} where
    then_shape_in : (f g : List ℕ) (b c : Bool) (s t : Bool) → Shape l (In f) b → (s ≡ true → Shape m (In g) c) → (t ≡ true → Shape m (In g) c) → (if b then s else t) ≡ true → Shape (spells_both l m) (In (if b then f ++ g else f)) (if b then c else false)
    then_shape_in f g true c s t sl sm sm' e = same_shape (either_in f g) (loose_shape sl (sm e))
    then_shape_in f g false c s t sl sm sm' e = solid_shape sl (sm' e).word

    -- what begins how they may, where only a word of the second is known unless the first may be empty
    first_shape_in : (f g : List ℕ) (b c : Bool) (s t : Bool) → Shape l (In f) b → (s ≡ true → Shape m (In g) c) → (t ≡ true → Word m) → (if b then s else t) ≡ true → Shape (spells_both l m) (In (if b then f ++ g else f)) (if b then c else false)
    first_shape_in f g true c s t sl sm word e = same_shape (either_in f g) (loose_shape sl (sm e))
    first_shape_in f g false c s t sl sm word e = solid_shape sl (word e)

    room_shape_in : (f g : List ℕ) (r c : Bool) → (r ≡ true → Shape l (In f) false) → Shape m (In g) c → Shape (spells_either (λ y us. (r ≡ true) × l y us) m) (In ((if r then f else []) ++ g)) c
    room_shape_in f g true c sl sm = same_shape (either_in f g) (either_shape (seen_shape (record { to = λ x ts w. (refl, w); back = λ y ts w. (y, refl, w.1) }) (sl refl)) sm)
    room_shape_in f g false c sl sm = same_shape (either_in [] g) (guarded_shape {f = In f} false (λ e. absurd cc) (λ e x ts w. absurd (no w.0)) sm)
      where
        no : false ≡ true → ⊥
        no e = cc

    module _ {read : List K → Found K X} where
      then_law_in : {go go' : List K → Found K Y} (f p g q : List ℕ) (b c s t : Bool) (i j : ℕ) → i ≤ suc j → Shape l (In f) b → Law l read (In p) i → Shape m (In g) c → (s ≡ true → Law m go (In q) i) → (t ≡ true → Law m go' (In q) j) → (if b then s else t) ≡ true → disjoint p g ≡ true → Law (spells_both l m) (read_both read (if b then go else go')) (In (if c then p ++ q else q)) i
      then_law_in {go} {go'} f p g q b c s t i j h sl ll sm lm lm' e d = by b sl e
        where
          after : (c : Bool) (k : K) → (if c then either_token (In p) (In q) else In q) k ≡ true → In (if c then p ++ q else q) k ≡ true
          after true k u = sym (either_in p q k) ∙ u
          after false k u = u

          by : (b : Bool) → Shape l (In f) b → (if b then s else t) ≡ true → Law (spells_both l m) (read_both read (if b then go else go')) (In (if c then p ++ q else q)) i
          by true sl e = weaker_law (both_law ll sm (lm e) (apart_in p g d)) (after c)
          by false sl e = weaker_law (then_any i j c sm ll (lm' e) (apart_in p g d) size) (after c)
            where
              size : (x : X) (a : List K) → l x a → i ≤ length a + j
              size x a w = let n : suc j ≤ length a + j = longer l (sl.some refl) j x a w in omega arith

      either_law_in : {go : List K → Found K Y} (f p g q : List ℕ) (c : Bool) (i : ℕ) → Shape l (In f) false → Law l read (In p) i → Shape m (In g) c → Law m go (In q) i → disjoint f g ≡ true → Law (spells_either l m) (read_either (In f) read go) (In (if c then f ++ (p ++ q) else p ++ q)) i
      either_law_in f p g q c i sl ll sm lm d = weaker_law (choice_law c sl ll sm lm (apart_in f g d)) (after_in f p q c)

      room_law_in : {go : List K → Found K Y} (f p g q : List ℕ) (r c : Bool) (i : ℕ) → (r ≡ true → Shape l (In f) false) → (r ≡ true → Law l read (In p) i) → Shape m (In g) c → Law m go (In q) i → disjoint f g ≡ true → Law (spells_either (λ y us. (r ≡ true) × l y us) m) (read_either (guard r (In f)) read go) (In (if c then f ++ (p ++ q) else p ++ q)) i
      room_law_in f p g q r c i sl ll sm lm d = weaker_law (guarded_law r shape law none sm lm (apart_in f g d)) (after_in f p q c)
        where
          shape : r ≡ true → Shape (λ y us. (r ≡ true) × l y us) (In f) false
          shape e = seen_shape (record { to = λ x ts w. (e, w); back = λ y ts w. (y, refl, w.1) }) (sl e)

          law : r ≡ true → Law (λ y us. (r ≡ true) × l y us) read (In p) i
          law e = alike_law (λ x ts w. (e, w)) (λ x ts w. w.1) (ll e)

          none : r ≡ false → (x : X) (ts : List K) → (r ≡ true) × l x ts → ⊥
          none e x ts w = cc (w.0, e)

  many_law_in : {X : Type 0} {l : X → List K → Type 0} {read : List K → Found K X} (f p : List ℕ) (i : ℕ) → Shape l (In f) false → Law l read (In p) i → disjoint p f ≡ true → Law (spells_many l) (read_list (In f) read) (In (f ++ p)) i
  many_law_in {l = l} {read = read} f p i sl ll d = weaker_law (many_piece l read (In f) (In p) (apart_in p f d) (record { shape = sl; law = ll })).law (λ k e. sym (either_in f p k) ∙ e)

  in_less : (f ks : List ℕ) (k : K) → In (less f ks) k ≡ true → (In f k ≡ true) × (In ks k ≡ false)
  in_less f ks k e = less_has f ks (kind k) e

  into_less : (f ks : List ℕ) (k : K) → In f k ≡ true → In ks k ≡ false → In (less f ks) k ≡ true
  into_less f ks k e g = has_less f ks (kind k) e g

  -- the tokens that begin a phrase, by another list of the same kinds
  named_shape : {X : Type 0} {l : X → List K → Type 0} (f js : List ℕ) {b : Bool} → subset js f ≡ true → subset f js ≡ true → Shape l (In f) b → Shape l (In js) b
  named_shape f js c d s = record { starts = record { sure = λ k e. s.starts.sure k (subset_sound js f (kind k) c e); only = λ k w. subset_sound f js (kind k) d (s.starts.only k w) }; word = s.word; some = s.some; empty = s.empty }

-- what the test tells of a choice that looks two tokens ahead
pub record TwoAhead {K N : Type 0} (kind : K → ℕ) (sample : ℕ → K) (sets : N → Sets) (valid lead : N → Bool) (k : ℕ) (ks js : List ℕ) (p q : Form N) : Type 0 where
  pub sampled : eqb k (kind (sample k)) ≡ true
  pub begins : subset (k ∷ ks) (sets_of sets q).first ≡ true
  pub named : subset js (sets_of sets p).first ≡ true
  pub all : subset (sets_of sets p).first js ≡ true
  pub left : (sets_of sets p).blank ≡ false
  pub left_later : and (has_word valid p) (ok kind sample sets valid valid p) ≡ true
  pub left_ok : ok kind sample sets valid valid p ≡ true
  pub right : (sets_of sets q).blank ≡ false
  pub right_ok : ok kind sample sets valid lead q ≡ true

pub two_ahead : {K N : Type 0} (kind : K → ℕ) (sample : ℕ → K) (sets : N → Sets) (valid lead : N → Bool) (k : ℕ) (ks js : List ℕ) (p q : Form N) → ok kind sample sets valid lead (Ahead (k ∷ ks) js p q) ≡ true → TwoAhead kind sample sets valid lead k ks js p q
two_ahead kind sample sets valid lead k ks js p q e =
    let l = and (has_word valid p) (ok kind sample sets valid valid p) in
    let r = ok kind sample sets valid lead q in
    let m = not (sets_of sets p).blank in
    let n = not (sets_of sets q).blank in
    let h = parts (eqb k (kind (sample k))) (subset (k ∷ ks) (sets_of sets q).first) (subset js (sets_of sets p).first) (subset (sets_of sets p).first js) (and m l) (and n r) e in
    record {
      sampled = h.0;
      begins = h.1;
      named = h.2;
      all = h.3;
      left = not_true (sets_of sets p).blank (and_left m l h.4);
      left_later = and_right m l h.4;
      left_ok = and_right (has_word valid p) (ok kind sample sets valid valid p) (and_right m l h.4);
      right = not_true (sets_of sets q).blank (and_left n r h.5);
      right_ok = and_right n r h.5;
    }

pub by_blank : {R : Type 0} (b s t : Bool) → (if b then s else t) ≡ true → (s ≡ true → R) → (t ≡ true → R) → R
by_blank true s t e f g = f e
by_blank false s t e f g = g e

module _ {K N : Type 0} (kind : K → ℕ) (sample : ℕ → K) (T : N → Type 0) (room : (i j : N) → T i → List (T j) → Bool) (spells : (i : N) → T i → List K → Type 0) (sets : N → Sets) (valid : N → Bool) where
  abbrev Passes : (N → Bool) → Form N → Type 0
  Passes first g = ok kind sample sets valid first g ≡ true

  -- a form has a word, where the names that it needs have one
  pub form_word : (known : N → Bool) → ((i : N) → known i ≡ true → Word (spells i)) → (g : Form N) (first : N → Bool) → Passes first g → has_word known g ≡ true → Word (spells_form kind T room spells g)
  form_word known word (Token []) first e h = absurd cc
  form_word known word (Token (k ∷ ks)) first e h = (sample k, sample k ∷ [], (refl, passes kind sample k ks e))
  form_word known word Nothing first e h = (tt, [], refl)
  form_word known word (Ref i) first e h = word i h
  form_word known word (Then p q) first e h =
      let b = (sets_of sets p).blank in
      let c = ok kind sample sets valid first q in
      let d = and (has_word valid q) (ok kind sample sets valid valid q) in
      let f = and_right _ (and (ok kind sample sets valid first p) (if b then c else d)) e in
      let (x, u, w) = form_word known word p first (and_left (ok kind sample sets valid first p) (if b then c else d) f) (and_left (has_word known p) (has_word known q) h) in
      let (y, v, z) = by_blank b c d (and_right (ok kind sample sets valid first p) (if b then c else d) f) (λ g. form_word known word q first g (and_right (has_word known p) (has_word known q) h)) (λ g. form_word known word q valid (and_right (has_word valid q) (ok kind sample sets valid valid q) g) (and_right (has_word known p) (has_word known q) h)) in
      ((x, y), u ++ v, (u, v, refl, w, z))
  form_word known word (Either p q) first e h =
      by (has_word known p) refl h
      (λ g. form_word known word p first (and_left (ok kind sample sets valid first p) (ok kind sample sets valid first q) both) g)
      (λ g. form_word known word q first (and_right (ok kind sample sets valid first p) (ok kind sample sets valid first q) both) g)
    where
      both : and (ok kind sample sets valid first p) (ok kind sample sets valid first q) ≡ true
      both =
          let d = disjoint (sets_of sets p).first (sets_of sets q).first in
          let c = and (ok kind sample sets valid first p) (ok kind sample sets valid first q) in
          and_right d c (and_right (not (sets_of sets p).blank) (and d c) e)

      by : (b : Bool) → has_word known p ≡ b → (if b then true else has_word known q) ≡ true → (has_word known p ≡ true → Word (spells_form kind T room spells p)) → (has_word known q ≡ true → Word (spells_form kind T room spells q)) → Word (spells_form kind T room spells (Either p q))
      by true g h f f' = let (x, a, w) = f g in (inl x, a, w)
      by false g h f f' = let (x, a, w) = f' h in (inr x, a, w)
  form_word known word (Room c p q) first e h =
      let (y, b, v) = form_word known word q first (and_right _ (ok kind sample sets valid first q) (and_right _ _ e)) h in
      (inr y, b, v)
  form_word known word (Many p) first e h = ([], [], refl)
  form_word known word (Chain c i j) first e h = let (x, a, w) = word i h in ((x, []), a, (a, [], sym (append-nil a), w, refl))
  form_word known word (Gate i p q) first e h =
      let s = sets_of sets p in
      let r = sets_of sets q in
      let passed = seven_parts (first i) (not (sets i).blank) (disjoint (sets i).after (s.first ++ r.first)) (not s.blank) (disjoint s.first r.first) (ok kind sample sets valid valid p) (and (has_word valid q) (ok kind sample sets valid valid q)) e in
      let (x, a, w) = word i (and_left (known i) (has_word known q) h) in
      let (y, b, v) = form_word known word q valid (and_right (has_word valid q) (ok kind sample sets valid valid q) passed.6) (and_right (known i) (has_word known q) h) in
      ((x, inr y), a ++ b, (a, b, refl, w, v))
  form_word known word (Ahead [] js p q) first e h = absurd cc
  form_word known word (Ahead (k ∷ ks) js p q) first e h =
      let t = two_ahead kind sample sets valid first k ks js p q e in
      let (x, a, w) = form_word known word p valid t.left_ok h in
      (inl (sample k, x), sample k ∷ a, (sample k ∷ [], a, refl, (refl, passes kind sample k ks t.sampled), w))
  form_word known word (Without ks p) first e h = absurd cc

module _ {K N : Type 0} (kind : K → ℕ) (sample : ℕ → K) (T : N → Type 0) (room : (i j : N) → T i → List (T j) → Bool) (spells : (i : N) → T i → List K → Type 0) (sets : N → Sets) (valid : N → Bool) (word : (i : N) → valid i ≡ true → Word (spells i)) where
  abbrev Spells : (g : Form N) → Val kind T g → List K → Type 0
  Spells = spells_form kind T room spells

  abbrev Ok : (N → Bool) → Form N → Bool
  Ok = ok kind sample sets valid

  abbrev Solid : Form N → Type 0
  Solid g = Shape (Spells g) (is kind (sets_of sets g).first) (sets_of sets g).blank

  -- the test of a form whose word is needed
  abbrev Later : Form N → Bool
  Later g = and (has_word valid g) (Ok valid g)

  later_word : (g : Form N) → Later g ≡ true → Word (Spells g)
  later_word g e = form_word kind sample T room spells sets valid valid word g valid (and_right (has_word valid g) (Ok valid g) e) (and_left (has_word valid g) (Ok valid g) e)

  later_ok : (g : Form N) → Later g ≡ true → Ok valid g ≡ true
  later_ok g e = and_right (has_word valid g) (Ok valid g) e

  chain_ok : (lead : N → Bool) (c : Bool) (i j : N) → Ok lead (Chain c i j) ≡ true → (lead i ≡ true) × (not (sets i).blank ≡ true) × (disjoint (sets i).after (sets j).first ≡ true) × (disjoint (sets j).after (sets j).first ≡ true) × ((if c then and (not (sets j).blank) (valid j) else true) ≡ true)
  chain_ok lead c i j e = five_parts (lead i) (not (sets i).blank) (disjoint (sets i).after (sets j).first) (disjoint (sets j).after (sets j).first) (if c then and (not (sets j).blank) (valid j) else true) e

  -- what the test of a gate tells
  abbrev GateTest : (N → Bool) → N → Form N → Form N → Type 0
  GateTest lead i p q =
      (lead i ≡ true) × (not (sets i).blank ≡ true) × (disjoint (sets i).after ((sets_of sets p).first ++ (sets_of sets q).first) ≡ true) × (not (sets_of sets p).blank ≡ true)
      × (disjoint (sets_of sets p).first (sets_of sets q).first ≡ true) × (Ok valid p ≡ true) × (Later q ≡ true)

  gate_ok : (lead : N → Bool) (i : N) (p q : Form N) → Ok lead (Gate i p q) ≡ true → GateTest lead i p q
  gate_ok lead i p q e =
      seven_parts (lead i) (not (sets i).blank) (disjoint (sets i).after ((sets_of sets p).first ++ (sets_of sets q).first)) (not (sets_of sets p).blank) (disjoint (sets_of sets p).first (sets_of sets q).first) (Ok valid p) (Later q) e

  less_ok : (lead : N → Bool) (ks : List ℕ) (p : Form N) → Ok lead (Without ks p) ≡ true → (not (sets_of sets p).blank ≡ true) × (some_left kind sample (less (sets_of sets p).first ks) ≡ true) × (Ok lead p ≡ true)
  less_ok lead ks p e =
      let b = not (sets_of sets p).blank in
      let l = some_left kind sample (less (sets_of sets p).first ks) in
      let h = and_right b (and l (Ok lead p)) e in
      (and_left b (and l (Ok lead p)) e, and_left l (Ok lead p) h, and_right l (Ok lead p) h)

  -- there is room only where a chain may have links
  may : (c b d : Bool) → (if c then and (not b) d else true) ≡ true → c ≡ true → (b ≡ false) × (d ≡ true)
  may true b d e f = (not_true b (and_left (not b) d e), and_right (not b) d e)
  may false b d e f = absurd cc

  -- how each form begins, where that is known of the names that may stand first
  pub form_shape : (lead : N → Bool) → ((i : N) → lead i ≡ true → Shape (spells i) (is kind (sets i).first) (sets i).blank) → (g : Form N) → Ok lead g ≡ true → Solid g
  form_shape lead shape (Token []) e = absurd cc
  form_shape lead shape (Token (k ∷ ks)) e = token_shape (is kind (k ∷ ks)) (sample k) (passes kind sample k ks e)
  form_shape lead shape Nothing e = nothing_shape
  form_shape lead shape (Ref i) e = shape i e
  form_shape lead shape (Then p q) e =
      let h = and_right (disjoint (sets_of sets p).after (sets_of sets q).first) (and (Ok lead p) (if (sets_of sets p).blank then Ok lead q else Later q)) e in
      first_shape_in kind (sets_of sets p).first (sets_of sets q).first (sets_of sets p).blank (sets_of sets q).blank (Ok lead q) (Later q)
      (form_shape lead shape p (and_left (Ok lead p) (if (sets_of sets p).blank then Ok lead q else Later q) h))
      (form_shape lead shape q) (later_word q)
      (and_right (Ok lead p) (if (sets_of sets p).blank then Ok lead q else Later q) h)
  form_shape lead shape (Either p q) e =
      let b = and_left (not (sets_of sets p).blank) (and (disjoint (sets_of sets p).first (sets_of sets q).first) (and (Ok lead p) (Ok lead q))) e in
      let h = and_right (not (sets_of sets p).blank) (and (disjoint (sets_of sets p).first (sets_of sets q).first) (and (Ok lead p) (Ok lead q))) e in
      let i = and_right (disjoint (sets_of sets p).first (sets_of sets q).first) (and (Ok lead p) (Ok lead q)) h in
      same_shape (either_in kind (sets_of sets p).first (sets_of sets q).first)
      (either_shape (subst (Shape (Spells p) (is kind (sets_of sets p).first)) (not_true (sets_of sets p).blank b) (form_shape lead shape p (and_left (Ok lead p) (Ok lead q) i))) (form_shape lead shape q (and_right (Ok lead p) (Ok lead q) i)))
  form_shape lead shape (Room c p q) e =
      let h = and_right (if c then and (not (sets_of sets p).blank) (Ok lead p) else true) (and (disjoint (sets_of sets p).first (sets_of sets q).first) (Ok lead q)) e in
      room_shape_in kind (sets_of sets p).first (sets_of sets q).first c (sets_of sets q).blank
      (λ r. fits c r (and_left (if c then and (not (sets_of sets p).blank) (Ok lead p) else true) (and (disjoint (sets_of sets p).first (sets_of sets q).first) (Ok lead q)) e) (form_shape lead shape p))
      (form_shape lead shape q (and_right (disjoint (sets_of sets p).first (sets_of sets q).first) (Ok lead q) h))
    where
      fits : (c : Bool) → c ≡ true → (if c then and (not (sets_of sets p).blank) (Ok lead p) else true) ≡ true → (Ok lead p ≡ true → Solid p) → Shape (Spells p) (is kind (sets_of sets p).first) false
      fits true r e s = subst (Shape (Spells p) (is kind (sets_of sets p).first)) (not_true (sets_of sets p).blank (and_left (not (sets_of sets p).blank) (Ok lead p) e)) (s (and_right (not (sets_of sets p).blank) (Ok lead p) e))
      fits false r e s = absurd cc
  form_shape lead shape (Many p) e =
      let b = and_left (not (sets_of sets p).blank) (and (disjoint (sets_of sets p).after (sets_of sets p).first) (Ok lead p)) e in
      let h = and_right (not (sets_of sets p).blank) (and (disjoint (sets_of sets p).after (sets_of sets p).first) (Ok lead p)) e in
      many_shape (Spells p) (λ ts. Stopped ts) (is kind (sets_of sets p).first) no_token (λ k e f. cc)
      (subst (Shape (Spells p) (is kind (sets_of sets p).first)) (not_true (sets_of sets p).blank b) (form_shape lead shape p (and_right (disjoint (sets_of sets p).after (sets_of sets p).first) (Ok lead p) h)))
  form_shape lead shape (Chain c i j) e =
      let h = chain_ok lead c i j e in
      let b : (sets i).blank ≡ false = not_true (sets i).blank h.1 in
      subst (Shape (Spells (Chain c i j)) (is kind (sets i).first)) (sym b)
      (then_shape {m = λ y. spells_steps (spells j) (chain_room kind T room c i j) step_on (y, [])} (subst (Shape (spells i) (is kind (sets i).first)) b (shape i h.0)) (λ x. ([], [], refl)))
  form_shape lead shape (Gate i p q) e =
      let h = gate_ok lead i p q e in
      then_shape {m = λ y. spells_either (λ z us. (room i i y [] ≡ true) × Spells p z us) (Spells q)} (subst (Shape (spells i) (is kind (sets i).first)) (not_true (sets i).blank h.1) (shape i h.0))
      (λ x. let (y, b, v) = later_word q h.6 in (inr y, b, v))
  form_shape lead shape (Ahead [] js p q) e = absurd cc
  form_shape lead shape (Ahead (k ∷ ks) js p q) e =
      let h = two_ahead kind sample sets valid lead k ks js p q e in
      let sq = subst (Shape (Spells q) (is kind (sets_of sets q).first)) h.right (form_shape lead shape q h.right_ok) in
      ahead_shape (is kind (k ∷ ks)) (is kind js) (Spells p) (Spells q) (later_word p h.left_later) (λ i t. sq.starts.sure i (subset_sound (k ∷ ks) (sets_of sets q).first (kind i) h.begins t)) sq
  form_shape lead shape (Without ks p) e =
      let h = less_ok lead ks p e in
      let (k, t) = left_in kind sample (less (sets_of sets p).first ks) h.1 in
      without_shape (is kind ks) (Spells p) (sample k) t (λ j. in_less kind (sets_of sets p).first ks j) (λ j. into_less kind (sets_of sets p).first ks j)
      (subst (Shape (Spells p) (is kind (sets_of sets p).first)) (not_true (sets_of sets p).blank h.0) (form_shape lead shape p h.2))

  module _ (shape : (i : N) → valid i ≡ true → Shape (spells i) (is kind (sets i).first) (sets i).blank) where
    abbrev Reads : (g : Form N) → (List K → Found K (Val kind T g)) → ℕ → Type 0
    Reads g read n = Law (Spells g) read (is kind (sets_of sets g).after) n

    abbrev Knows : (N → Bool) → ((i : N) → List K → Found K (T i)) → ℕ → Type 0
    Knows lead read n = (i : N) → lead i ≡ true → Law (spells i) (read i) (is kind (sets i).after) n

    -- each form is read, where what may stand first is read up to a length, and what stands later up to one less
    pub form_law : (g : Form N) (lead : N → Bool) (first later : (i : N) → List K → Found K (T i)) (a b : ℕ) → a ≤ suc b → ((i : N) → lead i ≡ true → valid i ≡ true) → Ok lead g ≡ true → Knows lead first a → Knows valid later b → Reads g (read_form kind T room sets g first later) a
    form_law (Token []) lead first later a b ab known e kf kl = absurd cc
    form_law (Token (k ∷ ks)) lead first later a b ab known e kf kl = token_law (is kind (k ∷ ks)) (sample k) (passes kind sample k ks e) a
    form_law Nothing lead first later a b ab known e kf kl = nothing_law a
    form_law (Ref i) lead first later a b ab known e kf kl = kf i e
    form_law (Then p q) lead first later a b ab known e kf kl =
        let d = and_left (disjoint (sets_of sets p).after (sets_of sets q).first) (and (Ok lead p) (if (sets_of sets p).blank then Ok lead q else Later q)) e in
        let h = and_right (disjoint (sets_of sets p).after (sets_of sets q).first) (and (Ok lead p) (if (sets_of sets p).blank then Ok lead q else Later q)) e in
        let u = and_left (Ok lead p) (if (sets_of sets p).blank then Ok lead q else Later q) h in
        let v = and_right (Ok lead p) (if (sets_of sets p).blank then Ok lead q else Later q) h in
        then_law_in kind (sets_of sets p).first (sets_of sets p).after (sets_of sets q).first (sets_of sets q).after (sets_of sets p).blank (sets_of sets q).blank (Ok lead q) (Later q) a b ab
        (form_shape lead (λ i l. shape i (known i l)) p u)
        (form_law p lead first later a b ab known u kf kl)
        (by_blank (sets_of sets p).blank (Ok lead q) (Later q) v (form_shape lead (λ i l. shape i (known i l)) q) (λ w. form_shape valid shape q (later_ok q w)))
        (λ w. form_law q lead first later a b ab known w kf kl)
        (λ w. form_law q valid later later b b (omega arith) (λ i l. l) (later_ok q w) kl kl)
        v d
    form_law (Either p q) lead first later a b ab known e kf kl =
        let n = and_left (not (sets_of sets p).blank) (and (disjoint (sets_of sets p).first (sets_of sets q).first) (and (Ok lead p) (Ok lead q))) e in
        let h = and_right (not (sets_of sets p).blank) (and (disjoint (sets_of sets p).first (sets_of sets q).first) (and (Ok lead p) (Ok lead q))) e in
        let d = and_left (disjoint (sets_of sets p).first (sets_of sets q).first) (and (Ok lead p) (Ok lead q)) h in
        let i = and_right (disjoint (sets_of sets p).first (sets_of sets q).first) (and (Ok lead p) (Ok lead q)) h in
        let u = and_left (Ok lead p) (Ok lead q) i in
        let v = and_right (Ok lead p) (Ok lead q) i in
        either_law_in kind (sets_of sets p).first (sets_of sets p).after (sets_of sets q).first (sets_of sets q).after (sets_of sets q).blank a
        (subst (Shape (Spells p) (is kind (sets_of sets p).first)) (not_true (sets_of sets p).blank n) (form_shape lead (λ i l. shape i (known i l)) p u))
        (form_law p lead first later a b ab known u kf kl)
        (form_shape lead (λ i l. shape i (known i l)) q v)
        (form_law q lead first later a b ab known v kf kl) d
    form_law (Room c p q) lead first later a b ab known e kf kl =
        let r = and_left (if c then and (not (sets_of sets p).blank) (Ok lead p) else true) (and (disjoint (sets_of sets p).first (sets_of sets q).first) (Ok lead q)) e in
        let h = and_right (if c then and (not (sets_of sets p).blank) (Ok lead p) else true) (and (disjoint (sets_of sets p).first (sets_of sets q).first) (Ok lead q)) e in
        let d = and_left (disjoint (sets_of sets p).first (sets_of sets q).first) (Ok lead q) h in
        let v = and_right (disjoint (sets_of sets p).first (sets_of sets q).first) (Ok lead q) h in
        room_law_in kind (sets_of sets p).first (sets_of sets p).after (sets_of sets q).first (sets_of sets q).after c (sets_of sets q).blank a
        (λ t. solid c t r (form_shape lead (λ i l. shape i (known i l)) p))
        (λ t. form_law p lead first later a b ab known (fits c t r) kf kl)
        (form_shape lead (λ i l. shape i (known i l)) q v)
        (form_law q lead first later a b ab known v kf kl) d
      where
        fits : (c : Bool) → c ≡ true → (if c then and (not (sets_of sets p).blank) (Ok lead p) else true) ≡ true → Ok lead p ≡ true
        fits true t e = and_right (not (sets_of sets p).blank) (Ok lead p) e
        fits false t e = absurd cc

        solid : (c : Bool) → c ≡ true → (if c then and (not (sets_of sets p).blank) (Ok lead p) else true) ≡ true → (Ok lead p ≡ true → Solid p) → Shape (Spells p) (is kind (sets_of sets p).first) false
        solid true t e s = subst (Shape (Spells p) (is kind (sets_of sets p).first)) (not_true (sets_of sets p).blank (and_left (not (sets_of sets p).blank) (Ok lead p) e)) (s (and_right (not (sets_of sets p).blank) (Ok lead p) e))
        solid false t e s = absurd cc
    form_law (Many p) lead first later a b ab known e kf kl =
        let n = and_left (not (sets_of sets p).blank) (and (disjoint (sets_of sets p).after (sets_of sets p).first) (Ok lead p)) e in
        let h = and_right (not (sets_of sets p).blank) (and (disjoint (sets_of sets p).after (sets_of sets p).first) (Ok lead p)) e in
        let d = and_left (disjoint (sets_of sets p).after (sets_of sets p).first) (Ok lead p) h in
        let u = and_right (disjoint (sets_of sets p).after (sets_of sets p).first) (Ok lead p) h in
        many_law_in kind (sets_of sets p).first (sets_of sets p).after a
        (subst (Shape (Spells p) (is kind (sets_of sets p).first)) (not_true (sets_of sets p).blank n) (form_shape lead (λ i l. shape i (known i l)) p u))
        (form_law p lead first later a b ab known u kf kl) d
    form_law (Chain c i j) lead first later a b ab known e kf kl =
        let h = chain_ok lead c i j e in
        let n : (sets i).blank ≡ false = not_true (sets i).blank h.1 in
        first_steps_law (spells j) (chain_room kind T room c i j) step_on (later j) (is kind (sets j).first) (is kind (sets j).after) (apart_in kind (sets j).after (sets j).first h.3)
        (λ s r. let m = may c (sets j).blank (valid j) h.4 (and_left c (room i j s.0 s.1) r) in subst (Shape (spells j) (is kind (sets j).first)) m.0 (shape j m.1))
        (λ x. (x, [])) a b ab
        (subst (Shape (spells i) (is kind (sets i).first)) n (shape i (known i h.0))) (kf i h.0)
        (λ s r. let m = may c (sets j).blank (valid j) h.4 (and_left c (room i j s.0 s.1) r) in kl j m.1)
        (apart_in kind (sets i).after (sets j).first h.2)
        (λ k u. into k u)
      where
        into : (k : K) → either_token (is kind (sets i).after) (either_token (is kind (sets j).first) (is kind (sets j).after)) k ≡ true → is kind ((sets i).after ++ ((sets j).first ++ (sets j).after)) k ≡ true
        into k u = by (in_either (is kind (sets i).after) (either_token (is kind (sets j).first) (is kind (sets j).after)) k u)
          where
            by : (is kind (sets i).after k ≡ true) ⊎ (either_token (is kind (sets j).first) (is kind (sets j).after) k ≡ true) → is kind ((sets i).after ++ ((sets j).first ++ (sets j).after)) k ≡ true
            by (inl e) = has_left (sets i).after ((sets j).first ++ (sets j).after) (kind k) e
            by (inr e) = has_right (sets i).after ((sets j).first ++ (sets j).after) (kind k) (sym (either_in kind (sets j).first (sets j).after k) ∙ e)
    form_law (Gate i p q) lead first later a b ab known e kf kl =
        let h = gate_ok lead i p q e in
        gate_law (λ x. room i i x []) (sets_of sets q).blank a b ab
        (subst (Shape (spells i) (is kind (sets i).first)) (not_true (sets i).blank h.1) (shape i (known i h.0))) (kf i h.0)
        (subst (Shape (Spells p) (is kind (sets_of sets p).first)) (not_true (sets_of sets p).blank h.3) (form_shape valid shape p h.5))
        (form_law p valid later later b b (omega arith) (λ i l. l) h.5 kl kl)
        (form_shape valid shape q (later_ok q h.6))
        (form_law q valid later later b b (omega arith) (λ i l. l) (later_ok q h.6) kl kl)
        (apart_in kind (sets_of sets p).first (sets_of sets q).first h.4)
        (λ k u v. apart_in kind (sets i).after ((sets_of sets p).first ++ (sets_of sets q).first) h.2 k u (sym (either_in kind (sets_of sets p).first (sets_of sets q).first k) ∙ v))
        (gate_in kind (sets i).after (sets_of sets p).first (sets_of sets p).after (sets_of sets q).after (sets_of sets q).blank)
    form_law (Ahead [] js p q) lead first later a b ab known e kf kl = absurd cc
    form_law (Ahead (k ∷ ks) js p q) lead first later a b ab known e kf kl =
        let h = two_ahead kind sample sets valid lead k ks js p q e in
        let sp = named_shape kind (sets_of sets p).first js h.named h.all (subst (Shape (Spells p) (is kind (sets_of sets p).first)) h.left (form_shape valid shape p h.left_ok)) in
        let sq = subst (Shape (Spells q) (is kind (sets_of sets q).first)) h.right (form_shape lead (λ i l. shape i (known i l)) q h.right_ok) in
        weaker_law
        (ahead_law (is kind (k ∷ ks)) (is kind js) (Spells p) (Spells q) sp (sq.some refl) (λ i t. sq.starts.sure i (subset_sound (k ∷ ks) (sets_of sets q).first (kind i) h.begins t)) a b ab
        (form_law p valid later later b b (omega arith) (λ i l. l) h.left_ok kl kl)
        (form_law q lead first later a b ab known h.right_ok kf kl))
        (after_in kind js (sets_of sets p).after (sets_of sets q).after true)
    form_law (Without ks p) lead first later a b ab known e kf kl =
        let h = less_ok lead ks p e in
        let sp = subst (Shape (Spells p) (is kind (sets_of sets p).first)) (not_true (sets_of sets p).blank h.0) (form_shape lead (λ i l. shape i (known i l)) p h.2) in
        without_law (is kind ks) (Spells p) (form_shape lead (λ i l. shape i (known i l)) (Without ks p) e).word (sp.some refl) (form_law p lead first later a b ab known h.2 kf kl)
