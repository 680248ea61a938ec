-- Pieces of a grammar, put together.
use Rattle.std.proofs.Common.{◌≡◌, ℕ, suc, ◌+◌, ◌≤◌, List, [], ◌∷◌, ◌++◌, length, refl, sym, subst, ◌⊎◌, inl, inr, Bool, true, false, if◌then◌else◌, arith}
use Rattle.sl_grammar.specs.Phrase.{Begins, Found, spells_token, read_token, spells_both, read_both, spells_either, read_either}
use Rattle.sl_grammar.specs.Law.{Word, Disjoint, Law, Joins, Chooses, Seen, Shape, Marks, Piece, no_token, either_token, spells_nothing, read_nothing, found_as, spells_then, marks_token, marks_nothing, marks_both, marks_either}
use Rattle.sl_grammar.proofs.Then.{then_law}
use Rattle.sl_grammar.proofs.Laws.{token_law, token_starts, nothing_law, nothing_starts, either_law, either_starts, then_starts, seen_law, seen_starts, in_left, in_right, in_either}

-- shapes

pub token_shape : {K : Type 0} (passes : K → Bool) (k0 : K) → passes k0 ≡ true → Shape (spells_token passes) passes false
token_shape passes k0 p0 = record { starts = token_starts passes; word = (k0, k0 ∷ [], (refl, p0)); some = λ e x w. let f = w.0 in absurd cc; empty = λ e. absurd cc }

pub nothing_shape : {K : Type 0} → Shape {K = K} spells_nothing no_token true
nothing_shape = record { starts = nothing_starts; word = (tt, [], refl); some = λ e. absurd cc; empty = λ e. (tt, refl) }

-- the first is never empty: it alone tells how both begin
pub then_shape : {K X Y : Type 0} {l : X → List K → Type 0} {m : X → Y → List K → Type 0} {p : K → Bool} → Shape l p false → ((x : X) → Word (m x)) → Shape (spells_then l m) p false
then_shape {K} {X} {Y} {l} {m} {p} sl word = record { starts = then_starts l m p sl.starts (sl.some refl) (λ x a w. word x); word = a_word; some = λ e. some; empty = λ e. absurd cc }
  where
    a_word : Word (spells_then l m)
    a_word =
        let (x, a, w) = sl.word in
        let (y, b, v) = word x in
        ((x, y), a ++ b, (a, b, refl, w, v))

    some : (q : X × Y) → spells_then l m q [] → ⊥
    some q ([], b, e, w, v) = sl.some refl q.0 w
    some q (k ∷ a, b, e, w, v) = cc

pub solid_shape : {K X Y : Type 0} {l : X → List K → Type 0} {m : Y → List K → Type 0} {p : K → Bool} → Shape l p false → Word m → Shape (spells_both l m) p false
solid_shape sl word = then_shape sl (λ x. word)

-- the first may be empty
pub loose_shape : {K X Y : Type 0} {l : X → List K → Type 0} {m : Y → List K → Type 0} {p q : K → Bool} {b : Bool} → Shape l p true → Shape m q b → Shape (spells_both l m) (either_token p q) b
loose_shape {K} {X} {Y} {l} {m} {p} {q} {b = blank} sl sm = record { starts = record { sure = sure; only = only }; word = word; some = some; empty = empty }
  where
    x0 : X
    x0 = (sl.empty refl).0

    sure : (k : K) → either_token p q k ≡ true → Begins (spells_both l m) (k ∷ [])
    sure k h = by (in_either p q k h)
      where
        by : (p k ≡ true) ⊎ (q k ≡ true) → Begins (spells_both l m) (k ∷ [])
        by (inl e) =
            let (x, more, w) = sl.starts.sure k e in
            let (y, b, v) = sm.word in
            ((x, y), more ++ b, (k ∷ more, b, refl, w, v))
        by (inr e) = let (y, more, w) = sm.starts.sure k e in ((x0, y), more, ([], k ∷ more, refl, (sl.empty refl).1, w))

    only : (k : K) → Begins (spells_both l m) (k ∷ []) → either_token p q k ≡ true
    only k ((x, y), more, ([], b, e, w, v)) = in_right p q k (sm.starts.only k (y, more, subst (m y) (sym e) v))
    only k ((x, y), more, (h ∷ a, b, e, w, v)) =
        let same : h ≡ k = cc in
        in_left p q k (sl.starts.only k (x, a, subst (λ z. l x (z ∷ a)) same w))

    word : Word (spells_both l m)
    word = let (y, b, v) = sm.word in ((x0, y), b, ([], b, refl, (sl.empty refl).1, v))

    some : blank ≡ false → (z : X × Y) → spells_both l m z [] → ⊥
    some e z ([], b, f, w, v) = sm.some e z.1 (subst (m z.1) (sym f) v)
    some e z (k ∷ a, b, f, w, v) = cc

    empty : blank ≡ true → (z : X × Y) × spells_both l m z []
    empty e = let (y, v) = sm.empty e in ((x0, y), ([], [], refl, (sl.empty refl).1, v))

pub both_shape : {K X Y : Type 0} {l : X → List K → Type 0} {m : Y → List K → Type 0} {p q : K → Bool} (a : Bool) {b : Bool} → Shape l p a → Shape m q b → Shape (spells_both l m) (if a then either_token p q else p) (if a then b else false)
both_shape true sl sm = loose_shape sl sm
both_shape false sl sm = solid_shape sl sm.word

pub either_shape : {K X Y : Type 0} {l : X → List K → Type 0} {m : Y → List K → Type 0} {p q : K → Bool} {b : Bool} → Shape l p false → Shape m q b → Shape (spells_either l m) (either_token p q) b
either_shape {K} {X} {Y} {l} {m} {p} {q} {b} sl sm = record { starts = either_starts l m p q sl.starts sm.starts; word = (let (x, a, w) = sl.word in (inl x, a, w)); some = some; empty = λ e. let (y, v) = sm.empty e in (inr y, v) }
  where
    some : b ≡ false → (z : X ⊎ Y) → spells_either l m z [] → ⊥
    some e (inl x) w = sl.some refl x w
    some e (inr y) w = sm.some e y w

pub seen_shape : {K X Y : Type 0} {l : X → List K → Type 0} {f : X → Y} {m : Y → List K → Type 0} {p : K → Bool} {b : Bool} → Seen l f m → Shape l p b → Shape m p b
seen_shape {K} {X} {Y} {l} {f} {m} {p} {b} seen sl = record {
  starts = seen_starts l f m seen p sl.starts;
  word = (let (x, a, w) = sl.word in (f x, a, seen.to x a w));
  some = λ e y w. let (x, s, v) = seen.back y [] w in sl.some e x v;
  empty = λ e. let (x, w) = sl.empty e in (f x, seen.to x [] w);
}

-- laws

pub longer : {K X : Type 0} (l : X → List K → Type 0) → ((x : X) → l x [] → ⊥) → (n : ℕ) (x : X) (a : List K) → l x a → suc n ≤ length a + n
longer l some n x [] w = absurd (some x w)
longer l some n x (k ∷ a) w = omega arith

joins : {K X Y : Type 0} (l : X → List K → Type 0) (m : Y → List K → Type 0) (p first : K → Bool) {b : Bool} (n j : ℕ) → Shape m first b → Disjoint p first → ((x : X) (a : List K) → l x a → n ≤ length a + j) → Joins l (λ x. m) p (λ x. first) n j
joins l m p first n j sm apart size = record { word = λ x a w. sm.word; only = λ x a k w b. sm.starts.only k b; apart = λ x. apart; size = size }

module _ {K X Y : Type 0} {l : X → List K → Type 0} {m : Y → List K → Type 0} {read : List K → Found K X} {go : List K → Found K Y} {p q first : K → Bool} where
  pub then_any : (n j : ℕ) (b : Bool) → Shape m first b → Law l read p n → Law m go q j → Disjoint p first → ((x : X) (a : List K) → l x a → n ≤ length a + j) → Law (spells_both l m) (read_both read go) (if b then either_token p q else q) n
  then_any n j true sm ll lm apart size = then_law l (λ x. m) read (λ x. go) p q (either_token p q) (λ x. first) n j ll (λ x. lm) (joins l m p first n j sm apart size) (in_right p q) (λ x y w. in_left p q)
  then_any n j false sm ll lm apart size = then_law l (λ x. m) read (λ x. go) p q q (λ x. first) n j ll (λ x. lm) (joins l m p first n j sm apart size) (λ k e. e) (λ x y w. absurd (sm.some refl y w))

  -- the first is never empty: the second reads what is shorter
  pub solid_law : {n : ℕ} {f : K → Bool} {b : Bool} → Shape l f false → Law l read p (suc n) → Shape m first b → Law m go q n → Disjoint p first → Law (spells_both l m) (read_both read go) (if b then either_token p q else q) (suc n)
  solid_law {n} {f} {b} sl ll sm lm apart = then_any (suc n) n b sm ll lm apart (longer l (sl.some refl) n)

  pub both_law : {n : ℕ} {b : Bool} → Law l read p n → Shape m first b → Law m go q n → Disjoint p first → Law (spells_both l m) (read_both read go) (if b then either_token p q else q) n
  both_law {n} {b} ll sm lm apart = then_any n n b sm ll lm apart (λ x a w. omega arith)

module _ {K X Y : Type 0} {l : X → List K → Type 0} {m : Y → List K → Type 0} {read : List K → Found K X} {go : List K → Found K Y} {p q f g : K → Bool} {n : ℕ} where
  pub choice_law : (b : Bool) → Shape l f false → Law l read p n → Shape m g b → Law m go q n → Disjoint f g → Law (spells_either l m) (read_either f read go) (if b then either_token f (either_token p q) else either_token p q) n
  choice_law b sl ll sm lm apart = by b sm
    where
      chooses : Chooses l m f
      chooses = record { left = sl.starts; right = λ k w e. apart k e (sm.starts.only k w); some = sl.some refl }

      by : (b : Bool) → Shape m g b → Law (spells_either l m) (read_either f read go) (if b then either_token f (either_token p q) else either_token p q) n
      by true sm = either_law l m read go f p q (either_token f (either_token p q)) n chooses (λ k e. ll) lm (λ k e. in_right f (either_token p q) k (in_left p q k e)) (λ k e. in_right f (either_token p q) k (in_right p q k e)) (λ y w. in_left f (either_token p q))
      by false sm = either_law l m read go f p q (either_token p q) n chooses (λ k e. ll) lm (in_left p q) (in_right p q) (λ y w. absurd (sm.some refl y w))

-- more tokens may be named as going on
pub weaker_law : {K X : Type 0} {l : X → List K → Type 0} {read : List K → Found K X} {p q : K → Bool} {n : ℕ} → Law l read p n → ((k : K) → p k ≡ true → q k ≡ true) → Law l read q n
weaker_law ll h = record { reads = ll.reads; goes = λ x a k lt w b. h k (ll.goes x a k lt w b); one = ll.one }

-- no list is shorter than 0
pub empty_law : {K X : Type 0} {l : X → List K → Type 0} {read : List K → Found K X} {p : K → Bool} → Law l read p 0
empty_law = record { reads = λ ts lt. absurd (omega arith); goes = λ x a k lt. absurd (omega arith); one = λ x y a lt. absurd (omega arith) }

-- pieces

pub token_piece : {K : Type 0} (passes : K → Bool) (k0 : K) → passes k0 ≡ true → {n : ℕ} → Piece (spells_token passes) (read_token passes) (marks_token passes) n
token_piece passes k0 p0 {n} = record { shape = token_shape passes k0 p0; law = token_law passes k0 p0 n }

pub nothing_piece : {K : Type 0} {n : ℕ} → Piece {K = K} spells_nothing read_nothing marks_nothing n
nothing_piece {K} {n} = record { shape = nothing_shape; law = nothing_law n }

module _ {K X Y : Type 0} {l : X → List K → Type 0} {m : Y → List K → Type 0} {read : List K → Found K X} {go : List K → Found K Y} {p q : Marks K} {n : ℕ} where
  -- the second reads what is shorter
  pub solid_piece : p.blank ≡ false → Piece l read p (suc n) → Piece m go q n → Disjoint p.after q.first → Piece (spells_both l m) (read_both read go) (marks_both p q) (suc n)
  solid_piece solid a b apart = record { shape = both_shape p.blank a.shape b.shape; law = solid_law (subst (Shape l p.first) solid a.shape) a.law b.shape b.law apart }

  pub both_piece : Piece l read p n → Piece m go q n → Disjoint p.after q.first → Piece (spells_both l m) (read_both read go) (marks_both p q) n
  both_piece a b apart = record { shape = both_shape p.blank a.shape b.shape; law = both_law a.law b.shape b.law apart }

  pub either_piece : p.blank ≡ false → Piece l read p n → Piece m go q n → Disjoint p.first q.first → Piece (spells_either l m) (read_either p.first read go) (marks_either p q) n
  either_piece solid a b apart =
      let s = subst (Shape l p.first) solid a.shape in
      record { shape = either_shape s b.shape; law = choice_law q.blank s a.law b.shape b.law apart }

pub seen_piece : {K X Y : Type 0} {l : X → List K → Type 0} {f : X → Y} {m : Y → List K → Type 0} {read : List K → Found K X} {p : Marks K} {n : ℕ} → Seen l f m → Piece l read p n → Piece m (λ ts. found_as f (read ts)) p n
seen_piece {l = l} {f = f} {m = m} {read = read} {p = p} {n = n} seen a = record { shape = seen_shape seen a.shape; law = seen_law l f m seen read p.after n a.law }
