-- Readers of phrases that repeat.
use Rattle.std.proofs.Common.{◌≡◌, ℕ, zero, suc, ◌<◌, ◌≤◌, List, [], ◌∷◌, length, refl, sym, ◌∙◌, ◌⊎◌, inl, inr, Bool, true, false, if◌then◌else◌, arith}
use Rattle.sl_grammar.specs.Phrase.{Found, IsRead, spells_both, read_both, spells_either, read_either}
use Rattle.sl_grammar.specs.Law.{Disjoint, Law, Seen, Shape, Piece, no_token, either_token, spells_nothing, read_nothing, solid, loose}
use Rattle.sl_grammar.specs.Many.{spells_many, list_of, read_many, read_list, spells_after, last_of, read_after, spells_separated, read_separated}
use Rattle.sl_grammar.proofs.Laws.{in_left, nothing_law}
use Rattle.sl_grammar.proofs.Pieces.{nothing_shape, solid_shape, either_shape, seen_shape, solid_law, choice_law, weaker_law, empty_law, seen_piece, both_piece, either_piece, nothing_piece}
use Rattle.sl_grammar.proofs.Laws.{seen_law}

-- what holds on lists shorter than n holds on lists shorter than less
pub shorter_law : {K X : Type 0} {l : X → List K → Type 0} {read : List K → Found K X} {p : K → Bool} {n : ℕ} (j : ℕ) → j ≤ n → Law l read p n → Law l read p j
shorter_law j h ll = record { reads = λ ts lt. ll.reads ts (omega arith); goes = λ x a k lt. ll.goes x a k (omega arith); one = λ x y a lt. ll.one x y a (omega arith) }

pub only_left : {K : Type 0} (f : K → Bool) (k : K) → either_token f no_token k ≡ true → f k ≡ true
only_left f k e = by (f k) e
  where
    by : (b : Bool) → (if b then true else false) ≡ true → b ≡ true
    by true e = refl
    by false e = e

no_right : {K : Type 0} (f : K → Bool) (k : K) → either_token f no_token k ≡ f k
no_right f k = by (f k)
  where
    by : (b : Bool) → (if b then true else false) ≡ b
    by true = refl
    by false = refl

-- the same piece with other tests: the same tokens begin it, and those named as going on are among the new ones
pub restate : {K X : Type 0} {l : X → List K → Type 0} {read : List K → Found K X} {p f q g : K → Bool} {b : Bool} {n : ℕ} → Piece l read (record { first = p; after = q; blank = b }) n → ((k : K) → p k ≡ f k) → ((k : K) → q k ≡ true → g k ≡ true) → Piece l read (record { first = f; after = g; blank = b }) n
restate a same more = record { shape = record { starts = record { sure = λ k e. a.shape.starts.sure k (same k ∙ e); only = λ k w. sym (same k) ∙ a.shape.starts.only k w }; word = a.shape.word; some = a.shape.some; empty = a.shape.empty }; law = weaker_law a.law more }

module _ {K X : Type 0} (l : X → List K → Type 0) where
  abbrev Many : List X → List K → Type 0
  Many = spells_many l

  many_seen : Seen (spells_either (spells_both l Many) spells_nothing) list_of Many
  many_seen = record { to = to; back = back }
    where
      to : (z : (X × List X) ⊎ Unit {0}) (ts : List K) → spells_either (spells_both l Many) spells_nothing z ts → Many (list_of z) ts
      to (inl p) ts w = w
      to (inr u) ts w = w

      back : (xs : List X) (ts : List K) → Many xs ts → (z : (X × List X) ⊎ Unit {0}) × (list_of z ≡ xs) × spells_either (spells_both l Many) spells_nothing z ts
      back [] ts w = (inr tt, refl, w)
      back (x ∷ xs) ts w = (inl (x, xs), refl, w)

  module _ (read : List K → Found K X) (f p : K → Bool) (apart : Disjoint p f) where
    pub many_shape : Shape l f false → Shape Many f true
    many_shape s =
        let u : Shape Many (either_token f no_token) true = seen_shape many_seen (either_shape (solid_shape s ([], [], refl)) nothing_shape) in
        record { starts = record { sure = λ k e. u.starts.sure k (in_left f no_token k e); only = λ k b. only_left f k (u.starts.only k b) }; word = u.word; some = u.some; empty = u.empty }

    many_law : (n : ℕ) → Shape l f false → Law l read p n → (j : ℕ) → j ≤ n → Law Many (read_many f read j) (either_token f p) j
    many_law n s ll zero h = empty_law
    many_law n s ll (suc j) h =
        let both : Law (spells_both l Many) (read_both read (read_many f read j)) (either_token p (either_token f p)) (suc j) = solid_law s (shorter_law (suc j) h ll) (many_shape s) (many_law n s ll j (omega arith)) apart in
        let all = choice_law true (solid_shape s ([], [], refl)) both nothing_shape (nothing_law (suc j)) none in
        seen_law (spells_either (spells_both l Many) spells_nothing) list_of Many many_seen (read_either f (read_both read (read_many f read j)) read_nothing) (either_token f p) (suc j) (weaker_law all fewer)
      where
        none : Disjoint f no_token
        none k e f = cc

        fewer : (k : K) → either_token f (either_token (either_token p (either_token f p)) no_token) k ≡ true → either_token f p k ≡ true
        fewer k e = by (f k) (p k) e
          where
            by : (b c : Bool) → (if b then true else (if (if c then true else (if b then true else c)) then true else false)) ≡ true → (if b then true else c) ≡ true
            by true c e = refl
            by false true e = refl
            by false false e = absurd cc

    pub many_piece : {n : ℕ} → Piece l read (solid f p) n → Piece Many (read_list f read) (loose f (either_token f p)) n
    many_piece {n} a = record { shape = many_shape a.shape; law = record { reads = reads; goes = all.goes; one = all.one } }
      where
        all : Law Many (read_many f read n) (either_token f p) n
        all = many_law n a.shape a.law n (omega arith)

        reads : (ts : List K) → length ts < n → IsRead Many ts (read_list f read ts)
        reads ts lt = (many_law n a.shape a.law (suc (length ts)) (omega arith)).reads ts (omega arith)

pub after_seen : {K S X : Type 0} (sep : S → List K → Type 0) (l : X → List K → Type 0) → Seen (spells_both sep l) last_of (spells_after sep l)
after_seen sep l = record { to = λ x ts w. (x.0, w); back = λ y ts w. ((w.0, y), refl, w.1) }

-- one and any number with a separator before each; or none
module _ {K S X : Type 0} (sep : S → List K → Type 0) (l : X → List K → Type 0) where
  abbrev After : X → List K → Type 0
  After = spells_after sep l

  separated_seen : Seen (spells_either (spells_both l (spells_many After)) spells_nothing) list_of (spells_separated sep l)
  separated_seen = record { to = to; back = back }
    where
      to : (z : (X × List X) ⊎ Unit {0}) (ts : List K) → spells_either (spells_both l (spells_many After)) spells_nothing z ts → spells_separated sep l (list_of z) ts
      to (inl p) ts w = w
      to (inr u) ts w = w

      back : (xs : List X) (ts : List K) → spells_separated sep l xs ts → (z : (X × List X) ⊎ Unit {0}) × (list_of z ≡ xs) × spells_either (spells_both l (spells_many After)) spells_nothing z ts
      back [] ts w = (inr tt, refl, w)
      back (x ∷ xs) ts w = (inl (x, xs), refl, w)

  module _ (read_sep : List K → Found K S) (read : List K → Found K X) (g s f p : K → Bool) (sep_item : Disjoint s f) (item_sep : Disjoint p g) where
    pub separated_piece : {n : ℕ} → Piece sep read_sep (solid g s) n → Piece l read (solid f p) n → Piece (spells_separated sep l) (read_separated f g read_sep read) (loose f (either_token f (either_token g p))) n
    separated_piece {n} a b = restate all (λ k. no_right f k) fewer
      where
        after : Piece After (read_after read_sep read) (solid g p) n
        after = seen_piece (after_seen sep l) (both_piece a b sep_item)

        rest : Piece (spells_many After) (read_list g (read_after read_sep read)) (loose g (either_token g p)) n
        rest = many_piece After (read_after read_sep read) g p item_sep after

        whole : Piece (spells_both l (spells_many After)) (read_both read (read_list g (read_after read_sep read))) (solid f (either_token p (either_token g p))) n
        whole = both_piece b rest item_sep

        none : Disjoint f no_token
        none k e d = cc

        all : Piece (spells_separated sep l) (read_separated f g read_sep read) (loose (either_token f no_token) (either_token f (either_token (either_token p (either_token g p)) no_token))) n
        all = seen_piece separated_seen (either_piece refl whole nothing_piece none)

        fewer : (k : K) → either_token f (either_token (either_token p (either_token g p)) no_token) k ≡ true → either_token f (either_token g p) k ≡ true
        fewer k e = by (f k) (p k) (g k) e
          where
            by : (b c d : Bool) → (if b then true else (if (if c then true else (if d then true else c)) then true else false)) ≡ true → (if b then true else (if d then true else c)) ≡ true
            by true c d e = refl
            by false true true e = refl
            by false true false e = refl
            by false false true e = refl
            by false false false e = absurd cc
