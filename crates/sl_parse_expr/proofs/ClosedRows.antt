-- What repeats up to a token that closes it, as the code reads it: a loop that adds one each time, and the token.
use Rattle.std.proofs.Common.{◌≡◌, ℕ, List, [], ◌∷◌, ◌++◌, map, max, refl, ap, ◌∙◌, sym, true, false, arith, append_assoc}
use Rattle.std.proofs.lemmas.List.{append-nil}
use Rattle.sl_text.specs.declared.place.Span.{Span}
use Rattle.sl_grammar.specs.Phrase.{Found, Done, Stopped, found_then, read_both, read_token}
use Rattle.sl_grammar.specs.Law.{found_as}
use Rattle.sl_grammar.specs.Many.{read_list}
use Rattle.sl_grammar.specs.Grammar.{is, has}
use Rattle.sl_grammar.specs.Growing.{folded, grown}
use Rattle.sl_grammar.proofs.Growing.{many_grown}
use Rattle.sl_tree.specs.Sorts.{Spelled, sort}
use Rattle.sl_parse_expr.specs.Values.{Tall, firsts, deepest}
use Rattle.sl_parse_expr.specs.Told.{head_sort}
use Rattle.sl_parse_expr.proofs.Telling.{Shrinks, loop_ends, loop_stops, loop_goes}

deepest_more : {X : Type 0} (a b : X) (m n : ℕ) (xs : List (Tall X)) → deepest ((a, max m n) ∷ xs) ≡ max m (deepest ((b, n) ∷ xs))
deepest_more a b m n [] = refl
deepest_more a b m n (x ∷ xs) = omega arith

-- each phrase that is read is seen as a tree with its levels, and all of them as a whole
module _ {X Q A : Type 0} (ks closing : List ℕ) (read : List Spelled → Found Spelled Q) (see : Q → Tall X) (all_of : List X → A) where
  abbrev pub row_with : List X × ℕ → Q → List X × ℕ
  row_with p q = (p.0 ++ (see q).0 ∷ [], max p.1 (see q).1)

  abbrev pub row_closed : List X × ℕ → Spelled → A × (ℕ × Span)
  row_closed p k = (all_of p.0, (p.1, k.span))

  abbrev pub row_close : List X × ℕ → List Spelled → Found Spelled (A × (ℕ × Span))
  row_close p ts = found_as (row_closed p) (read_token (is sort closing) ts)

  -- the rest, where some were read
  unfoldable pub rows_from : List X × ℕ → List Spelled → Found Spelled (A × (ℕ × Span))
  rows_from p ts = found_then (grown (is sort ks) (λ p. true) read row_with p ts) row_close

  -- no more begin, and the token comes that closes them
  pub rows_ends : (p : List X × ℕ) (ts rest : List Spelled) (k : Spelled) → has ks (head_sort ts) ≡ false → read_token (is sort closing) ts ≡ Done k rest → rows_from p ts ≡ Done (all_of p.0, (p.1, k.span)) rest
  unfolding rows_from
  rows_ends p ts rest k h e = ap (λ f. found_then f row_close) (loop_ends ks (λ p. true) read row_with p ts h) ∙ ap (found_as (row_closed p)) e

  -- or it doesn't
  pub rows_unclosed : (p : List X × ℕ) (ts rest : List Spelled) → has ks (head_sort ts) ≡ false → read_token (is sort closing) ts ≡ Stopped rest → rows_from p ts ≡ Stopped rest
  unfolding rows_from
  rows_unclosed p ts rest h e = ap (λ f. found_then f row_close) (loop_ends ks (λ p. true) read row_with p ts h) ∙ ap (found_as (row_closed p)) e

  -- one more begins, and is no whole one
  pub rows_stops : (p : List X × ℕ) (ts rest : List Spelled) → has ks 99 ≡ false → has ks (head_sort ts) ≡ true → read ts ≡ Stopped rest → rows_from p ts ≡ Stopped rest
  unfolding rows_from
  rows_stops p ts rest n h e = ap (λ f. found_then f row_close) (loop_stops ks (λ p. true) read row_with p ts rest n h refl e)

  -- one more is read
  pub rows_goes : Shrinks read → (p : List X × ℕ) (ts : List Spelled) (q : Q) (rest : List Spelled) (x : X) (n : ℕ) (all : List X) (levels : ℕ) → has ks 99 ≡ false → has ks (head_sort ts) ≡ true
      → read ts ≡ Done q rest → see q ≡ (x, n) → all ≡ p.0 ++ x ∷ [] → levels ≡ max p.1 n → rows_from p ts ≡ rows_from (all, levels) rest
  unfolding rows_from
  rows_goes s p ts q rest x n all levels l h e w a b =
      let same : (p.0 ++ (see q).0 ∷ [], max p.1 (see q).1) ≡ (all, levels) = ap (λ (t : Tall X). (p.0 ++ t.0 ∷ [], max p.1 t.1)) w ∙ cc in
      ap (λ f. found_then f row_close) (loop_goes ks (λ p. true) read row_with s p ts q rest l h refl e) ∙ ap (λ p. found_then (grown (is sort ks) (λ p. true) read row_with p rest) row_close) same

  row_folded : (ps : List X) (a : X) (n : ℕ) (qs : List Q) → folded row_with (ps, n) qs ≡ (ps ++ firsts (map see qs), deepest ((a, n) ∷ map see qs))
  row_folded ps a n [] = ap (λ ps. (ps, n)) (sym (append-nil ps))
  row_folded ps a n (q ∷ qs) =
      let e : (ps ++ (see q).0 ∷ []) ++ firsts (map see qs) ≡ ps ++ (see q).0 ∷ firsts (map see qs) = append_assoc ps ((see q).0 ∷ []) (firsts (map see qs)) in
      row_folded (ps ++ (see q).0 ∷ []) a (max n (see q).1) qs ∙ rw (e, deepest_more a (see q).0 n (see q).1 (map see qs))

  -- one was read before, and here the loop begins
  abbrev pub row_view : X → ℕ → List Q × Spelled → A × (ℕ × Span)
  row_view a n v = (all_of (a ∷ firsts (map see v.0)), (deepest ((a, n) ∷ map see v.0), v.1.span))

  pub rows_begin : (a : X) (n : ℕ) (ts : List Spelled) → found_as (row_view a n) (read_both (read_list (is sort ks) read) (read_token (is sort closing)) ts) ≡ rows_from (a ∷ [], n) ts
  unfolding rows_from
  rows_begin a n ts = same (read_list (is sort ks) read ts) ∙ ap (λ f. found_then f row_close) (many_grown (is sort ks) read row_with (a ∷ [], n) ts)
    where
      last : (qs : List Q) (g : Found Spelled Spelled) → found_as (row_view a n) (found_then {Y = List Q × Spelled} g (λ y left. Done (qs, y) left)) ≡ found_as (row_closed (a ∷ firsts (map see qs), deepest ((a, n) ∷ map see qs))) g
      last qs (Done y left) = refl
      last qs (Stopped left) = refl

      same : (f : Found Spelled (List Q))
          → found_as (row_view a n) (found_then {Y = List Q × Spelled} f (λ x left. found_then (read_token (is sort closing) left) (λ y left. Done (x, y) left))) ≡ found_then (found_as (λ qs. folded row_with (a ∷ [], n) qs) f) row_close
      same (Done qs left) = last qs (read_token (is sort closing) left) ∙ ap (λ p. row_close p left) (sym (row_folded (a ∷ []) a n qs))
      same (Stopped left) = refl
