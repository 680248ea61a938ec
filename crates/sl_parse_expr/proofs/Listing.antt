-- What is listed with commas, as the code reads it: a loop that adds one behind each comma.
use Rattle.std.proofs.Common.{◌≡◌, ℕ, List, [], ◌∷◌, ◌++◌, max, refl, ap, ◌∙◌, sym, true, false, arith, append_assoc}
use Rattle.std.proofs.lemmas.List.{append-nil}
use Rattle.sl_grammar.specs.Phrase.{Found, Done, Stopped, read_both, read_token}
use Rattle.sl_grammar.specs.Law.{found_as}
use Rattle.sl_grammar.specs.Many.{read_list}
use Rattle.sl_grammar.specs.Grammar.{is, has}
use Rattle.sl_grammar.specs.Growing.{folded, grown}
use Rattle.sl_grammar.proofs.Growing.{found_as_as, many_grown}
use Rattle.sl_tree.specs.Sorts.{Spelled, sort, comma}
use Rattle.sl_parse_expr.specs.Values.{Tall, Listed, firsts, seconds, deepest, listing}
use Rattle.sl_parse_expr.specs.Told.{head_sort}
use Rattle.sl_parse_expr.proofs.Telling.{Keeps, token_shrinks, both_shrinks, both_go, both_done, both_second, loop_ends, loop_stops, loop_goes}

-- what is told of what is listed: all, and the levels of the deepest
abbrev pub listed_view : {X : Type 0} → Listed X → List X × ℕ
listed_view v = (firsts (listing v), deepest (listing v))

-- one more
abbrev pub with_one : {X : Type 0} → List X × ℕ → Spelled × Tall X → List X × ℕ
with_one p q = (p.0 ++ q.1.0 ∷ [], max p.1 q.1.1)

deepest_more : {X : Type 0} (a b : X) (m n : ℕ) (xs : List (Tall X)) → deepest ((a, max m n) ∷ xs) ≡ max m (deepest ((b, n) ∷ xs))
deepest_more a b m n [] = refl
deepest_more a b m n (x ∷ xs) = omega arith

pub view_folded : {X : Type 0} (ps : List X) (a : X) (n : ℕ) (qs : List (Spelled × Tall X)) → folded with_one (ps, n) qs ≡ (ps ++ firsts (seconds qs), deepest ((a, n) ∷ seconds qs))
view_folded ps a n [] = ap (λ ps. (ps, n)) (sym (append-nil ps))
view_folded ps a n (q ∷ qs) =
    let e : (ps ++ q.1.0 ∷ []) ++ firsts (seconds qs) ≡ ps ++ q.1.0 ∷ firsts (seconds qs) = append_assoc ps (q.1.0 ∷ []) (firsts (seconds qs)) in
    view_folded (ps ++ q.1.0 ∷ []) a (max n q.1.1) qs ∙ rw (e, deepest_more a q.1.0 n q.1.1 (seconds qs))

module _ {X : Type 0} (read : List Spelled → Found Spelled (Tall X)) where
  abbrev pub next : List Spelled → Found Spelled (Spelled × Tall X)
  next ts = read_both (read_token (is sort (comma ∷ []))) read ts

  unfoldable pub listing_from : List X × ℕ → List Spelled → Found Spelled (List X × ℕ)
  listing_from p ts = grown (is sort (comma ∷ [])) (λ p. true) next with_one p ts

  -- where no comma comes
  pub listing_ends : (p : List X × ℕ) (ts : List Spelled) → has (comma ∷ []) (head_sort ts) ≡ false → listing_from p ts ≡ Done p ts
  unfolding listing_from
  listing_ends p ts h = loop_ends (comma ∷ []) (λ p. true) next with_one p ts h

  -- where no whole one is behind it
  pub listing_stops : (p : List X × ℕ) (ts more rest : List Spelled) (d : Spelled) → has (comma ∷ []) (head_sort ts) ≡ true → read_token (is sort (comma ∷ [])) ts ≡ Done d more → read more ≡ Stopped rest
      → listing_from p ts ≡ Stopped rest
  unfolding listing_from
  listing_stops p ts more rest d h a b = loop_stops (comma ∷ []) (λ p. true) next with_one p ts rest refl h refl (both_second (read_token (is sort (comma ∷ []))) read ts d more rest a b)

  pub listing_goes : Keeps read → (p : List X × ℕ) (ts more rest : List Spelled) (d : Spelled) (x : X) (n : ℕ) → has (comma ∷ []) (head_sort ts) ≡ true → read_token (is sort (comma ∷ [])) ts ≡ Done d more
      → read more ≡ Done (x, n) rest → listing_from p ts ≡ listing_from (p.0 ++ x ∷ [], max p.1 n) rest
  unfolding listing_from
  listing_goes keeps p ts more rest d x n h a b =
      loop_goes (comma ∷ []) (λ p. true) next with_one (both_shrinks (read_token (is sort (comma ∷ []))) read (token_shrinks (is sort (comma ∷ []))) keeps) p ts (d, (x, n)) rest refl h refl
      (both_done (read_token (is sort (comma ∷ []))) read ts d more (x, n) rest a b)

  -- the first, and the loop behind it
  pub listing_begins : (ts rest : List Spelled) (x : X) (n : ℕ) → read ts ≡ Done (x, n) rest → found_as listed_view (read_both read (read_list (is sort (comma ∷ [])) next) ts) ≡ listing_from (x ∷ [], n) rest
  unfolding listing_from
  listing_begins ts rest x n e =
      let pair : List (Spelled × Tall X) → Listed X = λ qs. ((x, n), qs) in
      ap (found_as listed_view) (both_go read (read_list (is sort (comma ∷ [])) next) ts (x, n) rest e)
      ∙ (found_as_as listed_view pair (read_list (is sort (comma ∷ [])) next rest)
      ∙ (same (read_list (is sort (comma ∷ [])) next rest)
      ∙ many_grown (is sort (comma ∷ [])) next with_one (x ∷ [], n) rest))
    where
      same : (f : Found Spelled (List (Spelled × Tall X))) → found_as (λ qs. listed_view ((x, n), qs)) f ≡ found_as (λ qs. folded with_one (x ∷ [], n) qs) f
      same (Done qs left) = ap (λ v. Done v left) (sym (view_folded (x ∷ []) x n qs))
      same (Stopped left) = refl
