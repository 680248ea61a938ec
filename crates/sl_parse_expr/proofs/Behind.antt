-- The tokens of a file from an index on.
use Rattle.std.proofs.Common.{◌≡◌, ℕ, suc, ◌<◌, ◌≤◌, List, [], ◌∷◌, length, map, Bool, true, false, refl, sym, ap, ◌∙◌, true≢false, arith}
use Rattle.std.specs.Prelude.{drop, eqb, leb}
use Rattle.std.proofs.lemmas.Bool.{eq-eqb, ne_eqb, leb-true, leb-false}
use Rattle.sl_grammar.specs.Phrase.{Done, Stopped, read_token}
use Rattle.sl_grammar.specs.Grammar.{is, has}
use Rattle.std.proofs.Math.ListN.{get_or}
use Rattle.std.proofs.Math.Seq.{drop-cons}
use Rattle.std.proofs.lemmas.List.{drop_all}
use Rattle.sl_text.specs.declared.token.Token.{Token}
use Rattle.sl_tree.specs.Sorts.{spelled, sort}
use Rattle.sl_parse_expr.specs.Told.{behind, head_sort}

pub behind_more : (bytes : List ℕ) (tokens : List Token) (at : ℕ) (token : Token) → at < length tokens → token ≡ get_or tokens at token → behind bytes tokens at ≡ spelled bytes token ∷ behind bytes tokens (suc at)
unfolding behind
behind_more bytes tokens at token lt e =
    ap (map (spelled bytes)) (drop-cons tokens at token lt) ∙ ap (λ t. spelled bytes t ∷ map (spelled bytes) (drop (suc at) tokens)) (sym e)

pub behind_end : (bytes : List ℕ) (tokens : List Token) (at : ℕ) → length tokens ≤ at → behind bytes tokens at ≡ []
unfolding behind
behind_end bytes tokens at le = ap (map (spelled bytes)) (drop_all at tokens le)

-- one token

pub token_none : (bytes : List ℕ) (tokens : List Token) (at wanted : ℕ) → length tokens ≤ at → read_token (is sort (wanted ∷ [])) (behind bytes tokens at) ≡ Stopped (behind bytes tokens at)
token_none bytes tokens at wanted le = let e = behind_end bytes tokens at le in rw (e)

pub token_more : (bytes : List ℕ) (tokens : List Token) (at wanted : ℕ) (token : Token) → at < length tokens → token ≡ get_or tokens at token
    → sort (spelled bytes token) ≡ wanted → read_token (is sort (wanted ∷ [])) (behind bytes tokens at) ≡ Done (spelled bytes token) (behind bytes tokens (suc at))
token_more bytes tokens at wanted token lt e s =
    let b = behind_more bytes tokens at token lt e in
    let t : eqb wanted (sort (spelled bytes token)) ≡ true = eq-eqb wanted (sort (spelled bytes token)) (sym s) in
    rw (b, t)

pub token_other : (bytes : List ℕ) (tokens : List Token) (at wanted : ℕ) (token : Token) → at < length tokens → token ≡ get_or tokens at token
    → (sort (spelled bytes token) ≡ wanted → ⊥) → read_token (is sort (wanted ∷ [])) (behind bytes tokens at) ≡ Stopped (behind bytes tokens at)
token_other bytes tokens at wanted token lt e s =
    let b = behind_more bytes tokens at token lt e in
    let t : eqb wanted (sort (spelled bytes token)) ≡ false = ne_eqb wanted (sort (spelled bytes token)) (λ f. s (sym f)) in
    rw (b, t)

-- one of some sorts

pub one_none : (bytes : List ℕ) (tokens : List Token) (at : ℕ) (sorts : List ℕ) → length tokens ≤ at → read_token (is sort sorts) (behind bytes tokens at) ≡ Stopped (behind bytes tokens at)
one_none bytes tokens at sorts le = let e = behind_end bytes tokens at le in rw (e)

pub one_more : (bytes : List ℕ) (tokens : List Token) (at : ℕ) (sorts : List ℕ) (token : Token) → at < length tokens → token ≡ get_or tokens at token
    → has sorts (sort (spelled bytes token)) ≡ true → read_token (is sort sorts) (behind bytes tokens at) ≡ Done (spelled bytes token) (behind bytes tokens (suc at))
one_more bytes tokens at sorts token lt e t =
    let b = behind_more bytes tokens at token lt e in
    rw (b, t)

pub one_other : (bytes : List ℕ) (tokens : List Token) (at : ℕ) (sorts : List ℕ) (token : Token) → at < length tokens → token ≡ get_or tokens at token
    → has sorts (sort (spelled bytes token)) ≡ false → read_token (is sort sorts) (behind bytes tokens at) ≡ Stopped (behind bytes tokens at)
one_other bytes tokens at sorts token lt e t =
    let b = behind_more bytes tokens at token lt e in
    rw (b, t)

-- a token of some sorts comes: there is one
pub present : (bytes : List ℕ) (tokens : List Token) (at : ℕ) (sorts : List ℕ) → has sorts 99 ≡ false → has sorts (head_sort (behind bytes tokens at)) ≡ true → at < length tokens
present bytes tokens at sorts n h = by (leb (length tokens) at) refl
  where
    by : (b : Bool) → leb (length tokens) at ≡ b → at < length tokens
    by true e =
        let none : behind bytes tokens at ≡ [] = behind_end bytes tokens at (leb-true (length tokens) at e) in
        absurd (true≢false (sym h ∙ (ap (λ ts. has sorts (head_sort ts)) none ∙ n)))
    by false e = omega (arith, leb-false (length tokens) at e)
