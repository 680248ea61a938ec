-- The library's import, as the code reads it: six tokens, one after the other.
use Rattle.std.proofs.Common.{◌≡◌, ℕ, zero, suc, ◌+◌, ◌≤◌, List, [], ◌∷◌, length, refl, sym, ap, ◌∙◌, arith}
use Rattle.std.specs.Prelude.{Bool, codes}
use Rattle.std.specs.declared.result.Result.{Result}
use Rattle.std.specs.declared.result.Result.TheVariants.{Ok, Err}
use Rattle.std.specs.Result.{IsErrAnd}
use Rattle.std.proofs.lemmas.Result.{err_from_is_err_and}
use Rattle.sl_text.specs.declared.token.Token.{Token}
use Rattle.sl_text.specs.declared.fault.Fault.{Fault}
use Rattle.sl_text.specs.declared.fault.Fault.TheVariants as fault
use Rattle.sl_grammar.specs.Phrase.{Found, Done, Stopped, read_token, read_both}
use Rattle.sl_grammar.specs.Law.{found_as}
use Rattle.sl_grammar.specs.Grammar.{is}
use Rattle.sl_grammar.proofs.Growing.{found_as_as}
use Rattle.sl_tree.specs.Sorts.{Spelled, sort, dot, underscore, import_word}
use Rattle.sl_parse_expr.specs.Told.{behind}
use Rattle.sl_parse_expr.proofs.Telling.{both_first, both_second, both_done}
use Rattle.sl_parse.specs.Names.{Library}
use Rattle.sl_parse.specs.Grammar.{Bound, is_named, LibraryParts, read_library, library_value}
use Rattle.sl_parse.specs.Told.{bare, found_tree, ToldLibrary, ToldLibraryToken}
use Rattle.sl_parse.proofs.Laws.{own_read}

-- it is read in the same way in both languages
pub library_is : (b : Bound) (ts : List Spelled) → found_tree b Library ts ≡ found_as (λ v. bare (library_value v)) (read_library ts)
unfolding found_tree
library_is b ts = ap (found_as bare) (own_read b Library refl ts) ∙ found_as_as bare library_value (read_library ts)

-- the tests of its tokens, and what is left to read behind so many of them
abbrev pub word : Spelled → Bool
word = is sort (import_word ∷ [])

abbrev pub org : Spelled → Bool
org = is_named (codes "org")

abbrev pub sireum : Spelled → Bool
sireum = is_named (codes "sireum")

abbrev pub point : Spelled → Bool
point = is sort (dot ∷ [])

abbrev pub all : Spelled → Bool
all = is sort (underscore ∷ [])

abbrev read_two : List Spelled → Found Spelled (Spelled × Spelled)
read_two ts = read_both (read_token point) (read_token all) ts

abbrev read_three : List Spelled → Found Spelled (Spelled × (Spelled × Spelled))
read_three ts = read_both (read_token sireum) read_two ts

abbrev read_four : List Spelled → Found Spelled (Spelled × (Spelled × (Spelled × Spelled)))
read_four ts = read_both (read_token point) read_three ts

abbrev read_five : List Spelled → Found Spelled (Spelled × (Spelled × (Spelled × (Spelled × Spelled))))
read_five ts = read_both (read_token org) read_four ts

module _ (file : ℕ) (bytes : List ℕ) (tokens : List Token) (start : ℕ) where
  -- the index so many behind the first, and the tokens from it on
  abbrev pub index : ℕ → ℕ
  index zero = start
  index (suc k) = start + suc k

  next_index : (k : ℕ) → suc (index k) ≡ index (suc k)
  next_index zero = omega arith
  next_index (suc k) = omega arith

  abbrev pub At : ℕ → List Spelled
  At k = behind bytes tokens (index k)

  -- a token of the import stands there
  abbrev pub Here : ℕ → (Spelled → Bool) → Type 0
  Here k passes = ToldLibraryToken file bytes tokens (index k) passes (Ok tt)

  step : (k : ℕ) (passes : Spelled → Bool) → Here k passes → (x : Spelled) × (read_token passes (At k) ≡ Done x (At (suc k)))
  step k passes (x, e) = (x, e ∙ ap (λ i. Done x (behind bytes tokens i)) (next_index k))

  -- another one stands there: so the whole stops there
  abbrev pub Stops : ℕ → Type 0
  Stops k = read_library (At 0) ≡ Stopped (At k)

  pub stop_one : read_token word (At 0) ≡ Stopped (At 0) → Stops 0
  stop_one e = both_first (read_token word) read_five (At 0) (At 0) e

  pub stop_two : Here 0 word → read_token org (At 1) ≡ Stopped (At 1) → Stops 1
  stop_two a e =
      let p = step 0 word a in
      both_second (read_token word) read_five (At 0) p.0 (At 1) (At 1) p.1 (both_first (read_token org) read_four (At 1) (At 1) e)

  pub stop_three : Here 0 word → Here 1 org → read_token point (At 2) ≡ Stopped (At 2) → Stops 2
  stop_three a b e =
      let p = step 0 word a in
      let q = step 1 org b in
      both_second (read_token word) read_five (At 0) p.0 (At 1) (At 2) p.1 (both_second (read_token org) read_four (At 1) q.0 (At 2) (At 2) q.1 (both_first (read_token point) read_three (At 2) (At 2) e))

  -- behind the first three
  behind_three : Here 0 word → Here 1 org → Here 2 point → (left : List Spelled) → read_three (At 3) ≡ Stopped left → read_library (At 0) ≡ Stopped left
  behind_three a b c left e =
      let p = step 0 word a in
      let q = step 1 org b in
      let r = step 2 point c in
      both_second (read_token word) read_five (At 0) p.0 (At 1) left p.1
      (both_second (read_token org) read_four (At 1) q.0 (At 2) left q.1 (both_second (read_token point) read_three (At 2) r.0 (At 3) left r.1 e))

  pub stop_four : Here 0 word → Here 1 org → Here 2 point → read_token sireum (At 3) ≡ Stopped (At 3) → Stops 3
  stop_four a b c e = behind_three a b c (At 3) (both_first (read_token sireum) read_two (At 3) (At 3) e)

  pub stop_five : Here 0 word → Here 1 org → Here 2 point → Here 3 sireum → read_token point (At 4) ≡ Stopped (At 4) → Stops 4
  stop_five a b c d e =
      let s = step 3 sireum d in
      behind_three a b c (At 4) (both_second (read_token sireum) read_two (At 3) s.0 (At 4) (At 4) s.1 (both_first (read_token point) (read_token all) (At 4) (At 4) e))

  pub stop_six : Here 0 word → Here 1 org → Here 2 point → Here 3 sireum → Here 4 point → read_token all (At 5) ≡ Stopped (At 5) → Stops 5
  stop_six a b c d f e =
      let s = step 3 sireum d in
      let t = step 4 point f in
      behind_three a b c (At 5) (both_second (read_token sireum) read_two (At 3) s.0 (At 4) (At 5) s.1 (both_second (read_token point) (read_token all) (At 4) t.0 (At 5) (At 5) t.1 e))

  whole_import : Here 0 word → Here 1 org → Here 2 point → Here 3 sireum → Here 4 point → Here 5 all → (v : LibraryParts) × (read_library (At 0) ≡ Done v (At 6))
  whole_import a b c d f g =
      let p = step 0 word a in
      let q = step 1 org b in
      let r = step 2 point c in
      let s = step 3 sireum d in
      let t = step 4 point f in
      let u = step 5 all g in (
        (p.0, (q.0, (r.0, (s.0, (t.0, u.0))))),
        both_done (read_token word) read_five (At 0) p.0 (At 1) (q.0, (r.0, (s.0, (t.0, u.0)))) (At 6) p.1
            (both_done (read_token org) read_four (At 1) q.0 (At 2) (r.0, (s.0, (t.0, u.0))) (At 6) q.1
            (both_done (read_token point) read_three (At 2) r.0 (At 3) (s.0, (t.0, u.0)) (At 6) r.1
            (both_done (read_token sireum) read_two (At 3) s.0 (At 4) (t.0, u.0) (At 6) s.1 (both_done (read_token point) (read_token all) (At 4) t.0 (At 5) u.0 (At 6) t.1 u.1)))),
      )

  no_less : (k : ℕ) → start ≤ index k
  no_less zero = omega arith
  no_less (suc k) = omega arith

  -- what is told where it stops, and where it is whole

  pub stopped_at : (k : ℕ) (passes : Spelled → Bool) (e : Fault) (r : Result ℕ Fault) → index k ≤ length tokens → ToldLibraryToken file bytes tokens (index k) passes (Err e) → IsErrAnd r (λ x. x ≡ e)
      → (read_token passes (At k) ≡ Stopped (At k) → Stops k) → ToldLibrary file bytes tokens start r
  stopped_at k passes (fault.Broken broken) r le t h s =
      let p = err_from_is_err_and r h in
      rw (p.1, p.2) (index k, no_less k, le, t.1, λ b. library_is b (At 0) ∙ ap (found_as (λ v. bare (library_value v))) (s t.0))
  stopped_at k passes fault.Mem r le t h s = let p = err_from_is_err_and r h in rw (p.1, p.2) tt

  pub read_all_six : Here 0 word → Here 1 org → Here 2 point → Here 3 sireum → Here 4 point → Here 5 all → (next : ℕ) → next ≡ start + 6 → ToldLibrary file bytes tokens start (Ok next)
  read_all_six a b c d f g next n bound =
      let v = whole_import a b c d f g in
      library_is bound (At 0) ∙ (ap (found_as (λ v. bare (library_value v))) v.1 ∙ ap (λ i. Done tt (behind bytes tokens i)) (sym n))
