-- Expressions, as the code reads them.
use Rattle.std.proofs.Common.{◌≡◌, ℕ, suc, List, [], ◌∷◌, ◌++◌, refl, ap, ◌∙◌, sym, inl, inr, ◌⊎◌, Bool, true, false, append_assoc}
use Rattle.std.specs.Prelude.{max}
use Rattle.std.proofs.lemmas.List.{append-nil}
use Rattle.sl_text.specs.declared.place.Span.{Span}
use Rattle.sl_grammar.specs.Phrase.{Found, Done, Stopped, read_either, read_token}
use Rattle.sl_grammar.specs.Law.{found_as, read_then}
use Rattle.sl_grammar.specs.Guard.{guard}
use Rattle.sl_grammar.specs.Steps.{read_all_steps}
use Rattle.sl_grammar.specs.Grammar.{Form, Token, Ref, Then, Many, is, has, and, Val, chain_room, step_on, spells_form}
use Rattle.sl_grammar.specs.Growing.{folded, grown}
use Rattle.sl_grammar.proofs.Growing.{found_as_as, steps_grown, shrinks_read}
use Rattle.sl_tree.specs.Sorts.{Spelled, sort, left_parenthesis, right_parenthesis, left_brace, right_brace, if_word, else_word, match_word}
use Rattle.sl_tree.specs.WellShaped.{join, expr}
use Rattle.sl_tree.specs.declared.tree.Expr.{Expr}
use Rattle.sl_tree.specs.declared.tree.ExprKind.TheVariants as expr_kind
use Rattle.sl_tree.specs.declared.tree.Case.{Case}
use Rattle.sl_parse_expr.specs.Names.{Expression, Level, Matched, A_case, At, at, Levels, holds, open_to, deeper, fits, head_form}
use Rattle.sl_parse_expr.specs.Values.{Tall, T_of, MatchedParts, span_of, if_from, match_to, expression_from}
use Rattle.sl_parse_expr.specs.Grammar.{read, room, Spells, trees, spells_at}
use Rattle.sl_parse_expr.specs.Told.{head_sort, reads, if_form, if_view, head_view, cases_view}
use Rattle.sl_parse_expr.proofs.Laws as laws
use Rattle.sl_parse_expr.proofs.AllSeen.{all_seen}
use Rattle.sl_parse_expr.proofs.Telling.{Shrinks, as_done, as_stopped, both_first, both_second, both_done, then_go, then_first, room_left, room_right, room_shut, loop_ends, loop_shut, loop_stops, loop_goes}

-- an expression in parentheses

abbrev pub inside_form : Levels → Form At
inside_form r = Then (Ref (at Expression r)) (Token (right_parenthesis ∷ []))

-- the parenthesis that opens it is missing
pub head_halts : (r : Levels) (ts rest : List Spelled) → read_token (is sort (left_parenthesis ∷ [])) ts ≡ Stopped rest → found_as head_view (reads (head_form r) ts) ≡ Stopped rest
unfolding reads
head_halts r ts rest e = ap (found_as head_view) (both_first (read_token (is sort (left_parenthesis ∷ []))) (reads (inside_form r)) ts rest e)

module _ (r : Levels) (ts us : List Spelled) (p : Spelled) (a : read_token (is sort (left_parenthesis ∷ [])) ts ≡ Done p us) where
  -- no whole expression is in it
  pub head_second : (rest : List Spelled) → read r Expression us ≡ Stopped rest → found_as head_view (reads (head_form r) ts) ≡ Stopped rest
  unfolding reads
  head_second rest e =
      ap (found_as head_view) (both_second (read_token (is sort (left_parenthesis ∷ []))) (reads (inside_form r)) ts p us rest a
      (both_first (read r Expression) (read_token (is sort (right_parenthesis ∷ []))) us rest e))

  module _ (vs : List Spelled) (x : Tall Expr) (b : read r Expression us ≡ Done x vs) where
    -- the parenthesis that closes it is missing
    pub head_third : (rest : List Spelled) → read_token (is sort (right_parenthesis ∷ [])) vs ≡ Stopped rest → found_as head_view (reads (head_form r) ts) ≡ Stopped rest
    unfolding reads
    head_third rest e =
        ap (found_as head_view) (both_second (read_token (is sort (left_parenthesis ∷ []))) (reads (inside_form r)) ts p us rest a
        (both_second (read r Expression) (read_token (is sort (right_parenthesis ∷ []))) us x vs rest b e))

    -- it is whole
    pub head_whole : (rest : List Spelled) (q : Spelled) → read_token (is sort (right_parenthesis ∷ [])) vs ≡ Done q rest → found_as head_view (reads (head_form r) ts) ≡ Done x rest
    unfolding reads
    head_whole rest q e =
        ap (found_as head_view) (both_done (read_token (is sort (left_parenthesis ∷ []))) (reads (inside_form r)) ts p us (x, q) rest a
        (both_done (read r Expression) (read_token (is sort (right_parenthesis ∷ []))) us x vs q rest b e))

-- `if (EXPR) EXPR else EXPR`

abbrev no_form : Levels → Form At
no_form r = Then (Token (else_word ∷ [])) (Ref (at Expression r))

abbrev yes_form : Levels → Form At
yes_form r = Then (Ref (at Expression r)) (no_form r)

abbrev tail_form : Levels → Form At
tail_form r = Then (head_form r) (yes_form r)

-- there is no `if`
pub if_halts : (r : Levels) (ts rest : List Spelled) → read_token (is sort (if_word ∷ [])) ts ≡ Stopped rest → found_as if_view (reads (if_form r) ts) ≡ Stopped rest
unfolding reads
if_halts r ts rest e = ap (found_as if_view) (both_first (read_token (is sort (if_word ∷ []))) (reads (tail_form (deeper r))) ts rest e)

module _ (r : Levels) (ts us : List Spelled) (i : Spelled) (a : read_token (is sort (if_word ∷ [])) ts ≡ Done i us) where
  tail_stops : (rest : List Spelled) → reads (tail_form (deeper r)) us ≡ Stopped rest → found_as if_view (reads (if_form r) ts) ≡ Stopped rest
  unfolding reads
  tail_stops rest e = ap (found_as if_view) (both_second (read_token (is sort (if_word ∷ []))) (reads (tail_form (deeper r))) ts i us rest a e)

  -- behind it there is no whole condition
  pub if_second : (rest : List Spelled) → found_as head_view (reads (head_form (deeper r)) us) ≡ Stopped rest → found_as if_view (reads (if_form r) ts) ≡ Stopped rest
  unfolding reads
  if_second rest e = tail_stops rest (both_first (reads (head_form (deeper r))) (reads (yes_form (deeper r))) us rest (as_stopped head_view (reads (head_form (deeper r)) us) rest e))

  module _ (vs : List Spelled) (x : Tall Expr) (b : found_as head_view (reads (head_form (deeper r)) us) ≡ Done x vs) where
    yes_stops : (rest : List Spelled) → reads (yes_form (deeper r)) vs ≡ Stopped rest → found_as if_view (reads (if_form r) ts) ≡ Stopped rest
    unfolding reads
    yes_stops rest e =
        let w = as_done head_view (reads (head_form (deeper r)) us) x vs b in
        tail_stops rest (both_second (reads (head_form (deeper r))) (reads (yes_form (deeper r))) us w.0 vs rest w.1 e)

    -- what is taken where it holds is no whole expression
    pub if_third : (rest : List Spelled) → read (deeper r) Expression vs ≡ Stopped rest → found_as if_view (reads (if_form r) ts) ≡ Stopped rest
    unfolding reads
    if_third rest e = yes_stops rest (both_first (read (deeper r) Expression) (reads (no_form (deeper r))) vs rest e)

    module _ (ws : List Spelled) (y : Tall Expr) (c : read (deeper r) Expression vs ≡ Done y ws) where
      no_stops : (rest : List Spelled) → reads (no_form (deeper r)) ws ≡ Stopped rest → found_as if_view (reads (if_form r) ts) ≡ Stopped rest
      unfolding reads
      no_stops rest e = yes_stops rest (both_second (read (deeper r) Expression) (reads (no_form (deeper r))) vs y ws rest c e)

      -- there is no `else`
      pub if_fourth : (rest : List Spelled) → read_token (is sort (else_word ∷ [])) ws ≡ Stopped rest → found_as if_view (reads (if_form r) ts) ≡ Stopped rest
      unfolding reads
      if_fourth rest e = no_stops rest (both_first (read_token (is sort (else_word ∷ []))) (read (deeper r) Expression) ws rest e)

      module _ (zs : List Spelled) (s : Spelled) (d : read_token (is sort (else_word ∷ [])) ws ≡ Done s zs) where
        -- what is taken else is no whole expression
        pub if_fifth : (rest : List Spelled) → read (deeper r) Expression zs ≡ Stopped rest → found_as if_view (reads (if_form r) ts) ≡ Stopped rest
        unfolding reads
        if_fifth rest e = no_stops rest (both_second (read_token (is sort (else_word ∷ []))) (read (deeper r) Expression) ws s zs rest d e)

        -- it is whole
        pub if_whole : (rest : List Spelled) (z : Tall Expr) (whole : Expr) (levels : ℕ) → read (deeper r) Expression zs ≡ Done z rest
            → whole ≡ expr (expr_kind.If x.0 y.0 z.0) (join i.span (span_of z.0)) → levels ≡ suc (max x.1 (max y.1 z.1)) → found_as if_view (reads (if_form r) ts) ≡ Done (whole, levels) rest
        unfolding reads
        if_whole rest z whole levels e f n =
            let w = as_done head_view (reads (head_form (deeper r)) us) x vs b in
            ap (found_as if_view) (both_done (read_token (is sort (if_word ∷ []))) (reads (tail_form (deeper r))) ts i us (w.0, (y, (s, z))) rest a
            (both_done (reads (head_form (deeper r))) (reads (yes_form (deeper r))) us w.0 vs (y, (s, z)) rest w.1
            (both_done (read (deeper r) Expression) (reads (no_form (deeper r))) vs y ws (s, z) rest c
            (both_done (read_token (is sort (else_word ∷ []))) (read (deeper r) Expression) ws s zs z rest d e))))
            ∙ (ap (λ (x : Tall Expr). Done (if_from i x y z) rest) w.2
            ∙ (ap (λ t. Done (t, suc (max x.1 (max y.1 z.1))) rest) (sym f) ∙ ap (λ n. Done (whole, n) rest) (sym n)))

-- an expression

abbrev matches_room : Levels → Tall Expr × List MatchedParts → Bool
matches_room r = chain_room sort T_of room (fits r) (at (Level 1) r) (at Matched r)

abbrev read_matches : Levels → Tall Expr → List Spelled → Found Spelled (List MatchedParts)
read_matches r x ts = read_all_steps (is sort (match_word ∷ [])) (read r Matched) (matches_room r) step_on (x, []) ts

abbrev read_chain : Levels → List Spelled → Found Spelled (Tall Expr × List MatchedParts)
read_chain r ts = read_then (read r (Level 1)) (read_matches r) ts

abbrev chain_from : Tall Expr × List MatchedParts → Tall Expr
chain_from v = folded match_to v.0 v.1

-- what begins with a token isn't empty
pub none_spelled : (s : Spells) (ks : List ℕ) (q : Form At) (p : Spelled × Val sort T_of q) → spells_form sort T_of room s (Then (Token ks) q) p [] → ⊥
none_spelled s ks q p (a, b, e, (f, g), w) = let same : [] ≡ (p.0 ∷ []) ++ b = e ∙ ap (λ a. a ++ b) f in absurd cc

abbrev cases_form : Levels → Form At
cases_form r = Then (Token (left_brace ∷ [])) (Then (Ref (at A_case r)) (Then (Many (Ref (at A_case r))) (Token (right_brace ∷ []))))

matched_shrinks : (r : Levels) → fits r ≡ true → Shrinks (read r Matched)
matched_shrinks r f = shrinks_read (spells_at Matched r) (read r Matched) (laws.reads all_seen Matched r f) (λ v w. none_spelled trees (match_word ∷ []) (cases_form (deeper r)) v w)

-- no `if` comes, or there is no room for one
abbrev pub NoIf : Levels → List Spelled → Type 0
NoIf r ts = (has (if_word ∷ []) (head_sort ts) ≡ false) ⊎ (fits r ≡ false)

-- no `match` comes, or there is no room for one, or none behind so many levels
abbrev pub NoMatch : Levels → ℕ → List Spelled → Type 0
NoMatch r n ts = (has (match_word ∷ []) (head_sort ts) ≡ false) ⊎ ((fits r ≡ false) ⊎ (holds (deeper r) n ≡ false))

module _ (r : Levels) (o : open_to r ≡ true) where
  expression_rule : (ts : List Spelled) → read r Expression ts ≡ found_as expression_from (read_either (guard (fits r) (is sort (if_word ∷ []))) (reads (if_form r)) (read_chain r) ts)
  unfolding reads
  expression_rule ts = sym (laws.rule_read all_seen Expression r o refl ts)

  -- it is an `if`
  pub expression_if : (ts : List Spelled) → fits r ≡ true → has (if_word ∷ []) (head_sort ts) ≡ true → read r Expression ts ≡ found_as if_view (reads (if_form r) ts)
  expression_if ts f h =
      expression_rule ts
      ∙ (ap (found_as expression_from) (room_left (if_word ∷ []) (reads (if_form r)) (read_chain r) (fits r) ts f refl h)
      ∙ found_as_as expression_from inl (reads (if_form r) ts))

  -- or else infix expressions, with a `match` or none
  expression_chain : (ts : List Spelled) → NoIf r ts → read r Expression ts ≡ found_as chain_from (read_chain r ts)
  expression_chain ts n = expression_rule ts ∙ (ap (found_as expression_from) (by n) ∙ found_as_as expression_from inr (read_chain r ts))
    where
      by : NoIf r ts → read_either (guard (fits r) (is sort (if_word ∷ []))) (reads (if_form r)) (read_chain r) ts ≡ found_as inr (read_chain r ts)
      by (inl h) = room_right (if_word ∷ []) (reads (if_form r)) (read_chain r) (fits r) ts h
      by (inr f) = room_shut (if_word ∷ []) (reads (if_form r)) (read_chain r) (fits r) ts f

  -- the first stops
  pub expression_halts : (ts : List Spelled) → NoIf r ts → (rest : List Spelled) → read r (Level 1) ts ≡ Stopped rest → read r Expression ts ≡ Stopped rest
  expression_halts ts n rest e = expression_chain ts n ∙ ap (found_as chain_from) (then_first (read r (Level 1)) (read_matches r) ts rest e)

  -- a loop that is open but once
  abbrev matches_from : Tall Expr × List MatchedParts → List Spelled → Found Spelled (Tall Expr × List MatchedParts)
  matches_from v ts = grown (is sort (match_word ∷ [])) (matches_room r) (read r Matched) step_on v ts

  listed : (x : Tall Expr) (vs ws : List MatchedParts) → folded step_on (x, vs) ws ≡ (x, vs ++ ws)
  listed x vs [] = ap (λ vs. (x, vs)) (sym (append-nil vs))
  listed x vs (w ∷ ws) = listed x (vs ++ w ∷ []) ws ∙ ap (λ vs. (x, vs)) (append_assoc vs (w ∷ []) ws)

  expression_goes : (ts rest : List Spelled) (x : Tall Expr) → NoIf r ts → read r (Level 1) ts ≡ Done x rest → read r Expression ts ≡ found_as chain_from (matches_from (x, []) rest)
  expression_goes ts rest x n e =
      let pair : List MatchedParts → Tall Expr × List MatchedParts = λ vs. (x, vs) in
      expression_chain ts n
      ∙ (ap (found_as chain_from) (then_go (read r (Level 1)) (read_matches r) ts x rest e)
      ∙ ap (found_as chain_from) (same (read_matches r x rest)
      ∙ steps_grown (is sort (match_word ∷ [])) (matches_room r) (read r Matched) step_on (matches_room r) step_on (λ s. s) (λ s q. refl) (λ s. refl) (x, []) rest))
    where
      same : (f : Found Spelled (List MatchedParts)) → found_as (λ vs. (x, vs)) f ≡ found_as (λ vs. folded step_on (x, []) vs) f
      same (Done vs left) = ap (λ v. Done v left) (sym (listed x [] vs))
      same (Stopped left) = refl

  -- no `match` is behind it
  pub expression_plain : (ts : List Spelled) → NoIf r ts → (rest : List Spelled) (x : Tall Expr) → read r (Level 1) ts ≡ Done x rest → NoMatch r x.1 rest → read r Expression ts ≡ Done x rest
  expression_plain ts n rest x e m = expression_goes ts rest x n e ∙ ap (found_as chain_from) (by m)
    where
      shut : (a b : Bool) → (a ≡ false) ⊎ (b ≡ false) → and a b ≡ false
      shut true b (inl e) = absurd cc
      shut true b (inr e) = e
      shut false b e = refl

      by : NoMatch r x.1 rest → matches_from (x, []) rest ≡ Done (x, []) rest
      by (inl h) = loop_ends (match_word ∷ []) (matches_room r) (read r Matched) step_on (x, []) rest h
      by (inr h) = loop_shut (match_word ∷ []) (matches_room r) (read r Matched) step_on (x, []) rest (shut (fits r) (holds (deeper r) x.1) h)

  module _ (ts : List Spelled) (n : NoIf r ts) (rest : List Spelled) (x : Tall Expr) (e : read r (Level 1) ts ≡ Done x rest) (f : fits r ≡ true) (g : holds (deeper r) x.1 ≡ true)
      (h : has (match_word ∷ []) (head_sort rest) ≡ true) where
    opened : matches_room r (x, []) ≡ true
    opened = rw (f) g

    -- a `match` is behind it, and no whole one
    pub expression_stops : (left : List Spelled) → found_as cases_view (read r Matched rest) ≡ Stopped left → read r Expression ts ≡ Stopped left
    expression_stops left d =
        expression_goes ts rest x n e
        ∙ ap (found_as chain_from) (loop_stops (match_word ∷ []) (matches_room r) (read r Matched) step_on (x, []) rest left refl h opened (as_stopped cases_view (read r Matched rest) left d))

    -- a whole one
    pub expression_matched : (left : List Spelled) (cases : List Case) (levels more : ℕ) (close : Span) (whole : Expr) → found_as cases_view (read r Matched rest) ≡ Done (cases, (levels, close)) left
        → whole ≡ expr (expr_kind.Match x.0 cases) (join (span_of x.0) close) → more ≡ suc (max x.1 levels) → read r Expression ts ≡ Done (whole, more) left
    expression_matched left cases levels more close whole d same m =
        let v = as_done cases_view (read r Matched rest) (cases, (levels, close)) left d in
        expression_goes ts rest x n e
        ∙ (ap (found_as chain_from)
        (loop_goes (match_word ∷ []) (matches_room r) (read r Matched) step_on (matched_shrinks r f) (x, []) rest v.0 left refl h opened v.1
        ∙ loop_shut (match_word ∷ []) (matches_room r) (read r Matched) step_on (x, v.0 ∷ []) left (rw (f) refl))
        ∙ (ap (λ (p : List Case × (ℕ × Span)). Done (expr (expr_kind.Match x.0 p.0) (join (span_of x.0) p.1.1), suc (max x.1 p.1.0)) left) v.2
        ∙ (ap (λ t. Done (t, suc (max x.1 levels)) left) (sym same) ∙ ap (λ n. Done (whole, n) left) (sym m))))
