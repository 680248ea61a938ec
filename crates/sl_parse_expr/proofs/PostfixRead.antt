-- What has suffixes, as the code reads it.
use Rattle.std.proofs.Common.{◌≡◌, ℕ, suc, List, [], ◌∷◌, ◌++◌, refl, ap, ◌∙◌, sym, inl, inr, ◌⊎◌, Bool, true, false}
use Rattle.std.specs.Prelude.{max}
use Rattle.sl_text.specs.declared.place.Span.{Span}
use Rattle.sl_grammar.specs.Phrase.{Found, Done, Stopped, found_then, read_both, read_either, read_token}
use Rattle.sl_grammar.specs.Law.{found_as}
use Rattle.sl_grammar.specs.Guard.{guard}
use Rattle.sl_grammar.specs.Grammar.{Token, Ref, Then, is, has, and, chain_room}
use Rattle.sl_grammar.specs.Growing.{grown}
use Rattle.sl_grammar.proofs.Growing.{found_as_as, chain_grown, shrinks_read}
use Rattle.sl_tree.specs.Sorts.{Spelled, sort, dot, left_bracket, right_bracket, left_parenthesis, right_parenthesis, this_word}
use Rattle.sl_tree.specs.WellShaped.{join, expr, names, literals}
use Rattle.sl_tree.specs.declared.tree.Expr.{Expr}
use Rattle.sl_tree.specs.declared.tree.TypeTerm.{TypeTerm}
use Rattle.sl_tree.specs.declared.tree.ExprKind.TheVariants as expr_kind
use Rattle.sl_parse_expr.specs.Names.{Type_term, Expression, Postfix, Suffix, Arguments, Primary, at, Levels, holds, open_to, deeper, fits, listed, types_form, head_form}
use Rattle.sl_parse_expr.specs.Values.{Tall, T_of, ArgumentsParts, SuffixParts, TypesParts, span_of, token_expr, apply_to, suffix_to, primary_from}
use Rattle.sl_parse_expr.specs.Grammar.{read, room, suffix_kinds, parts, spells_at}
use Rattle.sl_parse_expr.specs.Told.{head_sort, reads, types_view}
use Rattle.sl_parse_expr.proofs.Laws as laws
use Rattle.sl_parse_expr.proofs.AllSeen.{all_seen}
use Rattle.sl_parse_expr.proofs.Telling.{Shrinks, as_done, as_stopped, both_first, both_second, both_done, either_left, either_right, room_left, room_right, room_shut, either_fails, loop_ends, loop_shut, loop_stops, loop_goes}
use Rattle.sl_parse_expr.proofs.ExpressionsRead.{inside_form, none_spelled}
use Rattle.sl_parse_expr.proofs.LevelsRead.{found_same}

-- what no suffix belongs to

abbrev single : List ℕ
single = literals ++ names ++ this_word ∷ []

-- no parenthesis comes, or there is no room for one
abbrev pub NoParen : Levels → List Spelled → Type 0
NoParen r ts = (has (left_parenthesis ∷ []) (head_sort ts) ≡ false) ⊎ (fits r ≡ false)

module _ (r : Levels) (o : open_to r ≡ true) where
  primary_rule : (ts : List Spelled)
      → read r Primary ts ≡ found_as primary_from (read_either (guard (fits r) (is sort (left_parenthesis ∷ []))) (reads (head_form (deeper r))) (read_token (is sort single)) ts)
  unfolding reads
  primary_rule ts = sym (laws.rule_read all_seen Primary r o refl ts)

  module _ (ts us : List Spelled) (p : Spelled) (f : fits r ≡ true) (h : has (left_parenthesis ∷ []) (head_sort ts) ≡ true) (a : read_token (is sort (left_parenthesis ∷ [])) ts ≡ Done p us) where
    primary_inside : read r Primary ts ≡ found_as (λ v. primary_from (inl v)) (reads (head_form (deeper r)) ts)
    primary_inside =
        primary_rule ts
        ∙ (ap (found_as primary_from) (room_left (left_parenthesis ∷ []) (reads (head_form (deeper r))) (read_token (is sort single)) (fits r) ts f refl h)
        ∙ found_as_as primary_from inl (reads (head_form (deeper r)) ts))

    inside_stops : (rest : List Spelled) → reads (inside_form (deeper r)) us ≡ Stopped rest → read r Primary ts ≡ Stopped rest
    unfolding reads
    inside_stops rest e =
        primary_inside ∙ ap (found_as (λ v. primary_from (inl v))) (both_second (read_token (is sort (left_parenthesis ∷ []))) (reads (inside_form (deeper r))) ts p us rest a e)

    -- in parentheses there is no whole expression
    pub paren_stops : (rest : List Spelled) → read (deeper r) Expression us ≡ Stopped rest → read r Primary ts ≡ Stopped rest
    unfolding reads
    paren_stops rest e = inside_stops rest (both_first (read (deeper r) Expression) (read_token (is sort (right_parenthesis ∷ []))) us rest e)

    -- the parenthesis that closes them is missing
    pub paren_unclosed : (vs : List Spelled) (x : Tall Expr) → read (deeper r) Expression us ≡ Done x vs → (rest : List Spelled) → read_token (is sort (right_parenthesis ∷ [])) vs ≡ Stopped rest → read r Primary ts ≡ Stopped rest
    unfolding reads
    paren_unclosed vs x b rest e = inside_stops rest (both_second (read (deeper r) Expression) (read_token (is sort (right_parenthesis ∷ []))) us x vs rest b e)

    -- they are whole
    pub paren_whole : (vs : List Spelled) (x : Tall Expr) → read (deeper r) Expression us ≡ Done x vs → (rest : List Spelled) (q : Spelled) (whole : Expr) (levels : ℕ)
        → read_token (is sort (right_parenthesis ∷ [])) vs ≡ Done q rest → whole ≡ expr (expr_kind.Paren x.0) (join p.span q.span) → levels ≡ suc x.1 → read r Primary ts ≡ Done (whole, levels) rest
    unfolding reads
    paren_whole vs x b rest q whole levels e s n =
        primary_inside
        ∙ (ap (found_as (λ v. primary_from (inl v)))
        (both_done (read_token (is sort (left_parenthesis ∷ []))) (reads (inside_form (deeper r))) ts p us (x, q) rest a
        (both_done (read (deeper r) Expression) (read_token (is sort (right_parenthesis ∷ []))) us x vs q rest b e))
        ∙ (ap (λ t. Done (t, suc x.1) rest) (sym s) ∙ ap (λ n. Done (whole, n) rest) (sym n)))

  -- it is one token, or none
  pub primary_single : (ts : List Spelled) → NoParen r ts → read r Primary ts ≡ found_as (λ k. (token_expr k, 1)) (read_token (is sort (literals ++ names ++ this_word ∷ [])) ts)
  primary_single ts n = primary_rule ts ∙ (ap (found_as primary_from) (by n) ∙ found_as_as primary_from inr (read_token (is sort single) ts))
    where
      by : NoParen r ts → read_either (guard (fits r) (is sort (left_parenthesis ∷ []))) (reads (head_form (deeper r))) (read_token (is sort single)) ts ≡ found_as inr (read_token (is sort single) ts)
      by (inl h) = room_right (left_parenthesis ∷ []) (reads (head_form (deeper r))) (read_token (is sort single)) (fits r) ts h
      by (inr f) = room_shut (left_parenthesis ∷ []) (reads (head_form (deeper r))) (read_token (is sort single)) (fits r) ts f

-- suffixes

abbrev suffixes_open : Levels → Tall Expr → Bool
suffixes_open r x = and (fits r) (holds (deeper r) x.1)

-- an expression, and the suffixes that follow it
unfoldable pub suffixes_from : Levels → Tall Expr → List Spelled → Found Spelled (Tall Expr)
suffixes_from r x ts = grown (is sort suffix_kinds) (suffixes_open r) (read r Suffix) suffix_to x ts

module _ (r : Levels) (o : open_to r ≡ true) where
  postfix_chain : (ts : List Spelled) → read r Postfix ts ≡ found_then (read r Primary ts) (λ x rest. suffixes_from r x rest)
  unfolding suffixes_from
  postfix_chain ts =
      sym (laws.rule_read all_seen Postfix r o refl ts)
      ∙ chain_grown (is sort suffix_kinds) (suffixes_open r) (read r Suffix) suffix_to (read r Primary) (chain_room sort T_of room (fits r) (at Primary r) (at Suffix r)) (λ x qs. refl) ts

  -- what they belong to stops
  pub postfix_halts : (ts rest : List Spelled) → read r Primary ts ≡ Stopped rest → read r Postfix ts ≡ Stopped rest
  postfix_halts ts rest e = postfix_chain ts ∙ ap (λ f. found_then f (λ x rest. suffixes_from r x rest)) e

  -- what they belong to, and the loop behind it
  pub postfix_begins : (ts rest : List Spelled) (x : Tall Expr) → read r Primary ts ≡ Done x rest → read r Postfix ts ≡ suffixes_from r x rest
  postfix_begins ts rest x e = postfix_chain ts ∙ ap (λ f. found_then f (λ x rest. suffixes_from r x rest)) e

-- a suffix

abbrev read_select : List Spelled → Found Spelled (Spelled × Spelled)
read_select ts = read_both (read_token (is sort (dot ∷ []))) (read_token (is sort names)) ts

abbrev read_apply : Levels → List Spelled → Found Spelled (Spelled × ArgumentsParts)
read_apply r ts = read_both (read_token (is sort (left_parenthesis ∷ []))) (read (deeper r) Arguments) ts

abbrev read_given : Levels → List Spelled → Found Spelled (TypesParts ⊎ (Spelled × ArgumentsParts))
read_given r ts = read_either (is sort (left_bracket ∷ [])) (reads (types_form (deeper r))) (read_apply r) ts

module _ (r : Levels) (f : fits r ≡ true) where
  suffix_rule : (ts : List Spelled) → read r Suffix ts ≡ read_either (is sort (dot ∷ [])) read_select (read_given r) ts
  unfolding reads
  suffix_rule ts = sym (laws.rule_read all_seen Suffix r f refl ts) ∙ found_same (read_either (is sort (dot ∷ [])) read_select (read_given r) ts)

  suffix_shrinks : Shrinks (read r Suffix)
  suffix_shrinks = shrinks_read (spells_at Suffix r) (read r Suffix) (laws.reads all_seen Suffix r f) none
    where
      none : (v : SuffixParts) → spells_at Suffix r v [] → ⊥
      none (inl v) w = none_spelled parts (dot ∷ []) (Token names) v w
      none (inr (inl v)) w = none_spelled parts (left_bracket ∷ []) (Then (listed Type_term (deeper r)) (Token (right_bracket ∷ []))) v w
      none (inr (inr v)) w = none_spelled parts (left_parenthesis ∷ []) (Ref (at Arguments (deeper r))) v w

  module _ (x : Tall Expr) (ts : List Spelled) where
    -- `.NAME`

    select_as : has (dot ∷ []) (head_sort ts) ≡ true → found_as (suffix_to x) (read r Suffix ts) ≡ found_as (λ v. suffix_to x (inl v)) (read_select ts)
    select_as h =
        ap (found_as (suffix_to x)) (suffix_rule ts ∙ either_left (dot ∷ []) read_select (read_given r) ts refl h) ∙ found_as_as (suffix_to x) inl (read_select ts)

    -- behind the dot there is no name
    pub select_stops : (more : List Spelled) (d : Spelled) → has (dot ∷ []) (head_sort ts) ≡ true → read_token (is sort (dot ∷ [])) ts ≡ Done d more → (rest : List Spelled) → read_token (is sort names) more ≡ Stopped rest
        → found_as (suffix_to x) (read r Suffix ts) ≡ Stopped rest
    select_stops more d h a rest e = select_as h ∙ ap (found_as (λ v. suffix_to x (inl v))) (both_second (read_token (is sort (dot ∷ []))) (read_token (is sort names)) ts d more rest a e)

    -- it is whole
    pub select_whole : (more : List Spelled) (d : Spelled) → has (dot ∷ []) (head_sort ts) ≡ true → read_token (is sort (dot ∷ [])) ts ≡ Done d more → (rest : List Spelled) (k : Spelled) (whole : Expr) (levels : ℕ)
        → read_token (is sort names) more ≡ Done k rest → whole ≡ expr (expr_kind.Select x.0 k.text) (join (span_of x.0) k.span) → levels ≡ suc x.1
        → found_as (suffix_to x) (read r Suffix ts) ≡ Done (whole, levels) rest
    select_whole more d h a rest k whole levels e s n =
        select_as h
        ∙ (ap (found_as (λ v. suffix_to x (inl v))) (both_done (read_token (is sort (dot ∷ []))) (read_token (is sort names)) ts d more k rest a e)
        ∙ (ap (λ t. Done (t, suc x.1) rest) (sym s) ∙ ap (λ n. Done (whole, n) rest) (sym n)))

    module _ (d : has (dot ∷ []) (head_sort ts) ≡ false) where
      other_as : found_as (suffix_to x) (read r Suffix ts) ≡ found_as (λ v. suffix_to x (inr v)) (read_given r ts)
      other_as = ap (found_as (suffix_to x)) (suffix_rule ts ∙ either_right (dot ∷ []) read_select (read_given r) ts d) ∙ found_as_as (suffix_to x) inr (read_given r ts)

      -- `[TYPE, ..]`

      given_as : has (left_bracket ∷ []) (head_sort ts) ≡ true → found_as (suffix_to x) (read r Suffix ts) ≡ found_as (λ v. suffix_to x (inr (inl v))) (reads (types_form (deeper r)) ts)
      given_as h =
          other_as
          ∙ (ap (found_as (λ v. suffix_to x (inr v))) (either_left (left_bracket ∷ []) (reads (types_form (deeper r))) (read_apply r) ts refl h)
          ∙ found_as_as (λ v. suffix_to x (inr v)) inl (reads (types_form (deeper r)) ts))

      -- the types stop
      pub given_stops : has (left_bracket ∷ []) (head_sort ts) ≡ true → (rest : List Spelled) → found_as types_view (reads (types_form (deeper r)) ts) ≡ Stopped rest
          → found_as (suffix_to x) (read r Suffix ts) ≡ Stopped rest
      given_stops h rest e = given_as h ∙ ap (found_as (λ v. suffix_to x (inr (inl v)))) (as_stopped types_view (reads (types_form (deeper r)) ts) rest e)

      -- they are whole
      pub given_whole : has (left_bracket ∷ []) (head_sort ts) ≡ true → (rest : List Spelled) (args : List TypeTerm) (more : ℕ) (close : Span) (whole : Expr) (levels : ℕ)
          → found_as types_view (reads (types_form (deeper r)) ts) ≡ Done (args, (more, close)) rest → whole ≡ expr (expr_kind.Given x.0 args) (join (span_of x.0) close) → levels ≡ suc (max x.1 more)
          → found_as (suffix_to x) (read r Suffix ts) ≡ Done (whole, levels) rest
      given_whole h rest args more close whole levels e s n =
          let v = as_done types_view (reads (types_form (deeper r)) ts) (args, (more, close)) rest e in
          given_as h
          ∙ (ap (found_as (λ v. suffix_to x (inr (inl v)))) v.1
          ∙ (ap (λ (p : List TypeTerm × (ℕ × Span)). Done (expr (expr_kind.Given x.0 p.0) (join (span_of x.0) p.1.1), suc (max x.1 p.1.0)) rest) v.2
          ∙ (ap (λ t. Done (t, suc (max x.1 more)) rest) (sym s) ∙ ap (λ n. Done (whole, n) rest) (sym n))))

      -- `(ARGUMENTS)`

      module _ (b : has (left_bracket ∷ []) (head_sort ts) ≡ false) where
        apply_as : found_as (suffix_to x) (read r Suffix ts) ≡ found_as (λ v. suffix_to x (inr (inr v))) (read_apply r ts)
        apply_as =
            other_as
            ∙ (ap (found_as (λ v. suffix_to x (inr v))) (either_right (left_bracket ∷ []) (reads (types_form (deeper r))) (read_apply r) ts b)
            ∙ found_as_as (λ v. suffix_to x (inr v)) inr (read_apply r ts))

        -- the parenthesis that opens them is missing
        pub apply_halts : (rest : List Spelled) → read_token (is sort (left_parenthesis ∷ [])) ts ≡ Stopped rest → found_as (suffix_to x) (read r Suffix ts) ≡ Stopped rest
        apply_halts rest a = apply_as ∙ ap (found_as (λ v. suffix_to x (inr (inr v)))) (both_first (read_token (is sort (left_parenthesis ∷ []))) (read (deeper r) Arguments) ts rest a)

        -- they stop
        pub apply_stops : (more : List Spelled) (k : Spelled) → read_token (is sort (left_parenthesis ∷ [])) ts ≡ Done k more → (rest : List Spelled) → read (deeper r) Arguments more ≡ Stopped rest
            → found_as (suffix_to x) (read r Suffix ts) ≡ Stopped rest
        apply_stops more k a rest e =
            apply_as ∙ ap (found_as (λ v. suffix_to x (inr (inr v)))) (both_second (read_token (is sort (left_parenthesis ∷ []))) (read (deeper r) Arguments) ts k more rest a e)

        -- they are whole
        pub apply_whole : (more : List Spelled) (k : Spelled) → read_token (is sort (left_parenthesis ∷ [])) ts ≡ Done k more → (rest : List Spelled) (v : ArgumentsParts) (y : Tall Expr)
            → read (deeper r) Arguments more ≡ Done v rest → y ≡ apply_to x v → found_as (suffix_to x) (read r Suffix ts) ≡ Done y rest
        apply_whole more k a rest v y e s =
            apply_as
            ∙ (ap (found_as (λ v. suffix_to x (inr (inr v)))) (both_done (read_token (is sort (left_parenthesis ∷ []))) (read (deeper r) Arguments) ts k more v rest a e)
            ∙ ap (λ y. Done y rest) (sym s))

-- the loop

module _ (r : Levels) (x : Tall Expr) (ts : List Spelled) where
  -- no suffix comes
  pub suffixes_ends : has suffix_kinds (head_sort ts) ≡ false → suffixes_from r x ts ≡ Done x ts
  unfolding suffixes_from
  suffixes_ends h = loop_ends suffix_kinds (suffixes_open r) (read r Suffix) suffix_to x ts h

  -- there is no room for one
  pub suffixes_shut : fits r ≡ false → suffixes_from r x ts ≡ Done x ts
  unfolding suffixes_from
  suffixes_shut f = loop_shut suffix_kinds (suffixes_open r) (read r Suffix) suffix_to x ts (rw (f) refl)

  -- there is none behind so many levels
  pub suffixes_full : holds (deeper r) x.1 ≡ false → suffixes_from r x ts ≡ Done x ts
  unfolding suffixes_from
  suffixes_full h = loop_shut suffix_kinds (suffixes_open r) (read r Suffix) suffix_to x ts (by (fits r))
    where
      by : (b : Bool) → and b (holds (deeper r) x.1) ≡ false
      by true = h
      by false = refl

  -- one of these
  pub suffixes_end : and (and (fits r) (holds (deeper r) x.1)) (has suffix_kinds (head_sort ts)) ≡ false → suffixes_from r x ts ≡ Done x ts
  suffixes_end e = by (either_fails (and (fits r) (holds (deeper r) x.1)) (has suffix_kinds (head_sort ts)) e)
    where
      shut : (holds (deeper r) x.1 ≡ false) ⊎ (fits r ≡ false) → suffixes_from r x ts ≡ Done x ts
      shut (inl g) = suffixes_full g
      shut (inr f) = suffixes_shut f

      by : (has suffix_kinds (head_sort ts) ≡ false) ⊎ (and (fits r) (holds (deeper r) x.1) ≡ false) → suffixes_from r x ts ≡ Done x ts
      by (inl h) = suffixes_ends h
      by (inr o) = shut (either_fails (fits r) (holds (deeper r) x.1) o)

  module _ (f : fits r ≡ true) (g : holds (deeper r) x.1 ≡ true) (h : has suffix_kinds (head_sort ts) ≡ true) where
    suffixes_opened : suffixes_open r x ≡ true
    suffixes_opened = rw (f) g

    -- one comes, and no whole one
    pub suffixes_stops : (rest : List Spelled) → found_as (suffix_to x) (read r Suffix ts) ≡ Stopped rest → suffixes_from r x ts ≡ Stopped rest
    unfolding suffixes_from
    suffixes_stops rest e = loop_stops suffix_kinds (suffixes_open r) (read r Suffix) suffix_to x ts rest refl h suffixes_opened (as_stopped (suffix_to x) (read r Suffix ts) rest e)

    -- a whole one
    pub suffixes_goes : (rest : List Spelled) (y : Tall Expr) → found_as (suffix_to x) (read r Suffix ts) ≡ Done y rest → suffixes_from r x ts ≡ suffixes_from r y rest
    unfolding suffixes_from
    suffixes_goes rest y e =
        let v = as_done (suffix_to x) (read r Suffix ts) y rest e in
        loop_goes suffix_kinds (suffixes_open r) (read r Suffix) suffix_to (suffix_shrinks r f) x ts v.0 rest refl h suffixes_opened v.1 ∙ ap (λ y. suffixes_from r y rest) v.2
