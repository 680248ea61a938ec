-- A statement that begins with an expression, or is skipped, as the code reads it.
use Rattle.std.proofs.Common.{◌≡◌, ℕ, suc, List, [], ◌∷◌, length, max, refl, ap, ◌∙◌, sym, inl, inr, ◌⊎◌, Bool, true, false, if◌then◌else◌}
use Rattle.sl_text.specs.declared.place.Span.{Span}
use Rattle.sl_grammar.specs.Phrase.{Found, Done, Stopped, found_then, read_both, read_either, read_token}
use Rattle.sl_grammar.specs.Law.{found_as, read_then, read_nothing}
use Rattle.sl_grammar.specs.Ahead.{leads, read_ahead}
use Rattle.sl_grammar.specs.Without.{read_without}
use Rattle.sl_grammar.specs.Many.{list_of}
use Rattle.sl_grammar.specs.Steps.{read_steps, read_all_steps}
use Rattle.sl_grammar.specs.Grammar.{is, has, and, step_on, read_form}
use Rattle.sl_grammar.specs.Brackets.{read_group}
use Rattle.sl_grammar.proofs.Grammar.{and_left, and_right}
use Rattle.sl_grammar.proofs.Growing.{found_as_as}
use Rattle.sl_tree.specs.Sorts.{Spelled, sort, equals, match_word, contract_name, left_parenthesis, prefixed_l}
use Rattle.sl_tree.specs.WellShaped.{join, expr, stmt, same_bracket, bracket_of, Round}
use Rattle.sl_tree.specs.declared.tree.Expr.{Expr}
use Rattle.sl_tree.specs.declared.tree.ExprKind.TheVariants as expr_kind
use Rattle.sl_tree.specs.declared.tree.Case.{Case}
use Rattle.sl_tree.specs.declared.tree.Stmt.{Stmt}
use Rattle.sl_tree.specs.declared.tree.StmtKind.TheVariants as stmt_kind
use Rattle.sl_parse_expr.specs.Names.{Expression, Level, Matched, Opening, Started, Begun, Assigned, Group, Levels, holds, open_to, deeper, fits, field_form, opening_form, skip_form}
use Rattle.sl_parse_expr.specs.Values.{Tall, T_of, FieldParts, MatchedParts, BegunParts, StartedParts, OpeningParts, opening_from, started_from, target_from, span_of}
use Rattle.sl_parse_expr.specs.Grammar.{grammar, room, read, room_at, choose}
use Rattle.sl_parse_expr.specs.Told.{head_sort, reader, reads, cases_view, assigned_form, assigned_to, read_skip, skip_view}
use Rattle.sl_parse_expr.proofs.Laws as laws
use Rattle.sl_parse_expr.proofs.AllSeen.{all_seen}
use Rattle.sl_parse_expr.proofs.Telling.{as_done, as_stopped, both_first, both_second, both_done, then_go, then_first, either_left, either_right, room_left}
use Rattle.sl_parse_expr.proofs.StatementsRead.{same_as, only_sort, and_first, room_not, token}

-- what is assigned to an expression that begins a statement, or nothing

abbrev read_field : Levels → List Spelled → Found Spelled FieldParts
read_field r ts = read_both (token (equals ∷ [])) (read r Expression) ts

module _ (r : Levels) (ts : List Spelled) where
  assigned_rule : reads (assigned_form r) ts ≡ read_either (is sort (equals ∷ [])) (read_field (deeper r)) read_nothing ts
  unfolding reads
  assigned_rule = refl

  -- no `=` comes
  pub assigned_none : (x : Expr) (n : ℕ) → has (equals ∷ []) (head_sort ts) ≡ false → found_as (assigned_to (x, n)) (reads (assigned_form r) ts) ≡ Done (stmt (stmt_kind.Call x) (span_of x), suc n) ts
  assigned_none x n h = ap (found_as (assigned_to (x, n))) (assigned_rule ∙ either_right (equals ∷ []) (read_field (deeper r)) read_nothing ts h)

  module _ (us : List Spelled) (s : Spelled) (x : Expr) (n : ℕ) (h : has (equals ∷ []) (head_sort ts) ≡ true) (a : read_token (is sort (equals ∷ [])) ts ≡ Done s us) where
    -- no whole expression is behind it
    pub assigned_stops : (rest : List Spelled) → read (deeper r) Expression us ≡ Stopped rest → found_as (assigned_to (x, n)) (reads (assigned_form r) ts) ≡ Stopped rest
    assigned_stops rest b =
        ap (found_as (assigned_to (x, n))) (assigned_rule ∙ (either_left (equals ∷ []) (read_field (deeper r)) read_nothing ts refl h ∙ ap (found_as inl) (both_second (token (equals ∷ [])) (read (deeper r) Expression) ts s us rest a b)))

    -- an expression is
    pub assigned_whole : (rest : List Spelled) (e : Expr) (m : ℕ) (span : Span) (levels : ℕ) → read (deeper r) Expression us ≡ Done (e, m) rest → span ≡ join (span_of x) (span_of e) → levels ≡ suc (max n m)
        → found_as (assigned_to (x, n)) (reads (assigned_form r) ts) ≡ Done (stmt (stmt_kind.Assign x e) span, levels) rest
    assigned_whole rest e m span levels b q l =
        ap (found_as (assigned_to (x, n)))
        (assigned_rule ∙ (either_left (equals ∷ []) (read_field (deeper r)) read_nothing ts refl h ∙ ap (found_as inl) (both_done (token (equals ∷ [])) (read (deeper r) Expression) ts s us (e, m) rest a b)))
        ∙ (ap (λ s. Done (stmt (stmt_kind.Assign x e) s, suc (max n m)) rest) (sym q) ∙ ap (λ l. Done (stmt (stmt_kind.Assign x e) span, l) rest) (sym l))

-- two tokens ahead

leads_no : (ks js : List ℕ) (ts : List Spelled) → has ks (head_sort ts) ≡ false → leads (is sort ks) (is sort js) ts ≡ false
leads_no ks js [] h = refl
leads_no ks js (k ∷ []) h = refl
leads_no ks js (k ∷ (j ∷ ts)) h = rw (h)

leads_second : (ks js : List ℕ) (ts us : List Spelled) (k : Spelled) → has js 99 ≡ false → read_token (is sort ks) ts ≡ Done k us → leads (is sort ks) (is sort js) ts ≡ has js (head_sort us)
leads_second ks js [] us k n e = absurd cc
leads_second ks js (i ∷ []) us k n e = by (has ks (sort i)) e
  where
    by : (b : Bool) → (if b then Done i [] else Stopped (i ∷ [])) ≡ Done k us → false ≡ has js (head_sort us)
    by true e = let same : [] ≡ us = cc in sym n ∙ ap (λ us. has js (head_sort us)) same
    by false e = absurd cc
leads_second ks js (i ∷ (j ∷ ts)) us k n e = by (has ks (sort i)) e
  where
    by : (b : Bool) → (if b then Done i (j ∷ ts) else Stopped (i ∷ (j ∷ ts))) ≡ Done k us → (if b then has js (sort j) else false) ≡ has js (head_sort us)
    by true e = let same : (j ∷ ts) ≡ us = cc in ap (λ us. has js (head_sort us)) same
    by false e = absurd cc

-- which of the two that decides

module _ {X Y : Type 0} (ks js : List ℕ) (g : List Spelled → Found Spelled X) (q : List Spelled → Found Spelled Y) (ts : List Spelled) where
  ahead_first : leads (is sort ks) (is sort js) ts ≡ true → read_ahead (is sort ks) (is sort js) g q ts ≡ found_as inl (read_both (token ks) g ts)
  ahead_first e = by (leads (is sort ks) (is sort js) ts) e
    where
      last : (f : Found Spelled (Spelled × X)) → found_then {Y = (Spelled × X) ⊎ Y} f (λ x left. Done (inl x) left) ≡ found_as inl f
      last (Done x left) = refl
      last (Stopped left) = refl

      by : (b : Bool) → b ≡ true
          → (if b then found_then {Y = (Spelled × X) ⊎ Y} (read_both (token ks) g ts) (λ x left. Done (inl x) left) else found_then (q ts) (λ y left. Done (inr y) left)) ≡ found_as inl (read_both (token ks) g ts)
      by true e = last (read_both (token ks) g ts)
      by false e = absurd cc

  ahead_second : leads (is sort ks) (is sort js) ts ≡ false → read_ahead (is sort ks) (is sort js) g q ts ≡ found_as inr (q ts)
  ahead_second e = by (leads (is sort ks) (is sort js) ts) e
    where
      last : (f : Found Spelled Y) → found_then {Y = (Spelled × X) ⊎ Y} f (λ y left. Done (inr y) left) ≡ found_as inr f
      last (Done y left) = refl
      last (Stopped left) = refl

      by : (b : Bool) → b ≡ false
          → (if b then found_then {Y = (Spelled × X) ⊎ Y} (read_both (token ks) g ts) (λ x left. Done (inl x) left) else found_then (q ts) (λ y left. Done (inr y) left)) ≡ found_as inr (q ts)
      by true e = absurd cc
      by false e = last (q ts)

without_goes : {X : Type 0} (ks : List ℕ) (g : List Spelled → Found Spelled X) (ts : List Spelled) → has ks (head_sort ts) ≡ false → read_without (is sort ks) g ts ≡ g ts
without_goes ks g [] h = refl
without_goes ks g (k ∷ ts) h = rw (h)

both_same : {X Y : Type 0} (l : List Spelled → Found Spelled X) (m n : List Spelled → Found Spelled Y) → ((ts : List Spelled) → m ts ≡ n ts) → (ts : List Spelled) → read_both l m ts ≡ read_both l n ts
both_same {X} {Y} l m n e ts = by (l ts)
  where
    by : (f : Found Spelled X) → found_then {Y = X × Y} f (λ x rest. found_then (m rest) (λ y left. Done (x, y) left)) ≡ found_then {Y = X × Y} f (λ x rest. found_then (n rest) (λ y left. Done (x, y) left))
    by (Done x rest) = ap (λ g. found_then {Y = X × Y} g (λ y left. Done (x, y) left)) (e rest)
    by (Stopped rest) = refl

-- what begins with an expression, or is skipped

abbrev read_whole : Levels → List Spelled → Found Spelled OpeningParts
read_whole r ts = read_ahead (is sort (contract_name ∷ [])) (is sort (left_parenthesis ∷ [])) (read r Group) (read_without (is sort (prefixed_l ∷ [])) (read r Started)) ts

abbrev read_skipped : Levels → List Spelled → Found Spelled (Spelled × List Spelled)
read_skipped r ts = read_both (token (contract_name ∷ [])) (read r Group) ts

opening_chosen : (r : Levels) (ts : List Spelled) (b : Bool) → b ≡ true
    → found_as (choose (opening_form r) (skip_form r) b (λ v. v) (λ v. inl v)) (read_form sort T_of room grammar.sets (if b then opening_form r else skip_form r) reader reader ts) ≡ read_whole r ts
opening_chosen r ts true e = same_as (read_whole r ts)
opening_chosen r ts false e = absurd cc

low_chosen : (r : Levels) (ts : List Spelled) (b : Bool) → b ≡ false
    → found_as (choose (opening_form r) (skip_form r) b (λ v. v) (λ v. inl v)) (read_form sort T_of room grammar.sets (if b then opening_form r else skip_form r) reader reader ts) ≡ found_as inl (read_skipped r ts)
low_chosen r ts true e = absurd cc
low_chosen r ts false e = refl

module _ (r : Levels) (o : open_to r ≡ true) (ts : List Spelled) where
  opening_rule : fits r ≡ true → read r Opening ts ≡ read_whole r ts
  opening_rule f = sym (laws.rule_read all_seen Opening r o refl ts) ∙ opening_chosen r ts (fits r) f

  low_rule : fits r ≡ false → read r Opening ts ≡ found_as inl (read_skipped r ts)
  low_rule f = sym (laws.rule_read all_seen Opening r o refl ts) ∙ low_chosen r ts (fits r) f

  skip_same : found_as opening_from (found_as inl (read_skipped r ts)) ≡ found_as skip_view (read_skip ts)
  skip_same = found_as_as opening_from inl (read_skipped r ts) ∙ ap (found_as skip_view) (both_same (token (contract_name ∷ [])) (read r Group) (read_group same_bracket bracket_of Round) (laws.group_read r) ts)

  -- `Contract (` or `Invariant (` comes: it is skipped
  pub opening_skips : (us : List Spelled) (k : Spelled) → fits r ≡ true → read_token (is sort (contract_name ∷ [])) ts ≡ Done k us → has (left_parenthesis ∷ []) (head_sort us) ≡ true
      → found_as opening_from (read r Opening ts) ≡ found_as skip_view (read_skip ts)
  opening_skips us k f a h =
      ap (found_as opening_from) (opening_rule f ∙ ahead_first (contract_name ∷ []) (left_parenthesis ∷ []) (read r Group) (read_without (is sort (prefixed_l ∷ [])) (read r Started)) ts
      (leads_second (contract_name ∷ []) (left_parenthesis ∷ []) ts us k refl a ∙ h))
      ∙ skip_same

  -- there is no room for anything else
  pub opening_low : fits r ≡ false → found_as opening_from (read r Opening ts) ≡ found_as skip_view (read_skip ts)
  opening_low f = ap (found_as opening_from) (low_rule f) ∙ skip_same

  started_comes : fits r ≡ true → leads (is sort (contract_name ∷ [])) (is sort (left_parenthesis ∷ [])) ts ≡ false → has (prefixed_l ∷ []) (head_sort ts) ≡ false
      → found_as opening_from (read r Opening ts) ≡ found_as started_from (read r Started ts)
  started_comes f e l =
      ap (found_as opening_from) (opening_rule f ∙ (ahead_second (contract_name ∷ []) (left_parenthesis ∷ []) (read r Group) (read_without (is sort (prefixed_l ∷ [])) (read r Started)) ts e
      ∙ ap (found_as inr) (without_goes (prefixed_l ∷ []) (read r Started) ts l)))
      ∙ found_as_as opening_from inr (read r Started ts)

  -- it begins with an expression
  pub opening_starts : fits r ≡ true → has (contract_name ∷ []) (head_sort ts) ≡ false → has (prefixed_l ∷ []) (head_sort ts) ≡ false → found_as opening_from (read r Opening ts) ≡ found_as started_from (read r Started ts)
  opening_starts f h l = started_comes f (leads_no (contract_name ∷ []) (left_parenthesis ∷ []) ts h) l

  -- and with `Contract` or `Invariant` as a name
  pub opening_named : (us : List Spelled) (k : Spelled) → fits r ≡ true → has (contract_name ∷ []) (head_sort ts) ≡ true → read_token (is sort (contract_name ∷ [])) ts ≡ Done k us
      → has (left_parenthesis ∷ []) (head_sort us) ≡ false → found_as opening_from (read r Opening ts) ≡ found_as started_from (read r Started ts)
  opening_named us k f h a n =
      started_comes f (leads_second (contract_name ∷ []) (left_parenthesis ∷ []) ts us k refl a ∙ n) (only_sort contract_name (head_sort ts) (prefixed_l ∷ []) h refl)

  -- what the code tests: it is skipped, or there is no room for anything else
  module _ (us : List Spelled) (here : has (contract_name ∷ []) (head_sort ts) ≡ true → (k : Spelled) × (read_token (is sort (contract_name ∷ [])) ts ≡ Done k us)) where
    pub opening_skipped : (if fits r then and (has (contract_name ∷ []) (head_sort ts)) (has (left_parenthesis ∷ []) (head_sort us)) else true) ≡ true
        → found_as opening_from (read r Opening ts) ≡ found_as skip_view (read_skip ts)
    opening_skipped e = by (fits r) refl e
      where
        by : (b : Bool) → fits r ≡ b → (if b then and (has (contract_name ∷ []) (head_sort ts)) (has (left_parenthesis ∷ []) (head_sort us)) else true) ≡ true
            → found_as opening_from (read r Opening ts) ≡ found_as skip_view (read_skip ts)
        by true f e =
            let k = here (and_left (has (contract_name ∷ []) (head_sort ts)) (has (left_parenthesis ∷ []) (head_sort us)) e) in
            opening_skips us k.0 f k.1 (and_right (has (contract_name ∷ []) (head_sort ts)) (has (left_parenthesis ∷ []) (head_sort us)) e)
        by false f e = opening_low f

    -- or it begins with an expression, for which there is room
    pub opening_begins : has (prefixed_l ∷ []) (head_sort ts) ≡ false → (if fits r then and (has (contract_name ∷ []) (head_sort ts)) (has (left_parenthesis ∷ []) (head_sort us)) else true) ≡ false
        → (fits r ≡ true) × (found_as opening_from (read r Opening ts) ≡ found_as started_from (read r Started ts))
    opening_begins l e = by (fits r) refl e
      where
        named : (b : Bool) → has (contract_name ∷ []) (head_sort ts) ≡ b → fits r ≡ true → and b (has (left_parenthesis ∷ []) (head_sort us)) ≡ false
            → found_as opening_from (read r Opening ts) ≡ found_as started_from (read r Started ts)
        named true h f e = let k = here h in opening_named us k.0 f h k.1 e
        named false h f e = opening_starts f h l

        by : (b : Bool) → fits r ≡ b → (if b then and (has (contract_name ∷ []) (head_sort ts)) (has (left_parenthesis ∷ []) (head_sort us)) else true) ≡ false
            → (fits r ≡ true) × (found_as opening_from (read r Opening ts) ≡ found_as started_from (read r Started ts))
        by true f e = (f, named (has (contract_name ∷ []) (head_sort ts)) refl f e)
        by false f e = absurd cc

-- what begins with an expression, and may be a `match`

abbrev maybe_matched : Levels → List Spelled → Found Spelled (MatchedParts ⊎ Unit {0})
maybe_matched r ts = read_either (is sort (match_word ∷ [])) (read r Matched) read_nothing ts

abbrev assigned_room : Levels → BegunParts × List FieldParts → Bool
assigned_room r s = room_at Begun Assigned r s.0 s.1

-- what is assigned to it, of which there is one at most

abbrev steps : Levels → BegunParts → List Spelled → Found Spelled (List FieldParts)
steps r y ts = read_all_steps (is sort (equals ∷ [])) (read r Assigned) (assigned_room r) step_on (y, []) ts

abbrev steps_behind : Levels → BegunParts → ℕ → FieldParts → List Spelled → Found Spelled (List FieldParts)
steps_behind r y n q ts = read_steps (is sort (equals ∷ [])) (read r Assigned) (assigned_room r) step_on n (y, q ∷ []) ts

abbrev one_step : Levels → BegunParts → ℕ → List Spelled → Found Spelled (FieldParts × List FieldParts)
one_step r y n ts = read_then (read r Assigned) (steps_behind r y n) ts

shut_behind : (r : Levels) (y : BegunParts) (q : FieldParts) → assigned_room r (y, q ∷ []) ≡ false
shut_behind r (x, inl v) q = refl
shut_behind r (x, inr none) q = refl

module _ (r : Levels) (f : fits r ≡ true) where
  field_rule : (ts : List Spelled) → read r Assigned ts ≡ reads (field_form (deeper r)) ts
  unfolding reads
  field_rule ts = sym (laws.rule_read all_seen Assigned r f refl ts) ∙ same_as (read_field (deeper r) ts)

  steps_none : (y : BegunParts) (ts : List Spelled) → and (assigned_room r (y, [])) (has (equals ∷ []) (head_sort ts)) ≡ false → steps r y ts ≡ Done [] ts
  steps_none y ts h = ap (found_as list_of) (room_not (equals ∷ []) (one_step r y (length ts)) read_nothing (assigned_room r (y, [])) ts h)

  steps_stops : (y : BegunParts) (ts rest : List Spelled) → assigned_room r (y, []) ≡ true → has (equals ∷ []) (head_sort ts) ≡ true → read r Assigned ts ≡ Stopped rest → steps r y ts ≡ Stopped rest
  steps_stops y ts rest o h e =
      ap (found_as list_of) (room_left (equals ∷ []) (one_step r y (length ts)) read_nothing (assigned_room r (y, [])) ts o refl h ∙ ap (found_as inl) (then_first (read r Assigned) (steps_behind r y (length ts)) ts rest e))

  none_behind : (y : BegunParts) (q : FieldParts) (n : ℕ) (ts : List Spelled) → steps_behind r y (suc n) q ts ≡ Done [] ts
  none_behind y q n ts =
      let go : List Spelled → Found Spelled (FieldParts × List FieldParts) = read_then (read r Assigned) (λ p. read_steps (is sort (equals ∷ [])) (read r Assigned) (assigned_room r) step_on n (step_on (y, q ∷ []) p)) in
      ap (found_as list_of) (room_not (equals ∷ []) go read_nothing (assigned_room r (y, q ∷ [])) ts (and_first (assigned_room r (y, q ∷ [])) (has (equals ∷ []) (head_sort ts)) (shut_behind r y q)))

  steps_one : (y : BegunParts) (ts rest : List Spelled) (q : FieldParts) → assigned_room r (y, []) ≡ true → has (equals ∷ []) (head_sort ts) ≡ true → read r Assigned ts ≡ Done q rest → steps r y ts ≡ Done (q ∷ []) rest
  steps_one y [] rest q o h e = absurd cc
  steps_one y (k ∷ ts) rest q o h e =
      let pair : List FieldParts → FieldParts × List FieldParts = λ qs. (q, qs) in
      ap (found_as list_of) (room_left (equals ∷ []) (one_step r y (suc (length ts))) read_nothing (assigned_room r (y, [])) (k ∷ ts) o refl h
      ∙ ap (found_as inl) (then_go (read r Assigned) (steps_behind r y (suc (length ts))) (k ∷ ts) q rest e ∙ ap (found_as pair) (none_behind y q (length ts) rest)))

  -- an `=` comes, for which there is room
  assigned_comes : (y : BegunParts) (ts : List Spelled) → assigned_room r (y, []) ≡ true → has (equals ∷ []) (head_sort ts) ≡ true
      → found_as (λ qs. started_from (y, qs)) (steps r y ts) ≡ found_as (assigned_to (target_from y)) (reads (assigned_form r) ts)
  unfolding reads
  assigned_comes y ts o h = by (read r Assigned ts) refl
    where
      form : reads (assigned_form r) ts ≡ found_as inl (read r Assigned ts)
      form = either_left (equals ∷ []) (read_field (deeper r)) read_nothing ts refl h ∙ ap (found_as inl) (sym (field_rule ts))

      by : (g : Found Spelled FieldParts) → read r Assigned ts ≡ g → found_as (λ qs. started_from (y, qs)) (steps r y ts) ≡ found_as (assigned_to (target_from y)) (reads (assigned_form r) ts)
      by (Done q rest) e = ap (found_as (λ qs. started_from (y, qs))) (steps_one y ts rest q o h e) ∙ sym (ap (found_as (assigned_to (target_from y))) (form ∙ ap (found_as inl) e))
      by (Stopped rest) e = ap (found_as (λ qs. started_from (y, qs))) (steps_stops y ts rest o h e) ∙ sym (ap (found_as (assigned_to (target_from y))) (form ∙ ap (found_as inl) e))

module _ (r : Levels) (f : fits r ≡ true) (ts : List Spelled) where
  begun_rule : read r Begun ts ≡ read_both (read (deeper r) (Level 1)) (maybe_matched r) ts
  begun_rule = sym (laws.rule_read all_seen Begun r f refl ts) ∙ same_as (read_both (read (deeper r) (Level 1)) (maybe_matched r) ts)

  started_rule : read r Started ts ≡ read_then (read r Begun) (steps r) ts
  started_rule = sym (laws.rule_read all_seen Started r f refl ts) ∙ same_as (read_then (read r Begun) (steps r) ts)

  begun_stops : (rest : List Spelled) → read r Begun ts ≡ Stopped rest → found_as started_from (read r Started ts) ≡ Stopped rest
  begun_stops rest e = ap (found_as started_from) (started_rule ∙ then_first (read r Begun) (steps r) ts rest e)

  begun_goes : (y : BegunParts) (rest : List Spelled) → read r Begun ts ≡ Done y rest → found_as started_from (read r Started ts) ≡ found_as (λ qs. started_from (y, qs)) (steps r y rest)
  begun_goes y rest e =
      let pair : List FieldParts → StartedParts = λ qs. (y, qs) in
      ap (found_as started_from) (started_rule ∙ then_go (read r Begun) (steps r) ts y rest e) ∙ found_as_as started_from pair (steps r y rest)

  -- no whole expression comes
  pub started_halts : (rest : List Spelled) → read (deeper r) (Level 1) ts ≡ Stopped rest → found_as started_from (read r Started ts) ≡ Stopped rest
  started_halts rest a = begun_stops rest (begun_rule ∙ both_first (read (deeper r) (Level 1)) (maybe_matched r) ts rest a)

  module _ (us : List Spelled) (x : Expr) (n : ℕ) (a : read (deeper r) (Level 1) ts ≡ Done (x, n) us) where
    -- no `match` is behind it: what may be assigned to it is left
    pub started_plain : has (match_word ∷ []) (head_sort us) ≡ false → found_as started_from (read r Started ts) ≡ found_as (assigned_to (x, n)) (reads (assigned_form r) us)
    started_plain h =
        let begun : read r Begun ts ≡ Done ((x, n), inr tt) us = begun_rule ∙ both_done (read (deeper r) (Level 1)) (maybe_matched r) ts (x, n) us (inr tt) us a (either_right (match_word ∷ []) (read r Matched) read_nothing us h) in
        begun_goes ((x, n), inr tt) us begun ∙ by (has (equals ∷ []) (head_sort us)) refl
      where
        by : (b : Bool) → has (equals ∷ []) (head_sort us) ≡ b → found_as (λ qs. started_from (((x, n), inr tt), qs)) (steps r ((x, n), inr tt) us) ≡ found_as (assigned_to (x, n)) (reads (assigned_form r) us)
        by true e = assigned_comes r f ((x, n), inr tt) us refl e
        by false e = ap (found_as (λ qs. started_from (((x, n), inr tt), qs))) (steps_none r f ((x, n), inr tt) us e) ∙ sym (assigned_none r us x n e)

    -- a `match` is, and no whole one
    pub started_stops : (rest : List Spelled) → has (match_word ∷ []) (head_sort us) ≡ true → found_as cases_view (read r Matched us) ≡ Stopped rest → found_as started_from (read r Started ts) ≡ Stopped rest
    started_stops rest h b =
        begun_stops rest (begun_rule ∙ both_second (read (deeper r) (Level 1)) (maybe_matched r) ts (x, n) us rest a
        (either_left (match_word ∷ []) (read r Matched) read_nothing us refl h ∙ ap (found_as inl) (as_stopped cases_view (read r Matched us) rest b)))

    module _ (vs : List Spelled) (cases : List Case) (m : ℕ) (close : Span) (h : has (match_word ∷ []) (head_sort us) ≡ true) (b : found_as cases_view (read r Matched us) ≡ Done (cases, (m, close)) vs) where
      begun_match : (v : MatchedParts) → read r Matched us ≡ Done v vs → read r Begun ts ≡ Done ((x, n), inl v) vs
      begun_match v e =
          begun_rule ∙ both_done (read (deeper r) (Level 1)) (maybe_matched r) ts (x, n) us (inl v) vs a (either_left (match_word ∷ []) (read r Matched) read_nothing us refl h ∙ ap (found_as inl) e)

      -- nothing is assigned to the `match`: no `=` comes, or there is no room for it
      pub started_match : (span : Span) (levels : ℕ) → and (holds (deeper r) (suc (max n m))) (has (equals ∷ []) (head_sort vs)) ≡ false → span ≡ join (span_of x) close → levels ≡ suc (max n m)
          → found_as started_from (read r Started ts) ≡ Done (stmt (stmt_kind.Match x cases) span, levels) vs
      started_match span levels e q l =
          let v = as_done cases_view (read r Matched us) (cases, (m, close)) vs b in
          let here : List FieldParts → Tall Stmt = λ qs. started_from (((x, n), inl v.0), qs) in
          let shut : and (assigned_room r (((x, n), inl v.0), [])) (has (equals ∷ []) (head_sort vs)) ≡ false
          = ap (λ (c : List Case × (ℕ × Span)). and (holds (deeper r) (suc (max n c.1.0))) (has (equals ∷ []) (head_sort vs))) v.2 ∙ e in
          begun_goes ((x, n), inl v.0) vs (begun_match v.0 v.1)
          ∙ (ap (found_as here) (steps_none r f ((x, n), inl v.0) vs shut)
          ∙ (ap (λ (c : List Case × (ℕ × Span)). Done (stmt (stmt_kind.Match x c.0) (join (span_of x) c.1.1), suc (max n c.1.0)) vs) v.2
          ∙ (ap (λ s. Done (stmt (stmt_kind.Match x cases) s, suc (max n m)) vs) (sym q) ∙ ap (λ l. Done (stmt (stmt_kind.Match x cases) span, l) vs) (sym l))))

      -- something is
      pub started_matched : (of : Expr) (levels : ℕ) → holds (deeper r) (suc (max n m)) ≡ true → has (equals ∷ []) (head_sort vs) ≡ true → of ≡ expr (expr_kind.Match x cases) (join (span_of x) close)
          → levels ≡ suc (max n m) → found_as started_from (read r Started ts) ≡ found_as (assigned_to (of, levels)) (reads (assigned_form r) vs)
      started_matched of levels o e p l =
          let v = as_done cases_view (read r Matched us) (cases, (m, close)) vs b in
          let opens : assigned_room r (((x, n), inl v.0), []) ≡ true = ap (λ (c : List Case × (ℕ × Span)). holds (deeper r) (suc (max n c.1.0))) v.2 ∙ o in
          begun_goes ((x, n), inl v.0) vs (begun_match v.0 v.1)
          ∙ (assigned_comes r f ((x, n), inl v.0) vs opens e
          ∙ (ap (λ (c : List Case × (ℕ × Span)). found_as (assigned_to (expr (expr_kind.Match x c.0) (join (span_of x) c.1.1), suc (max n c.1.0))) (reads (assigned_form r) vs)) v.2
          ∙ (ap (λ x. found_as (assigned_to (x, suc (max n m))) (reads (assigned_form r) vs)) (sym p) ∙ ap (λ l. found_as (assigned_to (of, l)) (reads (assigned_form r) vs)) (sym l))))
