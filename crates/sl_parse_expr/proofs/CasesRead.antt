-- Cases, as the code reads them.
use Rattle.std.proofs.Common.{◌≡◌, ℕ, ◌≤◌, List, [], ◌∷◌, ◌++◌, length, map, map-id, max, refl, ap, ◌∙◌, sym, inl, inr, ◌⊎◌, Bool, true, false, arith}
use Rattle.std.specs.Prelude.{Option, None, Some}
use Rattle.sl_text.specs.declared.place.Span.{Span}
use Rattle.sl_grammar.specs.Phrase.{Found, Done, Stopped, found_then, read_both, read_token}
use Rattle.sl_grammar.specs.Law.{found_as, read_nothing}
use Rattle.sl_grammar.specs.Many.{read_list}
use Rattle.sl_grammar.specs.Grammar.{is, has}
use Rattle.sl_tree.specs.Sorts.{Spelled, sort, if_word, match_word, case_word, double_arrow, left_brace, right_brace}
use Rattle.sl_tree.specs.WellShaped.{case_of}
use Rattle.sl_tree.specs.declared.tree.Pattern.{Pattern}
use Rattle.sl_tree.specs.declared.tree.Expr.{Expr}
use Rattle.sl_tree.specs.declared.tree.Case.{Case}
use Rattle.sl_tree.specs.declared.tree.Stmt.{Stmt}
use Rattle.sl_parse_expr.specs.Names.{Expression, Matched, A_case, Pattern_of, Statements, Levels, open_to, deeper, fits}
use Rattle.sl_parse_expr.specs.Values.{Tall, MatchedParts, firsts, deepest, case_from}
use Rattle.sl_parse_expr.specs.Grammar.{read, spells_at}
use Rattle.sl_parse_expr.specs.Told.{head_sort, reads, guard_form, guard_view, cases_view}
use Rattle.sl_parse_expr.proofs.Laws as laws
use Rattle.sl_parse_expr.proofs.AllSeen.{all_seen}
use Rattle.sl_parse_expr.proofs.Telling.{Shrinks, Keeps, token_shrinks, shrinks_keeps, read_keeps, both_shrinks, as_done, as_stopped, both_go, both_first, both_done, both_second, either_left, either_right}
use Rattle.sl_parse_expr.proofs.ClosedRows.{rows_from, rows_ends, rows_unclosed, rows_stops, rows_goes, rows_begin}

-- a guard

abbrev GuardParts : Type 0
GuardParts = (Spelled × Tall Expr) ⊎ Unit {0}

abbrev read_if : Levels → List Spelled → Found Spelled (Spelled × Tall Expr)
read_if r ts = read_both (read_token (is sort (if_word ∷ []))) (read r Expression) ts

-- there is none
pub guard_none : (r : Levels) (ts : List Spelled) → has (if_word ∷ []) (head_sort ts) ≡ false → found_as guard_view (reads (guard_form r) ts) ≡ Done (None, 0) ts
unfolding reads
guard_none r ts h = ap (found_as guard_view) (either_right (if_word ∷ []) (read_if r) read_nothing ts h)

-- no whole condition is behind the `if`
pub guard_stops : (r : Levels) (ts more rest : List Spelled) (i : Spelled) → has (if_word ∷ []) (head_sort ts) ≡ true → read_token (is sort (if_word ∷ [])) ts ≡ Done i more
    → read r Expression more ≡ Stopped rest → found_as guard_view (reads (guard_form r) ts) ≡ Stopped rest
unfolding reads
guard_stops r ts more rest i h e d =
    ap (found_as guard_view) (either_left (if_word ∷ []) (read_if r) read_nothing ts refl h ∙ ap (found_as inl) (both_second (read_token (is sort (if_word ∷ []))) (read r Expression) ts i more rest e d))

pub guard_some : (r : Levels) (ts more rest : List Spelled) (i : Spelled) (x : Expr) (n : ℕ) → has (if_word ∷ []) (head_sort ts) ≡ true → read_token (is sort (if_word ∷ [])) ts ≡ Done i more
    → read r Expression more ≡ Done (x, n) rest → found_as guard_view (reads (guard_form r) ts) ≡ Done (Some x, n) rest
unfolding reads
guard_some r ts more rest i x n h e d =
    ap (found_as guard_view) (either_left (if_word ∷ []) (read_if r) read_nothing ts refl h ∙ ap (found_as inl) (both_done (read_token (is sort (if_word ∷ []))) (read r Expression) ts i more (x, n) rest e d))

-- a case

abbrev read_body : Levels → List Spelled → Found Spelled (Spelled × Tall (List Stmt))
read_body r ts = read_both (read_token (is sort (double_arrow ∷ []))) (read r Statements) ts

abbrev read_guarded : Levels → List Spelled → Found Spelled (GuardParts × (Spelled × Tall (List Stmt)))
read_guarded r ts = read_both (reads (guard_form r)) (read_body r) ts

abbrev read_matching : Levels → List Spelled → Found Spelled (Tall Pattern × (GuardParts × (Spelled × Tall (List Stmt))))
read_matching r ts = read_both (read r Pattern_of) (read_guarded r) ts

case_rule : (r : Levels) → open_to r ≡ true → (ts : List Spelled) → read r A_case ts ≡ found_as case_from (read_both (read_token (is sort (case_word ∷ []))) (read_matching r) ts)
unfolding reads
case_rule r o ts = sym (laws.rule_read all_seen A_case r o refl ts)

-- there is no `case`
pub case_halts : (r : Levels) → open_to r ≡ true → (ts rest : List Spelled) → read_token (is sort (case_word ∷ [])) ts ≡ Stopped rest → read r A_case ts ≡ Stopped rest
case_halts r o ts rest e = case_rule r o ts ∙ ap (found_as case_from) (both_first (read_token (is sort (case_word ∷ []))) (read_matching r) ts rest e)

behind_stops : (r : Levels) → open_to r ≡ true → (ts us rest : List Spelled) (k : Spelled) → read_token (is sort (case_word ∷ [])) ts ≡ Done k us → read_matching r us ≡ Stopped rest → read r A_case ts ≡ Stopped rest
behind_stops r o ts us rest k e d = case_rule r o ts ∙ ap (found_as case_from) (both_second (read_token (is sort (case_word ∷ []))) (read_matching r) ts k us rest e d)

-- no whole pattern is behind it
pub case_second : (r : Levels) → open_to r ≡ true → (ts us rest : List Spelled) (k : Spelled) → read_token (is sort (case_word ∷ [])) ts ≡ Done k us → read r Pattern_of us ≡ Stopped rest → read r A_case ts ≡ Stopped rest
case_second r o ts us rest k e d = behind_stops r o ts us rest k e (both_first (read r Pattern_of) (read_guarded r) us rest d)

-- no whole guard is behind that
pub case_third : (r : Levels) → open_to r ≡ true → (ts us vs rest : List Spelled) (k : Spelled) (x : Tall Pattern) → read_token (is sort (case_word ∷ [])) ts ≡ Done k us → read r Pattern_of us ≡ Done x vs
    → found_as guard_view (reads (guard_form r) vs) ≡ Stopped rest → read r A_case ts ≡ Stopped rest
case_third r o ts us vs rest k x e d c =
    behind_stops r o ts us rest k e (both_second (read r Pattern_of) (read_guarded r) us x vs rest d (both_first (reads (guard_form r)) (read_body r) vs rest (as_stopped guard_view (reads (guard_form r) vs) rest c)))

guarded_stops : (r : Levels) → open_to r ≡ true → (ts us vs ws rest : List Spelled) (k : Spelled) (x : Tall Pattern) (g : Option Expr × ℕ) → read_token (is sort (case_word ∷ [])) ts ≡ Done k us
    → read r Pattern_of us ≡ Done x vs → found_as guard_view (reads (guard_form r) vs) ≡ Done g ws → read_body r ws ≡ Stopped rest → read r A_case ts ≡ Stopped rest
guarded_stops r o ts us vs ws rest k x g e d c b =
    let w = as_done guard_view (reads (guard_form r) vs) g ws c in
    behind_stops r o ts us rest k e (both_second (read r Pattern_of) (read_guarded r) us x vs rest d (both_second (reads (guard_form r)) (read_body r) vs w.0 ws rest w.1 b))

-- no `=>` is behind that
pub case_fourth : (r : Levels) → open_to r ≡ true → (ts us vs ws rest : List Spelled) (k : Spelled) (x : Tall Pattern) (g : Option Expr × ℕ) → read_token (is sort (case_word ∷ [])) ts ≡ Done k us
    → read r Pattern_of us ≡ Done x vs → found_as guard_view (reads (guard_form r) vs) ≡ Done g ws → read_token (is sort (double_arrow ∷ [])) ws ≡ Stopped rest → read r A_case ts ≡ Stopped rest
case_fourth r o ts us vs ws rest k x g e d c b = guarded_stops r o ts us vs ws rest k x g e d c (both_first (read_token (is sort (double_arrow ∷ []))) (read r Statements) ws rest b)

-- no whole statements are behind that
pub case_fifth : (r : Levels) → open_to r ≡ true → (ts us vs ws zs rest : List Spelled) (k a : Spelled) (x : Tall Pattern) (g : Option Expr × ℕ) → read_token (is sort (case_word ∷ [])) ts ≡ Done k us
    → read r Pattern_of us ≡ Done x vs → found_as guard_view (reads (guard_form r) vs) ≡ Done g ws → read_token (is sort (double_arrow ∷ [])) ws ≡ Done a zs → read r Statements zs ≡ Stopped rest
    → read r A_case ts ≡ Stopped rest
case_fifth r o ts us vs ws zs rest k a x g e d c b f =
    guarded_stops r o ts us vs ws rest k x g e d c (both_second (read_token (is sort (double_arrow ∷ []))) (read r Statements) ws a zs rest b f)

pub case_whole : (r : Levels) → open_to r ≡ true → (ts us vs ws zs rest : List Spelled) (k a : Spelled) (x : Pattern) (guard : Option Expr) (body : List Stmt) (n m l levels : ℕ) (of : Case)
    → read_token (is sort (case_word ∷ [])) ts ≡ Done k us → read r Pattern_of us ≡ Done (x, n) vs → found_as guard_view (reads (guard_form r) vs) ≡ Done (guard, m) ws
    → read_token (is sort (double_arrow ∷ [])) ws ≡ Done a zs → read r Statements zs ≡ Done (body, l) rest → of ≡ case_of x guard body → levels ≡ max n (max m l) → read r A_case ts ≡ Done (of, levels) rest
case_whole r o ts us vs ws zs rest k a x guard body n m l levels of e d c b f i j =
    let w = as_done guard_view (reads (guard_form r) vs) (guard, m) ws c in
    case_rule r o ts
    ∙ (ap (found_as case_from) (both_done (read_token (is sort (case_word ∷ []))) (read_matching r) ts k us ((x, n), (w.0, (a, (body, l)))) rest e
    (both_done (read r Pattern_of) (read_guarded r) us (x, n) vs (w.0, (a, (body, l))) rest d
    (both_done (reads (guard_form r)) (read_body r) vs w.0 ws (a, (body, l)) rest w.1
    (both_done (read_token (is sort (double_arrow ∷ []))) (read r Statements) ws a zs (body, l) rest b f))))
    ∙ (ap (λ (p : Option Expr × ℕ). Done (case_of x p.0 body, max n (max p.1 l)) rest) w.2
    ∙ (ap (λ z. Done (z, max n (max m l)) rest) (sym i) ∙ ap (λ z. Done (of, z) rest) (sym j))))

both_keeps : {X Y : Type 0} (l : List Spelled → Found Spelled X) (m : List Spelled → Found Spelled Y) → Keeps l → Keeps m → Keeps (read_both l m)
both_keeps {X} {Y} l m s k ts p rest e = by (l ts) refl e
  where
    next : (x : X) (left : List Spelled) → l ts ≡ Done x left → (f : Found Spelled Y) → m left ≡ f → found_then {Y = X × Y} f (λ y left. Done (x, y) left) ≡ Done p rest → length rest ≤ length ts
    next x left a (Done y more) b e = let same : more ≡ rest = cc in omega (arith, ap length same, s ts x left a, k left y more b)
    next x left a (Stopped more) b e = absurd cc

    by : (f : Found Spelled X) → l ts ≡ f → found_then {Y = X × Y} f (λ x rest. found_then (m rest) (λ y left. Done (x, y) left)) ≡ Done p rest → length rest ≤ length ts
    by (Done x left) a e = next x left a (m left) refl e
    by (Stopped left) a e = absurd cc

guard_keeps : (r : Levels) → open_to r ≡ true → Keeps (reads (guard_form r))
unfolding reads
guard_keeps r o ts v rest e = by (has (if_word ∷ []) (head_sort ts)) refl
  where
    by : (b : Bool) → has (if_word ∷ []) (head_sort ts) ≡ b → length rest ≤ length ts
    by true h =
        let w = as_done inl (read_if r ts) v rest (sym (either_left (if_word ∷ []) (read_if r) read_nothing ts refl h) ∙ e) in
        omega (
          arith,
          both_shrinks (read_token (is sort (if_word ∷ []))) (read r Expression) (token_shrinks (is sort (if_word ∷ [])))
              (read_keeps (spells_at Expression r) (read r Expression) (laws.reads all_seen Expression r o)) ts w.0 rest w.1,
        )
    by false h =
        let d : Done (inr tt) ts ≡ Done v rest = sym (either_right (if_word ∷ []) (read_if r) read_nothing ts h) ∙ e in
        let same : ts ≡ rest = cc in
        omega (arith, ap length same)

-- a case leaves less
pub case_shrinks : (r : Levels) → open_to r ≡ true → Shrinks (read r A_case)
case_shrinks r o ts x rest e =
    let w = as_done case_from (read_both (read_token (is sort (case_word ∷ []))) (read_matching r) ts) x rest (sym (case_rule r o ts) ∙ e) in
    both_shrinks (read_token (is sort (case_word ∷ []))) (read_matching r) (token_shrinks (is sort (case_word ∷ []))) matching_keeps ts w.0 rest w.1
  where
    body_keeps : Keeps (read_body r)
    body_keeps =
        both_keeps (read_token (is sort (double_arrow ∷ []))) (read r Statements) (shrinks_keeps (read_token (is sort (double_arrow ∷ []))) (token_shrinks (is sort (double_arrow ∷ []))))
        (read_keeps (spells_at Statements r) (read r Statements) (laws.reads all_seen Statements r refl))

    matching_keeps : Keeps (read_matching r)
    matching_keeps =
        both_keeps (read r Pattern_of) (read_guarded r) (read_keeps (spells_at Pattern_of r) (read r Pattern_of) (laws.reads all_seen Pattern_of r o))
        (both_keeps (reads (guard_form r)) (read_body r) (guard_keeps r o) body_keeps)

-- the cases of a `match`

abbrev all_cases : List Case → List Case
all_cases cases = cases

abbrev one_case : Tall Case → Tall Case
one_case x = x

-- the rest of them, where some were read
unfoldable pub cases_from : Levels → List Case × ℕ → List Spelled → Found Spelled (List Case × (ℕ × Span))
cases_from r p ts = rows_from (case_word ∷ []) (right_brace ∷ []) (read (deeper r) A_case) one_case all_cases p ts

-- another begins, and is no whole one
pub cases_stops : (r : Levels) (p : List Case × ℕ) (ts rest : List Spelled) → has (case_word ∷ []) (head_sort ts) ≡ true → read (deeper r) A_case ts ≡ Stopped rest → cases_from r p ts ≡ Stopped rest
unfolding cases_from
cases_stops r p ts rest h e = rows_stops (case_word ∷ []) (right_brace ∷ []) (read (deeper r) A_case) one_case all_cases p ts rest refl h e

-- one more
pub cases_goes : (r : Levels) → fits r ≡ true → (p : List Case × ℕ) (ts rest : List Spelled) (x : Case) (n : ℕ) (all : List Case) (levels : ℕ) → has (case_word ∷ []) (head_sort ts) ≡ true
    → read (deeper r) A_case ts ≡ Done (x, n) rest → all ≡ p.0 ++ x ∷ [] → levels ≡ max p.1 n → cases_from r p ts ≡ cases_from r (all, levels) rest
unfolding cases_from
cases_goes r o p ts rest x n all levels h e a b =
    rows_goes (case_word ∷ []) (right_brace ∷ []) (read (deeper r) A_case) one_case all_cases (case_shrinks (deeper r) o) p ts (x, n) rest x n all levels refl h e refl a b

-- no `case` comes: the brace that closes them, or none
pub cases_ends : (r : Levels) (p : List Case × ℕ) (ts rest : List Spelled) (k : Spelled) → has (case_word ∷ []) (head_sort ts) ≡ false → read_token (is sort (right_brace ∷ [])) ts ≡ Done k rest
    → cases_from r p ts ≡ Done (p.0, (p.1, k.span)) rest
unfolding cases_from
cases_ends r p ts rest k h e = rows_ends (case_word ∷ []) (right_brace ∷ []) (read (deeper r) A_case) one_case all_cases p ts rest k h e

pub cases_unclosed : (r : Levels) (p : List Case × ℕ) (ts rest : List Spelled) → has (case_word ∷ []) (head_sort ts) ≡ false → read_token (is sort (right_brace ∷ [])) ts ≡ Stopped rest
    → cases_from r p ts ≡ Stopped rest
unfolding cases_from
cases_unclosed r p ts rest h e = rows_unclosed (case_word ∷ []) (right_brace ∷ []) (read (deeper r) A_case) one_case all_cases p ts rest h e

-- `match`, the brace that opens them, and the first

abbrev read_more : Levels → List Spelled → Found Spelled (List (Tall Case) × Spelled)
read_more r ts = read_both (read_list (is sort (case_word ∷ [])) (read (deeper r) A_case)) (read_token (is sort (right_brace ∷ []))) ts

abbrev read_cases : Levels → List Spelled → Found Spelled (Tall Case × (List (Tall Case) × Spelled))
read_cases r ts = read_both (read (deeper r) A_case) (read_more r) ts

abbrev read_braced : Levels → List Spelled → Found Spelled (Spelled × (Tall Case × (List (Tall Case) × Spelled)))
read_braced r ts = read_both (read_token (is sort (left_brace ∷ []))) (read_cases r) ts

matched_rule : (r : Levels) → fits r ≡ true → (ts : List Spelled) → read r Matched ts ≡ read_both (read_token (is sort (match_word ∷ []))) (read_braced r) ts
matched_rule r o ts = sym (laws.rule_read all_seen Matched r o refl ts) ∙ plain (read_both (read_token (is sort (match_word ∷ []))) (read_braced r) ts)
  where
    plain : (f : Found Spelled MatchedParts) → found_as (λ v. v) f ≡ f
    plain (Done v rest) = refl
    plain (Stopped rest) = refl

-- there is no `match`
pub matched_halts : (r : Levels) → fits r ≡ true → (ts rest : List Spelled) → read_token (is sort (match_word ∷ [])) ts ≡ Stopped rest → found_as cases_view (read r Matched ts) ≡ Stopped rest
matched_halts r o ts rest e = ap (found_as cases_view) (matched_rule r o ts ∙ both_first (read_token (is sort (match_word ∷ []))) (read_braced r) ts rest e)

-- no brace is behind it
pub matched_second : (r : Levels) → fits r ≡ true → (ts us rest : List Spelled) (k : Spelled) → read_token (is sort (match_word ∷ [])) ts ≡ Done k us → read_token (is sort (left_brace ∷ [])) us ≡ Stopped rest
    → found_as cases_view (read r Matched ts) ≡ Stopped rest
matched_second r o ts us rest k e d =
    ap (found_as cases_view) (matched_rule r o ts ∙ both_second (read_token (is sort (match_word ∷ []))) (read_braced r) ts k us rest e (both_first (read_token (is sort (left_brace ∷ []))) (read_cases r) us rest d))

-- no whole case is behind that
pub matched_third : (r : Levels) → fits r ≡ true → (ts us vs rest : List Spelled) (k p : Spelled) → read_token (is sort (match_word ∷ [])) ts ≡ Done k us → read_token (is sort (left_brace ∷ [])) us ≡ Done p vs
    → read (deeper r) A_case vs ≡ Stopped rest → found_as cases_view (read r Matched ts) ≡ Stopped rest
matched_third r o ts us vs rest k p e d c =
    ap (found_as cases_view) (matched_rule r o ts ∙ both_second (read_token (is sort (match_word ∷ []))) (read_braced r) ts k us rest e
    (both_second (read_token (is sort (left_brace ∷ []))) (read_cases r) us p vs rest d (both_first (read (deeper r) A_case) (read_more r) vs rest c)))

-- the first is read, and the loop begins
pub matched_begins : (r : Levels) → fits r ≡ true → (ts us vs rest : List Spelled) (k p : Spelled) (x : Case) (n : ℕ) (all : List Case) → read_token (is sort (match_word ∷ [])) ts ≡ Done k us
    → read_token (is sort (left_brace ∷ [])) us ≡ Done p vs → read (deeper r) A_case vs ≡ Done (x, n) rest → all ≡ x ∷ [] → found_as cases_view (read r Matched ts) ≡ cases_from r (all, n) rest
unfolding cases_from
matched_begins r o ts us vs rest k p x n all e d c s =
    ap (found_as cases_view) (matched_rule r o ts ∙ (both_go (read_token (is sort (match_word ∷ []))) (read_braced r) ts k us e
    ∙ ap (found_as behind_match) (both_go (read_token (is sort (left_brace ∷ []))) (read_cases r) us p vs d ∙ ap (found_as behind_brace) (both_go (read (deeper r) A_case) (read_more r) vs (x, n) rest c))))
    ∙ (seen (read_more r rest)
    ∙ (rows_begin (case_word ∷ []) (right_brace ∷ []) (read (deeper r) A_case) one_case all_cases x n rest
    ∙ ap (λ all. rows_from (case_word ∷ []) (right_brace ∷ []) (read (deeper r) A_case) one_case all_cases (all, n) rest) (sym s)))
  where
    behind_match : Spelled × (Tall Case × (List (Tall Case) × Spelled)) → MatchedParts
    behind_match y = (k, y)

    behind_brace : Tall Case × (List (Tall Case) × Spelled) → Spelled × (Tall Case × (List (Tall Case) × Spelled))
    behind_brace y = (p, y)

    seen : (f : Found Spelled (List (Tall Case) × Spelled)) → found_as cases_view (found_as behind_match (found_as behind_brace (found_as (λ y. ((x, n), y)) f)))
        ≡ found_as (λ v. (x ∷ firsts (map one_case v.0), (deepest ((x, n) ∷ map one_case v.0), v.1.span))) f
    seen (Done v left) = ap (λ cs. Done (x ∷ firsts cs, (deepest ((x, n) ∷ cs), v.1.span)) left) (sym (map-id v.0))
    seen (Stopped left) = refl
