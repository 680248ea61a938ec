-- Arguments, as the code reads them.
use Rattle.std.proofs.Common.{◌≡◌, ℕ, List, [], ◌∷◌, ◌++◌, length, map, max, refl, ap, ◌∙◌, sym, subst, inl, inr, ◌⊎◌, Bool, true, false, if◌then◌else◌, arith, append_assoc, length-append}
use Rattle.std.specs.Prelude.{eqb, None, Some, zero, suc}
use Rattle.std.proofs.lemmas.Bool.{eqb-true}
use Rattle.sl_text.specs.declared.place.Span.{Span}
use Rattle.sl_grammar.specs.Phrase.{Begins, Found, Done, Stopped, IsRead, left_of, read_both, read_either, read_token}
use Rattle.sl_grammar.specs.Law.{found_as, read_then}
use Rattle.sl_grammar.specs.Guard.{guard}
use Rattle.sl_grammar.specs.Many.{read_list}
use Rattle.sl_grammar.specs.Grammar.{is, has}
use Rattle.sl_grammar.proofs.Growing.{found_as_as}
use Rattle.sl_tree.specs.Sorts.{Spelled, sort, sort_of, sort_of_mark, example, comma, equals, right_parenthesis}
use Rattle.sl_tree.specs.WellShaped.{names, field, is_name}
use Rattle.sl_tree.specs.declared.tree.Expr.{Expr}
use Rattle.sl_tree.specs.declared.tree.Field.{Field}
use Rattle.sl_tree.proofs.Spans.{Solid}
use Rattle.sl_tree.proofs.Trees.{expr_solid}
use Rattle.sl_parse_expr.specs.Names.{Expression, Arguments, Levels, open_to}
use Rattle.sl_parse_expr.specs.Values.{Tall, FieldParts, ArgumentsParts, name_text, firsts, deepest, more_fields, more_values, apply_to}
use Rattle.sl_parse_expr.specs.Grammar.{read, spells_at, expression_kinds}
use Rattle.sl_parse_expr.specs.Told.{head_sort, reads, values_form, named_form, more_fields_form, fields_form, field_view}
use Rattle.sl_parse_expr.specs.declared.build.Arguments.{Arguments as Argued}
use Rattle.sl_parse_expr.specs.declared.build.Arguments.TheVariants as arguments
use Rattle.sl_parse_expr.specs.Applied.{values_seen, more_fields_seen, fields_seen, arguments_seen, applied}
use Rattle.sl_parse_expr.proofs.Laws as laws
use Rattle.sl_parse_expr.proofs.AllSeen.{all_seen}
use Rattle.sl_parse_expr.proofs.Telling.{Shrinks, Keeps, token_shrinks, shrinks_keeps, read_keeps, both_shrinks, as_done, as_stopped, both_go, both_first, both_done, both_second, then_go, then_first, either_left, either_right, room_left, room_right, room_shut, token_stops}
use Rattle.sl_parse_expr.proofs.Listing.{next}
use Rattle.sl_parse_expr.proofs.ClosedRows.{rows_from, rows_ends, rows_unclosed, rows_stops, rows_goes, rows_begin}

expression_keeps : (r : Levels) → open_to r ≡ true → Keeps (read r Expression)
expression_keeps r o = read_keeps (spells_at Expression r) (read r Expression) (laws.reads all_seen Expression r o)

-- a field: a name, `=`, and its value

abbrev read_field : Levels → List Spelled → Found Spelled FieldParts
read_field r ts = read_both (read_token (is sort (equals ∷ []))) (read r Expression) ts

-- there is no name
pub field_halts : (r : Levels) (ts rest : List Spelled) → read_token (is sort names) ts ≡ Stopped rest → found_as field_view (reads (named_form r) ts) ≡ Stopped rest
unfolding reads
field_halts r ts rest e = ap (found_as field_view) (both_first (read_token (is sort names)) (read_field r) ts rest e)

-- no `=` is behind it
pub field_second : (r : Levels) (ts more rest : List Spelled) (k : Spelled) → read_token (is sort names) ts ≡ Done k more → read_token (is sort (equals ∷ [])) more ≡ Stopped rest
    → found_as field_view (reads (named_form r) ts) ≡ Stopped rest
unfolding reads
field_second r ts more rest k e d =
    ap (found_as field_view) (both_second (read_token (is sort names)) (read_field r) ts k more rest e (both_first (read_token (is sort (equals ∷ []))) (read r Expression) more rest d))

-- no whole value is behind that
pub field_third : (r : Levels) (ts more us rest : List Spelled) (k s : Spelled) → read_token (is sort names) ts ≡ Done k more → read_token (is sort (equals ∷ [])) more ≡ Done s us
    → read r Expression us ≡ Stopped rest → found_as field_view (reads (named_form r) ts) ≡ Stopped rest
unfolding reads
field_third r ts more us rest k s e d c =
    ap (found_as field_view) (both_second (read_token (is sort names)) (read_field r) ts k more rest e (both_second (read_token (is sort (equals ∷ []))) (read r Expression) more s us rest d c))

pub field_whole : (r : Levels) (ts more us rest : List Spelled) (k s : Spelled) (x : Expr) (n : ℕ) (of : Field) → read_token (is sort names) ts ≡ Done k more → read_token (is sort (equals ∷ [])) more ≡ Done s us
    → read r Expression us ≡ Done (x, n) rest → of ≡ field k.text x → found_as field_view (reads (named_form r) ts) ≡ Done (of, n) rest
unfolding reads
field_whole r ts more us rest k s x n of e d c w =
    ap (found_as field_view) (both_done (read_token (is sort names)) (read_field r) ts k more (s, (x, n)) rest e (both_done (read_token (is sort (equals ∷ []))) (read r Expression) more s us (x, n) rest d c))
    ∙ ap (λ z. Done (z, n) rest) (sym w)

field_shrinks : (r : Levels) → open_to r ≡ true → Shrinks (reads (named_form r))
unfolding reads
field_shrinks r o =
    both_shrinks (read_token (is sort names)) (read_field r) (token_shrinks (is sort names))
    (shrinks_keeps (read_field r) (both_shrinks (read_token (is sort (equals ∷ []))) (read r Expression) (token_shrinks (is sort (equals ∷ []))) (expression_keeps r o)))

-- values behind the first one

abbrev second : Spelled × Tall Expr → Tall Expr
second x = x.1

unfoldable pub values_from : Levels → List Expr × ℕ → List Spelled → Found Spelled (Argued × (ℕ × Span))
values_from r p ts = rows_from (comma ∷ []) (right_parenthesis ∷ []) (next (read r Expression)) second arguments.Values p ts

pub values_begins : (r : Levels) (ts : List Spelled) (x : Expr) (n : ℕ) (all : List Expr) → all ≡ x ∷ [] → found_as (values_seen (x, n)) (reads (values_form r) ts) ≡ values_from r (all, n) ts
unfolding reads values_from
values_begins r ts x n all s =
    rows_begin (comma ∷ []) (right_parenthesis ∷ []) (next (read r Expression)) second arguments.Values x n ts
    ∙ ap (λ all. rows_from (comma ∷ []) (right_parenthesis ∷ []) (next (read r Expression)) second arguments.Values (all, n) ts) (sym s)

-- a comma comes, and no whole value is behind it
pub values_stops : (r : Levels) (p : List Expr × ℕ) (ts more rest : List Spelled) (d : Spelled) → has (comma ∷ []) (head_sort ts) ≡ true → read_token (is sort (comma ∷ [])) ts ≡ Done d more
    → read r Expression more ≡ Stopped rest → values_from r p ts ≡ Stopped rest
unfolding values_from
values_stops r p ts more rest d h a b =
    rows_stops (comma ∷ []) (right_parenthesis ∷ []) (next (read r Expression)) second arguments.Values p ts rest refl h (both_second (read_token (is sort (comma ∷ []))) (read r Expression) ts d more rest a b)

-- one more
pub values_goes : (r : Levels) → open_to r ≡ true → (p : List Expr × ℕ) (ts more rest : List Spelled) (d : Spelled) (x : Expr) (n : ℕ) (all : List Expr) (levels : ℕ) → has (comma ∷ []) (head_sort ts) ≡ true
    → read_token (is sort (comma ∷ [])) ts ≡ Done d more → read r Expression more ≡ Done (x, n) rest → all ≡ p.0 ++ x ∷ [] → levels ≡ max p.1 n → values_from r p ts ≡ values_from r (all, levels) rest
unfolding values_from
values_goes r o p ts more rest d x n all levels h a b e f =
    rows_goes (comma ∷ []) (right_parenthesis ∷ []) (next (read r Expression)) second arguments.Values
    (both_shrinks (read_token (is sort (comma ∷ []))) (read r Expression) (token_shrinks (is sort (comma ∷ []))) (expression_keeps r o)) p ts (d, (x, n)) rest x n all levels refl h
    (both_done (read_token (is sort (comma ∷ []))) (read r Expression) ts d more (x, n) rest a b) refl e f

-- no comma comes: the parenthesis that closes them, or none
pub values_ends : (r : Levels) (p : List Expr × ℕ) (ts rest : List Spelled) (k : Spelled) → has (comma ∷ []) (head_sort ts) ≡ false → read_token (is sort (right_parenthesis ∷ [])) ts ≡ Done k rest
    → values_from r p ts ≡ Done (arguments.Values p.0, (p.1, k.span)) rest
unfolding values_from
values_ends r p ts rest k h e = rows_ends (comma ∷ []) (right_parenthesis ∷ []) (next (read r Expression)) second arguments.Values p ts rest k h e

pub values_unclosed : (r : Levels) (p : List Expr × ℕ) (ts rest : List Spelled) → has (comma ∷ []) (head_sort ts) ≡ false → read_token (is sort (right_parenthesis ∷ [])) ts ≡ Stopped rest
    → values_from r p ts ≡ Stopped rest
unfolding values_from
values_unclosed r p ts rest h e = rows_unclosed (comma ∷ []) (right_parenthesis ∷ []) (next (read r Expression)) second arguments.Values p ts rest h e

-- fields

abbrev field_next : Levels → List Spelled → Found Spelled (Spelled × (Spelled × FieldParts))
field_next r ts = read_both (read_token (is sort (comma ∷ []))) (reads (named_form r)) ts

abbrev field_seen : Spelled × (Spelled × FieldParts) → Tall Field
field_seen x = field_view x.1

unfoldable pub fields_from : Levels → List Field × ℕ → List Spelled → Found Spelled (Argued × (ℕ × Span))
fields_from r p ts = rows_from (comma ∷ []) (right_parenthesis ∷ []) (field_next r) field_seen arguments.Fields p ts

-- behind the first one
pub more_fields_begins : (r : Levels) (ts : List Spelled) (first : Field) (n : ℕ) (all : List Field) → all ≡ first ∷ [] → found_as (more_fields_seen first n) (reads (more_fields_form r) ts) ≡ fields_from r (all, n) ts
unfolding reads fields_from
more_fields_begins r ts first n all s =
    same (read_both (read_list (is sort (comma ∷ [])) (field_next r)) (read_token (is sort (right_parenthesis ∷ []))) ts)
    ∙ (rows_begin (comma ∷ []) (right_parenthesis ∷ []) (field_next r) field_seen arguments.Fields first n ts
    ∙ ap (λ all. rows_from (comma ∷ []) (right_parenthesis ∷ []) (field_next r) field_seen arguments.Fields (all, n) ts) (sym s))
  where
    firsts_fields : (xs : List (Spelled × (Spelled × FieldParts))) → more_fields xs ≡ firsts (map field_seen xs)
    firsts_fields [] = refl
    firsts_fields (x ∷ xs) = ap (λ ys. (field_seen x).0 ∷ ys) (firsts_fields xs)

    same : (f : Found Spelled (List (Spelled × (Spelled × FieldParts)) × Spelled))
        → found_as (more_fields_seen first n) f ≡ found_as (λ v. (arguments.Fields (first ∷ firsts (map field_seen v.0)), (deepest ((first, n) ∷ map field_seen v.0), v.1.span))) f
    same (Done v left) = ap (λ ys. Done (arguments.Fields (first ∷ ys), (deepest ((first, n) ∷ map field_seen v.0), v.1.span)) left) (firsts_fields v.0)
    same (Stopped left) = refl

-- a comma comes, and no whole field is behind it
pub fields_stops : (r : Levels) (p : List Field × ℕ) (ts more rest : List Spelled) (d : Spelled) → has (comma ∷ []) (head_sort ts) ≡ true → read_token (is sort (comma ∷ [])) ts ≡ Done d more
    → found_as field_view (reads (named_form r) more) ≡ Stopped rest → fields_from r p ts ≡ Stopped rest
unfolding fields_from
fields_stops r p ts more rest d h a b =
    rows_stops (comma ∷ []) (right_parenthesis ∷ []) (field_next r) field_seen arguments.Fields p ts rest refl h
    (both_second (read_token (is sort (comma ∷ []))) (reads (named_form r)) ts d more rest a (as_stopped field_view (reads (named_form r) more) rest b))

-- one more
pub fields_goes : (r : Levels) → open_to r ≡ true → (p : List Field × ℕ) (ts more rest : List Spelled) (d : Spelled) (x : Field) (n : ℕ) (all : List Field) (levels : ℕ) → has (comma ∷ []) (head_sort ts) ≡ true
    → read_token (is sort (comma ∷ [])) ts ≡ Done d more → found_as field_view (reads (named_form r) more) ≡ Done (x, n) rest → all ≡ p.0 ++ x ∷ [] → levels ≡ max p.1 n
    → fields_from r p ts ≡ fields_from r (all, levels) rest
unfolding fields_from
fields_goes r o p ts more rest d x n all levels h a b e f =
    let w = as_done field_view (reads (named_form r) more) (x, n) rest b in
    rows_goes (comma ∷ []) (right_parenthesis ∷ []) (field_next r) field_seen arguments.Fields
    (both_shrinks (read_token (is sort (comma ∷ []))) (reads (named_form r)) (token_shrinks (is sort (comma ∷ []))) (shrinks_keeps (reads (named_form r)) (field_shrinks r o))) p ts (d, w.0) rest x n all levels refl h
    (both_done (read_token (is sort (comma ∷ []))) (reads (named_form r)) ts d more w.0 rest a w.1) w.2 e f

-- no comma comes: the parenthesis that closes them, or none
pub fields_ends : (r : Levels) (p : List Field × ℕ) (ts rest : List Spelled) (k : Spelled) → has (comma ∷ []) (head_sort ts) ≡ false → read_token (is sort (right_parenthesis ∷ [])) ts ≡ Done k rest
    → fields_from r p ts ≡ Done (arguments.Fields p.0, (p.1, k.span)) rest
unfolding fields_from
fields_ends r p ts rest k h e = rows_ends (comma ∷ []) (right_parenthesis ∷ []) (field_next r) field_seen arguments.Fields p ts rest k h e

pub fields_unclosed : (r : Levels) (p : List Field × ℕ) (ts rest : List Spelled) → has (comma ∷ []) (head_sort ts) ≡ false → read_token (is sort (right_parenthesis ∷ [])) ts ≡ Stopped rest
    → fields_from r p ts ≡ Stopped rest
unfolding fields_from
fields_unclosed r p ts rest h e = rows_unclosed (comma ∷ []) (right_parenthesis ∷ []) (field_next r) field_seen arguments.Fields p ts rest h e

-- the first, from the `=` behind its name on: there is none
pub fields_halts : (r : Levels) (ts rest : List Spelled) (name : Expr) → read_token (is sort (equals ∷ [])) ts ≡ Stopped rest → found_as (fields_seen name) (reads (fields_form r) ts) ≡ Stopped rest
unfolding reads
fields_halts r ts rest name e =
    ap (found_as (fields_seen name)) (both_first (read_field r) (reads (more_fields_form r)) ts rest (both_first (read_token (is sort (equals ∷ []))) (read r Expression) ts rest e))

-- no whole value is behind it
pub fields_second : (r : Levels) (ts more rest : List Spelled) (s : Spelled) (name : Expr) → read_token (is sort (equals ∷ [])) ts ≡ Done s more → read r Expression more ≡ Stopped rest
    → found_as (fields_seen name) (reads (fields_form r) ts) ≡ Stopped rest
unfolding reads
fields_second r ts more rest s name e d =
    ap (found_as (fields_seen name)) (both_first (read_field r) (reads (more_fields_form r)) ts rest (both_second (read_token (is sort (equals ∷ []))) (read r Expression) ts s more rest e d))

-- and others go on behind it
pub fields_go : (r : Levels) (ts more rest : List Spelled) (s : Spelled) (name x : Expr) (n : ℕ) (first : Field) → read_token (is sort (equals ∷ [])) ts ≡ Done s more → read r Expression more ≡ Done (x, n) rest
    → first ≡ field (name_text name) x → found_as (fields_seen name) (reads (fields_form r) ts) ≡ found_as (more_fields_seen first n) (reads (more_fields_form r) rest)
unfolding reads
fields_go r ts more rest s name x n first e d w =
    let pair : List (Spelled × (Spelled × FieldParts)) × Spelled → FieldParts × (List (Spelled × (Spelled × FieldParts)) × Spelled) = λ y. ((s, (x, n)), y) in
    ap (found_as (fields_seen name)) (both_go (read_field r) (reads (more_fields_form r)) ts (s, (x, n)) rest (both_done (read_token (is sort (equals ∷ []))) (read r Expression) ts s more (x, n) rest e d))
    ∙ (found_as_as (fields_seen name) pair (reads (more_fields_form r) rest)
    ∙ ap (λ first. found_as (more_fields_seen first n) (reads (more_fields_form r) rest)) (sym w))

-- arguments: an expression and what is behind it, or the parenthesis at once

abbrev Some_parts : Type 0
Some_parts = (FieldParts × (List (Spelled × (Spelled × FieldParts)) × Spelled)) ⊎ (List (Spelled × Tall Expr) × Spelled)

abbrev read_rest : Levels → Tall Expr → List Spelled → Found Spelled Some_parts
read_rest r x ts = read_either (guard (is_name x.0) (is sort (equals ∷ []))) (reads (fields_form r)) (reads (values_form r)) ts

abbrev read_some : Levels → List Spelled → Found Spelled (Tall Expr × Some_parts)
read_some r ts = read_then (read r Expression) (read_rest r) ts

abbrev read_close : List Spelled → Found Spelled Spelled
read_close ts = read_token (is sort (right_parenthesis ∷ [])) ts

arguments_rule : (r : Levels) → open_to r ≡ true → (ts : List Spelled) → read r Arguments ts ≡ read_either (is sort (expression_kinds r)) (read_some r) read_close ts
unfolding reads
arguments_rule r o ts = sym (laws.rule_read all_seen Arguments r o refl ts) ∙ plain (read_either (is sort (expression_kinds r)) (read_some r) read_close ts)
  where
    plain : (f : Found Spelled ArgumentsParts) → found_as (λ v. v) f ≡ f
    plain (Done v rest) = refl
    plain (Stopped rest) = refl

-- what an expression begins with begins arguments
begins_arguments : (r : Levels) (us : List Spelled) → Begins (spells_at Expression r) us → Begins (spells_at Arguments r) us
unfolding sort_of example sort_of_mark
begins_arguments r us (x, more, w) =
    let close = example right_parenthesis in
    (inl (x, inr ([], close)), more ++ close ∷ [], (us ++ more, close ∷ [], sym (append_assoc us more (close ∷ [])), w, ([], close ∷ [], refl, refl, (refl, refl))))

-- a token that begins neither an expression nor arguments
expression_stops : (r : Levels) → open_to r ≡ true → (ts : List Spelled) → has (right_parenthesis ∷ []) (head_sort ts) ≡ false → has (expression_kinds r) (head_sort ts) ≡ false → read r Expression ts ≡ Stopped ts
expression_stops r o ts h g = by (read r Expression ts) (laws.reads all_seen Expression r o ts)
  where
    stopped : read r Arguments ts ≡ Stopped ts
    stopped = arguments_rule r o ts ∙ (either_right (expression_kinds r) (read_some r) read_close ts g ∙ ap (found_as inr) (token_stops (right_parenthesis ∷ []) ts h))

    front : IsRead (spells_at Arguments r) ts (Stopped ts)
    front = subst (IsRead (spells_at Arguments r) ts) stopped (laws.reads all_seen Arguments r o ts)

    refuse : (k : Spelled) (more : List Spelled) → ts ≡ k ∷ more → Begins (spells_at Expression r) (k ∷ []) → ⊥
    refuse k more e b = go front
      where
        go : IsRead (spells_at Arguments r) ts (Stopped ts) → ⊥
        go ([], i, f, w) = f.ends k more e (begins_arguments r (k ∷ []) b)
        go (u ∷ us, i, f, w) = omega (arith, ap length i, length-append us ts)

    by : (f : Found Spelled (Tall Expr)) → IsRead (spells_at Expression r) ts f → f ≡ Stopped ts
    by (Done x rest) ([], e, f, w) = let s : Solid [] = expr_solid w.2 in absurd (cc s.is)
    by (Done x rest) (k ∷ us, e, f, w) = absurd (refuse k (us ++ rest) e (x, us, w))
    by (Stopped rest) ([], e, f, w) = ap Stopped (sym e)
    by (Stopped rest) (k ∷ us, e, f, w) = absurd (refuse k (us ++ rest) e (begun f.begins))
      where
        begun : Begins (spells_at Expression r) (k ∷ us) → Begins (spells_at Expression r) (k ∷ [])
        begun (x, more, w) = (x, us ++ more, w)

-- what an expression was read from
expression_begins : (r : Levels) → open_to r ≡ true → (ts rest : List Spelled) (x : Tall Expr) → has (right_parenthesis ∷ []) (head_sort ts) ≡ false → read r Expression ts ≡ Done x rest
    → has (expression_kinds r) (head_sort ts) ≡ true
expression_begins r o ts rest x h e = by (has (expression_kinds r) (head_sort ts)) refl
  where
    by : (b : Bool) → has (expression_kinds r) (head_sort ts) ≡ b → b ≡ true
    by true g = refl
    by false g = absurd (clash (sym (expression_stops r o ts h g) ∙ e))
      where
        clash : Stopped ts ≡ Done x rest → ⊥
        clash e = cc

no_kind : (r : Levels) → has (expression_kinds r) 99 ≡ false
no_kind None = refl
no_kind (Some zero) = refl
no_kind (Some (suc zero)) = refl
no_kind (Some (suc (suc n))) = refl

no_close : (r : Levels) → has (expression_kinds r) right_parenthesis ≡ false
no_close None = refl
no_close (Some zero) = refl
no_close (Some (suc zero)) = refl
no_close (Some (suc (suc n))) = refl

closes : (j : ℕ) → has (right_parenthesis ∷ []) j ≡ true → right_parenthesis ≡ j
closes j h = by (eqb right_parenthesis j) refl h
  where
    by : (b : Bool) → eqb right_parenthesis j ≡ b → (if b then true else false) ≡ true → right_parenthesis ≡ j
    by true e h = eqb-true right_parenthesis j e
    by false e h = absurd cc

-- the parenthesis comes at once
pub arguments_none : (r : Levels) → open_to r ≡ true → (ts rest : List Spelled) (k : Spelled) → has (right_parenthesis ∷ []) (head_sort ts) ≡ true → read_token (is sort (right_parenthesis ∷ [])) ts ≡ Done k rest
    → found_as arguments_seen (read r Arguments ts) ≡ Done (arguments.Values [], (0, k.span)) rest
arguments_none r o ts rest k h e =
    let other : has (expression_kinds r) (head_sort ts) ≡ false = subst (λ j. has (expression_kinds r) j ≡ false) (closes (head_sort ts) h) (no_close r) in
    ap (found_as arguments_seen) (arguments_rule r o ts ∙ (either_right (expression_kinds r) (read_some r) read_close ts other ∙ ap (found_as inr) e))

-- it doesn't, and no whole expression comes
pub arguments_halts : (r : Levels) → open_to r ≡ true → (ts rest : List Spelled) → has (right_parenthesis ∷ []) (head_sort ts) ≡ false → read r Expression ts ≡ Stopped rest
    → found_as arguments_seen (read r Arguments ts) ≡ Stopped rest
arguments_halts r o ts rest h e = ap (found_as arguments_seen) (arguments_rule r o ts ∙ by (has (expression_kinds r) (head_sort ts)) refl)
  where
    by : (b : Bool) → has (expression_kinds r) (head_sort ts) ≡ b → read_either (is sort (expression_kinds r)) (read_some r) read_close ts ≡ Stopped rest
    by true g = either_left (expression_kinds r) (read_some r) read_close ts (no_kind r) g ∙ ap (found_as inl) (then_first (read r Expression) (read_rest r) ts rest e)
    by false g =
        either_right (expression_kinds r) (read_some r) read_close ts g
        ∙ (ap (found_as inr) (token_stops (right_parenthesis ∷ []) ts h) ∙ ap Stopped (ap left_of (sym (expression_stops r o ts h g) ∙ e)))

rest_goes : (r : Levels) → open_to r ≡ true → (ts rest : List Spelled) (x : Tall Expr) → has (right_parenthesis ∷ []) (head_sort ts) ≡ false → read r Expression ts ≡ Done x rest
    → found_as arguments_seen (read r Arguments ts) ≡ found_as (λ v. arguments_seen (inl (x, v))) (read_rest r x rest)
rest_goes r o ts rest x h e =
    let pair : Some_parts → Tall Expr × Some_parts = λ v. (x, v) in
    ap (found_as arguments_seen) (arguments_rule r o ts ∙ (either_left (expression_kinds r) (read_some r) read_close ts (no_kind r) (expression_begins r o ts rest x h e)
    ∙ ap (found_as inl) (then_go (read r Expression) (read_rest r) ts x rest e)))
    ∙ seen (read_rest r x rest)
  where
    seen : (f : Found Spelled Some_parts) → found_as arguments_seen (found_as inl (found_as (λ v. (x, v)) f)) ≡ found_as (λ v. arguments_seen (inl (x, v))) f
    seen (Done v left) = refl
    seen (Stopped left) = refl

-- a name is read, and `=` comes
pub arguments_fields : (r : Levels) → open_to r ≡ true → (ts rest : List Spelled) (x : Expr) (n : ℕ) → has (right_parenthesis ∷ []) (head_sort ts) ≡ false → read r Expression ts ≡ Done (x, n) rest
    → is_name x ≡ true → has (equals ∷ []) (head_sort rest) ≡ true → found_as arguments_seen (read r Arguments ts) ≡ found_as (fields_seen x) (reads (fields_form r) rest)
arguments_fields r o ts rest x n h e i g =
    rest_goes r o ts rest (x, n) h e
    ∙ (ap (found_as (λ v. arguments_seen (inl ((x, n), v)))) (room_left (equals ∷ []) (reads (fields_form r)) (reads (values_form r)) (is_name x) rest i refl g)
    ∙ found_as_as (λ v. arguments_seen (inl ((x, n), v))) inl (reads (fields_form r) rest))

-- no `=` comes
pub arguments_values : (r : Levels) → open_to r ≡ true → (ts rest : List Spelled) (x : Expr) (n : ℕ) → has (right_parenthesis ∷ []) (head_sort ts) ≡ false → read r Expression ts ≡ Done (x, n) rest
    → has (equals ∷ []) (head_sort rest) ≡ false → found_as arguments_seen (read r Arguments ts) ≡ found_as (values_seen (x, n)) (reads (values_form r) rest)
arguments_values r o ts rest x n h e g =
    rest_goes r o ts rest (x, n) h e
    ∙ (ap (found_as (λ v. arguments_seen (inl ((x, n), v)))) (room_right (equals ∷ []) (reads (fields_form r)) (reads (values_form r)) (is_name x) rest g)
    ∙ found_as_as (λ v. arguments_seen (inl ((x, n), v))) inr (reads (values_form r) rest))

-- what is read is no name
pub arguments_unnamed : (r : Levels) → open_to r ≡ true → (ts rest : List Spelled) (x : Expr) (n : ℕ) → has (right_parenthesis ∷ []) (head_sort ts) ≡ false → read r Expression ts ≡ Done (x, n) rest
    → is_name x ≡ false → found_as arguments_seen (read r Arguments ts) ≡ found_as (values_seen (x, n)) (reads (values_form r) rest)
arguments_unnamed r o ts rest x n h e i =
    rest_goes r o ts rest (x, n) h e
    ∙ (ap (found_as (λ v. arguments_seen (inl ((x, n), v)))) (room_shut (equals ∷ []) (reads (fields_form r)) (reads (values_form r)) (is_name x) rest i)
    ∙ found_as_as (λ v. arguments_seen (inl ((x, n), v))) inr (reads (values_form r) rest))

-- what they are applied to

deepest_fields : (a : Expr) (b : Field) (n : ℕ) (more : List (Spelled × (Spelled × FieldParts))) → deepest ((a, n) ∷ more_values more) ≡ deepest ((b, n) ∷ map (λ x. field_view x.1) more)
deepest_fields a b n [] = refl
deepest_fields a b n (x ∷ xs) = ap (λ m. max n m) (deepest_fields x.1.1.1.0 (field_view x.1).0 x.1.1.1.1 xs)

pub applied_seen : (x : Tall Expr) (v : ArgumentsParts) (a : Argued) (n : ℕ) (close : Span) → arguments_seen v ≡ (a, (n, close)) → apply_to x v ≡ (applied x.0 a close, suc (max x.1 n))
applied_seen x v a n close e = same v ∙ ap (λ (p : Argued × (ℕ × Span)). (applied x.0 p.0 p.1.1, suc (max x.1 p.1.0))) e
  where
    same : (v : ArgumentsParts) → apply_to x v ≡ (applied x.0 (arguments_seen v).0 (arguments_seen v).1.1, suc (max x.1 (arguments_seen v).1.0))
    same (inl (e, inl (v, (more, j)))) =
        let first = field (name_text e.0) v.1.0 in
        ap (λ n. (applied x.0 (arguments.Fields (first ∷ more_fields more)) j.span, suc (max x.1 n))) (deepest_fields v.1.0 first v.1.1 more)
    same (inl (e, inr (more, j))) = refl
    same (inr j) = refl
