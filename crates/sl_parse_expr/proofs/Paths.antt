-- Paths, as the code reads them: a loop that adds a name behind each dot.
use Rattle.std.proofs.Common.{◌≡◌, ℕ, List, [], ◌∷◌, ◌++◌, map, refl, ap, ◌∙◌, sym, true, false, append_assoc}
use Rattle.std.proofs.lemmas.List.{append-nil}
use Rattle.sl_text.specs.declared.place.Span.{Span}
use Rattle.sl_grammar.specs.Phrase.{Found, Done, Stopped, read_token}
use Rattle.sl_grammar.specs.Law.{found_as}
use Rattle.sl_grammar.specs.Many.{read_list}
use Rattle.sl_grammar.specs.Grammar.{is, has}
use Rattle.sl_grammar.specs.Growing.{folded}
use Rattle.sl_grammar.proofs.Growing.{found_as_as, many_grown}
use Rattle.sl_tree.specs.Sorts.{Spelled, sort, dot}
use Rattle.sl_tree.specs.WellShaped.{names, join}
use Rattle.sl_parse_expr.specs.Values.{PathParts, path_last}
use Rattle.sl_parse_expr.specs.Told.{head_sort, reads, path_form, path_view, name_form, with_name, path_from}
use Rattle.sl_parse_expr.proofs.Telling.{Shrinks, token_shrinks, shrinks_keeps, both_shrinks, both_go, both_first, both_done, both_second, loop_ends, loop_stops, loop_goes}

-- a dot and a name leave less
name_shrinks : Shrinks (reads name_form)
unfolding reads
name_shrinks = both_shrinks (read_token (is sort (dot ∷ []))) (read_token (is sort names)) (token_shrinks (is sort (dot ∷ []))) (shrinks_keeps (read_token (is sort names)) (token_shrinks (is sort names)))

-- the loop

pub path_ends : (p : List (List ℕ) × Span) (ts : List Spelled) → has (dot ∷ []) (head_sort ts) ≡ false → path_from p ts ≡ Done p ts
unfolding path_from
path_ends p ts h = loop_ends (dot ∷ []) (λ p. true) (reads name_form) with_name p ts h

-- behind a dot there is no name
pub path_stops : (p : List (List ℕ) × Span) (ts more rest : List Spelled) (d : Spelled) → has (dot ∷ []) (head_sort ts) ≡ true → read_token (is sort (dot ∷ [])) ts ≡ Done d more → read_token (is sort names) more ≡ Stopped rest → path_from p ts ≡ Stopped rest
unfolding path_from reads
path_stops p ts more rest d h a b = loop_stops (dot ∷ []) (λ p. true) (reads name_form) with_name p ts rest refl h refl (both_second (read_token (is sort (dot ∷ []))) (read_token (is sort names)) ts d more rest a b)

pub path_goes : (p : List (List ℕ) × Span) (ts more rest : List Spelled) (d k : Spelled) → has (dot ∷ []) (head_sort ts) ≡ true → read_token (is sort (dot ∷ [])) ts ≡ Done d more → read_token (is sort names) more ≡ Done k rest → path_from p ts ≡ path_from (p.0 ++ k.text ∷ [], join p.1 k.span) rest
unfolding path_from reads
path_goes p ts more rest d k h a b = loop_goes (dot ∷ []) (λ p. true) (reads name_form) with_name name_shrinks p ts (d, k) rest refl h refl (both_done (read_token (is sort (dot ∷ []))) (read_token (is sort names)) ts d more k rest a b)

-- a path's first name, and the loop behind it

pub view_folded : (ps : List (List ℕ)) (first last : Spelled) (xs : List (Spelled × Spelled)) → folded with_name (ps, join first.span last.span) xs ≡ (ps ++ map (λ x. x.1.text) xs, join first.span (path_last last xs).span)
view_folded ps first last [] = ap (λ qs. (qs, join first.span last.span)) (sym (append-nil ps))
view_folded ps first last (x ∷ xs) = view_folded (ps ++ x.1.text ∷ []) first x.1 xs ∙ ap (λ qs. (qs, join first.span (path_last x.1 xs).span)) (append_assoc ps (x.1.text ∷ []) (map (λ x. x.1.text) xs))

pub path_begins : (ts rest : List Spelled) (k : Spelled) → read_token (is sort names) ts ≡ Done k rest → found_as path_view (reads path_form ts) ≡ path_from (k.text ∷ [], k.span) rest
unfolding reads path_from
path_begins ts rest k e =
    let pair : List (Spelled × Spelled) → PathParts = λ xs. (k, xs) in
    ap (found_as path_view) (both_go (read_token (is sort names)) (read_list (is sort (dot ∷ [])) (reads name_form)) ts k rest e)
    ∙ (found_as_as path_view pair (read_list (is sort (dot ∷ [])) (reads name_form) rest)
    ∙ (same (read_list (is sort (dot ∷ [])) (reads name_form) rest)
    ∙ many_grown (is sort (dot ∷ [])) (reads name_form) with_name (k.text ∷ [], k.span) rest))
  where
    same : (f : Found Spelled (List (Spelled × Spelled))) → found_as (λ xs. path_view (k, xs)) f ≡ found_as (λ xs. folded with_name (k.text ∷ [], k.span) xs) f
    same (Done xs left) = ap (λ v. Done v left) (sym (view_folded (k.text ∷ []) k k xs))
    same (Stopped left) = refl

-- there is no name
pub path_halts : (ts rest : List Spelled) → read_token (is sort names) ts ≡ Stopped rest → found_as path_view (reads path_form ts) ≡ Stopped rest
unfolding reads
path_halts ts rest e = ap (found_as path_view) (both_first (read_token (is sort names)) (read_list (is sort (dot ∷ [])) (reads name_form)) ts rest e)
