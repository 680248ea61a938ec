-- Types, as the code reads them.
use Rattle.std.proofs.Common.{◌≡◌, ℕ, suc, List, [], ◌∷◌, ◌++◌, max, refl, ap, ◌∙◌, sym, inl, inr, ◌⊎◌, true, false}
use Rattle.sl_text.specs.declared.place.Span.{Span}
use Rattle.sl_grammar.specs.Phrase.{Found, Done, Stopped, found_then, read_both, read_either, read_token}
use Rattle.sl_grammar.specs.Law.{found_as, read_nothing}
use Rattle.sl_grammar.specs.Guard.{guard}
use Rattle.sl_grammar.specs.Many.{read_list}
use Rattle.sl_grammar.specs.Grammar.{is, has}
use Rattle.sl_grammar.proofs.Growing.{found_as_as}
use Rattle.sl_tree.specs.Sorts.{Spelled, sort, comma, left_bracket, right_bracket}
use Rattle.sl_tree.specs.WellShaped.{join, type_term}
use Rattle.sl_tree.specs.declared.tree.TypeTerm.{TypeTerm}
use Rattle.sl_parse_expr.specs.Names.{Path, Type_term, Levels, open_to, deeper, fits, types_form}
use Rattle.sl_parse_expr.specs.Values.{Tall, PathParts, TypesParts, Listed, type_from}
use Rattle.sl_parse_expr.specs.Grammar.{read, spells_at}
use Rattle.sl_parse_expr.specs.Told.{head_sort, reads, path_form, path_view, types_view}
use Rattle.sl_parse_expr.proofs.Laws as laws
use Rattle.sl_parse_expr.proofs.AllSeen.{all_seen}
use Rattle.sl_parse_expr.proofs.Telling.{Keeps, read_keeps, as_done, as_stopped, both_go, both_first, both_second, room_left, room_right, room_shut}
use Rattle.sl_parse_expr.proofs.Listing.{listed_view, next, listing_from, listing_ends, listing_stops, listing_goes, listing_begins}

-- a path is read by its form, whatever the room
pub path_read : (r : Levels) (ts : List Spelled) → read r Path ts ≡ reads path_form ts
unfolding reads
path_read r ts = sym (laws.rule_read all_seen Path r refl refl ts) ∙ plain (reads path_form ts)
  where
    plain : (f : Found Spelled PathParts) → found_as (λ v. v) f ≡ f
    plain (Done v rest) = refl
    plain (Stopped rest) = refl

-- a type is a path, and maybe types in brackets

abbrev read_tail : Levels → List Spelled → Found Spelled (TypesParts ⊎ Unit {0})
read_tail r ts = read_either (guard (fits r) (is sort (left_bracket ∷ []))) (reads (types_form (deeper r))) read_nothing ts

abbrev with_tail : PathParts → TypesParts ⊎ Unit {0} → Tall TypeTerm
with_tail v y = type_from (v, y)

type_rule : (r : Levels) → open_to r ≡ true → (ts : List Spelled) → read r Type_term ts ≡ found_as type_from (read_both (read r Path) (read_tail r) ts)
unfolding reads
type_rule r o ts = sym (laws.rule_read all_seen Type_term r o refl ts)

type_goes : (r : Levels) → open_to r ≡ true → (ts rest : List Spelled) (v : PathParts) → reads path_form ts ≡ Done v rest → read r Type_term ts ≡ found_as (with_tail v) (read_tail r rest)
type_goes r o ts rest v e =
    let pair : TypesParts ⊎ Unit {0} → PathParts × (TypesParts ⊎ Unit {0}) = λ y. (v, y) in
    type_rule r o ts ∙ (ap (found_as type_from) (both_go (read r Path) (read_tail r) ts v rest (path_read r ts ∙ e)) ∙ found_as_as type_from pair (read_tail r rest))

pub type_halts : (r : Levels) → open_to r ≡ true → (ts rest : List Spelled) → found_as path_view (reads path_form ts) ≡ Stopped rest → read r Type_term ts ≡ Stopped rest
type_halts r o ts rest e =
    type_rule r o ts ∙ ap (found_as type_from) (both_first (read r Path) (read_tail r) ts rest (path_read r ts ∙ as_stopped path_view (reads path_form ts) rest e))

plain : (r : Levels) → open_to r ≡ true → (ts rest : List Spelled) (path : List (List ℕ)) (span : Span) → found_as path_view (reads path_form ts) ≡ Done (path, span) rest
    → read_tail r rest ≡ found_as inr (read_nothing rest) → read r Type_term ts ≡ Done (type_term path [] span, 1) rest
plain r o ts rest path span e t =
    let w = as_done path_view (reads path_form ts) (path, span) rest e in
    type_goes r o ts rest w.0 w.1 ∙ (ap (found_as (with_tail w.0)) t ∙ ap (λ (p : List (List ℕ) × Span). Done (type_term p.0 [] p.1, 1) rest) w.2)

-- no bracket comes, or there is no room for one
pub type_plain : (r : Levels) → open_to r ≡ true → (ts rest : List Spelled) (path : List (List ℕ)) (span : Span) → found_as path_view (reads path_form ts) ≡ Done (path, span) rest
    → has (left_bracket ∷ []) (head_sort rest) ≡ false → read r Type_term ts ≡ Done (type_term path [] span, 1) rest
type_plain r o ts rest path span e h = plain r o ts rest path span e (room_right (left_bracket ∷ []) (reads (types_form (deeper r))) read_nothing (fits r) rest h)

pub type_shut : (r : Levels) → open_to r ≡ true → (ts rest : List Spelled) (path : List (List ℕ)) (span : Span) → found_as path_view (reads path_form ts) ≡ Done (path, span) rest
    → fits r ≡ false → read r Type_term ts ≡ Done (type_term path [] span, 1) rest
type_shut r o ts rest path span e f = plain r o ts rest path span e (room_shut (left_bracket ∷ []) (reads (types_form (deeper r))) read_nothing (fits r) rest f)

-- types in brackets are behind it
pub type_stops : (r : Levels) → open_to r ≡ true → (ts rest left : List Spelled) (p : List (List ℕ) × Span) → found_as path_view (reads path_form ts) ≡ Done p rest → fits r ≡ true
    → has (left_bracket ∷ []) (head_sort rest) ≡ true → found_as types_view (reads (types_form (deeper r)) rest) ≡ Stopped left → read r Type_term ts ≡ Stopped left
type_stops r o ts rest left p e f h d =
    let w = as_done path_view (reads path_form ts) p rest e in
    type_goes r o ts rest w.0 w.1
    ∙ (ap (found_as (with_tail w.0)) (room_left (left_bracket ∷ []) (reads (types_form (deeper r))) read_nothing (fits r) rest f refl h)
    ∙ ap (λ x. found_as (with_tail w.0) (found_as inl x)) (as_stopped types_view (reads (types_form (deeper r)) rest) left d))

pub type_applied : (r : Levels) → open_to r ≡ true → (ts rest left : List Spelled) (path : List (List ℕ)) (span close joined : Span) (args : List TypeTerm) (levels more : ℕ)
    → found_as path_view (reads path_form ts) ≡ Done (path, span) rest → fits r ≡ true → has (left_bracket ∷ []) (head_sort rest) ≡ true
    → found_as types_view (reads (types_form (deeper r)) rest) ≡ Done (args, (levels, close)) left → joined ≡ join span close → more ≡ suc levels
    → read r Type_term ts ≡ Done (type_term path args joined, more) left
type_applied r o ts rest left path span close joined args levels more e f h d j m =
    let w = as_done path_view (reads path_form ts) (path, span) rest e in
    let v = as_done types_view (reads (types_form (deeper r)) rest) (args, (levels, close)) left d in
    type_goes r o ts rest w.0 w.1
    ∙ (ap (found_as (with_tail w.0)) (room_left (left_bracket ∷ []) (reads (types_form (deeper r))) read_nothing (fits r) rest f refl h)
    ∙ (ap (λ x. found_as (with_tail w.0) (found_as inl x)) v.1
    ∙ (ap (λ (p : List (List ℕ) × Span). Done (type_term p.0 (types_view v.0).0 (join p.1 (types_view v.0).1.1), suc (types_view v.0).1.0) left) w.2
    ∙ (ap (λ (p : List TypeTerm × (ℕ × Span)). Done (type_term path p.0 (join span p.1.1), suc p.1.0) left) v.2
    ∙ (ap (λ s. Done (type_term path args s, suc levels) left) (sym j) ∙ ap (λ n. Done (type_term path args joined, n) left) (sym m))))))

-- types in brackets

type_keeps : (r : Levels) → open_to r ≡ true → Keeps (read r Type_term)
type_keeps r o = read_keeps (spells_at Type_term r) (read r Type_term) (laws.reads all_seen Type_term r o)

abbrev closed : List TypeTerm × ℕ → Spelled → List TypeTerm × (ℕ × Span)
closed p k = (p.0, (p.1, k.span))

abbrev close : List TypeTerm × ℕ → List Spelled → Found Spelled (List TypeTerm × (ℕ × Span))
close p ts = found_as (closed p) (read_token (is sort (right_bracket ∷ [])) ts)

-- the rest of them, where some were read
unfoldable pub types_from : Levels → List TypeTerm × ℕ → List Spelled → Found Spelled (List TypeTerm × (ℕ × Span))
types_from r p ts = found_then (listing_from (read r Type_term) p ts) close

pub types_stops : (r : Levels) (p : List TypeTerm × ℕ) (ts more rest : List Spelled) (d : Spelled) → has (comma ∷ []) (head_sort ts) ≡ true → read_token (is sort (comma ∷ [])) ts ≡ Done d more
    → read r Type_term more ≡ Stopped rest → types_from r p ts ≡ Stopped rest
unfolding types_from
types_stops r p ts more rest d h a b = ap (λ f. found_then f close) (listing_stops (read r Type_term) p ts more rest d h a b)

pub types_goes : (r : Levels) → open_to r ≡ true → (p : List TypeTerm × ℕ) (ts more rest : List Spelled) (d : Spelled) (t : TypeTerm) (n : ℕ) (all : List TypeTerm) (levels : ℕ) → has (comma ∷ []) (head_sort ts) ≡ true
    → read_token (is sort (comma ∷ [])) ts ≡ Done d more → read r Type_term more ≡ Done (t, n) rest → all ≡ p.0 ++ t ∷ [] → levels ≡ max p.1 n → types_from r p ts ≡ types_from r (all, levels) rest
unfolding types_from
types_goes r o p ts more rest d t n all levels h a b e f =
    let same : (p.0 ++ t ∷ [], max p.1 n) ≡ (all, levels) = cc in
    ap (λ f. found_then f close) (listing_goes (read r Type_term) (type_keeps r o) p ts more rest d t n h a b) ∙ ap (λ p. found_then (listing_from (read r Type_term) p rest) close) same

pub types_ends : (r : Levels) (p : List TypeTerm × ℕ) (ts rest : List Spelled) (k : Spelled) → has (comma ∷ []) (head_sort ts) ≡ false → read_token (is sort (right_bracket ∷ [])) ts ≡ Done k rest
    → types_from r p ts ≡ Done (p.0, (p.1, k.span)) rest
unfolding types_from
types_ends r p ts rest k h e = ap (λ f. found_then f close) (listing_ends (read r Type_term) p ts h) ∙ ap (found_as (closed p)) e

pub types_unclosed : (r : Levels) (p : List TypeTerm × ℕ) (ts rest : List Spelled) → has (comma ∷ []) (head_sort ts) ≡ false → read_token (is sort (right_bracket ∷ [])) ts ≡ Stopped rest
    → types_from r p ts ≡ Stopped rest
unfolding types_from
types_unclosed r p ts rest h e = ap (λ f. found_then f close) (listing_ends (read r Type_term) p ts h) ∙ ap (found_as (closed p)) e

-- the bracket that opens them, and the first

abbrev read_listed : Levels → List Spelled → Found Spelled (Listed TypeTerm)
read_listed r ts = read_both (read r Type_term) (read_list (is sort (comma ∷ [])) (next (read r Type_term))) ts

abbrev read_closed : Levels → List Spelled → Found Spelled (Listed TypeTerm × Spelled)
read_closed r ts = read_both (read_listed r) (read_token (is sort (right_bracket ∷ []))) ts

pub types_halts : (r : Levels) (ts rest : List Spelled) → read_token (is sort (left_bracket ∷ [])) ts ≡ Stopped rest → found_as types_view (reads (types_form r) ts) ≡ Stopped rest
unfolding reads
types_halts r ts rest e = ap (found_as types_view) (both_first (read_token (is sort (left_bracket ∷ []))) (read_closed r) ts rest e)

pub types_first : (r : Levels) (ts more rest : List Spelled) (k : Spelled) → read_token (is sort (left_bracket ∷ [])) ts ≡ Done k more → read r Type_term more ≡ Stopped rest
    → found_as types_view (reads (types_form r) ts) ≡ Stopped rest
unfolding reads
types_first r ts more rest k e d =
    ap (found_as types_view) (both_second (read_token (is sort (left_bracket ∷ []))) (read_closed r) ts k more rest e
    (both_first (read_listed r) (read_token (is sort (right_bracket ∷ []))) more rest (both_first (read r Type_term) (read_list (is sort (comma ∷ [])) (next (read r Type_term))) more rest d)))

pub types_begins : (r : Levels) (ts more rest : List Spelled) (k : Spelled) (t : TypeTerm) (n : ℕ) (all : List TypeTerm) → read_token (is sort (left_bracket ∷ [])) ts ≡ Done k more
    → read r Type_term more ≡ Done (t, n) rest → all ≡ t ∷ [] → found_as types_view (reads (types_form r) ts) ≡ types_from r (all, n) rest
unfolding reads types_from
types_begins r ts more rest k t n all e d s =
    ap (found_as types_view) (both_go (read_token (is sort (left_bracket ∷ []))) (read_closed r) ts k more e)
    ∙ (same (read_listed r more) ∙ (ap (λ f. found_then f close) (listing_begins (read r Type_term) more rest t n d) ∙ ap (λ all. found_then (listing_from (read r Type_term) (all, n) rest) close) (sym s)))
  where
    last : (v : Listed TypeTerm) (g : Found Spelled Spelled) → found_as types_view (found_as (λ y. (k, y)) (found_then {Y = Listed TypeTerm × Spelled} g (λ y left. Done (v, y) left))) ≡ found_as (closed (listed_view v)) g
    last v (Done y left) = refl
    last v (Stopped left) = refl

    same : (f : Found Spelled (Listed TypeTerm))
        → found_as types_view (found_as (λ y. (k, y)) (found_then {Y = Listed TypeTerm × Spelled} f (λ x left. found_then (read_token (is sort (right_bracket ∷ [])) left) (λ y left. Done (x, y) left)))) ≡ found_then (found_as listed_view f) close
    same (Done v left) = last v (read_token (is sort (right_bracket ∷ [])) left)
    same (Stopped left) = refl
