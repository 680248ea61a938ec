-- Patterns, as the code reads them.
use Rattle.std.proofs.Common.{◌≡◌, ℕ, suc, List, [], ◌∷◌, ◌++◌, max, refl, ap, ◌∙◌, sym, inl, inr, ◌⊎◌, Bool, true, false, Some, None}
use Rattle.std.specs.Prelude.{eqb, length, ◌<◌, ◌≤◌}
use Rattle.std.proofs.Common.{arith}
use Rattle.std.proofs.lemmas.Bool.{ne_eqb}
use Rattle.sl_text.specs.declared.place.Span.{Span}
use Rattle.sl_grammar.specs.Phrase.{Found, Done, Stopped, found_then, read_both, read_either, read_token}
use Rattle.sl_grammar.specs.Law.{found_as, read_nothing}
use Rattle.sl_grammar.specs.Guard.{guard}
use Rattle.sl_grammar.specs.Many.{read_list}
use Rattle.sl_grammar.specs.Grammar.{is, has}
use Rattle.sl_grammar.specs.Growing.{folded}
use Rattle.sl_grammar.proofs.Growing.{found_as_as, many_grown}
use Rattle.sl_tree.specs.Sorts.{Spelled, sort, lexeme, comma, colon, dot, underscore, minus, number, truth_name, left_parenthesis, right_parenthesis}
use Rattle.sl_tree.specs.WellShaped.{join, literals, names, pattern}
use Rattle.sl_tree.specs.declared.tree.Lexeme.{Lexeme}
use Rattle.sl_tree.specs.declared.tree.TypeTerm.{TypeTerm}
use Rattle.sl_tree.specs.declared.tree.Pattern.{Pattern, roll-Pattern}
use Rattle.sl_tree.specs.declared.tree.PatternKind.{PatternKind}
use Rattle.sl_tree.specs.declared.tree.PatternKind.TheVariants as pattern_kind
use Rattle.sl_parse_expr.specs.Names.{Type_term, Pattern_of, Name_tail, Class_tail, Levels, open_to, deeper, fits}
use Rattle.sl_parse_expr.specs.Values.{Tall, Listed, TailParts, ClassParts, firsts, deepest, path_texts, path_span, type_span, any_from, bind_from, named_from, class_parts, pattern_from}
use Rattle.sl_parse_expr.specs.Grammar.{read, spells_at}
use Rattle.sl_parse_expr.specs.Told.{head_sort, reads, any_form, class_form, class_view, name_form, with_name, path_from}
use Rattle.sl_parse_expr.proofs.Laws as laws
use Rattle.sl_parse_expr.proofs.AllSeen.{all_seen}
use Rattle.sl_parse_expr.proofs.Telling.{read_keeps, as_done, as_stopped, both_go, both_first, both_done, both_second, either_left, either_right, room_left, room_right, room_shut}
use Rattle.sl_parse_expr.proofs.Paths.{view_folded}
use Rattle.sl_parse_expr.proofs.Listing.{listed_view, next, listing_from, listing_ends, listing_stops, listing_goes, listing_begins}

-- a pattern, by its parts
abbrev pub node : PatternKind → Span → Pattern
node kind span = roll-Pattern (record { kind = kind; span = span })

-- an identifier by itself

pub bind_truth : (k : Spelled) (s : ℕ) (l : Lexeme) → s ≡ sort k → s ≡ truth_name → l ≡ lexeme k → node (pattern_kind.Literal false l) k.span ≡ bind_from k
unfolding bind_from pattern
bind_truth k s l e f g = let h : sort k ≡ truth_name = sym e ∙ f in rw (h, g) refl

pub bind_name : (k : Spelled) (s : ℕ) (name : List ℕ) → s ≡ sort k → (s ≡ truth_name → ⊥) → name ≡ k.text → node (pattern_kind.Bind name None) k.span ≡ bind_from k
unfolding bind_from pattern
bind_name k s name e f g = let h : eqb (sort k) truth_name ≡ false = ne_eqb (sort k) truth_name (λ d. f (e ∙ d)) in rw (h, g) refl

-- one or the other, where there may be no room for the first
module _ {X Y : Type 0} (ks : List ℕ) (l : List Spelled → Found Spelled X) (m : List Spelled → Found Spelled Y) where
  guard_left : (c : Bool) (ts : List Spelled) → has ks 99 ≡ false → guard c (has ks) (head_sort ts) ≡ true → read_either (guard c (is sort ks)) l m ts ≡ found_as inl (l ts)
  guard_left true ts n h = room_left ks l m true ts refl n h
  guard_left false ts n h = absurd cc

  guard_right : (c : Bool) (ts : List Spelled) → guard c (has ks) (head_sort ts) ≡ false → read_either (guard c (is sort ks)) l m ts ≡ found_as inr (m ts)
  guard_right true ts h = room_right ks l m true ts h
  guard_right false ts h = room_shut ks l m false ts refl

-- there is room where the test passes
pub guard_fits : (c : Bool) (ks : List ℕ) (s : ℕ) → guard c (has ks) s ≡ true → c ≡ true
guard_fits true ks s h = refl
guard_fits false ks s h = h

pub guard_has : (c : Bool) (ks : List ℕ) (s : ℕ) → guard c (has ks) s ≡ true → has ks s ≡ true
guard_has true ks s h = h
guard_has false ks s h = absurd cc

plain : {X : Type 0} (f : Found Spelled X) → found_as (λ v. v) f ≡ f
plain (Done v rest) = refl
plain (Stopped rest) = refl

-- a type behind a colon

abbrev read_typed : Levels → List Spelled → Found Spelled (Spelled × Tall TypeTerm)
read_typed r ts = read_both (read_token (is sort (colon ∷ []))) (read (deeper r) Type_term) ts

any_rule : (r : Levels) (ts : List Spelled) → reads (any_form r) ts ≡ read_either (guard (fits r) (is sort (colon ∷ []))) (read_typed r) read_nothing ts
unfolding reads
any_rule r ts = refl

pub any_plain : (r : Levels) (ts : List Spelled) (k : Spelled) → guard (fits r) (has (colon ∷ [])) (head_sort ts) ≡ false
    → found_as (any_from k) (reads (any_form r) ts) ≡ Done (node (pattern_kind.Any None) k.span, 1) ts
unfolding pattern
any_plain r ts k h = ap (found_as (any_from k)) (any_rule r ts ∙ guard_right (colon ∷ []) (read_typed r) read_nothing (fits r) ts h)

any_goes : (r : Levels) (ts : List Spelled) (k : Spelled) → guard (fits r) (has (colon ∷ [])) (head_sort ts) ≡ true
    → found_as (any_from k) (reads (any_form r) ts) ≡ found_as (any_from k) (found_as inl (read_typed r ts))
any_goes r ts k h = ap (found_as (any_from k)) (any_rule r ts ∙ guard_left (colon ∷ []) (read_typed r) read_nothing (fits r) ts refl h)

pub any_stops : (r : Levels) (ts more rest : List Spelled) (k c : Spelled) → guard (fits r) (has (colon ∷ [])) (head_sort ts) ≡ true → read_token (is sort (colon ∷ [])) ts ≡ Done c more
    → read (deeper r) Type_term more ≡ Stopped rest → found_as (any_from k) (reads (any_form r) ts) ≡ Stopped rest
any_stops r ts more rest k c h a b =
    any_goes r ts k h ∙ ap (λ x. found_as (any_from k) (found_as inl x)) (both_second (read_token (is sort (colon ∷ []))) (read (deeper r) Type_term) ts c more rest a b)

pub any_typed : (r : Levels) (ts more rest : List Spelled) (k c : Spelled) (t : TypeTerm) (n : ℕ) → guard (fits r) (has (colon ∷ [])) (head_sort ts) ≡ true → read_token (is sort (colon ∷ [])) ts ≡ Done c more
    → read (deeper r) Type_term more ≡ Done (t, n) rest → (span : Span) (m : ℕ) → span ≡ join k.span (type_span t) → m ≡ suc n
    → found_as (any_from k) (reads (any_form r) ts) ≡ Done (node (pattern_kind.Any (Some t)) span, m) rest
unfolding pattern
any_typed r ts more rest k c t n h a b span m e f =
    any_goes r ts k h ∙ (ap (λ x. found_as (any_from k) (found_as inl x)) (both_done (read_token (is sort (colon ∷ []))) (read (deeper r) Type_term) ts c more (t, n) rest a b) ∙ rw (e, f) refl)

-- what stands behind an identifier

abbrev read_links : List Spelled → Found Spelled (List (Spelled × Spelled))
read_links ts = read_list (is sort (dot ∷ [])) (reads name_form) ts

abbrev read_tail : Levels → List Spelled → Found Spelled (List (Spelled × Spelled) × ClassParts)
read_tail r ts = read_both read_links (read r Class_tail) ts

tail_rule : (r : Levels) → open_to r ≡ true → (ts : List Spelled) → read r Name_tail ts ≡ read_either (guard (fits r) (is sort (colon ∷ []))) (read_typed r) (read_tail r) ts
unfolding reads
tail_rule r o ts = sym (laws.rule_read all_seen Name_tail r o refl ts) ∙ plain (read_either (guard (fits r) (is sort (colon ∷ []))) (read_typed r) (read_tail r) ts)

name_left : (r : Levels) → open_to r ≡ true → (ts : List Spelled) (k : Spelled) → guard (fits r) (has (colon ∷ [])) (head_sort ts) ≡ true
    → found_as (named_from k) (read r Name_tail ts) ≡ found_as (named_from k) (found_as inl (read_typed r ts))
name_left r o ts k h = ap (found_as (named_from k)) (tail_rule r o ts ∙ guard_left (colon ∷ []) (read_typed r) (read_tail r) (fits r) ts refl h)

name_right : (r : Levels) → open_to r ≡ true → (ts : List Spelled) (k : Spelled) → guard (fits r) (has (colon ∷ [])) (head_sort ts) ≡ false
    → found_as (named_from k) (read r Name_tail ts) ≡ found_as (named_from k) (found_as inr (read_tail r ts))
name_right r o ts k h = ap (found_as (named_from k)) (tail_rule r o ts ∙ guard_right (colon ∷ []) (read_typed r) (read_tail r) (fits r) ts h)

pub name_untyped : (r : Levels) → open_to r ≡ true → (ts more rest : List Spelled) (k c : Spelled) → guard (fits r) (has (colon ∷ [])) (head_sort ts) ≡ true → read_token (is sort (colon ∷ [])) ts ≡ Done c more
    → read (deeper r) Type_term more ≡ Stopped rest → found_as (named_from k) (read r Name_tail ts) ≡ Stopped rest
name_untyped r o ts more rest k c h a b =
    name_left r o ts k h ∙ ap (λ x. found_as (named_from k) (found_as inl x)) (both_second (read_token (is sort (colon ∷ []))) (read (deeper r) Type_term) ts c more rest a b)

pub name_typed : (r : Levels) → open_to r ≡ true → (ts more rest : List Spelled) (k c : Spelled) (t : TypeTerm) (n : ℕ) → guard (fits r) (has (colon ∷ [])) (head_sort ts) ≡ true
    → read_token (is sort (colon ∷ [])) ts ≡ Done c more → read (deeper r) Type_term more ≡ Done (t, n) rest
    → (name : List ℕ) (span : Span) (m : ℕ) → name ≡ k.text → span ≡ join k.span (type_span t) → m ≡ suc n
    → found_as (named_from k) (read r Name_tail ts) ≡ Done (node (pattern_kind.Bind name (Some t)) span, m) rest
unfolding pattern
name_typed r o ts more rest k c t n h a b name span m e f g =
    name_left r o ts k h ∙ (ap (λ x. found_as (named_from k) (found_as inl x)) (both_done (read_token (is sort (colon ∷ []))) (read (deeper r) Type_term) ts c more (t, n) rest a b) ∙ rw (e, f, g) refl)

-- the names of a path

links_seen : (k : Spelled) (ts : List Spelled) → found_as (λ xs. folded with_name (k.text ∷ [], k.span) xs) (read_links ts) ≡ path_from (k.text ∷ [], k.span) ts
unfolding path_from
links_seen k ts = many_grown (is sort (dot ∷ [])) (reads name_form) with_name (k.text ∷ [], k.span) ts

pub name_halts : (r : Levels) → open_to r ≡ true → (ts rest : List Spelled) (k : Spelled) → guard (fits r) (has (colon ∷ [])) (head_sort ts) ≡ false
    → path_from (k.text ∷ [], k.span) ts ≡ Stopped rest → found_as (named_from k) (read r Name_tail ts) ≡ Stopped rest
name_halts r o ts rest k h e =
    let s = as_stopped (λ xs. folded with_name (k.text ∷ [], k.span) xs) (read_links ts) rest (links_seen k ts ∙ e) in
    name_right r o ts k h ∙ ap (λ x. found_as (named_from k) (found_as inr x)) (both_first read_links (read r Class_tail) ts rest s)

-- a name, behind its path
abbrev pub Linked : Levels → List Spelled → List Spelled → Spelled → List (List ℕ) → Span → Type 0
Linked r ts rest k path span =
    (xs : List (Spelled × Spelled)) × (path ≡ path_texts (k, xs)) × (span ≡ path_span (k, xs)) × (found_as (named_from k) (read r Name_tail ts) ≡ found_as (λ v. named_from k (inr (xs, v))) (read r Class_tail rest))

pub name_links : (r : Levels) → open_to r ≡ true → (ts rest : List Spelled) (k : Spelled) (path : List (List ℕ)) (span : Span) → guard (fits r) (has (colon ∷ [])) (head_sort ts) ≡ false
    → path_from (k.text ∷ [], k.span) ts ≡ Done (path, span) rest → Linked r ts rest k path span
name_links r o ts rest k path span h e =
    let (xs, d, f) = as_done (λ xs. folded with_name (k.text ∷ [], k.span) xs) (read_links ts) (path, span) rest (links_seen k ts ∙ e) in
    let g : (path, span) ≡ (path_texts (k, xs), path_span (k, xs)) = sym f ∙ view_folded (k.text ∷ []) k k xs in (
      xs,
      ap (λ (p : List (List ℕ) × Span). p.0) g,
      ap (λ (p : List (List ℕ) × Span). p.1) g,
      name_right r o ts k h ∙ (ap (λ x. found_as (named_from k) (found_as inr x)) (both_go read_links (read r Class_tail) ts xs rest d) ∙ same xs (read r Class_tail rest)),
    )
  where
    same : (xs : List (Spelled × Spelled)) (f : Found Spelled ClassParts) → found_as (named_from k) (found_as inr (found_as (λ y. (xs, y)) f)) ≡ found_as (λ v. named_from k (inr (xs, v))) f
    same xs (Done v left) = refl
    same xs (Stopped left) = refl

-- a class, and what is behind it

class_rule : (r : Levels) → open_to r ≡ true → (ts : List Spelled) → read r Class_tail ts ≡ read_either (is sort (left_parenthesis ∷ [])) (reads (class_form r)) read_nothing ts
unfolding reads
class_rule r o ts = sym (laws.rule_read all_seen Class_tail r o refl ts) ∙ plain (read_either (is sort (left_parenthesis ∷ [])) (reads (class_form r)) read_nothing ts)

class_left : (r : Levels) → open_to r ≡ true → (ts : List Spelled) → has (left_parenthesis ∷ []) (head_sort ts) ≡ true → read r Class_tail ts ≡ found_as inl (reads (class_form r) ts)
class_left r o ts h = class_rule r o ts ∙ either_left (left_parenthesis ∷ []) (reads (class_form r)) read_nothing ts refl h

class_right : (r : Levels) → open_to r ≡ true → (ts : List Spelled) → has (left_parenthesis ∷ []) (head_sort ts) ≡ false → read r Class_tail ts ≡ Done (inr tt) ts
class_right r o ts h = class_rule r o ts ∙ either_right (left_parenthesis ∷ []) (reads (class_form r)) read_nothing ts h

module _ (r : Levels) (o : open_to r ≡ true) (ts rest : List Spelled) (k : Spelled) (path : List (List ℕ)) (span : Span) (l : Linked r ts rest k path span) where
  pub named_stops : (left : List Spelled) → has (left_parenthesis ∷ []) (head_sort rest) ≡ true → found_as class_view (reads (class_form r) rest) ≡ Stopped left → found_as (named_from k) (read r Name_tail ts) ≡ Stopped left
  named_stops left h e =
      l.3 ∙ ap (found_as (λ v. named_from k (inr (l.0, v)))) (class_left r o rest h ∙ ap (found_as inl) (as_stopped class_view (reads (class_form r) rest) left e))

  pub named_class : (left : List Spelled) (parts : List Pattern) (levels : ℕ) (close whole : Span) → has (left_parenthesis ∷ []) (head_sort rest) ≡ true
      → found_as class_view (reads (class_form r) rest) ≡ Done (parts, (levels, close)) left → whole ≡ join span close
      → (m : ℕ) → m ≡ suc levels → found_as (named_from k) (read r Name_tail ts) ≡ Done (node (pattern_kind.Class path parts) whole, m) left
  unfolding pattern
  named_class left parts levels close whole h e w m n =
      let (v, d, f) = as_done class_view (reads (class_form r) rest) (parts, (levels, close)) left e in
      l.3 ∙ (ap (found_as (λ v. named_from k (inr (l.0, v)))) (class_left r o rest h ∙ ap (found_as inl) d) ∙ (same l.0 v
      ∙ (ap (λ (p : List Pattern × (ℕ × Span)). Done (node (pattern_kind.Class (path_texts (k, l.0)) p.0) (join (path_span (k, l.0)) p.1.1), suc p.1.0) left) f
      ∙ rw (w, n, l.1, l.2) refl)))
    where
      same : (xs : List (Spelled × Spelled)) (v : Spelled × ((Listed Pattern ⊎ Unit {0}) × Spelled))
          → Done (named_from k (inr (xs, inl v))) left ≡ Done (node (pattern_kind.Class (path_texts (k, xs)) (class_view v).0) (join (path_span (k, xs)) (class_view v).1.1), suc (class_view v).1.0) left
      same [] (p, (parts, q)) = refl
      same (x ∷ xs) (p, (parts, q)) = refl

  pub named_constant : has (left_parenthesis ∷ []) (head_sort rest) ≡ false → 1 < length path → found_as (named_from k) (read r Name_tail ts) ≡ Done (node (pattern_kind.Constant path) span, 1) rest
  unfolding pattern
  named_constant h n = l.3 ∙ (ap (found_as (λ v. named_from k (inr (l.0, v)))) (class_right r o rest h) ∙ by l.0 l.1 l.2)
    where
      by : (xs : List (Spelled × Spelled)) → path ≡ path_texts (k, xs) → span ≡ path_span (k, xs) → Done (named_from k (inr (xs, inr tt))) rest ≡ Done (node (pattern_kind.Constant path) span, 1) rest
      by [] e f = absurd (omega (arith, n, ap length e))
      by (x ∷ xs) e f = rw (e, f) refl

  pub named_bind : has (left_parenthesis ∷ []) (head_sort rest) ≡ false → length path ≤ 1 → (x : Pattern) → x ≡ bind_from k → found_as (named_from k) (read r Name_tail ts) ≡ Done (x, 1) rest
  named_bind h n x b = l.3 ∙ (ap (found_as (λ v. named_from k (inr (l.0, v)))) (class_right r o rest h) ∙ by l.0 l.1)
    where
      by : (xs : List (Spelled × Spelled)) → path ≡ path_texts (k, xs) → Done (named_from k (inr (xs, inr tt))) rest ≡ Done (x, 1) rest
      by [] e = rw b refl
      by (x ∷ xs) e = absurd (omega (arith, n, ap length e))

-- a pattern

abbrev read_any : Levels → List Spelled → Found Spelled (Spelled × ((Spelled × Tall TypeTerm) ⊎ Unit {0}))
read_any r ts = read_both (read_token (is sort (underscore ∷ []))) (reads (any_form r)) ts

abbrev read_minus : List Spelled → Found Spelled (Spelled × Spelled)
read_minus ts = read_both (read_token (is sort (minus ∷ []))) (read_token (is sort (number ∷ []))) ts

abbrev read_named : Levels → List Spelled → Found Spelled (Spelled × TailParts)
read_named r ts = read_both (read_token (is sort names)) (read r Name_tail) ts

abbrev third : Levels → List Spelled → Found Spelled (Spelled ⊎ (Spelled × TailParts))
third r ts = read_either (is sort literals) (read_token (is sort literals)) (read_named r) ts

abbrev second : Levels → List Spelled → Found Spelled ((Spelled × Spelled) ⊎ (Spelled ⊎ (Spelled × TailParts)))
second r ts = read_either (is sort (minus ∷ [])) read_minus (third r) ts

module _ (r : Levels) (o : open_to r ≡ true) where
  pattern_rule : (ts : List Spelled) → read r Pattern_of ts ≡ found_as pattern_from (read_either (is sort (underscore ∷ [])) (read_any r) (second r) ts)
  unfolding reads
  pattern_rule ts = sym (laws.rule_read all_seen Pattern_of r o refl ts)

  -- no token is left
  pub pattern_none : read r Pattern_of [] ≡ Stopped []
  pattern_none = pattern_rule []

  module _ (k : Spelled) (ks : List Spelled) where
    token_is : (wanted : List ℕ) → has wanted (sort k) ≡ true → read_token (is sort wanted) (k ∷ ks) ≡ Done k ks
    token_is wanted h = rw h refl

    pub pattern_any : has (underscore ∷ []) (sort k) ≡ true → read r Pattern_of (k ∷ ks) ≡ found_as (any_from k) (reads (any_form r) ks)
    pattern_any h =
        pattern_rule (k ∷ ks) ∙ (ap (found_as pattern_from) (either_left (underscore ∷ []) (read_any r) (second r) (k ∷ ks) refl h
        ∙ ap (found_as inl) (both_go (read_token (is sort (underscore ∷ []))) (reads (any_form r)) (k ∷ ks) k ks (token_is (underscore ∷ []) h))) ∙ same (reads (any_form r) ks))
      where
        same : (f : Found Spelled ((Spelled × Tall TypeTerm) ⊎ Unit {0})) → found_as pattern_from (found_as inl (found_as (λ y. (k, y)) f)) ≡ found_as (any_from k) f
        same (Done v rest) = refl
        same (Stopped rest) = refl

    module _ (u : has (underscore ∷ []) (sort k) ≡ false) where
      pattern_second : read r Pattern_of (k ∷ ks) ≡ found_as pattern_from (found_as inr (second r (k ∷ ks)))
      pattern_second = pattern_rule (k ∷ ks) ∙ ap (found_as pattern_from) (either_right (underscore ∷ []) (read_any r) (second r) (k ∷ ks) u)

      pattern_minus : has (minus ∷ []) (sort k) ≡ true → read r Pattern_of (k ∷ ks) ≡ found_as pattern_from (found_as inr (found_as inl (read_minus (k ∷ ks))))
      pattern_minus h = pattern_second ∙ ap (λ x. found_as pattern_from (found_as inr x)) (either_left (minus ∷ []) read_minus (third r) (k ∷ ks) refl h)

      pub pattern_negative : has (minus ∷ []) (sort k) ≡ true → (j : Spelled) (rest : List Spelled) (l : Lexeme) (span : Span) → read_token (is sort (number ∷ [])) ks ≡ Done j rest → l ≡ lexeme j → span ≡ join k.span j.span
          → read r Pattern_of (k ∷ ks) ≡ Done (node (pattern_kind.Literal true l) span, 1) rest
      unfolding pattern
      pattern_negative h j rest l span e f g =
          pattern_minus h ∙ (ap (λ x. found_as pattern_from (found_as inr (found_as inl x))) (both_done (read_token (is sort (minus ∷ []))) (read_token (is sort (number ∷ []))) (k ∷ ks) k ks j rest (token_is (minus ∷ []) h) e) ∙ rw (f, g) refl)

      pub pattern_minus_stops : has (minus ∷ []) (sort k) ≡ true → (rest : List Spelled) → read_token (is sort (number ∷ [])) ks ≡ Stopped rest → read r Pattern_of (k ∷ ks) ≡ Stopped rest
      pattern_minus_stops h rest e =
          pattern_minus h ∙ ap (λ x. found_as pattern_from (found_as inr (found_as inl x))) (both_second (read_token (is sort (minus ∷ []))) (read_token (is sort (number ∷ []))) (k ∷ ks) k ks rest (token_is (minus ∷ []) h) e)

      module _ (m : has (minus ∷ []) (sort k) ≡ false) where
        pattern_third : read r Pattern_of (k ∷ ks) ≡ found_as pattern_from (found_as inr (found_as inr (third r (k ∷ ks))))
        pattern_third = pattern_second ∙ ap (λ x. found_as pattern_from (found_as inr x)) (either_right (minus ∷ []) read_minus (third r) (k ∷ ks) m)

        pub pattern_literal : has literals (sort k) ≡ true → (l : Lexeme) → l ≡ lexeme k → read r Pattern_of (k ∷ ks) ≡ Done (node (pattern_kind.Literal false l) k.span, 1) ks
        unfolding pattern
        pattern_literal h l e =
            pattern_third ∙ (ap (λ x. found_as pattern_from (found_as inr (found_as inr x))) (either_left literals (read_token (is sort literals)) (read_named r) (k ∷ ks) refl h ∙ ap (found_as inl) (token_is literals h)) ∙ rw e refl)

        module _ (l : has literals (sort k) ≡ false) where
          pattern_fourth : read r Pattern_of (k ∷ ks) ≡ found_as pattern_from (found_as inr (found_as inr (found_as inr (read_named r (k ∷ ks)))))
          pattern_fourth = pattern_third ∙ ap (λ x. found_as pattern_from (found_as inr (found_as inr x))) (either_right literals (read_token (is sort literals)) (read_named r) (k ∷ ks) l)

          pub pattern_named : has names (sort k) ≡ true → read r Pattern_of (k ∷ ks) ≡ found_as (named_from k) (read r Name_tail ks)
          pattern_named h =
              pattern_fourth ∙ (ap (λ x. found_as pattern_from (found_as inr (found_as inr (found_as inr x)))) (both_go (read_token (is sort names)) (read r Name_tail) (k ∷ ks) k ks (token_is names h)) ∙ same (read r Name_tail ks))
            where
              same : (f : Found Spelled TailParts) → found_as pattern_from (found_as inr (found_as inr (found_as inr (found_as (λ y. (k, y)) f)))) ≡ found_as (named_from k) f
              same (Done v rest) = refl
              same (Stopped rest) = refl

          pub pattern_other : has names (sort k) ≡ false → read r Pattern_of (k ∷ ks) ≡ Stopped (k ∷ ks)
          pattern_other h =
              pattern_fourth ∙ ap (λ x. found_as pattern_from (found_as inr (found_as inr (found_as inr x)))) (both_first (read_token (is sort names)) (read r Name_tail) (k ∷ ks) (k ∷ ks) (rw h refl))

-- the patterns in a class

abbrev pub part_kinds : List ℕ
part_kinds = underscore ∷ minus ∷ literals ++ names

abbrev part : Levels → List Spelled → Found Spelled (Tall Pattern)
part r ts = read (deeper r) Pattern_of ts

abbrev closed : List Pattern × ℕ → Spelled → List Pattern × (ℕ × Span)
closed p k = (p.0, (p.1, k.span))

unfoldable pub close : List Pattern × ℕ → List Spelled → Found Spelled (List Pattern × (ℕ × Span))
close p ts = found_as (closed p) (read_token (is sort (right_parenthesis ∷ [])) ts)

pub close_done : (p : List Pattern × ℕ) (ts rest : List Spelled) (k : Spelled) → read_token (is sort (right_parenthesis ∷ [])) ts ≡ Done k rest → close p ts ≡ Done (p.0, (p.1, k.span)) rest
unfolding close
close_done p ts rest k e = ap (found_as (closed p)) e

pub close_stops : (p : List Pattern × ℕ) (ts rest : List Spelled) → read_token (is sort (right_parenthesis ∷ [])) ts ≡ Stopped rest → close p ts ≡ Stopped rest
unfolding close
close_stops p ts rest e = ap (found_as (closed p)) e

-- the rest of them, where some were read
unfoldable pub parts_from : Levels → List Pattern × ℕ → List Spelled → Found Spelled (List Pattern × (ℕ × Span))
parts_from r p ts = found_then (listing_from (part r) p ts) close

pub parts_ends : (r : Levels) (p : List Pattern × ℕ) (ts : List Spelled) → has (comma ∷ []) (head_sort ts) ≡ false → parts_from r p ts ≡ close p ts
unfolding parts_from
parts_ends r p ts h = ap (λ f. found_then f close) (listing_ends (part r) p ts h)

pub parts_stops : (r : Levels) (p : List Pattern × ℕ) (ts more rest : List Spelled) (d : Spelled) → has (comma ∷ []) (head_sort ts) ≡ true → read_token (is sort (comma ∷ [])) ts ≡ Done d more
    → read (deeper r) Pattern_of more ≡ Stopped rest → parts_from r p ts ≡ Stopped rest
unfolding parts_from
parts_stops r p ts more rest d h a b = ap (λ f. found_then f close) (listing_stops (part r) p ts more rest d h a b)

pub parts_goes : (r : Levels) → fits r ≡ true → (p : List Pattern × ℕ) (ts more rest : List Spelled) (d : Spelled) (x : Pattern) (n : ℕ) → has (comma ∷ []) (head_sort ts) ≡ true
    → read_token (is sort (comma ∷ [])) ts ≡ Done d more → read (deeper r) Pattern_of more ≡ Done (x, n) rest → parts_from r p ts ≡ parts_from r (p.0 ++ x ∷ [], max p.1 n) rest
unfolding parts_from
parts_goes r o p ts more rest d x n h a b =
    ap (λ f. found_then f close) (listing_goes (part r) (read_keeps (spells_at Pattern_of (deeper r)) (part r) (laws.reads all_seen Pattern_of (deeper r) o)) p ts more rest d x n h a b)

abbrev read_listed : Levels → List Spelled → Found Spelled (Listed Pattern)
read_listed r ts = read_both (part r) (read_list (is sort (comma ∷ [])) (next (part r))) ts

abbrev read_parts : Levels → List Spelled → Found Spelled (Listed Pattern ⊎ Unit {0})
read_parts r ts = read_either (guard (fits r) (is sort part_kinds)) (read_listed r) read_nothing ts

abbrev read_closed : Levels → List Spelled → Found Spelled ((Listed Pattern ⊎ Unit {0}) × Spelled)
read_closed r ts = read_both (read_parts r) (read_token (is sort (right_parenthesis ∷ []))) ts

class_form_rule : (r : Levels) (ts : List Spelled) → reads (class_form r) ts ≡ read_both (read_token (is sort (left_parenthesis ∷ []))) (read_closed r) ts
unfolding reads
class_form_rule r ts = refl

pub parts_halts : (r : Levels) (ts rest : List Spelled) → read_token (is sort (left_parenthesis ∷ [])) ts ≡ Stopped rest → found_as class_view (reads (class_form r) ts) ≡ Stopped rest
parts_halts r ts rest e = ap (found_as class_view) (class_form_rule r ts ∙ both_first (read_token (is sort (left_parenthesis ∷ []))) (read_closed r) ts rest e)

module _ (r : Levels) (ts more : List Spelled) (k : Spelled) (e : read_token (is sort (left_parenthesis ∷ [])) ts ≡ Done k more) where
  abbrev in_class : (Listed Pattern ⊎ Unit {0}) × Spelled → List Pattern × (ℕ × Span)
  in_class v = class_view (k, v)

  class_goes : found_as class_view (reads (class_form r) ts) ≡ found_as in_class (read_closed r more)
  class_goes =
      let pair : (Listed Pattern ⊎ Unit {0}) × Spelled → Spelled × ((Listed Pattern ⊎ Unit {0}) × Spelled) = λ v. (k, v) in
      ap (found_as class_view) (class_form_rule r ts ∙ both_go (read_token (is sort (left_parenthesis ∷ []))) (read_closed r) ts k more e) ∙ found_as_as class_view pair (read_closed r more)

  last : (v : Listed Pattern ⊎ Unit {0}) (left : List Spelled) → read_parts r more ≡ Done v left → found_as in_class (read_closed r more) ≡ close (firsts (class_parts v), deepest (class_parts v)) left
  unfolding close
  last v left d =
      let pair : Spelled → (Listed Pattern ⊎ Unit {0}) × Spelled = λ y. (v, y) in
      ap (found_as in_class) (both_go (read_parts r) (read_token (is sort (right_parenthesis ∷ []))) more v left d) ∙ found_as_as in_class pair (read_token (is sort (right_parenthesis ∷ [])) left)

  -- none
  pub parts_none : guard (fits r) (has part_kinds) (head_sort more) ≡ false → found_as class_view (reads (class_form r) ts) ≡ close ([], 0) more
  parts_none h = class_goes ∙ last (inr tt) more (guard_right part_kinds (read_listed r) read_nothing (fits r) more h)

  -- the first of them
  module _ (h : guard (fits r) (has part_kinds) (head_sort more) ≡ true) where
    parts_left : read_parts r more ≡ found_as inl (read_listed r more)
    parts_left = guard_left part_kinds (read_listed r) read_nothing (fits r) more refl h

    pub parts_first : (rest : List Spelled) → read (deeper r) Pattern_of more ≡ Stopped rest → found_as class_view (reads (class_form r) ts) ≡ Stopped rest
    parts_first rest d =
        class_goes ∙ ap (found_as in_class) (both_first (read_parts r) (read_token (is sort (right_parenthesis ∷ []))) more rest
        (parts_left ∙ ap (found_as inl) (both_first (part r) (read_list (is sort (comma ∷ [])) (next (part r))) more rest d)))

    pub parts_begins : (rest : List Spelled) (x : Pattern) (n : ℕ) → read (deeper r) Pattern_of more ≡ Done (x, n) rest → found_as class_view (reads (class_form r) ts) ≡ parts_from r (x ∷ [], n) rest
    unfolding parts_from
    parts_begins rest x n d = class_goes ∙ (by (read_listed r more) refl ∙ ap (λ f. found_then f close) (listing_begins (part r) more rest x n d))
      where
        by : (f : Found Spelled (Listed Pattern)) → read_listed r more ≡ f → found_as in_class (read_closed r more) ≡ found_then (found_as listed_view (read_listed r more)) close
        by (Done v left) e = last (inl v) left (parts_left ∙ ap (found_as inl) e) ∙ sym (ap (λ f. found_then (found_as listed_view f) close) e)
        by (Stopped left) e = ap (found_as in_class) (both_first (read_parts r) (read_token (is sort (right_parenthesis ∷ []))) more left (parts_left ∙ ap (found_as inl) e)) ∙ sym (ap (λ f. found_then (found_as listed_view f) close) e)
