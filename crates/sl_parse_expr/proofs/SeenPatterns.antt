-- Patterns: what their rule spells, and the patterns that are well shaped.
use Rattle.std.proofs.Common.{◌≡◌, ℕ, suc, List, [], ◌∷◌, ◌++◌, refl, sym, ap, ap₂, ◌∙◌, subst, ◌⊎◌, inl, inr, Bool, true, false, true≢false, eqb, if◌then◌else◌, append-nil}
use Rattle.std.proofs.Math.Nat.{suc-max-suc}
use Rattle.std.proofs.lemmas.Bool.{eqb-true, eq-eqb}
use Rattle.std.specs.Prelude.{Option, Some, None, max, ◌==◌}
use Rattle.sl_text.specs.declared.place.Span.{Span}
use Rattle.sl_grammar.specs.Phrase.{spells_either}
use Rattle.sl_grammar.specs.Law.{spells_nothing}
use Rattle.sl_grammar.specs.Grammar.{has}
use Rattle.sl_tree.specs.Sorts.{Spelled, sort, lexeme, dot, comma, colon, minus, number, underscore, left_parenthesis, right_parenthesis, plain_name, truth_name, until_name, to_name, contract_name}
use Rattle.sl_tree.specs.WellShaped.{Is, names, literals, join, cover, pattern, IsPath, IsType, IsAscribed, ascribed_not, ascribed_so, IsPattern, pattern_any, pattern_bind, pattern_typed, pattern_literal, pattern_negative, pattern_constant, pattern_class, IsPatterns, patterns_none, patterns_some, IsSomePatterns, patterns_end, patterns_more}
use Rattle.sl_tree.specs.declared.tree.TypeTerm.{TypeTerm}
use Rattle.sl_tree.specs.declared.tree.Pattern.{Pattern}
use Rattle.sl_tree.specs.declared.tree.PatternKind.{PatternKind}
use Rattle.sl_tree.specs.declared.tree.PatternKind.TheVariants as pattern_kind
use Rattle.sl_tree.proofs.Spans.{cover_one, cover_ends, solid_one}
use Rattle.sl_tree.proofs.Trees.{Deep, type_solid, type_spanned, type_deep, pattern_deep}
use Rattle.sl_parse_expr.specs.Names.{Pattern_of, Name_tail, at, Levels, holds, open_to, deeper, fits, rule_at}
use Rattle.sl_parse_expr.specs.Values.{Tall, Listed, listing, firsts, deepest, path_texts, type_span, TailParts, bind_from, class_parts, named_from, pattern_from}
use Rattle.sl_parse_expr.specs.Grammar.{spells, spells_at}
use Rattle.sl_parse_expr.proofs.Rooms.{holds_node, holds_below, fits_of, holds_one, holds_both, holds_left, holds_right, holds_none}
use Rattle.sl_parse_expr.proofs.SeenAt.{SeenAt}
use Rattle.sl_parse_expr.proofs.SeenTypes.{form, tall, cover_after, cover_two, Dots, dots_more, more_dots, dots_path, dots_cover, path_read, Spread, Gathered, listed_to, gather_one, gather_more, between_to, between_back}

-- listed patterns

abbrev pub A_pattern : Levels → Tall Pattern → List Spelled → Type 0
A_pattern r x ts = IsPattern x.1 x.0 ts × (holds r x.1 ≡ true)

pub some_patterns_deep : {n : ℕ} {xs : List Pattern} {ts : List Spelled} → IsSomePatterns n xs ts → Deep n
some_patterns_deep (patterns_end h e) = pattern_deep h
some_patterns_deep (patterns_more {m} {l} c h hc rest et es en) =
    let d = pattern_deep h in
    let b = some_patterns_deep rest in
    record { below = max d.below b.below; is = en ∙ (ap₂ max d.is b.is ∙ suc-max-suc d.below b.below) }

pub listed_patterns_to : (r : Levels) (v : Listed Pattern) (ts : List Spelled) → Spread (A_pattern r) (comma ∷ []) v ts
    → IsSomePatterns (deepest (listing v)) (firsts (listing v)) ts × (holds r (deepest (listing v)) ≡ true)
listed_patterns_to r v ts w = listed_to (A_pattern r) (λ n xs us. IsSomePatterns n xs us × (holds r n ≡ true)) (comma ∷ []) one more v ts w
  where
    one : (x : Tall Pattern) (us : List Spelled) → A_pattern r x us → IsSomePatterns x.1 (x.0 ∷ []) us × (holds r x.1 ≡ true)
    one x us (h, hr) = (patterns_end h refl, hr)

    more : (x : Tall Pattern) (c : Spelled) (l : ℕ) (rest : List Pattern) (us vs : List Spelled) → A_pattern r x us → Is (comma ∷ []) c
        → IsSomePatterns l rest vs × (holds r l ≡ true) → IsSomePatterns (max x.1 l) (x.0 ∷ rest) (us ++ c ∷ vs) × (holds r (max x.1 l) ≡ true)
    more x c l rest us vs (h, hr) hc (w, wr) = (patterns_more c h hc w refl refl refl, holds_both r x.1 l hr wr)

pub listed_patterns_back : {n : ℕ} {xs : List Pattern} {ts : List Spelled} (r : Levels) → IsSomePatterns n xs ts → holds r n ≡ true → Gathered (A_pattern r) (comma ∷ []) n xs ts
listed_patterns_back r (patterns_end {x} h e) hr = gather_one (A_pattern r) (comma ∷ []) x (h, hr) e
listed_patterns_back r (patterns_more {m} {l} {x} c h hc rest et es en) hr =
    let hr' = subst (λ z. holds r z ≡ true) en hr in
    gather_more (A_pattern r) (comma ∷ []) x c (h, holds_left r m l hr') hc (listed_patterns_back r rest (holds_right r m l hr')) et es en

-- the arguments in a pattern, where there is room for them
abbrev Inside : Levels → Listed Pattern ⊎ Unit {0} → List Spelled → Type 0
Inside r v ts = spells_either (λ y us. (fits r ≡ true) × Spread (A_pattern (deeper r)) (comma ∷ []) y us) spells_nothing v ts

inside_to : (r : Levels) (v : Listed Pattern ⊎ Unit {0}) (ts : List Spelled) → Inside r v ts
    → IsPatterns (deepest (class_parts v)) (firsts (class_parts v)) ts × (holds (deeper r) (deepest (class_parts v)) ≡ true)
inside_to r (inl v) ts (f, w) = let (h, hr) = listed_patterns_to (deeper r) v ts w in (patterns_some h, hr)
inside_to r (inr none) ts e = (patterns_none e refl refl, holds_none (deeper r))

inside_back : {n : ℕ} {xs : List Pattern} {ts : List Spelled} (r : Levels) → IsPatterns n xs ts → holds r (suc n) ≡ true
    → (v : Listed Pattern ⊎ Unit {0}) × (deepest (class_parts v) ≡ n) × (firsts (class_parts v) ≡ xs) × Inside r v ts
inside_back r (patterns_none e ex en) hr = (inr tt, sym en, sym ex, e)
inside_back {n} r (patterns_some h) hr =
    let (v, en, ex, w) = listed_patterns_back (deeper r) h (holds_below r n hr) in
    let d = some_patterns_deep h in
    (inl v, en, ex, (fits_of r d.below (subst (λ z. holds r (suc z) ≡ true) d.is hr), w))

-- sorts

has_later : (x : ℕ) (xs : List ℕ) (j : ℕ) → has xs j ≡ true → has (x ∷ xs) j ≡ true
has_later x xs j h = by (eqb x j)
  where
    by : (b : Bool) → (if b then true else has xs j) ≡ true
    by true = refl
    by false = h

-- the names that are no truth value
abbrev binds : List ℕ
binds = plain_name ∷ until_name ∷ to_name ∷ contract_name ∷ []

named_binds : (j : ℕ) → has names j ≡ true → (j == truth_name) ≡ false → has binds j ≡ true
named_binds j h e = by (eqb plain_name j) (eqb truth_name j) refl h
  where
    by : (b c : Bool) → eqb truth_name j ≡ c → (if b then true else if c then true else has (until_name ∷ to_name ∷ contract_name ∷ []) j) ≡ true
        → (if b then true else has (until_name ∷ to_name ∷ contract_name ∷ []) j) ≡ true
    by true c q h = refl
    by false true q h = absurd (true≢false (sym (eq-eqb j truth_name (sym (eqb-true truth_name j q))) ∙ e))
    by false false q h = h

binds_named : (j : ℕ) → has binds j ≡ true → has names j ≡ true
binds_named j h = by (eqb plain_name j) (eqb truth_name j) h
  where
    by : (b c : Bool) → (if b then true else has (until_name ∷ to_name ∷ contract_name ∷ []) j) ≡ true
        → (if b then true else if c then true else has (until_name ∷ to_name ∷ contract_name ∷ []) j) ≡ true
    by true c h = refl
    by false true h = refl
    by false false h = h

binds_no_truth : (j : ℕ) → has binds j ≡ true → (j == truth_name) ≡ false
binds_no_truth j h = by (j == truth_name) refl
  where
    by : (b : Bool) → (j == truth_name) ≡ b → b ≡ false
    by true e = absurd (true≢false (sym h ∙ ap (λ z. has binds z) (eqb-true j truth_name e)))
    by false e = refl

truth_named : (j : ℕ) → (j == truth_name) ≡ true → has names j ≡ true
truth_named j e = ap (λ z. has names z) (eqb-true j truth_name e)

truth_literal : (j : ℕ) → (j == truth_name) ≡ true → has (truth_name ∷ literals) j ≡ true
truth_literal j e = ap (λ z. has (truth_name ∷ literals) z) (eqb-true j truth_name e)

other_literal : (j : ℕ) → has (truth_name ∷ literals) j ≡ true → (j == truth_name) ≡ false → has literals j ≡ true
other_literal j h e = by (eqb truth_name j) refl h
  where
    by : (b : Bool) → eqb truth_name j ≡ b → (if b then true else has literals j) ≡ true → has literals j ≡ true
    by true q h = absurd (true≢false (sym (eq-eqb j truth_name (sym (eqb-true truth_name j q))) ∙ e))
    by false q h = h

-- an identifier by itself

bind_truth : (k : Spelled) → (sort k == truth_name) ≡ true → bind_from k ≡ pattern (pattern_kind.Literal false (lexeme k)) k.span
unfolding bind_from
bind_truth k e = ap (λ b. if b then pattern (pattern_kind.Literal false (lexeme k)) k.span else pattern (pattern_kind.Bind k.text None) k.span) e

bind_other : (k : Spelled) → (sort k == truth_name) ≡ false → bind_from k ≡ pattern (pattern_kind.Bind k.text None) k.span
unfolding bind_from
bind_other k e = ap (λ b. if b then pattern (pattern_kind.Literal false (lexeme k)) k.span else pattern (pattern_kind.Bind k.text None) k.span) e

cover_is : {ts : List Spelled} (k : Spelled) → ts ≡ k ∷ [] → cover ts ≡ k.span
cover_is k e = ap cover e ∙ cover_one k

bound_to : (k : Spelled) (ts : List Spelled) → Is names k → ts ≡ k ∷ [] → IsPattern 1 (bind_from k) ts
bound_to k ts h e = by (sort k == truth_name) refl
  where
    by : (b : Bool) → (sort k == truth_name) ≡ b → IsPattern 1 (bind_from k) ts
    by true q = pattern_literal k (truth_literal (sort k) q) e (bind_truth k q ∙ ap (λ z. pattern (pattern_kind.Literal false (lexeme k)) z) (sym (cover_is k e))) refl
    by false q = pattern_bind k (named_binds (sort k) h q) e (bind_other k q ∙ ap (λ z. pattern (pattern_kind.Bind k.text None) z) (sym (cover_is k e))) refl

-- the span of what has a type behind it
cover_typed : {n : ℕ} {t : TypeTerm} {ts us : List Spelled} (k c : Spelled) → IsType n t us → ts ≡ k ∷ c ∷ us → cover ts ≡ join k.span (type_span t)
cover_typed {us} k c h e =
    ap cover e ∙ (cover_after k (c ∷ us) (solid_one c us) ∙ (ap (λ z. join k.span z) (cover_after c us (type_solid h)) ∙ ap (λ z. join k.span z) (sym (type_spanned h))))

-- an identifier, and what follows it
named_to : (r : Levels) (k : Spelled) (tail : TailParts) (us ts : List Spelled) → open_to r ≡ true → Is names k → spells (at Name_tail r) tail us → ts ≡ k ∷ us
    → IsPattern (named_from k tail).1 (named_from k tail).0 ts × (holds r (named_from k tail).1 ≡ true)
named_to r k (inl (c, t)) us ts o h (f, (a, b, e, (ec, hc), (ht, hr))) et =
    let et' = et ∙ ap (λ z. k ∷ z) (e ∙ ap (λ z. z ++ b) ec) in
    (pattern_typed k c h hc ht et' (ap (λ z. pattern (pattern_kind.Bind k.text (Some t.0)) z) (sym (cover_typed k c ht et'))) refl, holds_node r t.1 o hr)
named_to r k (inr ([], inr none)) us ts o h (a, b, e, ea, eb) et = (bound_to k ts h (et ∙ ap (λ z. k ∷ z) (e ∙ ap₂ (λ y z. y ++ z) ea eb)), holds_one r o)
named_to r k (inr (x ∷ xs, inr none)) us ts o h (a, b, e, ha, eb) et =
    let (vs, ea, hd, hn, rest) = dots_more x xs a ha in
    let et' = et ∙ ap (λ z. k ∷ z) (e ∙ (ap (λ z. a ++ z) eb ∙ append-nil a)) in (
      pattern_constant k x.0 h hd (dots_path x.1 xs vs hn rest) (et' ∙ ap (λ z. k ∷ z) ea)
          (ap (λ z. pattern (pattern_kind.Constant (path_texts (k, x ∷ xs))) z) (sym (ap cover et' ∙ dots_cover k (x ∷ xs) a ha))) refl,
      holds_one r o,
    )
named_to r k (inr (xs, inl (p, (parts, q)))) us ts o h (a, b, e, ha, hb) et =
    let (vs, eb, hp, w, hq) = between_to (Inside r) (left_parenthesis ∷ []) (right_parenthesis ∷ []) (p, (parts, q)) b hb in
    let (hw, hr) = inside_to r parts vs w in
    let et' = et ∙ ap (λ z. k ∷ z) (e ∙ ap (λ z. a ++ z) eb) in
    let span = ap cover et' ∙ (cover_ends (k ∷ a) (p ∷ vs) q (solid_one k a) ∙ ap (λ z. join z q.span) (dots_cover k xs a ha)) in (
      pattern_class p q (dots_path k xs a h ha) hp hw hq et'
          (ap (λ z. pattern (pattern_kind.Class (path_texts (k, xs)) (firsts (class_parts parts))) z) (sym span)) refl,
      holds_node r (deepest (class_parts parts)) o hr,
    )

abbrev PatternParts : Type 0
PatternParts = (Spelled × ((Spelled × Tall TypeTerm) ⊎ Unit {0})) ⊎ ((Spelled × Spelled) ⊎ (Spelled ⊎ (Spelled × TailParts)))

pattern_to : (r : Levels) → open_to r ≡ true → (v : PatternParts) (ts : List Spelled) → form (rule_at Pattern_of r) v ts → spells_at Pattern_of r (pattern_from v) ts
pattern_to r o (inl (k, inl (c, t))) ts (a, b, e, (ek, hk), (f, (d, g, e', (ec, hc), (ht, hr)))) =
    let et = e ∙ ap₂ (λ y z. y ++ z) ek (e' ∙ ap (λ z. z ++ g) ec) in
    (pattern_any k hk (ascribed_so c hc ht refl refl) et (ap (λ z. pattern (pattern_kind.Any (Some t.0)) z) (sym (cover_typed k c ht et))) refl, holds_node r t.1 o hr)
pattern_to r o (inl (k, inr none)) ts (a, b, e, (ek, hk), eb) =
    let et = e ∙ ap₂ (λ y z. y ++ z) ek eb in
    (pattern_any k hk (ascribed_not refl refl refl) et (ap (λ z. pattern (pattern_kind.Any None) z) (sym (cover_is k et))) refl, holds_one r o)
pattern_to r o (inr (inl (k, j))) ts (a, b, e, (ek, hk), (ej, hj)) =
    let et = e ∙ ap₂ (λ y z. y ++ z) ek ej in
    (pattern_negative k j hk hj et (ap (λ z. pattern (pattern_kind.Literal true (lexeme j)) z) (sym (ap cover et ∙ cover_two k j))) refl, holds_one r o)
pattern_to r o (inr (inr (inl k))) ts (e, hk) =
    (pattern_literal k (has_later truth_name literals (sort k) hk) e (ap (λ z. pattern (pattern_kind.Literal false (lexeme k)) z) (sym (cover_is k e))) refl, holds_one r o)
pattern_to r o (inr (inr (inr (k, tail)))) ts (a, b, e, (ek, hk), w) = named_to r k tail b ts o hk w (e ∙ ap (λ z. z ++ b) ek)

-- each pattern comes from its parts

abbrev FromParts : Levels → Tall Pattern → List Spelled → Type 0
FromParts r y ts = (v : PatternParts) × (pattern_from v ≡ y) × form (rule_at Pattern_of r) v ts

-- a pattern with its span as its tokens tell it
same_pattern : {n m : ℕ} {x : Pattern} {kind kind' : PatternKind} {s s' : Span} → kind ≡ kind' → s ≡ s' → x ≡ pattern kind s → n ≡ m → ◌≡◌ {A = Tall Pattern} (pattern kind' s', m) (x, n)
same_pattern {n} {m} {x} {kind'} {s'} ek es ex en = tall (pattern kind' s', m) (x, n) (sym (ex ∙ ap₂ pattern ek es)) (sym en)

any_back : {n m : ℕ} {x : Pattern} {ts us : List Spelled} {o : Option TypeTerm} (r : Levels) (k : Spelled) → Is (underscore ∷ []) k → IsAscribed m o us → ts ≡ k ∷ us
    → x ≡ pattern (pattern_kind.Any o) (cover ts) → n ≡ suc m → holds r n ≡ true → FromParts r (x, n) ts
any_back r k hk (ascribed_not e eo em) et ex en hr =
    (inl (k, inr tt), same_pattern (ap pattern_kind.Any eo) (cover_is k (et ∙ ap (λ z. k ∷ z) e)) ex (en ∙ ap suc em), (k ∷ [], _, et, (refl, hk), e))
any_back {m} {us} r k hk (ascribed_so {us = vs} {t} c hc ht e eo) et ex en hr =
    let room = subst (λ z. holds r z ≡ true) en hr in
    let d = type_deep ht in (
      inl (k, inl (c, (t, m))),
      same_pattern (ap pattern_kind.Any eo) (cover_typed k c ht (et ∙ ap (λ z. k ∷ z) e)) ex en,
      (k ∷ [], us, et, (refl, hk), (fits_of r d.below (subst (λ z. holds r (suc z) ≡ true) d.is room), (c ∷ [], vs, e, (refl, hc), (ht, holds_below r m room)))),
    )

bind_back : {n : ℕ} {x : Pattern} {ts : List Spelled} (r : Levels) (k : Spelled) → Is binds k → ts ≡ k ∷ [] → x ≡ pattern (pattern_kind.Bind k.text None) (cover ts) → n ≡ 1 → FromParts r (x, n) ts
bind_back {n} {x} r k hk et ex en = (
  inr (inr (inr (k, inr ([], inr tt)))),
  tall (bind_from k, 1) (x, n) (bind_other k (binds_no_truth (sort k) hk) ∙ sym (ex ∙ ap (λ z. pattern (pattern_kind.Bind k.text None) z) (cover_is k et))) (sym en),
  (k ∷ [], [], et, (refl, binds_named (sort k) hk), ([], [], refl, refl, refl)),
)

typed_back : {n m : ℕ} {x : Pattern} {ts us : List Spelled} {t : TypeTerm} (r : Levels) (k c : Spelled) → Is names k → Is (colon ∷ []) c → IsType m t us → ts ≡ k ∷ c ∷ us
    → x ≡ pattern (pattern_kind.Bind k.text (Some t)) (cover ts) → n ≡ suc m → holds r n ≡ true → FromParts r (x, n) ts
typed_back {m} {us} {t} r k c hk hc ht et ex en hr =
    let room = subst (λ z. holds r z ≡ true) en hr in
    let d = type_deep ht in (
      inr (inr (inr (k, inl (c, (t, m))))),
      same_pattern refl (cover_typed k c ht et) ex en,
      (k ∷ [], c ∷ us, et, (refl, hk), (fits_of r d.below (subst (λ z. holds r (suc z) ≡ true) d.is room), (c ∷ [], us, refl, (refl, hc), (ht, holds_below r m room)))),
    )

literal_back : {n : ℕ} {x : Pattern} {ts : List Spelled} (r : Levels) (k : Spelled) → Is (truth_name ∷ literals) k → ts ≡ k ∷ [] → x ≡ pattern (pattern_kind.Literal false (lexeme k)) (cover ts)
    → n ≡ 1 → FromParts r (x, n) ts
literal_back {n} {x} {ts} r k hk et ex en = by (sort k == truth_name) refl
  where
    tree : x ≡ pattern (pattern_kind.Literal false (lexeme k)) k.span
    tree = ex ∙ ap (λ z. pattern (pattern_kind.Literal false (lexeme k)) z) (cover_is k et)

    by : (b : Bool) → (sort k == truth_name) ≡ b → FromParts r (x, n) ts
    by true q = (inr (inr (inr (k, inr ([], inr tt)))), tall (bind_from k, 1) (x, n) (bind_truth k q ∙ sym tree) (sym en), (k ∷ [], [], et, (refl, truth_named (sort k) q), ([], [], refl, refl, refl)))
    by false q = (inr (inr (inl k)), tall (pattern (pattern_kind.Literal false (lexeme k)) k.span, 1) (x, n) (sym tree) (sym en), (et, other_literal (sort k) hk q))

negative_back : {n : ℕ} {x : Pattern} {ts : List Spelled} (r : Levels) (k j : Spelled) → Is (minus ∷ []) k → Is (number ∷ []) j → ts ≡ k ∷ j ∷ []
    → x ≡ pattern (pattern_kind.Literal true (lexeme j)) (cover ts) → n ≡ 1 → FromParts r (x, n) ts
negative_back r k j hk hj et ex en = (inr (inl (k, j)), same_pattern refl (ap cover et ∙ cover_two k j) ex en, (k ∷ [], j ∷ [], et, (refl, hk), (refl, hj)))

constant_back : {n : ℕ} {x : Pattern} {ts us : List Spelled} {rest : List (List ℕ)} (r : Levels) (k d : Spelled) → Is names k → Is (dot ∷ []) d → IsPath rest us → ts ≡ k ∷ d ∷ us
    → x ≡ pattern (pattern_kind.Constant (k.text ∷ rest)) (cover ts) → n ≡ 1 → FromParts r (x, n) ts
constant_back {us} r k d hk hd hp et ex en =
    let p = path_read hp in
    let dotted = subst (λ z. Dots ((d, p.head) ∷ p.dots) (d ∷ z)) (sym p.tokens) (more_dots d p.head p.dots p.rest hd p.named p.dotted) in (
      inr (inr (inr (k, inr ((d, p.head) ∷ p.dots, inr tt)))),
      same_pattern (ap (λ z. pattern_kind.Constant (k.text ∷ z)) (sym p.texts)) (ap cover et ∙ dots_cover k ((d, p.head) ∷ p.dots) (d ∷ us) dotted) ex en,
      (k ∷ [], d ∷ us, et, (refl, hk), (d ∷ us, [], sym (append-nil (d ∷ us)), dotted, refl)),
    )

class_back : {n m : ℕ} {x : Pattern} {ts p us : List Spelled} {path : List (List ℕ)} {parts : List Pattern} (r : Levels) (k j : Spelled)
    → IsPath path p → Is (left_parenthesis ∷ []) k → IsPatterns m parts us → Is (right_parenthesis ∷ []) j → ts ≡ p ++ k ∷ (us ++ j ∷ [])
    → x ≡ pattern (pattern_kind.Class path parts) (cover ts) → n ≡ suc m → holds r n ≡ true → FromParts r (x, n) ts
class_back {us} r k j hp hk h hj et ex en hr =
    let p = path_read hp in
    let (v, em, ev, w) = inside_back r h (subst (λ z. holds r z ≡ true) en hr) in
    let et' = et ∙ ap (λ z. z ++ k ∷ (us ++ j ∷ [])) p.tokens in
    let span = ap cover et' ∙ (cover_ends (p.head ∷ p.rest) (k ∷ us) j (solid_one p.head p.rest) ∙ ap (λ z. join z j.span) (dots_cover p.head p.dots p.rest p.dotted)) in (
      inr (inr (inr (p.head, inr (p.dots, inl (k, (v, j)))))),
      same_pattern (ap₂ pattern_kind.Class (sym p.texts) (sym ev)) span ex (en ∙ ap suc (sym em)),
      (p.head ∷ [], p.rest ++ k ∷ (us ++ j ∷ []), et', (refl, p.named), (p.rest, k ∷ (us ++ j ∷ []), refl, p.dotted, between_back (Inside r) (left_parenthesis ∷ []) (right_parenthesis ∷ []) k v j hk w hj)),
    )

pattern_back : (r : Levels) (y : Tall Pattern) (ts : List Spelled) → spells_at Pattern_of r y ts → FromParts r y ts
pattern_back r y ts (pattern_any k hk h et ex en, hr) = any_back r k hk h et ex en hr
pattern_back r y ts (pattern_bind k hk et ex en, hr) = bind_back r k hk et ex en
pattern_back r y ts (pattern_typed k c hk hc ht et ex en, hr) = typed_back r k c hk hc ht et ex en hr
pattern_back r y ts (pattern_literal k hk et ex en, hr) = literal_back r k hk et ex en
pattern_back r y ts (pattern_negative k j hk hj et ex en, hr) = negative_back r k j hk hj et ex en
pattern_back r y ts (pattern_constant k d hk hd hp et ex en, hr) = constant_back r k d hk hd hp et ex en
pattern_back r y ts (pattern_class k j hp hk h hj et ex en, hr) = class_back r k j hp hk h hj et ex en hr

-- a pattern
pub seen_pattern : (r : Levels) → open_to r ≡ true → SeenAt Pattern_of r
seen_pattern r o = record { to = pattern_to r o; back = pattern_back r }
