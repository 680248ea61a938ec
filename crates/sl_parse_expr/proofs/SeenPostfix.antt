-- An operand with its suffixes: what its rule spells are the expressions of a level of 9 or more.
use Rattle.std.proofs.Common.{◌≡◌, ℕ, suc, ◌≤◌, List, [], ◌∷◌, ◌++◌, map, refl, sym, ap, ◌∙◌, subst, Bool, true, false, inl, inr, arith, true≢false}
use Rattle.std.specs.Prelude.{max, zero, Some, None}
use Rattle.std.proofs.lemmas.Bool.{leb-true, le-leb}
use Rattle.std.proofs.lemmas.List.{append_assoc, append-nil}
use Rattle.sl_grammar.specs.Law.{spells_then}
use Rattle.sl_grammar.specs.Phrase.{spells_both, spells_token}
use Rattle.sl_grammar.specs.Many.{spells_many}
use Rattle.sl_grammar.specs.Steps.{spells_steps}
use Rattle.sl_grammar.specs.Grammar.{and, is, step_on, spells_form}
use Rattle.sl_tree.specs.Sorts.{Spelled, sort, comma, equals, left_bracket, right_bracket, left_parenthesis, right_parenthesis}
use Rattle.sl_tree.specs.WellShaped.{Is, IsType, IsTypes, IsSomeExprs, IsFields, types_end, types_more, exprs_end, exprs_more, fields_end, fields_more, names, field, IsExpr, literal, name, this, paren, select, given, apply, update, negative, prefix, infix_of, if_of, match_of, if_all, match_all, expr, is_name, named_kind, cover, join, IsExprs, exprs_none, exprs_some}
use Rattle.sl_tree.specs.declared.tree.Expr.{Expr}
use Rattle.sl_tree.specs.declared.tree.Field.{Field}
use Rattle.sl_tree.specs.declared.tree.TypeTerm.{TypeTerm}
use Rattle.sl_text.specs.declared.place.Span.{Span}
use Rattle.sl_tree.specs.declared.tree.ExprKind.{ExprKind, out-ExprKind}
use Rattle.sl_tree.specs.declared.tree.ExprKind.TheVariants as expr_kind
use Rattle.sl_tree.proofs.Trees.{Deep, expr_kind_is, expr_solid, expr_spanned, expr_deep}
use Rattle.sl_tree.proofs.Spans.{cover_one, cover_ends}
use Rattle.sl_parse_expr.specs.Values.{name_text, name_kind, suffix_to, apply_to, SuffixParts, ArgumentsParts, span_of, T_of, field_from, more_fields, more_values, FieldParts, Tall, Listed, listing, deepest, seconds, firsts}
use Rattle.sl_grammar.specs.Growing.{folded}
use Rattle.sl_parse_expr.specs.Names.{Postfix, Suffix, Arguments, open_to, deeper, fits, rule_at, Levels, holds}
use Rattle.sl_parse_expr.specs.Grammar.{by_rule, parts, trees, tree_at, spells_at, spells, room as grammar_room, AtLeast}
use Rattle.sl_parse_expr.proofs.Rooms.{open_fits, holds_node, holds_none, holds_one, holds_below, open_of, holds_both, holds_left, holds_right}
use Rattle.sl_parse_expr.proofs.SeenAt.{SeenAt}

-- what has room below has room
pub holds_above : (r : Levels) (n : ℕ) → holds (deeper r) n ≡ true → holds r n ≡ true
holds_above None n e = refl
holds_above (Some zero) n e = e
holds_above (Some (suc m)) n e = let u : n ≤ m = leb-true n m e in le-leb n (suc m) (omega arith)

-- lists with commas between them

module _ {P : Type 0} (E : P → List Spelled → Type 0) where
  abbrev pub Rest : List (Spelled × P) → List Spelled → Type 0
  Rest xs ts = spells_many (spells_both (spells_token (is sort (comma ∷ []))) E) xs ts

  abbrev pub Commas : P × List (Spelled × P) → List Spelled → Type 0
  Commas v ts = spells_both E Rest v ts

  -- whatever holds of one, and of one and then a comma and more, holds of a list with commas
  module _ (S : List P → List Spelled → Type 0) (one : (x : P) (ts : List Spelled) → E x ts → S (x ∷ []) ts)
      (more : (x y : P) (ys : List P) (us vs : List Spelled) (c : Spelled) → E x us → Is (comma ∷ []) c → S (y ∷ ys) vs → S (x ∷ (y ∷ ys)) (us ++ c ∷ vs)) where
    pub commas_to : (x : P) (xs : List (Spelled × P)) (ts : List Spelled) → Commas (x, xs) ts → S (x ∷ seconds xs) ts
    commas_to x [] ts (a, b, e, w, f) = subst (S (x ∷ [])) (sym (e ∙ (ap (λ z. a ++ z) f ∙ append-nil a))) (one x a w)
    commas_to x ((c, y) ∷ ys) ts (a, b, e, w, (p, q, f, (s, t, g, (h, i), v), rest)) =
        subst (S (x ∷ (y ∷ seconds ys))) (sym (e ∙ ap (λ z. a ++ z) (f ∙ ap (λ z. z ++ q) (g ∙ ap (λ z. z ++ t) h))))
        (more x y (seconds ys) a (t ++ q) c w i (commas_to y ys (t ++ q) (t, q, refl, v, rest)))

  pub commas_one : (x : P) (ts : List Spelled) → E x ts → Commas (x, []) ts
  commas_one x ts w = (ts, [], sym (append-nil ts), w, refl)

  pub commas_more : (x : P) (v : P × List (Spelled × P)) (us vs : List Spelled) (c : Spelled) → E x us → Is (comma ∷ []) c → Commas v vs → Commas (x, (c, v.0) ∷ v.1) (us ++ c ∷ vs)
  commas_more x v us vs c w i (a, b, e, u, rest) = (us, c ∷ vs, refl, w, (c ∷ a, b, ap (λ z. c ∷ z) e, (c ∷ [], a, refl, (refl, i), u), rest))

-- types, where there is room for them

abbrev pub TypeAt : Levels → Tall TypeTerm → List Spelled → Type 0
TypeAt r v ts = IsType v.1 v.0 ts × (holds r v.1 ≡ true)

pub types_to : (r : Levels) (v : Listed TypeTerm) (ts : List Spelled) → Commas (TypeAt r) v ts → IsTypes (deepest (listing v)) (firsts (listing v)) ts × (holds r (deepest (listing v)) ≡ true)
types_to r v ts w =
    commas_to (TypeAt r) (λ xs us. IsTypes (deepest xs) (firsts xs) us × (holds r (deepest xs) ≡ true)) (λ x us w. (types_end w.0 refl, w.1))
    (λ x y ys us vs c w i u. (types_more c w.0 i u.0 refl refl refl, holds_both r x.1 (deepest (y ∷ ys)) w.1 u.1)) v.0 v.1 ts w

pub types_back : {n : ℕ} {xs : List TypeTerm} {ts : List Spelled} (r : Levels) → IsTypes n xs ts → holds r n ≡ true
    → (v : Listed TypeTerm) × (firsts (listing v) ≡ xs) × (deepest (listing v) ≡ n) × Commas (TypeAt r) v ts
types_back r (types_end {n} {t = t} w e) h = (((t, n), []), sym e, refl, commas_one (TypeAt r) (t, n) _ (w, h))
types_back r (types_more {m = m} {l = l} {t = t} c w i rest e f g) h =
    let k : holds r (max m l) ≡ true = subst (λ z. holds r z ≡ true) g h in
    let (v, xs, d, s) = types_back r rest (holds_right r m l k) in (
      ((t, m), (c, v.0) ∷ v.1),
      ap (λ z. t ∷ z) xs ∙ sym f,
      ap (λ z. max m z) d ∙ sym g,
      subst (Commas (TypeAt r) ((t, m), (c, v.0) ∷ v.1)) (sym e) (commas_more (TypeAt r) (t, m) v _ _ c (w, holds_left r m l k) i s),
    )

-- suffixes, one after another: what is made by all that were read before tells the room

module _ {X Q : Type 0} (link : Q → List Spelled → Type 0) (room : X → Bool) (step : X → Q → X) where
  pub folded_end : (x : X) (ps : List Q) (q : Q) → folded step x (ps ++ q ∷ []) ≡ step (folded step x ps) q
  folded_end x [] q = refl
  folded_end x (p ∷ ps) q = folded_end (step x p) ps q

  abbrev pub FromAll : X × List Q → List Q → List Spelled → Type 0
  FromAll = spells_steps link (λ s. room (folded step s.0 s.1)) step_on

  abbrev pub FromLast : X → List Q → List Spelled → Type 0
  FromLast = spells_steps link room step

  pub last_all : (x : X) (ps qs : List Q) (ts : List Spelled) → FromAll (x, ps) qs ts → FromLast (folded step x ps) qs ts
  last_all x ps [] ts w = w
  last_all x ps (q ∷ qs) ts (h, a, b, e, w, rest) = (h, a, b, e, w, subst (λ z. FromLast z qs b) (folded_end x ps q) (last_all x (ps ++ q ∷ []) qs b rest))

  pub all_last : (x : X) (ps qs : List Q) (ts : List Spelled) → FromLast (folded step x ps) qs ts → FromAll (x, ps) qs ts
  all_last x ps [] ts w = w
  all_last x ps (q ∷ qs) ts (h, a, b, e, w, rest) = (h, a, b, e, w, all_last x (ps ++ q ∷ []) qs b (subst (λ z. FromLast z qs b) (sym (folded_end x ps q)) rest))

  -- one more at the end
  pub one_more : (x : X) (qs : List Q) (ts : List Spelled) (q : Q) (us : List Spelled) → FromLast x qs ts → room (folded step x qs) ≡ true → link q us → FromLast x (qs ++ q ∷ []) (ts ++ us)
  one_more x [] ts q us w h v = (h, us, [], ap (λ z. z ++ us) w ∙ sym (append-nil us), v, refl)
  one_more x (p ∷ ps) ts q us (g, a, b, e, w, rest) h v = (g, a, b ++ us, ap (λ z. z ++ us) e ∙ append_assoc a b us, w, one_more (step x p) ps b q us rest h v)

-- expressions, where there is room for them

abbrev pub ExprAt : Levels → Tall Expr → List Spelled → Type 0
ExprAt r v ts = AtLeast 0 r v ts

pub exprs_to : (r : Levels) (v : Listed Expr) (ts : List Spelled) → Commas (ExprAt r) v ts → IsSomeExprs (deepest (listing v)) (firsts (listing v)) ts × (holds r (deepest (listing v)) ≡ true)
exprs_to r v ts w =
    commas_to (ExprAt r) (λ xs us. IsSomeExprs (deepest xs) (firsts xs) us × (holds r (deepest xs) ≡ true)) (λ x us w. (exprs_end w.2 refl, w.3))
    (λ x y ys us vs c w i u. (exprs_more c w.2 i u.0 refl refl refl, holds_both r x.1 (deepest (y ∷ ys)) w.3 u.1)) v.0 v.1 ts w

pub exprs_back : {n : ℕ} {xs : List Expr} {ts : List Spelled} (r : Levels) → IsSomeExprs n xs ts → holds r n ≡ true
    → (v : Listed Expr) × (firsts (listing v) ≡ xs) × (deepest (listing v) ≡ n) × Commas (ExprAt r) v ts
exprs_back r (exprs_end {level} {n} {x = x} w e) h = (((x, n), []), sym e, refl, commas_one (ExprAt r) (x, n) _ (level, omega arith, w, h))
exprs_back r (exprs_more {level} {m = m} {l = l} {x = x} c w i rest e f g) h =
    let k : holds r (max m l) ≡ true = subst (λ z. holds r z ≡ true) g h in
    let (v, xs, d, s) = exprs_back r rest (holds_right r m l k) in (
      ((x, m), (c, v.0) ∷ v.1),
      ap (λ z. x ∷ z) xs ∙ sym f,
      ap (λ z. max m z) d ∙ sym g,
      subst (Commas (ExprAt r) ((x, m), (c, v.0) ∷ v.1)) (sym e) (commas_more (ExprAt r) (x, m) v _ _ c (level, omega arith, w, holds_left r m l k) i s),
    )

-- fields, where there is room for their values

abbrev pub ValueAt : Levels → FieldParts → List Spelled → Type 0
ValueAt r v ts = spells_both (spells_token (is sort (equals ∷ []))) (ExprAt r) v ts

abbrev pub FieldAt : Levels → Spelled × FieldParts → List Spelled → Type 0
FieldAt r p ts = spells_both (spells_token (is sort names)) (ValueAt r) p ts

abbrev pub fields_in : List (Spelled × FieldParts) → List Field
fields_in ps = map (λ p. field_from p.0 p.1) ps

abbrev pub values_in : List (Spelled × FieldParts) → List (Tall Expr)
values_in ps = map (λ p. p.1.1) ps

pub fields_more_is : (xs : List (Spelled × (Spelled × FieldParts))) → fields_in (seconds xs) ≡ more_fields xs
fields_more_is [] = refl
fields_more_is (x ∷ xs) = ap (λ z. field_from x.1.0 x.1.1 ∷ z) (fields_more_is xs)

pub values_more_is : (xs : List (Spelled × (Spelled × FieldParts))) → values_in (seconds xs) ≡ more_values xs
values_more_is [] = refl
values_more_is (x ∷ xs) = ap (λ z. x.1.1.1 ∷ z) (values_more_is xs)

abbrev FieldsAt : Levels → List (Spelled × FieldParts) → List Spelled → Type 0
FieldsAt r ps ts = IsFields (deepest (values_in ps)) (fields_in ps) ts × (holds r (deepest (values_in ps)) ≡ true)

-- NAME = EXPR is these tokens
field_tokens : {ts a b c d : List Spelled} (k s : Spelled) → ts ≡ a ++ b → a ≡ k ∷ [] → b ≡ c ++ d → c ≡ s ∷ [] → ts ≡ k ∷ (s ∷ d)
field_tokens {b = b} {d = d} k s e f g h = e ∙ ap (λ z. z ++ b) f ∙ ap (λ z. k ∷ z) (g ∙ ap (λ z. z ++ d) h)

pub fields_to : (r : Levels) (p : Spelled × FieldParts) (xs : List (Spelled × (Spelled × FieldParts))) (ts : List Spelled) → Commas (FieldAt r) (p, xs) ts → FieldsAt r (p ∷ seconds xs) ts
fields_to r p xs ts w = commas_to (FieldAt r) (FieldsAt r) one more p xs ts w
  where
    one : (p : Spelled × FieldParts) (ts : List Spelled) → FieldAt r p ts → FieldsAt r (p ∷ []) ts
    one (k, (s, x)) ts (a, b, e, (f, i), (c, d, g, (h, j), u)) = (fields_end k s i j u.2 (field_tokens k s e f g h) refl, u.3)

    more : (p q : Spelled × FieldParts) (ps : List (Spelled × FieldParts)) (us vs : List Spelled) (c : Spelled) → FieldAt r p us → Is (comma ∷ []) c → FieldsAt r (q ∷ ps) vs → FieldsAt r (p ∷ (q ∷ ps)) (us ++ c ∷ vs)
    more (k, (s, x)) q ps us vs c (a, b, e, (f, i), (t, d, g, (h, j), u)) o v =
        (fields_more k s c i j u.2 o v.0 (ap (λ z. z ++ c ∷ vs) (field_tokens k s e f g h)) refl refl, holds_both r x.1 (deepest (values_in (q ∷ ps))) u.3 v.1)

field_at : (r : Levels) (k s : Spelled) (x : Expr) (n : ℕ) (us : List Spelled) → Is names k → Is (equals ∷ []) s → ExprAt r (x, n) us → FieldAt r (k, (s, (x, n))) (k ∷ (s ∷ us))
field_at r k s x n us i j w = (k ∷ [], s ∷ us, refl, (refl, i), (s ∷ [], us, refl, (refl, j), w))

pub fields_back : {n : ℕ} {xs : List Field} {ts : List Spelled} (r : Levels) → IsFields n xs ts → holds r n ≡ true
    → (v : (Spelled × FieldParts) × List (Spelled × (Spelled × FieldParts))) × (fields_in (v.0 ∷ seconds v.1) ≡ xs) × (deepest (values_in (v.0 ∷ seconds v.1)) ≡ n) × Commas (FieldAt r) v ts
fields_back r (fields_end {level} {n} {us = us} {x = x} k s i j w e f) h =
    (((k, (s, (x, n))), []), sym f, refl, subst (Commas (FieldAt r) ((k, (s, (x, n))), [])) (sym e) (commas_one (FieldAt r) (k, (s, (x, n))) (k ∷ (s ∷ us)) (field_at r k s x n us i j (level, omega arith, w, h))))
fields_back r (fields_more {level} {m = m} {l = l} {us = us} {vs = vs} {x = x} k s c i j w o rest e f g) h =
    let room : holds r (max m l) ≡ true = subst (λ z. holds r z ≡ true) g h in
    let (v, xs, d, t) = fields_back r rest (holds_right r m l room) in (
      ((k, (s, (x, m))), (c, v.0) ∷ v.1),
      ap (λ z. field k.text x ∷ z) xs ∙ sym f,
      ap (λ z. max m z) d ∙ sym g,
      subst (Commas (FieldAt r) ((k, (s, (x, m))), (c, v.0) ∷ v.1)) (sym e)
          (commas_more (FieldAt r) (k, (s, (x, m))) v (k ∷ (s ∷ us)) vs c (field_at r k s x m us i j (level, omega arith, w, holds_left r m l room)) o t),
    )

-- which expressions are names

kind_named : (kind : ExprKind) (s : Span) → is_name (expr kind s) ≡ named_kind (out-ExprKind kind)
unfolding is_name
kind_named kind s = ap (λ z. named_kind (out-ExprKind z)) (expr_kind_is kind s)

pub name_is : (text : List ℕ) (s : Span) → is_name (expr (expr_kind.Name text) s) ≡ true
name_is text s = kind_named (expr_kind.Name text) s ∙ ap (λ z. named_kind z) (expr_kind.outs-Name text)

pub name_text_is : (text : List ℕ) (s : Span) → name_text (expr (expr_kind.Name text) s) ≡ text
unfolding name_text
name_text_is text s = ap (λ z. name_kind (out-ExprKind z)) (expr_kind_is (expr_kind.Name text) s) ∙ ap (λ z. name_kind z) (expr_kind.outs-Name text)

no_name : {X : Type 0} {e : Expr} (kind : ExprKind) (s : Span) → e ≡ expr kind s → named_kind (out-ExprKind kind) ≡ false → is_name e ≡ true → X
no_name kind s e f h = absurd (true≢false (sym h ∙ ap is_name e ∙ kind_named kind s ∙ f))

-- an expression that is a name is one token
abbrev pub Named : Expr → List Spelled → Type 0
Named e ts = (k : Spelled) × Is names k × (ts ≡ k ∷ []) × (name_text e ≡ k.text)

pub named : {level n : ℕ} {e : Expr} {ts : List Spelled} → IsExpr level n e ts → is_name e ≡ true → Named e ts
named (literal k h1 h2 h3 h4 h5) h = no_name _ _ h3 (ap (λ z. named_kind z) (expr_kind.outs-Literal _ _)) h
named (name k h1 h2 h3 h4 h5) h = (k, h1, h2, ap name_text h3 ∙ name_text_is k.text _)
named (this k h1 h2 h3 h4 h5) h = no_name _ _ h3 (ap (λ z. named_kind z) expr_kind.outs-This) h
named (paren k j h1 h2 h3 h4 h5 h6 h7) h = no_name _ _ h5 (ap (λ z. named_kind z) (expr_kind.outs-Paren _)) h
named (select d k h1 h2 h3 h4 h5 h6 h7 h8) h = no_name _ _ h6 (ap (λ z. named_kind z) (expr_kind.outs-Select _ _)) h
named (given k j h1 h2 h3 h4 h5 h6 h7 h8 h9) h = no_name _ _ h7 (ap (λ z. named_kind z) (expr_kind.outs-Given _ _)) h
named (apply k j h1 h2 h3 h4 h5 h6 h7 h8 h9) h = no_name _ _ h7 (ap (λ z. named_kind z) (expr_kind.outs-Apply _ _)) h
named (update k j h1 h2 h3 h4 h5 h6 h7 h8 h9) h = no_name _ _ h7 (ap (λ z. named_kind z) (expr_kind.outs-Update _ _)) h
named (negative k j h1 h2 h3 h4 h5 h6) h = no_name _ _ h4 (ap (λ z. named_kind z) (expr_kind.outs-Literal _ _)) h
named (prefix k h1 h2 h3 h4 h5 h6 h7 h8) h = no_name _ _ h6 (ap (λ z. named_kind z) (expr_kind.outs-Prefix _ _)) h
named (infix_of k h1 h2 h3 h4 h5 h6 h7 h8 h9 h10) h = no_name _ _ h9 (ap (λ z. named_kind z) (expr_kind.outs-Infix _ _ _)) h
named (if_of (if_all i p q s h1 h2 h3 h4 h5 h6 h7 h8 h9 h10) h11) h = no_name _ _ h9 (ap (λ z. named_kind z) (expr_kind.outs-If _ _ _)) h
named (match_of (match_all h1 h2 h3 h4 h5 h6) h7) h = no_name _ _ h5 (ap (λ z. named_kind z) (expr_kind.outs-Match _ _)) h

-- what a suffix makes

abbrev pub SuffixAt : Levels → SuffixParts → List Spelled → Type 0
SuffixAt r q ts = by_rule parts Suffix r q ts

abbrev pub has_room : Levels → Tall Expr → Bool
has_room r x = and (fits r) (holds (deeper r) x.1)

both_true : (a b : Bool) → and a b ≡ true → (a ≡ true) × (b ≡ true)
both_true true b e = (refl, e)
both_true false b e = absurd (true≢false (sym e))

true_both : (a b : Bool) → a ≡ true → b ≡ true → and a b ≡ true
true_both a b e f = ap (λ z. and z b) e ∙ f

pair_is : {A B : Type 0} {a b : A} {c d : B} → a ≡ b → c ≡ d → ◌≡◌ {A = A × B} (a, c) (b, d)
pair_is {b = b} {c = c} e f = ap (λ z. (z, c)) e ∙ ap (λ z. (b, z)) f

-- up to the end of the suffix
suffix_span : {l n : ℕ} {x : Expr} {us vs : List Spelled} (ws : List Spelled) (j : Spelled) → IsExpr l n x us → vs ≡ ws ++ j ∷ [] → join (span_of x) j.span ≡ cover (us ++ vs)
suffix_span {us = us} ws j w e = ap (λ s. join s j.span) (expr_spanned w) ∙ sym (ap (λ z. cover (us ++ z)) e ∙ cover_ends us ws j (expr_solid w))

-- tokens in brackets
in_brackets : {vs a b d : List Spelled} (c : List Spelled) (k j : Spelled) → vs ≡ a ++ b → a ≡ k ∷ [] → b ≡ c ++ d → d ≡ j ∷ [] → vs ≡ k ∷ (c ++ j ∷ [])
in_brackets {b = b} c k j e f g h = e ∙ ap (λ z. z ++ b) f ∙ ap (λ z. k ∷ z) (g ∙ ap (λ z. c ++ z) h)

end_in : {b d f : List Spelled} (c e : List Spelled) (j : Spelled) → b ≡ c ++ d → d ≡ e ++ f → f ≡ j ∷ [] → b ≡ (c ++ e) ++ j ∷ []
end_in c e j p q s = p ∙ ap (λ z. c ++ z) (q ∙ ap (λ z. e ++ z) s) ∙ sym (append_assoc c e (j ∷ []))

module _ (r : Levels) (o : open_to r ≡ true) (x : Tall Expr) (us : List Spelled) (l : ℕ) (le : 9 ≤ l) (w : IsExpr l x.1 x.0 us) (room : holds (deeper r) x.1 ≡ true) where
  given_to : (k j : Spelled) (types : Listed TypeTerm) (ws vs : List Spelled) → Is (left_bracket ∷ []) k → Commas (TypeAt (deeper r)) types ws → Is (right_bracket ∷ []) j
      → vs ≡ k ∷ (ws ++ j ∷ []) → AtLeast 9 r (suffix_to x (inr (inl (k, (types, j))))) (us ++ vs)
  given_to k j types ws vs i c h e =
      let t = types_to (deeper r) types ws c in (
        9,
        omega arith,
        given k j w le i t.0 h (ap (λ z. us ++ z) e) (ap (expr (expr_kind.Given x.0 (firsts (listing types)))) (suffix_span (k ∷ ws) j w e)) refl refl,
        holds_node r (max x.1 (deepest (listing types))) o (holds_both (deeper r) x.1 (deepest (listing types)) room t.1),
      )

  apply_none : (k j : Spelled) (vs : List Spelled) → Is (left_parenthesis ∷ []) k → Is (right_parenthesis ∷ []) j → vs ≡ k ∷ (j ∷ []) → AtLeast 9 r (apply_to x (inr j)) (us ++ vs)
  apply_none k j vs i h e = (
    9,
    omega arith,
    apply k j w le i (exprs_none refl refl refl) h (ap (λ z. us ++ z) e) (ap (expr (expr_kind.Apply x.0 [])) (suffix_span (k ∷ []) j w e)) refl refl,
    holds_node r (max x.1 0) o (holds_both (deeper r) x.1 0 room (holds_none (deeper r))),
  )

  apply_some : (k j : Spelled) (e : Tall Expr) (more : List (Spelled × Tall Expr)) (ws vs : List Spelled) → Is (left_parenthesis ∷ []) k → Commas (ExprAt (deeper r)) (e, more) ws → Is (right_parenthesis ∷ []) j
      → vs ≡ k ∷ (ws ++ j ∷ []) → AtLeast 9 r (apply_to x (inl (e, inr (more, j)))) (us ++ vs)
  apply_some k j e more ws vs i c h f =
      let t = exprs_to (deeper r) (e, more) ws c in (
        9,
        omega arith,
        apply k j w le i (exprs_some t.0) h (ap (λ z. us ++ z) f) (ap (expr (expr_kind.Apply x.0 (firsts (e ∷ seconds more)))) (suffix_span (k ∷ ws) j w f)) refl refl,
        holds_node r (max x.1 (deepest (e ∷ seconds more))) o (holds_both (deeper r) x.1 (deepest (e ∷ seconds more)) room t.1),
      )

  update_some : (k j m : Spelled) (e : Tall Expr) (v : FieldParts) (more : List (Spelled × (Spelled × FieldParts))) (ws vs : List Spelled) → Is (left_parenthesis ∷ []) k → Commas (FieldAt (deeper r)) ((m, v), more) ws
      → name_text e.0 ≡ m.text → Is (right_parenthesis ∷ []) j → vs ≡ k ∷ (ws ++ j ∷ []) → AtLeast 9 r (apply_to x (inl (e, inl (v, (more, j))))) (us ++ vs)
  update_some k j m e v more ws vs i c t h f =
      let u = fields_to (deeper r) (m, v) more ws c in
      let d : deepest (v.1 ∷ more_values more) ≡ deepest (v.1 ∷ values_in (seconds more)) = ap (λ z. deepest (v.1 ∷ z)) (sym (values_more_is more)) in (
        9,
        omega arith,
        update k j w le i u.0 h (ap (λ z. us ++ z) f)
            (ap (λ z. expr (expr_kind.Update x.0 (field z v.1.0 ∷ more_fields more)) (join (span_of x.0) j.span)) t
            ∙ ap (λ z. expr (expr_kind.Update x.0 (field m.text v.1.0 ∷ z)) (join (span_of x.0) j.span)) (sym (fields_more_is more))
            ∙ ap (expr (expr_kind.Update x.0 (field m.text v.1.0 ∷ fields_in (seconds more)))) (suffix_span (k ∷ ws) j w f)) refl (ap (λ z. suc (max x.1 z)) d),
        holds_node r (max x.1 (deepest (v.1 ∷ more_values more))) o (holds_both (deeper r) x.1 (deepest (v.1 ∷ more_values more)) room (subst (λ z. holds (deeper r) z ≡ true) (sym d) u.1)),
      )

  arguments_to : (k : Spelled) (args : ArgumentsParts) (b vs : List Spelled) → Is (left_parenthesis ∷ []) k → by_rule trees Arguments (deeper r) args b → vs ≡ k ∷ b → AtLeast 9 r (apply_to x args) (us ++ vs)
  arguments_to k (inl (e, inl (v, (more, j)))) b vs i (ea, eb, ee, (f, z, we, he), (n, (fa, fb, fe, wf, (ma, mb, me, wm, (je, ji))))) ev =
      let (m, im, et, nt) = named we n in
      update_some k j m e v more ((m ∷ fa) ++ ma) vs i (m ∷ fa, ma, refl, (m ∷ [], fa, refl, (refl, im), wf), wm) nt ji
      (ev ∙ ap (λ z. k ∷ z) (ee ∙ ap (λ z. z ++ eb) et ∙ ap (λ z. m ∷ z) (end_in fa ma j fe me je)))
  arguments_to k (inl (e, inr (more, j))) b vs i (ea, eb, ee, we, (ma, mb, me, wm, (je, ji))) ev =
      apply_some k j e more (ea ++ ma) vs i (ea, ma, refl, we, wm) ji (ev ∙ ap (λ z. k ∷ z) (end_in ea ma j ee me je))
  arguments_to k (inr j) b vs i (je, ji) ev = apply_none k j vs i ji (ev ∙ ap (λ z. k ∷ z) je)

  suffix_in : (q : SuffixParts) (vs : List Spelled) → SuffixAt r q vs → AtLeast 9 r (suffix_to x q) (us ++ vs)
  suffix_in (inl (d, k)) vs (a, b, e, (f, i), (g, h)) =
      let t : vs ≡ d ∷ (k ∷ []) = e ∙ ap (λ z. z ++ b) f ∙ ap (λ z. d ∷ z) g in
      (9, omega arith, select d k w le i h (ap (λ z. us ++ z) t) (ap (expr (expr_kind.Select x.0 k.text)) (suffix_span (d ∷ []) k w t)) refl refl, holds_node r x.1 o room)
  suffix_in (inr (inl (k, (types, j)))) vs (a, b, e, (f, i), (c, d, g, u, (p, h))) = given_to k j types c vs i u h (in_brackets c k j e f g p)
  suffix_in (inr (inr (k, args))) vs (a, b, e, (f, i), u) = arguments_to k args b vs i u (e ∙ ap (λ z. z ++ b) f)

-- all suffixes
suffixes_in : (r : Levels) (x : Tall Expr) (us : List Spelled) (qs : List SuffixParts) (vs : List Spelled) → AtLeast 9 r x us → FromLast (SuffixAt r) (has_room r) suffix_to x qs vs → AtLeast 9 r (folded suffix_to x qs) (us ++ vs)
suffixes_in r x us [] vs w e = subst (AtLeast 9 r x) (sym (ap (λ z. us ++ z) e ∙ append-nil us)) w
suffixes_in r x us (q ∷ qs) vs (l, le, w, h) (room, a, b, e, u, rest) =
    let t = both_true (fits r) (holds (deeper r) x.1) room in
    subst (AtLeast 9 r (folded suffix_to (suffix_to x q) qs)) (append_assoc us a b ∙ sym (ap (λ z. us ++ z) e))
    (suffixes_in r (suffix_to x q) (us ++ a) qs b (suffix_in r (open_fits r t.0) x us l le w t.1 q a u) rest)

-- and back: from the arguments to their parts

abbrev ArgumentsIn : Levels → Tall Expr → ℕ → ExprKind → Spelled → List Spelled → Type 0
ArgumentsIn r x l kind j vs =
    (args : ArgumentsParts) × ((apply_to x args) ≡ (expr kind (join (span_of x.0) j.span), suc (max x.1 l))) × by_rule trees Arguments r args (vs ++ j ∷ [])

apply_back : {l : ℕ} {xs : List Expr} {vs : List Spelled} (r : Levels) (x : Tall Expr) (j : Spelled) → IsExprs l xs vs → Is (right_parenthesis ∷ []) j → holds r l ≡ true
    → ArgumentsIn r x l (expr_kind.Apply x.0 xs) j vs
apply_back r x j (exprs_none e f g) i h =
    (inr j, pair_is (ap (λ z. expr (expr_kind.Apply x.0 z) (join (span_of x.0) j.span)) (sym f)) (ap (λ z. suc (max x.1 z)) (sym g)), (ap (λ z. z ++ j ∷ []) e, i))
apply_back {vs = vs} r x j (exprs_some w) i h =
    let (v, xs, d, (ea, ma, ee, we, wm)) = exprs_back r w h in (
      inl (v.0, inr (v.1, j)),
      pair_is (ap (λ z. expr (expr_kind.Apply x.0 z) (join (span_of x.0) j.span)) xs) (ap (λ z. suc (max x.1 z)) d),
      (ea, ma ++ j ∷ [], ap (λ z. z ++ j ∷ []) ee ∙ append_assoc ea ma (j ∷ []), we, (ma, j ∷ [], refl, wm, (refl, i))),
    )

update_back : {l : ℕ} {xs : List Field} {vs : List Spelled} (r : Levels) (x : Tall Expr) (j : Spelled) → IsFields l xs vs → Is (right_parenthesis ∷ []) j → open_to r ≡ true → holds r l ≡ true
    → ArgumentsIn r x l (expr_kind.Update x.0 xs) j vs
update_back {l} {xs} {vs} r x j w i o h =
    let (((k, v), more), xs, d, (fa, ma, fe, (ka, va, ke, (kt, ki), wv), wm)) = fields_back r w h in
    let e : Tall Expr = (expr (expr_kind.Name k.text) k.span, 1) in (
      inl (e, inl (v, (more, j))),
      pair_is (ap (λ z. expr (expr_kind.Update x.0 (field z v.1.0 ∷ more_fields more)) (join (span_of x.0) j.span)) (name_text_is k.text k.span)
          ∙ ap (λ z. expr (expr_kind.Update x.0 (field k.text v.1.0 ∷ z)) (join (span_of x.0) j.span)) (sym (fields_more_is more))
          ∙ ap (λ z. expr (expr_kind.Update x.0 z) (join (span_of x.0) j.span)) xs)
          (ap (λ z. suc (max x.1 (deepest (v.1 ∷ z)))) (sym (values_more_is more)) ∙ ap (λ z. suc (max x.1 z)) d),
      (
        ka,
        va ++ (ma ++ j ∷ []),
        ap (λ z. z ++ j ∷ []) (fe ∙ ap (λ z. z ++ ma) ke) ∙ append_assoc (ka ++ va) ma (j ∷ []) ∙ append_assoc ka va (ma ++ j ∷ []),
        (10, omega arith, name k ki kt (ap (expr (expr_kind.Name k.text)) (sym (ap cover kt ∙ cover_one k))) refl refl, holds_one r o),
        (name_is k.text k.span, (va, ma ++ j ∷ [], refl, wv, (ma, j ∷ [], refl, wm, (refl, i)))),
      ),
    )

-- an expression, from an operand and suffixes
abbrev Chained : Levels → Tall Expr → List Spelled → Type 0
Chained r x ts = (v : Tall Expr × List SuffixParts) × (folded suffix_to v.0 v.1 ≡ x) × spells_then (AtLeast 10 r) (λ y. FromLast (SuffixAt r) (has_room r) suffix_to y) v ts

chain_begins : {level n : ℕ} {e : Expr} {ts : List Spelled} (r : Levels) → IsExpr level n e ts → level ≡ 10 → holds r n ≡ true → Chained r (e, n) ts
chain_begins {level} {n} {e} {ts} r w l h = (((e, n), []), refl, (ts, [], sym (append-nil ts), (level, omega arith, w, h), refl))

chain_goes_on : {e : Expr} {n : ℕ} {us ts : List Spelled} (r : Levels) (x : Tall Expr) (q : SuffixParts) (vs : List Spelled)
    → Chained r x us → has_room r x ≡ true → SuffixAt r q vs → suffix_to x q ≡ (e, n) → ts ≡ us ++ vs → Chained r (e, n) ts
chain_goes_on {e} {n} {us} {ts} r x q vs (v, t, (a, b, f, w, rest)) h u g i = (
  (v.0, v.1 ++ q ∷ []),
  folded_end (SuffixAt r) (has_room r) suffix_to v.0 v.1 q ∙ ap (λ z. suffix_to z q) t ∙ g,
  (a, b ++ vs, i ∙ ap (λ z. z ++ vs) f ∙ append_assoc a b vs, w, one_more (SuffixAt r) (has_room r) suffix_to v.0 v.1 b q vs rest (ap (has_room r) t ∙ h) u),
)

room_for : {level : ℕ} {us : List Spelled} (r : Levels) (x : Tall Expr) → IsExpr level x.1 x.0 us → holds (deeper r) x.1 ≡ true → has_room r x ≡ true
room_for r x w h =
    let d : Deep x.1 = expr_deep w in
    true_both (fits r) (holds (deeper r) x.1) (open_of (deeper r) d.below (subst (λ z. holds (deeper r) z ≡ true) d.is h)) h

room_below : {n m : ℕ} (r : Levels) → n ≡ suc m → holds r n ≡ true → holds (deeper r) m ≡ true
room_below {m = m} r e h = holds_below r m (subst (λ z. holds r z ≡ true) e h)

chain_of : {level n : ℕ} {e : Expr} {ts : List Spelled} (r : Levels) → IsExpr level n e ts → 9 ≤ level → holds r n ≡ true → Chained r (e, n) ts
chain_of r (literal k h1 h2 h3 h4 h5) le h = chain_begins r (literal k h1 h2 h3 h4 h5) h4 h
chain_of r (name k h1 h2 h3 h4 h5) le h = chain_begins r (name k h1 h2 h3 h4 h5) h4 h
chain_of r (this k h1 h2 h3 h4 h5) le h = chain_begins r (this k h1 h2 h3 h4 h5) h4 h
chain_of r (paren k j h1 h2 h3 h4 h5 h6 h7) le h = chain_begins r (paren k j h1 h2 h3 h4 h5 h6 h7) h6 h
chain_of r (select {m = m} {x = x} d k h1 h2 h3 h4 h5 h6 h7 h8) le h =
    let below : holds (deeper r) m ≡ true = room_below r h8 h in
    chain_goes_on r (x, m) (inl (d, k)) (d ∷ (k ∷ [])) (chain_of r h1 h2 (holds_above r m below)) (room_for r (x, m) h1 below) (d ∷ [], k ∷ [], refl, (refl, h3), (refl, h4))
    (pair_is (ap (expr (expr_kind.Select x k.text)) (suffix_span (d ∷ []) k h1 refl ∙ ap cover (sym h5)) ∙ sym h6) (sym h8)) h5
chain_of r (given {m = m} {l = l} {x = x} {vs = vs} k j h1 h2 h3 h4 h5 h6 h7 h8 h9) le h =
    let below : holds (deeper r) (max m l) ≡ true = room_below r h9 h in
    let (types, xs, d, s) = types_back (deeper r) h4 (holds_right (deeper r) m l below) in
    let here : holds (deeper r) m ≡ true = holds_left (deeper r) m l below in
    chain_goes_on r (x, m) (inr (inl (k, (types, j)))) (k ∷ (vs ++ j ∷ [])) (chain_of r h1 h2 (holds_above r m here)) (room_for r (x, m) h1 here)
    (k ∷ [], vs ++ j ∷ [], refl, (refl, h3), (vs, j ∷ [], refl, s, (refl, h5)))
    (pair_is (ap (λ z. expr (expr_kind.Given x z) (join (span_of x) j.span)) xs ∙ ap (expr (expr_kind.Given x _)) (suffix_span (k ∷ vs) j h1 refl ∙ ap cover (sym h6)) ∙ sym h7) (ap (λ z. suc (max m z)) d ∙ sym h9)) h6
chain_of r (apply {m = m} {l = l} {x = x} {vs = vs} {args = xs} k j h1 h2 h3 h4 h5 h6 h7 h8 h9) le h =
    let below : holds (deeper r) (max m l) ≡ true = room_below r h9 h in
    let here : holds (deeper r) m ≡ true = holds_left (deeper r) m l below in
    let (args, e, s) = apply_back (deeper r) (x, m) j h4 h5 (holds_right (deeper r) m l below) in
    chain_goes_on r (x, m) (inr (inr (k, args))) (k ∷ (vs ++ j ∷ [])) (chain_of r h1 h2 (holds_above r m here)) (room_for r (x, m) h1 here)
    (k ∷ [], vs ++ j ∷ [], refl, (refl, h3), s)
    (e ∙ pair_is (ap (expr (expr_kind.Apply x xs)) (suffix_span (k ∷ vs) j h1 refl ∙ ap cover (sym h6)) ∙ sym h7) (sym h9)) h6
chain_of r (update {m = m} {l = l} {x = x} {vs = vs} {fields = xs} k j h1 h2 h3 h4 h5 h6 h7 h8 h9) le h =
    let below : holds (deeper r) (max m l) ≡ true = room_below r h9 h in
    let here : holds (deeper r) m ≡ true = holds_left (deeper r) m l below in
    let room = room_for r (x, m) h1 here in
    let (args, e, s) = update_back (deeper r) (x, m) j h4 h5 (both_true (fits r) (holds (deeper r) m) room).0 (holds_right (deeper r) m l below) in
    chain_goes_on r (x, m) (inr (inr (k, args))) (k ∷ (vs ++ j ∷ [])) (chain_of r h1 h2 (holds_above r m here)) room
    (k ∷ [], vs ++ j ∷ [], refl, (refl, h3), s)
    (e ∙ pair_is (ap (expr (expr_kind.Update x xs)) (suffix_span (k ∷ vs) j h1 refl ∙ ap cover (sym h6)) ∙ sym h7) (sym h9)) h6
chain_of r (negative k j h1 h2 h3 h4 h5 h6) le h = absurd (omega arith)
chain_of r (prefix k h1 h2 h3 h4 h5 h6 h7 h8) le h = absurd (omega arith)
chain_of r (infix_of k h1 h2 h3 h4 h5 h6 h7 h8 h9 h10) le h = absurd (omega arith)
chain_of r (if_of h1 h2) le h = absurd (omega arith)
chain_of r (match_of h1 h2) le h = absurd (omega arith)

-- an operand with its suffixes
pub seen_postfix : (r : Levels) → open_to r ≡ true → SeenAt Postfix r
seen_postfix r o = record { to = to; back = back }
  where
    to : (v : Tall Expr × List SuffixParts) (ts : List Spelled) → spells_form sort T_of grammar_room spells (rule_at Postfix r) v ts → spells_at Postfix r (tree_at Postfix r v) ts
    to (x, qs) ts (a, b, e, (l, le, w, h), s) =
        subst (AtLeast 9 r (folded suffix_to x qs)) (sym e)
        (suffixes_in r x a qs b (l, omega arith, w, h) (last_all (SuffixAt r) (has_room r) suffix_to x [] qs b s))

    back : (y : Tall Expr) (ts : List Spelled) → spells_at Postfix r y ts
        → (v : Tall Expr × List SuffixParts) × (tree_at Postfix r v ≡ y) × spells_form sort T_of grammar_room spells (rule_at Postfix r) v ts
    back y ts (l, le, w, h) =
        let (v, t, (a, b, e, u, s)) = chain_of r w le h in
        (v, t, (a, b, e, u, all_last (SuffixAt r) (has_room r) suffix_to v.0 [] v.1 b s))
