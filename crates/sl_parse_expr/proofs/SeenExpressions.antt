-- Expressions: what their rule spells are just the trees of all levels, `if` and `match` included.
use Rattle.std.proofs.Common.{◌≡◌, ℕ, suc, ◌≤◌, List, [], ◌∷◌, ◌++◌, refl, sym, ap, ◌∙◌, subst, true, false, arith, true≢false, inl, inr, ◌⊎◌}
use Rattle.std.specs.Prelude.{max}
use Rattle.std.proofs.lemmas.List.{append_assoc, append-nil}
use Rattle.sl_text.specs.declared.place.Span.{Span}
use Rattle.sl_grammar.specs.Grammar.{Form, Token, Ref, Then, Room, Chain, spells_form}
use Rattle.sl_grammar.specs.Many.{spells_many}
use Rattle.sl_tree.specs.declared.tree.Expr.{Expr}
use Rattle.sl_tree.specs.declared.tree.Case.{Case}
use Rattle.sl_tree.specs.declared.tree.ExprKind.TheVariants as expr_kind
use Rattle.sl_tree.specs.Sorts.{Spelled, sort, if_word, else_word}
use Rattle.sl_tree.specs.WellShaped.{join, cover, expr, IsExpr, IsIf, IsMatch, IsCase, IsCases, IsSomeCases, literal, name, this, paren, select, given, apply, update, negative, prefix, infix_of, if_of, match_of, if_all, match_all, cases_all, cases_end, cases_more}
use Rattle.sl_tree.proofs.Spans.{Solid, solid_one, last_both, cover_ends}
use Rattle.sl_tree.proofs.Trees.{Deep, expr_solid, expr_spanned, expr_deep}
use Rattle.sl_parse_expr.specs.Names.{Expression, Level, Matched, At, at, Levels, holds, open_to, deeper, fits, head_form}
use Rattle.sl_parse_expr.specs.Values.{Tall, HeadParts, MatchedParts, T_of, deepest, firsts, span_of, cases_in, last_in, expression_from}
use Rattle.sl_parse_expr.specs.Grammar.{room, spells, AtLeast}
use Rattle.sl_parse_expr.proofs.Rooms.{open_of, holds_node, holds_both, holds_below, holds_left, holds_right}
use Rattle.sl_parse_expr.proofs.SeenLevels.{and_both, and_right, holds_less, at_lower}
use Rattle.sl_parse_expr.proofs.SeenAt.{SeenAt}

-- spans

-- what stands before the last part doesn't tell the end
pub join_last : (a : Span) (us ws : List Spelled) → Solid ws → join a (cover (us ++ ws)) ≡ join a (cover ws)
unfolding cover
join_last a [] ws s = refl
join_last a (k ∷ ks) ws s = ap (λ w. join a (cover ((k ∷ ks) ++ w))) s.is ∙ (ap (λ l. join a l.span) (last_both k ks s.head s.rest) ∙ sym (ap (λ w. join a (cover w)) s.is))

-- from a token to the end of the last part
pub cover_last : (k : Spelled) (us ws : List Spelled) → Solid ws → cover (k ∷ (us ++ ws)) ≡ join k.span (cover ws)
unfolding cover
cover_last k us ws s = ap (λ w. cover (k ∷ (us ++ w))) s.is ∙ (ap (λ l. join k.span l.span) (last_both k us s.head s.rest) ∙ sym (ap (λ w. join k.span (cover w)) s.is))

-- room

pub fits_child : (r : Levels) (m : ℕ) → Deep m → holds (deeper r) m ≡ true → fits r ≡ true
fits_child r m d h = open_of (deeper r) d.below (ap (holds (deeper r)) (sym d.is) ∙ h)

-- cases

abbrev pub CaseIn : Levels → Tall Case → List Spelled → Type 0
CaseIn r c ts = IsCase c.1 c.0 ts × (holds r c.1 ≡ true)

pub cases_to : (r : Levels) (c : Tall Case) (cs : List (Tall Case)) (us vs ts : List Spelled) → CaseIn r c us → spells_many (CaseIn r) cs vs → ts ≡ us ++ vs
    → IsSomeCases (deepest (c ∷ cs)) (firsts (c ∷ cs)) ts × (holds r (deepest (c ∷ cs)) ≡ true)
cases_to r c [] us vs ts (d, h) e t = (cases_end (subst (IsCase c.1 c.0) (sym (t ∙ (ap (λ z. us ++ z) e ∙ append-nil us))) d) refl, h)
cases_to r c (x ∷ xs) us vs ts (d, h) (a, b, e, w, more) t =
    let all = cases_to r x xs a b vs w more e in
    (cases_more d all.0 t refl refl, holds_both r c.1 (deepest (x ∷ xs)) h all.1)

pub record CasesFrom (r : Levels) (n : ℕ) (cases : List Case) (ts : List Spelled) : Type 0 where
  pub first : Tall Case
  pub rest : List (Tall Case)
  pub front : List Spelled
  pub back : List Spelled
  pub tokens : ts ≡ front ++ back
  pub here : CaseIn r first front
  pub there : spells_many (CaseIn r) rest back
  pub trees : firsts (first ∷ rest) ≡ cases
  pub levels : deepest (first ∷ rest) ≡ n

pub cases_from : (r : Levels) {n : ℕ} {cases : List Case} {ts : List Spelled} → IsSomeCases n cases ts → holds r n ≡ true → CasesFrom r n cases ts
cases_from r {n} {cases} {ts} (cases_end {c = c} d e) h =
    record { first = (c, n); rest = []; front = ts; back = []; tokens = sym (append-nil ts); here = (d, h); there = refl; trees = sym e; levels = refl }
cases_from r {n} {cases} {ts} (cases_more {m = m} {l = l} {us = us} {vs = vs} {c = c} d more t e o) h =
    let both : holds r (max m l) ≡ true = ap (holds r) (sym o) ∙ h in
    let p = cases_from r more (holds_right r m l both) in
    record {
      first = (c, m);
      rest = p.first ∷ p.rest;
      front = us;
      back = vs;
      tokens = t;
      here = (d, holds_left r m l both);
      there = (p.front, p.back, p.tokens, p.here, p.there);
      trees = ap (λ z. c ∷ z) p.trees ∙ sym e;
      levels = ap (max m) p.levels ∙ sym o;
    }

-- `match { .. }`

pub record MatchedTo (r : Levels) (v : MatchedParts) (ts : List Spelled) : Type 0 where
  pub cases : IsCases (deepest (cases_in v)) (firsts (cases_in v)) ts
  pub levels : holds (deeper r) (deepest (cases_in v)) ≡ true
  pub before : List Spelled
  pub end : ts ≡ before ++ last_in v ∷ []

pub matched_to : (r : Levels) (v : MatchedParts) (ts : List Spelled) → spells (at Matched r) v ts → MatchedTo r v ts
matched_to r (k, (p, (c, (cs, q)))) ts (a, b, e, (ek, ik), (a2, b2, e2, (ep, ip), (us, b3, e3, w, (vs, b4, e4, more, (eq, iq))))) =
    record { cases = cases_all k p q ik ip all.0 iq tokens; levels = all.1; before = k ∷ p ∷ (us ++ vs); end = tokens }
  where
    all : IsSomeCases (deepest (c ∷ cs)) (firsts (c ∷ cs)) (us ++ vs) × (holds (deeper r) (deepest (c ∷ cs)) ≡ true)
    all = cases_to (deeper r) c cs us vs (us ++ vs) w more refl

    inner : b3 ≡ vs ++ q ∷ []
    inner = e4 ∙ ap (λ z. vs ++ z) eq

    tokens : ts ≡ k ∷ p ∷ ((us ++ vs) ++ q ∷ [])
    tokens =
        e ∙ (ap (λ z. z ++ b) ek ∙ ap (λ z. k ∷ z) (e2 ∙ (ap (λ z. z ++ b2) ep ∙ ap (λ z. p ∷ z) (e3 ∙ (ap (λ z. us ++ z) inner ∙ sym (append_assoc us vs (q ∷ [])))))))

pub record MatchedFrom (r : Levels) (n : ℕ) (cases : List Case) (ts : List Spelled) : Type 0 where
  pub parts : MatchedParts
  pub trees : firsts (cases_in parts) ≡ cases
  pub levels : deepest (cases_in parts) ≡ n
  pub spelled : spells (at Matched r) parts ts

pub matched_from : (r : Levels) {n : ℕ} {cases : List Case} {ts : List Spelled} → IsCases n cases ts → holds (deeper r) n ≡ true → MatchedFrom r n cases ts
matched_from r (cases_all {us = us} k p q ik ip some iq t) h =
    let f = cases_from (deeper r) some h in
    record {
      parts = (k, (p, (f.first, (f.rest, q))));
      trees = f.trees;
      levels = f.levels;
      spelled = (k ∷ [], p ∷ (us ++ q ∷ []), t, (refl, ik), (p ∷ [], us ++ q ∷ [], refl, (refl, ip), (f.front, f.back ++ q ∷ [], ap (λ z. z ++ q ∷ []) f.tokens ∙ append_assoc f.front f.back (q ∷ []), f.here, (f.back, q ∷ [], refl, f.there, (refl, iq)))));
    }

-- the span of a match
pub match_span : {level n : ℕ} {x : Expr} {us : List Spelled} (r : Levels) (v : MatchedParts) (vs ts : List Spelled) → IsExpr level n x us → spells (at Matched r) v vs → ts ≡ us ++ vs
    → join (span_of x) (last_in v).span ≡ cover ts
match_span {level} {n} {x} {us} r v vs ts d w t =
    let m = matched_to r v vs w in
    ap (λ s. join s (last_in v).span) (expr_spanned d) ∙ (sym (cover_ends us m.before (last_in v) (expr_solid d)) ∙ sym (ap cover (t ∙ ap (λ z. us ++ z) m.end)))

-- `if`

-- its span
if_span : (i p q s : Spelled) (z : Expr) (us vs ws ts : List Spelled) → ts ≡ i ∷ p ∷ (us ++ q ∷ (vs ++ s ∷ ws)) → Solid ws → span_of z ≡ cover ws → join i.span (span_of z) ≡ cover ts
if_span i p q s z us vs ws ts t w e =
    ap (join i.span) e
    ∙ (sym (join_last i.span (s ∷ []) ws w) ∙ (sym (join_last i.span (q ∷ vs) (s ∷ ws) (solid_one s ws))
    ∙ (sym (cover_last i (p ∷ us) (q ∷ (vs ++ s ∷ ws)) (solid_one q (vs ++ s ∷ ws))) ∙ sym (ap cover t))))

-- an expression

abbrev if_form : Levels → Form At
if_form r = Then (Token (if_word ∷ [])) (Then (head_form (deeper r)) (Then (Ref (at Expression (deeper r))) (Then (Token (else_word ∷ [])) (Ref (at Expression (deeper r))))))

abbrev chain_form : Levels → Form At
chain_form r = Chain (fits r) (at (Level 1) r) (at Matched r)

abbrev ExpressionParts : Type 0
ExpressionParts = (Spelled × (HeadParts × (Tall Expr × (Spelled × Tall Expr)))) ⊎ (Tall Expr × List MatchedParts)

module _ (r : Levels) (o : open_to r ≡ true) where
  expression_to : (x : ExpressionParts) (ts : List Spelled) → spells_form sort T_of room spells (Room (fits r) (if_form r) (chain_form r)) x ts → AtLeast 0 r (expression_from x) ts
  expression_to (inl (i, ((p, (x, q)), (y, (s, z))))) ts
      (f, (a, b, e, (ei, ii), (c, d, e2, (c1, c2, e3, (ep, ip), (us, c4, e4, (lx, ux, dx, hx), (eq, iq))), (vs, d2, e5, (ly, uy, dy, hy), (s1, ws, e6, (es, is), (lz, uz, dz, hz)))))) = (
        0,
        omega arith,
        if_of (if_all i p q s ii ip dx iq dy is dz tokens (ap (expr (expr_kind.If x.0 y.0 z.0)) (if_span i p q s z.0 us vs ws ts tokens (expr_solid dz) (expr_spanned dz))) refl) refl,
        holds_node r _ o (holds_both (deeper r) _ _ hx (holds_both (deeper r) _ _ hy hz)),
      )
    where
      head : c ≡ p ∷ (us ++ q ∷ [])
      head = e3 ∙ (ap (λ z. z ++ c2) ep ∙ ap (λ z. p ∷ z) (e4 ∙ ap (λ z. us ++ z) eq))

      tail : d ≡ vs ++ s ∷ ws
      tail = e5 ∙ ap (λ z. vs ++ z) (e6 ∙ ap (λ z. z ++ ws) es)

      tokens : ts ≡ i ∷ p ∷ (us ++ q ∷ (vs ++ s ∷ ws))
      tokens = e ∙ (ap (λ z. z ++ b) ei ∙ ap (λ z. i ∷ z) (e2 ∙ (ap (λ z. z ++ d) head ∙ (ap (λ z. p ∷ z) (append_assoc us (q ∷ []) d) ∙ ap (λ z. p ∷ (us ++ q ∷ z)) tail))))
  expression_to (inr (x, [])) ts (a, b, e, w, n) = at_lower 0 1 r x ts (omega arith) (subst (AtLeast 1 r x) (sym (e ∙ (ap (λ z. a ++ z) n ∙ append-nil a))) w)
  expression_to (inr (x, v ∷ [])) ts (a, b, e, (l, u, d, h), (g, c, c2, e2, w, n)) = (
    0,
    omega arith,
    match_of (match_all d u m.cases tokens (ap (expr (expr_kind.Match x.0 (firsts (cases_in v)))) (match_span r v c ts d w tokens)) refl) refl,
    holds_node r _ o (holds_both (deeper r) _ _ (and_right (fits r) _ g) m.levels),
  )
    where
      m : MatchedTo r v c
      m = matched_to r v c w

      tokens : ts ≡ a ++ c
      tokens = e ∙ ap (λ z. a ++ z) (e2 ∙ (ap (λ z. c ++ z) n ∙ append-nil c))
  expression_to (inr (x, v ∷ u ∷ us)) ts (a, b, e, w, (g, c, c2, e2, m, (g2, c3, c4, e3, m2, more))) = absurd (true≢false (sym (and_right (fits r) false g2)))

  -- the way back: what comes from which parts
  abbrev ExpressionFrom : Tall Expr → List Spelled → Type 0
  ExpressionFrom t ts = (x : ExpressionParts) × (expression_from x ≡ t) × spells_form sort T_of room spells (Room (fits r) (if_form r) (chain_form r)) x ts

  plain : {l n : ℕ} {e : Expr} {ts : List Spelled} → IsExpr l n e ts → 1 ≤ l → holds r n ≡ true → ExpressionFrom (e, n) ts
  plain {l} {n} {e} {ts} d u h = (inr ((e, n), []), refl, (ts, [], sym (append-nil ts), (l, u, d, h), refl))

  if_from_parts : {n : ℕ} {e : Expr} {ts : List Spelled} → IsIf n e ts → holds r n ≡ true → ExpressionFrom (e, n) ts
  if_from_parts {n} {e} {ts} (if_all {condition = lx} {yes = ly} {no = lz} {m = m} {l = l} {o = k} {x = x} {y = y} {z = z} {us = us} {vs = vs} {ws = ws} i p q s ii ip dx iq dy is dz t same more) h =
      let all : holds (deeper r) (max m (max l k)) ≡ true = holds_below r _ (ap (holds r) (sym more) ∙ h) in
      let hx = holds_left (deeper r) m (max l k) all in
      let rest = holds_right (deeper r) m (max l k) all in (
        inl (i, ((p, ((x, m), q)), ((y, l), (s, (z, k))))),
        ap (λ w. (expr (expr_kind.If x y z) w, suc (max m (max l k)))) (if_span i p q s z us vs ws ts t (expr_solid dz) (expr_spanned dz))
            ∙ (ap (λ w. (w, suc (max m (max l k)))) (sym same) ∙ ap (λ w. (e, w)) (sym more)),
        (
          fits_child r m (expr_deep dx) hx,
          (
            i ∷ [],
            p ∷ (us ++ q ∷ (vs ++ s ∷ ws)),
            t,
            (refl, ii),
            (
              p ∷ (us ++ q ∷ []),
              vs ++ s ∷ ws,
              ap (λ w. p ∷ w) (sym (append_assoc us (q ∷ []) (vs ++ s ∷ ws))),
              (p ∷ [], us ++ q ∷ [], refl, (refl, ip), (us, q ∷ [], refl, (lx, omega arith, dx, hx), (refl, iq))),
              (vs, s ∷ ws, refl, (ly, omega arith, dy, holds_left (deeper r) l k rest), (s ∷ [], ws, refl, (refl, is), (lz, omega arith, dz, holds_right (deeper r) l k rest))),
            ),
          ),
        ),
      )

  match_from_parts : {n : ℕ} {e : Expr} {ts : List Spelled} → IsMatch n e ts → holds r n ≡ true → ExpressionFrom (e, n) ts
  match_from_parts {n} {e} {ts} (match_all {level = level} {m = m} {l = l} {x = x} {us = us} {vs = vs} {cases = cases} d u cs t same more) h =
      let all : holds (deeper r) (max m l) ≡ true = holds_below r _ (ap (holds r) (sym more) ∙ h) in
      let hx = holds_left (deeper r) m l all in
      let v = matched_from r cs (holds_right (deeper r) m l all) in (
        inr ((x, m), v.parts ∷ []),
        ap (λ w. (expr (expr_kind.Match x (firsts (cases_in v.parts))) w, suc (max m (deepest (cases_in v.parts))))) (match_span r v.parts vs ts d v.spelled t)
            ∙ (ap (λ w. (expr (expr_kind.Match x w) (cover ts), suc (max m (deepest (cases_in v.parts))))) v.trees
            ∙ (ap (λ w. (expr (expr_kind.Match x cases) (cover ts), suc (max m w))) v.levels ∙ (ap (λ w. (w, suc (max m l))) (sym same) ∙ ap (λ w. (e, w)) (sym more)))),
        (
          us,
          vs,
          t,
          (level, u, d, holds_less r m (holds_node r m o hx)),
          (and_both (fits r) _ (fits_child r m (expr_deep d) hx) hx, vs, [], sym (append-nil vs), v.spelled, refl),
        ),
      )

  expression_back : {level n : ℕ} {e : Expr} {ts : List Spelled} → IsExpr level n e ts → holds r n ≡ true → ExpressionFrom (e, n) ts
  expression_back (literal k h1 h2 h3 h4 h5) h = plain (literal k h1 h2 h3 h4 h5) (omega arith) h
  expression_back (name k h1 h2 h3 h4 h5) h = plain (name k h1 h2 h3 h4 h5) (omega arith) h
  expression_back (this k h1 h2 h3 h4 h5) h = plain (this k h1 h2 h3 h4 h5) (omega arith) h
  expression_back (paren k j h1 h2 h3 h4 h5 h6 h7) h = plain (paren k j h1 h2 h3 h4 h5 h6 h7) (omega arith) h
  expression_back (select d k h1 h2 h3 h4 h5 h6 h7 h8) h = plain (select d k h1 h2 h3 h4 h5 h6 h7 h8) (omega arith) h
  expression_back (given k j h1 h2 h3 h4 h5 h6 h7 h8 h9) h = plain (given k j h1 h2 h3 h4 h5 h6 h7 h8 h9) (omega arith) h
  expression_back (apply k j h1 h2 h3 h4 h5 h6 h7 h8 h9) h = plain (apply k j h1 h2 h3 h4 h5 h6 h7 h8 h9) (omega arith) h
  expression_back (update k j h1 h2 h3 h4 h5 h6 h7 h8 h9) h = plain (update k j h1 h2 h3 h4 h5 h6 h7 h8 h9) (omega arith) h
  expression_back (negative k j h1 h2 h3 h4 h5 h6) h = plain (negative k j h1 h2 h3 h4 h5 h6) (omega arith) h
  expression_back (prefix k h1 h2 h3 h4 h5 h6 h7 h8) h = plain (prefix k h1 h2 h3 h4 h5 h6 h7 h8) (omega arith) h
  expression_back (infix_of k h1 h2 h3 h4 h5 h6 h7 h8 h9 h10) h = plain (infix_of k h1 h2 h3 h4 h5 h6 h7 h8 h9 h10) h4 h
  expression_back (if_of h1 h2) h = if_from_parts h1 h
  expression_back (match_of h1 h2) h = match_from_parts h1 h

pub seen_expression : (r : Levels) → open_to r ≡ true → SeenAt Expression r
seen_expression r o = record { to = expression_to r o; back = λ t ts w. expression_back r o w.2 w.3 }
