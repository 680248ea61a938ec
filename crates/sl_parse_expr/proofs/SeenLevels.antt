-- The infix operators of a level: what the rule of a level spells are just the trees of that level or of a higher one.
use Rattle.std.proofs.Common.{◌≡◌, ℕ, zero, suc, ◌≤◌, ◌<◌, List, [], ◌∷◌, ◌++◌, refl, sym, ap, ◌∙◌, subst, Bool, true, false, arith, true≢false, if◌then◌else◌}
use Rattle.std.specs.Prelude.{Some, None, max, leb}
use Rattle.std.proofs.lemmas.Bool.{leb-true, leb-false, le-leb}
use Rattle.std.proofs.lemmas.List.{append_assoc, append-nil}
use Rattle.sl_text.specs.declared.place.Span.{Span}
use Rattle.sl_grammar.specs.Grammar.{Form, Ref, Chain, and, chain_room, step_on, spells_form}
use Rattle.sl_grammar.specs.Law.{Seen, spells_then}
use Rattle.sl_grammar.specs.Steps.{spells_steps}
use Rattle.sl_tree.specs.declared.tree.Expr.{Expr}
use Rattle.sl_tree.specs.declared.tree.ExprKind.TheVariants as expr_kind
use Rattle.sl_tree.specs.Sorts.{Spelled, sort}
use Rattle.sl_tree.specs.WellShaped.{join, cover, expr, Is, operators, IsExpr, literal, name, this, paren, select, given, apply, update, negative, prefix, infix_of, if_of, match_of}
use Rattle.sl_tree.proofs.Spans.{Solid, cover_both, solid_one}
use Rattle.sl_tree.proofs.Trees.{expr_solid, expr_spanned, expr_deep}
use Rattle.sl_parse_expr.specs.Names.{Level, Link, Prefix, At, at, Levels, holds, open_to, deeper, fits}
use Rattle.sl_parse_expr.specs.Values.{Tall, FieldParts, T_of, infix_to, span_of}
use Rattle.sl_grammar.specs.Growing.{folded}
use Rattle.sl_parse_expr.specs.Grammar.{room, choose, spells, up_to, AtLeast}
use Rattle.sl_parse_expr.proofs.Rooms.{open_of, holds_node, holds_both, holds_below, holds_left, holds_right}
use Rattle.sl_parse_expr.proofs.SeenAt.{SeenAt}

-- facts of room, of steps and of spans

pub holds_less : (r : Levels) (n : ℕ) → holds r (suc n) ≡ true → holds r n ≡ true
holds_less None n e = refl
holds_less (Some m) n e = let u : suc n ≤ m = leb-true (suc n) m e in le-leb n m (omega arith)

pub and_both : (a b : Bool) → a ≡ true → b ≡ true → and a b ≡ true
and_both true b e f = f
and_both false b e f = e

pub and_left : (a b : Bool) → and a b ≡ true → a ≡ true
and_left true b e = refl
and_left false b e = e

pub and_right : (a b : Bool) → and a b ≡ true → b ≡ true
and_right true b e = e
and_right false b e = absurd (true≢false (sym e))

-- one more step at the end
pub folded_end : {X Q : Type 0} (f : X → Q → X) (x : X) (qs : List Q) (q : Q) → folded f x (qs ++ q ∷ []) ≡ f (folded f x qs) q
folded_end f x [] q = refl
folded_end f x (p ∷ ps) q = folded_end f (f x p) ps q

-- only the end of the last part tells
join_over : (a : Span) (k : Spelled) (ds : List Spelled) → Solid ds → join a (cover (k ∷ ds)) ≡ join a (cover ds)
unfolding cover
join_over a k ds s = ap (λ w. join a (cover (k ∷ w))) s.is ∙ sym (ap (λ w. join a (cover w)) s.is)

-- two parts with a token between them
pub cover_between : (us : List Spelled) (k : Spelled) (ds : List Spelled) → Solid us → Solid ds → cover (us ++ k ∷ ds) ≡ join (cover us) (cover ds)
cover_between us k ds a b = cover_both us (k ∷ ds) a (solid_one k ds) ∙ join_over (cover us) k ds b

-- one of a level is one of each lower level
pub at_lower : (l m : ℕ) (r : Levels) (v : Tall Expr) (ts : List Spelled) → l ≤ m → AtLeast m r v ts → AtLeast l r v ts
at_lower l m r v ts h (k, e, d, f) = (k, omega arith, d, f)

module _ (l : ℕ) (r : Levels) (low : 1 ≤ l) (high : l ≤ 7) (o : open_to r ≡ true) where
  -- an operator with its right side
  abbrev Linked : FieldParts → List Spelled → Type 0
  Linked = spells (at (Link l) r)

  abbrev has_room : Tall Expr × List FieldParts → Bool
  has_room = chain_room sort T_of room (fits r) (at (Level (suc l)) r) (at (Link l) r)

  abbrev Links : Tall Expr × List FieldParts → List FieldParts → List Spelled → Type 0
  Links = spells_steps Linked has_room step_on

  infix_at : (z w : Tall Expr) (k : Spelled) (us vs : List Spelled) → holds (deeper r) z.1 ≡ true → AtLeast l r z us → Linked (k, w) vs → AtLeast l r (infix_to z (k, w)) (us ++ vs)
  infix_at z w k us vs h (lz, le, dz, hz) (c, d, e, (f, is), (lw, lt, dw, hw)) = (
    l,
    omega arith,
    infix_of k dz is dw low high le lt tokens
        (ap (expr (expr_kind.Infix z.0 k.text w.0)) (ap (λ s. join s (span_of w.0)) (expr_spanned dz) ∙ (ap (join (cover us)) (expr_spanned dw) ∙ sym (ap cover tokens ∙ cover_between us k d (expr_solid dz) (expr_solid dw)))))
        refl,
    holds_node r _ o (holds_both (deeper r) z.1 w.1 h hw),
  )
    where
      tokens : us ++ vs ≡ us ++ k ∷ d
      tokens = ap (λ x. us ++ x) (e ∙ ap (λ x. x ++ d) f)

  links_to : (y : Tall Expr) (done qs : List FieldParts) (us vs : List Spelled) → AtLeast l r (folded infix_to y done) us → Links (y, done) qs vs
      → AtLeast l r (folded infix_to (folded infix_to y done) qs) (us ++ vs)
  links_to y done [] us vs w e = subst (AtLeast l r (folded infix_to y done)) (sym (append-nil us) ∙ sym (ap (λ x. us ++ x) e)) w
  links_to y done ((k, q) ∷ qs) us vs w (h, a, b, e, x, more) =
      let z = folded infix_to y done in
      let end : folded infix_to y (done ++ (k, q) ∷ []) ≡ infix_to z (k, q) = folded_end infix_to y done (k, q) in
      let here : AtLeast l r (infix_to z (k, q)) (us ++ a) = infix_at z q k us a (and_right (fits r) _ h) w x in
      let all = links_to y (done ++ (k, q) ∷ []) qs (us ++ a) b (subst (λ t. AtLeast l r t (us ++ a)) (sym end) here) more in
      subst (AtLeast l r (folded infix_to (infix_to z (k, q)) qs)) (append_assoc us a b ∙ sym (ap (λ x. us ++ x) e)) (subst (λ t. AtLeast l r (folded infix_to t qs) ((us ++ a) ++ b)) end all)

  abbrev Chained : Tall Expr × List FieldParts → List Spelled → Type 0
  Chained = spells_then (AtLeast (suc l) r) (λ y. Links (y, []))

  chained_to : (x : Tall Expr × List FieldParts) (ts : List Spelled) → Chained x ts → AtLeast l r (folded infix_to x.0 x.1) ts
  chained_to (y, qs) ts (a, b, e, w, steps) = subst (AtLeast l r (folded infix_to y qs)) (sym e) (links_to y [] qs a b (at_lower l (suc l) r y a (omega arith) w) steps)

  -- one more link at the end
  links_end : (s : Tall Expr × List FieldParts) (qs : List FieldParts) (q : FieldParts) (vs b : List Spelled) → Links s qs vs
      → fits r ≡ true → holds (deeper r) (folded infix_to (folded infix_to s.0 s.1) qs).1 ≡ true → Linked q b → Links s (qs ++ q ∷ []) (vs ++ b)
  links_end (y, done) [] q vs b e f h w = (and_both (fits r) _ f h, b, [], ap (λ x. x ++ b) e ∙ sym (append-nil b), w, refl)
  links_end (y, done) (p ∷ ps) q vs b (g, c, d, e, x, more) f h w = (
    g,
    c,
    d ++ b,
    ap (λ x. x ++ b) e ∙ append_assoc c d b,
    x,
    links_end (y, done ++ p ∷ []) ps q d b more f (ap (λ t. holds (deeper r) (folded infix_to t ps).1) (folded_end infix_to y done p) ∙ h) w,
  )

  -- the tree that comes from a chain
  abbrev Parts : Tall Expr → List Spelled → Type 0
  Parts t ts = (x : Tall Expr × List FieldParts) × (folded infix_to x.0 x.1 ≡ t) × Chained x ts

  higher : (t : Tall Expr) (ts : List Spelled) (level : ℕ) → l < level → IsExpr level t.1 t.0 ts → holds r t.1 ≡ true → Parts t ts
  higher t ts level h d e = ((t, []), refl, (ts, [], sym (append-nil ts), (level, h, d, e), refl))

  longer : (x w t : Tall Expr) (k : Spelled) (us vs ts : List Spelled) → Parts x us → fits r ≡ true → holds (deeper r) x.1 ≡ true → Is (operators l) k → AtLeast (suc l) (deeper r) w vs
      → ts ≡ us ++ k ∷ vs → infix_to x (k, w) ≡ t → Parts t ts
  longer x w t k us vs ts ((y, qs), e, (a, b, f, first, steps)) g h is right tokens same = (
    (y, qs ++ (k, w) ∷ []),
    folded_end infix_to y qs (k, w) ∙ (ap (λ z. infix_to z (k, w)) e ∙ same),
    (
      a,
      b ++ k ∷ vs,
      tokens ∙ (ap (λ z. z ++ k ∷ vs) f ∙ append_assoc a b (k ∷ vs)),
      first,
      links_end (y, []) qs (k, w) b (k ∷ vs) steps g (ap (λ z. holds (deeper r) z.1) e ∙ h) (k ∷ [], vs, refl, (refl, is), right),
    ),
  )

  -- the tree is that of its sides
  infix_same : (x y e : Expr) (k : Spelled) (m n : ℕ) (us vs ts : List Spelled) → Solid us → Solid vs → span_of x ≡ cover us → span_of y ≡ cover vs → ts ≡ us ++ k ∷ vs
      → e ≡ expr (expr_kind.Infix x k.text y) (cover ts) → infix_to (x, m) (k, (y, n)) ≡ (e, suc (max m n))
  infix_same x y e k m n us vs ts a b p q tokens same =
      ap (λ z. (z, suc (max m n)))
      (ap (expr (expr_kind.Infix x k.text y)) (ap (λ s. join s (span_of y)) p ∙ (ap (join (cover us)) q ∙ sym (ap cover tokens ∙ cover_between us k vs a b))) ∙ sym same)

  level_from : {level n : ℕ} {e : Expr} {ts : List Spelled} → IsExpr level n e ts → l ≤ level → holds r n ≡ true → Parts (e, n) ts
  level_from {level} {n} {e} {ts} (literal k h1 h2 h3 h4 h5) u h = higher (e, n) ts level (omega arith) (literal k h1 h2 h3 h4 h5) h
  level_from {level} {n} {e} {ts} (name k h1 h2 h3 h4 h5) u h = higher (e, n) ts level (omega arith) (name k h1 h2 h3 h4 h5) h
  level_from {level} {n} {e} {ts} (this k h1 h2 h3 h4 h5) u h = higher (e, n) ts level (omega arith) (this k h1 h2 h3 h4 h5) h
  level_from {level} {n} {e} {ts} (paren k j h1 h2 h3 h4 h5 h6 h7) u h = higher (e, n) ts level (omega arith) (paren k j h1 h2 h3 h4 h5 h6 h7) h
  level_from {level} {n} {e} {ts} (select d k h1 h2 h3 h4 h5 h6 h7 h8) u h = higher (e, n) ts level (omega arith) (select d k h1 h2 h3 h4 h5 h6 h7 h8) h
  level_from {level} {n} {e} {ts} (given k j h1 h2 h3 h4 h5 h6 h7 h8 h9) u h = higher (e, n) ts level (omega arith) (given k j h1 h2 h3 h4 h5 h6 h7 h8 h9) h
  level_from {level} {n} {e} {ts} (apply k j h1 h2 h3 h4 h5 h6 h7 h8 h9) u h = higher (e, n) ts level (omega arith) (apply k j h1 h2 h3 h4 h5 h6 h7 h8 h9) h
  level_from {level} {n} {e} {ts} (update k j h1 h2 h3 h4 h5 h6 h7 h8 h9) u h = higher (e, n) ts level (omega arith) (update k j h1 h2 h3 h4 h5 h6 h7 h8 h9) h
  level_from {level} {n} {e} {ts} (negative k j h1 h2 h3 h4 h5 h6) u h = higher (e, n) ts level (omega arith) (negative k j h1 h2 h3 h4 h5 h6) h
  level_from {level} {n} {e} {ts} (prefix k h1 h2 h3 h4 h5 h6 h7 h8) u h = higher (e, n) ts level (omega arith) (prefix k h1 h2 h3 h4 h5 h6 h7 h8) h
  level_from {level} {n} {e} {ts} (infix_of {left = left} {right = right} {m = m} {l = i} {x = x} {y = y} {us = us} {vs = vs} k h1 h2 h3 h4 h5 h6 h7 h8 h9 h10) u h =
      let room_of : holds (deeper r) (max m i) ≡ true = holds_below r (max m i) (ap (holds r) (sym h10) ∙ h) in
      let here : holds (deeper r) m ≡ true = holds_left (deeper r) m i room_of in
      let there : holds (deeper r) i ≡ true = holds_right (deeper r) m i room_of in
      by (leb (suc l) level) refl here there (level_from h1 (omega arith) (holds_less r m (holds_node r m o here)))
    where
      by : (b : Bool) → leb (suc l) level ≡ b → holds (deeper r) m ≡ true → holds (deeper r) i ≡ true → Parts (x, m) us → Parts (e, n) ts
      by true t a c w = higher (e, n) ts level (leb-true (suc l) level t) (infix_of k h1 h2 h3 h4 h5 h6 h7 h8 h9 h10) h
      by false t a c w =
          let f : level < suc l = leb-false (suc l) level t in
          let same : level ≡ l = omega arith in
          let d = expr_deep h1 in
          longer (x, m) (y, i) (e, n) k us vs ts w (open_of (deeper r) d.below (ap (holds (deeper r)) (sym d.is) ∙ a)) a (subst (λ z. Is (operators z) k) same h2)
          (right, omega arith, h3, c) h8 (infix_same x y e k m i us vs ts (expr_solid h1) (expr_solid h3) (expr_spanned h1) (expr_spanned h3) h8 h9 ∙ ap (λ z. (e, z)) (sym h10))
  level_from (if_of h1 h2) u h = absurd (omega arith)
  level_from (match_of h1 h2) u h = absurd (omega arith)

up_to_some : (m l : ℕ) → up_to m l ≡ true → 1 ≤ l
up_to_some m zero e = absurd (true≢false (sym e))
up_to_some m (suc l) e = omega arith

up_to_most : (m l : ℕ) → up_to m l ≡ true → l ≤ m
up_to_most m zero e = omega arith
up_to_most zero (suc l) e = absurd (true≢false (sym e))
up_to_most (suc m) (suc zero) e = omega arith
up_to_most (suc m) (suc (suc l)) e = let h : suc l ≤ m = up_to_most m (suc l) e in omega arith

pub seen_level : (l : ℕ) (r : Levels) → open_to r ≡ true → up_to 8 l ≡ true → SeenAt (Level l) r
seen_level l r o u = by (leb l 7) refl
  where
    low : 1 ≤ l
    low = up_to_some 8 l u

    top : l ≤ 8
    top = up_to_most 8 l u

    links : Form At
    links = Chain (fits r) (at (Level (suc l)) r) (at (Link l) r)

    prefixes : Form At
    prefixes = Ref (at Prefix r)

    by : (b : Bool) → leb l 7 ≡ b
        → Seen (spells_form sort T_of room spells (if b then links else prefixes)) (λ v. choose links prefixes b (λ v. folded infix_to v.0 v.1) (λ v. v) v) (AtLeast l r)
    by true e =
        let high : l ≤ 7 = leb-true l 7 e in
        record { to = λ x ts w. chained_to l r low high o x ts w; back = λ t ts w. level_from l r low high o w.2 w.1 w.3 }
    by false e =
        let f : 7 < l = leb-false l 7 e in
        record { to = λ x ts w. at_lower l 8 r x ts top w; back = λ t ts w. (t, refl, at_lower 8 l r t ts (omega arith) w) }
