-- What begins with an expression: a call, an assignment or a match; what is skipped; and `return`.
use Rattle.std.proofs.Common.{◌≡◌, ℕ, suc, ◌≤◌, List, [], ◌∷◌, ◌++◌, refl, sym, ap, ◌∙◌, subst, Bool, true, false, true≢false, inl, inr, append-nil, ◌==◌, max, if◌then◌else◌, eqb, zero-le, zero, arith}
use Rattle.std.proofs.lemmas.Bool.{eqb-true, eq-eqb, leb-true, le-leb}
use Rattle.std.specs.Prelude.{Some, None}
use Rattle.sl_grammar.specs.Grammar.{is}
use Rattle.sl_grammar.specs.Ahead.{leads}
use Rattle.sl_grammar.specs.Without.{starts_with}
use Rattle.sl_tree.specs.Sorts.{return_word, equals, Spelled, sort, contract_name, left_parenthesis, prefixed_l}
use Rattle.sl_tree.specs.WellShaped.{IsMatch, skips, cover, join, stmt, expr, IsExpr, IsStmt, IsCases, assign, call_infix, match_stmt, match_of, match_all, return_bare, return_value}
use Rattle.sl_tree.specs.declared.tree.Case.{Case}
use Rattle.sl_tree.specs.declared.tree.Expr.{Expr}
use Rattle.sl_tree.specs.declared.tree.ExprKind.TheVariants as expr_kind
use Rattle.sl_tree.specs.declared.tree.Stmt.{Stmt}
use Rattle.sl_tree.specs.declared.tree.StmtKind.TheVariants as stmt_kind
use Rattle.sl_tree.proofs.Trees.{Deep, expr_solid, expr_spanned, expr_deep}
use Rattle.sl_tree.proofs.Spans.{cover_one}
use Rattle.sl_parse_expr.specs.Names.{Levels, holds, open_to, deeper, fits, Return_of, Assigned, Started, Matched}
use Rattle.sl_parse_expr.specs.Values.{StartedParts, MatchedParts, started_from, match_to, cases_in, last_in, firsts, deepest, Tall, span_of, ReturnParts, FieldParts, return_from}
use Rattle.sl_parse_expr.specs.Grammar.{by_rule, trees, wholes}
use Rattle.sl_parse_expr.proofs.Rooms.{open_of, open_fits, holds_node, holds_below, holds_one, holds_both, holds_left, holds_right}
use Rattle.sl_parse_expr.proofs.Ends.{ends_same, ends_all, ends_on, cover_on, cover_from}
use Rattle.sl_parse_expr.proofs.SeenCases.{pair_is, matched_to, matched_back, matched_span}

-- a statement within its room
abbrev pub Stated : Levels → Tall Stmt → List Spelled → Type 0
Stated r v ts = IsStmt v.1 v.0 ts × (holds r v.1 ≡ true)

-- the order of a test doesn't matter
eqb_swap : (a b : ℕ) → eqb a b ≡ eqb b a
eqb_swap a b = by (eqb a b) (eqb b a) refl refl
  where
    by : (p q : Bool) → eqb a b ≡ p → eqb b a ≡ q → p ≡ q
    by true true e f = refl
    by false false e f = refl
    by true false e f = sym (eq-eqb b a (sym (eqb-true a b e))) ∙ f
    by false true e f = sym e ∙ eq-eqb a b (sym (eqb-true b a f))

pub true_or : (b : Bool) → (if b then true else false) ≡ b
true_or true = refl
true_or false = refl

one_kind : (a : ℕ) (k : Spelled) → is sort (a ∷ []) k ≡ (sort k == a)
one_kind a k = true_or (eqb a (sort k)) ∙ eqb_swap a (sort k)

-- what no statement skips: two tests of the first tokens
pub skips_as : (ts : List Spelled) → skips ts ≡ (if starts_with (is sort (prefixed_l ∷ [])) ts then true else leads (is sort (contract_name ∷ [])) (is sort (left_parenthesis ∷ [])) ts)
skips_as [] = refl
skips_as (k ∷ []) = sym (ap (λ b. if b then true else false) (one_kind prefixed_l k) ∙ true_or (sort k == prefixed_l))
skips_as (k ∷ (j ∷ js)) =
    sym (ap (λ b. if b then true else (if is sort (contract_name ∷ []) k then is sort (left_parenthesis ∷ []) j else false)) (one_kind prefixed_l k)
    ∙ (ap (λ b. if sort k == prefixed_l then true else (if b then is sort (left_parenthesis ∷ []) j else false)) (one_kind contract_name k)
    ∙ ap (λ b. if sort k == prefixed_l then true else (if sort k == contract_name then b else false)) (one_kind left_parenthesis j)))

none_of : (a b : Bool) → (if a then true else b) ≡ false → (a ≡ false) × (b ≡ false)
none_of true b e = absurd (true≢false e)
none_of false b e = (refl, e)

pub skips_not : (ts : List Spelled) → starts_with (is sort (prefixed_l ∷ [])) ts ≡ false → leads (is sort (contract_name ∷ [])) (is sort (left_parenthesis ∷ [])) ts ≡ false → skips ts ≡ false
skips_not ts e f = skips_as ts ∙ (ap (λ b. if b then true else leads (is sort (contract_name ∷ [])) (is sort (left_parenthesis ∷ [])) ts) e ∙ f)

pub not_skipped : (ts : List Spelled) → skips ts ≡ false → (starts_with (is sort (prefixed_l ∷ [])) ts ≡ false) × (leads (is sort (contract_name ∷ [])) (is sort (left_parenthesis ∷ [])) ts ≡ false)
not_skipped ts e = none_of _ _ (sym (skips_as ts) ∙ e)

-- what has room below has room
pub holds_over : (r : Levels) (n : ℕ) → holds (deeper r) n ≡ true → holds r n ≡ true
holds_over None n e = refl
holds_over (Some zero) n e = e
holds_over (Some (suc m)) n e = let u : n ≤ m = leb-true n m e in le-leb n (suc m) (omega arith)

-- there is room below a node that stands in one
pub fits_under : (r : Levels) {level n : ℕ} {e : Expr} {ts : List Spelled} → IsExpr level n e ts → holds (deeper r) n ≡ true → fits r ≡ true
fits_under r {level} {n} d h = let deep : Deep n = expr_deep d in open_of (deeper r) deep.below (subst (λ z. holds (deeper r) z ≡ true) deep.is h)

-- from an expression to the end of the cases behind it
until_last : (r : Levels) (v : MatchedParts) {ts us vs : List Spelled} {level n : ℕ} {x : Expr} → ts ≡ us ++ vs → IsExpr level n x us → by_rule trees Matched r v vs → cover ts ≡ join (span_of x) (last_in v).span
until_last r v {ts} {us} {vs} e d w = ap cover e ∙ (matched_span r v us vs (expr_solid d) w ∙ ap (λ s. join s (last_in v).span) (sym (expr_spanned d)))

-- of two that are true, the second
of_and : (a : Bool) → (if true then a else false) ≡ true → a ≡ true
of_and a e = e

-- `return`

pub return_to : (r : Levels) → open_to r ≡ true → (v : ReturnParts) (ts : List Spelled) → by_rule trees Return_of r v ts → Stated r (return_from v) ts
return_to r o (w, inl x) ts (a, b, e, (ea, i), (f, (l, _, d, h))) =
    let es : ts ≡ w ∷ b = e ∙ ap (λ z. z ++ b) ea in
    (return_value w i d es (ap (λ s. stmt (stmt_kind.Return (Some x.0)) s) (sym (cover_on w es (ends_all b) d))) refl, holds_node r x.1 o h)
return_to r o (w, inr none) ts (a, b, e, (ea, i), f) =
    let es : ts ≡ w ∷ [] = e ∙ (ap (λ z. z ++ b) ea ∙ ap (λ z. w ∷ z) f) in
    (return_bare w i es (ap (λ s. stmt (stmt_kind.Return None) s) (sym (ap cover es ∙ cover_one w))) refl, holds_one r o)

-- what a rule's parts make
abbrev pub Made : {V : Type 0} → (V → Tall Stmt) → (V → List Spelled → Type 0) → Stmt → ℕ → List Spelled → Type 0
Made {V} from spells x n ts = (v : V) × (from v ≡ (x, n)) × spells v ts

pub return_bare_back : (r : Levels) {x : Stmt} {n : ℕ} {ts : List Spelled} (w : Spelled)
    → is sort (return_word ∷ []) w ≡ true → ts ≡ w ∷ [] → x ≡ stmt (stmt_kind.Return None) (cover ts) → n ≡ 1 → Made return_from (by_rule trees Return_of r) x n ts
return_bare_back r {x} {n} {ts} w i e h m =
    ((w, inr tt), pair_is (ap (λ s. stmt (stmt_kind.Return None) s) (sym (ap cover e ∙ cover_one w)) ∙ sym h) (sym m), (w ∷ [], [], e, (refl, i), refl))

pub return_value_back : (r : Levels) {level m n : ℕ} {x : Stmt} {e : Expr} {ts us : List Spelled} (w : Spelled)
    → is sort (return_word ∷ []) w ≡ true → IsExpr level m e us → ts ≡ w ∷ us → x ≡ stmt (stmt_kind.Return (Some e)) (cover ts) → n ≡ suc m → holds r n ≡ true
    → Made return_from (by_rule trees Return_of r) x n ts
return_value_back r {level} {m} {n} {x} {e} {ts} {us} w i d es h en room =
    let below : holds (deeper r) m ≡ true = holds_below r m (subst (λ z. holds r z ≡ true) en room) in (
      (w, inl (e, m)),
      pair_is (ap (λ s. stmt (stmt_kind.Return (Some e)) s) (sym (cover_on w es (ends_all us) d)) ∙ sym h) (sym en),
      (w ∷ [], us, es, (refl, i), (fits_under r d below, (level, zero-le, d, below))),
    )

-- what is assigned to an expression

pub assigned_to : (r : Levels) → open_to r ≡ true → {left : ℕ} (f : Tall Expr) (us : List Spelled) → IsExpr left f.1 f.0 us → holds (deeper r) f.1 ≡ true
    → (v : FieldParts) (vs ts : List Spelled) → by_rule trees Assigned r v vs → ts ≡ us ++ vs → skips ts ≡ false
    → Stated r (stmt (stmt_kind.Assign f.0 v.1.0) (join (span_of f.0) (span_of v.1.0)), suc (max f.1 v.1.1)) ts
assigned_to r o f us d room (s, x) vs ts (a, b, e, (ea, i), (l, _, g, h)) es skip =
    let ev : vs ≡ s ∷ b = e ∙ ap (λ z. z ++ b) ea in (
      assign s d i g skip (es ∙ ap (λ z. us ++ z) ev)
          (ap (λ z. stmt (stmt_kind.Assign f.0 x.0) z) (ap (λ z. join (span_of f.0) z) (expr_spanned g) ∙ sym (cover_from es d (ends_same ev (ends_on s (ends_all b))) (expr_solid g)))) refl,
      holds_node r (max f.1 x.1) o (holds_both (deeper r) f.1 x.1 room h),
    )

-- what begins with an infix expression; there is room for one assignment at most
pub started_to : (r : Levels) → fits r ≡ true → (v : StartedParts) (ts : List Spelled) → by_rule wholes Started r v ts → skips ts ≡ false → Stated r (started_from v) ts
started_to r f ((x, inr none), []) ts (a, b, e, (c, d, e2, (lv, le, ex, h), en), eb) skip =
    let es : ts ≡ c = e ∙ (ap (λ z. a ++ z) eb ∙ (append-nil a ∙ (e2 ∙ (ap (λ z. c ++ z) en ∙ append-nil c)))) in (
      call_infix (subst (λ z. IsExpr lv x.1 x.0 z) (sym es) ex) le skip (ap (λ s. stmt (stmt_kind.Call x.0) s) (expr_spanned ex ∙ sym (ap cover es))) refl,
      holds_node r x.1 (open_fits r f) h,
    )
started_to r f ((x, inl v), []) ts (a, b, e, (c, d, e2, (lv, le, ex, h), mt), eb) skip =
    let es : ts ≡ c ++ d = e ∙ (ap (λ z. a ++ z) eb ∙ (append-nil a ∙ e2)) in
    let (cs, hc) = matched_to r v d mt in (
      match_stmt ex le cs skip es (ap (λ s. stmt (stmt_kind.Match x.0 (firsts (cases_in v))) s) (sym (until_last r v es ex mt))) refl,
      holds_node r (max x.1 (deepest (cases_in v))) (open_fits r f) (holds_both (deeper r) x.1 (deepest (cases_in v)) h hc),
    )
started_to r f ((x, inr none), q ∷ []) ts (a, b, e, (c, d, e2, (lv, le, ex, h), en), (_, a', b', e', qs, eb)) skip =
    assigned_to r (open_fits r f) x c ex h q a' ts qs
    (e ∙ (ap (λ z. z ++ b) (e2 ∙ (ap (λ z. c ++ z) en ∙ append-nil c)) ∙ ap (λ z. c ++ z) (e' ∙ (ap (λ z. a' ++ z) eb ∙ append-nil a')))) skip
started_to r f ((x, inl v), q ∷ []) ts (a, b, e, (c, d, e2, (lv, le, ex, h), mt), (room, a', b', e', qs, eb)) skip =
    let (cs, hc) = matched_to r v d mt in
    assigned_to r (open_fits r f) (match_to x v) a (match_of (match_all ex le cs e2 (ap (λ s. expr (expr_kind.Match x.0 (firsts (cases_in v))) s) (sym (until_last r v e2 ex mt))) refl) refl)
    (of_and _ room) q a' ts qs (e ∙ ap (λ z. a ++ z) (e' ∙ (ap (λ z. a' ++ z) eb ∙ append-nil a'))) skip
started_to r f ((x, inr none), q ∷ (p ∷ ps)) ts (a, b, e, l, (_, a', b', e', qs, (bad, _, _, _, _, _))) skip = absurd (true≢false (sym bad))
started_to r f ((x, inl v), q ∷ (p ∷ ps)) ts (a, b, e, l, (_, a', b', e', qs, (bad, _, _, _, _, _))) skip = absurd (true≢false (sym bad))

-- the parts of a call
pub call_back : (r : Levels) {level m n : ℕ} {x : Stmt} {e : Expr} {ts : List Spelled}
    → IsExpr level m e ts → 1 ≤ level → x ≡ stmt (stmt_kind.Call e) (cover ts) → n ≡ suc m → holds r n ≡ true → Made started_from (by_rule wholes Started r) x n ts
call_back r {level} {m} {n} {x} {e} {ts} d le h en room =
    let below : holds (deeper r) m ≡ true = holds_below r m (subst (λ z. holds r z ≡ true) en room) in (
      (((e, m), inr tt), []),
      pair_is (ap (λ s. stmt (stmt_kind.Call e) s) (expr_spanned d) ∙ sym h) (sym en),
      (ts, [], sym (append-nil ts), (ts, [], sym (append-nil ts), (level, le, d, below), refl), refl),
    )

-- of a match
pub match_back : (r : Levels) {level m l n : ℕ} {x : Stmt} {e : Expr} {cases : List Case} {ts us vs : List Spelled}
    → IsExpr level m e us → 1 ≤ level → IsCases l cases vs → ts ≡ us ++ vs → x ≡ stmt (stmt_kind.Match e cases) (cover ts) → n ≡ suc (max m l) → holds r n ≡ true
    → Made started_from (by_rule wholes Started r) x n ts
match_back r {level} {m} {l} {n} {x} {e} {cases} {ts} {us} {vs} d le c es h en room =
    let below : holds (deeper r) (max m l) ≡ true = holds_below r (max m l) (subst (λ z. holds r z ≡ true) en room) in
    let (v, ef, el, w) = matched_back r c (holds_right (deeper r) m l below) in (
      (((e, m), inl v), []),
      pair_is (ap (λ s. stmt (stmt_kind.Match e (firsts (cases_in v))) s) (sym (until_last r v es d w)) ∙ (ap (λ z. stmt (stmt_kind.Match e z) (cover ts)) ef ∙ sym h)) (ap (λ z. suc (max m z)) el ∙ sym en),
      (ts, [], sym (append-nil ts), (us, vs, es, (level, le, d, holds_left (deeper r) m l below), w), refl),
    )

-- of an assignment: what begins it, what it is assigned
pub assigned_is : {left m l : ℕ} {x : Stmt} {e g : Expr} {n : ℕ} {ts us vs : List Spelled} (s : Spelled)
    → IsExpr left m e us → IsExpr l n g vs → ts ≡ us ++ s ∷ vs → x ≡ stmt (stmt_kind.Assign e g) (cover ts)
    → stmt (stmt_kind.Assign e g) (join (span_of e) (span_of g)) ≡ x
assigned_is {e = e} {g = g} {vs = vs} s d c es h =
    ap (λ z. stmt (stmt_kind.Assign e g) z) (ap (λ z. join (span_of e) z) (expr_spanned c) ∙ sym (cover_from es d (ends_on s (ends_all vs)) (expr_solid c))) ∙ sym h

pub assign_infix_back : (r : Levels) {level right m l n : ℕ} {x : Stmt} {e g : Expr} {ts us vs : List Spelled} (s : Spelled)
    → IsExpr level m e us → 1 ≤ level → is sort (equals ∷ []) s ≡ true → IsExpr right l g vs → ts ≡ us ++ s ∷ vs → x ≡ stmt (stmt_kind.Assign e g) (cover ts) → n ≡ suc (max m l) → holds r n ≡ true
    → Made started_from (by_rule wholes Started r) x n ts
assign_infix_back r {level} {right} {m} {l} {n} {x} {e} {g} {ts} {us} {vs} s d le i c es h en room =
    let below : holds (deeper r) (max m l) ≡ true = holds_below r (max m l) (subst (λ z. holds r z ≡ true) en room) in (
      (((e, m), inr tt), (s, (g, l)) ∷ []),
      pair_is (assigned_is s d c es h) (sym en),
      (
        us,
        s ∷ vs,
        es,
        (us, [], sym (append-nil us), (level, le, d, holds_left (deeper r) m l below), refl),
        (refl, s ∷ vs, [], sym (append-nil (s ∷ vs)), (s ∷ [], vs, refl, (refl, i), (right, zero-le, c, holds_right (deeper r) m l below)), refl),
      ),
    )

-- a match, as it is made of its parts
match_same : (r : Levels) {level m l n : ℕ} {e x : Expr} {ts us vs : List Spelled} {cases : List Case} (v : MatchedParts)
    → IsExpr level m x us → by_rule trees Matched r v vs → firsts (cases_in v) ≡ cases → deepest (cases_in v) ≡ l → ts ≡ us ++ vs
    → e ≡ expr (expr_kind.Match x cases) (cover ts) → n ≡ suc (max m l) → match_to (x, m) v ≡ (e, n)
match_same r {m = m} {x = x} {ts = ts} v d w ef el es h en =
    pair_is (ap (λ s. expr (expr_kind.Match x (firsts (cases_in v))) s) (sym (until_last r v es d w)) ∙ (ap (λ z. expr (expr_kind.Match x z) (cover ts)) ef ∙ sym h)) (ap (λ z. suc (max m z)) el ∙ sym en)

-- an assignment to it
assign_same : (f g : Tall Expr) {e : Expr} {m n : ℕ} {x : Stmt} → f ≡ (e, m) → stmt (stmt_kind.Assign e g.0) (join (span_of e) (span_of g.0)) ≡ x → n ≡ suc (max m g.1)
    → Path (Tall Stmt) (stmt (stmt_kind.Assign f.0 g.0) (join (span_of f.0) (span_of g.0)), suc (max f.1 g.1)) (x, n)
assign_same f g same h en = ap (λ f. (stmt (stmt_kind.Assign f.0 g.0) (join (span_of f.0) (span_of g.0)), suc (max f.1 g.1))) same ∙ pair_is h (sym en)

pub assign_match_back : (r : Levels) {right m l n : ℕ} {x : Stmt} {e g : Expr} {ts us vs : List Spelled} (s : Spelled)
    → IsMatch m e us → is sort (equals ∷ []) s ≡ true → IsExpr right l g vs → ts ≡ us ++ s ∷ vs → x ≡ stmt (stmt_kind.Assign e g) (cover ts) → n ≡ suc (max m l) → holds r n ≡ true
    → Made started_from (by_rule wholes Started r) x n ts
assign_match_back r {right} {m} {l} {n} {x} {e} {g} {ts} {us} {vs} s (match_all {level = level} {m = o} {l = p} {x = y} {us = ws} {vs = zs} {cases = cases} d le cs eu eh em) i c es h en room =
    let below : holds (deeper r) (max m l) ≡ true = holds_below r (max m l) (subst (λ z. holds r z ≡ true) en room) in
    let whole : holds (deeper r) m ≡ true = holds_left (deeper r) m l below in
    let under : holds (deeper (deeper r)) (max o p) ≡ true = holds_below (deeper r) (max o p) (subst (λ z. holds (deeper r) z ≡ true) em whole) in
    let (v, ef, el, w) = matched_back r cs (holds_over (deeper r) p (holds_right (deeper (deeper r)) o p under)) in
    let same : match_to (y, o) v ≡ (e, m) = match_same r v d w ef el eu eh em in (
      (((y, o), inl v), (s, (g, l)) ∷ []),
      assign_same (match_to (y, o) v) (g, l) same (assigned_is s (match_of (match_all d le cs eu eh em) refl) c es h) en,
      (
        us,
        s ∷ vs,
        es,
        (ws, zs, eu, (level, le, d, holds_over (deeper r) o (holds_left (deeper (deeper r)) o p under)), w),
        (subst (λ z. holds (deeper r) z.1 ≡ true) (sym same) whole, s ∷ vs, [], sym (append-nil (s ∷ vs)), (s ∷ [], vs, refl, (refl, i), (right, zero-le, c, holds_right (deeper r) m l below)), refl),
      ),
    )
