-- The rule of a statement spells just the statements that are well shaped.
use Rattle.std.proofs.Common.{◌≡◌, ℕ, eqb, suc, ◌≤◌, List, [], ◌∷◌, ◌++◌, refl, sym, ap, ◌∙◌, subst, Bool, true, false, true≢false, inl, inr, ◌⊎◌, append-nil, append_assoc, ◌==◌, max, if◌then◌else◌, zero-le, arith}
use Rattle.std.proofs.lemmas.Bool.{eqb-true}
use Rattle.std.specs.Prelude.{Option, map}
use Rattle.sl_grammar.specs.Grammar.{has, is, Val, spells_form, Either, Nothing}
use Rattle.sl_tree.specs.Sorts.{else_word, Spelled, sort, lexeme, contract_name, left_parenthesis, prefixed_l, if_word, var_word, to_name, val_word, equals, while_word, for_word, left_arrow, until_name, right_parenthesis}
use Rattle.sl_tree.specs.WellShaped.{IsMatch, Is, names, skips, cover, join, last_of, stmt, expr, IsExpr, IsIf, IsStmt, IsBlock, IsAscribed, if_all, let_of, assign, call_infix, call_if, match_stmt, if_stmt, while_stmt, for_stmt, return_bare, return_value, skip_text, skip_group, if_of, match_of, infix_of, literal, name, this, paren, select, given, apply, update, negative, prefix}
use Rattle.sl_tree.specs.declared.tree.TypeTerm.{TypeTerm}
use Rattle.sl_tree.specs.declared.tree.Expr.{out-Expr, Expr}
use Rattle.sl_tree.specs.declared.tree.Stmt.{Stmt}
use Rattle.sl_tree.specs.declared.tree.StmtKind.TheVariants as stmt_kind
use Rattle.sl_tree.specs.declared.tree.ExprKind.TheVariants as expr_kind
use Rattle.sl_tree.proofs.Trees.{expr_span_is, if_spanned}
use Rattle.sl_parse_expr.specs.Names.{Return_of, Levels, Block, holds, open_to, deeper, fits, Statement, Declaration, If_any, While_loop, For_loop, Opening, Started, rule_at, field_form, opening_form, skip_form}
use Rattle.sl_parse_expr.specs.Values.{return_from, StartedParts, Tall, T_of, span_of, DeclarationParts, WhileParts, ForParts, FieldParts, IfHeadParts, IfTailParts, OpeningParts, ascribed, ascribed_levels, declaration_from, while_from, for_from, if_from, tail_from, if_any_from, skip_from, opening_from, started_from, statement_from}
use Rattle.sl_parse_expr.specs.Grammar.{room, by_rule, trees, parts, wholes, starts, spells, spells_at, one_of, skipped}
use Rattle.sl_parse_expr.proofs.Rooms.{holds_node, holds_below, holds_one, holds_both, holds_left, holds_right, open_fits}
use Rattle.sl_parse_expr.proofs.SeenAt.{SeenAt}
use Rattle.sl_parse_expr.proofs.Ends.{Ends, ends_all, ends_on, ends_more, cover_on, cover_until}
use Rattle.sl_parse_expr.proofs.SeenTypes.{ascribed_to, ascribed_back}
use Rattle.sl_parse_expr.proofs.SeenCases.{pair_is, one_before, then_is}
use Rattle.sl_parse_expr.proofs.SeenBlocks.{HeadIs, head_to, head_back, if_head_to, if_head_back, block_to, block_back, block_end, if_fits, seen_if_only}
use Rattle.sl_parse_expr.proofs.SeenOpenings.{holds_over, assigned_is, true_or, Stated, Made, skips_not, not_skipped, fits_under, return_to, return_bare_back, return_value_back, assigned_to, started_to, call_back, match_back, assign_infix_back, assign_match_back}

-- what holds of a list of one kind
is_of : (a b : ℕ) → has (a ∷ []) b ≡ true → b ≡ a
is_of a b e = sym (eqb-true a b (sym (true_or (eqb a b)) ∙ e))

-- `val` and `var`

declaration_to : (r : Levels) → fits r ≡ true → (v : DeclarationParts) (ts : List Spelled) → by_rule trees Declaration r v ts → Stated r (declaration_from v) ts
declaration_to r f (w, (k, (o, (s, x)))) ts (a, b, e, (ea, iw), (a2, b2, e2, (ek, ik), (us, b3, e3, asc, (a4, vs, e4, (es, i), (l, _, d, h))))) =
    let (t, ht) = ascribed_to (deeper r) o us asc in
    let et : ts ≡ w ∷ k ∷ (us ++ s ∷ vs) = one_before e ea ∙ ap (λ z. w ∷ z) (one_before e2 ek ∙ ap (λ z. k ∷ z) (then_is us e3 (one_before e4 es))) in (
      let_of w k s iw ik t i d et
          (ap (λ z. stmt (stmt_kind.Let (sort w == var_word) k.text (ascribed o) x.0) z) (sym (cover_on w et (ends_on k (ends_more us (ends_on s (ends_all vs)))) d))) refl,
      holds_node r (max (ascribed_levels o) x.1) (open_fits r f) (holds_both (deeper r) (ascribed_levels o) x.1 ht h),
    )

-- `while`

block_ends : (r : Levels) (b c : Spelled) (body : Tall (List Stmt)) (ts : List Spelled) → by_rule trees Block r (b, (body, c)) ts → Ends ts (c ∷ [])
block_ends r b c body ts w = let (us, e) = block_end r (b, (body, c)) ts w in record { front = us; is = e }

while_to : (r : Levels) → fits r ≡ true → (v : WhileParts) (ts : List Spelled) → by_rule parts While_loop r v ts → Stated r (while_from v) ts
while_to r f (w, ((p, (x, q)), (b, (body, c)))) ts (a, t1, e, (ea, iw), (hs, bs, e2, head, block)) =
    let h : HeadIs (deeper r) p q x hs = head_to (deeper r) p q x hs head in
    let (bd, hb) = block_to (deeper r) (b, (body, c)) bs block in
    let et : ts ≡ w ∷ p ∷ (h.tokens ++ q ∷ bs) = one_before e ea ∙ ap (λ z. w ∷ z) (e2 ∙ (ap (λ z. z ++ bs) h.are ∙ ap (λ z. p ∷ z) (append_assoc h.tokens (q ∷ []) bs))) in (
      while_stmt w p q iw h.opens h.expression h.closes bd et
          (ap (λ z. stmt (stmt_kind.While x.0 body.0) z) (sym (cover_until w c et (ends_on p (ends_more h.tokens (ends_on q (block_ends (deeper r) b c body bs block))))))) refl,
      holds_node r (max x.1 body.1) (open_fits r f) (holds_both (deeper r) x.1 body.1 h.fitting hb),
    )

-- `for`

for_to : (r : Levels) → fits r ≡ true → (v : ForParts) (ts : List Spelled) → by_rule parts For_loop r v ts → Stated r (for_from v) ts
for_to r f (w, (p, (k, (a, (x, (u, (y, (q, (b, (body, c)))))))))) ts
    (_, t1, e1, (f1, iw), (_, t2, e2, (f2, ip), (_, t3, e3, (f3, ik), (_, t4, e4, (f4, ia), (us, t5, e5, (l1, _, d1, h1), (_, t6, e6, (f6, iu), (vs, t7, e7, (l2, _, d2, h2), (_, bs, e8, (f8, iq), block)))))))) =
    let (bd, hb) = block_to (deeper r) (b, (body, c)) bs block in
    let et : ts ≡ w ∷ p ∷ k ∷ a ∷ (us ++ u ∷ (vs ++ q ∷ bs)) =
    one_before e1 f1 ∙ ap (λ z. w ∷ z) (one_before e2 f2 ∙ ap (λ z. p ∷ z) (one_before e3 f3 ∙ ap (λ z. k ∷ z) (one_before e4 f4
    ∙ ap (λ z. a ∷ z) (then_is us e5 (one_before e6 f6 ∙ ap (λ z. u ∷ z) (then_is vs e7 (one_before e8 f8))))))) in (
      for_stmt w p k a u q iw ip ik ia d1 iu d2 iq bd et
          (ap (λ z. stmt (stmt_kind.For k.text x.0 (sort u == to_name) y.0 body.0) z)
          (sym (cover_until w c et (ends_on p (ends_on k (ends_on a (ends_more us (ends_on u (ends_more vs (ends_on q (block_ends (deeper r) b c body bs block)))))))))))
          refl,
      holds_node r (max x.1 (max y.1 body.1)) (open_fits r f) (holds_both (deeper r) x.1 (max y.1 body.1) h1 (holds_both (deeper r) y.1 body.1 h2 hb)),
    )

-- what is skipped

skip_is : (k : Spelled) (ks ts : List Spelled) → ts ≡ k ∷ ks → stmt (stmt_kind.Skip (map lexeme (k ∷ ks))) (join k.span (last_of k ks).span) ≡ stmt (stmt_kind.Skip (map lexeme ts)) (cover ts)
unfolding cover
skip_is k ks ts e = ap (λ z. stmt (stmt_kind.Skip (map lexeme z)) (cover z)) (sym e)

text_to : (r : Levels) → open_to r ≡ true → (k : Spelled) (ts : List Spelled) → ts ≡ k ∷ [] → is sort (prefixed_l ∷ []) k ≡ true → Stated r (skip_from k []) ts
text_to r o k ts e i = (skip_text k i e (skip_is k [] ts e) refl, holds_one r o)

group_to : (r : Levels) → open_to r ≡ true → (k : Spelled) (ks ts : List Spelled) → spells_form sort T_of room starts (skip_form r) (k, ks) ts → Stated r (skip_from k ks) ts
group_to r o k ks ts (a, us, e, (f, i), (eq, h, hs, g, c, d)) =
    let et : ts ≡ k ∷ ks = one_before e f ∙ ap (λ z. k ∷ z) (sym eq) in
    (skip_group k i (refl, h, hs, eq ∙ g, c, d) et (skip_is k ks ts et) refl, holds_one r o)

opening_to : (r : Levels) → open_to r ≡ true → (v : OpeningParts) (ts : List Spelled) → spells_at Opening r v ts → Stated r (opening_from v) ts
opening_to r o v ts w = by (fits r) refl v w
  where
    by : (b : Bool) → fits r ≡ b → (v : OpeningParts)
        → one_of b (spells_form sort T_of room starts (opening_form r) v ts) (skipped v (λ v. spells_form sort T_of room starts (skip_form r) v ts)) → Stated r (opening_from v) ts
    by true f (inl (k, ks)) w = group_to r o k ks ts w
    by true f (inr v) (p, (q, w)) = started_to r f v ts w (skips_not ts q p)
    by false f (inl (k, ks)) w = group_to r o k ks ts w
    by false f (inr v) w = absurd w

opening_skip : (r : Levels) (k : Spelled) (ks ts : List Spelled) → spells_form sort T_of room starts (skip_form r) (k, ks) ts → spells_at Opening r (inl (k, ks)) ts
opening_skip r k ks ts w = by (fits r)
  where
    by : (b : Bool) → one_of b (spells_form sort T_of room starts (opening_form r) (inl (k, ks)) ts) (spells_form sort T_of room starts (skip_form r) (k, ks) ts)
    by true = w
    by false = w

opening_start : (r : Levels) → fits r ≡ true → (v : StartedParts) (ts : List Spelled) → by_rule wholes Started r v ts → skips ts ≡ false → spells_at Opening r (inr v) ts
opening_start r f v ts w s =
    let (p, q) = not_skipped ts s in
    subst (λ b. one_of b (spells_form sort T_of room starts (opening_form r) (inr v) ts) ⊥) (sym f) (q, (p, w))

-- an `if` expression, and what it is assigned

-- what begins with `if` isn't skipped
if_not_skipped : (i j : Spelled) (ts : List Spelled) → is sort (if_word ∷ []) i ≡ true → skips (i ∷ j ∷ ts) ≡ false
if_not_skipped i j ts e = ap (λ z. if z == prefixed_l then true else if z == contract_name then sort j == left_parenthesis else false) (is_of if_word (sort i) e)

if_is : (i p q s : Spelled) (x y z : Tall Expr) {lx ly lz : ℕ} {us vs ws ts : List Spelled} → Is (if_word ∷ []) i → Is (left_parenthesis ∷ []) p → IsExpr lx x.1 x.0 us → Is (right_parenthesis ∷ []) q
    → IsExpr ly y.1 y.0 vs → Is (else_word ∷ []) s → IsExpr lz z.1 z.0 ws → ts ≡ i ∷ p ∷ (us ++ q ∷ (vs ++ s ∷ ws)) → IsIf (if_from i x y z).1 (if_from i x y z).0 ts
if_is i p q s x y z {us = us} {vs = vs} {ws = ws} hi hp hx hq hy hs hz e =
    if_all i p q s hi hp hx hq hy hs hz e (ap (λ u. expr (expr_kind.If x.0 y.0 z.0) u) (sym (cover_on i e (ends_on p (ends_more us (ends_on q (ends_more vs (ends_on s (ends_all ws)))))) hz))) refl

one_true : (b : Bool) (A B : Type 0) → b ≡ true → one_of b A B → A
one_true true A B e w = w
one_true false A B e w = absurd (true≢false (sym e))

true_one : (b : Bool) (A B : Type 0) → b ≡ true → A → one_of b A B
true_one true A B e w = w
true_one false A B e w = absurd (true≢false (sym e))

of_both : (a b : Bool) → (if a then b else false) ≡ true → (a ≡ true) × (b ≡ true)
of_both true b e = (refl, e)
of_both false b e = absurd (true≢false (sym e))

-- the tokens of an `if` expression, and those behind it
if_tokens : (i p q s : Spelled) (us vs ws ks : List Spelled) → (i ∷ p ∷ (us ++ q ∷ [])) ++ (vs ++ s ∷ (ws ++ ks)) ≡ (i ∷ p ∷ (us ++ q ∷ (vs ++ s ∷ ws))) ++ ks
if_tokens i p q s us vs ws ks =
    ap (λ z. i ∷ p ∷ z) (append_assoc us (q ∷ []) (vs ++ s ∷ (ws ++ ks)) ∙ (ap (λ z. us ++ q ∷ z) (sym (append_assoc vs (s ∷ ws) ks)) ∙ sym (append_assoc us (q ∷ (vs ++ s ∷ ws)) ks)))

tail_by : (r : Levels) → fits r ≡ true → (i p q s : Spelled) (x y z : Tall Expr) (o : FieldParts ⊎ Unit {0}) (us vs ts : List Spelled)
    → IsIf (if_from i x y z).1 (if_from i x y z).0 (i ∷ p ∷ us) → holds (deeper r) (if_from i x y z).1 ≡ true → Is (if_word ∷ []) i → ts ≡ (i ∷ p ∷ us) ++ vs
    → spells_form sort T_of room trees (Either (field_form (deeper r)) Nothing) o vs → Stated r (tail_from (i, (p, (x, q))) (y, (s, (z, o)))) ts
tail_by r f i p q s x y z (inl (a, e)) us vs ts d h hi et w =
    let (t, u) = assigned_to r (open_fits r f) (if_from i x y z) (i ∷ p ∷ us) (if_of d refl) h (a, e) vs ts w et (ap skips et ∙ if_not_skipped i p (us ++ vs) hi) in
    (subst (λ k. IsStmt (suc (max (if_from i x y z).1 e.1)) (stmt (stmt_kind.Assign (if_from i x y z).0 e.0) k) ts) (ap (λ k. join k (span_of e.0)) (expr_span_is _ _)) t, u)
tail_by r f i p q s x y z (inr none) us vs ts d h hi et w =
    let es : ts ≡ i ∷ p ∷ us = et ∙ (ap (λ k. (i ∷ p ∷ us) ++ k) w ∙ append-nil (i ∷ p ∷ us)) in (
      call_if (subst (λ k. IsIf (if_from i x y z).1 (if_from i x y z).0 k) (sym es) d) (ap (λ k. stmt (stmt_kind.Call (if_from i x y z).0) k) (if_spanned d ∙ sym (ap cover es))) refl,
      holds_node r (if_from i x y z).1 (open_fits r f) h,
    )

tail_to : (r : Levels) → fits r ≡ true → (head : IfHeadParts) (tail : IfTailParts) (ts : List Spelled) → by_rule wholes If_any r (head, inl tail) ts → Stated r (tail_from head tail) ts
tail_to r f (i, (p, (x, q))) (y, (s, (z, o))) ts (hs, bs, e, head, (is_open, tail)) =
    let (fit, below) = of_both (fits (deeper r)) (holds (deeper (deeper r)) x.1) is_open in
    let (ys, t2, e2, (ly, _, dy, hy), (_, t3, e3, (f3, hi), (zs, t4, e4, (lz, _, dz, hz), rest))) = one_true (fits (deeper r)) _ _ fit tail in
    let (ii, hs', eh, h) = if_head_to r i p q x hs head in
    let et : ts ≡ (i ∷ p ∷ (h.tokens ++ q ∷ (ys ++ s ∷ zs))) ++ t4 =
    e ∙ (ap (λ w. w ++ bs) (eh ∙ ap (λ w. i ∷ w) h.are) ∙ (ap (λ w. (i ∷ p ∷ (h.tokens ++ q ∷ [])) ++ w) (then_is ys e2 (one_before e3 f3 ∙ ap (λ w. s ∷ w) e4)) ∙ if_tokens i p q s h.tokens ys zs t4)) in
    let d : IsIf (if_from i x y z).1 (if_from i x y z).0 (i ∷ p ∷ (h.tokens ++ q ∷ (ys ++ s ∷ zs))) = if_is i p q s x y z ii h.opens h.expression h.closes dy hi dz refl in
    let fitting : holds (deeper r) (if_from i x y z).1 ≡ true =
    holds_node (deeper r) (max x.1 (max y.1 z.1)) f (holds_both (deeper (deeper r)) x.1 (max y.1 z.1) below (holds_both (deeper (deeper r)) y.1 z.1 hy hz)) in
    tail_by r f i p q s x y z o (h.tokens ++ q ∷ (ys ++ s ∷ zs)) t4 ts d fitting ii et rest

-- the other way

both_of : (a b : Bool) → a ≡ true → b ≡ true → (if a then b else false) ≡ true
both_of true b e f = f
both_of false b e f = e

let_back : (r : Levels) {level n m l : ℕ} {x : Stmt} {ts us vs : List Spelled} {o : Option TypeTerm} {e : Expr} (w k s : Spelled)
    → Is (val_word ∷ var_word ∷ []) w → Is names k → IsAscribed m o us → Is (equals ∷ []) s → IsExpr level l e vs
    → ts ≡ w ∷ k ∷ (us ++ s ∷ vs) → x ≡ stmt (stmt_kind.Let (sort w == var_word) k.text o e) (cover ts) → n ≡ suc (max m l) → holds (deeper r) (max m l) ≡ true
    → Made declaration_from (by_rule trees Declaration r) x n ts
let_back r {level} {n} {m} {l} {x} {ts} {us} {vs} {o} {e} w k s iw ik asc i d et ex en below =
    let (v, el, eo, form) = ascribed_back (deeper r) asc (holds_left (deeper r) m l below) in (
      (w, (k, (v, (s, (e, l))))),
      pair_is (ap (λ z. stmt (stmt_kind.Let (sort w == var_word) k.text (ascribed v) e) z) (sym (cover_on w et (ends_on k (ends_more us (ends_on s (ends_all vs)))) d))
          ∙ (ap (λ z. stmt (stmt_kind.Let (sort w == var_word) k.text z e) (cover ts)) eo ∙ sym ex)) (ap (λ z. suc (max z l)) el ∙ sym en),
      (
        w ∷ [],
        k ∷ (us ++ s ∷ vs),
        et,
        (refl, iw),
        (
          k ∷ [],
          us ++ s ∷ vs,
          refl,
          (refl, ik),
          (
            us,
            s ∷ vs,
            refl,
            form,
            (s ∷ [], vs, refl, (refl, i), (level, zero-le, d, holds_right (deeper r) m l below)),
          ),
        ),
      ),
    )

while_back : (r : Levels) {level n m l : ℕ} {x : Stmt} {ts us vs : List Spelled} {e : Expr} {body : List Stmt} (w p q : Spelled)
    → Is (while_word ∷ []) w → Is (left_parenthesis ∷ []) p → IsExpr level m e us → Is (right_parenthesis ∷ []) q → IsBlock l body vs
    → ts ≡ w ∷ p ∷ (us ++ q ∷ vs) → x ≡ stmt (stmt_kind.While e body) (cover ts) → n ≡ suc (max m l) → holds (deeper r) (max m l) ≡ true
    → Made while_from (by_rule parts While_loop r) x n ts
while_back r {level} {n} {m} {l} {x} {ts} {us} {vs} {e} {body} w p q iw ip d iq b et ex en below =
    let (b1, c, block) = block_back (deeper r) b (holds_right (deeper r) m l below) in (
      (w, ((p, ((e, m), q)), (b1, ((body, l), c)))),
      pair_is (ap (λ z. stmt (stmt_kind.While e body) z) (sym (cover_until w c et (ends_on p (ends_more us (ends_on q (block_ends (deeper r) b1 c (body, l) vs block)))))) ∙ sym ex) (sym en),
      (
        w ∷ [],
        p ∷ (us ++ q ∷ vs),
        et,
        (refl, iw),
        (
          p ∷ (us ++ q ∷ []),
          vs,
          ap (λ z. p ∷ z) (sym (append_assoc us (q ∷ []) vs)),
          head_back (deeper r) p q ip d iq (holds_left (deeper r) m l below),
          block,
        ),
      ),
    )

for_back : (r : Levels) {first last n m l o : ℕ} {x : Stmt} {ts us vs ws : List Spelled} {e f : Expr} {body : List Stmt} (w p k a u q : Spelled)
    → Is (for_word ∷ []) w → Is (left_parenthesis ∷ []) p → Is names k → Is (left_arrow ∷ []) a → IsExpr first m e us
    → Is (until_name ∷ to_name ∷ []) u → IsExpr last l f vs → Is (right_parenthesis ∷ []) q → IsBlock o body ws
    → ts ≡ w ∷ p ∷ k ∷ a ∷ (us ++ u ∷ (vs ++ q ∷ ws)) → x ≡ stmt (stmt_kind.For k.text e (sort u == to_name) f body) (cover ts)
    → n ≡ suc (max m (max l o)) → holds (deeper r) (max m (max l o)) ≡ true → Made for_from (by_rule parts For_loop r) x n ts
for_back r {first} {last} {n} {m} {l} {o} {x} {ts} {us} {vs} {ws} {e} {f} {body} w p k a u q iw ip ik ia d1 iu d2 iq b et ex en below =
    let both : holds (deeper r) (max l o) ≡ true = holds_right (deeper r) m (max l o) below in
    let (b1, c, block) = block_back (deeper r) b (holds_right (deeper r) l o both) in (
      (w, (p, (k, (a, ((e, m), (u, ((f, l), (q, (b1, ((body, o), c)))))))))),
      pair_is (ap (λ z. stmt (stmt_kind.For k.text e (sort u == to_name) f body) z)
          (sym (cover_until w c et (ends_on p (ends_on k (ends_on a (ends_more us (ends_on u (ends_more vs (ends_on q (block_ends (deeper r) b1 c (body, o) ws block)))))))))) ∙ sym ex) (sym en),
      (
        w ∷ [],
        p ∷ k ∷ a ∷ (us ++ u ∷ (vs ++ q ∷ ws)),
        et,
        (refl, iw),
        (
          p ∷ [],
          k ∷ a ∷ (us ++ u ∷ (vs ++ q ∷ ws)),
          refl,
          (refl, ip),
          (
            k ∷ [],
            a ∷ (us ++ u ∷ (vs ++ q ∷ ws)),
            refl,
            (refl, ik),
            (
              a ∷ [],
              us ++ u ∷ (vs ++ q ∷ ws),
              refl,
              (refl, ia),
              (
                us,
                u ∷ (vs ++ q ∷ ws),
                refl,
                (first, zero-le, d1, holds_left (deeper r) m (max l o) below),
                (
                  u ∷ [],
                  vs ++ q ∷ ws,
                  refl,
                  (refl, iu),
                  (vs, q ∷ ws, refl, (last, zero-le, d2, holds_left (deeper r) l o both), (q ∷ [], ws, refl, (refl, iq), block)),
                ),
              ),
            ),
          ),
        ),
      ),
    )

-- an `if` expression that begins a statement
record IfRead (r : Levels) (e : Expr) (m : ℕ) (o : FieldParts ⊎ Unit {0}) (ts : List Spelled) : Type 0 where
  i : Spelled
  p : Spelled
  q : Spelled
  s : Spelled
  x : Tall Expr
  y : Tall Expr
  z : Tall Expr
  is_it : if_from i x y z ≡ (e, m)
  start : (out-Expr e).span ≡ join i.span (span_of z.0)
  spelled : by_rule wholes If_any r ((i, (p, (x, q))), inl (y, (s, (z, o)))) ts

if_back : (r : Levels) {m : ℕ} {e : Expr} {us : List Spelled} → IsIf m e us → holds (deeper r) m ≡ true → (o : FieldParts ⊎ Unit {0}) (ks ts : List Spelled) → ts ≡ us ++ ks
    → spells_form sort T_of room trees (Either (field_form (deeper r)) Nothing) o ks → IfRead r e m o ts
if_back r {us = whole} (if_all {yes = left} {no = right} {m = m} {l = l} {o = o} {x = x} {y = y} {z = z} {us = us} {vs = vs} {ws = ws} i p q s h1 h2 h3 h4 h5 h6 h7 h8 h9 h10) fitting out ks ts et w =
    let below : holds (deeper (deeper r)) (max m (max l o)) ≡ true = holds_below (deeper r) (max m (max l o)) (subst (λ z. holds (deeper r) z ≡ true) h10 fitting) in
    let first : holds (deeper (deeper r)) m ≡ true = holds_left (deeper (deeper r)) m (max l o) below in
    let both : holds (deeper (deeper r)) (max l o) ≡ true = holds_right (deeper (deeper r)) m (max l o) below in
    let fit : fits (deeper r) ≡ true = fits_under (deeper r) h3 first in
    let spans : cover whole ≡ join i.span (span_of z) = cover_on i h8 (ends_on p (ends_more us (ends_on q (ends_more vs (ends_on s (ends_all ws)))))) h7 in
    record {
      i = i;
      p = p;
      q = q;
      s = s;
      x = (x, m);
      y = (y, l);
      z = (z, o);
      is_it = pair_is (ap (λ u. expr (expr_kind.If x y z) u) (sym spans) ∙ sym h9) (sym h10);
      start = ap (λ u. (out-Expr u).span) h9 ∙ (expr_span_is _ _ ∙ spans);
      spelled = (
        i ∷ p ∷ (us ++ q ∷ []),
        vs ++ s ∷ (ws ++ ks),
        et ∙ (ap (λ u. u ++ ks) h8 ∙ sym (if_tokens i p q s us vs ws ks)),
        if_head_back r i p q h1 h2 h3 h4 (holds_over (deeper r) m first),
        (
          both_of (fits (deeper r)) (holds (deeper (deeper r)) m) fit first,
          true_one (fits (deeper r)) _ _ fit (
            vs,
            s ∷ (ws ++ ks),
            refl,
            (left, zero-le, h5, holds_left (deeper (deeper r)) l o both),
            (
              s ∷ [],
              ws ++ ks,
              refl,
              (refl, h6),
              (ws, ks, refl, (right, zero-le, h7, holds_right (deeper (deeper r)) l o both), w),
            ),
          ),
        ),
      );
    }

call_if_back : (r : Levels) {n m : ℕ} {x : Stmt} {e : Expr} {ts : List Spelled} → IsIf m e ts → x ≡ stmt (stmt_kind.Call e) (cover ts) → n ≡ suc m → holds (deeper r) m ≡ true
    → Made if_any_from (by_rule wholes If_any r) x n ts
call_if_back r {n} {m} {x} {e} {ts} d ex en below =
    let i : IfRead r e m (inr tt) ts = if_back r d below (inr tt) [] ts (sym (append-nil ts)) refl in (
      ((i.i, (i.p, (i.x, i.q))), inl (i.y, (i.s, (i.z, inr tt)))),
      ap (λ f. (stmt (stmt_kind.Call f.0) (span_of f.0), suc f.1)) i.is_it ∙ pair_is (ap (λ u. stmt (stmt_kind.Call e) u) (if_spanned d) ∙ sym ex) (sym en),
      i.spelled,
    )

assign_if_back : (r : Levels) {right n m l : ℕ} {x : Stmt} {e f : Expr} {ts us vs : List Spelled} (s : Spelled) → IsIf m e us → Is (equals ∷ []) s → IsExpr right l f vs
    → ts ≡ us ++ s ∷ vs → x ≡ stmt (stmt_kind.Assign e f) (cover ts) → n ≡ suc (max m l) → holds (deeper r) (max m l) ≡ true → Made if_any_from (by_rule wholes If_any r) x n ts
assign_if_back r {right} {n} {m} {l} {x} {e} {f} {ts} {us} {vs} s d is_s g et ex en below =
    let i : IfRead r e m (inl (s, (f, l))) ts =
    if_back r d (holds_left (deeper r) m l below) (inl (s, (f, l))) (s ∷ vs) ts et (s ∷ [], vs, refl, (refl, is_s), (right, zero-le, g, holds_right (deeper r) m l below)) in (
      ((i.i, (i.p, (i.x, i.q))), inl (i.y, (i.s, (i.z, inl (s, (f, l)))))),
      ap (λ h. (stmt (stmt_kind.Assign h.0 f) (join i.i.span (span_of f)), suc (max h.1 l))) i.is_it
          ∙ pair_is (ap (λ u. stmt (stmt_kind.Assign e f) (join u (span_of f))) (sym i.start) ∙ assigned_is s (if_of d refl) g et ex) (sym en),
      i.spelled,
    )

at_least : {level : ℕ} (n : ℕ) → level ≡ suc n → 1 ≤ level
at_least {level} n e = omega arith

-- an expression is an infix expression, an operand or less, or else an `if` or a match
form_of : {level n : ℕ} {e : Expr} {ts : List Spelled} → IsExpr level n e ts → (1 ≤ level) ⊎ (IsIf n e ts ⊎ IsMatch n e ts)
form_of (literal k h1 h2 h3 h4 h5) = inl (at_least 9 h4)
form_of (name k h1 h2 h3 h4 h5) = inl (at_least 9 h4)
form_of (this k h1 h2 h3 h4 h5) = inl (at_least 9 h4)
form_of (paren k j h1 h2 h3 h4 h5 h6 h7) = inl (at_least 9 h6)
form_of (select d k h1 h2 h3 h4 h5 h6 h7 h8) = inl (at_least 8 h7)
form_of (given k j h1 h2 h3 h4 h5 h6 h7 h8 h9) = inl (at_least 8 h8)
form_of (apply k j h1 h2 h3 h4 h5 h6 h7 h8 h9) = inl (at_least 8 h8)
form_of (update k j h1 h2 h3 h4 h5 h6 h7 h8 h9) = inl (at_least 8 h8)
form_of (negative k j h1 h2 h3 h4 h5 h6) = inl (at_least 7 h5)
form_of (prefix k h1 h2 h3 h4 h5 h6 h7 h8) = inl (at_least 7 h7)
form_of (infix_of k h1 h2 h3 h4 h5 h6 h7 h8 h9 h10) = inl h4
form_of (if_of h1 h2) = inr (inl h1)
form_of (match_of h1 h2) = inr (inr h1)

-- a statement

pub seen_statement : (r : Levels) → open_to r ≡ true → SeenAt Statement r
seen_statement r o = record { to = to; back = back }
  where
    to : (v : Val sort T_of (rule_at Statement r)) (ts : List Spelled) → spells_form sort T_of room spells (rule_at Statement r) v ts → Stated r (statement_from v) ts
    to (inl v) ts (f, w) = declaration_to r f v ts w
    to (inr (inl (head, inl tail))) ts (f, w) = tail_to r f head tail ts w
    to (inr (inl (head, inr blocks))) ts (f, w) = let (d, h) = (seen_if_only r f).to (head, blocks) ts w in (if_stmt d, h)
    to (inr (inr (inl v))) ts (f, w) = while_to r f v ts w
    to (inr (inr (inr (inl v)))) ts (f, w) = for_to r f v ts w
    to (inr (inr (inr (inr (inl v))))) ts w = return_to r o v ts w
    to (inr (inr (inr (inr (inr (inl k)))))) ts (e, i) = text_to r o k ts e i
    to (inr (inr (inr (inr (inr (inr v)))))) ts w = opening_to r o v ts w

    Back : Stmt → ℕ → List Spelled → Type 0
    Back x n ts = Made statement_from (spells_form sort T_of room spells (rule_at Statement r)) x n ts

    -- by what begins it
    declared : fits r ≡ true → {x : Stmt} {n : ℕ} {ts : List Spelled} → Made declaration_from (by_rule trees Declaration r) x n ts → Back x n ts
    declared f (v, e, w) = (inl v, e, (f, w))

    with_if : fits r ≡ true → {x : Stmt} {n : ℕ} {ts : List Spelled} → Made if_any_from (by_rule wholes If_any r) x n ts → Back x n ts
    with_if f (v, e, w) = (inr (inl v), e, (f, w))

    while_of : fits r ≡ true → {x : Stmt} {n : ℕ} {ts : List Spelled} → Made while_from (by_rule parts While_loop r) x n ts → Back x n ts
    while_of f (v, e, w) = (inr (inr (inl v)), e, (f, w))

    for_of : fits r ≡ true → {x : Stmt} {n : ℕ} {ts : List Spelled} → Made for_from (by_rule parts For_loop r) x n ts → Back x n ts
    for_of f (v, e, w) = (inr (inr (inr (inl v))), e, (f, w))

    return_of : {x : Stmt} {n : ℕ} {ts : List Spelled} → Made return_from (by_rule trees Return_of r) x n ts → Back x n ts
    return_of (v, e, w) = (inr (inr (inr (inr (inl v)))), e, w)

    opened : fits r ≡ true → {x : Stmt} {n : ℕ} {ts : List Spelled} → skips ts ≡ false → Made started_from (by_rule wholes Started r) x n ts → Back x n ts
    opened f {x} {n} {ts} s (v, e, w) = (inr (inr (inr (inr (inr (inr (inr v)))))), e, opening_start r f v ts w s)

    below : {n : ℕ} (m : ℕ) → n ≡ suc m → holds r n ≡ true → holds (deeper r) m ≡ true
    below m e h = holds_below r m (subst (λ z. holds r z ≡ true) e h)

    assigned : fits r ≡ true → {left right n m l : ℕ} {x : Stmt} {ts us vs : List Spelled} {e f : Expr} (s : Spelled)
        → IsExpr left m e us → Is (equals ∷ []) s → IsExpr right l f vs → skips ts ≡ false → ts ≡ us ++ s ∷ vs → x ≡ stmt (stmt_kind.Assign e f) (cover ts) → n ≡ suc (max m l)
        → holds r n ≡ true → holds (deeper r) (max m l) ≡ true → (1 ≤ left) ⊎ (IsIf m e us ⊎ IsMatch m e us) → Back x n ts
    assigned f s h1 h2 h3 h4 h5 h6 h7 h u (inl le) = opened f h4 (assign_infix_back r s h1 le h2 h3 h5 h6 h7 h)
    assigned f s h1 h2 h3 h4 h5 h6 h7 h u (inr (inl d)) = with_if f (assign_if_back r s d h2 h3 h5 h6 h7 u)
    assigned f s h1 h2 h3 h4 h5 h6 h7 h u (inr (inr d)) = opened f h4 (assign_match_back r s d h2 h3 h5 h6 h7 h)

    back : (y : Tall Stmt) (ts : List Spelled) → Stated r y ts → Back y.0 y.1 ts
    back (x, n) ts (let_of {m = m} {l = l} w k s h1 h2 h3 h4 h5 h6 h7 h8, h) =
        let u : holds (deeper r) (max m l) ≡ true = below (max m l) h8 h in
        declared (fits_under r h5 (holds_right (deeper r) m l u)) (let_back r w k s h1 h2 h3 h4 h5 h6 h7 h8 u)
    back (x, n) ts (assign {m = m} {l = l} s h1 h2 h3 h4 h5 h6 h7, h) =
        let u : holds (deeper r) (max m l) ≡ true = below (max m l) h7 h in
        assigned (fits_under r h1 (holds_left (deeper r) m l u)) s h1 h2 h3 h4 h5 h6 h7 h u (form_of h1)
    back (x, n) ts (call_infix {m = m} h1 h2 h3 h4 h5, h) = opened (fits_under r h1 (below m h5 h)) h3 (call_back r h1 h2 h4 h5 h)
    back (x, n) ts (call_if {m = m} h1 h2 h3, h) = with_if (fits_under r (if_of h1 refl) (below m h3 h)) (call_if_back r h1 h2 h3 (below m h3 h))
    back (x, n) ts (match_stmt {m = m} {l = l} h1 h2 h3 h4 h5 h6 h7, h) =
        opened (fits_under r h1 (holds_left (deeper r) m l (below (max m l) h7 h))) h4 (match_back r h1 h2 h3 h5 h6 h7 h)
    back (x, n) ts (if_stmt h1, h) =
        let f : fits r ≡ true = if_fits r h1 h in
        let (v, e, w) = (seen_if_only r f).back (x, n) ts (h1, h) in
        with_if f ((v.0, inr v.1), e, w)
    back (x, n) ts (while_stmt {m = m} {l = l} w p q h1 h2 h3 h4 h5 h6 h7 h8, h) =
        let u : holds (deeper r) (max m l) ≡ true = below (max m l) h8 h in
        while_of (fits_under r h3 (holds_left (deeper r) m l u)) (while_back r w p q h1 h2 h3 h4 h5 h6 h7 h8 u)
    back (x, n) ts (for_stmt {m = m} {l = l} {o = o'} w p k a u q h1 h2 h3 h4 h5 h6 h7 h8 h9 h10 h11 h12, h) =
        let b : holds (deeper r) (max m (max l o')) ≡ true = below (max m (max l o')) h12 h in
        for_of (fits_under r h5 (holds_left (deeper r) m (max l o') b)) (for_back r w p k a u q h1 h2 h3 h4 h5 h6 h7 h8 h9 h10 h11 h12 b)
    back (x, n) ts (return_bare w h1 h2 h3 h4, h) = return_of (return_bare_back r w h1 h2 h3 h4)
    back (x, n) ts (return_value w h1 h2 h3 h4 h5, h) = return_of (return_value_back r w h1 h2 h3 h4 h5 h)
    back (x, n) ts (skip_text k h1 h2 h3 h4, h) =
        (inr (inr (inr (inr (inr (inl k))))), pair_is (skip_is k [] ts h2 ∙ sym h3) (sym h4), (h2, h1))
    back (x, n) ts (skip_group {us = us} k h1 h2 h3 h4 h5, h) =
        (inr (inr (inr (inr (inr (inr (inl (k, us))))))), pair_is (skip_is k us ts h3 ∙ sym h4) (sym h5), opening_skip r k us ts (k ∷ [], us, h3, (refl, h1), h2))
