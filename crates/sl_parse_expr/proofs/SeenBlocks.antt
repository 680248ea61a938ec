-- The rules of statements one after another, of blocks and of an `if` with blocks spell just what is well shaped.
use Rattle.std.proofs.Common.{◌≡◌, ℕ, suc, List, [], ◌∷◌, ◌++◌, refl, sym, ap, ◌∙◌, subst, true, inl, inr, arith}
use Rattle.std.proofs.lemmas.List.{append-nil, append_assoc}
use Rattle.std.specs.Prelude.{max}
use Rattle.sl_text.specs.declared.place.Span.{Span}
use Rattle.sl_grammar.specs.Grammar.{is, Val, spells_form}
use Rattle.sl_grammar.specs.Phrase.{spells_token, spells_both}
use Rattle.sl_grammar.specs.Many.{spells_many}
use Rattle.sl_tree.specs.declared.tree.Expr.{Expr}
use Rattle.sl_tree.specs.declared.tree.Stmt.{Stmt}
use Rattle.sl_tree.specs.declared.tree.StmtKind.TheVariants as stmt_kind
use Rattle.sl_tree.specs.declared.tree.Else.{Else}
use Rattle.sl_tree.specs.Sorts.{Spelled, sort, separator, left_parenthesis, right_parenthesis, if_word}
use Rattle.sl_tree.specs.WellShaped.{Is, join, cover, stmt, IsExpr, IsBlock, IsElse, IsIfStmt, IsSomeStmts, IsStmt, block_all, else_not, else_block, else_if, if_stmt_all, stmts_none, stmts_some, stmts_end, stmts_more}
use Rattle.sl_tree.proofs.Spans.{Solid, solid_one, cover_both, join_end}
use Rattle.sl_tree.proofs.Trees.{Deep, expr_deep, stmt_deep, if_stmt_solid, if_stmt_spanned}
use Rattle.sl_parse_expr.specs.Names.{Levels, Block, Statements, If_head, If_only, Else_tail, holds, open_to, deeper, fits, rule_at, head_form}
use Rattle.sl_parse_expr.specs.Values.{Tall, T_of, BlockParts, ElseParts, IfHeadParts, deepest, firsts, seconds, else_from, else_levels, else_span, blocks_from}
use Rattle.sl_parse_expr.specs.Grammar.{room, spells, trees, spells_parts, spells_wholes, tree_at, spells_at}
use Rattle.sl_parse_expr.proofs.Rooms.{open_fits, holds_below, holds_both, holds_left, holds_right, holds_none, holds_node, open_of}
use Rattle.sl_parse_expr.proofs.SeenAt.{SeenAt}
use Rattle.sl_parse_expr.proofs.SeenCases.{one_before, then_is, pair_is}

-- the last part tells the end of a span
pub span_right : (s : Span) (es us : List Spelled) → Solid us → join s (cover (es ++ us)) ≡ join s (cover us)
span_right s [] us a = refl
span_right s (k ∷ ks) us a = ap (join s) (cover_both (k ∷ ks) us (solid_one k ks) a)

-- an `if` has its head one level below it
pub if_fits : (r : Levels) {n : ℕ} {x : Stmt} {ts : List Spelled} → IsIfStmt n x ts → holds r n ≡ true → fits r ≡ true
if_fits r (if_stmt_all {m = m} {l = l} {o = o} i p q h1 h2 h3 h4 h5 h6 h7 h8 h9) w =
    let d : Deep m = expr_deep h3 in
    let u : holds (deeper r) (max m (max l o)) ≡ true = holds_below r (max m (max l o)) (ap (holds r) (sym h9) ∙ w) in
    open_of (deeper r) d.below (ap (holds (deeper r)) (sym d.is) ∙ holds_left (deeper r) m (max l o) u)

-- `{ STATEMENTS }`

pub block_to : (r : Levels) (v : BlockParts) (ts : List Spelled) → spells_parts Block r v ts → IsBlock v.1.0.1 v.1.0.0 ts × (holds r v.1.0.1 ≡ true)
block_to r (p, (body, q)) ts (a1, b1, e1, (f1, h1), (us, b2, e2, h2, (f3, h3))) = (block_all p q h1 h2.0 h3 (one_before e1 f1 ∙ ap (λ w. p ∷ w) (then_is us e2 f3)), h2.1)

pub block_back : (r : Levels) {n : ℕ} {body : List Stmt} {ts : List Spelled} → IsBlock n body ts → holds r n ≡ true
    → (p : Spelled) × (q : Spelled) × spells_parts Block r (p, ((body, n), q)) ts
block_back r (block_all {us = us} p q h1 h2 h3 e) o = (p, q, (p ∷ [], us ++ q ∷ [], e, (refl, h1), (us, q ∷ [], refl, (h2, o), (refl, h3))))

-- its last token is the brace
pub block_end : (r : Levels) (v : BlockParts) (ts : List Spelled) → spells_parts Block r v ts → (us : List Spelled) × (ts ≡ us ++ v.1.1 ∷ [])
block_end r (p, (body, q)) ts (a1, b1, e1, (f1, h1), (us, b2, e2, h2, (f3, h3))) = (p ∷ us, one_before e1 f1 ∙ ap (λ w. p ∷ w) (then_is us e2 f3))

-- the span of what ends with a block
pub block_span : (r : Levels) (v : BlockParts) (s : Span) (es ts : List Spelled) → spells_parts Block r v ts → join s (cover (es ++ ts)) ≡ join s v.1.1.span
block_span r v s es ts w =
    let i : (us : List Spelled) × (ts ≡ us ++ v.1.1 ∷ []) = block_end r v ts w in
    ap (λ z. join s (cover (es ++ z))) i.1 ∙ (ap (λ z. join s (cover z)) (sym (append_assoc es i.0 (v.1.1 ∷ []))) ∙ join_end s (es ++ i.0) v.1.1)

-- `(EXPR)`

pub record HeadIs (r : Levels) (p q : Spelled) (x : Tall Expr) (ts : List Spelled) : Type 0 where
  pub tokens : List Spelled
  pub level : ℕ
  pub are : ts ≡ p ∷ (tokens ++ q ∷ [])
  pub opens : Is (left_parenthesis ∷ []) p
  pub expression : IsExpr level x.1 x.0 tokens
  pub fitting : holds r x.1 ≡ true
  pub closes : Is (right_parenthesis ∷ []) q

pub head_to : (r : Levels) (p q : Spelled) (x : Tall Expr) (ts : List Spelled) → spells_form sort T_of room trees (head_form r) (p, (x, q)) ts → HeadIs r p q x ts
head_to r p q x ts (a1, b1, e1, (f1, h1), (us, b2, e2, (l, u, h2, o), (f3, h3))) =
    record { tokens = us; level = l; are = one_before e1 f1 ∙ ap (λ w. p ∷ w) (then_is us e2 f3); opens = h1; expression = h2; fitting = o; closes = h3 }

pub head_back : (r : Levels) {level n : ℕ} {e : Expr} {us : List Spelled} (p q : Spelled)
    → Is (left_parenthesis ∷ []) p → IsExpr level n e us → Is (right_parenthesis ∷ []) q → holds r n ≡ true
    → spells_form sort T_of room trees (head_form r) (p, ((e, n), q)) (p ∷ (us ++ q ∷ []))
head_back r {level} {n} {e} {us} p q h1 h2 h3 o = (p ∷ [], us ++ q ∷ [], refl, (refl, h1), (us, q ∷ [], refl, (level, omega arith, h2, o), (refl, h3)))

-- `if (EXPR)`

pub if_head_to : (r : Levels) (i p q : Spelled) (x : Tall Expr) (ts : List Spelled) → spells_parts If_head r (i, (p, (x, q))) ts
    → Is (if_word ∷ []) i × (us : List Spelled) × (ts ≡ i ∷ us) × HeadIs (deeper r) p q x us
if_head_to r i p q x ts (a1, b1, e1, (f1, h1), h) = (h1, b1, one_before e1 f1, head_to (deeper r) p q x b1 h)

pub if_head_back : (r : Levels) {level n : ℕ} {e : Expr} {us : List Spelled} (i p q : Spelled)
    → Is (if_word ∷ []) i → Is (left_parenthesis ∷ []) p → IsExpr level n e us → Is (right_parenthesis ∷ []) q → holds (deeper r) n ≡ true
    → spells_parts If_head r (i, (p, ((e, n), q))) (i ∷ p ∷ (us ++ q ∷ []))
if_head_back r {level} {n} {e} {us} i p q h h1 h2 h3 o = (i ∷ [], p ∷ (us ++ q ∷ []), refl, (refl, h), head_back (deeper r) p q h1 h2 h3 o)

-- an `else`

pub else_to : (r : Levels) (v : ElseParts) (ts : List Spelled) → spells_wholes Else_tail r v ts → IsElse (else_levels v) (else_from v) ts × (holds (deeper r) (else_levels v) ≡ true)
else_to r (inl (w, inl s)) ts (a, b, e, (f, h), (c, (g, o))) = (else_if w h g (one_before e f) refl, o)
else_to r (inl (w, inr (p, (body, q)))) ts (a, b, e, (f, h), g) =
    let i : IsBlock body.1 body.0 b × (holds (deeper r) body.1 ≡ true) = block_to (deeper r) (p, (body, q)) b g in
    (else_block w h i.0 (one_before e f) refl, i.1)
else_to r (inr none) ts e = (else_not e refl refl, holds_none (deeper r))

pub else_back : (r : Levels) {n : ℕ} {other : Else} {ts : List Spelled} → IsElse n other ts → holds (deeper r) n ≡ true
    → (v : ElseParts) × (else_from v ≡ other) × (else_levels v ≡ n) × spells_wholes Else_tail r v ts
else_back r (else_not e f g) o = (inr tt, sym f, sym g, e)
else_back r {n} (else_block {us = us} {body = body} w h g e f) o =
    let i : (p : Spelled) × (q : Spelled) × spells_parts Block (deeper r) (p, ((body, n), q)) us = block_back (deeper r) g o in
    (inl (w, inr (i.0, ((body, n), i.1))), sym f, refl, (w ∷ [], us, e, (refl, h), i.2))
else_back r {n} (else_if {us = us} {x = x} w h g e f) o = (inl (w, inl (x, n)), sym f, refl, (w ∷ [], us, e, (refl, h), (if_fits (deeper r) g o, (g, o))))

-- the span of what ends with a block and an `else`
pub else_span_is : (r : Levels) (b : BlockParts) (v : ElseParts) (s : Span) (es bs us : List Spelled) → spells_parts Block (deeper r) b bs → spells_wholes Else_tail r v us
    → join s (cover (es ++ (bs ++ us))) ≡ join s (else_span b.1.1 v)
else_span_is r b (inl (w, inl x)) s es bs us g (a, c, e, (f, h), (o, (i, j))) =
    ap (λ z. join s (cover z)) (sym (append_assoc es bs us) ∙ (ap (λ z. (es ++ bs) ++ z) (one_before e f) ∙ sym (append_assoc (es ++ bs) (w ∷ []) c)))
    ∙ (span_right s ((es ++ bs) ++ w ∷ []) c (if_stmt_solid i) ∙ ap (join s) (sym (if_stmt_spanned i)))
else_span_is r b (inl (w, inr x)) s es bs us g (a, c, e, (f, h), i) =
    ap (λ z. join s (cover z)) (sym (append_assoc es bs us) ∙ (ap (λ z. (es ++ bs) ++ z) (one_before e f) ∙ sym (append_assoc (es ++ bs) (w ∷ []) c)))
    ∙ block_span (deeper r) x s ((es ++ bs) ++ w ∷ []) c i
else_span_is r b (inr none) s es bs us g e = ap (λ z. join s (cover (es ++ z))) (ap (λ z. bs ++ z) e ∙ append-nil bs) ∙ block_span (deeper r) b s es bs g

-- statements one after another

-- a statement within its room
abbrev StmtAt : Levels → Tall Stmt → List Spelled → Type 0
StmtAt r v ts = IsStmt v.1 v.0 ts × (holds r v.1 ≡ true)

-- a statement behind its separator
abbrev NextAt : Levels → Spelled × Tall Stmt → List Spelled → Type 0
NextAt r = spells_both (spells_token (is sort (separator ∷ []))) (StmtAt r)

some_stmts : (r : Levels) (x : Tall Stmt) (xs : List (Spelled × Tall Stmt)) (us vs ts : List Spelled) → ts ≡ us ++ vs → StmtAt r x us → spells_many (NextAt r) xs vs
    → IsSomeStmts (deepest (x ∷ seconds xs)) (firsts (x ∷ seconds xs)) ts × (holds r (deepest (x ∷ seconds xs)) ≡ true)
some_stmts r x [] us vs ts e h w = (stmts_end (subst (λ t. IsStmt x.1 x.0 t) (sym (then_is us e w ∙ append-nil us)) h.0) refl, h.1)
some_stmts r x ((c, y) ∷ ys) us vs ts e h (a, b, f, (a1, b1, f1, (f2, g), h1), w) =
    let rest : IsSomeStmts (deepest (y ∷ seconds ys)) (firsts (y ∷ seconds ys)) (b1 ++ b) × (holds r (deepest (y ∷ seconds ys)) ≡ true) = some_stmts r y ys b1 b (b1 ++ b) refl h1 w in
    let inner : vs ≡ c ∷ (b1 ++ b) = f ∙ ap (λ z. z ++ b) (one_before f1 f2) in
    (stmts_more c h.0 g rest.0 (then_is us e inner) refl refl, holds_both r x.1 (deepest (y ∷ seconds ys)) h.1 rest.1)

record StmtsFound (r : Levels) (n : ℕ) (stmts : List Stmt) (ts : List Spelled) : Type 0 where
  first : Tall Stmt
  more : List (Spelled × Tall Stmt)
  left : List Spelled
  right : List Spelled
  are : ts ≡ left ++ right
  one : StmtAt r first left
  others : spells_many (NextAt r) more right
  trees : firsts (first ∷ seconds more) ≡ stmts
  levels : deepest (first ∷ seconds more) ≡ n

stmts_found : (r : Levels) {n : ℕ} {stmts : List Stmt} {ts : List Spelled} → IsSomeStmts n stmts ts → holds r n ≡ true → StmtsFound r n stmts ts
stmts_found r {n} {stmts} {ts} (stmts_end {x = x} h e) o =
    record { first = (x, n); more = []; left = ts; right = []; are = sym (append-nil ts); one = (h, o); others = refl; trees = sym e; levels = refl }
stmts_found r {n} {stmts} {ts} (stmts_more {m = m} {l = l} {rest = rest} {us = us} {vs = vs} {x = x} c h s w e f g) o =
    let p : holds r (max m l) ≡ true = ap (holds r) (sym g) ∙ o in
    let i : StmtsFound r l rest vs = stmts_found r w (holds_right r m l p) in
    record {
      first = (x, m);
      more = (c, i.first) ∷ i.more;
      left = us;
      right = c ∷ vs;
      are = e;
      one = (h, holds_left r m l p);
      others = (c ∷ i.left, i.right, ap (λ z. c ∷ z) i.are, (c ∷ [], i.left, refl, (refl, s), i.one), i.others);
      trees = ap (λ z. x ∷ z) i.trees ∙ sym f;
      levels = ap (λ z. max m z) i.levels ∙ sym g;
    }

pub seen_statements : (r : Levels) → SeenAt Statements r
seen_statements r = record { to = to; back = back }
  where
    to : (v : Val sort T_of (rule_at Statements r)) (ts : List Spelled) → spells_form sort T_of room spells (rule_at Statements r) v ts → spells_at Statements r (tree_at Statements r v) ts
    to (inl (x, xs)) ts (c, (us, vs, e, h, w)) =
        let i : IsSomeStmts (deepest (x ∷ seconds xs)) (firsts (x ∷ seconds xs)) ts × (holds r (deepest (x ∷ seconds xs)) ≡ true) = some_stmts r x xs us vs ts e h w in
        (stmts_some i.0, i.1)
    to (inr none) ts e = (stmts_none e refl refl, holds_none r)

    back : (v : Tall (List Stmt)) (ts : List Spelled) → spells_at Statements r v ts
        → (z : Val sort T_of (rule_at Statements r)) × (tree_at Statements r z ≡ v) × spells_form sort T_of room spells (rule_at Statements r) z ts
    back (xs, n) ts (stmts_none e f g, o) = (inr tt, pair_is (sym f) (sym g), e)
    back (xs, n) ts (stmts_some h, o) =
        let i : StmtsFound r n xs ts = stmts_found r h o in
        let d : Deep i.first.1 = stmt_deep i.one.0 in
        (inl (i.first, i.more), pair_is i.trees i.levels, (open_of r d.below (ap (holds r) (sym d.is) ∙ i.one.1), (i.left, i.right, i.are, i.one, i.others)))

-- an `if` with blocks

-- its span
if_span : (r : Levels) (i p q : Spelled) (us bs es ts : List Spelled) (b : BlockParts) (v : ElseParts) → ts ≡ i ∷ p ∷ (us ++ q ∷ (bs ++ es))
    → spells_parts Block (deeper r) b bs → spells_wholes Else_tail r v es → cover ts ≡ join i.span (else_span b.1.1 v)
unfolding cover
if_span r i p q us bs es ts b v e g h =
    ap cover (e ∙ ap (λ z. i ∷ p ∷ z) (sym (append_assoc us (q ∷ []) (bs ++ es)))) ∙ else_span_is r b v i.span (i ∷ p ∷ (us ++ q ∷ [])) bs es g h

pub if_blocks_to : (r : Levels) (head : IfHeadParts) (b : BlockParts) (other : ElseParts) (us bs es ts : List Spelled) → open_to r ≡ true → ts ≡ us ++ (bs ++ es)
    → spells_parts If_head r head us → spells_parts Block (deeper r) b bs → spells_wholes Else_tail r other es
    → IsIfStmt (blocks_from head (b, other)).1 (blocks_from head (b, other)).0 ts × (holds r (blocks_from head (b, other)).1 ≡ true)
if_blocks_to r (i, (p, (x, q))) (b1, (body, b2)) other us bs es ts room_is e h g k =
    let a : Is (if_word ∷ []) i × (vs : List Spelled) × (us ≡ i ∷ vs) × HeadIs (deeper r) p q x vs = if_head_to r i p q x us h in
    let hd = a.3 in
    let c : IsBlock body.1 body.0 bs × (holds (deeper r) body.1 ≡ true) = block_to (deeper r) (b1, (body, b2)) bs g in
    let d : IsElse (else_levels other) (else_from other) es × (holds (deeper r) (else_levels other) ≡ true) = else_to r other es k in
    let are : ts ≡ i ∷ p ∷ (hd.tokens ++ q ∷ (bs ++ es)) =
    e ∙ (ap (λ z. z ++ (bs ++ es)) (a.2 ∙ ap (λ z. i ∷ z) hd.are) ∙ ap (λ z. i ∷ p ∷ z) (append_assoc hd.tokens (q ∷ []) (bs ++ es)))
    in
    let deep : holds (deeper r) (max body.1 (else_levels other)) ≡ true = holds_both (deeper r) body.1 (else_levels other) c.1 d.1 in (
      if_stmt_all i p q a.0 hd.opens hd.expression hd.closes c.0 d.0 are (ap (λ z. stmt (stmt_kind.If x.0 body.0 (else_from other)) z) (sym (if_span r i p q hd.tokens bs es ts (b1, (body, b2)) other are g k))) refl,
      holds_node r (max x.1 (max body.1 (else_levels other))) room_is (holds_both (deeper r) x.1 (max body.1 (else_levels other)) hd.fitting deep),
    )

pub record IfFound (r : Levels) (x : Tall Stmt) (ts : List Spelled) : Type 0 where
  pub head : IfHeadParts
  pub block : BlockParts
  pub other : ElseParts
  pub left : List Spelled
  pub middle : List Spelled
  pub right : List Spelled
  pub are : ts ≡ left ++ (middle ++ right)
  pub of_head : spells_parts If_head r head left
  pub of_block : spells_parts Block (deeper r) block middle
  pub of_other : spells_wholes Else_tail r other right
  pub tree : blocks_from head (block, other) ≡ x

pub if_blocks_back : (r : Levels) {n : ℕ} {x : Stmt} {ts : List Spelled} → IsIfStmt n x ts → holds r n ≡ true → IfFound r (x, n) ts
if_blocks_back r {n} {x} {ts} (if_stmt_all {m = m} {l = l} {o = o} {us = us} {vs = vs} {ws = ws} {e = e} {body = body} {other = other} i p q h1 h2 h3 h4 h5 h6 h7 h8 h9) w =
    let deep : holds (deeper r) (max m (max l o)) ≡ true = holds_below r (max m (max l o)) (ap (holds r) (sym h9) ∙ w) in
    let both : holds (deeper r) (max l o) ≡ true = holds_right (deeper r) m (max l o) deep in
    let b : (b1 : Spelled) × (b2 : Spelled) × spells_parts Block (deeper r) (b1, ((body, l), b2)) vs = block_back (deeper r) h5 (holds_left (deeper r) l o both) in
    let d : (v : ElseParts) × (else_from v ≡ other) × (else_levels v ≡ o) × spells_wholes Else_tail r v ws = else_back r h6 (holds_right (deeper r) l o both) in
    let spans : cover ts ≡ join i.span (else_span b.1 d.0) = if_span r i p q us vs ws ts (b.0, ((body, l), b.1)) d.0 h7 b.2 d.3 in
    record {
      head = (i, (p, ((e, m), q)));
      block = (b.0, ((body, l), b.1));
      other = d.0;
      left = i ∷ p ∷ (us ++ q ∷ []);
      middle = vs;
      right = ws;
      are = h7 ∙ ap (λ z. i ∷ p ∷ z) (sym (append_assoc us (q ∷ []) (vs ++ ws)));
      of_head = if_head_back r i p q h1 h2 h3 h4 (holds_left (deeper r) m (max l o) deep);
      of_block = b.2;
      of_other = d.3;
      tree = pair_is
          (ap (λ z. stmt (stmt_kind.If e body z) (join i.span (else_span b.1 d.0))) d.1 ∙ (ap (λ z. stmt (stmt_kind.If e body other) z) (sym spans) ∙ sym h8))
          (ap (λ z. suc (max m (max l z))) d.2 ∙ sym h9);
    }

pub seen_if_only : (r : Levels) → fits r ≡ true → SeenAt If_only r
seen_if_only r room_is = record { to = to; back = back }
  where
    to : (v : Val sort T_of (rule_at If_only r)) (ts : List Spelled) → spells_form sort T_of room spells (rule_at If_only r) v ts → spells_at If_only r (tree_at If_only r v) ts
    to (head, (b, other)) ts (us, vs, e, h, (bs, es, f, g, k)) = if_blocks_to r head b other us bs es ts (open_fits r room_is) (then_is us e f) h g k

    back : (v : Tall Stmt) (ts : List Spelled) → spells_at If_only r v ts
        → (z : Val sort T_of (rule_at If_only r)) × (tree_at If_only r z ≡ v) × spells_form sort T_of room spells (rule_at If_only r) z ts
    back (x, n) ts (h, w) =
        let i : IfFound r (x, n) ts = if_blocks_back r h w in
        ((i.head, (i.block, i.other)), i.tree, (i.left, i.middle ++ i.right, i.are, i.of_head, (i.middle, i.right, refl, i.of_block, i.of_other)))
