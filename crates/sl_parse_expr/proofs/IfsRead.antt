-- What begins with `if` as a statement, as the code reads it.
use Rattle.std.proofs.Common.{◌≡◌, ℕ, zero, suc, List, [], ◌∷◌, max, refl, ap, ◌∙◌, sym, subst, inl, inr, ◌⊎◌, Bool, true, false, if◌then◌else◌}
use Rattle.std.specs.Prelude.{Some, None}
use Rattle.sl_text.specs.declared.place.Span.{Span}
use Rattle.sl_grammar.specs.Phrase.{Found, Done, Stopped, read_both, read_either, read_token}
use Rattle.sl_grammar.specs.Law.{found_as, read_then, read_nothing}
use Rattle.sl_grammar.specs.Guard.{guard}
use Rattle.sl_grammar.specs.Grammar.{Token, is, has, and, read_form}
use Rattle.sl_grammar.proofs.Growing.{found_as_as}
use Rattle.sl_tree.specs.Sorts.{Spelled, sort, if_word, else_word, number}
use Rattle.sl_tree.specs.WellShaped.{join, expr, stmt}
use Rattle.sl_tree.specs.declared.tree.Expr.{Expr}
use Rattle.sl_tree.specs.declared.tree.ExprKind.{ExprKind}
use Rattle.sl_tree.specs.declared.tree.ExprKind.TheVariants as expr_kind
use Rattle.sl_tree.specs.declared.tree.Stmt.{Stmt}
use Rattle.sl_tree.specs.declared.tree.StmtKind.TheVariants as stmt_kind
use Rattle.sl_tree.specs.declared.tree.Else.{Else}
use Rattle.sl_tree.specs.declared.tree.Else.TheVariants as else_kind
use Rattle.sl_parse_expr.specs.Names.{Expression, Block, If_head, If_any, If_tail, If_only, Else_tail, Levels, holds, deeper, fits, head_form, if_tail_form}
use Rattle.sl_parse_expr.specs.Values.{Tall, T_of, HeadParts, FieldParts, BlockParts, IfHeadParts, IfTailParts, IfAnyParts, ElseParts, if_any_from, tail_from, blocks_from, else_from, else_levels, else_span, span_of, stmt_span}
use Rattle.sl_parse_expr.specs.Grammar.{grammar, room, read, expression_kinds, choose, no_tail}
use Rattle.sl_parse_expr.specs.Told.{head_sort, reader, reads, spanned, head_view, head_of, block_view, blocks_form, else_view, assigned_form, assigned_to}
use Rattle.sl_parse_expr.proofs.Laws as laws
use Rattle.sl_parse_expr.proofs.AllSeen.{all_seen}
use Rattle.sl_parse_expr.proofs.Telling.{as_done, as_stopped, both_go, both_first, both_second, both_done, then_go, then_first, either_left, either_right, room_left}
use Rattle.sl_parse_expr.proofs.StatementsRead.{same_as, room_not, no_expression, token}

-- room two levels below is room one level below
pub deeper_fits : (r : Levels) → fits (deeper r) ≡ true → fits r ≡ true
deeper_fits None f = refl
deeper_fits (Some zero) f = f
deeper_fits (Some (suc zero)) f = f
deeper_fits (Some (suc (suc n))) f = refl

-- the span of an expression is what it was made with
pub span_expr : (k : ExprKind) (span : Span) → span_of (expr k span) ≡ span
unfolding expr
span_expr k span = refl

-- the head of an `if`

module _ (r : Levels) (f : fits r ≡ true) (ts : List Spelled) where
  head_rule : read r If_head ts ≡ read_both (token (if_word ∷ [])) (reads (head_form (deeper r))) ts
  unfolding reads
  head_rule = sym (laws.rule_read all_seen If_head r f refl ts) ∙ same_as (read_both (token (if_word ∷ [])) (reads (head_form (deeper r))) ts)

  -- no `if` comes
  pub if_head_halts : (rest : List Spelled) → read_token (is sort (if_word ∷ [])) ts ≡ Stopped rest → read r If_head ts ≡ Stopped rest
  if_head_halts rest a = head_rule ∙ both_first (token (if_word ∷ [])) (reads (head_form (deeper r))) ts rest a

  -- its condition stops
  pub if_head_second : (us rest : List Spelled) (i : Spelled) → read_token (is sort (if_word ∷ [])) ts ≡ Done i us → found_as head_view (reads (head_form (deeper r)) us) ≡ Stopped rest → read r If_head ts ≡ Stopped rest
  if_head_second us rest i a b = head_rule ∙ both_second (token (if_word ∷ [])) (reads (head_form (deeper r))) ts i us rest a (as_stopped head_view (reads (head_form (deeper r)) us) rest b)

  -- it is a whole one
  pub if_head_whole : (us rest : List Spelled) (i : Spelled) (x : Tall Expr) → read_token (is sort (if_word ∷ [])) ts ≡ Done i us → found_as head_view (reads (head_form (deeper r)) us) ≡ Done x rest
      → (v : HeadParts) × (read r If_head ts ≡ Done (i, v) rest) × (head_view v ≡ x)
  if_head_whole us rest i x a b =
      let v = as_done head_view (reads (head_form (deeper r)) us) x rest b in
      (v.0, head_rule ∙ both_done (token (if_word ∷ [])) (reads (head_form (deeper r))) ts i us v.0 rest a v.1, v.2)

-- of a head, only the span of its first token and its condition count

tail_same : (i : Spelled) (v : HeadParts) (x : Tall Expr) → head_view v ≡ x → (t : IfTailParts) → tail_from (i, v) t ≡ tail_from (head_of i.span x) t
tail_same i v x e t = subst (λ x. tail_from (i, v) t ≡ tail_from (head_of i.span x) t) e (by t)
  where
    by : (t : IfTailParts) → tail_from (i, v) t ≡ tail_from (head_of i.span (head_view v)) t
    by (y, (s, (z, inl (a, e)))) = refl
    by (y, (s, (z, inr none))) = refl

blocks_same : (i : Spelled) (v : HeadParts) (x : Tall Expr) → head_view v ≡ x → (t : BlockParts × ElseParts) → blocks_from (i, v) t ≡ blocks_from (head_of i.span x) t
blocks_same i v x e t = subst (λ x. blocks_from (i, v) t ≡ blocks_from (head_of i.span x) t) e refl

-- what is found is seen in the same way
as_same : {K X Y : Type 0} (f g : X → Y) → ((x : X) → f x ≡ g x) → (x : Found K X) → found_as f x ≡ found_as g x
as_same f g e (Done x rest) = ap (λ y. Done y rest) (e x)
as_same f g e (Stopped rest) = refl

-- all that begins with `if`

abbrev tail_kinds : Levels → List ℕ
tail_kinds r = if fits (deeper r) then expression_kinds (deeper (deeper r)) else number ∷ []

-- there is room for an `if` expression, with a condition of so many levels
abbrev tail_room : Levels → ℕ → Bool
tail_room r n = and (fits (deeper r)) (holds (deeper (deeper r)) n)

abbrev tail_or : Levels → IfHeadParts → List Spelled → Found Spelled (IfTailParts ⊎ (BlockParts × ElseParts))
tail_or r y ts = read_either (guard (tail_room r y.1.1.0.1) (is sort (tail_kinds r))) (read r If_tail) (reads (blocks_form r)) ts

no_tail_kind : (r : Levels) (b : Bool) → has (if b then expression_kinds r else number ∷ []) 99 ≡ false
no_tail_kind r true = no_expression r
no_tail_kind r false = refl

kind_open : (ks js : List ℕ) (b : Bool) (s : ℕ) → b ≡ true → has ks s ≡ true → has (if b then ks else js) s ≡ true
kind_open ks js true s b h = h
kind_open ks js false s b h = absurd cc

and_true : (a b : Bool) → a ≡ true → b ≡ true → and a b ≡ true
and_true true b e d = d
and_true false b e d = absurd cc

module _ (r : Levels) (f : fits r ≡ true) (ts : List Spelled) where
  any_rule : read r If_any ts ≡ read_then (read r If_head) (tail_or r) ts
  unfolding reads
  any_rule = sym (laws.rule_read all_seen If_any r f refl ts) ∙ same_as (read_then (read r If_head) (tail_or r) ts)

  -- no `if` comes
  pub if_any_halts : (rest : List Spelled) → read_token (is sort (if_word ∷ [])) ts ≡ Stopped rest → found_as if_any_from (read r If_any ts) ≡ Stopped rest
  if_any_halts rest a = ap (found_as if_any_from) (any_rule ∙ then_first (read r If_head) (tail_or r) ts rest (if_head_halts r f ts rest a))

  module _ (us : List Spelled) (i : Spelled) (a : read_token (is sort (if_word ∷ [])) ts ≡ Done i us) where
    -- its condition stops
    pub if_any_second : (rest : List Spelled) → found_as head_view (reads (head_form (deeper r)) us) ≡ Stopped rest → found_as if_any_from (read r If_any ts) ≡ Stopped rest
    if_any_second rest b = ap (found_as if_any_from) (any_rule ∙ then_first (read r If_head) (tail_or r) ts rest (if_head_second r f ts us rest i a b))

    module _ (vs : List Spelled) (x : Expr) (n : ℕ) (b : found_as head_view (reads (head_form (deeper r)) us) ≡ Done (x, n) vs) where
      goes : (v : HeadParts) → read r If_head ts ≡ Done (i, v) vs → found_as if_any_from (read r If_any ts) ≡ found_as (λ y. if_any_from ((i, v), y)) (tail_or r (i, v) vs)
      goes v e =
          let pair : IfTailParts ⊎ (BlockParts × ElseParts) → IfAnyParts = λ y. ((i, v), y) in
          ap (found_as if_any_from) (any_rule ∙ then_go (read r If_head) (tail_or r) ts (i, v) vs e) ∙ found_as_as if_any_from pair (tail_or r (i, v) vs)

      -- an expression is behind it: it is an `if` expression
      pub if_any_tail : fits (deeper r) ≡ true → holds (deeper (deeper r)) n ≡ true → has (expression_kinds (deeper (deeper r))) (head_sort vs) ≡ true
          → found_as if_any_from (read r If_any ts) ≡ found_as (tail_from (head_of i.span (x, n))) (read r If_tail vs)
      if_any_tail g o h =
          let v = if_head_whole r f ts us vs i (x, n) a b in
          let here : IfTailParts ⊎ (BlockParts × ElseParts) → Tall Stmt = λ y. if_any_from ((i, v.0), y) in
          let open_here : tail_room r v.0.1.0.1 ≡ true = and_true (fits (deeper r)) (holds (deeper (deeper r)) v.0.1.0.1) g (ap (λ (x : Tall Expr). holds (deeper (deeper r)) x.1) v.2 ∙ o) in
          goes v.0 v.1
          ∙ (ap (found_as here) (room_left (tail_kinds r) (read r If_tail) (reads (blocks_form r)) (tail_room r v.0.1.0.1) vs open_here (no_tail_kind (deeper (deeper r)) (fits (deeper r)))
          (kind_open (expression_kinds (deeper (deeper r))) (number ∷ []) (fits (deeper r)) (head_sort vs) g h))
          ∙ (found_as_as here inl (read r If_tail vs) ∙ as_same (tail_from (i, v.0)) (tail_from (head_of i.span (x, n))) (tail_same i v.0 (x, n) v.2) (read r If_tail vs)))

      blocks_come : and (tail_room r n) (has (tail_kinds r) (head_sort vs)) ≡ false → found_as if_any_from (read r If_any ts) ≡ found_as (blocks_from (head_of i.span (x, n))) (reads (blocks_form r) vs)
      blocks_come h =
          let v = if_head_whole r f ts us vs i (x, n) a b in
          let here : IfTailParts ⊎ (BlockParts × ElseParts) → Tall Stmt = λ y. if_any_from ((i, v.0), y) in
          goes v.0 v.1
          ∙ (ap (found_as here) (room_not (tail_kinds r) (read r If_tail) (reads (blocks_form r)) (tail_room r v.0.1.0.1) vs
          (ap (λ (x : Tall Expr). and (tail_room r x.1) (has (tail_kinds r) (head_sort vs))) v.2 ∙ h))
          ∙ (found_as_as here inr (reads (blocks_form r) vs) ∙ as_same (blocks_from (i, v.0)) (blocks_from (head_of i.span (x, n))) (blocks_same i v.0 (x, n) v.2) (reads (blocks_form r) vs)))

      -- none is, or there is no room for one, or not for this condition: it is a statement with blocks
      pub if_any_blocks : and (holds (deeper (deeper r)) n) (and (fits (deeper r)) (has (expression_kinds (deeper (deeper r))) (head_sort vs))) ≡ false
          → found_as if_any_from (read r If_any ts) ≡ found_as (blocks_from (head_of i.span (x, n))) (reads (blocks_form r) vs)
      if_any_blocks h = blocks_come (by (fits (deeper r)) (holds (deeper (deeper r)) n) h)
        where
          by : (b c : Bool) → and c (and b (has (expression_kinds (deeper (deeper r))) (head_sort vs))) ≡ false
              → and (and b c) (has (if b then expression_kinds (deeper (deeper r)) else number ∷ []) (head_sort vs)) ≡ false
          by true true e = e
          by true false e = refl
          by false c e = refl

-- the rest of an `if` expression

abbrev tail_last : Levels → List Spelled → Found Spelled (Tall Expr × (FieldParts ⊎ Unit {0}))
tail_last r ts = read_both (read (deeper (deeper r)) Expression) (reads (assigned_form r)) ts

abbrev tail_else : Levels → List Spelled → Found Spelled (Spelled × (Tall Expr × (FieldParts ⊎ Unit {0})))
tail_else r ts = read_both (token (else_word ∷ [])) (tail_last r) ts

tail_chosen : (r : Levels) (ts : List Spelled) (b : Bool) → b ≡ true
    → found_as (choose (if_tail_form r) (Token (number ∷ [])) b (λ v. v) no_tail) (read_form sort T_of room grammar.sets (if b then if_tail_form r else Token (number ∷ [])) reader reader ts)
    ≡ read_both (read (deeper (deeper r)) Expression) (tail_else r) ts
unfolding reads
tail_chosen r ts true e = same_as (read_both (read (deeper (deeper r)) Expression) (tail_else r) ts)
tail_chosen r ts false e = absurd cc

-- an `if` expression, and what is assigned to it
assigned_same : (first : Span) (c y z : Expr) (n m o : ℕ) (s : Spelled) (w : FieldParts ⊎ Unit {0})
    → tail_from (head_of first (c, n)) ((y, m), (s, ((z, o), w))) ≡ assigned_to (expr (expr_kind.If c y z) (join first (span_of z)), suc (max n (max m o))) w
assigned_same first c y z n m o s (inl (a, e)) =
    ap (λ t. (stmt (stmt_kind.Assign (expr (expr_kind.If c y z) (join first (span_of z))) e.0) (join t (span_of e.0)), suc (max (suc (max n (max m o))) e.1)))
    (sym (span_expr (expr_kind.If c y z) (join first (span_of z))))
assigned_same first c y z n m o s (inr none) = refl

module _ (r : Levels) (f : fits (deeper r) ≡ true) (first : Span) (c : Expr) (n : ℕ) (ts : List Spelled) where
  tail_rule : read r If_tail ts ≡ read_both (read (deeper (deeper r)) Expression) (tail_else r) ts
  tail_rule = sym (laws.rule_read all_seen If_tail r (deeper_fits r f) refl ts) ∙ tail_chosen r ts (fits (deeper r)) f

  -- no whole expression comes
  pub if_tail_halts : (rest : List Spelled) → read (deeper (deeper r)) Expression ts ≡ Stopped rest → found_as (tail_from (head_of first (c, n))) (read r If_tail ts) ≡ Stopped rest
  if_tail_halts rest a = ap (found_as (tail_from (head_of first (c, n)))) (tail_rule ∙ both_first (read (deeper (deeper r)) Expression) (tail_else r) ts rest a)

  module _ (us : List Spelled) (y : Expr) (m : ℕ) (a : read (deeper (deeper r)) Expression ts ≡ Done (y, m) us) where
    -- no `else` is behind it
    pub if_tail_second : (rest : List Spelled) → read_token (is sort (else_word ∷ [])) us ≡ Stopped rest → found_as (tail_from (head_of first (c, n))) (read r If_tail ts) ≡ Stopped rest
    if_tail_second rest b =
        ap (found_as (tail_from (head_of first (c, n)))) (tail_rule ∙ both_second (read (deeper (deeper r)) Expression) (tail_else r) ts (y, m) us rest a (both_first (token (else_word ∷ [])) (tail_last r) us rest b))

    module _ (vs : List Spelled) (s : Spelled) (b : read_token (is sort (else_word ∷ [])) us ≡ Done s vs) where
      -- no whole expression is behind that
      pub if_tail_third : (rest : List Spelled) → read (deeper (deeper r)) Expression vs ≡ Stopped rest → found_as (tail_from (head_of first (c, n))) (read r If_tail ts) ≡ Stopped rest
      if_tail_third rest d =
          ap (found_as (tail_from (head_of first (c, n)))) (tail_rule ∙ both_second (read (deeper (deeper r)) Expression) (tail_else r) ts (y, m) us rest a
          (both_second (token (else_word ∷ [])) (tail_last r) us s vs rest b (both_first (read (deeper (deeper r)) Expression) (reads (assigned_form r)) vs rest d)))

      -- the expression is whole, and what may be assigned to it is left
      pub if_tail_goes : (rest : List Spelled) (z : Expr) (o : ℕ) (of : Expr) (levels : ℕ) → read (deeper (deeper r)) Expression vs ≡ Done (z, o) rest → of ≡ expr (expr_kind.If c y z) (join first (span_of z))
          → levels ≡ suc (max n (max m o)) → found_as (tail_from (head_of first (c, n))) (read r If_tail ts) ≡ found_as (assigned_to (of, levels)) (reads (assigned_form r) rest)
      if_tail_goes rest z o of levels d p q =
          let view : IfTailParts → Tall Stmt = tail_from (head_of first (c, n)) in
          let third : FieldParts ⊎ Unit {0} → Tall Expr × (FieldParts ⊎ Unit {0}) = λ w. ((z, o), w) in
          let second : Tall Expr × (FieldParts ⊎ Unit {0}) → Spelled × (Tall Expr × (FieldParts ⊎ Unit {0})) = λ w. (s, w) in
          let whole : Spelled × (Tall Expr × (FieldParts ⊎ Unit {0})) → IfTailParts = λ w. ((y, m), w) in
          ap (found_as view) (tail_rule ∙ (both_go (read (deeper (deeper r)) Expression) (tail_else r) ts (y, m) us a
          ∙ ap (found_as whole) (both_go (token (else_word ∷ [])) (tail_last r) us s vs b ∙ ap (found_as second) (both_go (read (deeper (deeper r)) Expression) (reads (assigned_form r)) vs (z, o) rest d))))
          ∙ (seen (reads (assigned_form r) rest)
          ∙ (ap (λ x. found_as (assigned_to (x, suc (max n (max m o)))) (reads (assigned_form r) rest)) (sym p) ∙ ap (λ l. found_as (assigned_to (of, l)) (reads (assigned_form r) rest)) (sym q)))
        where
          seen : (g : Found Spelled (FieldParts ⊎ Unit {0}))
              → found_as (tail_from (head_of first (c, n))) (found_as (λ w. ((y, m), w)) (found_as (λ w. (s, w)) (found_as (λ w. ((z, o), w)) g)))
              ≡ found_as (assigned_to (expr (expr_kind.If c y z) (join first (span_of z)), suc (max n (max m o)))) g
          seen (Done w left) = ap (λ t. Done t left) (assigned_same first c y z n m o s w)
          seen (Stopped left) = refl

-- the block of an `if`, and its `else`

else_same : (c : Spelled) (o : ElseParts) → else_span c o ≡ else_span (spanned c.span) o
else_same c (inl (w, inl s)) = refl
else_same c (inl (w, inr (p, (body, q)))) = refl
else_same c (inr none) = refl

module _ (r : Levels) (first : Span) (x : Expr) (n : ℕ) (ts : List Spelled) where
  blocks_rule : reads (blocks_form r) ts ≡ read_both (read (deeper r) Block) (read r Else_tail) ts
  unfolding reads
  blocks_rule = refl

  -- the block stops
  pub blocks_halts : (rest : List Spelled) → found_as block_view (read (deeper r) Block ts) ≡ Stopped rest → found_as (blocks_from (head_of first (x, n))) (reads (blocks_form r) ts) ≡ Stopped rest
  blocks_halts rest a = ap (found_as (blocks_from (head_of first (x, n)))) (blocks_rule ∙ both_first (read (deeper r) Block) (read r Else_tail) ts rest (as_stopped block_view (read (deeper r) Block ts) rest a))

  module _ (us : List Spelled) (body : List Stmt) (m : ℕ) (close : Span) (a : found_as block_view (read (deeper r) Block ts) ≡ Done (body, (m, close)) us) where
    -- what is behind it stops
    pub blocks_second : (rest : List Spelled) → found_as (else_view close) (read r Else_tail us) ≡ Stopped rest → found_as (blocks_from (head_of first (x, n))) (reads (blocks_form r) ts) ≡ Stopped rest
    blocks_second rest b =
        let v = as_done block_view (read (deeper r) Block ts) (body, (m, close)) us a in
        ap (found_as (blocks_from (head_of first (x, n)))) (blocks_rule ∙ both_second (read (deeper r) Block) (read r Else_tail) ts v.0 us rest v.1 (as_stopped (else_view close) (read r Else_tail us) rest b))

    -- both are whole
    pub blocks_whole : (rest : List Spelled) (other : Else) (o : ℕ) (last span : Span) (levels : ℕ) → found_as (else_view close) (read r Else_tail us) ≡ Done (other, (o, last)) rest → span ≡ join first last
        → levels ≡ suc (max n (max m o)) → found_as (blocks_from (head_of first (x, n))) (reads (blocks_form r) ts) ≡ Done (stmt (stmt_kind.If x body other) span, levels) rest
    blocks_whole rest other o last span levels b q l =
        let v = as_done block_view (read (deeper r) Block ts) (body, (m, close)) us a in
        let d = as_done (else_view close) (read r Else_tail us) (other, (o, last)) rest b in
        ap (found_as (blocks_from (head_of first (x, n)))) (blocks_rule ∙ both_done (read (deeper r) Block) (read r Else_tail) ts v.0 us d.0 rest v.1 d.1)
        ∙ (ap (λ s. Done (stmt (stmt_kind.If x (block_view v.0).0 (else_from d.0)) (join first s), suc (max n (max (block_view v.0).1.0 (else_levels d.0)))) rest) (else_same v.0.1.1 d.0)
        ∙ (ap (λ (b : List Stmt × (ℕ × Span)). Done (stmt (stmt_kind.If x b.0 (else_from d.0)) (join first (else_span (spanned b.1.1) d.0)), suc (max n (max b.1.0 (else_levels d.0)))) rest) v.2
        ∙ (ap (λ (e : Else × (ℕ × Span)). Done (stmt (stmt_kind.If x body e.0) (join first e.1.1), suc (max n (max m e.1.0))) rest) d.2
        ∙ (ap (λ s. Done (stmt (stmt_kind.If x body other) s, suc (max n (max m o))) rest) (sym q) ∙ ap (λ l. Done (stmt (stmt_kind.If x body other) span, l) rest) (sym l)))))

-- an `if` with blocks, behind an `else`

abbrev only_view : IfHeadParts × (BlockParts × ElseParts) → Tall Stmt
only_view v = blocks_from v.0 v.1

module _ (r : Levels) (f : fits r ≡ true) (ts : List Spelled) where
  only_rule : read r If_only ts ≡ found_as only_view (read_both (read r If_head) (reads (blocks_form r)) ts)
  unfolding reads
  only_rule = sym (laws.rule_read all_seen If_only r f refl ts)

  -- no `if` comes
  pub if_only_halts : (rest : List Spelled) → read_token (is sort (if_word ∷ [])) ts ≡ Stopped rest → read r If_only ts ≡ Stopped rest
  if_only_halts rest a = only_rule ∙ ap (found_as only_view) (both_first (read r If_head) (reads (blocks_form r)) ts rest (if_head_halts r f ts rest a))

  module _ (us : List Spelled) (i : Spelled) (a : read_token (is sort (if_word ∷ [])) ts ≡ Done i us) where
    -- its condition stops
    pub if_only_second : (rest : List Spelled) → found_as head_view (reads (head_form (deeper r)) us) ≡ Stopped rest → read r If_only ts ≡ Stopped rest
    if_only_second rest b = only_rule ∙ ap (found_as only_view) (both_first (read r If_head) (reads (blocks_form r)) ts rest (if_head_second r f ts us rest i a b))

    -- its blocks are left
    pub if_only_goes : (vs : List Spelled) (x : Expr) (n : ℕ) → found_as head_view (reads (head_form (deeper r)) us) ≡ Done (x, n) vs
        → read r If_only ts ≡ found_as (blocks_from (head_of i.span (x, n))) (reads (blocks_form r) vs)
    if_only_goes vs x n b =
        let v = if_head_whole r f ts us vs i (x, n) a b in
        let pair : BlockParts × ElseParts → IfHeadParts × (BlockParts × ElseParts) = λ y. ((i, v.0), y) in
        only_rule ∙ (ap (found_as only_view) (both_go (read r If_head) (reads (blocks_form r)) ts (i, v.0) vs v.1)
        ∙ (found_as_as only_view pair (reads (blocks_form r) vs) ∙ as_same (blocks_from (i, v.0)) (blocks_from (head_of i.span (x, n))) (blocks_same i v.0 (x, n) v.2) (reads (blocks_form r) vs)))

-- `else`

abbrev else_or : Levels → List Spelled → Found Spelled (Tall Stmt ⊎ BlockParts)
else_or r ts = read_either (guard (fits r) (is sort (if_word ∷ []))) (read r If_only) (read r Block) ts

abbrev else_more : Levels → List Spelled → Found Spelled (Spelled × (Tall Stmt ⊎ BlockParts))
else_more r ts = read_both (token (else_word ∷ [])) (else_or r) ts

module _ (r : Levels) (f : fits r ≡ true) (close : Span) (ts : List Spelled) where
  else_rule : read r Else_tail ts ≡ read_either (is sort (else_word ∷ [])) (else_more (deeper r)) read_nothing ts
  else_rule = sym (laws.rule_read all_seen Else_tail r f refl ts) ∙ same_as (read_either (is sort (else_word ∷ [])) (else_more (deeper r)) read_nothing ts)

  -- no `else` comes
  pub else_none : has (else_word ∷ []) (head_sort ts) ≡ false → found_as (else_view close) (read r Else_tail ts) ≡ Done (else_kind.Nothing, (0, close)) ts
  else_none h = ap (found_as (else_view close)) (else_rule ∙ either_right (else_word ∷ []) (else_more (deeper r)) read_nothing ts h)

  module _ (us : List Spelled) (w : Spelled) (h : has (else_word ∷ []) (head_sort ts) ≡ true) (a : read_token (is sort (else_word ∷ [])) ts ≡ Done w us) where
    else_stops : (rest : List Spelled) → else_or (deeper r) us ≡ Stopped rest → found_as (else_view close) (read r Else_tail ts) ≡ Stopped rest
    else_stops rest e =
        ap (found_as (else_view close)) (else_rule ∙ (either_left (else_word ∷ []) (else_more (deeper r)) read_nothing ts refl h ∙ ap (found_as inl) (both_second (token (else_word ∷ [])) (else_or (deeper r)) ts w us rest a e)))

    else_goes : (rest : List Spelled) (v : Tall Stmt ⊎ BlockParts) → else_or (deeper r) us ≡ Done v rest → found_as (else_view close) (read r Else_tail ts) ≡ Done (else_view close (inl (w, v))) rest
    else_goes rest v e =
        ap (found_as (else_view close)) (else_rule ∙ (either_left (else_word ∷ []) (else_more (deeper r)) read_nothing ts refl h ∙ ap (found_as inl) (both_done (token (else_word ∷ [])) (else_or (deeper r)) ts w us v rest a e)))

    module _ (g : fits (deeper r) ≡ true) (k : has (if_word ∷ []) (head_sort us) ≡ true) where
      if_comes : else_or (deeper r) us ≡ found_as inl (read (deeper r) If_only us)
      if_comes = room_left (if_word ∷ []) (read (deeper r) If_only) (read (deeper r) Block) (fits (deeper r)) us g refl k

      -- an `if` is behind it, and no whole one
      pub else_if_stops : (rest : List Spelled) → read (deeper r) If_only us ≡ Stopped rest → found_as (else_view close) (read r Else_tail ts) ≡ Stopped rest
      else_if_stops rest b = else_stops rest (if_comes ∙ ap (found_as inl) b)

      -- an `if` is
      pub else_if : (rest : List Spelled) (s : Stmt) (n : ℕ) (span : Span) → read (deeper r) If_only us ≡ Done (s, n) rest → span ≡ stmt_span s
          → found_as (else_view close) (read r Else_tail ts) ≡ Done (else_kind.If s, (n, span)) rest
      else_if rest s n span b q = else_goes rest (inl (s, n)) (if_comes ∙ ap (found_as inl) b) ∙ ap (λ t. Done (else_kind.If s, (n, t)) rest) (sym q)

    -- no `if`, or no room for one
    module _ (k : and (fits (deeper r)) (has (if_word ∷ []) (head_sort us)) ≡ false) where
      block_comes : else_or (deeper r) us ≡ found_as inr (read (deeper r) Block us)
      block_comes = room_not (if_word ∷ []) (read (deeper r) If_only) (read (deeper r) Block) (fits (deeper r)) us k

      -- the block stops
      pub else_block_stops : (rest : List Spelled) → found_as block_view (read (deeper r) Block us) ≡ Stopped rest → found_as (else_view close) (read r Else_tail ts) ≡ Stopped rest
      else_block_stops rest b = else_stops rest (block_comes ∙ ap (found_as inr) (as_stopped block_view (read (deeper r) Block us) rest b))

      -- a block is behind it
      pub else_block : (rest : List Spelled) (body : List Stmt) (n : ℕ) (last : Span) → found_as block_view (read (deeper r) Block us) ≡ Done (body, (n, last)) rest
          → found_as (else_view close) (read r Else_tail ts) ≡ Done (else_kind.Block body, (n, last)) rest
      else_block rest body n last b =
          let v = as_done block_view (read (deeper r) Block us) (body, (n, last)) rest b in
          else_goes rest (inr v.0) (block_comes ∙ ap (found_as inr) v.1) ∙ ap (λ (b : List Stmt × (ℕ × Span)). Done (else_kind.Block b.0, (b.1.0, b.1.1)) rest) v.2
