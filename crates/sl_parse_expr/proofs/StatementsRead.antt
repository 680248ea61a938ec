-- Statements, blocks, declarations, loops and `return`, as the code reads them.
use Rattle.std.proofs.Common.{◌≡◌, ℕ, zero, suc, List, [], ◌∷◌, ◌++◌, max, refl, ap, ◌∙◌, sym, subst, inl, inr, ◌⊎◌, Bool, true, false, if◌then◌else◌, eqb, ◌==◌}
use Rattle.std.specs.Prelude.{Option, Some, None}
use Rattle.std.proofs.lemmas.Bool.{eqb-true}
use Rattle.sl_text.specs.declared.place.Span.{Span}
use Rattle.sl_grammar.specs.Phrase.{Found, Done, Stopped, read_both, read_either, read_token}
use Rattle.sl_grammar.specs.Law.{found_as, read_nothing}
use Rattle.sl_grammar.specs.Guard.{guard}
use Rattle.sl_grammar.specs.Many.{read_list}
use Rattle.sl_grammar.specs.Grammar.{is, has, and}
use Rattle.sl_grammar.specs.Growing.{folded, grown}
use Rattle.sl_grammar.proofs.Growing.{found_as_as, many_grown}
use Rattle.sl_tree.specs.Sorts.{Spelled, sort, separator, left_brace, right_brace, left_parenthesis, right_parenthesis, colon, equals, left_arrow, if_word, val_word, var_word, while_word, for_word, return_word, until_name, to_name, prefixed_l}
use Rattle.sl_tree.specs.WellShaped.{names, join, stmt}
use Rattle.sl_tree.specs.declared.tree.TypeTerm.{TypeTerm}
use Rattle.sl_tree.specs.declared.tree.Expr.{Expr}
use Rattle.sl_tree.specs.declared.tree.Stmt.{Stmt}
use Rattle.sl_tree.specs.declared.tree.StmtKind.TheVariants as stmt_kind
use Rattle.sl_parse_expr.specs.Names.{Type_term, Expression, Statements, Block, Statement, Declaration, If_any, While_loop, For_loop, Return_of, Opening, Levels, open_to, deeper, fits, head_form}
use Rattle.sl_parse_expr.specs.Values.{Tall, HeadParts, BlockParts, IfAnyParts, WhileParts, ForParts, ReturnParts, OpeningParts, FieldParts, statements_from, declaration_from, if_any_from, while_from, for_from, return_from, opening_from, statement_from, skip_from, span_of}
use Rattle.sl_parse_expr.specs.Grammar.{read, spells_at, expression_kinds, statement_kinds}
use Rattle.sl_parse_expr.specs.Told.{head_sort, reads, ascribed_form, ascribed_view, head_view, block_view}
use Rattle.sl_parse_expr.proofs.Laws as laws
use Rattle.sl_parse_expr.proofs.AllSeen.{all_seen}
use Rattle.sl_parse_expr.proofs.Telling.{Keeps, read_keeps, token_shrinks, both_shrinks, as_done, as_stopped, both_go, both_first, both_second, both_done, either_left, either_right, room_left, room_shut, loop_ends, loop_stops, loop_goes}
use Rattle.sl_parse_expr.proofs.Listing.{listed_view, with_one, view_folded}

-- what is found as it is
pub same_as : {K X : Type 0} (f : Found K X) → found_as (λ v. v) f ≡ f
same_as (Done v rest) = refl
same_as (Stopped rest) = refl

-- a sort is one, and none of others
pub only_sort : (j s : ℕ) (ks : List ℕ) → has (j ∷ []) s ≡ true → has ks j ≡ false → has ks s ≡ false
only_sort j s ks h n = by (eqb j s) refl h
  where
    by : (b : Bool) → eqb j s ≡ b → (if b then true else false) ≡ true → has ks s ≡ false
    by true e d = subst (λ s. has ks s ≡ false) (eqb-true j s e) n
    by false e d = absurd cc

-- one of two tests fails
pub and_first : (c b : Bool) → c ≡ false → and c b ≡ false
and_first true b e = absurd cc
and_first false b e = refl

pub and_second : (c b : Bool) → b ≡ false → and c b ≡ false
and_second true b e = e
and_second false b e = refl

-- no room, or another token
pub room_not : {X Y : Type 0} (ks : List ℕ) (l : List Spelled → Found Spelled X) (m : List Spelled → Found Spelled Y) (c : Bool) (ts : List Spelled) → and c (has ks (head_sort ts)) ≡ false
    → read_either (guard c (is sort ks)) l m ts ≡ found_as inr (m ts)
room_not ks l m true ts h = either_right ks l m ts h
room_not ks l m false ts h = room_shut ks l m false ts refl

-- the end of the tokens begins no expression, and no statement
pub no_expression : (r : Levels) → has (expression_kinds r) 99 ≡ false
no_expression None = refl
no_expression (Some zero) = refl
no_expression (Some (suc zero)) = refl
no_expression (Some (suc (suc n))) = refl

pub no_statement : (r : Levels) → has (statement_kinds r) 99 ≡ false
no_statement None = refl
no_statement (Some zero) = refl
no_statement (Some (suc zero)) = refl
no_statement (Some (suc (suc zero))) = refl
no_statement (Some (suc (suc (suc n)))) = refl

-- one token
abbrev pub token : List ℕ → List Spelled → Found Spelled Spelled
token ks ts = read_token (is sort ks) ts

-- statements with Separators between them

abbrev next : Levels → List Spelled → Found Spelled (Spelled × Tall Stmt)
next r ts = read_both (token (separator ∷ [])) (read r Statement) ts

abbrev all_of : Levels → List Spelled → Found Spelled (Tall Stmt × List (Spelled × Tall Stmt))
all_of r ts = read_both (read r Statement) (read_list (is sort (separator ∷ [])) (next r)) ts

statement_keeps : (r : Levels) → open_to r ≡ true → Keeps (read r Statement)
statement_keeps r o = read_keeps (spells_at Statement r) (read r Statement) (laws.reads all_seen Statement r o)

-- the rest of them, where some were read
unfoldable pub statements_on : Levels → Tall (List Stmt) → List Spelled → Found Spelled (Tall (List Stmt))
statements_on r p ts = grown (is sort (separator ∷ [])) (λ p. true) (next r) with_one p ts

-- no Separator comes
pub statements_ends : (r : Levels) (p : Tall (List Stmt)) (ts : List Spelled) → has (separator ∷ []) (head_sort ts) ≡ false → statements_on r p ts ≡ Done p ts
unfolding statements_on
statements_ends r p ts h = loop_ends (separator ∷ []) (λ p. true) (next r) with_one p ts h

-- no whole statement is behind it
pub statements_stops : (r : Levels) (p : Tall (List Stmt)) (ts more rest : List Spelled) (d : Spelled) → has (separator ∷ []) (head_sort ts) ≡ true → read_token (is sort (separator ∷ [])) ts ≡ Done d more
    → read r Statement more ≡ Stopped rest → statements_on r p ts ≡ Stopped rest
unfolding statements_on
statements_stops r p ts more rest d h a b =
    loop_stops (separator ∷ []) (λ p. true) (next r) with_one p ts rest refl h refl (both_second (token (separator ∷ [])) (read r Statement) ts d more rest a b)

-- one more is read
pub statements_goes : (r : Levels) → open_to r ≡ true → (p : Tall (List Stmt)) (ts more rest : List Spelled) (d : Spelled) (s : Stmt) (n : ℕ) (all : List Stmt) (levels : ℕ) → has (separator ∷ []) (head_sort ts) ≡ true
    → read_token (is sort (separator ∷ [])) ts ≡ Done d more → read r Statement more ≡ Done (s, n) rest → all ≡ p.0 ++ s ∷ [] → levels ≡ max p.1 n → statements_on r p ts ≡ statements_on r (all, levels) rest
unfolding statements_on
statements_goes r o p ts more rest d s n all levels h a b e f =
    let same : (p.0 ++ s ∷ [], max p.1 n) ≡ (all, levels) = cc in
    loop_goes (separator ∷ []) (λ p. true) (next r) with_one (both_shrinks (token (separator ∷ [])) (read r Statement) (token_shrinks (is sort (separator ∷ []))) (statement_keeps r o)) p ts (d, (s, n)) rest refl h refl
    (both_done (token (separator ∷ [])) (read r Statement) ts d more (s, n) rest a b)
    ∙ ap (λ p. grown (is sort (separator ∷ [])) (λ p. true) (next r) with_one p rest) same

statements_rule : (r : Levels) (ts : List Spelled) → read r Statements ts ≡ found_as statements_from (read_either (guard (open_to r) (is sort (statement_kinds r))) (all_of r) read_nothing ts)
statements_rule r ts = sym (laws.rule_read all_seen Statements r refl refl ts)

-- there is no room, or no statement comes
pub statements_not : (r : Levels) (ts : List Spelled) → and (open_to r) (has (statement_kinds r) (head_sort ts)) ≡ false → read r Statements ts ≡ Done ([], 0) ts
statements_not r ts h = statements_rule r ts ∙ ap (found_as statements_from) (room_not (statement_kinds r) (all_of r) read_nothing (open_to r) ts h)

some_come : (r : Levels) → open_to r ≡ true → (ts : List Spelled) → has (statement_kinds r) (head_sort ts) ≡ true → read r Statements ts ≡ found_as listed_view (all_of r ts)
some_come r o ts h =
    statements_rule r ts ∙ (ap (found_as statements_from) (room_left (statement_kinds r) (all_of r) read_nothing (open_to r) ts o (no_statement r) h) ∙ found_as_as statements_from inl (all_of r ts))

-- the first is no whole one
pub statements_halts : (r : Levels) → open_to r ≡ true → (ts rest : List Spelled) → has (statement_kinds r) (head_sort ts) ≡ true → read r Statement ts ≡ Stopped rest → read r Statements ts ≡ Stopped rest
statements_halts r o ts rest h e = some_come r o ts h ∙ ap (found_as listed_view) (both_first (read r Statement) (read_list (is sort (separator ∷ [])) (next r)) ts rest e)

-- the first, and the loop behind it
pub statements_begins : (r : Levels) → open_to r ≡ true → (ts rest : List Spelled) (s : Stmt) (n : ℕ) (all : List Stmt) → has (statement_kinds r) (head_sort ts) ≡ true → read r Statement ts ≡ Done (s, n) rest
    → all ≡ s ∷ [] → read r Statements ts ≡ statements_on r (all, n) rest
unfolding statements_on
statements_begins r o ts rest s n all h e a =
    let pair : List (Spelled × Tall Stmt) → Tall Stmt × List (Spelled × Tall Stmt) = λ qs. ((s, n), qs) in
    some_come r o ts h
    ∙ (ap (found_as listed_view) (both_go (read r Statement) (read_list (is sort (separator ∷ [])) (next r)) ts (s, n) rest e)
    ∙ (found_as_as listed_view pair (read_list (is sort (separator ∷ [])) (next r) rest)
    ∙ (same (read_list (is sort (separator ∷ [])) (next r) rest)
    ∙ (many_grown (is sort (separator ∷ [])) (next r) with_one (s ∷ [], n) rest
    ∙ ap (λ all. grown (is sort (separator ∷ [])) (λ p. true) (next r) with_one (all, n) rest) (sym a)))))
  where
    same : (f : Found Spelled (List (Spelled × Tall Stmt))) → found_as (λ qs. listed_view ((s, n), qs)) f ≡ found_as (λ qs. folded with_one (s ∷ [], n) qs) f
    same (Done qs left) = ap (λ v. Done v left) (sym (view_folded (s ∷ []) s n qs))
    same (Stopped left) = refl

-- a block

abbrev closed : Levels → List Spelled → Found Spelled (Tall (List Stmt) × Spelled)
closed r ts = read_both (read r Statements) (token (right_brace ∷ [])) ts

block_rule : (r : Levels) (ts : List Spelled) → read r Block ts ≡ read_both (token (left_brace ∷ [])) (closed r) ts
block_rule r ts = sym (laws.rule_read all_seen Block r refl refl ts) ∙ same_as (read_both (token (left_brace ∷ [])) (closed r) ts)

-- no brace opens it
pub block_halts : (r : Levels) (ts rest : List Spelled) → read_token (is sort (left_brace ∷ [])) ts ≡ Stopped rest → found_as block_view (read r Block ts) ≡ Stopped rest
block_halts r ts rest a = ap (found_as block_view) (block_rule r ts ∙ both_first (token (left_brace ∷ [])) (closed r) ts rest a)

-- its statements stop
pub block_second : (r : Levels) (ts us rest : List Spelled) (p : Spelled) → read_token (is sort (left_brace ∷ [])) ts ≡ Done p us → read r Statements us ≡ Stopped rest
    → found_as block_view (read r Block ts) ≡ Stopped rest
block_second r ts us rest p a b =
    ap (found_as block_view) (block_rule r ts ∙ both_second (token (left_brace ∷ [])) (closed r) ts p us rest a (both_first (read r Statements) (token (right_brace ∷ [])) us rest b))

-- no brace closes it
pub block_third : (r : Levels) (ts us vs rest : List Spelled) (p : Spelled) (x : Tall (List Stmt)) → read_token (is sort (left_brace ∷ [])) ts ≡ Done p us → read r Statements us ≡ Done x vs
    → read_token (is sort (right_brace ∷ [])) vs ≡ Stopped rest → found_as block_view (read r Block ts) ≡ Stopped rest
block_third r ts us vs rest p x a b c =
    ap (found_as block_view) (block_rule r ts ∙ both_second (token (left_brace ∷ [])) (closed r) ts p us rest a (both_second (read r Statements) (token (right_brace ∷ [])) us x vs rest b c))

-- it is a whole block
pub block_whole : (r : Levels) (ts us vs rest : List Spelled) (p q : Spelled) (body : List Stmt) (n : ℕ) → read_token (is sort (left_brace ∷ [])) ts ≡ Done p us → read r Statements us ≡ Done (body, n) vs
    → read_token (is sort (right_brace ∷ [])) vs ≡ Done q rest → found_as block_view (read r Block ts) ≡ Done (body, (n, q.span)) rest
block_whole r ts us vs rest p q body n a b c =
    ap (found_as block_view) (block_rule r ts ∙ both_done (token (left_brace ∷ [])) (closed r) ts p us ((body, n), q) rest a (both_done (read r Statements) (token (right_brace ∷ [])) us (body, n) vs q rest b c))

-- a statement, by its first token

abbrev val_kinds : List ℕ
val_kinds = val_word ∷ var_word ∷ []

abbrev ReturnOr : Type 0
ReturnOr = ReturnParts ⊎ (Spelled ⊎ OpeningParts)

abbrev or_opening : Levels → List Spelled → Found Spelled (Spelled ⊎ OpeningParts)
or_opening r ts = read_either (is sort (prefixed_l ∷ [])) (token (prefixed_l ∷ [])) (read r Opening) ts

abbrev or_return : Levels → List Spelled → Found Spelled ReturnOr
or_return r ts = read_either (is sort (return_word ∷ [])) (read r Return_of) (or_opening r) ts

abbrev or_for : Levels → List Spelled → Found Spelled (ForParts ⊎ ReturnOr)
or_for r ts = read_either (guard (fits r) (is sort (for_word ∷ []))) (read r For_loop) (or_return r) ts

abbrev or_while : Levels → List Spelled → Found Spelled (WhileParts ⊎ (ForParts ⊎ ReturnOr))
or_while r ts = read_either (guard (fits r) (is sort (while_word ∷ []))) (read r While_loop) (or_for r) ts

abbrev or_if : Levels → List Spelled → Found Spelled (IfAnyParts ⊎ (WhileParts ⊎ (ForParts ⊎ ReturnOr)))
or_if r ts = read_either (guard (fits r) (is sort (if_word ∷ []))) (read r If_any) (or_while r) ts

-- what the alternatives behind the first few are seen as
abbrev by_if : IfAnyParts ⊎ (WhileParts ⊎ (ForParts ⊎ ReturnOr)) → Tall Stmt
by_if v = statement_from (inr v)

abbrev by_while : WhileParts ⊎ (ForParts ⊎ ReturnOr) → Tall Stmt
by_while v = by_if (inr v)

abbrev by_for : ForParts ⊎ ReturnOr → Tall Stmt
by_for v = by_while (inr v)

abbrev by_return : ReturnOr → Tall Stmt
by_return v = by_for (inr v)

abbrev by_opening : Spelled ⊎ OpeningParts → Tall Stmt
by_opening v = by_return (inr v)

-- another sort than those, or no room
abbrev pub not_for : Levels → List ℕ → List Spelled → Type 0
not_for r ks ts = and (fits r) (has ks (head_sort ts)) ≡ false

module _ (r : Levels) (o : open_to r ≡ true) (ts : List Spelled) where
  statement_rule : read r Statement ts ≡ found_as statement_from (read_either (guard (fits r) (is sort val_kinds)) (read r Declaration) (or_if r) ts)
  statement_rule = sym (laws.rule_read all_seen Statement r o refl ts)

  past_val : not_for r val_kinds ts → read r Statement ts ≡ found_as by_if (or_if r ts)
  past_val a = statement_rule ∙ (ap (found_as statement_from) (room_not val_kinds (read r Declaration) (or_if r) (fits r) ts a) ∙ found_as_as statement_from inr (or_if r ts))

  past_if : not_for r val_kinds ts → not_for r (if_word ∷ []) ts → read r Statement ts ≡ found_as by_while (or_while r ts)
  past_if a b = past_val a ∙ (ap (found_as by_if) (room_not (if_word ∷ []) (read r If_any) (or_while r) (fits r) ts b) ∙ found_as_as by_if inr (or_while r ts))

  past_while : not_for r val_kinds ts → not_for r (if_word ∷ []) ts → not_for r (while_word ∷ []) ts → read r Statement ts ≡ found_as by_for (or_for r ts)
  past_while a b c = past_if a b ∙ (ap (found_as by_while) (room_not (while_word ∷ []) (read r While_loop) (or_for r) (fits r) ts c) ∙ found_as_as by_while inr (or_for r ts))

  past_for : not_for r val_kinds ts → not_for r (if_word ∷ []) ts → not_for r (while_word ∷ []) ts → not_for r (for_word ∷ []) ts → read r Statement ts ≡ found_as by_return (or_return r ts)
  past_for a b c d = past_while a b c ∙ (ap (found_as by_for) (room_not (for_word ∷ []) (read r For_loop) (or_return r) (fits r) ts d) ∙ found_as_as by_for inr (or_return r ts))

  -- the first token is of a sort, and of no other
  other_sort : (j : ℕ) (ks : List ℕ) → has (j ∷ []) (head_sort ts) ≡ true → has ks j ≡ false → not_for r ks ts
  other_sort j ks h n = and_second (fits r) (has ks (head_sort ts)) (only_sort j (head_sort ts) ks h n)

  -- `val`, `var`
  pub statement_declares : fits r ≡ true → has (val_word ∷ var_word ∷ []) (head_sort ts) ≡ true → read r Statement ts ≡ found_as declaration_from (read r Declaration ts)
  statement_declares f h =
      statement_rule ∙ (ap (found_as statement_from) (room_left val_kinds (read r Declaration) (or_if r) (fits r) ts f refl h) ∙ found_as_as statement_from inl (read r Declaration ts))

  -- `if`
  pub statement_if : fits r ≡ true → has (if_word ∷ []) (head_sort ts) ≡ true → read r Statement ts ≡ found_as if_any_from (read r If_any ts)
  statement_if f h =
      past_val (other_sort if_word val_kinds h refl) ∙ (ap (found_as by_if) (room_left (if_word ∷ []) (read r If_any) (or_while r) (fits r) ts f refl h) ∙ found_as_as by_if inl (read r If_any ts))

  -- `while`
  pub statement_while : fits r ≡ true → has (while_word ∷ []) (head_sort ts) ≡ true → read r Statement ts ≡ found_as while_from (read r While_loop ts)
  statement_while f h =
      past_if (other_sort while_word val_kinds h refl) (other_sort while_word (if_word ∷ []) h refl)
      ∙ (ap (found_as by_while) (room_left (while_word ∷ []) (read r While_loop) (or_for r) (fits r) ts f refl h) ∙ found_as_as by_while inl (read r While_loop ts))

  -- `for`
  pub statement_for : fits r ≡ true → has (for_word ∷ []) (head_sort ts) ≡ true → read r Statement ts ≡ found_as for_from (read r For_loop ts)
  statement_for f h =
      past_while (other_sort for_word val_kinds h refl) (other_sort for_word (if_word ∷ []) h refl) (other_sort for_word (while_word ∷ []) h refl)
      ∙ (ap (found_as by_for) (room_left (for_word ∷ []) (read r For_loop) (or_return r) (fits r) ts f refl h) ∙ found_as_as by_for inl (read r For_loop ts))

  -- `return`
  pub statement_return : has (return_word ∷ []) (head_sort ts) ≡ true → read r Statement ts ≡ found_as return_from (read r Return_of ts)
  statement_return h =
      past_for (other_sort return_word val_kinds h refl) (other_sort return_word (if_word ∷ []) h refl) (other_sort return_word (while_word ∷ []) h refl) (other_sort return_word (for_word ∷ []) h refl)
      ∙ (ap (found_as by_return) (either_left (return_word ∷ []) (read r Return_of) (or_opening r) ts refl h) ∙ found_as_as by_return inl (read r Return_of ts))

  -- a Prefixed that is skipped
  pub statement_skips : has (prefixed_l ∷ []) (head_sort ts) ≡ true → read r Statement ts ≡ found_as (λ k. skip_from k []) (read_token (is sort (prefixed_l ∷ [])) ts)
  statement_skips h =
      past_for (other_sort prefixed_l val_kinds h refl) (other_sort prefixed_l (if_word ∷ []) h refl) (other_sort prefixed_l (while_word ∷ []) h refl) (other_sort prefixed_l (for_word ∷ []) h refl)
      ∙ (ap (found_as by_return) (either_right (return_word ∷ []) (read r Return_of) (or_opening r) ts (only_sort prefixed_l (head_sort ts) (return_word ∷ []) h refl) ∙ ap (found_as inr) (either_left (prefixed_l ∷ []) (token (prefixed_l ∷ [])) (read r Opening) ts refl h))
      ∙ (found_as_as by_return inr (found_as inl (token (prefixed_l ∷ []) ts)) ∙ found_as_as by_opening inl (token (prefixed_l ∷ []) ts)))

  -- none of these: each has another first token, or no room
  pub statement_opens : not_for r (val_word ∷ var_word ∷ []) ts → not_for r (if_word ∷ []) ts → not_for r (while_word ∷ []) ts → not_for r (for_word ∷ []) ts → has (return_word ∷ []) (head_sort ts) ≡ false
      → has (prefixed_l ∷ []) (head_sort ts) ≡ false → read r Statement ts ≡ found_as opening_from (read r Opening ts)
  statement_opens a b c d e f =
      past_for a b c d
      ∙ (ap (found_as by_return) (either_right (return_word ∷ []) (read r Return_of) (or_opening r) ts e ∙ ap (found_as inr) (either_right (prefixed_l ∷ []) (token (prefixed_l ∷ [])) (read r Opening) ts f))
      ∙ (found_as_as by_return inr (found_as inr (read r Opening ts)) ∙ found_as_as by_opening inr (read r Opening ts)))

-- the type that is ascribed, or none

abbrev read_colon : Levels → List Spelled → Found Spelled (Spelled × Tall TypeTerm)
read_colon r ts = read_both (token (colon ∷ [])) (read r Type_term) ts

-- no colon comes
pub ascribed_none : (r : Levels) (ts : List Spelled) → has (colon ∷ []) (head_sort ts) ≡ false → found_as ascribed_view (reads (ascribed_form r) ts) ≡ Done (None, 0) ts
unfolding reads
ascribed_none r ts h = ap (found_as ascribed_view) (either_right (colon ∷ []) (read_colon r) read_nothing ts h)

-- no whole type is behind it
pub ascribed_stops : (r : Levels) (ts us rest : List Spelled) (c : Spelled) → has (colon ∷ []) (head_sort ts) ≡ true → read_token (is sort (colon ∷ [])) ts ≡ Done c us → read r Type_term us ≡ Stopped rest
    → found_as ascribed_view (reads (ascribed_form r) ts) ≡ Stopped rest
unfolding reads
ascribed_stops r ts us rest c h a b =
    ap (found_as ascribed_view) (either_left (colon ∷ []) (read_colon r) read_nothing ts refl h ∙ ap (found_as inl) (both_second (token (colon ∷ [])) (read r Type_term) ts c us rest a b))

-- a type is
pub ascribed_whole : (r : Levels) (ts us rest : List Spelled) (c : Spelled) (t : TypeTerm) (n : ℕ) → has (colon ∷ []) (head_sort ts) ≡ true → read_token (is sort (colon ∷ [])) ts ≡ Done c us
    → read r Type_term us ≡ Done (t, n) rest → found_as ascribed_view (reads (ascribed_form r) ts) ≡ Done (Some t, n) rest
unfolding reads
ascribed_whole r ts us rest c t n h a b =
    ap (found_as ascribed_view) (either_left (colon ∷ []) (read_colon r) read_nothing ts refl h ∙ ap (found_as inl) (both_done (token (colon ∷ [])) (read r Type_term) ts c us (t, n) rest a b))

-- a declaration

abbrev read_value : Levels → List Spelled → Found Spelled FieldParts
read_value r ts = read_both (token (equals ∷ [])) (read r Expression) ts

abbrev declared : Levels → List Spelled → Found Spelled (((Spelled × Tall TypeTerm) ⊎ Unit {0}) × FieldParts)
declared r ts = read_both (reads (ascribed_form r)) (read_value r) ts

abbrev named : Levels → List Spelled → Found Spelled (Spelled × (((Spelled × Tall TypeTerm) ⊎ Unit {0}) × FieldParts))
named r ts = read_both (token names) (declared r) ts

module _ (r : Levels) (f : fits r ≡ true) (ts : List Spelled) where
  declaration_rule : read r Declaration ts ≡ read_both (token val_kinds) (named (deeper r)) ts
  unfolding reads
  declaration_rule = sym (laws.rule_read all_seen Declaration r f refl ts) ∙ same_as (read_both (token val_kinds) (named (deeper r)) ts)

  -- no `val` or `var` comes
  pub declaration_halts : (rest : List Spelled) → read_token (is sort (val_word ∷ var_word ∷ [])) ts ≡ Stopped rest → found_as declaration_from (read r Declaration ts) ≡ Stopped rest
  declaration_halts rest a = ap (found_as declaration_from) (declaration_rule ∙ both_first (token val_kinds) (named (deeper r)) ts rest a)

  module _ (us : List Spelled) (w : Spelled) (a : read_token (is sort (val_word ∷ var_word ∷ [])) ts ≡ Done w us) where
    behind_word : (rest : List Spelled) → named (deeper r) us ≡ Stopped rest → found_as declaration_from (read r Declaration ts) ≡ Stopped rest
    behind_word rest e = ap (found_as declaration_from) (declaration_rule ∙ both_second (token val_kinds) (named (deeper r)) ts w us rest a e)

    -- no name is behind it
    pub declaration_second : (rest : List Spelled) → read_token (is sort names) us ≡ Stopped rest → found_as declaration_from (read r Declaration ts) ≡ Stopped rest
    declaration_second rest b = behind_word rest (both_first (token names) (declared (deeper r)) us rest b)

    module _ (vs : List Spelled) (k : Spelled) (b : read_token (is sort names) us ≡ Done k vs) where
      behind_name : (rest : List Spelled) → declared (deeper r) vs ≡ Stopped rest → found_as declaration_from (read r Declaration ts) ≡ Stopped rest
      behind_name rest e = behind_word rest (both_second (token names) (declared (deeper r)) us k vs rest b e)

      -- its type stops
      pub declaration_third : (rest : List Spelled) → found_as ascribed_view (reads (ascribed_form (deeper r)) vs) ≡ Stopped rest → found_as declaration_from (read r Declaration ts) ≡ Stopped rest
      declaration_third rest c =
          behind_name rest (both_first (reads (ascribed_form (deeper r))) (read_value (deeper r)) vs rest (as_stopped ascribed_view (reads (ascribed_form (deeper r)) vs) rest c))

      module _ (ws : List Spelled) (o : Option TypeTerm × ℕ) (c : found_as ascribed_view (reads (ascribed_form (deeper r)) vs) ≡ Done o ws) where
        behind_type : (rest : List Spelled) → read_value (deeper r) ws ≡ Stopped rest → found_as declaration_from (read r Declaration ts) ≡ Stopped rest
        behind_type rest e =
            let v = as_done ascribed_view (reads (ascribed_form (deeper r)) vs) o ws c in
            behind_name rest (both_second (reads (ascribed_form (deeper r))) (read_value (deeper r)) vs v.0 ws rest v.1 e)

        -- no `=` is behind it
        pub declaration_fourth : (rest : List Spelled) → read_token (is sort (equals ∷ [])) ws ≡ Stopped rest → found_as declaration_from (read r Declaration ts) ≡ Stopped rest
        declaration_fourth rest d = behind_type rest (both_first (token (equals ∷ [])) (read (deeper r) Expression) ws rest d)

        module _ (xs : List Spelled) (s : Spelled) (d : read_token (is sort (equals ∷ [])) ws ≡ Done s xs) where
          -- no whole expression is behind that
          pub declaration_fifth : (rest : List Spelled) → read (deeper r) Expression xs ≡ Stopped rest → found_as declaration_from (read r Declaration ts) ≡ Stopped rest
          declaration_fifth rest e = behind_type rest (both_second (token (equals ∷ [])) (read (deeper r) Expression) ws s xs rest d e)

          -- it is a whole declaration
          pub declaration_whole : (rest : List Spelled) (x : Expr) (n : ℕ) (word : Bool) (span : Span) (levels : ℕ) → read (deeper r) Expression xs ≡ Done (x, n) rest
              → word ≡ (sort w == var_word) → span ≡ join w.span (span_of x) → levels ≡ suc (max o.1 n) → found_as declaration_from (read r Declaration ts) ≡ Done (stmt (stmt_kind.Let word k.text o.0 x) span, levels) rest
          declaration_whole rest x n word span levels e p q m =
              let v = as_done ascribed_view (reads (ascribed_form (deeper r)) vs) o ws c in
              let last : read_value (deeper r) ws ≡ Done (s, (x, n)) rest = both_done (token (equals ∷ [])) (read (deeper r) Expression) ws s xs (x, n) rest d e in
              ap (found_as declaration_from) (declaration_rule ∙ both_done (token val_kinds) (named (deeper r)) ts w us (k, (v.0, (s, (x, n)))) rest a
              (both_done (token names) (declared (deeper r)) us k vs (v.0, (s, (x, n))) rest b (both_done (reads (ascribed_form (deeper r))) (read_value (deeper r)) vs v.0 ws (s, (x, n)) rest v.1 last)))
              ∙ (ap (λ (o : Option TypeTerm × ℕ). Done (stmt (stmt_kind.Let (sort w == var_word) k.text o.0 x) (join w.span (span_of x)), suc (max o.1 n)) rest) v.2
              ∙ (ap (λ b. Done (stmt (stmt_kind.Let b k.text o.0 x) (join w.span (span_of x)), suc (max o.1 n)) rest) (sym p)
              ∙ (ap (λ s. Done (stmt (stmt_kind.Let word k.text o.0 x) s, suc (max o.1 n)) rest) (sym q) ∙ ap (λ l. Done (stmt (stmt_kind.Let word k.text o.0 x) span, l) rest) (sym m))))

-- `while`

abbrev looped : Levels → List Spelled → Found Spelled (HeadParts × BlockParts)
looped r ts = read_both (reads (head_form r)) (read r Block) ts

module _ (r : Levels) (f : fits r ≡ true) (ts : List Spelled) where
  while_rule : read r While_loop ts ≡ read_both (token (while_word ∷ [])) (looped (deeper r)) ts
  unfolding reads
  while_rule = sym (laws.rule_read all_seen While_loop r f refl ts) ∙ same_as (read_both (token (while_word ∷ [])) (looped (deeper r)) ts)

  -- no `while` comes
  pub while_halts : (rest : List Spelled) → read_token (is sort (while_word ∷ [])) ts ≡ Stopped rest → found_as while_from (read r While_loop ts) ≡ Stopped rest
  while_halts rest a = ap (found_as while_from) (while_rule ∙ both_first (token (while_word ∷ [])) (looped (deeper r)) ts rest a)

  module _ (us : List Spelled) (w : Spelled) (a : read_token (is sort (while_word ∷ [])) ts ≡ Done w us) where
    -- its condition stops
    pub while_second : (rest : List Spelled) → found_as head_view (reads (head_form (deeper r)) us) ≡ Stopped rest → found_as while_from (read r While_loop ts) ≡ Stopped rest
    while_second rest b =
        ap (found_as while_from) (while_rule ∙ both_second (token (while_word ∷ [])) (looped (deeper r)) ts w us rest a
        (both_first (reads (head_form (deeper r))) (read (deeper r) Block) us rest (as_stopped head_view (reads (head_form (deeper r)) us) rest b)))

    module _ (vs : List Spelled) (x : Expr) (n : ℕ) (b : found_as head_view (reads (head_form (deeper r)) us) ≡ Done (x, n) vs) where
      -- its block stops
      pub while_third : (rest : List Spelled) → found_as block_view (read (deeper r) Block vs) ≡ Stopped rest → found_as while_from (read r While_loop ts) ≡ Stopped rest
      while_third rest c =
          let v = as_done head_view (reads (head_form (deeper r)) us) (x, n) vs b in
          ap (found_as while_from) (while_rule ∙ both_second (token (while_word ∷ [])) (looped (deeper r)) ts w us rest a
          (both_second (reads (head_form (deeper r))) (read (deeper r) Block) us v.0 vs rest v.1 (as_stopped block_view (read (deeper r) Block vs) rest c)))

      -- it is a whole one
      pub while_whole : (rest : List Spelled) (body : List Stmt) (m : ℕ) (close span : Span) (levels : ℕ) → found_as block_view (read (deeper r) Block vs) ≡ Done (body, (m, close)) rest
          → span ≡ join w.span close → levels ≡ suc (max n m) → found_as while_from (read r While_loop ts) ≡ Done (stmt (stmt_kind.While x body) span, levels) rest
      while_whole rest body m close span levels c q l =
          let v = as_done head_view (reads (head_form (deeper r)) us) (x, n) vs b in
          let d = as_done block_view (read (deeper r) Block vs) (body, (m, close)) rest c in
          ap (found_as while_from) (while_rule ∙ both_done (token (while_word ∷ [])) (looped (deeper r)) ts w us (v.0, d.0) rest a (both_done (reads (head_form (deeper r))) (read (deeper r) Block) us v.0 vs d.0 rest v.1 d.1))
          ∙ (ap (λ (x : Tall Expr). Done (stmt (stmt_kind.While x.0 (block_view d.0).0) (join w.span (block_view d.0).1.1), suc (max x.1 (block_view d.0).1.0)) rest) v.2
          ∙ (ap (λ (b : List Stmt × (ℕ × Span)). Done (stmt (stmt_kind.While x b.0) (join w.span b.1.1), suc (max n b.1.0)) rest) d.2
          ∙ (ap (λ s. Done (stmt (stmt_kind.While x body) s, suc (max n m)) rest) (sym q) ∙ ap (λ l. Done (stmt (stmt_kind.While x body) span, l) rest) (sym l))))

-- `return`

abbrev maybe_value : Levels → List Spelled → Found Spelled (Tall Expr ⊎ Unit {0})
maybe_value r ts = read_either (guard (fits r) (is sort (expression_kinds (deeper r)))) (read (deeper r) Expression) read_nothing ts

module _ (r : Levels) (o : open_to r ≡ true) (ts : List Spelled) where
  return_rule : read r Return_of ts ≡ read_both (token (return_word ∷ [])) (maybe_value r) ts
  return_rule = sym (laws.rule_read all_seen Return_of r o refl ts) ∙ same_as (read_both (token (return_word ∷ [])) (maybe_value r) ts)

  -- no `return` comes
  pub return_halts : (rest : List Spelled) → read_token (is sort (return_word ∷ [])) ts ≡ Stopped rest → found_as return_from (read r Return_of ts) ≡ Stopped rest
  return_halts rest a = ap (found_as return_from) (return_rule ∙ both_first (token (return_word ∷ [])) (maybe_value r) ts rest a)

  module _ (us : List Spelled) (w : Spelled) (a : read_token (is sort (return_word ∷ [])) ts ≡ Done w us) where
    -- no expression is behind it, or there is no room for one
    pub return_alone : and (fits r) (has (expression_kinds (deeper r)) (head_sort us)) ≡ false → found_as return_from (read r Return_of ts) ≡ Done (stmt (stmt_kind.Return None) w.span, 1) us
    return_alone h =
        ap (found_as return_from) (return_rule ∙ both_done (token (return_word ∷ [])) (maybe_value r) ts w us (inr tt) us a (room_not (expression_kinds (deeper r)) (read (deeper r) Expression) read_nothing (fits r) us h))

    -- one begins, and is no whole one
    pub return_stops : (rest : List Spelled) → fits r ≡ true → has (expression_kinds (deeper r)) (head_sort us) ≡ true → read (deeper r) Expression us ≡ Stopped rest → found_as return_from (read r Return_of ts) ≡ Stopped rest
    return_stops rest f h b =
        ap (found_as return_from) (return_rule ∙ both_second (token (return_word ∷ [])) (maybe_value r) ts w us rest a
        (room_left (expression_kinds (deeper r)) (read (deeper r) Expression) read_nothing (fits r) us f (no_expression (deeper r)) h ∙ ap (found_as inl) b))

    -- one is behind it
    pub return_whole : (rest : List Spelled) (x : Expr) (n : ℕ) (span : Span) (levels : ℕ) → fits r ≡ true → has (expression_kinds (deeper r)) (head_sort us) ≡ true → read (deeper r) Expression us ≡ Done (x, n) rest
        → span ≡ join w.span (span_of x) → levels ≡ suc n → found_as return_from (read r Return_of ts) ≡ Done (stmt (stmt_kind.Return (Some x)) span, levels) rest
    return_whole rest x n span levels f h b q l =
        ap (found_as return_from) (return_rule ∙ both_done (token (return_word ∷ [])) (maybe_value r) ts w us (inl (x, n)) rest a
        (room_left (expression_kinds (deeper r)) (read (deeper r) Expression) read_nothing (fits r) us f (no_expression (deeper r)) h ∙ ap (found_as inl) b))
        ∙ (ap (λ s. Done (stmt (stmt_kind.Return (Some x)) s, suc n) rest) (sym q) ∙ ap (λ l. Done (stmt (stmt_kind.Return (Some x)) span, l) rest) (sym l))

-- `for`: what is behind each of its parts

abbrev range_kinds : List ℕ
range_kinds = until_name ∷ to_name ∷ []

abbrev for_closed : Levels → List Spelled → Found Spelled (Spelled × BlockParts)
for_closed r ts = read_both (token (right_parenthesis ∷ [])) (read r Block) ts

abbrev for_bound : Levels → List Spelled → Found Spelled (Tall Expr × (Spelled × BlockParts))
for_bound r ts = read_both (read r Expression) (for_closed r) ts

abbrev for_until : Levels → List Spelled → Found Spelled (Spelled × (Tall Expr × (Spelled × BlockParts)))
for_until r ts = read_both (token range_kinds) (for_bound r) ts

abbrev for_start : Levels → List Spelled → Found Spelled (Tall Expr × (Spelled × (Tall Expr × (Spelled × BlockParts))))
for_start r ts = read_both (read r Expression) (for_until r) ts

abbrev for_arrow : Levels → List Spelled → Found Spelled (Spelled × (Tall Expr × (Spelled × (Tall Expr × (Spelled × BlockParts)))))
for_arrow r ts = read_both (token (left_arrow ∷ [])) (for_start r) ts

abbrev for_name : Levels → List Spelled → Found Spelled (Spelled × (Spelled × (Tall Expr × (Spelled × (Tall Expr × (Spelled × BlockParts))))))
for_name r ts = read_both (token names) (for_arrow r) ts

abbrev for_opened : Levels → List Spelled → Found Spelled (Spelled × (Spelled × (Spelled × (Tall Expr × (Spelled × (Tall Expr × (Spelled × BlockParts)))))))
for_opened r ts = read_both (token (left_parenthesis ∷ [])) (for_name r) ts

module _ (r : Levels) (f : fits r ≡ true) (ts : List Spelled) where
  for_rule : read r For_loop ts ≡ read_both (token (for_word ∷ [])) (for_opened (deeper r)) ts
  for_rule = sym (laws.rule_read all_seen For_loop r f refl ts) ∙ same_as (read_both (token (for_word ∷ [])) (for_opened (deeper r)) ts)

  -- no `for` comes
  pub for_halts : (rest : List Spelled) → read_token (is sort (for_word ∷ [])) ts ≡ Stopped rest → found_as for_from (read r For_loop ts) ≡ Stopped rest
  for_halts rest a = ap (found_as for_from) (for_rule ∙ both_first (token (for_word ∷ [])) (for_opened (deeper r)) ts rest a)

  module _ (us : List Spelled) (w : Spelled) (a : read_token (is sort (for_word ∷ [])) ts ≡ Done w us) where
    past_first : (rest : List Spelled) → for_opened (deeper r) us ≡ Stopped rest → found_as for_from (read r For_loop ts) ≡ Stopped rest
    past_first rest e = ap (found_as for_from) (for_rule ∙ both_second (token (for_word ∷ [])) (for_opened (deeper r)) ts w us rest a e)

    -- no parenthesis is behind it
    pub for_second : (rest : List Spelled) → read_token (is sort (left_parenthesis ∷ [])) us ≡ Stopped rest → found_as for_from (read r For_loop ts) ≡ Stopped rest
    for_second rest b = past_first rest (both_first (token (left_parenthesis ∷ [])) (for_name (deeper r)) us rest b)

    module _ (us2 : List Spelled) (p : Spelled) (b : read_token (is sort (left_parenthesis ∷ [])) us ≡ Done p us2) where
      past_second : (rest : List Spelled) → for_name (deeper r) us2 ≡ Stopped rest → found_as for_from (read r For_loop ts) ≡ Stopped rest
      past_second rest e = past_first rest (both_second (token (left_parenthesis ∷ [])) (for_name (deeper r)) us p us2 rest b e)

      -- no name
      pub for_third : (rest : List Spelled) → read_token (is sort names) us2 ≡ Stopped rest → found_as for_from (read r For_loop ts) ≡ Stopped rest
      for_third rest c = past_second rest (both_first (token names) (for_arrow (deeper r)) us2 rest c)

      module _ (us3 : List Spelled) (k : Spelled) (c : read_token (is sort names) us2 ≡ Done k us3) where
        past_third : (rest : List Spelled) → for_arrow (deeper r) us3 ≡ Stopped rest → found_as for_from (read r For_loop ts) ≡ Stopped rest
        past_third rest e = past_second rest (both_second (token names) (for_arrow (deeper r)) us2 k us3 rest c e)

        -- no arrow
        pub for_fourth : (rest : List Spelled) → read_token (is sort (left_arrow ∷ [])) us3 ≡ Stopped rest → found_as for_from (read r For_loop ts) ≡ Stopped rest
        for_fourth rest d = past_third rest (both_first (token (left_arrow ∷ [])) (for_start (deeper r)) us3 rest d)

        module _ (us4 : List Spelled) (j : Spelled) (d : read_token (is sort (left_arrow ∷ [])) us3 ≡ Done j us4) where
          past_fourth : (rest : List Spelled) → for_start (deeper r) us4 ≡ Stopped rest → found_as for_from (read r For_loop ts) ≡ Stopped rest
          past_fourth rest e = past_third rest (both_second (token (left_arrow ∷ [])) (for_start (deeper r)) us3 j us4 rest d e)

          -- no whole expression
          pub for_fifth : (rest : List Spelled) → read (deeper r) Expression us4 ≡ Stopped rest → found_as for_from (read r For_loop ts) ≡ Stopped rest
          for_fifth rest e = past_fourth rest (both_first (read (deeper r) Expression) (for_until (deeper r)) us4 rest e)

          module _ (us5 : List Spelled) (x : Expr) (n : ℕ) (e : read (deeper r) Expression us4 ≡ Done (x, n) us5) where
            past_fifth : (rest : List Spelled) → for_until (deeper r) us5 ≡ Stopped rest → found_as for_from (read r For_loop ts) ≡ Stopped rest
            past_fifth rest g = past_fourth rest (both_second (read (deeper r) Expression) (for_until (deeper r)) us4 (x, n) us5 rest e g)

            -- no `until` or `to`
            pub for_sixth : (rest : List Spelled) → read_token (is sort (until_name ∷ to_name ∷ [])) us5 ≡ Stopped rest → found_as for_from (read r For_loop ts) ≡ Stopped rest
            for_sixth rest g = past_fifth rest (both_first (token range_kinds) (for_bound (deeper r)) us5 rest g)

            module _ (us6 : List Spelled) (u : Spelled) (g : read_token (is sort (until_name ∷ to_name ∷ [])) us5 ≡ Done u us6) where
              past_sixth : (rest : List Spelled) → for_bound (deeper r) us6 ≡ Stopped rest → found_as for_from (read r For_loop ts) ≡ Stopped rest
              past_sixth rest h = past_fifth rest (both_second (token range_kinds) (for_bound (deeper r)) us5 u us6 rest g h)

              -- no whole expression behind that
              pub for_seventh : (rest : List Spelled) → read (deeper r) Expression us6 ≡ Stopped rest → found_as for_from (read r For_loop ts) ≡ Stopped rest
              for_seventh rest h = past_sixth rest (both_first (read (deeper r) Expression) (for_closed (deeper r)) us6 rest h)

              module _ (us7 : List Spelled) (y : Expr) (m : ℕ) (h : read (deeper r) Expression us6 ≡ Done (y, m) us7) where
                past_seventh : (rest : List Spelled) → for_closed (deeper r) us7 ≡ Stopped rest → found_as for_from (read r For_loop ts) ≡ Stopped rest
                past_seventh rest i = past_sixth rest (both_second (read (deeper r) Expression) (for_closed (deeper r)) us6 (y, m) us7 rest h i)

                -- no parenthesis closes it
                pub for_eighth : (rest : List Spelled) → read_token (is sort (right_parenthesis ∷ [])) us7 ≡ Stopped rest → found_as for_from (read r For_loop ts) ≡ Stopped rest
                for_eighth rest i = past_seventh rest (both_first (token (right_parenthesis ∷ [])) (read (deeper r) Block) us7 rest i)

                module _ (us8 : List Spelled) (q : Spelled) (i : read_token (is sort (right_parenthesis ∷ [])) us7 ≡ Done q us8) where
                  -- its block stops
                  pub for_ninth : (rest : List Spelled) → found_as block_view (read (deeper r) Block us8) ≡ Stopped rest → found_as for_from (read r For_loop ts) ≡ Stopped rest
                  for_ninth rest l = past_seventh rest (both_second (token (right_parenthesis ∷ [])) (read (deeper r) Block) us7 q us8 rest i (as_stopped block_view (read (deeper r) Block us8) rest l))

                  -- it is a whole one
                  pub for_whole : (rest : List Spelled) (body : List Stmt) (o : ℕ) (close : Span) (to : Bool) (span : Span) (levels : ℕ) → found_as block_view (read (deeper r) Block us8) ≡ Done (body, (o, close)) rest
                      → to ≡ (sort u == to_name) → span ≡ join w.span close → levels ≡ suc (max n (max m o)) → found_as for_from (read r For_loop ts) ≡ Done (stmt (stmt_kind.For k.text x to y body) span, levels) rest
                  for_whole rest body o close to span levels l t s z =
                      let v = as_done block_view (read (deeper r) Block us8) (body, (o, close)) rest l in
                      ap (found_as for_from)
                      (for_rule ∙ both_done (token (for_word ∷ [])) (for_opened (deeper r)) ts w us (p, (k, (j, ((x, n), (u, ((y, m), (q, v.0))))))) rest a
                      (both_done (token (left_parenthesis ∷ [])) (for_name (deeper r)) us p us2 (k, (j, ((x, n), (u, ((y, m), (q, v.0)))))) rest b
                      (both_done (token names) (for_arrow (deeper r)) us2 k us3 (j, ((x, n), (u, ((y, m), (q, v.0))))) rest c
                      (both_done (token (left_arrow ∷ [])) (for_start (deeper r)) us3 j us4 ((x, n), (u, ((y, m), (q, v.0)))) rest d
                      (both_done (read (deeper r) Expression) (for_until (deeper r)) us4 (x, n) us5 (u, ((y, m), (q, v.0))) rest e
                      (both_done (token range_kinds) (for_bound (deeper r)) us5 u us6 ((y, m), (q, v.0)) rest g
                      (both_done (read (deeper r) Expression) (for_closed (deeper r)) us6 (y, m) us7 (q, v.0) rest h
                      (both_done (token (right_parenthesis ∷ [])) (read (deeper r) Block) us7 q us8 v.0 rest i v.1))))))))
                      ∙ (ap (λ (b : List Stmt × (ℕ × Span)). Done (stmt (stmt_kind.For k.text x (sort u == to_name) y b.0) (join w.span b.1.1), suc (max n (max m b.1.0))) rest) v.2
                      ∙ (ap (λ b. Done (stmt (stmt_kind.For k.text x b y body) (join w.span close), suc (max n (max m o))) rest) (sym t)
                      ∙ (ap (λ s. Done (stmt (stmt_kind.For k.text x to y body) s, suc (max n (max m o))) rest) (sym s) ∙ ap (λ l. Done (stmt (stmt_kind.For k.text x to y body) span, l) rest) (sym z))))
