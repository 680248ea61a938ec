-- Infix operators, and operands with a prefix or without, as the code reads them.
use Rattle.std.proofs.Common.{◌≡◌, ℕ, zero, suc, ◌<◌, ◌≤◌, List, [], ◌∷◌, refl, ap, ◌∙◌, sym, inl, inr, ◌⊎◌, Bool, true, false, if◌then◌else◌, arith}
use Rattle.std.specs.Prelude.{max, leb, ◌==◌}
use Rattle.std.proofs.lemmas.Bool.{leb-true, leb-false}
use Rattle.sl_grammar.specs.Phrase.{Found, Done, Stopped, found_then, read_both, read_either, read_token}
use Rattle.sl_grammar.specs.Law.{found_as}
use Rattle.sl_grammar.specs.Guard.{guard}
use Rattle.sl_grammar.specs.Grammar.{Form, Token, Ref, Chain, is, has, and, chain_room, read_form}
use Rattle.sl_grammar.specs.Growing.{folded, grown}
use Rattle.sl_grammar.proofs.Grammar.{subset_sound, disjoint_sound}
use Rattle.sl_grammar.proofs.Growing.{found_as_as, chain_grown, shrinks_read}
use Rattle.sl_tree.specs.Sorts.{Spelled, sort, lexeme, minus, exclamation, tilde, number, or_operator, and_operator, equal_operator, less_operator, append_operator, plus_operator, times_operator}
use Rattle.sl_tree.specs.WellShaped.{join, expr, operators, literals, Is}
use Rattle.sl_tree.specs.declared.tree.Expr.{Expr, out-Expr}
use Rattle.sl_tree.specs.declared.tree.ExprKind.{out-ExprKind}
use Rattle.sl_tree.proofs.Trees.{expr_span_is, expr_kind_is}
use Rattle.sl_text.specs.declared.place.Span.{Span}
use Rattle.sl_tree.specs.declared.tree.ExprKind.TheVariants as expr_kind
use Rattle.sl_parse_expr.specs.Names.{Level, Link, Prefix, Minus, Postfix, At, at, Levels, holds, open_to, deeper, fits}
use Rattle.sl_parse_expr.specs.Values.{Tall, T_of, span_of, token_expr, minus_kind, minus_to, prefix_from, infix_to}
use Rattle.sl_parse_expr.specs.Grammar.{grammar, read, room, trees, choose, spells_at, up_to}
use Rattle.sl_parse_expr.specs.Told.{head_sort, reader}
use Rattle.sl_parse_expr.proofs.Laws as laws
use Rattle.sl_parse_expr.proofs.AllSeen.{all_seen}
use Rattle.sl_parse_expr.proofs.Telling.{Shrinks, both_second, both_done, either_left, either_right, room_left, room_right, room_shut, either_fails, loop_ends, loop_shut, loop_stops, loop_goes}
use Rattle.sl_parse_expr.proofs.ExpressionsRead.{none_spelled}
use Rattle.sl_parse_expr.proofs.SeenOperands.{token_literal, number_is_kind}

-- seen as what it is
pub found_same : {X : Type 0} (f : Found Spelled X) → found_as (λ v. v) f ≡ f
found_same (Done v rest) = refl
found_same (Stopped rest) = refl

-- levels

-- one that has operators isn't the last
up_to_less : (m l : ℕ) → l ≤ m → up_to (suc m) l ≡ true → up_to m l ≡ true
up_to_less m zero h e = absurd cc
up_to_less zero (suc l) h e = absurd (omega arith)
up_to_less (suc m) (suc zero) h e = refl
up_to_less (suc m) (suc (suc l)) h e = up_to_less m (suc l) (omega arith) e

up_to_more : (m l : ℕ) → l ≤ m → up_to (suc m) l ≡ true → up_to (suc m) (suc l) ≡ true
up_to_more m zero h e = absurd cc
up_to_more zero (suc l) h e = absurd (omega arith)
up_to_more (suc m) (suc zero) h e = refl
up_to_more (suc m) (suc (suc l)) h e = up_to_more m (suc l) (omega arith) e

pub next_level : (l : ℕ) → l ≤ 7 → up_to 8 l ≡ true → up_to 8 (suc l) ≡ true
next_level l h e = up_to_more 7 l h e

pub some_level : (l : ℕ) → l ≤ 7 → up_to 8 l ≡ true → up_to 7 l ≡ true
some_level l h e = up_to_less 7 l h e

-- there is none above the last
pub most_level : (m l : ℕ) → up_to m l ≡ true → l ≤ m
most_level m zero e = omega arith
most_level zero (suc l) e = absurd cc
most_level (suc m) (suc zero) e = omega arith
most_level (suc m) (suc (suc l)) e = let h = most_level m (suc l) e in omega arith

leb_low : (l : ℕ) → l ≤ 7 → leb l 7 ≡ true
leb_low l h = by (leb l 7) refl
  where
    by : (b : Bool) → leb l 7 ≡ b → leb l 7 ≡ true
    by true e = e
    by false e = absurd (omega (arith, leb-false l 7 e))

leb_high : (l : ℕ) → 7 < l → leb l 7 ≡ false
leb_high l h = by (leb l 7) refl
  where
    by : (b : Bool) → leb l 7 ≡ b → leb l 7 ≡ false
    by true e = absurd (omega (arith, leb-true l 7 e))
    by false e = e

-- no operator is missing
pub no_operator : (l : ℕ) → has (operators l) 99 ≡ false
no_operator l = by (l == 1) (l == 2) (l == 3) (l == 4) (l == 5) (l == 6)
  where
    by : (a b c d e f : Bool)
        → has
        (if a then or_operator ∷ [] else if b then and_operator ∷ [] else if c then equal_operator ∷ [] else if d then less_operator ∷ [] else if e then append_operator ∷ []
        else if f then minus ∷ plus_operator ∷ [] else times_operator ∷ []) 99 ≡ false
    by true b c d e f = refl
    by false true c d e f = refl
    by false false true d e f = refl
    by false false false true e f = refl
    by false false false false true f = refl
    by false false false false false true = refl
    by false false false false false false = refl

abbrev links_form : Levels → ℕ → Form At
links_form r l = Chain (fits r) (at (Level (suc l)) r) (at (Link l) r)

abbrev links_open : Levels → Tall Expr → Bool
links_open r x = and (fits r) (holds (deeper r) x.1)

-- an expression, and the operators of a level that follow it with their right sides
unfoldable pub links_from : Levels → ℕ → Tall Expr → List Spelled → Found Spelled (Tall Expr)
links_from r l x ts = grown (is sort (operators l)) (links_open r) (read r (Link l)) infix_to x ts

module _ (r : Levels) (l : ℕ) (o : open_to r ≡ true) (u : up_to 8 l ≡ true) where
  level_valid : and (open_to r) (up_to 8 l) ≡ true
  level_valid = rw (o) u

  abbrev level_by : Bool → List Spelled → Found Spelled (Tall Expr)
  level_by b ts =
      found_as (λ v. choose (links_form r l) (Ref (at Prefix r)) b (λ v. folded infix_to v.0 v.1) (λ v. v) v) (read_form sort T_of room grammar.sets (if b then links_form r l else Ref (at Prefix r)) reader reader ts)

  level_rule : (ts : List Spelled) → read r (Level l) ts ≡ level_by (leb l 7) ts
  level_rule ts = sym (laws.rule_read all_seen (Level l) r level_valid refl ts)

  -- from level 8 on it's an operand
  pub level_operand : (ts : List Spelled) → 7 < l → read r (Level l) ts ≡ read r Prefix ts
  level_operand ts h = level_rule ts ∙ (ap (λ b. level_by b ts) (leb_high l h) ∙ found_same (read r Prefix ts))

  module _ (low : l ≤ 7) where
    level_chain : (ts : List Spelled) → read r (Level l) ts ≡ found_then (read r (Level (suc l)) ts) (λ x rest. links_from r l x rest)
    unfolding links_from
    level_chain ts =
        level_rule ts ∙ (ap (λ b. level_by b ts) (leb_low l low)
        ∙ chain_grown (is sort (operators l)) (links_open r) (read r (Link l)) infix_to (read r (Level (suc l))) (chain_room sort T_of room (fits r) (at (Level (suc l)) r) (at (Link l) r)) (λ x qs. refl) ts)

    -- the first stops
    pub level_halts : (ts rest : List Spelled) → read r (Level (suc l)) ts ≡ Stopped rest → read r (Level l) ts ≡ Stopped rest
    level_halts ts rest e = level_chain ts ∙ ap (λ f. found_then f (λ x rest. links_from r l x rest)) e

    -- the first, and the loop behind it
    pub level_begins : (ts rest : List Spelled) (x : Tall Expr) → read r (Level (suc l)) ts ≡ Done x rest → read r (Level l) ts ≡ links_from r l x rest
    level_begins ts rest x e = level_chain ts ∙ ap (λ f. found_then f (λ x rest. links_from r l x rest)) e

module _ (r : Levels) (l : ℕ) (x : Tall Expr) (ts : List Spelled) where
  -- no operator of the level comes
  pub links_ends : has (operators l) (head_sort ts) ≡ false → links_from r l x ts ≡ Done x ts
  unfolding links_from
  links_ends h = loop_ends (operators l) (links_open r) (read r (Link l)) infix_to x ts h

  -- there is no room for one
  pub links_shut : fits r ≡ false → links_from r l x ts ≡ Done x ts
  unfolding links_from
  links_shut f = loop_shut (operators l) (links_open r) (read r (Link l)) infix_to x ts (rw (f) refl)

  -- there is none behind so many levels
  pub links_full : holds (deeper r) x.1 ≡ false → links_from r l x ts ≡ Done x ts
  unfolding links_from
  links_full h = loop_shut (operators l) (links_open r) (read r (Link l)) infix_to x ts (by (fits r))
    where
      by : (b : Bool) → and b (holds (deeper r) x.1) ≡ false
      by true = h
      by false = refl

  -- one of these
  pub links_end : and (and (fits r) (holds (deeper r) x.1)) (has (operators l) (head_sort ts)) ≡ false → links_from r l x ts ≡ Done x ts
  links_end e = by (either_fails (and (fits r) (holds (deeper r) x.1)) (has (operators l) (head_sort ts)) e)
    where
      shut : (holds (deeper r) x.1 ≡ false) ⊎ (fits r ≡ false) → links_from r l x ts ≡ Done x ts
      shut (inl g) = links_full g
      shut (inr f) = links_shut f

      by : (has (operators l) (head_sort ts) ≡ false) ⊎ (and (fits r) (holds (deeper r) x.1) ≡ false) → links_from r l x ts ≡ Done x ts
      by (inl h) = links_ends h
      by (inr o) = shut (either_fails (fits r) (holds (deeper r) x.1) o)

  module _ (u : up_to 8 l ≡ true) (low : l ≤ 7) (f : fits r ≡ true) (g : holds (deeper r) x.1 ≡ true) (h : has (operators l) (head_sort ts) ≡ true)
      (more : List Spelled) (k : Spelled) (a : read_token (is sort (operators l)) ts ≡ Done k more) where
    link_valid : and (fits r) (up_to 7 l) ≡ true
    link_valid = rw (f) (some_level l low u)

    links_opened : links_open r x ≡ true
    links_opened = rw (f) g

    link_rule : (ts : List Spelled) → read r (Link l) ts ≡ read_both (read_token (is sort (operators l))) (read (deeper r) (Level (suc l))) ts
    link_rule ts = sym (laws.rule_read all_seen (Link l) r link_valid refl ts) ∙ found_same (read_both (read_token (is sort (operators l))) (read (deeper r) (Level (suc l))) ts)

    link_shrinks : Shrinks (read r (Link l))
    link_shrinks = shrinks_read (spells_at (Link l) r) (read r (Link l)) (laws.reads all_seen (Link l) r link_valid) (λ v w. none_spelled trees (operators l) (Ref (at (Level (suc l)) (deeper r))) v w)

    -- behind an operator there is no whole right side
    pub links_stops : (rest : List Spelled) → read (deeper r) (Level (suc l)) more ≡ Stopped rest → links_from r l x ts ≡ Stopped rest
    unfolding links_from
    links_stops rest e =
        loop_stops (operators l) (links_open r) (read r (Link l)) infix_to x ts rest (no_operator l) h links_opened
        (link_rule ts ∙ both_second (read_token (is sort (operators l))) (read (deeper r) (Level (suc l))) ts k more rest a e)

    -- there is one
    pub links_goes : (rest : List Spelled) (y : Tall Expr) (whole : Expr) (levels : ℕ) → read (deeper r) (Level (suc l)) more ≡ Done y rest
        → whole ≡ expr (expr_kind.Infix x.0 k.text y.0) (join (span_of x.0) (span_of y.0)) → levels ≡ suc (max x.1 y.1) → links_from r l x ts ≡ links_from r l (whole, levels) rest
    unfolding links_from
    links_goes rest y whole levels e s n =
        loop_goes (operators l) (links_open r) (read r (Link l)) infix_to link_shrinks x ts (k, y) rest (no_operator l) h links_opened
        (link_rule ts ∙ both_done (read_token (is sort (operators l))) (read (deeper r) (Level (suc l))) ts k more y rest a e)
        ∙ (ap (λ t. links_from r l (t, suc (max x.1 y.1)) rest) (sym s) ∙ ap (λ n. links_from r l (whole, n) rest) (sym n))

-- an operand

abbrev sign_kinds : List ℕ
sign_kinds = exclamation ∷ tilde ∷ []

-- where one comes, no minus does
pub sign_only : (ts : List Spelled) → has (exclamation ∷ tilde ∷ []) (head_sort ts) ≡ true → has (minus ∷ []) (head_sort ts) ≡ false
sign_only ts h = by (has (minus ∷ []) (head_sort ts)) refl
  where
    by : (b : Bool) → has (minus ∷ []) (head_sort ts) ≡ b → has (minus ∷ []) (head_sort ts) ≡ false
    by true e = absurd (disjoint_sound sign_kinds (minus ∷ []) (head_sort ts) refl h e)
    by false e = e

abbrev read_minus : Levels → List Spelled → Found Spelled (Spelled × Tall Expr)
read_minus r ts = read_both (read_token (is sort (minus ∷ []))) (read r Minus) ts

abbrev read_sign : Levels → List Spelled → Found Spelled (Spelled × Tall Expr)
read_sign r ts = read_both (read_token (is sort sign_kinds)) (read (deeper r) Postfix) ts

abbrev read_bare : Levels → List Spelled → Found Spelled ((Spelled × Tall Expr) ⊎ Tall Expr)
read_bare r ts = read_either (guard (fits r) (is sort sign_kinds)) (read_sign r) (read r Postfix) ts

-- a token that was read is of its kinds
passed : (ks : List ℕ) (ts rest : List Spelled) (j : Spelled) → read_token (is sort ks) ts ≡ Done j rest → Is ks j
passed ks [] rest j e = absurd cc
passed ks (k ∷ ts) rest j e = by (has ks (sort k)) refl e
  where
    by : (b : Bool) → has ks (sort k) ≡ b → (if b then Done k ts else Stopped (k ∷ ts)) ≡ Done j rest → Is ks j
    by true h e = let same : k ≡ j = cc in ap (λ k. has ks (sort k)) (sym same) ∙ h
    by false h e = absurd cc

-- a number behind a minus is one node
one_number : (k j : Spelled) (x : Tall Expr) (s : Span) → x.0 ≡ expr (expr_kind.Literal false (lexeme j)) s → Is (number ∷ []) j → minus_to k x ≡ (expr (expr_kind.Literal true (lexeme j)) (join k.span (span_of x.0)), x.1)
unfolding minus_to out-ExprKind denote.Hole.Carrier.out
one_number k j x s e h =
    ap (λ z. minus_kind k x (out-ExprKind (out-Expr z).kind)) e ∙ (ap (λ z. minus_kind k x (out-ExprKind z)) (expr_kind_is (expr_kind.Literal false (lexeme j)) s)
    ∙ ap (λ b. if b then (expr (expr_kind.Literal true (lexeme j)) (join k.span (span_of x.0)), x.1) else (expr (expr_kind.Prefix k.text x.0) (join k.span (span_of x.0)), suc x.1)) (number_is_kind j h))

number_negated : (k j : Spelled) → Is (number ∷ []) j → minus_to k (token_expr j, 1) ≡ (expr (expr_kind.Literal true (lexeme j)) (join k.span j.span), 1)
number_negated k j is =
    let lit : token_expr j ≡ expr (expr_kind.Literal false (lexeme j)) j.span = token_literal j (subset_sound (number ∷ []) literals (sort j) refl is) in
    one_number k j (token_expr j, 1) j.span lit is
    ∙ ap (λ s. (expr (expr_kind.Literal true (lexeme j)) (join k.span s), 1)) (ap span_of lit ∙ expr_span_is (expr_kind.Literal false (lexeme j)) j.span)

-- neither `!` nor `~` comes, or there is no room for one
abbrev pub NoSign : Levels → List Spelled → Type 0
NoSign r ts = (has (exclamation ∷ tilde ∷ []) (head_sort ts) ≡ false) ⊎ (fits r ≡ false)

module _ (r : Levels) (o : open_to r ≡ true) where
  -- what stands behind a minus: an operand, or a number where there is no room for one

  abbrev minus_by : Bool → List Spelled → Found Spelled (Tall Expr)
  minus_by b ts =
      found_as (λ v. choose (Ref (at Postfix (deeper r))) (Token (number ∷ [])) b (λ v. v) (λ k. (token_expr k, 1)) v) (read_form sort T_of room grammar.sets (if b then Ref (at Postfix (deeper r)) else Token (number ∷ [])) reader reader ts)

  minus_rule : (ts : List Spelled) → read r Minus ts ≡ minus_by (fits r) ts
  minus_rule ts = sym (laws.rule_read all_seen Minus r o refl ts)

  pub minus_operand : (ts : List Spelled) → fits r ≡ true → read r Minus ts ≡ read (deeper r) Postfix ts
  minus_operand ts f = minus_rule ts ∙ (ap (λ b. minus_by b ts) f ∙ found_same (read (deeper r) Postfix ts))

  pub minus_alone : (ts : List Spelled) → fits r ≡ false → read r Minus ts ≡ found_as (λ k. (token_expr k, 1)) (read_token (is sort (number ∷ [])) ts)
  minus_alone ts f = minus_rule ts ∙ ap (λ b. minus_by b ts) f

  prefix_rule : (ts : List Spelled) → read r Prefix ts ≡ found_as prefix_from (read_either (is sort (minus ∷ [])) (read_minus r) (read_bare r) ts)
  prefix_rule ts = sym (laws.rule_read all_seen Prefix r o refl ts)

  prefix_minus : (ts : List Spelled) → has (minus ∷ []) (head_sort ts) ≡ true → read r Prefix ts ≡ found_as (λ p. minus_to p.0 p.1) (read_minus r ts)
  prefix_minus ts h = prefix_rule ts ∙ (ap (found_as prefix_from) (either_left (minus ∷ []) (read_minus r) (read_bare r) ts refl h) ∙ found_as_as prefix_from inl (read_minus r ts))

  module _ (ts more : List Spelled) (k : Spelled) (h : has (minus ∷ []) (head_sort ts) ≡ true) (a : read_token (is sort (minus ∷ [])) ts ≡ Done k more) where
    -- behind a minus there is no whole operand
    pub negated_stops : fits r ≡ true → (rest : List Spelled) → read (deeper r) Postfix more ≡ Stopped rest → read r Prefix ts ≡ Stopped rest
    negated_stops f rest e =
        prefix_minus ts h ∙ ap (found_as (λ p. minus_to p.0 p.1)) (both_second (read_token (is sort (minus ∷ []))) (read r Minus) ts k more rest a (minus_operand more f ∙ e))

    -- there is one
    pub negated : fits r ≡ true → (rest : List Spelled) (x y : Tall Expr) → read (deeper r) Postfix more ≡ Done x rest → y ≡ minus_to k x → read r Prefix ts ≡ Done y rest
    negated f rest x y e s =
        prefix_minus ts h
        ∙ (ap (found_as (λ p. minus_to p.0 p.1)) (both_done (read_token (is sort (minus ∷ []))) (read r Minus) ts k more x rest a (minus_operand more f ∙ e))
        ∙ ap (λ y. Done y rest) (sym s))

    -- where there is no room, behind a minus there is no number
    pub negative_stops : fits r ≡ false → (rest : List Spelled) → read_token (is sort (number ∷ [])) more ≡ Stopped rest → read r Prefix ts ≡ Stopped rest
    negative_stops f rest e =
        prefix_minus ts h
        ∙ ap (found_as (λ p. minus_to p.0 p.1))
        (both_second (read_token (is sort (minus ∷ []))) (read r Minus) ts k more rest a (minus_alone more f ∙ ap (found_as (λ k. (token_expr k, 1))) e))

    -- there is one
    pub negative_one : fits r ≡ false → (rest : List Spelled) (j : Spelled) → read_token (is sort (number ∷ [])) more ≡ Done j rest
        → read r Prefix ts ≡ Done (expr (expr_kind.Literal true (lexeme j)) (join k.span j.span), 1) rest
    negative_one f rest j e =
        let b : read r Minus more ≡ Done (token_expr j, 1) rest = minus_alone more f ∙ ap (found_as (λ k. (token_expr k, 1))) e in
        prefix_minus ts h
        ∙ (ap (found_as (λ p. minus_to p.0 p.1)) (both_done (read_token (is sort (minus ∷ []))) (read r Minus) ts k more (token_expr j, 1) rest a b)
        ∙ ap (λ y. Done y rest) (number_negated k j (passed (number ∷ []) more rest j e)))

  prefix_bare : (ts : List Spelled) → has (minus ∷ []) (head_sort ts) ≡ false → read r Prefix ts ≡ found_as (λ p. prefix_from (inr p)) (read_bare r ts)
  prefix_bare ts h = prefix_rule ts ∙ (ap (found_as prefix_from) (either_right (minus ∷ []) (read_minus r) (read_bare r) ts h) ∙ found_as_as prefix_from inr (read_bare r ts))

  module _ (ts more : List Spelled) (k : Spelled) (h : has (exclamation ∷ tilde ∷ []) (head_sort ts) ≡ true) (f : fits r ≡ true)
      (a : read_token (is sort (exclamation ∷ tilde ∷ [])) ts ≡ Done k more) where
    prefix_sign : read r Prefix ts ≡ found_as (λ p. prefix_from (inr (inl p))) (read_sign r ts)
    prefix_sign =
        prefix_bare ts (sign_only ts h)
        ∙ (ap (found_as (λ p. prefix_from (inr p))) (room_left sign_kinds (read_sign r) (read r Postfix) (fits r) ts f refl h)
        ∙ found_as_as (λ p. prefix_from (inr p)) inl (read_sign r ts))

    -- behind `!` or `~` there is no whole operand
    pub signed_stops : (rest : List Spelled) → read (deeper r) Postfix more ≡ Stopped rest → read r Prefix ts ≡ Stopped rest
    signed_stops rest e = prefix_sign ∙ ap (found_as (λ p. prefix_from (inr (inl p)))) (both_second (read_token (is sort sign_kinds)) (read (deeper r) Postfix) ts k more rest a e)

    -- there is one
    pub signed : (rest : List Spelled) (x : Tall Expr) (whole : Expr) (levels : ℕ) → read (deeper r) Postfix more ≡ Done x rest
        → whole ≡ expr (expr_kind.Prefix k.text x.0) (join k.span (span_of x.0)) → levels ≡ suc x.1 → read r Prefix ts ≡ Done (whole, levels) rest
    signed rest x whole levels e s n =
        prefix_sign
        ∙ (ap (found_as (λ p. prefix_from (inr (inl p)))) (both_done (read_token (is sort sign_kinds)) (read (deeper r) Postfix) ts k more x rest a e)
        ∙ (ap (λ t. Done (t, suc x.1) rest) (sym s) ∙ ap (λ n. Done (whole, n) rest) (sym n)))

  -- it has no prefix
  pub prefix_plain : (ts : List Spelled) → has (minus ∷ []) (head_sort ts) ≡ false → NoSign r ts → read r Prefix ts ≡ read r Postfix ts
  prefix_plain ts m n =
      prefix_bare ts m
      ∙ (ap (found_as (λ p. prefix_from (inr p))) (by n)
      ∙ (found_as_as (λ p. prefix_from (inr p)) inr (read r Postfix ts) ∙ found_same (read r Postfix ts)))
    where
      by : NoSign r ts → read_bare r ts ≡ found_as inr (read r Postfix ts)
      by (inl h) = room_right sign_kinds (read_sign r) (read r Postfix) (fits r) ts h
      by (inr f) = room_shut sign_kinds (read_sign r) (read r Postfix) (fits r) ts f
