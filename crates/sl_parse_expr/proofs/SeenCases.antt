-- The rule of a case spells just the cases that are well shaped, and that of `match { .. }` lists of them.
use Rattle.std.proofs.Common.{◌≡◌, ℕ, List, [], ◌∷◌, ◌++◌, refl, sym, ap, ◌∙◌, subst, true, ◌⊎◌, inl, inr, arith}
use Rattle.std.proofs.lemmas.List.{append-nil, append_assoc}
use Rattle.std.specs.Prelude.{Option, max}
use Rattle.sl_grammar.specs.Grammar.{Form, Token, Nothing, Ref, Then, Either, Val, spells_form}
use Rattle.sl_grammar.specs.Many.{spells_many}
use Rattle.sl_tree.specs.declared.tree.Expr.{Expr}
use Rattle.sl_tree.specs.declared.tree.Case.{Case}
use Rattle.sl_tree.specs.Sorts.{Spelled, sort, if_word}
use Rattle.sl_tree.specs.WellShaped.{join, cover, IsCases, IsSomeCases, IsCase, IsGuard, case_of, cases_all, cases_end, cases_more, case_all, guard_not, guard_so}
use Rattle.sl_tree.proofs.Spans.{Solid, cover_ends}
use Rattle.sl_parse_expr.specs.Names.{At, at, Levels, Expression, Matched, A_case, holds, open_to, deeper, rule_at}
use Rattle.sl_parse_expr.specs.Values.{Tall, T_of, MatchedParts, deepest, firsts, cases_in, last_in, guard_from, guard_levels}
use Rattle.sl_parse_expr.specs.Grammar.{room, spells, spells_parts, tree_at, spells_at}
use Rattle.sl_parse_expr.proofs.Rooms.{holds_both, holds_left, holds_right, holds_none}
use Rattle.sl_parse_expr.proofs.SeenAt.{SeenAt}

-- a list that is two, of which the first is one token
pub one_before : {k : Spelled} {ts us vs : List Spelled} → ts ≡ us ++ vs → us ≡ k ∷ [] → ts ≡ k ∷ vs
one_before {k} {ts} {us} {vs} e f = e ∙ ap (λ w. w ++ vs) f

-- the second of two may be told
pub then_is : {ts vs ws : List Spelled} (us : List Spelled) → ts ≡ us ++ vs → vs ≡ ws → ts ≡ us ++ ws
then_is us e f = e ∙ ap (λ w. us ++ w) f

-- a tree and its levels
pub pair_is : {A : Type 0} {x y : A} {m n : ℕ} → x ≡ y → m ≡ n → Path (Tall A) (x, m) (y, n)
pair_is {A} {x} {y} {m} {n} e f = ap (λ z. the_pair z m) e ∙ ap (λ z. the_pair y z) f
  where
    the_pair : A → ℕ → Tall A
    the_pair z l = (z, l)

-- a case within its room
abbrev CaseAt : Levels → Tall Case → List Spelled → Type 0
CaseAt r v ts = IsCase v.1 v.0 ts × (holds r v.1 ≡ true)

-- a case and more behind it
some_cases : (r : Levels) (c : Tall Case) (cs : List (Tall Case)) (us vs ts : List Spelled) → ts ≡ us ++ vs → CaseAt r c us → spells_many (CaseAt r) cs vs
    → IsSomeCases (deepest (c ∷ cs)) (firsts (c ∷ cs)) ts × (holds r (deepest (c ∷ cs)) ≡ true)
some_cases r c [] us vs ts e h w = (cases_end (subst (λ t. IsCase c.1 c.0 t) (sym (then_is us e w ∙ append-nil us)) h.0) refl, h.1)
some_cases r c (d ∷ ds) us vs ts e h (a, b, f, g, w) =
    let rest : IsSomeCases (deepest (d ∷ ds)) (firsts (d ∷ ds)) vs × (holds r (deepest (d ∷ ds)) ≡ true) = some_cases r d ds a b vs f g w in
    (cases_more h.0 rest.0 e refl refl, holds_both r c.1 (deepest (d ∷ ds)) h.1 rest.1)

record CasesFound (r : Levels) (n : ℕ) (cases : List Case) (ts : List Spelled) : Type 0 where
  first : Tall Case
  more : List (Tall Case)
  left : List Spelled
  right : List Spelled
  are : ts ≡ left ++ right
  one : CaseAt r first left
  others : spells_many (CaseAt r) more right
  trees : firsts (first ∷ more) ≡ cases
  levels : deepest (first ∷ more) ≡ n

cases_found : (r : Levels) {n : ℕ} {cases : List Case} {ts : List Spelled} → IsSomeCases n cases ts → holds r n ≡ true → CasesFound r n cases ts
cases_found r {n} {cases} {ts} (cases_end {c = c} h e) o =
    record { first = (c, n); more = []; left = ts; right = []; are = sym (append-nil ts); one = (h, o); others = refl; trees = sym e; levels = refl }
cases_found r {n} {cases} {ts} (cases_more {m = m} {l = l} {rest = rest} {us = us} {vs = vs} {c = c} h w e f g) o =
    let p : holds r (max m l) ≡ true = ap (holds r) (sym g) ∙ o in
    let i : CasesFound r l rest vs = cases_found r w (holds_right r m l p) in
    record {
      first = (c, m);
      more = i.first ∷ i.more;
      left = us;
      right = vs;
      are = e;
      one = (h, holds_left r m l p);
      others = (i.left, i.right, i.are, i.one, i.others);
      trees = ap (λ z. c ∷ z) i.trees ∙ sym f;
      levels = ap (λ z. max m z) i.levels ∙ sym g;
    }

-- `match { .. }`

pub matched_to : (r : Levels) (v : MatchedParts) (ts : List Spelled) → spells_parts Matched r v ts
    → IsCases (deepest (cases_in v)) (firsts (cases_in v)) ts × (holds (deeper r) (deepest (cases_in v)) ≡ true)
matched_to r (k, (p, (c, (cs, q)))) ts (a1, b1, e1, (f1, h1), (a2, b2, e2, (f2, h2), (us, b3, e3, h3, (vs, a4, e4, h4, (f5, h5))))) =
    let all : IsSomeCases (deepest (c ∷ cs)) (firsts (c ∷ cs)) (us ++ vs) × (holds (deeper r) (deepest (c ∷ cs)) ≡ true) = some_cases (deeper r) c cs us vs (us ++ vs) refl h3 h4 in
    let inner : b2 ≡ (us ++ vs) ++ q ∷ [] = then_is us e3 (then_is vs e4 f5) ∙ sym (append_assoc us vs (q ∷ [])) in
    (cases_all k p q h1 h2 all.0 h5 (one_before e1 f1 ∙ ap (λ w. k ∷ w) (one_before e2 f2 ∙ ap (λ w. p ∷ w) inner)), all.1)

pub matched_back : (r : Levels) {n : ℕ} {cases : List Case} {ts : List Spelled} → IsCases n cases ts → holds (deeper r) n ≡ true
    → (v : MatchedParts) × (firsts (cases_in v) ≡ cases) × (deepest (cases_in v) ≡ n) × spells_parts Matched r v ts
matched_back r {n} {cases} {ts} (cases_all {us = us} k p q h1 h2 h3 h4 e) o =
    let i : CasesFound (deeper r) n cases us = cases_found (deeper r) h3 o in
    let inner : us ++ q ∷ [] ≡ i.left ++ (i.right ++ q ∷ []) = ap (λ w. w ++ q ∷ []) i.are ∙ append_assoc i.left i.right (q ∷ []) in (
      (k, (p, (i.first, (i.more, q)))),
      i.trees,
      i.levels,
      (
        k ∷ [],
        p ∷ (us ++ q ∷ []),
        e,
        (refl, h1),
        (
          p ∷ [],
          us ++ q ∷ [],
          refl,
          (refl, h2),
          (i.left, i.right ++ q ∷ [], inner, i.one, (i.right, q ∷ [], refl, i.others, (refl, h4))),
        ),
      ),
    )

-- its end, behind an expression
pub matched_span : (r : Levels) (v : MatchedParts) (es ts : List Spelled) → Solid es → spells_parts Matched r v ts → cover (es ++ ts) ≡ join (cover es) (last_in v).span
matched_span r (k, (p, (c, (cs, q)))) es ts s (a1, b1, e1, (f1, h1), (a2, b2, e2, (f2, h2), (us, b3, e3, h3, (vs, a4, e4, h4, (f5, h5))))) =
    let inner : b2 ≡ (us ++ vs) ++ q ∷ [] = then_is us e3 (then_is vs e4 f5) ∙ sym (append_assoc us vs (q ∷ [])) in
    ap (λ w. cover (es ++ w)) (one_before e1 f1 ∙ ap (λ w. k ∷ w) (one_before e2 f2 ∙ ap (λ w. p ∷ w) inner)) ∙ cover_ends es (k ∷ p ∷ (us ++ vs)) q s

-- a case

abbrev guard_form : Levels → Form At
guard_form r = Either (Then (Token (if_word ∷ [])) (Ref (at Expression r))) Nothing

guard_to : (r : Levels) (v : (Spelled × Tall Expr) ⊎ Unit {0}) (ts : List Spelled) → spells_form sort T_of room spells (guard_form r) v ts
    → IsGuard (guard_levels v) (guard_from v) ts × (holds r (guard_levels v) ≡ true)
guard_to r (inl (i, x)) ts (a, b, e, (f, h), (l, u, g, o)) = (guard_so i h g (one_before e f) refl, o)
guard_to r (inr none) ts e = (guard_not e refl refl, holds_none r)

guard_back : (r : Levels) {n : ℕ} {guard : Option Expr} {ts : List Spelled} → IsGuard n guard ts → holds r n ≡ true
    → (v : (Spelled × Tall Expr) ⊎ Unit {0}) × (guard_from v ≡ guard) × (guard_levels v ≡ n) × spells_form sort T_of room spells (guard_form r) v ts
guard_back r (guard_not e f g) o = (inr tt, sym f, sym g, e)
guard_back r {n} (guard_so {level = level} {us = us} {x = x} i h g e f) o = (inl (i, (x, n)), sym f, refl, (i ∷ [], us, e, (refl, h), (level, omega arith, g, o)))

pub seen_case : (r : Levels) → open_to r ≡ true → SeenAt A_case r
seen_case r room_is = record { to = to; back = back }
  where
    to : (v : Val sort T_of (rule_at A_case r)) (ts : List Spelled) → spells_form sort T_of room spells (rule_at A_case r) v ts → spells_at A_case r (tree_at A_case r v) ts
    to (k, (x, (guard, (a, body)))) ts (a1, b1, e1, (f1, h1), (us, b2, e2, (h2, o2), (vs, b3, e3, h3, (a4, ws, e4, (f4, h4), (h5, o5))))) =
        let g : IsGuard (guard_levels guard) (guard_from guard) vs × (holds r (guard_levels guard) ≡ true) = guard_to r guard vs h3 in
        let are : ts ≡ k ∷ (us ++ (vs ++ a ∷ ws)) = one_before e1 f1 ∙ ap (λ w. k ∷ w) (then_is us e2 (then_is vs e3 (one_before e4 f4))) in
        (case_all k a h1 h2 g.0 h4 h5 are refl refl, holds_both r x.1 (max (guard_levels guard) body.1) o2 (holds_both r (guard_levels guard) body.1 g.1 o5))

    back : (c : Tall Case) (ts : List Spelled) → spells_at A_case r c ts
        → (v : Val sort T_of (rule_at A_case r)) × (tree_at A_case r v ≡ c) × spells_form sort T_of room spells (rule_at A_case r) v ts
    back (c, n) ts (case_all {m = m} {l = l} {o = o} {us = us} {vs = vs} {ws = ws} {x = x} {guard = guard} {body = body} k a h1 h2 h3 h4 h5 e f g, w) =
        let p : holds r (max m (max l o)) ≡ true = ap (holds r) (sym g) ∙ w in
        let q : holds r (max l o) ≡ true = holds_right r m (max l o) p in
        let i : (v : (Spelled × Tall Expr) ⊎ Unit {0}) × (guard_from v ≡ guard) × (guard_levels v ≡ l) × spells_form sort T_of room spells (guard_form r) v vs = guard_back r h3 (holds_left r l o q) in (
          (k, ((x, m), (i.0, (a, (body, o))))),
          pair_is (ap (λ z. case_of x z body) i.1 ∙ sym f) (ap (λ z. max m (max z o)) i.2 ∙ sym g),
          (k ∷ [], us ++ (vs ++ a ∷ ws), e, (refl, h1), (us, vs ++ a ∷ ws, refl, (h2, holds_left r m (max l o) p), (vs, a ∷ ws, refl, i.3, (a ∷ [], ws, refl, (refl, h4), (h5, holds_right r l o q))))),
        )
