-- The span of what is read is that of its tokens, and what is owed of a name whose tree its rule makes.
use Rattle.std.proofs.Common.{◌≡◌, List, [], ◌∷◌, ◌++◌, map, refl, sym, ap, ap₂, ◌∙◌, subst, inl, inr, append-nil, Bool, Option, Some}
use Rattle.sl_text.specs.declared.place.Span.{Span}
use Rattle.sl_grammar.specs.Law.{Seen}
use Rattle.sl_grammar.specs.Many.{spells_many}
use Rattle.sl_grammar.specs.Steps.{spells_steps}
use Rattle.sl_grammar.specs.Grammar.{Form, Token, Nothing, Ref, Then, Either, Room, Many, Chain, Gate, Ahead, Without, Val, spells_form, chain_room, step_on}
use Rattle.sl_tree.specs.Sorts.{Spelled, sort}
use Rattle.sl_tree.specs.WellShaped.{cover}
use Rattle.sl_tree.specs.Declarations.{Limit}
use Rattle.sl_tree.proofs.Spans.{cover_one, cover_both, solid_one}
use Rattle.sl_parse.specs.Names.{Name, rule_of}
use Rattle.sl_parse.specs.Values.{T_of, tree_of, whole, beside, all_beside, total, span_in, value_of}
use Rattle.sl_parse.specs.Grammar.{room, tree, spells, spells_tree}

pub whole_both : (us vs : List Spelled) → whole (us ++ vs) ≡ beside (whole us) (whole vs)
whole_both [] vs = refl
whole_both (k ∷ ks) [] = ap whole (append-nil (k ∷ ks))
whole_both (k ∷ ks) (j ∷ js) = ap Some (cover_both (k ∷ ks) (j ∷ js) (solid_one k ks) (solid_one j js))

pub total_whole : (ts : List Spelled) → total (whole ts) ≡ cover ts
total_whole [] = refl
total_whole (k ∷ ks) = refl

-- what a form spells
abbrev pub Said : Limit → (g : Form Name) → Val sort T_of g → List Spelled → Type 0
Said limit g v ts = spells_form sort T_of room (spells limit) g v ts

-- a token, and a part with what stands behind it
one : (k : Spelled) (ts : List Spelled) → ts ≡ k ∷ [] → Some k.span ≡ whole ts
one k ts e = sym (ap whole e ∙ ap Some (cover_one k))

both : (ts a b : List Spelled) (s t : Option Span) → ts ≡ a ++ b → s ≡ whole a → t ≡ whole b → beside s t ≡ whole ts
both ts a b s t e p q = ap₂ beside p q ∙ (sym (whole_both a b) ∙ ap whole (sym e))

each : {X : Type 0} (p : X → List Spelled → Type 0) (span : X → Option Span) → ((x : X) (ts : List Spelled) → p x ts → span x ≡ whole ts)
    → (xs : List X) (ts : List Spelled) → spells_many p xs ts → all_beside (map span xs) ≡ whole ts
each p span f [] ts e = ap whole (sym e)
each p span f (x ∷ xs) ts (a, b, e, h, w) = both ts a b (span x) (all_beside (map span xs)) e (f x a h) (each p span f xs b w)

links : (limit : Limit) (i j : Name) (more : Bool) (s : T_of i × List (T_of j)) (qs : List (T_of j)) (ts : List Spelled)
    → spells_steps (spells limit j) (chain_room sort T_of room more i j) step_on s qs ts → all_beside (map (λ q. q.1) qs) ≡ whole ts
links limit i j more s [] ts e = ap whole (sym e)
links limit i j more s (q ∷ qs) ts (r, a, b, e, h, w) = both ts a b q.1 (all_beside (map (λ q. q.1) qs)) e h.1 (links limit i j more (step_on s q) qs b w)

-- the span of what a form reads is that of its tokens
pub spanned : (limit : Limit) (g : Form Name) (v : Val sort T_of g) (ts : List Spelled) → Said limit g v ts → span_in g v ≡ whole ts
spanned limit (Token ks) k ts w = one k ts w.0
spanned limit Nothing v ts e = ap whole (sym e)
spanned limit (Ref n) v ts w = w.1
spanned limit (Then p q) v ts (a, b, e, h, w) = both ts a b (span_in p v.0) (span_in q v.1) e (spanned limit p v.0 a h) (spanned limit q v.1 b w)
spanned limit (Either p q) (inl v) ts w = spanned limit p v ts w
spanned limit (Either p q) (inr v) ts w = spanned limit q v ts w
spanned limit (Room c p q) (inl v) ts w = spanned limit p v ts w.1
spanned limit (Room c p q) (inr v) ts w = spanned limit q v ts w
spanned limit (Many p) v ts w = each (Said limit p) (span_in p) (spanned limit p) v ts w
spanned limit (Chain c i j) v ts (a, b, e, h, w) = both ts a b v.0.1 (all_beside (map (λ q. q.1) v.1)) e h.1 (links limit i j c (v.0, []) v.1 b w)
spanned limit (Gate i p q) (x, inl v) ts (a, b, e, h, w) = both ts a b x.1 (span_in p v) e h.1 (spanned limit p v b w.1)
spanned limit (Gate i p q) (x, inr v) ts (a, b, e, h, w) = both ts a b x.1 (span_in q v) e h.1 (spanned limit q v b w)
spanned limit (Ahead ks js p q) (inl v) ts (a, b, e, h, w) = both ts a b (Some v.0.span) (span_in p v.1) e (one v.0 a h.0) (spanned limit p v.1 b w)
spanned limit (Ahead ks js p q) (inr v) ts w = spanned limit q v ts w.1
spanned limit (Without ks p) v ts w = spanned limit p v ts w.1

-- what is owed of a name: both ways between its rule and its trees
abbrev pub To : Limit → Name → Type 0
To limit n = (v : Val sort T_of (rule_of n)) (ts : List Spelled) → Said limit (rule_of n) v ts → spells_tree limit n (value_of n v (cover ts)) ts

abbrev pub Back : Limit → Name → Type 0
Back limit n = (x : tree_of n) (ts : List Spelled) → spells_tree limit n x ts → (v : Val sort T_of (rule_of n)) × (value_of n v (cover ts) ≡ x) × Said limit (rule_of n) v ts

pub seen_by : (limit : Limit) (n : Name) → To limit n → Back limit n → Seen (Said limit (rule_of n)) (tree n) (spells limit n)
seen_by limit n to back = record {
  to = λ v ts w. (subst (λ z. spells_tree limit n (value_of n v z) ts) (sym (covers v ts w)) (to v ts w), spanned limit (rule_of n) v ts w);
  back = λ x ts w.
      let (v, e, h) = back x.0 ts w.0 in
      (v, λ i. ((ap (value_of n v) (covers v ts h) ∙ e) i, (spanned limit (rule_of n) v ts h ∙ sym w.1) i), h);
}
  where
    covers : (v : Val sort T_of (rule_of n)) (ts : List Spelled) → Said limit (rule_of n) v ts → total (span_in (rule_of n) v) ≡ cover ts
    covers v ts w = ap total (spanned limit (rule_of n) v ts w) ∙ total_whole ts
