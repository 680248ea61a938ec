-- Pairs, notes, parameters, parents and members: what their rules spell, and the trees that are well shaped.
use Rattle.std.proofs.Common.{◌≡◌, ℕ, List, [], ◌∷◌, ◌++◌, refl, sym, ap, ap₂, ◌∙◌, subst, ◌⊎◌, inl, inr, Bool, true, false, append_assoc, if◌then◌else◌, eqb}
use Rattle.std.proofs.lemmas.Bool.{eqb-true}
use Rattle.std.specs.Prelude.{Option, ◌==◌}
use Rattle.sl_grammar.specs.Grammar.{Then, Ref, Val, has}
use Rattle.sl_tree.specs.Sorts.{Spelled, sort, comma, colon, val_word, var_word, separator, extends_word, with_word, override_word}
use Rattle.sl_tree.specs.WellShaped.{Is, names, cover, IsType}
use Rattle.sl_tree.specs.Declarations.{Limit, Nested, repeated_none, repeated_more, Separated, decl, pair_of, note_bare, note_with, IsParam, param_plain, param_val, param_var, params_none, params_some, parents_none, parents_some, IsTyped, typed_not, typed_so, IsGiven, given_not, given_block, given_value, IsMethodParams, method_params_not, method_params_so, IsOverride, override_not, override_so, IsMethod, method_of, IsGlobal, global_of, member_method, member_global, members_none, members_some, braced_not, braced_so}
use Rattle.sl_tree.specs.declared.tree.TypeTerm.{TypeTerm}
use Rattle.sl_tree.specs.declared.tree.Param.{Param}
use Rattle.sl_tree.specs.declared.tree.Keyword.{Keyword}
use Rattle.sl_tree.specs.declared.tree.Keyword.TheVariants as keyword
use Rattle.sl_tree.specs.declared.tree.Body.{Body}
use Rattle.sl_tree.specs.declared.tree.DeclKind.{DeclKind}
use Rattle.sl_tree.specs.declared.tree.DeclKind.TheVariants as decl_kind
use Rattle.sl_tree.proofs.Spellings.{sort_is}
use Rattle.sl_parse_expr.proofs.SeenCases.{one_before, then_is}
use Rattle.sl_parse.specs.Names.{Name, Type_term, Pair, Note_of, Notes, Param_of, Params, Parents, Member, Members, Braced, T, perhaps, listed, typed_form, given_form, method_form, global_form, extends_form}
use Rattle.sl_parse.specs.Values.{Covered, T_of, tree_of, whole, firsts, extends_in, keyword_of, param_from, method_params_in, overrides_in, typed_in, given_in, global_from, GlobalParts, method_from, MethodParts}
use Rattle.sl_parse.specs.Grammar.{spells, spells_tree}
use Rattle.sl_parse.proofs.Lists.{listed_to, listed_back}
use Rattle.sl_parse.proofs.Spans.{Said, To, Back}

-- one and more of what has a name, with a token between each two; a tree without its span

abbrev bare : {X : Type 0} → Covered X → X
bare v = v.0

several_to : (limit : Limit) (n : Name) (sorts : List ℕ) (v : T_of n × List (Spelled × T_of n)) (ts : List Spelled)
    → Said limit (listed sorts (Ref n)) v ts → Separated (tree_of n) sorts (spells_tree limit n) (firsts v.0 v.1) ts
several_to limit n sorts (x, more) ts (a, b, e, w, ws) =
    subst (λ z. Separated (tree_of n) sorts (spells_tree limit n) (firsts x more) z) (sym e) (listed_to sorts (spells limit n) (spells_tree limit n) bare (λ v us u. u.0) x more a b w ws)

several_back : (limit : Limit) (n : Name) (sorts : List ℕ) {xs : List (tree_of n)} {ts : List Spelled} → Separated (tree_of n) sorts (spells_tree limit n) xs ts
    → (v : T_of n × List (Spelled × T_of n)) × (firsts v.0 v.1 ≡ xs) × Said limit (listed sorts (Ref n)) v ts
several_back limit n sorts w =
    let (v, more, ex, a, b, e, u, us) = listed_back sorts (spells limit n) (spells_tree limit n) bare (λ x us u. ((x, whole us), refl, (u, refl))) w in
    ((v, more), ex, (a, b, e, u, us))

-- `NAME = EXPR`

pub pair_to : (limit : Limit) → To limit Pair
pair_to limit (k, (s, e)) ts (a, b, ea, (ek, hk), (c, d, eb, (es, hs), (w, span))) = pair_of k s hk hs w (one_before ea ek ∙ ap (λ z. k ∷ z) (one_before eb es)) refl

pub pair_back : (limit : Limit) → Back limit Pair
pair_back limit x ts (pair_of {us} {e} k s hk hs w et ex) = ((k, (s, (e, whole us))), sym ex, (k ∷ [], s ∷ us, et, (refl, hk), (s ∷ [], us, refl, (refl, hs), (w, refl))))

-- notes

pub note_to : (limit : Limit) → To limit Note_of
note_to limit (a, (k, inr none)) ts (b, c, e, (ea, ha), (d, f, ec, (ek, hk), en)) = note_bare a k ha hk (one_before e ea ∙ ap (λ z. a ∷ z) (one_before ec ek ∙ ap (λ z. k ∷ z) en)) refl
note_to limit (a, (k, inl (p, (x, (more, q))))) ts (b, c, e, (ea, ha), (d, f, ec, (ek, hk), (g, h, ef, (ep, hp), (i, j, eh, w, (l, m, ej, ws, (eq, hq)))))) =
    let all : h ≡ (i ++ l) ++ q ∷ [] = then_is i eh (then_is l ej eq) ∙ sym (append_assoc i l (q ∷ [])) in
    note_with a k p q ha hk hp (several_to limit Pair (comma ∷ []) (x, more) (i ++ l) (i, l, refl, w, ws)) hq
    (one_before e ea ∙ ap (λ z. a ∷ z) (one_before ec ek ∙ ap (λ z. k ∷ z) (one_before ef ep ∙ ap (λ z. p ∷ z) all))) refl

pub note_back : (limit : Limit) → Back limit Note_of
note_back limit x ts (note_bare a k ha hk et ex) = ((a, (k, inr tt)), sym ex, (a ∷ [], k ∷ [], et, (refl, ha), (k ∷ [], [], refl, (refl, hk), refl)))
note_back limit x ts (note_with {us} a k p q ha hk hp w hq et ex) =
    let (v, ev, (b, c, e, u, rest)) = several_back limit Pair (comma ∷ []) w in
    let all : us ++ q ∷ [] ≡ b ++ (c ++ q ∷ []) = ap (λ z. z ++ q ∷ []) e ∙ append_assoc b c (q ∷ []) in (
      (a, (k, inl (p, (v.0, (v.1, q))))),
      ap (λ z. record { name = k.text; pairs = z; span = cover ts }) ev ∙ sym ex,
      (
        a ∷ [],
        k ∷ p ∷ (us ++ q ∷ []),
        et,
        (refl, ha),
        (k ∷ [], p ∷ (us ++ q ∷ []), refl, (refl, hk), (p ∷ [], us ++ q ∷ [], refl, (refl, hp), (b, c ++ q ∷ [], all, u, (c, q ∷ [], refl, rest, (refl, hq))))),
      ),
    )

pub notes_to : (limit : Limit) → To limit Notes
notes_to limit [] ts e = repeated_none e refl
notes_to limit (x ∷ xs) ts (a, b, e, w, ws) = repeated_more w.0 (notes_to limit xs b ws) e refl

pub notes_back : (limit : Limit) → Back limit Notes
notes_back limit x ts (repeated_none e ex) = ([], sym ex, e)
notes_back limit x ts (repeated_more {rest} {us} {vs} {x = y} w ws e ex) =
    let (v, ev, u) = notes_back limit rest vs ws in
    ((y, whole us) ∷ v, ap (λ z. y ∷ z) ev ∙ sym ex, (us, vs, e, (w, refl), u))

-- parameters

-- the sort of a token of one sort
of_sort : (of : ℕ) (w : Spelled) → Is (of ∷ []) w → of ≡ sort w
of_sort of w is = eqb-true of (sort w) (by (eqb of (sort w)) is)
  where
    by : (b : Bool) → (if b then true else false) ≡ true → b ≡ true
    by true e = e
    by false e = e

-- the word before a parameter is one or the other
abbrev IsWord : ℕ → Keyword → Spelled → Type 0
IsWord of word w = Is (of ∷ []) w × (keyword_of (sort w) ≡ word)

val_is : (w : Spelled) → Is (val_word ∷ []) w → IsWord val_word keyword.Val w
val_is w is = (is, sym (ap keyword_of (of_sort val_word w is)))

var_is : (w : Spelled) → Is (var_word ∷ []) w → IsWord var_word keyword.Var w
var_is w is = (is, sym (ap keyword_of (of_sort var_word w is)))

which : (w : Spelled) → Is (val_word ∷ var_word ∷ []) w → IsWord val_word keyword.Val w ⊎ IsWord var_word keyword.Var w
which w is = by (eqb val_word (sort w)) refl is
  where
    by : (b : Bool) → eqb val_word (sort w) ≡ b → (if b then true else has (var_word ∷ []) (sort w)) ≡ true → IsWord val_word keyword.Val w ⊎ IsWord var_word keyword.Var w
    by true e h = inl (val_is w (sort_is val_word w (sym (eqb-true val_word (sort w) e))))
    by false e h = inr (var_is w h)

either_word : (w : Spelled) → Is (val_word ∷ []) w ⊎ Is (var_word ∷ []) w → Is (val_word ∷ var_word ∷ []) w
either_word w (inl is) = subst (λ z. has (val_word ∷ var_word ∷ []) z ≡ true) (of_sort val_word w is) refl
either_word w (inr is) = subst (λ z. has (val_word ∷ var_word ∷ []) z ≡ true) (of_sort var_word w is) refl

-- `NAME: TYPE`, with such a word or not
param_as : (limit : Limit) (w k c : Spelled) (t : TypeTerm) {ts us : List Spelled} → IsWord val_word keyword.Val w ⊎ IsWord var_word keyword.Var w → Is names k → Is (colon ∷ []) c
    → Nested limit IsType t us → ts ≡ w ∷ k ∷ c ∷ us → IsParam limit (param_from (keyword_of (sort w)) k t) ts
param_as limit w k c t (inl (is, word)) hk hc d e = param_val w k c is hk hc d e (ap (λ z. param_from z k t) word)
param_as limit w k c t (inr (is, word)) hk hc d e = param_var w k c is hk hc d e (ap (λ z. param_from z k t) word)

pub param_to : (limit : Limit) → To limit Param_of
param_to limit (inr none, (k, (c, t))) ts (a, b, e, ea, (d, f, eb, (ek, hk), (g, h, ef, (ec, hc), (w, span)))) =
    param_plain k c hk hc w (e ∙ ap (λ z. z ++ b) ea ∙ (one_before eb ek ∙ ap (λ z. k ∷ z) (one_before ef ec))) refl
param_to limit (inl word, (k, (c, t))) ts (a, b, e, (ea, is), (d, f, eb, (ek, hk), (g, h, ef, (ec, hc), (w, span)))) =
    param_as limit word k c t.0 (which word is) hk hc w (one_before e ea ∙ ap (λ z. word ∷ z) (one_before eb ek ∙ ap (λ z. k ∷ z) (one_before ef ec)))

named_back : (limit : Limit) {us : List Spelled} {t : TypeTerm} (k c : Spelled) → Is names k → Is (colon ∷ []) c → Nested limit IsType t us
    → Said limit (Then (T names) typed_form) (k, (c, (t, whole us))) (k ∷ c ∷ us)
named_back limit {us} k c hk hc d = (k ∷ [], c ∷ us, refl, (refl, hk), (c ∷ [], us, refl, (refl, hc), (d, refl)))

pub param_back : (limit : Limit) → Back limit Param_of
param_back limit x ts (param_plain {us} {t} k c hk hc d e ex) = ((inr tt, (k, (c, (t, whole us)))), sym ex, ([], k ∷ c ∷ us, e, refl, named_back limit k c hk hc d))
param_back limit x ts (param_val {us} {t} w k c hw hk hc d e ex) = (
  (inl w, (k, (c, (t, whole us)))),
  ap (λ z. param_from z k t) (val_is w hw).1 ∙ sym ex,
  (w ∷ [], k ∷ c ∷ us, e, (refl, either_word w (inl hw)), named_back limit k c hk hc d),
)
param_back limit x ts (param_var {us} {t} w k c hw hk hc d e ex) = (
  (inl w, (k, (c, (t, whole us)))),
  ap (λ z. param_from z k t) (var_is w hw).1 ∙ sym ex,
  (w ∷ [], k ∷ c ∷ us, e, (refl, either_word w (inr hw)), named_back limit k c hk hc d),
)

-- parameters in parentheses

pub params_to : (limit : Limit) → To limit Params
params_to limit (p, (inr none, q)) ts (a, b, e, (ep, hp), (c, d, eb, ec, (eq, hq))) = params_none p q hp hq (one_before e ep ∙ ap (λ z. p ∷ z) (eb ∙ ap₂ (λ y z. y ++ z) ec eq)) refl
params_to limit (p, (inl v, q)) ts (a, b, e, (ep, hp), (c, d, eb, w, (eq, hq))) =
    params_some p q hp (several_to limit Param_of (comma ∷ []) v c w) hq (one_before e ep ∙ ap (λ z. p ∷ z) (then_is c eb eq))

pub params_back : (limit : Limit) → Back limit Params
params_back limit x ts (params_none p q hp hq et ex) = ((p, (inr tt, q)), sym ex, (p ∷ [], q ∷ [], et, (refl, hp), ([], q ∷ [], refl, refl, (refl, hq))))
params_back limit x ts (params_some {us} p q hp w hq et) =
    let (v, ev, u) = several_back limit Param_of (comma ∷ []) w in
    ((p, (inl v, q)), ev, (p ∷ [], us ++ q ∷ [], et, (refl, hp), (us, q ∷ [], refl, u, (refl, hq))))

-- parents

-- `extends TYPE with TYPE ..`
extends_to : (limit : Limit) (v : Val sort T_of extends_form) (ts : List Spelled) → Said limit extends_form v ts
    → (us : List Spelled) × Is (extends_word ∷ []) v.0 × Separated TypeTerm (with_word ∷ []) (Nested limit IsType) (extends_in v) us × (ts ≡ v.0 ∷ us)
extends_to limit (w, v) ts (a, b, e, (ew, hw), u) = (b, hw, several_to limit Type_term (with_word ∷ []) v b u, one_before e ew)

extends_back : (limit : Limit) {xs : List TypeTerm} {ts us : List Spelled} (w : Spelled)
    → Is (extends_word ∷ []) w → Separated TypeTerm (with_word ∷ []) (Nested limit IsType) xs us → ts ≡ w ∷ us
    → (v : Val sort T_of extends_form) × (extends_in v ≡ xs) × Said limit extends_form v ts
extends_back limit {us} w hw d e =
    let (v, ev, u) = several_back limit Type_term (with_word ∷ []) d in
    ((w, v), ev, (w ∷ [], us, e, (refl, hw), u))

pub parents_to : (limit : Limit) → To limit Parents
parents_to limit (inr none) ts e = parents_none e refl
parents_to limit (inl v) ts w = let (us, hw, d, e) = extends_to limit v ts w in parents_some v.0 hw d e

pub parents_back : (limit : Limit) → Back limit Parents
parents_back limit x ts (parents_none e ex) = (inr tt, sym ex, e)
parents_back limit x ts (parents_some w hw d e) = let (v, ev, u) = extends_back limit w hw d e in (inl v, ev, u)

-- parts of members: `override`, `: TYPE`, a body, a method's parameters, or nothing

override_to : (limit : Limit) (v : Val sort T_of (perhaps (T (override_word ∷ [])))) (ts : List Spelled) → Said limit (perhaps (T (override_word ∷ []))) v ts → IsOverride (overrides_in v) ts
override_to limit (inl w) ts (e, hw) = override_so w hw e refl
override_to limit (inr none) ts e = override_not e refl

override_back : (limit : Limit) {o : Bool} {ts : List Spelled} → IsOverride o ts
    → (v : Val sort T_of (perhaps (T (override_word ∷ [])))) × (overrides_in v ≡ o) × Said limit (perhaps (T (override_word ∷ []))) v ts
override_back limit (override_so w hw e eo) = (inl w, sym eo, (e, hw))
override_back limit (override_not e eo) = (inr tt, sym eo, e)

typed_to : (limit : Limit) (v : Val sort T_of (perhaps typed_form)) (ts : List Spelled) → Said limit (perhaps typed_form) v ts → IsTyped limit (typed_in v) ts
typed_to limit (inl (c, t)) ts (a, b, e, (ec, hc), (w, span)) = typed_so c hc w (one_before e ec) refl
typed_to limit (inr none) ts e = typed_not e refl

typed_back : (limit : Limit) {o : Option TypeTerm} {ts : List Spelled} → IsTyped limit o ts
    → (v : Val sort T_of (perhaps typed_form)) × (typed_in v ≡ o) × Said limit (perhaps typed_form) v ts
typed_back limit (typed_so {us} {t} c hc w e eo) = (inl (c, (t, whole us)), sym eo, (c ∷ [], us, e, (refl, hc), (w, refl)))
typed_back limit (typed_not e eo) = (inr tt, sym eo, e)

given_to : (limit : Limit) (v : Val sort T_of (perhaps given_form)) (ts : List Spelled) → Said limit (perhaps given_form) v ts → IsGiven limit (given_in v) ts
given_to limit (inl (s, inl stmts)) ts (a, b, e, (es, hs), (w, span)) = given_block s hs w (one_before e es) refl
given_to limit (inl (s, inr x)) ts (a, b, e, (es, hs), (w, span)) = given_value s hs w (one_before e es) refl
given_to limit (inr none) ts e = given_not e refl

given_back : (limit : Limit) {o : Option Body} {ts : List Spelled} → IsGiven limit o ts
    → (v : Val sort T_of (perhaps given_form)) × (given_in v ≡ o) × Said limit (perhaps given_form) v ts
given_back limit (given_block {us} {stmts} s hs w e eo) = (inl (s, inl (stmts, whole us)), sym eo, (s ∷ [], us, e, (refl, hs), (w, refl)))
given_back limit (given_value {us} {e = x} s hs w e eo) = (inl (s, inr (x, whole us)), sym eo, (s ∷ [], us, e, (refl, hs), (w, refl)))
given_back limit (given_not e eo) = (inr tt, sym eo, e)

method_params_to : (limit : Limit) (v : Val sort T_of (perhaps (Ref Params))) (ts : List Spelled) → Said limit (perhaps (Ref Params)) v ts → IsMethodParams limit (method_params_in v) ts
method_params_to limit (inl params) ts (w, span) = method_params_so w refl
method_params_to limit (inr none) ts e = method_params_not e refl

method_params_back : (limit : Limit) {o : Option (List Param)} {ts : List Spelled} → IsMethodParams limit o ts
    → (v : Val sort T_of (perhaps (Ref Params))) × (method_params_in v ≡ o) × Said limit (perhaps (Ref Params)) v ts
method_params_back limit {ts = ts} (method_params_so {params} w eo) = (inl (params, whole ts), sym eo, (w, refl))
method_params_back limit (method_params_not e eo) = (inr tt, sym eo, e)

-- methods and globals

method_to : (limit : Limit) (o : Bool) (v : MethodParts) (ts : List Spelled) → Said limit method_form v ts → IsMethod limit o (method_from o v) ts
method_to limit o (w, (k, (types, (params, (c, (result, given)))))) ts (a, b, e, (ew, hw), (d, f, eb, (ek, hk), (us, g, ef, (hu, su), (vs, h, eg, hv, (i, j, eh, (ec, hc), (ws, xs, ej, (hs, ss), hx)))))) =
    method_of w k c hw hk hu (method_params_to limit params vs hv) hc hs (given_to limit given xs hx)
    (one_before e ew ∙ ap (λ z. w ∷ z) (one_before eb ek ∙ ap (λ z. k ∷ z) (then_is us ef (then_is vs eg (one_before eh ec ∙ ap (λ z. c ∷ z) ej))))) refl

method_back : (limit : Limit) (o : Bool) {kind : DeclKind} {ts : List Spelled} → IsMethod limit o kind ts → (v : MethodParts) × (method_from o v ≡ kind) × Said limit method_form v ts
method_back limit o (method_of {us} {vs} {ws} {xs} {types} {result} w k c hw hk hu hv hc hs hx e ek) =
    let (params, ep, sp) = method_params_back limit hv in
    let (given, eg, sg) = given_back limit hx in (
      (w, (k, ((types, whole us), (params, (c, ((result, whole ws), given)))))),
      ap₂ (λ y z. decl_kind.Method o k.text types y result z) ep eg ∙ sym ek,
      (
        w ∷ [],
        k ∷ (us ++ (vs ++ c ∷ (ws ++ xs))),
        e,
        (refl, hw),
        (k ∷ [], us ++ (vs ++ c ∷ (ws ++ xs)), refl, (refl, hk), (us, vs ++ c ∷ (ws ++ xs), refl, (hu, refl), (vs, c ∷ (ws ++ xs), refl, sp, (c ∷ [], ws ++ xs, refl, (refl, hc), (ws, xs, refl, (hs, refl), sg))))),
      ),
    )

global_to : (limit : Limit) (o : Bool) (v : GlobalParts) (ts : List Spelled) → Said limit global_form v ts → IsGlobal limit o (global_from o v) ts
global_to limit o (w, (k, (typed, (s, x)))) ts (a, b, e, (ew, hw), (c, d, eb, (ek, hk), (us, f, ed, hu, (g, vs, ef, (es, hs), (hv, span))))) =
    global_of w k s hw hk (typed_to limit typed us hu) hs hv (one_before e ew ∙ ap (λ z. w ∷ z) (one_before eb ek ∙ ap (λ z. k ∷ z) (then_is us ed (one_before ef es)))) refl

global_back : (limit : Limit) (o : Bool) {kind : DeclKind} {ts : List Spelled} → IsGlobal limit o kind ts → (v : GlobalParts) × (global_from o v ≡ kind) × Said limit global_form v ts
global_back limit o (global_of {us} {vs} {e = x} w k s hw hk hu hs hv e ek) =
    let (typed, et, st) = typed_back limit hu in (
      (w, (k, (typed, (s, (x, whole vs))))),
      ap (λ z. decl_kind.Global o (sort w == var_word) k.text z x) et ∙ sym ek,
      (w ∷ [], k ∷ (us ++ s ∷ vs), e, (refl, hw), (k ∷ [], us ++ s ∷ vs, refl, (refl, hk), (us, s ∷ vs, refl, st, (s ∷ [], vs, refl, (refl, hs), (hv, refl))))),
    )

-- members

pub member_to : (limit : Limit) (globals : Bool) → To limit (Member globals)
member_to limit globals (notes, (o, inl v)) ts (a, b, e, (hn, span), (c, d, eb, ho, (room, w))) =
    member_global hn (override_to limit o c ho) (global_to limit (overrides_in o) v d w) room (then_is a e eb) refl
member_to limit globals (notes, (o, inr v)) ts (a, b, e, (hn, span), (c, d, eb, ho, w)) =
    member_method hn (override_to limit o c ho) (method_to limit (overrides_in o) v d w) (then_is a e eb) refl

pub member_back : (limit : Limit) (globals : Bool) → Back limit (Member globals)
member_back limit globals x ts (member_method {o} {us} {vs} {ws} {notes} hn ho hm et ex) =
    let (v, ev, w) = method_back limit o hm in
    let (u, eu, wu) = override_back limit ho in (
      ((notes, whole us), (u, inr v)),
      ap (λ z. decl notes (method_from z v) (cover ts)) eu ∙ (ap (λ z. decl notes z (cover ts)) ev ∙ sym ex),
      (us, vs ++ ws, et, (hn, refl), (vs, ws, refl, wu, w)),
    )
member_back limit globals x ts (member_global {o} {us} {vs} {ws} {notes} hn ho hm room et ex) =
    let (v, ev, w) = global_back limit o hm in
    let (u, eu, wu) = override_back limit ho in (
      ((notes, whole us), (u, inl v)),
      ap (λ z. decl notes (global_from z v) (cover ts)) eu ∙ (ap (λ z. decl notes z (cover ts)) ev ∙ sym ex),
      (us, vs ++ ws, et, (hn, refl), (vs, ws, refl, wu, (room, w))),
    )

pub members_to : (limit : Limit) (globals : Bool) → To limit (Members globals)
members_to limit globals (inl v, q) ts (a, b, e, w, (eq, hq)) = (a, q, members_some (several_to limit (Member globals) (separator ∷ []) v a w), hq, then_is a e eq)
members_to limit globals (inr none, q) ts (a, b, e, w, (eq, hq)) = (a, q, members_none w refl, hq, then_is a e eq)

pub members_back : (limit : Limit) (globals : Bool) → Back limit (Members globals)
members_back limit globals x ts (us, q, members_none e ex, hq, et) = ((inr tt, q), sym ex, (us, q ∷ [], et, e, (refl, hq)))
members_back limit globals x ts (us, q, members_some d, hq, et) =
    let (v, ev, w) = several_back limit (Member globals) (separator ∷ []) d in
    ((inl v, q), ev, (us, q ∷ [], et, w, (refl, hq)))

pub braced_to : (limit : Limit) (globals : Bool) → To limit (Braced globals)
braced_to limit globals (inl (p, members)) ts (a, b, e, (ep, hp), ((us, q, d, hq, eb), span)) = braced_so p q hp d hq (one_before e ep ∙ ap (λ z. p ∷ z) eb) refl
braced_to limit globals (inr none) ts e = braced_not e refl

pub braced_back : (limit : Limit) (globals : Bool) → Back limit (Braced globals)
braced_back limit globals x ts (braced_so {us} {members} p q hp d hq e ex) =
    (inl (p, (members, whole (us ++ q ∷ []))), sym ex, (p ∷ [], us ++ q ∷ [], e, (refl, hp), ((us, q, d, hq, refl), refl)))
braced_back limit globals x ts (braced_not e ex) = (inr tt, sym ex, e)
