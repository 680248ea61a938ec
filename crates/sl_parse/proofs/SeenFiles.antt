-- Declarations and files: what their rules spell, and the trees that are well shaped.
use Rattle.std.proofs.Common.{◌≡◌, ℕ, List, [], ◌∷◌, ◌++◌, refl, sym, ap, ap₂, ◌∙◌, ◌⊎◌, inl, inr, true}
use Rattle.std.specs.Prelude.{Option}
use Rattle.sl_grammar.specs.Grammar.{Form, Then, Val}
use Rattle.sl_tree.specs.Sorts.{Spelled, sort, class_word, object_word, trait_word}
use Rattle.sl_tree.specs.WellShaped.{Is, names, cover}
use Rattle.sl_tree.specs.Declarations.{Limit, IsParents, parents_none, IsBraced, braced_not, is_enum, is_ints, is_class, is_trait, is_object, decl_of, IsItems, items_none, items_import, items_decl, file_of}
use Rattle.sl_tree.specs.declared.tree.TypeTerm.{TypeTerm}
use Rattle.sl_tree.specs.declared.tree.Decl.{Decl}
use Rattle.sl_tree.specs.declared.tree.DeclKind.{DeclKind}
use Rattle.sl_tree.specs.declared.tree.DeclKind.TheVariants as decl_kind
use Rattle.sl_tree.specs.declared.tree.Import.{Import}
use Rattle.sl_parse_expr.proofs.SeenCases.{one_before, then_is}
use Rattle.sl_parse.specs.Names.{Name, Parents, Braced, Declared, Decl_of, Item, File_of, T, perhaps, class_tail, trait_tail, object_tail, rule_of}
use Rattle.sl_parse.specs.Values.{Covered, T_of, whole, parents_in, braced_in, ExtendsParts, ClassParts, TraitParts, ObjectParts, DeclaredParts, declared_from, imports_in, decls_in}
use Rattle.sl_parse.specs.Told.{items_form}
use Rattle.sl_parse.proofs.Spans.{Said, To, Back}
use Rattle.sl_parse.proofs.SeenMembers.{parents_to, parents_back, braced_to, braced_back}

-- a list that begins with two tokens
two_before : {w k : Spelled} {ts a b c d : List Spelled} → ts ≡ a ++ b → a ≡ w ∷ [] → b ≡ c ++ d → c ≡ k ∷ [] → ts ≡ w ∷ k ∷ d
two_before {w} e ea f fc = one_before e ea ∙ ap (λ z. w ∷ z) (one_before f fc)

-- and what is known of the rest
two_then : {w k : Spelled} {ts d x : List Spelled} → ts ≡ w ∷ k ∷ d → d ≡ x → ts ≡ w ∷ k ∷ x
two_then {w} {k} e f = e ∙ ap (λ z. w ∷ k ∷ z) f

-- what is declared

pub declared_to : (limit : Limit) → To limit Declared
declared_to limit (inl (w, (k, inl (types, (params, (parents, methods)))))) ts (a, b, e, (ea, hw), (c, d, f, (fc, hk), (us, g, e1, h1, (vs, i, e2, h2, (ws, xs, e3, h3, h4))))) =
    is_class w k hw hk h1.0 h2.0 h3.0 h4.0 (two_then (two_before e ea f fc) (then_is us e1 (then_is vs e2 e3))) refl
declared_to limit (inl (w, (k, inr none))) ts (a, b, e, (ea, hw), (c, d, f, (fc, hk), g)) = is_ints w k hw hk (two_then (two_before e ea f fc) g) refl
declared_to limit (inr (inl (w, (k, (types, (parents, methods)))))) ts (a, b, e, (ea, hw), (c, d, f, (fc, hk), (us, g, e1, h1, (vs, ws, e2, h2, h3)))) =
    is_trait w k hw hk h1.0 h2.0 h3.0 (two_then (two_before e ea f fc) (then_is us e1 e2)) refl
declared_to limit (inr (inr (w, (k, inl (parents, members))))) ts (a, b, e, (ea, hw), (c, d, f, (fc, hk), (us, vs, g, h1, h2))) =
    is_object w k hw hk (parents_to limit (inl parents) us h1) h2.0 (two_then (two_before e ea f fc) g) refl
declared_to limit (inr (inr (w, (k, inr (inl (p, inl all)))))) ts (a, b, e, (ea, hw), (c, d, f, (fc, hk), (i, j, g, (gi, hp), ((us, q, hs, hq, hj), span)))) =
    is_enum w k p q hw hk hp hs hq (two_then (two_before e ea f fc) (one_before g gi ∙ ap (λ z. p ∷ z) hj)) refl
declared_to limit (inr (inr (w, (k, inr (inl (p, inr members)))))) ts (a, b, e, (ea, hw), (c, d, f, (fc, hk), h)) =
    is_object w k hw hk (parents_none refl refl) (braced_to limit true (inl (p, members)) d h) (two_before e ea f fc) refl
declared_to limit (inr (inr (w, (k, inr (inr none))))) ts (a, b, e, (ea, hw), (c, d, f, (fc, hk), g)) =
    is_object w k hw hk (parents_none refl refl) (braced_not refl refl) (two_then (two_before e ea f fc) g) refl

-- a word and a name, and what stands behind them
headed : (limit : Limit) (word : ℕ) (g : Form Name) {ts us : List Spelled} (w k : Spelled) (v : Val sort T_of g)
    → Is (word ∷ []) w → Is names k → ts ≡ w ∷ k ∷ us → Said limit g v us → Said limit (Then (T (word ∷ [])) (Then (T names) g)) (w, (k, v)) ts
headed limit word g {us} w k v hw hk e h = (w ∷ [], k ∷ us, e, (refl, hw), (k ∷ [], us, refl, (refl, hk), h))

-- an object that is no enum
object_back : (limit : Limit) {kind : DeclKind} {ts us vs : List Spelled} {parents : List TypeTerm} {members : Option (List Decl)} (w k : Spelled)
    → Is (object_word ∷ []) w → Is names k → IsParents limit parents us → IsBraced limit true members vs
    → ts ≡ w ∷ k ∷ (us ++ vs) → kind ≡ decl_kind.Object k.text parents members
    → (v : DeclaredParts) × (declared_from v ≡ kind) × Said limit (rule_of Declared) v ts
object_back limit {kind} {ts} {us} {vs} {parents} {members} w k hw hk hp hm e ek = by (parents_back limit parents us hp)
  where
    Goal : Type 0
    Goal = (v : DeclaredParts) × (declared_from v ≡ kind) × Said limit (rule_of Declared) v ts

    kinds : {y : List TypeTerm} {z : Option (List Decl)} → y ≡ parents → z ≡ members → decl_kind.Object k.text y z ≡ kind
    kinds f g = ap₂ (λ y z. decl_kind.Object k.text y z) f g ∙ sym ek

    object : (v : ObjectParts) {xs : List Spelled} → ts ≡ w ∷ k ∷ xs → Said limit object_tail v xs → Said limit (rule_of Declared) (inr (inr (w, (k, v)))) ts
    object v f h = headed limit object_word object_tail w k v hw hk f h

    -- with no `extends`
    plain : [] ≡ parents → us ≡ [] → (v : (Spelled × Covered (List Decl)) ⊎ Unit {0}) × (braced_in v ≡ members) × Said limit (rule_of (Braced true)) v vs → Goal
    plain ep eu (inl (p, all), em, h) = (inr (inr (w, (k, inr (inl (p, inr all))))), kinds ep em, object (inr (inl (p, inr all))) (two_then e (ap (λ z. z ++ vs) eu)) h)
    plain ep eu (inr none, em, h) = (inr (inr (w, (k, inr (inr none)))), kinds ep em, object (inr (inr none)) (two_then e (ap₂ (λ y z. y ++ z) eu h)) refl)

    by : (v : ExtendsParts ⊎ Unit {0}) × (parents_in v ≡ parents) × Said limit (rule_of Parents) v us → Goal
    by (inl v, ep, h) = (inr (inr (w, (k, inl (v, (members, whole vs))))), kinds ep refl, object (inl (v, (members, whole vs))) e (us, vs, refl, h, (hm, refl)))
    by (inr none, ep, h) = plain ep h (braced_back limit true members vs hm)

pub declared_back : (limit : Limit) → Back limit Declared
declared_back limit x ts (is_enum {us} {all} w k p q hw hk hp hs hq e ek) =
    let v : ObjectParts = inr (inl (p, inl (all, whole (us ++ q ∷ [])))) in
    (inr (inr (w, (k, v))), sym ek, headed limit object_word object_tail w k v hw hk e (p ∷ [], us ++ q ∷ [], refl, (refl, hp), ((us, q, hs, hq, refl), refl)))
declared_back limit x ts (is_ints w k hw hk e ek) = (inl (w, (k, inr tt)), sym ek, headed limit class_word (perhaps class_tail) w k (inr tt) hw hk e refl)
declared_back limit x ts (is_class {us} {vs} {ws} {xs} {types} {params} {parents} {methods} w k hw hk h1 h2 h3 h4 e ek) =
    let v : ClassParts = ((types, whole us), ((params, whole vs), ((parents, whole ws), (methods, whole xs)))) in
    let said : Said limit class_tail v (us ++ (vs ++ (ws ++ xs))) = (us, vs ++ (ws ++ xs), refl, (h1, refl), (vs, ws ++ xs, refl, (h2, refl), (ws, xs, refl, (h3, refl), (h4, refl)))) in
    (inl (w, (k, inl v)), sym ek, headed limit class_word (perhaps class_tail) w k (inl v) hw hk e said)
declared_back limit x ts (is_trait {us} {vs} {ws} {types} {parents} {methods} w k hw hk h1 h2 h3 e ek) =
    let v : TraitParts = ((types, whole us), ((parents, whole vs), (methods, whole ws))) in
    (inr (inl (w, (k, v))), sym ek, headed limit trait_word trait_tail w k v hw hk e (us, vs ++ ws, refl, (h1, refl), (vs, ws, refl, (h2, refl), (h3, refl))))
declared_back limit x ts (is_object w k hw hk hp hm e ek) = object_back limit w k hw hk hp hm e ek

-- with its notes

pub decl_to : (limit : Limit) → To limit Decl_of
decl_to limit (notes, declared) ts (a, b, e, h, w) = decl_of h.0 w.0 e refl

pub decl_back : (limit : Limit) → Back limit Decl_of
decl_back limit x ts (decl_of {us} {vs} {notes} {kind} h w e ex) = (((notes, whole us), (kind, whole vs)), sym ex, (us, vs, e, (h, refl), (w, refl)))

-- an import or a declaration

pub item_to : (limit : Limit) → To limit Item
item_to limit (inl x) ts w = w.0
item_to limit (inr d) ts w = w.0

pub item_back : (limit : Limit) → Back limit Item
item_back limit (inl x) ts w = (inl (x, whole ts), refl, (w, refl))
item_back limit (inr d) ts w = (inr (d, whole ts), refl, (w, refl))

-- imports and declarations

items_to : (limit : Limit) (v : Val sort T_of items_form) (ts : List Spelled) → Said limit items_form v ts → IsItems limit (imports_in v) (decls_in v) ts
items_to limit [] ts e = items_none e refl refl
items_to limit ((s, (inl x, span)) ∷ rest) ts (a, b, e, (c, us, f, (fc, hs), h), w) =
    items_import s hs h.0 (items_to limit rest b w) (e ∙ ap (λ z. z ++ b) (one_before f fc)) refl
items_to limit ((s, (inr d, span)) ∷ rest) ts (a, b, e, (c, us, f, (fc, hs), h), w) =
    items_decl s hs h.0 (items_to limit rest b w) (e ∙ ap (λ z. z ++ b) (one_before f fc)) refl

items_back : (limit : Limit) {imports : List Import} {decls : List Decl} {ts : List Spelled} → IsItems limit imports decls ts
    → (v : Val sort T_of items_form) × (imports_in v ≡ imports) × (decls_in v ≡ decls) × Said limit items_form v ts
items_back limit (items_none e ei ed) = ([], sym ei, sym ed, e)
items_back limit (items_import {us} {vs} {x} s hs h w e ei) =
    let (v, vi, vd, hv) = items_back limit w in
    ((s, (inl x, whole us)) ∷ v, ap (λ z. x ∷ z) vi ∙ sym ei, vd, (s ∷ us, vs, e, (s ∷ [], us, refl, (refl, hs), (h, refl)), hv))
items_back limit (items_decl {us} {vs} {d} s hs h w e ed) =
    let (v, vi, vd, hv) = items_back limit w in
    ((s, (inr d, whole us)) ∷ v, vi, ap (λ z. d ∷ z) vd ∙ sym ed, (s ∷ us, vs, e, (s ∷ [], us, refl, (refl, hs), (h, refl)), hv))

-- a file

pub file_to : (limit : Limit) → To limit File_of
file_to limit (path, (library, items)) ts (us, b, e, h, (vs, ws, f, hl, w)) = file_of h.0 hl.0 (items_to limit items ws w) (then_is us e f) refl

pub file_back : (limit : Limit) → Back limit File_of
file_back limit x ts (file_of {us} {vs} {ws} {path} h hl w e ex) =
    let (v, vi, vd, hv) = items_back limit w in
    let same = ap₂ (λ y z. record { «package» = path; imports = y; decls = z; span = cover ts; feeds = [] }) vi vd in
    (((path, whole us), ((tt, whole vs), v)), same ∙ sym ex, (us, vs ++ ws, e, (h, refl), (vs, ws, refl, (hl, refl), hv)))
