-- Paths, types and lists: what their rules spell, and the trees that are well shaped.
use Rattle.std.proofs.Common.{◌≡◌, ℕ, suc, List, [], ◌∷◌, ◌++◌, refl, sym, ap, ap₂, ◌∙◌, subst, ◌⊎◌, inl, inr, true, append-nil}
use Rattle.std.proofs.Math.Nat.{suc-max-suc}
use Rattle.std.specs.Prelude.{Option, max}
use Rattle.sl_grammar.specs.Phrase.{spells_token, spells_both}
use Rattle.sl_grammar.specs.Many.{spells_many}
use Rattle.sl_grammar.specs.Grammar.{Form, Then, Either, Ref, Nothing, Val, is, spells_form}
use Rattle.sl_tree.specs.Sorts.{Spelled, sort, dot, comma, colon, left_bracket, right_bracket}
use Rattle.sl_tree.specs.WellShaped.{Is, names, join, last_of, cover, type_term, IsPath, path_end, path_more, IsType, type_plain, type_applied, IsTypes, types_end, types_more, IsAscribed, ascribed_not, ascribed_so}
use Rattle.sl_tree.specs.declared.tree.TypeTerm.{TypeTerm}
use Rattle.sl_tree.proofs.Spans.{Solid, cover_one, cover_both, cover_ends, solid_one}
use Rattle.sl_tree.proofs.Trees.{Deep, path_solid, type_deep}
use Rattle.sl_parse_expr.specs.Names.{Path, Type_term, At, at, T, Levels, holds, open_to, deeper, types_form, rule_at}
use Rattle.sl_parse_expr.specs.Values.{Tall, T_of, PathParts, TypesParts, Listed, listing, firsts, deepest, path_last, path_texts, path_span, type_from, ascribed, ascribed_levels}
use Rattle.sl_parse_expr.specs.Grammar.{room, spells, spells_at}
use Rattle.sl_parse_expr.proofs.Rooms.{holds_node, holds_below, fits_of, holds_one, holds_both, holds_left, holds_right, holds_none}
use Rattle.sl_parse_expr.proofs.SeenAt.{SeenAt}

-- what a form spells
abbrev pub form : (g : Form At) → Val sort T_of g → List Spelled → Type 0
form g v ts = spells_form sort T_of room spells g v ts

-- a tree with its levels, by both
pub tall : {X : Type 0} (v w : Tall X) → v.0 ≡ w.0 → v.1 ≡ w.1 → v ≡ w
tall v w p q = λ i. (p i, q i)

-- spans

-- a token, and what follows it
pub cover_after : (k : Spelled) (us : List Spelled) → Solid us → cover (k ∷ us) ≡ join k.span (cover us)
cover_after k us s = cover_both (k ∷ []) us (solid_one k []) s ∙ ap (λ z. join z (cover us)) (cover_one k)

pub cover_two : (k j : Spelled) → cover (k ∷ j ∷ []) ≡ join k.span j.span
cover_two k j = cover_after k (j ∷ []) (solid_one j []) ∙ ap (λ z. join k.span z) (cover_one j)

-- from a token to another
pub cover_around : (k : Spelled) (us : List Spelled) (j : Spelled) → cover (k ∷ (us ++ j ∷ [])) ≡ join k.span j.span
cover_around k us j = cover_ends (k ∷ []) us j (solid_one k []) ∙ ap (λ z. join z j.span) (cover_one k)

-- paths

-- a dot and a name, any number of times
abbrev pub Dots : List (Spelled × Spelled) → List Spelled → Type 0
Dots xs ts = spells_many (spells_both (spells_token (is sort (dot ∷ []))) (spells_token (is sort names))) xs ts

-- its tokens
pub dots_more : (x : Spelled × Spelled) (xs : List (Spelled × Spelled)) (ts : List Spelled) → Dots (x ∷ xs) ts
    → (us : List Spelled) × (ts ≡ x.0 ∷ x.1 ∷ us) × Is (dot ∷ []) x.0 × Is names x.1 × Dots xs us
dots_more x xs ts (a, b, e, (c, d, e', (ec, hd), (ed, hn)), rest) = (b, e ∙ ap (λ z. z ++ b) (e' ∙ ap₂ (λ y z. y ++ z) ec ed), hd, hn, rest)

pub more_dots : (d k : Spelled) (xs : List (Spelled × Spelled)) (us : List Spelled) → Is (dot ∷ []) d → Is names k → Dots xs us → Dots ((d, k) ∷ xs) (d ∷ k ∷ us)
more_dots d k xs us hd hn w = (d ∷ k ∷ [], us, refl, (d ∷ [], k ∷ [], refl, (refl, hd), (refl, hn)), w)

pub dots_path : (k : Spelled) (xs : List (Spelled × Spelled)) (ts : List Spelled) → Is names k → Dots xs ts → IsPath (path_texts (k, xs)) (k ∷ ts)
dots_path k [] ts h w = path_end k h (ap (λ z. k ∷ z) w) refl
dots_path k (x ∷ xs) ts h w =
    let (us, e, hd, hn, rest) = dots_more x xs ts w in
    path_more k x.0 h hd (dots_path x.1 xs us hn rest) (ap (λ z. k ∷ z) e) refl

-- a path's tokens begin with a name
pub record PathRead (path : List (List ℕ)) (ts : List Spelled) : Type 0 where
  pub head : Spelled
  pub dots : List (Spelled × Spelled)
  pub rest : List Spelled
  pub tokens : ts ≡ head ∷ rest
  pub named : Is names head
  pub dotted : Dots dots rest
  pub texts : path_texts (head, dots) ≡ path

pub path_read : {path : List (List ℕ)} {ts : List Spelled} → IsPath path ts → PathRead path ts
path_read (path_end k h e p) = record { head = k; dots = []; rest = []; tokens = e; named = h; dotted = refl; texts = sym p }
path_read (path_more {us} k d h hd w e p) =
    let r = path_read w in
    record {
      head = k;
      dots = (d, r.head) ∷ r.dots;
      rest = d ∷ us;
      tokens = e;
      named = h;
      dotted = subst (λ z. Dots ((d, r.head) ∷ r.dots) (d ∷ z)) (sym r.tokens) (more_dots d r.head r.dots r.rest hd r.named r.dotted);
      texts = ap (λ z. k.text ∷ z) r.texts ∙ sym p;
    }

pub dots_cover : (k : Spelled) (xs : List (Spelled × Spelled)) (ts : List Spelled) → Dots xs ts → cover (k ∷ ts) ≡ path_span (k, xs)
unfolding cover
dots_cover k xs ts w = ap (λ z. join k.span z.span) (by k xs ts w)
  where
    by : (k : Spelled) (xs : List (Spelled × Spelled)) (ts : List Spelled) → Dots xs ts → last_of k ts ≡ path_last k xs
    by k [] ts w = ap (λ z. last_of k z) w
    by k (x ∷ xs) ts w =
        let (us, e, hd, hn, rest) = dots_more x xs ts w in
        ap (λ z. last_of k z) e ∙ by x.1 xs us rest

-- a path as the rule has it
pub path_to : (r : Levels) (v : PathParts) (ts : List Spelled) → spells (at Path r) v ts → IsPath (path_texts v) ts
path_to r v ts (a, b, e, (ea, h), w) = subst (λ z. IsPath (path_texts v) z) (sym (e ∙ ap (λ z. z ++ b) ea)) (dots_path v.0 v.1 b h w)

pub path_cover : (r : Levels) (v : PathParts) (ts : List Spelled) → spells (at Path r) v ts → cover ts ≡ path_span v
path_cover r v ts (a, b, e, (ea, h), w) = ap cover (e ∙ ap (λ z. z ++ b) ea) ∙ dots_cover v.0 v.1 b w

pub path_back : {path : List (List ℕ)} {ts : List Spelled} (r : Levels) → IsPath path ts → (v : PathParts) × (path_texts v ≡ path) × spells (at Path r) v ts
path_back r w = let p = path_read w in ((p.head, p.dots), p.texts, (p.head ∷ [], p.rest, p.tokens, (refl, p.named), p.dotted))

-- lists

-- one, and more with a token of some sorts before each
abbrev pub Later : {X : Type 0} → (Tall X → List Spelled → Type 0) → List ℕ → List (Spelled × Tall X) → List Spelled → Type 0
Later p ks xs ts = spells_many (spells_both (spells_token (is sort ks)) p) xs ts

abbrev pub Spread : {X : Type 0} → (Tall X → List Spelled → Type 0) → List ℕ → Listed X → List Spelled → Type 0
Spread p ks v ts = (a : List Spelled) × (b : List Spelled) × (ts ≡ a ++ b) × p v.0 a × Later p ks v.1 b

-- `p` is owed of each, and `q` of all with the levels of the deepest
pub listed_to : {X : Type 0} (p : Tall X → List Spelled → Type 0) (q : ℕ → List X → List Spelled → Type 0) (ks : List ℕ)
    → ((x : Tall X) (ts : List Spelled) → p x ts → q x.1 (x.0 ∷ []) ts)
    → ((x : Tall X) (c : Spelled) (l : ℕ) (rest : List X) (us vs : List Spelled) → p x us → Is ks c → q l rest vs → q (max x.1 l) (x.0 ∷ rest) (us ++ c ∷ vs))
    → (v : Listed X) (ts : List Spelled) → Spread p ks v ts → q (deepest (listing v)) (firsts (listing v)) ts
listed_to {X} p q ks one more (x, xs) ts (a, b, e, h, w) = subst (λ z. q (deepest (listing (x, xs))) (firsts (listing (x, xs))) z) (sym e) (by x xs a b h w)
  where
    by : (x : Tall X) (xs : List (Spelled × Tall X)) (a b : List Spelled) → p x a → Later p ks xs b → q (deepest (listing (x, xs))) (firsts (listing (x, xs))) (a ++ b)
    by x [] a b h w = subst (λ z. q x.1 (x.0 ∷ []) z) (sym (ap (λ z. a ++ z) w ∙ append-nil a)) (one x a h)
    by x ((c, y) ∷ ys) a b h (d, f, e, (s, t, e', (es, hc), hy), w) =
        subst (λ z. q (deepest (listing (x, (c, y) ∷ ys))) (firsts (listing (x, (c, y) ∷ ys))) z)
        (sym (ap (λ z. a ++ z) (e ∙ ap (λ z. z ++ f) (e' ∙ ap (λ z. z ++ t) es))))
        (more x c (deepest (listing (y, ys))) (firsts (listing (y, ys))) a (t ++ f) h hc (by y ys t f hy w))

-- all, as the rule has them
abbrev pub Gathered : {X : Type 0} → (Tall X → List Spelled → Type 0) → List ℕ → ℕ → List X → List Spelled → Type 0
Gathered {X} p ks n xs ts = (v : Listed X) × (deepest (listing v) ≡ n) × (firsts (listing v) ≡ xs) × Spread p ks v ts

pub gather_one : {X : Type 0} (p : Tall X → List Spelled → Type 0) (ks : List ℕ) {n : ℕ} {xs : List X} {ts : List Spelled} (x : X)
    → p (x, n) ts → xs ≡ x ∷ [] → Gathered p ks n xs ts
gather_one p ks {n} {ts} x h e = (((x, n), []), refl, sym e, (ts, [], sym (append-nil ts), h, refl))

pub gather_more : {X : Type 0} (p : Tall X → List Spelled → Type 0) (ks : List ℕ) {n m l : ℕ} {xs rest : List X} {ts us vs : List Spelled} (x : X) (c : Spelled)
    → p (x, m) us → Is ks c → Gathered p ks l rest vs → ts ≡ us ++ c ∷ vs → xs ≡ x ∷ rest → n ≡ max m l → Gathered p ks n xs ts
gather_more p ks {m} {us} {vs} x c h hc ((y, ys), en, ex, (a, b, e, hy, w)) et es el =
    (((x, m), (c, y) ∷ ys), ap (λ z. max m z) en ∙ sym el, ap (λ z. x ∷ z) ex ∙ sym es, (us, c ∷ vs, et, h, (c ∷ a, b, ap (λ z. c ∷ z) e, (c ∷ [], a, refl, (refl, hc), hy), w)))

-- types

abbrev pub A_type : Levels → Tall TypeTerm → List Spelled → Type 0
A_type r x ts = IsType x.1 x.0 ts × (holds r x.1 ≡ true)

pub some_types_deep : {n : ℕ} {xs : List TypeTerm} {ts : List Spelled} → IsTypes n xs ts → Deep n
some_types_deep (types_end h e) = type_deep h
some_types_deep (types_more {m} {l} c h hc rest et es en) =
    let d = type_deep h in
    let b = some_types_deep rest in
    record { below = max d.below b.below; is = en ∙ (ap₂ max d.is b.is ∙ suc-max-suc d.below b.below) }

-- listed types
pub listed_types_to : (r : Levels) (v : Listed TypeTerm) (ts : List Spelled) → Spread (A_type r) (comma ∷ []) v ts
    → IsTypes (deepest (listing v)) (firsts (listing v)) ts × (holds r (deepest (listing v)) ≡ true)
listed_types_to r v ts w = listed_to (A_type r) (λ n xs us. IsTypes n xs us × (holds r n ≡ true)) (comma ∷ []) one more v ts w
  where
    one : (x : Tall TypeTerm) (us : List Spelled) → A_type r x us → IsTypes x.1 (x.0 ∷ []) us × (holds r x.1 ≡ true)
    one x us (h, hr) = (types_end h refl, hr)

    more : (x : Tall TypeTerm) (c : Spelled) (l : ℕ) (rest : List TypeTerm) (us vs : List Spelled) → A_type r x us → Is (comma ∷ []) c
        → IsTypes l rest vs × (holds r l ≡ true) → IsTypes (max x.1 l) (x.0 ∷ rest) (us ++ c ∷ vs) × (holds r (max x.1 l) ≡ true)
    more x c l rest us vs (h, hr) hc (w, wr) = (types_more c h hc w refl refl refl, holds_both r x.1 l hr wr)

pub listed_types_back : {n : ℕ} {xs : List TypeTerm} {ts : List Spelled} (r : Levels) → IsTypes n xs ts → holds r n ≡ true → Gathered (A_type r) (comma ∷ []) n xs ts
listed_types_back r (types_end {t} h e) hr = gather_one (A_type r) (comma ∷ []) t (h, hr) e
listed_types_back r (types_more {m} {l} {t} c h hc rest et es en) hr =
    let hr' = subst (λ z. holds r z ≡ true) en hr in
    gather_more (A_type r) (comma ∷ []) t c (h, holds_left r m l hr') hc (listed_types_back r rest (holds_right r m l hr')) et es en

-- what stands between two tokens
abbrev pub Between : {X : Type 0} → (X → List Spelled → Type 0) → List ℕ → List ℕ → Spelled × (X × Spelled) → List Spelled → Type 0
Between p ks js v ts = spells_both (spells_token (is sort ks)) (spells_both p (spells_token (is sort js))) v ts

pub between_to : {X : Type 0} (p : X → List Spelled → Type 0) (ks js : List ℕ) (v : Spelled × (X × Spelled)) (ts : List Spelled) → Between p ks js v ts
    → (us : List Spelled) × (ts ≡ v.0 ∷ (us ++ v.1.1 ∷ [])) × Is ks v.0 × p v.1.0 us × Is js v.1.1
between_to p ks js v ts (a, b, e, (ek, hk), (c, d, e', h, (ej, hj))) = (c, e ∙ ap₂ (λ y z. y ++ z) ek (e' ∙ ap (λ z. c ++ z) ej), hk, h, hj)

pub between_back : {X : Type 0} (p : X → List Spelled → Type 0) (ks js : List ℕ) {us : List Spelled} (k : Spelled) (x : X) (j : Spelled)
    → Is ks k → p x us → Is js j → Between p ks js (k, (x, j)) (k ∷ (us ++ j ∷ []))
between_back p ks js {us} k x j hk h hj = (k ∷ [], us ++ j ∷ [], refl, (refl, hk), (us, j ∷ [], refl, h, (refl, hj)))

-- types between brackets
pub types_to : (r : Levels) (v : TypesParts) (ts : List Spelled) → form (types_form r) v ts
    → (us : List Spelled) × (ts ≡ v.0 ∷ (us ++ v.1.1 ∷ [])) × Is (left_bracket ∷ []) v.0 × IsTypes (deepest (listing v.1.0)) (firsts (listing v.1.0)) us
    × Is (right_bracket ∷ []) v.1.1 × (holds r (deepest (listing v.1.0)) ≡ true)
types_to r v ts w =
    let (us, e, hk, h, hj) = between_to (Spread (A_type r) (comma ∷ [])) (left_bracket ∷ []) (right_bracket ∷ []) v ts w in
    let (types, hr) = listed_types_to r v.1.0 us h in
    (us, e, hk, types, hj, hr)

pub types_back : {n : ℕ} {xs : List TypeTerm} {us : List Spelled} (r : Levels) (k j : Spelled) → Is (left_bracket ∷ []) k → IsTypes n xs us → Is (right_bracket ∷ []) j → holds r n ≡ true
    → (v : Listed TypeTerm) × (deepest (listing v) ≡ n) × (firsts (listing v) ≡ xs) × form (types_form r) (k, (v, j)) (k ∷ (us ++ j ∷ []))
types_back r k j hk h hj hr =
    let (v, en, ex, w) = listed_types_back r h hr in
    (v, en, ex, between_back (Spread (A_type r) (comma ∷ [])) (left_bracket ∷ []) (right_bracket ∷ []) k v j hk w hj)

-- a type behind a colon, or nothing
pub ascribed_to : (r : Levels) (v : (Spelled × Tall TypeTerm) ⊎ Unit {0}) (ts : List Spelled) → form (Either (Then (T (colon ∷ [])) (Ref (at Type_term r))) Nothing) v ts
    → IsAscribed (ascribed_levels v) (ascribed v) ts × (holds r (ascribed_levels v) ≡ true)
ascribed_to r (inl (c, t)) ts (a, b, e, (ec, hc), (h, hr)) = (ascribed_so c hc h (e ∙ ap (λ z. z ++ b) ec) refl, hr)
ascribed_to r (inr none) ts e = (ascribed_not e refl refl, holds_none r)

pub ascribed_back : {n : ℕ} {o : Option TypeTerm} {ts : List Spelled} (r : Levels) → IsAscribed n o ts → holds r n ≡ true
    → (v : (Spelled × Tall TypeTerm) ⊎ Unit {0}) × (ascribed_levels v ≡ n) × (ascribed v ≡ o) × form (Either (Then (T (colon ∷ [])) (Ref (at Type_term r))) Nothing) v ts
ascribed_back r (ascribed_not e eo en) hr = (inr tt, sym en, sym eo, e)
ascribed_back {n} r (ascribed_so {us} {t} c hc h e eo) hr = (inl (c, (t, n)), refl, sym eo, (c ∷ [], us, e, (refl, hc), (h, hr)))

-- a type
pub seen_type : (r : Levels) → open_to r ≡ true → SeenAt Type_term r
seen_type r o = record { to = to; back = back }
  where
    to : (v : PathParts × (TypesParts ⊎ Unit {0})) (ts : List Spelled) → form (rule_at Type_term r) v ts → spells_at Type_term r (type_from v) ts
    to (path, inl (k, (types, j))) ts (a, b, e, h, (f, w)) =
        let (us, eb, hk, ht, hj, hr) = types_to (deeper r) (k, (types, j)) b w in
        let p = path_to r path a h in
        let et = e ∙ ap (λ z. a ++ z) eb in
        let span = ap cover et ∙ (cover_ends a (k ∷ us) j (path_solid p) ∙ ap (λ z. join z j.span) (path_cover r path a h)) in
        (type_applied k j p hk ht hj et (ap (λ z. type_term (path_texts path) (firsts (listing types)) z) (sym span)) refl, holds_node r (deepest (listing types)) o hr)
    to (path, inr none) ts (a, b, e, h, w) =
        let et = e ∙ (ap (λ z. a ++ z) w ∙ append-nil a) in
        let p = subst (λ z. IsPath (path_texts path) z) (sym et) (path_to r path a h) in
        (type_plain p (ap (λ z. type_term (path_texts path) [] z) (sym (ap cover et ∙ path_cover r path a h))) refl, holds_one r o)

    applied : {n m : ℕ} {t : TypeTerm} {ts p us : List Spelled} {path : List (List ℕ)} {args : List TypeTerm} (k j : Spelled)
        → IsPath path p → Is (left_bracket ∷ []) k → IsTypes m args us → Is (right_bracket ∷ []) j → ts ≡ p ++ k ∷ (us ++ j ∷ []) → t ≡ type_term path args (cover ts) → n ≡ suc m
        → holds r n ≡ true → (v : PathParts × (TypesParts ⊎ Unit {0})) × (type_from v ≡ (t, n)) × form (rule_at Type_term r) v ts
    applied {n} {m} {t} {ts} {p} {us} {path} {args} k j hp hk ht hj et ex en hr =
        let (v, ev, hv) = path_back r hp in
        let d = some_types_deep ht in
        let room = subst (λ z. holds r z ≡ true) en hr in
        let (types, em, ea, w) = types_back (deeper r) k j hk ht hj (holds_below r m room) in
        let fit = fits_of r d.below (subst (λ z. holds r (suc z) ≡ true) d.is room) in
        let span = ap cover et ∙ (cover_ends p (k ∷ us) j (path_solid hp) ∙ ap (λ z. join z j.span) (path_cover r v p hv)) in (
          (v, inl (k, (types, j))),
          tall (type_from (v, inl (k, (types, j)))) (t, n) (ap₂ (λ x y. type_term x y (join v.0.span j.span)) ev ea ∙ (ap (λ z. type_term path args z) (sym span) ∙ sym ex)) (ap suc em ∙ sym en),
          (p, k ∷ (us ++ j ∷ []), et, hv, (fit, w)),
        )

    back : (y : Tall TypeTerm) (ts : List Spelled) → spells_at Type_term r y ts → (v : PathParts × (TypesParts ⊎ Unit {0})) × (type_from v ≡ y) × form (rule_at Type_term r) v ts
    back y ts (type_plain {path} hp ex en, hr) =
        let (v, ev, hv) = path_back r hp in (
          (v, inr tt),
          tall (type_from (v, inr tt)) y (ap (λ z. type_term z [] (path_span v)) ev ∙ (ap (λ z. type_term path [] z) (sym (path_cover r v ts hv)) ∙ sym ex)) (sym en),
          (ts, [], sym (append-nil ts), hv, refl),
        )
    back y ts (type_applied k j hp hk ht hj et ex en, hr) = applied k j hp hk ht hj et ex en hr
