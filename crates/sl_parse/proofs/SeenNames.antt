-- Paths, imports, packages, type parameters and the names of an enum: what their rules spell, and the trees that are well shaped.
use Rattle.std.proofs.Common.{◌≡◌, ℕ, List, [], ◌∷◌, ◌++◌, map, refl, sym, ap, ap₂, ◌∙◌, subst, inl, inr, Bool, true, false, if◌then◌else◌, true≢false, append-nil}
use Rattle.std.specs.Prelude.{eqb, Option}
use Rattle.std.proofs.lemmas.Bool.{eqb-true, eq-eqb}
use Rattle.sl_text.specs.declared.place.Span.{Span}
use Rattle.sl_grammar.specs.Phrase.{spells_token}
use Rattle.sl_grammar.specs.Steps.{spells_steps}
use Rattle.sl_grammar.specs.Grammar.{Val, has, is, not, chain_room, step_on}
use Rattle.sl_grammar.proofs.Grammar.{subset_sound}
use Rattle.sl_tree.specs.Sorts.{Spelled, sort, lexeme, dot, underscore, comma, separator, import_word, quoted, symbol, right_bracket, right_brace}
use Rattle.sl_tree.specs.WellShaped.{Is, names, cover, IsPath, path_end, path_more}
use Rattle.sl_tree.specs.Declarations.{Limit, IsIdentifier, IsEnumName, package_none, package_some, IsImport, import_one, import_all, type_params_none, type_params_some}
use Rattle.sl_tree.specs.declared.tree.Lexeme.{Lexeme}
use Rattle.sl_tree.specs.declared.tree.Import.{Import}
use Rattle.sl_tree.proofs.Spellings.{sort_is}
use Rattle.sl_parse_expr.proofs.SeenTypes.{Dots, dots_more, dots_path, path_read}
use Rattle.sl_parse.specs.Names.{T, closed, rule_of, Path, Import_name, Import_step, Import_of, Package, Type_params, Enum_names}
use Rattle.sl_parse.specs.Values.{Covered, T_of, whole, is_all, step_names, step_all, texts, value_of}
use Rattle.sl_parse.specs.Grammar.{room, spells}
use Rattle.sl_parse.proofs.Lists.{closed_to, closed_back}
use Rattle.sl_parse.proofs.Spans.{To, Back, Said}

-- names with dots between them
pub path_to : (limit : Limit) → To limit Path
path_to limit v ts (a, b, e, (ea, h), w) = subst (λ z. IsPath (texts v.0 v.1) z) (sym (e ∙ ap (λ z. z ++ b) ea)) (dots_path v.0 v.1 b h w)

pub path_back : (limit : Limit) → Back limit Path
path_back limit x ts w = let p = path_read w in ((p.head, p.dots), p.texts, (p.head ∷ [], p.rest, p.tokens, (refl, p.named), p.dotted))

-- the first name of an import, and a step
pub import_name_to : (limit : Limit) → To limit Import_name
import_name_to limit v ts w = (v, w.1, w.0, refl)

pub import_name_back : (limit : Limit) → Back limit Import_name
import_name_back limit x ts (k, hk, e, ex) = (k, sym ex, (e, hk))

pub import_step_to : (limit : Limit) → To limit Import_step
import_step_to limit v ts (a, b, e, (ed, hd), (ek, hk)) = (v.0, hd, hk, e ∙ ap₂ (λ y z. y ++ z) ed ek)

pub import_step_back : (limit : Limit) → Back limit Import_step
import_step_back limit x ts (d, hd, hx, e) = ((d, x), refl, (d ∷ [], x ∷ [], e, (refl, hd), (refl, hx)))

-- what stands behind a dot is `_` or a name

all_token : (k : Spelled) → is_all k ≡ true → Is (underscore ∷ []) k
all_token k e = sort_is underscore k (eqb-true (sort k) underscore e)

token_all : (k : Spelled) → Is (underscore ∷ []) k → is_all k ≡ true
token_all k h = by (eqb underscore (sort k)) refl h
  where
    by : (b : Bool) → eqb underscore (sort k) ≡ b → (if b then true else false) ≡ true → is_all k ≡ true
    by true e h = eq-eqb (sort k) underscore (sym (eqb-true underscore (sort k) e))
    by false e h = absurd (true≢false (sym h))

name_not_all : (k : Spelled) → Is names k → is_all k ≡ false
name_not_all k h = by (is_all k) refl
  where
    by : (b : Bool) → is_all k ≡ b → b ≡ false
    by true e = absurd (true≢false (sym (subst (λ z. has names z ≡ true) (eqb-true (sort k) underscore e) h)))
    by false e = refl

-- none but the last
but_last : (xs : List ℕ) (x j : ℕ) → has (xs ++ x ∷ []) j ≡ true → eqb j x ≡ false → has xs j ≡ true
but_last [] x j h n = by (eqb x j) refl h
  where
    by : (b : Bool) → eqb x j ≡ b → (if b then true else false) ≡ true → false ≡ true
    by true e h = sym n ∙ eq-eqb j x (sym (eqb-true x j e))
    by false e h = h
but_last (y ∷ ys) x j h n = by (eqb y j) h (λ w. but_last ys x j w n)
  where
    by : (b : Bool) → (if b then true else has (ys ++ x ∷ []) j) ≡ true → (has (ys ++ x ∷ []) j ≡ true → has ys j ≡ true) → (if b then true else has ys j) ≡ true
    by true h f = refl
    by false h f = f h

-- one more step
all_more : (qs : List (Covered Spelled)) (q : Covered Spelled) → is_all q.0 ≡ true → step_all (qs ++ q ∷ []) ≡ true
all_more [] q e = ap (λ b. if b then true else false) e
all_more (p ∷ ps) q e = by (is_all p.0) (all_more ps q e)
  where
    by : (b : Bool) → step_all (ps ++ q ∷ []) ≡ true → (if b then true else step_all (ps ++ q ∷ [])) ≡ true
    by true w = refl
    by false w = w

none_more : (qs : List (Covered Spelled)) (q : Covered Spelled) → step_all qs ≡ false → is_all q.0 ≡ false → step_all (qs ++ q ∷ []) ≡ false
none_more [] q h e = ap (λ b. if b then true else false) e
none_more (p ∷ ps) q h e = by (is_all p.0) h (λ w. none_more ps q w e)
  where
    by : (b : Bool) → (if b then true else step_all ps) ≡ false → (step_all ps ≡ false → step_all (ps ++ q ∷ []) ≡ false) → (if b then true else step_all (ps ++ q ∷ [])) ≡ false
    by true h f = absurd (true≢false h)
    by false h f = f h

-- the steps of an import, behind what was read of it
abbrev Steps : Limit → List ℕ → Option Span → List (Covered Spelled) → List (Covered Spelled) → List Spelled → Type 0
Steps limit x s done qs ts = spells_steps (spells limit Import_step) (chain_room sort T_of room true Import_name Import_step) step_on ((x, s), done) qs ts

-- a path, with `_` behind it or not
abbrev Ended : Bool → List (List ℕ) → List Spelled → Type 0
Ended false path ts = IsPath path ts
Ended true path ts = (us : List Spelled) × (d : Spelled) × (u : Spelled) × IsPath path us × Is (dot ∷ []) d × Is (underscore ∷ []) u × (ts ≡ us ++ d ∷ u ∷ [])

-- a name and a dot before it
ended_more : (all : Bool) (path : List (List ℕ)) (ts us : List Spelled) (k d : Spelled) → Is names k → Is (dot ∷ []) d → Ended all path us → ts ≡ k ∷ d ∷ us → Ended all (k.text ∷ path) ts
ended_more false path ts us k d hk hd w e = path_more k d hk hd w e refl
ended_more true path ts us k d hk hd (vs, dot_of, u, w, h, hu, e') e = (k ∷ d ∷ vs, dot_of, u, path_more k d hk hd w refl refl, h, hu, e ∙ ap (λ z. k ∷ d ∷ z) e')

steps_to : (limit : Limit) (x : List ℕ) (s : Option Span) (k : Spelled) (done qs : List (Covered Spelled)) (ts : List Spelled) → Is names k → Steps limit x s done qs ts
    → Ended (step_all qs) (k.text ∷ step_names qs) (k ∷ ts)
steps_to limit x s k done [] ts hk e = path_end k hk (ap (λ z. k ∷ z) e) refl
steps_to limit x s k done (q ∷ qs) ts hk (r, a, b, e, ((d, hd, hq, ea), span), w) = by (is_all q.0) refl (λ h. steps_to limit x s q.0 (done ++ q ∷ []) qs b h w)
  where
    tokens : k ∷ ts ≡ k ∷ d ∷ q.0 ∷ b
    tokens = ap (λ z. k ∷ z) (e ∙ ap (λ z. z ++ b) ea)

    -- no step comes behind `_`
    last : (qs : List (Covered Spelled)) → is_all q.0 ≡ true → Steps limit x s (done ++ q ∷ []) qs b → (step_names qs ≡ []) × (b ≡ [])
    last [] h w = (refl, w)
    last (p ∷ ps) h w = absurd (true≢false (sym w.0 ∙ ap not (all_more done q h)))

    by : (all : Bool) → is_all q.0 ≡ all → (Is names q.0 → Ended (step_all qs) (q.0.text ∷ step_names qs) (q.0 ∷ b))
        → Ended (if all then true else step_all qs) (k.text ∷ (if all then step_names qs else q.0.text ∷ step_names qs)) (k ∷ ts)
    by true h f =
        let (none, eb) = last qs h w in
        (k ∷ [], d, q.0, path_end k hk refl (ap (λ z. k.text ∷ z) none), hd, all_token q.0 h, tokens ∙ ap (λ z. k ∷ d ∷ q.0 ∷ z) eb)
    by false h f = ended_more (step_all qs) (q.0.text ∷ step_names qs) (k ∷ ts) (q.0 ∷ b) k d hk hd (f (but_last names underscore (sort q.0) hq h)) tokens

-- names behind dots are steps
abbrev step_of : Spelled × Spelled → Covered Spelled
step_of x = (x.1, whole (x.0 ∷ x.1 ∷ []))

dots_names : (xs : List (Spelled × Spelled)) (tail : List (Covered Spelled)) (us : List Spelled) → Dots xs us → step_names (map step_of xs ++ tail) ≡ map (λ x. x.1.text) xs ++ step_names tail
dots_names [] tail us w = refl
dots_names (x ∷ xs) tail us w =
    let (vs, e, hd, hn, rest) = dots_more x xs us w in
    let qs = map step_of xs ++ tail in
    ap (λ b. if b then step_names qs else x.1.text ∷ step_names qs) (name_not_all x.1 hn) ∙ ap (λ z. x.1.text ∷ z) (dots_names xs tail vs rest)

dots_all : (xs : List (Spelled × Spelled)) (tail : List (Covered Spelled)) (us : List Spelled) → Dots xs us → step_all (map step_of xs ++ tail) ≡ step_all tail
dots_all [] tail us w = refl
dots_all (x ∷ xs) tail us w =
    let (vs, e, hd, hn, rest) = dots_more x xs us w in
    ap (λ b. if b then true else step_all (map step_of xs ++ tail)) (name_not_all x.1 hn) ∙ dots_all xs tail vs rest

-- any steps may follow them that may follow steps without `_`
dots_steps : (limit : Limit) (x : List ℕ) (s : Option Span) (done : List (Covered Spelled)) (xs : List (Spelled × Spelled)) (tail : List (Covered Spelled)) (us vs : List Spelled)
    → step_all done ≡ false → Dots xs us → ((before : List (Covered Spelled)) → step_all before ≡ false → Steps limit x s before tail vs) → Steps limit x s done (map step_of xs ++ tail) (us ++ vs)
dots_steps limit x s done [] tail us vs h w f = subst (λ z. Steps limit x s done tail (z ++ vs)) (sym w) (f done h)
dots_steps limit x s done (y ∷ ys) tail us vs h w f =
    let (rest, e, hd, hn, w') = dots_more y ys us w in (
      ap not h,
      y.0 ∷ y.1 ∷ [],
      rest ++ vs,
      ap (λ z. z ++ vs) e,
      ((y.0, hd, subset_sound names (names ++ underscore ∷ []) (sort y.1) refl hn, refl), refl),
      dots_steps limit x s (done ++ step_of y ∷ []) ys tail rest vs (none_more done (step_of y) h (name_not_all y.1 hn)) w' f,
    )

-- an import
pub import_to : (limit : Limit) → To limit Import_of
import_to limit (w, ((x, s), qs)) ts (a, b, e, (ea, hw), (c, d, e', ((k, hk, ec, ex), span), steps)) = by (step_all qs) (steps_to limit x s k [] qs d hk steps)
  where
    tokens : ts ≡ w ∷ k ∷ d
    tokens = e ∙ ap₂ (λ y z. y ++ z) ea (e' ∙ ap (λ z. z ++ d) ec)

    by : (all : Bool) → Ended all (k.text ∷ step_names qs) (k ∷ d) → IsImport (record { path = x ∷ step_names qs; all = all; span = cover ts }) ts
    by false p = import_one w hw p tokens (ap (λ z. record { path = z ∷ step_names qs; all = false; span = cover ts }) ex)
    by true (us, d', u, p, hd, hu, e'') =
        import_all w d' u hw p hd hu (tokens ∙ ap (λ z. w ∷ z) e'') (ap (λ z. record { path = z ∷ step_names qs; all = true; span = cover ts }) ex)

-- the steps are those of the path, and more that have no names
import_by : (limit : Limit) {path : List (List ℕ)} {us : List Spelled} (x : Import) (ts vs : List Spelled) (w : Spelled) (tail : List (Covered Spelled)) (all : Bool)
    → Is (import_word ∷ []) w → IsPath path us → step_names tail ≡ [] → step_all tail ≡ all
    → ((y : List ℕ) (s : Option Span) (before : List (Covered Spelled)) → step_all before ≡ false → Steps limit y s before tail vs)
    → ts ≡ w ∷ (us ++ vs) → x ≡ record { path = path; all = all; span = cover ts }
    → (v : Val sort T_of (rule_of Import_of)) × (value_of Import_of v (cover ts) ≡ x) × Said limit (rule_of Import_of) v ts
import_by limit {us} x ts vs w tail all hw hp none last f et ex =
    let p = path_read hp in
    let qs = map step_of p.dots ++ tail in
    let same = dots_names p.dots tail p.rest p.dotted ∙ (ap (λ z. map (λ y. y.1.text) p.dots ++ z) none ∙ append-nil (map (λ y. y.1.text) p.dots)) in (
      (w, ((p.head.text, whole (p.head ∷ [])), qs)),
      ap₂ (λ y z. record { path = y; all = z; span = cover ts }) (ap (λ z. p.head.text ∷ z) same ∙ p.texts) (dots_all p.dots tail p.rest p.dotted ∙ last) ∙ sym ex,
      (
        w ∷ [],
        us ++ vs,
        et,
        (refl, hw),
        (
          p.head ∷ [],
          p.rest ++ vs,
          ap (λ z. z ++ vs) p.tokens,
          ((p.head, p.named, refl, refl), refl),
          dots_steps limit p.head.text (whole (p.head ∷ [])) [] p.dots tail p.rest vs refl p.dotted (f p.head.text (whole (p.head ∷ []))),
        ),
      ),
    )

pub import_back : (limit : Limit) → Back limit Import_of
import_back limit x ts (import_one {us} w hw hp et ex) = import_by limit x ts [] w [] false hw hp refl refl (λ y s before h. refl) (et ∙ ap (λ z. w ∷ z) (sym (append-nil us))) ex
import_back limit x ts (import_all w d u hw hp hd hu et ex) =
    import_by limit x ts (d ∷ u ∷ []) w ((u, whole (d ∷ u ∷ [])) ∷ []) true hw hp (ap (λ b. if b then [] else u.text ∷ []) (token_all u hu)) (ap (λ b. if b then true else false) (token_all u hu)) last et ex
  where
    last : (y : List ℕ) (s : Option Span) (before : List (Covered Spelled)) → step_all before ≡ false → Steps limit y s before ((u, whole (d ∷ u ∷ [])) ∷ []) (d ∷ u ∷ [])
    last y s before h = (ap not h, d ∷ u ∷ [], [], refl, ((d, hd, subset_sound (underscore ∷ []) (names ++ underscore ∷ []) (sort u) refl hu, refl), refl), refl)

-- a package, or nothing
pub package_to : (limit : Limit) → To limit Package
package_to limit (inl (w, (p, s))) ts (a, b, e, (ew, hw), (c, d, e', hp, (es, hs))) = package_some w s hw hp.0 hs (e ∙ ap₂ (λ y z. y ++ z) ew (e' ∙ ap (λ z. c ++ z) es))
package_to limit (inr none) ts e = package_none e refl

pub package_back : (limit : Limit) → Back limit Package
package_back limit x ts (package_none e ex) = (inr tt, sym ex, e)
package_back limit x ts (package_some {path} {us} w s hw hp hs et) = (inl (w, ((path, whole us), s)), refl, (w ∷ [], us ++ s ∷ [], et, (refl, hw), (us, s ∷ [], refl, (hp, refl), (refl, hs))))

-- type parameters, or nothing

identifier_to : (k : Spelled) (us : List Spelled) → spells_token (is sort names) k us → IsIdentifier k.text us
identifier_to k us w = (k, w.1, w.0, refl)

identifier_back : (x : List ℕ) (us : List Spelled) → IsIdentifier x us → (k : Spelled) × (k.text ≡ x) × spells_token (is sort names) k us
identifier_back x us (k, hk, e, ex) = (k, sym ex, (e, hk))

pub type_params_to : (limit : Limit) → To limit Type_params
type_params_to limit (inl (p, v)) ts (a, b, e, (ep, hp), w) =
    let (us, e', h, hq) = closed_to (comma ∷ []) right_bracket (spells_token (is sort names)) IsIdentifier (λ k. k.text) identifier_to v b w in
    type_params_some p v.1.1 hp h hq (e ∙ ap₂ (λ y z. y ++ z) ep e')
type_params_to limit (inr none) ts e = type_params_none e refl

pub type_params_back : (limit : Limit) → Back limit Type_params
type_params_back limit x ts (type_params_none e ex) = (inr tt, sym ex, e)
type_params_back limit x ts (type_params_some {us} p q hp h hq et) =
    let (k, more, e, w) = closed_back (comma ∷ []) right_bracket (spells_token (is sort names)) IsIdentifier (λ k. k.text) identifier_back q h hq in
    (inl (p, (k, (more, q))), e, (p ∷ [], us ++ q ∷ [], et, (refl, hp), w))

-- the names of an enum

enum_name_to : (k : Spelled) (us : List Spelled) → spells_token (is sort (quoted ∷ symbol ∷ [])) k us → IsEnumName (lexeme k) us
enum_name_to k us w = (k, w.1, w.0, refl)

enum_name_back : (x : Lexeme) (us : List Spelled) → IsEnumName x us → (k : Spelled) × (lexeme k ≡ x) × spells_token (is sort (quoted ∷ symbol ∷ [])) k us
enum_name_back x us (k, hk, e, ex) = (k, sym ex, (e, hk))

pub enum_names_to : (limit : Limit) → To limit Enum_names
enum_names_to limit v ts w =
    let (us, e, h, hq) = closed_to (separator ∷ []) right_brace (spells_token (is sort (quoted ∷ symbol ∷ []))) IsEnumName lexeme enum_name_to v ts w in
    (us, v.1.1, h, hq, e)

pub enum_names_back : (limit : Limit) → Back limit Enum_names
enum_names_back limit x ts (us, q, h, hq, et) =
    let (k, more, e, w) = closed_back (separator ∷ []) right_brace (spells_token (is sort (quoted ∷ symbol ∷ []))) IsEnumName lexeme enum_name_back q h hq in
    ((k, (more, q)), e, subst (λ z. Said limit (closed (separator ∷ []) (T (quoted ∷ symbol ∷ [])) right_brace) (k, (more, q)) z) (sym et) w)
