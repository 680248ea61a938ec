-- One phrase and more, with a token before each: what their form spells is what is listed.
use Rattle.std.proofs.Common.{◌≡◌, ℕ, List, [], ◌∷◌, ◌++◌, map, refl, sym, ap, ap₂, ◌∙◌, subst, append_assoc, append-nil}
use Rattle.sl_grammar.specs.Phrase.{spells_token, spells_both}
use Rattle.sl_grammar.specs.Many.{spells_many}
use Rattle.sl_grammar.specs.Grammar.{is}
use Rattle.sl_tree.specs.Sorts.{Spelled, sort}
use Rattle.sl_tree.specs.WellShaped.{Is}
use Rattle.sl_tree.specs.Declarations.{Separated, separated_one, separated_more}

-- more, with a token of some sorts before each
abbrev pub Later : {V : Type 0} → List ℕ → (V → List Spelled → Type 0) → List (Spelled × V) → List Spelled → Type 0
Later sorts p more ts = spells_many (spells_both (spells_token (is sort sorts)) p) more ts

pub listed_to : {X V : Type 0} (sorts : List ℕ) (p : V → List Spelled → Type 0) (P : X → List Spelled → Type 0) (view : V → X) → ((v : V) (us : List Spelled) → p v us → P (view v) us)
    → (v : V) (more : List (Spelled × V)) (a b : List Spelled) → p v a → Later sorts p more b → Separated X sorts P (view v ∷ map (λ y. view y.1) more) (a ++ b)
listed_to sorts p P view f v [] a b h w = separated_one (subst (λ z. P (view v) z) (sym (ap (λ z. a ++ z) w ∙ append-nil a)) (f v a h)) refl
listed_to sorts p P view f v ((c, y) ∷ ys) a b h (d, rest, e, (s, t, e', (es, hc), hy), w) =
    separated_more c (f v a h) hc (listed_to sorts p P view f y ys t rest hy w) (ap (λ z. a ++ z) (e ∙ ap (λ z. z ++ rest) (e' ∙ ap (λ z. z ++ t) es))) refl

pub listed_back : {X V : Type 0} (sorts : List ℕ) (p : V → List Spelled → Type 0) (P : X → List Spelled → Type 0) (view : V → X)
    → ((x : X) (us : List Spelled) → P x us → (v : V) × (view v ≡ x) × p v us) → {xs : List X} {ts : List Spelled} → Separated X sorts P xs ts
    → (v : V) × (more : List (Spelled × V)) × (view v ∷ map (λ y. view y.1) more ≡ xs) × (a : List Spelled) × (b : List Spelled) × (ts ≡ a ++ b) × p v a × Later sorts p more b
listed_back sorts p P view f (separated_one {ts} {x} h ex) =
    let (v, ev, hv) = f x ts h in
    (v, [], ap (λ z. z ∷ []) ev ∙ sym ex, ts, [], sym (append-nil ts), hv, refl)
listed_back sorts p P view f (separated_more {us} {vs} {x} c h hc w et ex) =
    let (v, ev, hv) = f x us h in
    let (y, ys, ey, a, b, e, hy, hw) = listed_back sorts p P view f w in
    (v, (c, y) ∷ ys, ap₂ (λ z zs. z ∷ zs) ev ey ∙ sym ex, us, c ∷ vs, et, hv, (c ∷ a, b, ap (λ z. c ∷ z) e, (c ∷ [], a, refl, (refl, hc), hy), hw))

-- and a token that closes them
abbrev pub Closed : {V : Type 0} → List ℕ → ℕ → (V → List Spelled → Type 0) → V × (List (Spelled × V) × Spelled) → List Spelled → Type 0
Closed sorts close p v ts = spells_both p (spells_both (Later sorts p) (spells_token (is sort (close ∷ [])))) v ts

pub closed_to : {X V : Type 0} (sorts : List ℕ) (close : ℕ) (p : V → List Spelled → Type 0) (P : X → List Spelled → Type 0) (view : V → X) → ((v : V) (us : List Spelled) → p v us → P (view v) us)
    → (v : V × (List (Spelled × V) × Spelled)) (ts : List Spelled) → Closed sorts close p v ts
    → (us : List Spelled) × (ts ≡ us ++ v.1.1 ∷ []) × Separated X sorts P (view v.0 ∷ map (λ y. view y.1) v.1.0) us × Is (close ∷ []) v.1.1
closed_to sorts close p P view f v ts (a, b, e, h, (c, d, e', w, (eq, hq))) =
    (a ++ c, e ∙ (ap (λ z. a ++ z) (e' ∙ ap (λ z. c ++ z) eq) ∙ sym (append_assoc a c (v.1.1 ∷ []))), listed_to sorts p P view f v.0 v.1.0 a c h w, hq)

pub closed_back : {X V : Type 0} (sorts : List ℕ) (close : ℕ) (p : V → List Spelled → Type 0) (P : X → List Spelled → Type 0) (view : V → X)
    → ((x : X) (us : List Spelled) → P x us → (v : V) × (view v ≡ x) × p v us) → {xs : List X} {us : List Spelled} (q : Spelled) → Separated X sorts P xs us → Is (close ∷ []) q
    → (v : V) × (more : List (Spelled × V)) × (view v ∷ map (λ y. view y.1) more ≡ xs) × Closed sorts close p (v, (more, q)) (us ++ q ∷ [])
closed_back sorts close p P view f q w hq =
    let (v, more, ev, a, b, e, h, hw) = listed_back sorts p P view f w in
    (v, more, ev, (a, b ++ q ∷ [], ap (λ z. z ++ q ∷ []) e ∙ append_assoc a b (q ∷ []), h, (b, q ∷ [], refl, hw, (refl, hq))))
