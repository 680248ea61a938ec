-- The least of rules that are broken, and the first.
use Rattle.std.proofs.Common.{◌≡◌, ◌⊎◌, ℕ, List, [], ◌∷◌, Bool, true, false, Option, Some, None, Decides, refl, sym, subst, inl, inr, ⊎_elim, arith, Contains, if◌then◌else◌}
use Rattle.std.specs.Prelude.{min}
use Rattle.std.proofs.lemmas.Bool.{cases_lt, false≢true}
use Rattle.c_rules.specs.Least.{told, least, least_in, IsLeast}
use Rattle.c_tree.proofs.Lists.{in_none, first_in}
use Rattle.c_rules.proofs.Anys.{behind_in, in_cases}

-- a rule that is broken or isn't
pub is_told : (P : Type 0) (rule : ℕ) (broken : Bool) → Decides broken P → IsLeast (λ other. (other ≡ rule) × P) (told rule broken)
is_told P rule true decides = ((refl, decides.0 refl), λ other (same, holds). omega arith)
is_told P rule false decides = λ other (same, holds). false≢true (decides.1 holds)

-- what holds of both holds of the lesser
of_min : (P : ℕ → Type 0) (a b : ℕ) → P a → P b → P (min a b)
of_min P a b of_a of_b =
    ⊎_elim (λ less. let same : a ≡ min a b = omega arith in subst P same of_a) (λ more. let same : b ≡ min a b = omega arith in subst P same of_b) (cases_lt a b)

-- of two
pub is_least : (P Q : ℕ → Type 0) (left right : Option ℕ) → IsLeast P left → IsLeast Q right → IsLeast (λ rule. P rule ⊎ Q rule) (least left right)
is_least P Q None None first second = λ rule either. ⊎_elim (first rule) (second rule) either
is_least P Q None (Some b) first second = (inr second.0, λ other either. ⊎_elim (λ p. absurd (first other p)) (second.1 other) either)
is_least P Q (Some a) None first second = (inl first.0, λ other either. ⊎_elim (first.1 other) (λ q. absurd (second other q)) either)
is_least P Q (Some a) (Some b) first second = (
  of_min (λ rule. P rule ⊎ Q rule) a b (inl first.0) (inr second.0),
  λ other either. ⊎_elim (λ p. let below = first.1 other p in omega arith) (λ q. let below = second.1 other q in omega arith) either,
)

-- of facts that are alike
pub is_like : (P Q : ℕ → Type 0) (rule : Option ℕ) → ((other : ℕ) → P other → Q other) → ((other : ℕ) → Q other → P other) → IsLeast P rule → IsLeast Q rule
is_like P Q None to from is = λ rule q. is rule (from rule q)
is_like P Q (Some rule) to from is = (to rule is.0, λ other q. is.1 other (from other q))

-- where something holds
pub is_where : (G : Type 0) (P : ℕ → Type 0) (given : Bool) (rule : Option ℕ) → Decides given G → IsLeast P rule → IsLeast (λ other. G × P other) (if given then rule else None)
is_where G P true rule decides is = is_like P (λ other. G × P other) rule (λ other p. (decides.0 refl, p)) (λ other (g, p). p) is
is_where G P false rule decides is = λ other (g, p). false≢true (decides.1 g)

-- of the elements of a list
pub is_in : {A : Type 0} (P : A → ℕ → Type 0) (broken : A → Option ℕ) → ((x : A) → IsLeast (P x) (broken x)) → (xs : List A) → IsLeast (λ rule. (x : A) × Contains xs x × P x rule) (least_in broken xs)
is_in P broken each [] = λ rule (x, among, holds). in_none x among
is_in {A} P broken each (y ∷ ys) =
    is_like (λ rule. P y rule ⊎ ((x : A) × Contains ys x × P x rule)) (λ rule. (x : A) × Contains (y ∷ ys) x × P x rule) (least (broken y) (least_in broken ys))
    (λ rule either. ⊎_elim (λ here. (y, first_in y ys, here)) (λ (x, among, holds). (x, behind_in x y ys among, holds)) either)
    (λ rule (x, among, holds). in_cases (P y rule ⊎ ((x : A) × Contains ys x × P x rule)) x y ys (λ same. inl (subst (λ z. P z rule) (sym same) holds)) (λ rest. inr (x, rest, holds)) among)
    (is_least (P y) (λ rule. (x : A) × Contains ys x × P x rule) (broken y) (least_in broken ys) (each y) (is_in P broken each ys))
