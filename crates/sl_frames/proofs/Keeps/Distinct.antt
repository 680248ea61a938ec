-- When the names of lists of variables and functions differ.
use Rattle.std.proofs.Common.{◌≡◌, ℕ, ◌+◌, ◌-◌, ◌<◌, ◌≤◌, zero, suc, List, [], ◌∷◌, ◌++◌, false, refl, ap, arith, All, Contains}
use Rattle.std.specs.List.{IsDistinct}
use Rattle.std.specs.Str.{bytes_eq}
use Rattle.std.proofs.lemmas.List.Elements.{All-nil, All-cons, All-head, All-tail, All-append, All-from_recursion, recursion_from_All}
use Rattle.std.proofs.lemmas.Map.Keys.{IsDistinct-head, IsDistinct-tail, IsDistinct-cons}
use Rattle.c_tree.specs.Rules.{var_names}
use Rattle.sl_frames.specs.Translated.{named_from}

-- one name differs from others
abbrev pub DiffersFrom : List (List ℕ) → List ℕ → Type 0
DiffersFrom names name = All (λ other. bytes_eq name other ≡ false) names

-- names that differ, and others that do, differ where none of these is one of those
pub distinct_append : (xs ys : List (List ℕ)) → IsDistinct bytes_eq xs → IsDistinct bytes_eq ys → All (DiffersFrom ys) xs → IsDistinct bytes_eq (xs ++ ys)
distinct_append [] ys first second apart = second
distinct_append (x ∷ xs) ys first second apart =
    IsDistinct-cons bytes_eq x (xs ++ ys)
    (recursion_from_All (λ y. bytes_eq x y ≡ false) (xs ++ ys)
    (All-append (λ y. bytes_eq x y ≡ false) xs ys (All-from_recursion (λ y. bytes_eq x y ≡ false) xs (IsDistinct-head bytes_eq x xs first)) (All-head (DiffersFrom ys) x xs apart)))
    (distinct_append xs ys (IsDistinct-tail bytes_eq x xs first) second (All-tail (DiffersFrom ys) x xs apart))

module _ (name : ℕ → List ℕ) where
  -- what holds of the names of some numbers holds of each
  pub all_named : (P : List ℕ → Type 0) (first count : ℕ) → ((number : ℕ) → first ≤ number → number < first + count → P (name number)) → All P (var_names (named_from name first count))
  all_named P first zero holds = All-nil P
  all_named P first (suc count) holds =
      All-cons P (name first) (var_names (named_from name (suc first) count)) (holds first (omega arith) (omega arith))
      (all_named P (suc first) count (λ number low high. holds number (omega arith) (omega arith)))

  -- they differ where two numbers below a limit have two names
  pub distinct_named : (limit : ℕ) → ((a b : ℕ) → a < b → b < limit → bytes_eq (name a) (name b) ≡ false) → (first count : ℕ) → first + count ≤ limit → IsDistinct bytes_eq (var_names (named_from name first count))
  unfolding IsDistinct
  distinct_named limit apart first zero within = tt
  distinct_named limit apart first (suc count) within =
      IsDistinct-cons bytes_eq (name first) (var_names (named_from name (suc first) count))
      (recursion_from_All (λ other. bytes_eq (name first) other ≡ false) (var_names (named_from name (suc first) count))
      (all_named (λ other. bytes_eq (name first) other ≡ false) (suc first) count (λ number low high. apart first number (omega arith) (omega arith))))
      (distinct_named limit apart (suc first) count (omega arith))

  -- each of them is among them
  pub is_named : (first count number : ℕ) → first ≤ number → number < first + count → Contains (var_names (named_from name first count)) (name number)
  is_named first zero number low high = absurd (omega arith)
  is_named first (suc count) number low high = by (number - first) refl (λ more. is_named (suc first) count number (omega arith) (omega arith))
    where
      by : (behind : ℕ) → number - first ≡ behind → (0 < number - first → Contains (var_names (named_from name (suc first) count)) (name number)) → Contains (var_names (named_from name first (suc count))) (name number)
      by zero is go = (0, omega arith, ap name (let same : first ≡ number = omega arith in same))
      by (suc behind) is go =
          let rest : Contains (var_names (named_from name (suc first) count)) (name number) = go (omega arith) in
          (suc rest.0, (let inside = rest.1 in omega arith), rest.2)
