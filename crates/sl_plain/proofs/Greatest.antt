-- The greatest of some numbers.
use Rattle.std.proofs.Common.{ℕ, ◌≤◌, List, [], ◌∷◌, map, max, arith}
use Rattle.std.specs.List.{fold, AllByRecursion}

-- it is no more than what bounds them all
pub greatest_within : (n a : ℕ) (xs : List ℕ) → a ≤ n → AllByRecursion (λ x. x ≤ n) xs → fold max a xs ≤ n
greatest_within n a [] le all = le
greatest_within n a (x ∷ xs) le all = greatest_within n (max a x) xs (let first = all.0 in omega arith) all.1

-- it bounds them all
greatest_above : (a : ℕ) (xs : List ℕ) → a ≤ fold max a xs
greatest_above a [] = omega arith
greatest_above a (x ∷ xs) = let rest = greatest_above (max a x) xs in omega arith

pub greatest_bounds : (a : ℕ) (xs : List ℕ) → AllByRecursion (λ x. x ≤ fold max a xs) xs
greatest_bounds a [] = tt
greatest_bounds a (x ∷ xs) = (let rest = greatest_above (max a x) xs in omega arith, greatest_bounds (max a x) xs)

-- what is so of what each is mapped to
pub all_to_map : {A B : Type 0} (P : B → Type 0) (f : A → B) (xs : List A) → AllByRecursion (λ x. P (f x)) xs → AllByRecursion P (map f xs)
all_to_map P f [] all = tt
all_to_map P f (x ∷ xs) all = (all.0, all_to_map P f xs all.1)
