-- Of rules that may be broken, the one with the least number.
use Rattle.std.specs.Prelude.{◌≡◌, ◌⊎◌, ℕ, ◌<◌, ◌≤◌, List, [], ◌∷◌, Bool, false, ◌&&◌, ◌||◌, ◌==◌, Option, Some, None, min, if◌then◌else◌, nat_lt}
use Rattle.c_tree.specs.declared.fault.NotC.{NotC}

-- a rule where it is broken
abbrev pub told : ℕ → Bool → Option ℕ
told rule broken = if broken then Some rule else None

-- the lesser of two
abbrev pub least : Option ℕ → Option ℕ → Option ℕ
least None right = right
least (Some left) None = Some left
least (Some left) (Some right) = Some (min left right)

-- the least that elements break
abbrev pub least_in : {A : Type 0} → (A → Option ℕ) → List A → Option ℕ
least_in broken [] = None
least_in broken (x ∷ xs) = least (broken x) (least_in broken xs)

-- the rules that hold of P: none, or this is the one with the least number
abbrev pub IsLeast : (ℕ → Type 0) → Option ℕ → Type 0
IsLeast P None = (rule : ℕ) → ¬ P rule
IsLeast P (Some rule) = P rule × ((other : ℕ) → P other → rule ≤ other)

-- the rules that are broken on lines as P says: none, or this is the one on the least line, and there the one with the least
-- number
abbrev pub IsFirst : (ℕ → ℕ → Type 0) → Option NotC → Type 0
IsFirst P None = (rule line : ℕ) → ¬ P rule line
IsFirst P (Some first) = P first.rule first.line × ((other elsewhere : ℕ) → P other elsewhere → (first.line < elsewhere) ⊎ ((first.line ≡ elsewhere) × (first.rule ≤ other)))

-- a rule that is broken on a line stands before the one that is told so far
abbrev pub is_before : ℕ → ℕ → NotC → Bool
is_before rule line first = nat_lt line first.line || (line == first.line && nat_lt rule first.rule)

-- no rule that is broken in a function on a line stands before what is told so far: rules in functions have numbers from 10 on
abbrev pub is_settled : Option NotC → ℕ → Bool
is_settled None line = false
is_settled (Some first) line = nat_lt first.line line || (first.line == line && nat_lt first.rule 11)

-- the first, of what is told so far and a rule that is broken on a line
abbrev pub sooner : Option NotC → ℕ → Option ℕ → Option NotC
sooner best line None = best
sooner None line (Some rule) = Some (record { line = line; rule = rule })
sooner (Some first) line (Some rule) = if is_before rule line first then Some (record { line = line; rule = rule }) else Some first
