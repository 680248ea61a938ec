-- The lines of places, from the places of line feeds in order.
use Rattle.std.proofs.Common.{◌≡◌, ℕ, zero, suc, ◌+◌, ◌<◌, ◌≤◌, List, [], ◌∷◌, length, get_or, true, false, cond, nat_lt, refl, ap, ◌∙◌, arith}
use Rattle.std.specs.List.{count_by}
use Rattle.std.proofs.lemmas.List.Sums.{sum_by-cons}

below_zero : (i : ℕ) → i < 0 → ⊥
below_zero i h = omega (arith, h)

-- as many line feeds stand before a place as are less
pub counted : (place : ℕ) (feeds : List ℕ) (before : ℕ) → before ≤ length feeds → ((i : ℕ) → i < before → nat_lt (get_or feeds i 0) place ≡ true) → ((i : ℕ) → before ≤ i → i < length feeds → nat_lt (get_or feeds i 0) place ≡ false)
    → count_by (λ feed. nat_lt feed place) feeds ≡ before
counted place [] zero le below above = refl
counted place [] (suc before) le below above = omega arith
counted place (feed ∷ feeds) zero le below above =
    let rest = counted place feeds zero (omega arith) (λ i h. absurd (below_zero i h)) (λ i h k. above (suc i) (omega arith) (omega (arith, k))) in
    let none : 0 + count_by (λ feed. nat_lt feed place) feeds ≡ 0 = omega (arith, rest)
    in sum_by-cons (λ feed. cond (nat_lt feed place) 1 0) feed feeds ∙ ap (λ b. cond b 1 0 + count_by (λ feed. nat_lt feed place) feeds) (above 0 (omega arith) (omega arith)) ∙ none
counted place (feed ∷ feeds) (suc before) le below above =
    let rest = counted place feeds before (omega arith) (λ i h. below (suc i) (omega (arith, h))) (λ i h k. above (suc i) (omega (arith, h)) (omega (arith, k))) in
    let one : 1 + count_by (λ feed. nat_lt feed place) feeds ≡ suc before = omega (arith, rest)
    in sum_by-cons (λ feed. cond (nat_lt feed place) 1 0) feed feeds ∙ ap (λ b. cond b 1 0 + count_by (λ feed. nat_lt feed place) feeds) (below 0 (omega arith)) ∙ one
