-- The digits that `sl_print` puts are the number in decimal.
use Rattle.std.proofs.Common.{◌≡◌, ℕ, ◌+◌, ◌*◌, ◌/◌, ◌%◌, ◌<◌, ◌≤◌, ◌^◌, List, [], ◌∷◌, ◌++◌, Bool, true, false, if◌then◌else◌, nat_le, refl, sym, ap, ◌∙◌, arith, append_assoc, append-nil}
use Rattle.std.specs.Fmt.{decimal}
use Rattle.std.proofs.lemmas.Bool.Decides.{nat_tests}
use Rattle.std.proofs.lemmas.Fmt.{decimal_step, decimal_by_steps}
use Rattle.std.proofs.lemmas.Nat.{le-div}
use Rattle.std.proofs.Math.Nat.{div-le_self, div-lt_iff_lt-mul, div-div-eq-div-mul}
use Rattle.c_helpers.specs.Functions.{powers}
use Rattle.c_helpers.specs.Laws.{digit_at}

-- its digits at some powers
abbrev pub digits_at : ℕ → List ℕ → List ℕ
digits_at n [] = []
digits_at n (p ∷ ps) = digit_at n p ++ digits_at n ps

-- its digits from the power p on
abbrev digits_from : ℕ → ℕ → List ℕ
digits_from n p = if nat_le p n then decimal (n / p) else []

-- a number below 10 is one digit
one_digit : (n : ℕ) → n < 10 → decimal n ≡ (48 + n) ∷ []
one_digit n h = decimal_by_steps (λ n ds. n < 10 → ds ≡ (48 + n) ∷ []) (λ n less also. refl) (λ n ds more before less. absurd (omega arith)) n (omega arith) h

-- with the digit at one more power
next_at : (n p q : ℕ) (above here : Bool) → nat_le q n ≡ above → nat_le p n ≡ here → q ≡ p * 10 → 0 < p → n < 2 ^ 64 → digits_from n q ++ digit_at n p ≡ digits_from n p
next_at n p q true true e f tens positive short =
    let more : 10 ≤ n / p = le-div 10 n p positive (grind (arith, nat_tests)) in
    let less = div-le_self n p in
    let step = decimal_step (n / p) more (omega arith) in
    let twice : n / q ≡ n / p / 10 = ap (λ k. n / k) tens ∙ sym (div-div-eq-div-mul n p 10) in
    rw (e, f, twice, step)
next_at n p q true false e f tens positive short = absurd (grind (arith, nat_tests))
next_at n p q false true e f tens positive short =
    let below : n < 10 * p = grind (arith, nat_tests) in
    let less : n / p < 10 = (div-lt_iff_lt-mul {k = p} {x = n} {y = 10} positive).1 below in
    let one = one_digit (n / p) less in
    let same : (n / p) % 10 ≡ n / p = omega arith in
    rw (e, f, same, one)
next_at n p q false false e f tens positive short = rw (e, f)

-- powers of ten, each a tenth of the one before it, from a tenth of q down to the last
abbrev Descend : ℕ → List ℕ → ℕ → Type 0
Descend q [] last = q ≡ last
Descend q (p ∷ ps) last = (q ≡ p * 10) × (0 < p) × Descend p ps last

descends : (n q : ℕ) (ps : List ℕ) (last : ℕ) → n < 2 ^ 64 → Descend q ps last → digits_from n q ++ digits_at n ps ≡ digits_from n last
descends n q [] last short same = simp append-nil (ap (digits_from n) same)
descends n q (p ∷ ps) last short down =
    sym (append_assoc (digits_from n q) (digit_at n p) (digits_at n ps))
    ∙ ap (λ ds. ds ++ digits_at n ps) (next_at n p q (nat_le q n) (nat_le p n) refl refl down.0 down.1 short)
    ∙ descends n p ps last short down.2

-- the last digit is there always
last_at : (n : ℕ) (more : Bool) → nat_le 10 n ≡ more → n < 2 ^ 64 → digits_from n 10 ++ (48 + n % 10) ∷ [] ≡ decimal n
last_at n true e short = let step = decimal_step n (grind (arith, nat_tests)) short in rw (e, step)
last_at n false e short =
    let less : n < 10 = grind (arith, nat_tests) in
    let same : n % 10 ≡ n = omega arith in
    rw (e, same) (sym (one_digit n less))

-- all of them
pub decimal_is : (n : ℕ) → n < 10 ^ 19 → digits_at n powers ++ (48 + n % 10) ∷ [] ≡ decimal n
decimal_is n short =
    let none : nat_le 10000000000000000000 n ≡ false = grind (arith, nat_tests) in
    let first : digits_from n 10000000000000000000 ≡ [] = rw none in
    ap (λ ds. ds ++ (48 + n % 10) ∷ []) (
    ap (λ ds. ds ++ digits_at n powers) (sym first)
    ∙ descends n 10000000000000000000 powers 10 (omega arith) (refl, omega arith, (refl, omega arith, (refl, omega arith, (refl, omega arith, (refl, omega arith, (refl, omega arith, (refl, omega arith, (refl, omega arith, (refl, omega arith, (refl, omega arith, (refl, omega arith, (refl, omega arith, (refl, omega arith, (refl, omega arith, (refl, omega arith, (refl, omega arith, (refl, omega arith, (refl, omega arith, refl)))))))))))))))))))
    ∙ last_at n (nat_le 10 n) refl (omega arith)
