-- Runs of bytes: spaces, comments on one line, operators, Marks and numbers.
use Rattle.std.proofs.Common.{◌≡◌, ◌≢◌, ℕ, zero, suc, ◌+◌, ◌<◌, ◌≤◌, List, [], ◌∷◌, length, take, drop, slice_index, Bool, true, false, not, ◌&&◌, ◌||◌, ◌==◌, nat_lt, refl, arith, ⊎_elim, inl, inr}
use Rattle.std.specs.List.{prefix_len}
use Rattle.std.proofs.lemmas.Bool.{cond_both, both_ways, and_parts, or_parts, and_cases, eqb-true, eqb-false, ltb-false, not-true, cases_Bool, cases_lt, cond-true, cond-false}
use Rattle.std.proofs.lemmas.Bool.Decides.{nat_tests}
use Rattle.std.proofs.lemmas.List.Sums.{prefix_len-le-length, prefix_len_passes, prefix_len_stops}
use Rattle.sl_text.specs.declared.token.Kind.TheVariants as kind
use Rattle.sl_token.specs.declared.opening.Opening.TheVariants as opens
use Rattle.sl_token.specs.declared.piece.Piece.{Piece}
use Rattle.sl_token.specs.declared.piece.Piece.TheVariants.{Blank, Token, Fault}
use Rattle.sl_token.specs.Characters.{continue_len}
use Rattle.sl_token.specs.Spellings.{is_space, is_digit, is_operator, begins_line_comment, begins_comment, line_len, operator_len, goes_on, is_sign, operator_piece, number_piece}
use Rattle.sl_token.specs.Longest.{FirstBytes, IsSpace, IsLineComment, IsOperator, IsNumber, Spells}
use Rattle.sl_token.proofs.Within.{Begun, passing, within, prefix_some, operator_some, operator_len_within}

-- this is spelled behind this opening, and nothing longer
abbrev pub Longest : (Spelled : ℕ → Type 0) → Piece → Type 0
Longest Spelled (Blank n) = Spelled n × ((m : ℕ) → Spelled m → m ≤ n)
Longest Spelled (Token of n) = Spelled n × ((m : ℕ) → Spelled m → m ≤ n)
Longest Spelled (Fault number at) = Unit {0}

-- the first bytes that pass
pub run_passes : (test : ℕ → Bool) (bytes : List ℕ) → FirstBytes (λ byte. test byte ≡ true) bytes (prefix_len test bytes)
run_passes test bytes = (prefix_len-le-length test bytes, λ place less. prefix_len_passes test bytes place 0 less)

-- as many pass at most
pub run_most : (test : ℕ → Bool) (bytes : List ℕ) (m : ℕ) → FirstBytes (λ byte. test byte ≡ true) bytes m → m ≤ prefix_len test bytes
run_most test bytes m first =
    ⊎_elim
    (λ less. absurd (both_ways (test (slice_index bytes (prefix_len test bytes))) (prefix_len_stops test bytes 0 (let most = first.0 in omega arith)) (first.1 (prefix_len test bytes) less)))
    (λ least. least)
    (cases_lt (prefix_len test bytes) m)

pub space_longest : (bytes : List ℕ) → Begun opens.Space bytes → Longest (IsSpace bytes) (Blank (prefix_len is_space bytes))
unfolding is_space
space_longest bytes h = (
  record { some = prefix_some is_space bytes (passing is_space bytes refl h) h; spaces = run_passes is_space bytes },
  λ m spelled. run_most is_space bytes m spelled.spaces,
)

pub line_longest : (bytes : List ℕ) → Begun opens.LineComment bytes → Longest (IsLineComment bytes) (Blank (line_len bytes))
unfolding begins_line_comment line_len
line_longest bytes h = (
  record {
    begins = h;
    marks = two;
    line = ((run_passes test bytes).0, λ place less is. both_ways (test (slice_index bytes place)) (rw is refl) ((run_passes test bytes).1 place less));
  },
  λ m spelled. run_most test bytes m (spelled.line.0, λ place less. other (slice_index bytes place) (spelled.line.1 place less)),
)
  where
    test : ℕ → Bool
    test byte = not (byte == 10)

    other : (byte : ℕ) → byte ≢ 10 → test byte ≡ true
    other byte differs = grind (arith, nat_tests)

    slashes : (place : ℕ) → place < 2 → slice_index bytes place ≡ 47
    slashes zero less = eqb-true (slice_index bytes 0) 47 (and_parts (slice_index bytes 0 == 47) (slice_index bytes 1 == 47) h).0
    slashes (suc zero) less = eqb-true (slice_index bytes 1) 47 (and_parts (slice_index bytes 0 == 47) (slice_index bytes 1 == 47) h).1
    slashes (suc (suc place)) less = absurd (omega arith)

    two : 2 ≤ prefix_len test bytes
    two = run_most test bytes 2 (
      (let second = slashes 1 (omega arith) in let there = within bytes 1 (omega arith) in omega arith),
      λ place less. other (slice_index bytes place) (λ is. let slash = slashes place less in omega arith),
    )

pub mark_longest : (bytes : List ℕ) → Begun opens.Mark bytes → Longest (Spells opens.Mark bytes) (Token kind.Mark 1)
mark_longest bytes h = ((h, refl), λ m spelled. let is = spelled.1 in omega arith)

-- what `operator_len` says of each place
operator_bytes : (bytes : List ℕ) (place : ℕ) → place < operator_len bytes → (is_operator (slice_index bytes place) ≡ true) × (begins_comment (drop place bytes) ≡ false)
unfolding operator_len goes_on
operator_bytes [] place less = absurd (omega arith)
operator_bytes (byte ∷ bytes) place less =
    let test = is_operator byte && not (begins_comment (byte ∷ bytes)) in
    ⊎_elim
    (λ e. let both = and_parts (is_operator byte) (not (begins_comment (byte ∷ bytes))) e in
    at (λ place less. operator_bytes bytes place less) place both.0 (not-true (begins_comment (byte ∷ bytes)) both.1) (let more = cond-true test (1 + operator_len bytes) 0 e in omega arith))
    (λ e. absurd (let none = cond-false test (1 + operator_len bytes) 0 e in omega arith))
    (cases_Bool test)
  where
    at : ((place : ℕ) → place < operator_len bytes → (is_operator (slice_index bytes place) ≡ true) × (begins_comment (drop place bytes) ≡ false))
        → (place : ℕ) → is_operator byte ≡ true → begins_comment (byte ∷ bytes) ≡ false → place < 1 + operator_len bytes
        → (is_operator (slice_index (byte ∷ bytes) place) ≡ true) × (begins_comment (drop place (byte ∷ bytes)) ≡ false)
    at rest zero is none less = (is, none)
    at rest (suc place) is none less = rest place (omega arith)

-- no longer run has them
operator_most : (bytes : List ℕ) (m : ℕ) → m ≤ length bytes
    → ((place : ℕ) → place < m → (is_operator (slice_index bytes place) ≡ true) × (begins_comment (drop place bytes) ≡ false)) → m ≤ operator_len bytes
unfolding operator_len goes_on
operator_most [] m fits each = fits
operator_most (byte ∷ bytes) zero fits each = omega arith
operator_most (byte ∷ bytes) (suc m) fits each =
    let now = each 0 (omega arith) in
    let rest = operator_most bytes m (omega arith) (λ place less. each (suc place) (omega arith)) in
    rw (now.0, now.1) (omega arith)

pub operator_longest : (bytes : List ℕ) → Begun opens.Operator bytes → Longest (IsOperator bytes) (operator_piece bytes)
unfolding operator_piece
operator_longest bytes h =
    let len = operator_len bytes in
    let is : Longest (IsOperator bytes) (Token kind.Operator len) = (
      record {
        some = operator_some bytes h.0 h.1;
        operators = (operator_len_within bytes, λ place less. (operator_bytes bytes place less).0);
        no_comment = λ place less. (operator_bytes bytes place less).1;
      },
      λ m spelled. operator_most bytes m spelled.operators.0 (λ place less. (spelled.operators.1 place less, spelled.no_comment place less)),
    ) in
    cond_both (is_sign (take len bytes)) (Token kind.Mark len) (Token kind.Operator len) (Longest (IsOperator bytes)) (λ e. is) (λ e. is)

pub number_longest : (bytes : List ℕ) → Begun opens.Digit bytes → Longest (IsNumber bytes) (number_piece bytes)
unfolding number_piece is_digit
number_longest bytes h =
    let len = prefix_len is_digit bytes in
    let zero_first = slice_index bytes 0 == 48 && nat_lt 1 len in
    let long = nat_lt 38 len in
    let goes_on = not (continue_len (drop len bytes) == 0) in
    cond_both (zero_first || long || goes_on) (Fault 8 0) (Token kind.Number len) (Longest (IsNumber bytes))
    (λ e. tt)
    (λ e.
    let parts = or_parts (zero_first || long) goes_on e in
    let first = or_parts zero_first long parts.0 in
    let some : 0 < len = prefix_some is_digit bytes (passing is_digit bytes refl h) h in (
      record {
        some = some;
        most = ltb-false 38 len first.1;
        digits = run_passes is_digit bytes;
        leading = ⊎_elim
            (λ no. inr (eqb-false (slice_index bytes 0) 48 no))
            (λ no. inl (let one = ltb-false 1 len no in omega arith))
            (and_cases (slice_index bytes 0 == 48) (nat_lt 1 len) first.0);
      },
      λ m spelled. run_most is_digit bytes m spelled.digits,
    ))
