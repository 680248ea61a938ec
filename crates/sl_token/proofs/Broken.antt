-- Which broken rule is the first.
use Rattle.std.proofs.Common.{◌≡◌, ◌⊎◌, ℕ, ◌+◌, ◌<◌, ◌≤◌, List, length, take, drop, true, false, nat_le, Option, Some, None, IsUtf8, refl, sym, ap, subst, ◌∙◌, arith, inl, inr, ⊎_elim, take_all}
use Rattle.std.specs.Str.{IsValidUpTo}
use Rattle.std.proofs.lemmas.Bool.{cases_lt, cases_Bool, cond-true, cond-false}
use Rattle.std.proofs.lemmas.Bool.Decides.{nat_tests}
use Rattle.sl_token.specs.declared.piece.Piece.{Piece}
use Rattle.sl_token.specs.declared.piece.Piece.TheVariants as piece
use Rattle.sl_token.specs.Spellings.{piece_of}
use Rattle.sl_token.specs.Cut.{Stands, IsCut, header, most_bytes, BreaksHeader, BreaksUtf8, BreaksLength, BreaksPiece, Breaks, IsFirstBroken, KeepsStart, IsStop, first_of}
use Rattle.sl_token.proofs.Cuts.{cuts_end_alike}
use Rattle.sl_token.proofs.Faults.{fault_number, header_no_fault, header_is_valid}

-- a text begins with the header
abbrev pub HasHeader : List ℕ → Type 0
HasHeader text = take (length header) text ≡ header

-- a text has no place at which it stops being UTF-8 where it is UTF-8
pub whole_is_valid : (text : List ℕ) (place : ℕ) → IsUtf8 text → IsValidUpTo text place → ⊥
whole_is_valid text place whole valid =
    valid.longest (length text) valid.short (subst IsUtf8 (sym (take_all (length text) text (omega arith))) whole)

-- what a fault holds
abbrev number_in : Piece → ℕ
number_in (piece.Blank len) = 0
number_in (piece.Token kind len) = 0
number_in (piece.Fault number at) = number

abbrev further_in : Piece → ℕ
further_in (piece.Blank len) = 0
further_in (piece.Token kind len) = 0
further_in (piece.Fault number at) = at

-- there is one such place
pub one_valid : (text : List ℕ) (place other : ℕ) → IsValidUpTo text place → IsValidUpTo text other → place ≡ other
one_valid text place other valid also =
    ⊎_elim
    (λ (below : place < other). absurd (valid.longest other below also.front))
    (λ (above : other ≤ place).
    ⊎_elim
    (λ (less : other < place). absurd (also.longest place less valid.front))
    (λ (within : place ≤ other). omega arith)
    (cases_lt other place))
    (cases_lt place other)

-- which rule is broken
module _ {P : Type 0} (text : List ℕ) (number place : ℕ) where
  cases_of : (BreaksHeader text number place → P) → (BreaksUtf8 text number place → P) → (BreaksLength text number place → P)
      → (BreaksPiece text number place → P) → Breaks text number place → P
  cases_of header utf8 length piece broken = ⊎_elim header (⊎_elim utf8 (⊎_elim length piece)) broken

by_header : (text : List ℕ) (number place : ℕ) → BreaksHeader text number place → Breaks text number place
by_header text number place broken = inl broken

by_utf8 : (text : List ℕ) (number place : ℕ) → BreaksUtf8 text number place → Breaks text number place
by_utf8 text number place broken = inr (inl broken)

by_length : (text : List ℕ) (number place : ℕ) → BreaksLength text number place → Breaks text number place
by_length text number place broken = inr (inr (inl broken))

by_piece : (text : List ℕ) (number place : ℕ) → BreaksPiece text number place → Breaks text number place
by_piece text number place broken = inr (inr (inr broken))

-- a rule that stands behind another, or at its place with no lesser number
abbrev pub IsBehind : ℕ → ℕ → ℕ → ℕ → Type 0
IsBehind number place other at = (place < at) ⊎ ((place ≡ at) × (number ≤ other))

is_behind : (number place other at : ℕ) → place ≤ at → number ≤ other → IsBehind number place other at
is_behind number place other at from least = ⊎_elim (λ below. inl below) (λ (above : at ≤ place). inr (omega arith, least)) (cases_lt place at)

-- the rule L1 is the first where there is no header
pub no_header_first : (text : List ℕ) → ¬ HasHeader text → IsFirstBroken text 1 0
no_header_first text none = record {
  broken = by_header text 1 0 (refl, refl, none);
  first = λ other at broken.
      let behind : 1 ≤ other → IsBehind 1 0 other at = λ least. is_behind 1 0 other at (omega arith) least in
      cases_of text other at
      (λ b. behind (let is = b.0 in omega arith))
      (λ b. behind (let is = b.0 in omega arith))
      (λ b. behind (let is = b.0 in omega arith))
      (λ b. behind (let least = fault_number (drop b.1 text) other b.2 b.4.1 in omega arith))
      broken;
}

-- the rule L7 is the first where there is a header, and there are too many bytes
pub too_long_first : (text : List ℕ) → HasHeader text → most_bytes < length text → IsFirstBroken text 7 0
too_long_first text has long = record {
  broken = by_length text 7 0 (refl, refl, long);
  first = λ other at broken.
      cases_of {P = IsBehind 7 0 other at} text other at
      (λ b. absurd (b.2 has))
      (λ b. ⊎_elim (λ some. inl some) (λ none. absurd (header_is_valid text at has b.1 (omega arith))) (cases_lt 0 at))
      (λ b. inr (let is = b.1 in omega arith, let is = b.0 in omega arith))
      (λ b.
      ⊎_elim
      (λ some. inl (let is = b.5 in omega arith))
      (λ (none : b.1 ≤ 0).
      let start : b.1 ≡ 0 = omega arith in
      absurd (header_no_fault text other b.2 has (subst (λ place. piece_of (drop place text) ≡ piece.Fault other b.2) start b.4.1)))
      (cases_lt 0 b.1))
      broken;
}

-- behind a start that keeps L1 and L7 only two kinds of rules are broken
kept_start : {P : Type 0} (text : List ℕ) (number place : ℕ) → KeepsStart text → (BreaksUtf8 text number place → P)
    → (BreaksPiece text number place → P) → Breaks text number place → P
kept_start text number place keeps utf8 piece broken =
    cases_of text number place (λ b. absurd (b.2 keeps.begins)) utf8 (λ b. let short = keeps.short in let long = b.2 in absurd (omega arith)) piece broken

-- where the text is cut to its end no fault is reached
no_fault : (text : List ℕ) (pieces : List Piece) (other at : ℕ) → IsCut text 0 pieces (length text) → BreaksPiece text other at → ⊥
no_fault text pieces other at cut b =
    let same = cuts_end_alike text 0 pieces b.0 (length text) b.1 cut (inl (omega arith)) b.3 (inr (other, b.2, b.4)) in
    let within = b.4.0 in
    absurd (omega arith)

-- a text that is cut to its end breaks no rule
pub cut_keeps : (text : List ℕ) (pieces : List Piece) → KeepsStart text → IsUtf8 text → IsCut text 0 pieces (length text)
    → (number place : ℕ) → ¬ Breaks text number place
cut_keeps text pieces keeps utf8 cut number place broken =
    kept_start text number place keeps (λ b. whole_is_valid text place utf8 b.1) (λ b. no_fault text pieces number place cut b) broken

-- the rule L2 is the first where the text stops being UTF-8, and is cut to its end
pub utf8_first : (text : List ℕ) (pieces : List Piece) (place : ℕ) → KeepsStart text → IsCut text 0 pieces (length text)
    → IsValidUpTo text place → IsFirstBroken text 2 place
utf8_first text pieces place keeps cut valid = record {
  broken = by_utf8 text 2 place (refl, valid);
  first = λ other at broken.
      kept_start {P = IsBehind 2 place other at} text other at keeps
      (λ b. inr (one_valid text place at valid b.1, let is = b.0 in omega arith))
      (λ b. absurd (no_fault text pieces other at cut b))
      broken;
}

-- where a fault stands, every fault that is reached is this one
one_fault : (text : List ℕ) (pieces : List Piece) (from number further other at : ℕ) → IsCut text 0 pieces from
    → Stands text from (piece.Fault number further) → BreaksPiece text other at → (at ≡ from + further) × (other ≡ number)
one_fault text pieces from number further other at cut stands b =
    let same = cuts_end_alike text 0 pieces b.0 from b.1 cut (inr (number, further, stands)) b.3 (inr (other, b.2, b.4)) in
    let fault : piece.Fault number further ≡ piece.Fault other b.2 =
    sym stands.1 ∙ subst (λ place. piece_of (drop place text) ≡ piece.Fault other b.2) (sym same) b.4.1 in
    let numbers : number ≡ other = ap number_in fault in
    let places : further ≡ b.2 = ap further_in fault in
    let place = b.5 in
    (omega arith, sym numbers)

-- a fault, and where the text stops being UTF-8, if it does: the first of both is the first broken rule
pub fault_first : (text : List ℕ) (pieces : List Piece) (from number further : ℕ) (stop : Option ℕ) → KeepsStart text
    → IsCut text 0 pieces from → Stands text from (piece.Fault number further) → IsStop text stop
    → IsFirstBroken text (first_of stop number (from + further)).0 (first_of stop number (from + further)).1
fault_first text pieces from number further None keeps cut stands stops = record {
  broken = by_piece text number (from + further) (pieces, from, further, cut, stands, refl);
  first = λ other at broken.
      kept_start {P = IsBehind number (from + further) other at} text other at keeps
      (λ b. absurd (whole_is_valid text at stops b.1))
      (λ b. let same = one_fault text pieces from number further other at cut stands b in inr (sym same.0, let is = same.1 in omega arith))
      broken;
}
fault_first text pieces from number further (Some stop) keeps cut stands stops =
    ⊎_elim
    (λ e. subst First (sym (cond-true (nat_le stop place) (2, stop) (number, place) e)) (earlier e))
    (λ e. subst First (sym (cond-false (nat_le stop place) (2, stop) (number, place) e)) (later e))
    (cases_Bool (nat_le stop place))
  where
    place : ℕ
    place = from + further

    First : ℕ × ℕ → Type 0
    First rule = IsFirstBroken text rule.0 rule.1

    earlier : nat_le stop (from + further) ≡ true → IsFirstBroken text 2 stop
    earlier e = record {
      broken = by_utf8 text 2 stop (refl, stops);
      first = λ other at broken.
          kept_start {P = IsBehind 2 stop other at} text other at keeps
          (λ b. inr (one_valid text stop at stops b.1, let is = b.0 in omega arith))
          (λ b.
          let same = one_fault text pieces from number further other at cut stands b in
          let least = fault_number (drop from text) number further stands.1 in
          let before : stop ≤ from + further = grind (arith, nat_tests) in
          is_behind 2 stop other at (let is = same.0 in omega arith) (let is = same.1 in omega arith))
          broken;
    }

    later : nat_le stop (from + further) ≡ false → IsFirstBroken text number (from + further)
    later e = record {
      broken = by_piece text number (from + further) (pieces, from, further, cut, stands, refl);
      first = λ other at broken.
          kept_start {P = IsBehind number (from + further) other at} text other at keeps
          (λ b.
          let same = one_valid text stop at stops b.1 in
          let behind : from + further < stop = grind (arith, nat_tests) in
          inl (omega arith))
          (λ b. let same = one_fault text pieces from number further other at cut stands b in inr (sym same.0, let is = same.1 in omega arith))
          broken;
    }
