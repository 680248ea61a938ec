-- Each file has an answer: its tokens, or the rule L that it breaks first, and where.
use Rattle.std.proofs.Common.{◌≡◌, ◌⊎◌, inl, inr, ℕ, zero, suc, ◌+◌, ◌≤◌, List, [], ◌∷◌, ◌++◌, length, take, drop, Bool, true, false, true≢false, Option, Some, None, IsUtf8, refl, sym, subst, ◌∙◌, arith, take_all}
use Rattle.std.specs.Prelude.{bytes_eq, ◌<◌}
use Rattle.std.specs.Str.{is_utf8, IsValidUpTo}
use Rattle.std.proofs.lemmas.Bool.{cases_lt}
use Rattle.std.proofs.lemmas.Slice.Eq.{bytes_eq-Decides}
use Rattle.std.proofs.lemmas.Str.{IsUtf8-nil, IsUtf8-from_is_utf8, is_utf8-from_IsUtf8}
use Rattle.sl_text.specs.declared.token.Token.{Token}
use Rattle.sl_text.specs.declared.fault.Broken.{Broken}
use Rattle.sl_text.specs.declared.rule.Phase.TheVariants.{L}
use Rattle.sl_token.specs.declared.piece.Piece.{Piece}
use Rattle.sl_token.specs.declared.piece.Piece.TheVariants as piece
use Rattle.sl_token.specs.Spellings.{piece_of}
use Rattle.sl_token.specs.Layout.{laid}
use Rattle.sl_token.specs.Cut.{LiesWithin, IsLongestIfSpelled, IsCut, tokens_of, header, most_bytes, KeepsStart, IsFirstBroken, AreTokens, IsFirstFault, IsStop, first_of}
use Rattle.sl_token.proofs.Cuts.{cut_more, IsStuck}
use Rattle.sl_token.proofs.Within.{lies_within}
use Rattle.sl_token.proofs.Longest.{longest_if_spelled}
use Rattle.sl_token.proofs.Broken.{no_header_first, too_long_first, cut_keeps, utf8_first, fault_first}

-- a cut from the start of a text that goes on no further
abbrev Whole : List ℕ → Type 0
Whole text = (pieces : List Piece) × (to : ℕ) × (to ≤ length text) × IsCut text 0 pieces to × IsStuck text to

-- a cut goes on to the end, or to a fault: so many pieces more at most as there are bytes left
cut_on : (left : ℕ) (text : List ℕ) (from : ℕ) (pieces : List Piece) → from ≤ length text → length text ≤ from + left → IsCut text 0 pieces from → Whole text
cut_on zero text from pieces within enough cut = (pieces, from, within, cut, inl (omega arith))
cut_on (suc left) text from pieces within enough cut = by (λ to all. cut_on left text to all) (cases_lt from (length text))
  where
    further : ((to : ℕ) (all : List Piece) → to ≤ length text → length text ≤ to + left → IsCut text 0 all to → Whole text) → from < length text
        → (next : Piece) → piece_of (drop from text) ≡ next → LiesWithin (length text) from next → IsLongestIfSpelled (drop from text) next → Whole text
    further on some (piece.Blank len) is lies longest =
        on (from + len) (pieces ++ piece.Blank len ∷ []) lies.1 (let more = lies.0 in omega arith) (cut_more text 0 pieces from (piece.Blank len) cut (some, is) longest)
    further on some (piece.Token kind len) is lies longest =
        on (from + len) (pieces ++ piece.Token kind len ∷ []) lies.1 (let more = lies.0 in omega arith) (cut_more text 0 pieces from (piece.Token kind len) cut (some, is) longest)
    further on some (piece.Fault number at) is lies longest = (pieces, from, within, cut, inr (number, at, (some, is)))

    by : ((to : ℕ) (all : List Piece) → to ≤ length text → length text ≤ to + left → IsCut text 0 all to → Whole text) → (from < length text) ⊎ (length text ≤ from) → Whole text
    by on (inl some) = further on some (piece_of (drop from text)) refl (lies_within text from some) (longest_if_spelled (drop from text))
    by on (inr past) = (pieces, from, within, cut, inl past)

whole_cut : (text : List ℕ) → Whole text
whole_cut text = cut_on (length text) text 0 [] (omega arith) (omega arith) refl

-- what isn't UTF-8 by its test isn't UTF-8
not_utf8 : (bytes : List ℕ) → is_utf8 bytes ≡ false → IsUtf8 bytes → ⊥
not_utf8 bytes e whole = true≢false (sym (is_utf8-from_IsUtf8 bytes whole) ∙ e)

-- a text of which no front of so many bytes or more is UTF-8 stops being UTF-8 before
stops_below : (most : ℕ) (text : List ℕ) → most ≤ length text → ((n : ℕ) → most ≤ n → IsUtf8 (take n text) → ⊥) → (place : ℕ) × IsValidUpTo text place
stops_below zero text within none = absurd (none 0 (omega arith) IsUtf8-nil)
stops_below (suc most) text within none = by (λ h g. stops_below most text h g) (is_utf8 (take most text)) refl
  where
    by : (most ≤ length text → ((n : ℕ) → most ≤ n → IsUtf8 (take n text) → ⊥) → (place : ℕ) × IsValidUpTo text place) → (b : Bool) → is_utf8 (take most text) ≡ b → (place : ℕ) × IsValidUpTo text place
    by below true e = (most, record { short = omega arith; front = IsUtf8-from_is_utf8 (take most text) e; longest = λ n more. none n (omega arith) })
    by below false e = below (omega arith) (λ n least whole. at n whole (cases_lt most n) least)
      where
        at : (n : ℕ) → IsUtf8 (take n text) → (most < n) ⊎ (n ≤ most) → most ≤ n → ⊥
        at n whole (inl more) least = none n (omega arith) whole
        at n whole (inr less) least = let same : n ≡ most = omega arith in not_utf8 (take most text) e (subst (λ k. IsUtf8 (take k text)) same whole)

-- where a text stops being UTF-8, if it does
stop_of : (text : List ℕ) → (stop : Option ℕ) × IsStop text stop
stop_of text = by (is_utf8 text) refl
  where
    by : (b : Bool) → is_utf8 text ≡ b → (stop : Option ℕ) × IsStop text stop
    by true e = (None, IsUtf8-from_is_utf8 text e)
    by false e =
        let (place, valid) = stops_below (length text) text (omega arith) (λ n long whole. not_utf8 text e (subst IsUtf8 (take_all n text long) whole)) in
        (Some place, valid)

-- its tokens, or the rule L that it breaks first
abbrev pub Answer : ℕ → List ℕ → Type 0
Answer file text = ((tokens : List Token) × AreTokens file text tokens) ⊎ ((broken : Broken) × IsFirstFault file text broken)

fault : (file : ℕ) (text : List ℕ) (number place : ℕ) → IsFirstBroken text number place → Answer file text
fault file text number place first =
    inr (record { rule = record { phase = L; number = number }; span = record { file = file; from = place; to = place } }, record { phase = refl; first = first; span = refl })

module _ (file : ℕ) (text : List ℕ) where
  -- behind a start that keeps L1 and L7
  behind_start : KeepsStart text → (pieces : List Piece) (to : ℕ) → to ≤ length text → IsCut text 0 pieces to → IsStuck text to → (stop : Option ℕ) → IsStop text stop → Answer file text
  behind_start keeps pieces to within cut (inr (number, at, stands)) stop stops =
      fault file text (first_of stop number (to + at)).0 (first_of stop number (to + at)).1 (fault_first text pieces to number at stop keeps cut stands stops)
  behind_start keeps pieces to within cut (inl past) None stops =
      let same : to ≡ length text = omega arith in
      let whole : IsCut text 0 pieces (length text) = subst (IsCut text 0 pieces) same cut in
      inl (laid text [] (tokens_of file 0 pieces), record { keeps = cut_keeps text pieces keeps stops whole; cut = (pieces, whole, refl) })
  behind_start keeps pieces to within cut (inl past) (Some place) stops =
      let same : to ≡ length text = omega arith in
      fault file text 2 place (utf8_first text pieces place keeps (subst (IsCut text 0 pieces) same cut) stops)

  kept : KeepsStart text → Answer file text
  kept keeps =
      let (pieces, to, within, cut, stuck) = whole_cut text in
      let (stop, stops) = stop_of text in
      behind_start keeps pieces to within cut stuck stop stops

  pub each_answer : Answer file text
  each_answer = by (bytes_eq header (take (length header) text)) refl
    where
      decides : (bytes_eq header (take (length header) text) ≡ true → header ≡ take (length header) text) × (header ≡ take (length header) text → bytes_eq header (take (length header) text) ≡ true)
      decides = bytes_eq-Decides header (take (length header) text)

      short_or_long : take (length header) text ≡ header → (most_bytes < length text) ⊎ (length text ≤ most_bytes) → Answer file text
      short_or_long has (inl long) = fault file text 7 0 (too_long_first text has long)
      short_or_long has (inr short) = kept (record { begins = has; short = short })

      by : (b : Bool) → bytes_eq header (take (length header) text) ≡ b → Answer file text
      by true e = short_or_long (sym (decides.0 e)) (cases_lt most_bytes (length text))
      by false e = fault file text 1 0 (no_header_first text (λ has. true≢false (sym (decides.1 (sym has)) ∙ e)))
