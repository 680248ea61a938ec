-- Letters and Symbols.
use Rattle.std.proofs.Common.{◌≡◌, ◌≢◌, ◌⊎◌, ℕ, ◌+◌, ◌<◌, List, ◌++◌, length, drop, slice_index, Bool, true, false, not, ◌&&◌, ◌||◌, ◌==◌, refl, sym, ap, subst, ◌∙◌, arith, ⊎_elim, inl, inr, take-append-drop, length-take-le}
use Rattle.std.proofs.lemmas.Bool.{cond_both, both_ways, and_parts, and_from, or_parts, eq-eqb, ne_eqb, eqb-true, eqb-false, not-true, not_from_false, cases_eq}
use Rattle.bstr.specs.Utf8.{Decoded, good, decoded}
use Rattle.bstr.proofs.lemmas.PieceLemmas.{value-1}
use Rattle.bstr.proofs.lemmas.EncodeLemmas.{decoded-encode}
use Rattle.std.specs.Char.{encode_utf8}
use Rattle.sl_text.specs.declared.token.Kind.TheVariants as kind
use Rattle.sl_token.specs.declared.opening.Opening.TheVariants as opens
use Rattle.sl_token.specs.declared.piece.Piece.TheVariants.{Token, Fault}
use Rattle.sl_token.specs.Characters.{len_if, char_len, start_len}
use Rattle.sl_token.specs.Spellings.{escape_len, name_len, identifier_len, symbol_piece, letter_piece}
use Rattle.sl_token.specs.Longest.{IsCharacter, IsLetter, IsSymbol, Spells}
use Rattle.sl_token.proofs.Within.{Begun, within}
use Rattle.sl_token.proofs.Longest.Runs.{Longest}
use Rattle.sl_token.proofs.Longest.Names.{reads, identifier_most, is_name}

-- an escape begins with a backslash
backslash : (bytes : List ℕ) → escape_len bytes ≢ 0 → slice_index bytes 0 ≡ 92
unfolding escape_len
backslash bytes some =
    ⊎_elim (λ is. is) (λ other. absurd (some (rw (ne_eqb (slice_index bytes 0) 92 other) refl))) (cases_eq (slice_index bytes 0) 92)

-- which is one byte
one_byte : (bytes : List ℕ) → slice_index bytes 0 ≡ 92 → char_len bytes ≡ 1
unfolding char_len
one_byte bytes is =
    let some : 0 < length bytes = within bytes 0 (omega arith) in
    let read : decoded bytes ≡ good (slice_index bytes 0) 1 =
    value-1 (length bytes) (slice_index bytes 0) (slice_index bytes 1) (slice_index bytes 2) (slice_index bytes 3) (some, omega arith) in
    ap (λ (read : Decoded). len_if (λ character. true) read.char read.size) read

-- the length of the character at the front
character_is : (bytes : List ℕ) → char_len bytes ≢ 0 → IsCharacter bytes (char_len bytes)
unfolding char_len
character_is bytes some =
    let read = reads (λ character. true) bytes (char_len bytes) refl some in
    record { character = read.character; scalar = read.scalar; fits = read.fits; spelled = read.spelled }

character_len : (bytes : List ℕ) (n : ℕ) → IsCharacter bytes n → n ≡ char_len bytes
unfolding char_len
character_len bytes n is =
    let front = encode_utf8 is.character in
    let whole : bytes ≡ front ++ drop n bytes = sym (take-append-drop n bytes) ∙ ap (λ front. front ++ drop n bytes) is.spelled in
    let read : decoded bytes ≡ good is.character (length front) = ap decoded whole ∙ decoded-encode is.character (drop n bytes) is.scalar in
    let size : length front ≡ n = ap length (sym is.spelled) ∙ length-take-le n bytes is.fits in
    sym size ∙ ap (λ (read : Decoded). len_if (λ character. true) read.char read.size) (sym read)

-- a length that isn't 0, behind which stands an apostrophe
closes : List ℕ → ℕ → Bool
closes content len = not (len == 0) && slice_index content len == 39

closes_by : (content : List ℕ) (len : ℕ) → 0 < len → slice_index content len ≡ 39 → closes content len ≡ true
unfolding closes
closes_by content len some mark =
    and_from (not (len == 0)) (slice_index content len == 39)
    (not_from_false (len == 0) (ne_eqb len 0 (λ none. omega arith)))
    (eq-eqb (slice_index content len) 39 mark)

closes_some : (content : List ℕ) (len : ℕ) → closes content len ≡ true → (0 < len) × (slice_index content len ≡ 39)
unfolding closes
closes_some content len e =
    let parts = and_parts (not (len == 0)) (slice_index content len == 39) e in
    let some : len ≢ 0 = eqb-false len 0 (not-true (len == 0) parts.0) in
    (omega arith, eqb-true (slice_index content len) 39 parts.1)

module _ (bytes : List ℕ) (opened : slice_index bytes 0 ≡ 39) where
  abbrev content : List ℕ
  content = drop 1 bytes

  abbrev escape : ℕ
  escape = escape_len content

  abbrev character : ℕ
  character = char_len content

  abbrev Either : ℕ → Type 0
  Either n = (slice_index bytes 0 ≡ 39) × (IsLetter bytes n ⊎ IsSymbol bytes n)

  of_escape : closes content escape ≡ true → Longest Either (Token kind.Letter (escape + 2))
  of_escape e =
      let both = closes_some content escape e in
      let some = both.0 in
      let letter : IsLetter bytes (escape + 2) = record { len = escape; is = refl; some = some; one = inl refl; closed = both.1 } in
      let short : character ≡ 1 = one_byte content (backslash content (λ none. omega arith)) in (
        (opened, inl letter),
        λ m spelled. ⊎_elim
            (λ is. let it = is.is in ⊎_elim (λ same. omega arith) (λ one. let same = character_len content is.len one in omega arith) is.one)
            (λ is. absurd (is.no_letter (escape + 2) letter))
            spelled.1,
      )

  of_character : closes content escape ≡ false → closes content character ≡ true → Longest Either (Token kind.Letter (character + 2))
  of_character none e =
      let both = closes_some content character e in
      let letter : IsLetter bytes (character + 2) = record { len = character; is = refl; some = both.0; one = inr (character_is content (λ none. let some = both.0 in omega arith)); closed = both.1 } in (
        (opened, inl letter),
        λ m spelled. ⊎_elim
            (λ is.
            let it = is.is in
            ⊎_elim
            (λ same. absurd (both_ways (closes content escape) none (subst (λ len. closes content len ≡ true) same (closes_by content is.len is.some is.closed))))
            (λ one. let same = character_len content is.len one in omega arith)
            is.one)
            (λ is. absurd (is.no_letter (character + 2) letter))
            spelled.1,
      )

  -- neither closes
  no_letter : closes content escape ≡ false → closes content character ≡ false → (m : ℕ) → IsLetter bytes m → ⊥
  no_letter none neither m is =
      let found = closes_by content is.len is.some is.closed in
      ⊎_elim
      (λ same. both_ways (closes content escape) none (subst (λ len. closes content len ≡ true) same found))
      (λ one. both_ways (closes content character) neither (subst (λ len. closes content len ≡ true) (character_len content is.len one) found))
      is.one

  of_symbol : ((m : ℕ) → IsLetter bytes m → ⊥) → Longest Either (symbol_piece content)
  unfolding symbol_piece identifier_len
  of_symbol none =
      let name = name_len 0 content in
      let nothing = start_len content == 0 in
      let lone = name == 1 && slice_index content 0 == 95 in
      cond_both (not (identifier_len content == 0)) (Token kind.Symbol (identifier_len content + 1)) _ (Longest Either)
      (cond_both (nothing || lone) 0 name (λ len. not (len == 0) ≡ true → Longest Either (Token kind.Symbol (len + 1)))
      (λ a e. absurd (both_ways false refl e))
      (λ a e.
      let parts = or_parts nothing lone a in
      let some : start_len content ≢ 0 = eqb-false (start_len content) 0 parts.0 in (
        (opened, inr (record { len = name; is = refl; name = is_name content some parts.1; no_letter = none })),
        λ m spelled. ⊎_elim
            (λ is. absurd (none m is))
            (λ is. let it = is.is in let most = identifier_most content is.len is.name.0 in omega arith)
            spelled.1,
      )))
      (λ e. cond_both (slice_index content 0 == 92 && escape_len content == 0) (Fault 5 1) (Fault 3 0) (Longest Either) (λ e. tt) (λ e. tt))

pub letter_longest : (bytes : List ℕ) → Begun opens.Apostrophe bytes → Longest (Spells opens.Apostrophe bytes) (letter_piece bytes)
unfolding letter_piece closes
letter_longest bytes h =
    let content = drop 1 bytes in
    let escape = escape_len content in
    let character = char_len content in
    let P = Longest (Spells opens.Apostrophe bytes) in
    cond_both (closes content escape) (Token kind.Letter (escape + 2)) _ P (λ e. of_escape bytes h e) (λ none.
    cond_both (closes content character) (Token kind.Letter (character + 2)) _ P (λ e. of_character bytes h none e) (λ neither.
    of_symbol bytes h (no_letter bytes h none neither)))
