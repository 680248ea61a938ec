-- Texts: between three quotation marks on each side, between one on each side, and taken as they are.
use Rattle.std.proofs.Common.{◌≡◌, ◌≢◌, ℕ, zero, suc, ◌+◌, ◌-◌, ◌<◌, ◌≤◌, List, [], ◌∷◌, length, take, drop, slice_index, Bool, true, false, not, ◌&&◌, ◌||◌, ◌==◌, Option, Some, None, refl, sym, ap, subst, ◌∙◌, arith, ⊎_elim, drop-drop, length-take-le, get_or-take}
use Rattle.std.proofs.lemmas.Bool.{cond_both, both_ways, and_parts, and_cases, and_left, and_right, or_cases, or_parts, eqb-true, eqb-false, not-true, not-false, cases_Bool, cases_lt, cond-true, cond-false}
use Rattle.std.proofs.lemmas.List.Sums.{prefix_len_passes}
use Rattle.sl_text.specs.declared.token.Kind.{Kind}
use Rattle.sl_text.specs.declared.token.Kind.TheVariants as kind
use Rattle.sl_token.specs.declared.opening.Opening.TheVariants as opens
use Rattle.sl_token.specs.declared.piece.Piece.TheVariants.{Token, Fault}
use Rattle.sl_token.specs.Spellings.{begins_triple, more, raw_len, text_len, triple_len, escape_len, bad_escape, triple_by, triple_piece, quoted_by, quoted_piece, raw_piece, marks_behind, ends_text, escapes, is_bad}
use Rattle.sl_token.specs.Longest.{IsTriple, IsQuoted, IsRaw, is_escaped_at}
use Rattle.sl_token.proofs.Within.{Begun, text_len_within}
use Rattle.sl_token.proofs.Longest.Runs.{Longest}

-- Three marks ----------------------------------------------------------------------------------------------------------

-- the first three marks stand at this place
record FirstMarks (bytes : List ℕ) (at : ℕ) : Type 0 where
  pub closed : begins_triple (drop at bytes) ≡ true
  pub first : (place : ℕ) → place < at → begins_triple (drop place bytes) ≡ false

-- so many bytes go up to and with the first three marks, where so many marks stand before these bytes
abbrev EndsBy : List ℕ → ℕ → Option ℕ → Type 0
EndsBy bytes marks None = Unit {0}
EndsBy bytes marks (Some len) = (at : ℕ) × (len + marks ≡ at + 3) × FirstMarks bytes at

-- one byte before them, where none begin there
ahead : (byte : ℕ) (bytes : List ℕ) (at : ℕ) → begins_triple (byte ∷ bytes) ≡ false → FirstMarks bytes at → FirstMarks (byte ∷ bytes) (suc at)
ahead byte bytes at none first = record { closed = first.closed; first = before first.first }
  where
    before : ((place : ℕ) → place < at → begins_triple (drop place bytes) ≡ false) → (place : ℕ) → place < suc at → begins_triple (drop place (byte ∷ bytes)) ≡ false
    before later zero less = none
    before later (suc place) less = later place (omega arith)

-- a mark that stood before the bytes is one of them
shifted : (bytes : List ℕ) (from to : ℕ) → from ≡ to + 1 → (len : Option ℕ) → EndsBy bytes from len → EndsBy bytes to (more 1 len)
shifted bytes from to e None ends = tt
shifted bytes from to e (Some len) ends = let is = ends.1 in (ends.0, omega arith, ends.2)

-- the three ways in which marks may stand before the bytes
abbrev Ends : List ℕ → Type 0
Ends bytes = EndsBy bytes 0 (triple_len 0 bytes) × EndsBy (34 ∷ bytes) 1 (triple_len 1 bytes) × EndsBy (34 ∷ 34 ∷ bytes) 2 (triple_len 2 bytes)

-- no three marks where a byte is none
third : (a b c : ℕ) (bytes : List ℕ) → c == 34 ≡ false → begins_triple (a ∷ b ∷ c ∷ bytes) ≡ false
unfolding begins_triple
third a b c bytes h = and_right (a == 34 && b == 34) (c == 34) h

second : (a b : ℕ) (bytes : List ℕ) → b == 34 ≡ false → begins_triple (a ∷ b ∷ bytes) ≡ false
unfolding begins_triple
second a b bytes h = and_left (a == 34 && b == 34) (slice_index bytes 0 == 34) (and_right (a == 34) (b == 34) h)

other : (byte : ℕ) (bytes : List ℕ) → byte == 34 ≡ false → begins_triple (byte ∷ bytes) ≡ false
unfolding begins_triple
other byte bytes h =
    and_left (byte == 34 && slice_index bytes 0 == 34) (slice_index bytes 1 == 34) (and_left (byte == 34) (slice_index bytes 0 == 34) h)

-- a byte that is no mark
plain : (byte : ℕ) (bytes : List ℕ) → byte == 34 ≡ false → (len : Option ℕ) → EndsBy bytes 0 len
    → EndsBy (byte ∷ bytes) 0 (more 1 len) × EndsBy (34 ∷ byte ∷ bytes) 1 (more 1 len) × EndsBy (34 ∷ 34 ∷ byte ∷ bytes) 2 (more 1 len)
plain byte bytes h None ends = (tt, tt, tt)
plain byte bytes h (Some len) ends =
    let is = ends.1 in
    let one = ahead byte bytes ends.0 (other byte bytes h) ends.2 in
    let two = ahead 34 (byte ∷ bytes) (suc ends.0) (second 34 byte bytes h) one in
    let three = ahead 34 (34 ∷ byte ∷ bytes) (suc (suc ends.0)) (third 34 34 byte bytes h) two in (
      (suc ends.0, omega arith, one),
      (suc (suc ends.0), omega arith, two),
      (suc (suc (suc ends.0)), omega arith, three),
    )

-- a mark
marked : (bytes : List ℕ) → Ends bytes → Ends (34 ∷ bytes)
unfolding triple_len begins_triple marks_behind
marked bytes ends = (
  shifted (34 ∷ bytes) 1 0 (omega arith) (triple_len 1 bytes) ends.1,
  shifted (34 ∷ 34 ∷ bytes) 2 1 (omega arith) (triple_len 2 bytes) ends.2,
  (0, omega arith, record { closed = refl; first = λ place less. absurd (omega arith) }),
)

triple_ends : (bytes : List ℕ) → Ends bytes
unfolding triple_len marks_behind
triple_ends [] = (tt, tt, tt)
triple_ends (byte ∷ bytes) =
    let rest = triple_ends bytes in
    ⊎_elim
    (λ e. subst (λ byte. Ends (byte ∷ bytes)) (sym (eqb-true byte 34 e)) (marked bytes rest))
    (λ e. let ends = plain byte bytes e (triple_len 0 bytes) rest.0 in rw (e) ends)
    (cases_Bool (byte == 34))

pub triple_longest : (of : Kind) (bytes : List ℕ) (at : ℕ) → begins_triple (drop at bytes) ≡ true → Longest (IsTriple bytes at) (triple_piece of bytes at)
unfolding triple_piece
triple_longest of bytes at h = by (triple_len 0 (drop (at + 3) bytes)) (triple_ends (drop (at + 3) bytes)).0
  where
    by : (len : Option ℕ) → EndsBy (drop (at + 3) bytes) 0 len → Longest (IsTriple bytes at) (triple_by of at len)
    by None ends = tt
    by (Some len) ends =
        let is = ends.1 in
        let close = at + 3 + ends.0 in
        let closed : begins_triple (drop close bytes) ≡ true = rw (drop-drop ends.0 (at + 3) bytes) at ends.2.closed in (
          record {
            close = close;
            is = omega arith;
            opened = h;
            apart = omega arith;
            closed = closed;
            first = λ place more less.
                let same : at + 3 + (place - (at + 3)) ≡ place = omega arith in
                subst (λ place. begins_triple (drop place bytes) ≡ false) same
                (rw (drop-drop (place - (at + 3)) (at + 3) bytes) at (ends.2.first (place - (at + 3)) (omega arith)));
          },
          λ m spelled.
              let it = spelled.is in
              ⊎_elim
              (λ less. absurd (both_ways (begins_triple (drop close bytes)) (spelled.first close (omega arith) less) closed))
              (λ least. omega arith)
              (cases_lt close spelled.close),
        )

-- Escapes --------------------------------------------------------------------------------------------------------------

-- whether the byte at a place is escaped, where the first byte is or isn't
abbrev pub escaped_from : Bool → List ℕ → ℕ → Bool
escaped_from escaped bytes zero = escaped
escaped_from escaped bytes (suc place) = slice_index bytes place == 92 && not (escaped_from escaped bytes place)

same_escaped : (bytes : List ℕ) (place : ℕ) → escaped_from false bytes place ≡ is_escaped_at bytes place
same_escaped bytes zero = refl
same_escaped bytes (suc place) = ap (λ escaped. slice_index bytes place == 92 && not escaped) (same_escaped bytes place)

-- behind the first byte
escaped_on : (escaped : Bool) (byte : ℕ) (bytes : List ℕ) (place : ℕ)
    → escaped_from escaped (byte ∷ bytes) (suc place) ≡ escaped_from (byte == 92 && not escaped) bytes place
escaped_on escaped byte bytes zero = refl
escaped_on escaped byte bytes (suc place) = ap (λ escaped. slice_index bytes place == 92 && not escaped) (escaped_on escaped byte bytes place)

-- it is seen by the bytes before
escaped_before : (bytes : List ℕ) (len place : ℕ) → place ≤ len → is_escaped_at (take len bytes) place ≡ is_escaped_at bytes place
escaped_before bytes len zero h = refl
escaped_before bytes len (suc place) h =
    let before = escaped_before bytes len place (omega arith) in
    let byte = get_or-take len bytes place 0 (omega arith) in
    rw (before, byte) refl

-- what may stand in a text
record IsContent (escaped : Bool) (bytes : List ℕ) (place : ℕ) : Type 0 where
  pub on_line : slice_index bytes place ≢ 10
  pub mark : slice_index bytes place ≡ 34 → escaped_from escaped bytes place ≡ true

text_content : (escaped : Bool) (bytes : List ℕ) (place : ℕ) → place < text_len escaped bytes → IsContent escaped bytes place
unfolding text_len ends_text escapes
text_content escaped [] place less = absurd (omega arith)
text_content escaped (byte ∷ bytes) place less =
    let on = byte == 92 && not escaped in
    let stops = byte == 10 || (byte == 34 && not escaped) in
    ⊎_elim
    (λ e. absurd (let none = cond-true stops 0 (1 + text_len on bytes) e in omega arith))
    (λ e. at (λ place less. text_content on bytes place less) place e (let more = cond-false stops 0 (1 + text_len on bytes) e in omega arith))
    (cases_Bool stops)
  where
    at : ((place : ℕ) → place < text_len (byte == 92 && not escaped) bytes → IsContent (byte == 92 && not escaped) bytes place)
        → (place : ℕ) → (byte == 10 || (byte == 34 && not escaped)) ≡ false → place < 1 + text_len (byte == 92 && not escaped) bytes → IsContent escaped (byte ∷ bytes) place
    at rest zero e less =
        let parts = or_parts (byte == 10) (byte == 34 && not escaped) e in
        record {
          on_line = eqb-false byte 10 parts.0;
          mark = λ is. ⊎_elim (λ no. absurd (eqb-false byte 34 no is)) (λ no. not-false escaped no) (and_cases (byte == 34) (not escaped) parts.1);
        }
    at rest (suc place) e less =
        let later = rest place (omega arith) in
        record { on_line = later.on_line; mark = λ is. escaped_on escaped byte bytes place ∙ later.mark is }

-- the mark behind it isn't escaped
text_end : (escaped : Bool) (bytes : List ℕ) → slice_index bytes (text_len escaped bytes) ≡ 34 → escaped_from escaped bytes (text_len escaped bytes) ≡ false
unfolding text_len ends_text escapes
text_end escaped [] = λ is. absurd (omega arith)
text_end escaped (byte ∷ bytes) =
    let on = byte == 92 && not escaped in
    let rest = text_end on bytes in
    cond_both (byte == 10 || (byte == 34 && not escaped)) 0 (1 + text_len on bytes) (λ len. slice_index (byte ∷ bytes) len ≡ 34 → escaped_from escaped (byte ∷ bytes) len ≡ false)
    (λ e is. ⊎_elim
    (λ line. absurd (let same = eqb-true byte 10 line in omega arith))
    (λ mark. not-true escaped (and_parts (byte == 34) (not escaped) mark).1)
    (or_cases (byte == 10) (byte == 34 && not escaped) e))
    (λ e.
    let same : suc (text_len on bytes) ≡ 1 + text_len on bytes = omega arith in
    subst (λ len. slice_index (byte ∷ bytes) len ≡ 34 → escaped_from escaped (byte ∷ bytes) len ≡ false) same
    (λ is. escaped_on escaped byte bytes (text_len on bytes) ∙ rest is))

-- each backslash that isn't escaped begins an escape
AreEscapes : Bool → List ℕ → Type 0
AreEscapes escaped bytes = (place : ℕ) → place < length bytes → slice_index bytes place ≡ 92 → escaped_from escaped bytes place ≡ false → escape_len (drop place bytes) ≢ 0

escapes_if : Bool → List ℕ → Option ℕ → Type 0
escapes_if escaped bytes None = AreEscapes escaped bytes
escapes_if escaped bytes (Some at) = Unit {0}

escapes_on : (escaped : Bool) (byte : ℕ) (bytes : List ℕ) (rest : Option ℕ)
    → ((byte == 92 && not escaped) && escape_len (byte ∷ bytes) == 0) ≡ false
    → escapes_if (byte == 92 && not escaped) bytes rest → escapes_if escaped (byte ∷ bytes) (more 1 rest)
unfolding escapes_if AreEscapes
escapes_on escaped byte bytes (Some at) e later = tt
escapes_on escaped byte bytes None e later = at
  where
    at : (place : ℕ) → place < suc (length bytes) → slice_index (byte ∷ bytes) place ≡ 92 → escaped_from escaped (byte ∷ bytes) place ≡ false
        → escape_len (drop place (byte ∷ bytes)) ≢ 0
    at zero less is free =
        ⊎_elim
        (λ no. absurd (both_ways (byte == 92 && not escaped) no (rw (is, free) refl)))
        (λ no. eqb-false (escape_len (byte ∷ bytes)) 0 no)
        (and_cases (byte == 92 && not escaped) (escape_len (byte ∷ bytes) == 0) e)
    at (suc place) less is free = later place (omega arith) is (sym (escaped_on escaped byte bytes place) ∙ free)

no_bad_escape : (escaped : Bool) (bytes : List ℕ) → escapes_if escaped bytes (bad_escape escaped bytes)
unfolding bad_escape is_bad escapes escapes_if AreEscapes
no_bad_escape escaped [] = λ place less is free. absurd (omega arith)
no_bad_escape escaped (byte ∷ bytes) =
    let on = byte == 92 && not escaped in
    cond_both (on && escape_len (byte ∷ bytes) == 0) (Some 0) (more 1 (bad_escape on bytes)) (escapes_if escaped (byte ∷ bytes))
    (λ e. tt)
    (λ e. escapes_on escaped byte bytes (bad_escape on bytes) e (no_bad_escape on bytes))

pub quoted_longest : (bytes : List ℕ) → Begun opens.Quote bytes → Longest (IsQuoted bytes) (quoted_piece bytes)
unfolding quoted_piece AreEscapes escapes_if
quoted_longest bytes h =
    cond_both (slice_index content len == 34) (quoted_by len (bad_escape false (take len content))) (Fault 4 0) (Longest (IsQuoted bytes))
    (λ e. by (eqb-true (slice_index content len) 34 e) (bad_escape false (take len content)) (no_bad_escape false (take len content)))
    (λ e. tt)
  where
    content : List ℕ
    content = drop 1 bytes

    len : ℕ
    len = text_len false content

    fits : len ≤ length content
    fits = text_len_within false content

    escape_at : escapes_if false (take len content) None → (place : ℕ) → place < len → slice_index content place ≡ 92 → is_escaped_at content place ≡ false
        → escape_len (drop place (take len content)) ≢ 0
    escape_at each place less is free = each place
        (let size = length-take-le len content fits in omega arith)
        (get_or-take len content place 0 less ∙ is)
        (same_escaped (take len content) place ∙ (escaped_before content len place (omega arith) ∙ free))

    by : slice_index content len ≡ 34 → (found : Option ℕ) → escapes_if false (take len content) found → Longest (IsQuoted bytes) (quoted_by len found)
    by mark (Some at) each = tt
    by mark None each =
        let free : is_escaped_at content len ≡ false = sym (same_escaped content len) ∙ text_end false content mark in (
          record {
            opened = h.1;
            len = len;
            is = refl;
            closed = mark;
            unescaped = free;
            on_line = λ place less. (text_content false content place less).on_line;
            marks = λ place less is. sym (same_escaped content place) ∙ (text_content false content place less).mark is;
            escapes = escape_at each;
          },
          λ m spelled.
              let it = spelled.is in
              ⊎_elim
              (λ less. absurd (both_ways (is_escaped_at content len) free (spelled.marks len less mark)))
              (λ least. omega arith)
              (cases_lt len spelled.len),
        )

-- Texts that are taken as they are -------------------------------------------------------------------------------------

pub raw_longest : (bytes : List ℕ) (at : ℕ) → slice_index bytes at ≡ 34 → Longest (IsRaw bytes at) (raw_piece bytes at)
unfolding raw_piece raw_len
raw_longest bytes at h =
    let content = drop (at + 1) bytes in
    let test = λ (byte : ℕ). not (byte == 34) && not (byte == 10) in
    let len = raw_len content in
    cond_both (slice_index content len == 34) (Token kind.Prefixed (at + len + 2)) (Fault 4 0) (Longest (IsRaw bytes at))
    (λ e.
    let mark : slice_index content len ≡ 34 = eqb-true (slice_index content len) 34 e in (
      record {
        opened = h;
        len = len;
        is = refl;
        closed = mark;
        content = λ place less.
            let passes = and_parts (not (slice_index content place == 34)) (not (slice_index content place == 10)) (prefix_len_passes test content place 0 less) in
            (eqb-false (slice_index content place) 34 (not-true (slice_index content place == 34) passes.0), eqb-false (slice_index content place) 10 (not-true (slice_index content place == 10) passes.1));
      },
      λ m spelled.
          let it = spelled.is in
          ⊎_elim
          (λ less. absurd ((spelled.content len less).0 mark))
          (λ least. omega arith)
          (cases_lt len spelled.len),
    ))
    (λ e. tt)
