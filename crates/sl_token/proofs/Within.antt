-- What stands at a place lies within the bytes.
use Rattle.std.proofs.Common.{◌≡◌, ◌≢◌, ℕ, zero, suc, ◌+◌, ◌-◌, ◌<◌, ◌≤◌, List, [], ◌∷◌, length, take, drop, slice_index, Bool, true, false, not, ◌&&◌, ◌||◌, ◌==◌, nat_lt, Option, Some, None, refl, sym, subst, ◌∙◌, arith, ⊎_elim, length-drop, length-take-le}
use Rattle.std.specs.List.{prefix_len}
use Rattle.std.proofs.lemmas.Bool.{cond_both, both_ways, and_parts, eqb-true, eqb-false, cases_Bool, or_cases, cond-true, cond-false}
use Rattle.std.proofs.lemmas.List.Sums.{prefix_len-le-length}
use Rattle.unicode_ident.specs.Ident.{is_xid_start, is_xid_continue}
use Rattle.unicode_ident.proofs.IdentLemmas.{is_xid_start-is_xid_continue, is_xid_continue-ascii}
use Rattle.bstr.specs.Utf8.{decoded}
use Rattle.sl_text.specs.declared.token.Kind.{Kind}
use Rattle.sl_text.specs.declared.token.Kind.TheVariants as kind
use Rattle.sl_token.specs.declared.opening.Opening.{Opening}
use Rattle.sl_token.specs.declared.opening.Opening.TheVariants as opens
use Rattle.sl_token.specs.declared.piece.Piece.{Piece}
use Rattle.sl_token.specs.declared.piece.Piece.TheVariants.{Blank, Token, Fault}
use Rattle.sl_token.specs.Characters.{len_if, begins_identifier, char_len, start_len, continue_len}
use Rattle.sl_token.specs.Spellings.{is_space, is_digit, is_operator, is_mark, begins_line_comment, begins_block_comment, begins_comment, begins_triple, opening_of, more, line_len, raw_len, goes_on, operator_len, escapes, ends_text, marks_behind, depth_behind, before_behind, is_bad, name_len, text_len, triple_len, comment_len, escape_len, bad_escape, is_sign, is_word, comment_by, comment_piece, operator_piece, number_piece, triple_by, triple_piece, quoted_by, quoted_piece, identifier_len, symbol_piece, letter_piece, raw_piece, name_piece, piece_by, piece_of}
use Rattle.sl_token.specs.Cut.{LiesWithin}

-- What an opening says of the bytes ------------------------------------------------------------------------------------

-- what is known of bytes that begin so
abbrev pub Begun : Opening → List ℕ → Type 0
Begun opens.Space bytes = is_space (slice_index bytes 0) ≡ true
Begun opens.LineComment bytes = begins_line_comment bytes ≡ true
Begun opens.BlockComment bytes = begins_block_comment bytes ≡ true
Begun opens.Operator bytes = (begins_comment bytes ≡ false) × (is_operator (slice_index bytes 0) ≡ true)
Begun opens.Mark bytes = is_mark (slice_index bytes 0) ≡ true
Begun opens.Digit bytes = is_digit (slice_index bytes 0) ≡ true
Begun opens.Triple bytes = begins_triple bytes ≡ true
Begun opens.Quote bytes = (begins_triple bytes ≡ false) × (slice_index bytes 0 ≡ 34)
Begun opens.Apostrophe bytes = slice_index bytes 0 ≡ 39
Begun opens.Nothing bytes = Unit {0}
Begun opens.Name bytes = start_len bytes ≢ 0

pub begun : (bytes : List ℕ) → Begun (opening_of bytes) bytes
unfolding opening_of begins_comment
begun bytes =
    let byte = slice_index bytes 0 in
    let P = λ (opening : Opening). Begun opening bytes in
    cond_both (is_space byte) _ _ P (λ e. e) (λ a.
    cond_both (begins_line_comment bytes) _ _ P (λ e. e) (λ b.
    cond_both (begins_block_comment bytes) _ _ P (λ e. e) (λ c.
    cond_both (is_operator byte) _ _ P (λ e. (rw (b, c) refl, e)) (λ d.
    cond_both (is_mark byte) _ _ P (λ e. e) (λ d.
    cond_both (is_digit byte) _ _ P (λ e. e) (λ d.
    cond_both (begins_triple bytes) _ _ P (λ e. e) (λ f.
    cond_both (byte == 34) _ _ P (λ e. (f, eqb-true _ _ e)) (λ d.
    cond_both (byte == 39) _ _ P (λ e. eqb-true _ _ e) (λ d.
    cond_both (start_len bytes == 0) _ _ P (λ e. tt) (λ g. eqb-false _ _ g))))))))))

-- there are more bytes than the place of one that isn't 0
pub within : (bytes : List ℕ) (at : ℕ) → 0 < slice_index bytes at → at < length bytes
within [] at h = absurd (omega arith)
within (byte ∷ bytes) zero h = omega arith
within (byte ∷ bytes) (suc at) h = let k = within bytes at h in omega arith

-- a test that 0 doesn't pass
pub passing : (test : ℕ → Bool) (bytes : List ℕ) → test 0 ≡ false → test (slice_index bytes 0) ≡ true → 0 < length bytes
passing test [] zero_fails h = absurd (both_ways (test 0) zero_fails h)
passing test (byte ∷ bytes) zero_fails h = omega arith

-- Runs -----------------------------------------------------------------------------------------------------------------

-- the first element passes
pub prefix_some : (test : ℕ → Bool) (bytes : List ℕ) → 0 < length bytes → test (slice_index bytes 0) ≡ true → 0 < prefix_len test bytes
prefix_some test [] h e = absurd (omega arith)
prefix_some test (byte ∷ bytes) h e = rw e (omega arith)

pub name_len_within : (inside : ℕ) (bytes : List ℕ) → name_len inside bytes ≤ length bytes
unfolding name_len
name_len_within inside [] = omega arith
name_len_within (suc inside) (byte ∷ bytes) = let k = name_len_within inside bytes in omega arith
name_len_within zero (byte ∷ bytes) =
    let len = continue_len (byte ∷ bytes) in
    let k = name_len_within (len - 1) bytes in
    cond_both (len == 0) 0 (1 + name_len (len - 1) bytes) (λ n. n ≤ suc (length bytes)) (λ e. omega arith) (λ e. omega arith)

pub operator_len_within : (bytes : List ℕ) → operator_len bytes ≤ length bytes
unfolding operator_len
operator_len_within [] = omega arith
operator_len_within (byte ∷ bytes) =
    let k = operator_len_within bytes in
    cond_both (goes_on (byte ∷ bytes)) (1 + operator_len bytes) 0 (λ n. n ≤ suc (length bytes)) (λ e. omega arith) (λ e. omega arith)

pub text_len_within : (escaped : Bool) (bytes : List ℕ) → text_len escaped bytes ≤ length bytes
unfolding text_len
text_len_within escaped [] = omega arith
text_len_within escaped (byte ∷ bytes) =
    let k = text_len_within (escapes byte escaped) bytes in
    cond_both (ends_text byte escaped) 0 (1 + text_len (escapes byte escaped) bytes) (λ n. n ≤ suc (length bytes)) (λ e. omega arith) (λ e. omega arith)

-- a length, if there is one, is at most so many
abbrev pub AtMost : ℕ → Option ℕ → Type 0
AtMost most None = Unit {0}
AtMost most (Some len) = len ≤ most

pub more_at_most : (most : ℕ) (len : Option ℕ) → AtMost most len → AtMost (suc most) (more 1 len)
more_at_most most None h = tt
more_at_most most (Some len) h = omega arith

pub triple_len_within : (marks : ℕ) (bytes : List ℕ) → AtMost (length bytes) (triple_len marks bytes)
unfolding triple_len
triple_len_within marks [] = tt
triple_len_within marks (byte ∷ bytes) =
    let now = marks_behind marks byte in
    cond_both (now == 3) (Some 1) (more 1 (triple_len now bytes)) (AtMost (suc (length bytes)))
    (λ e. omega arith)
    (λ e. more_at_most (length bytes) (triple_len now bytes) (triple_len_within now bytes))

pub comment_len_within : (depth before : ℕ) (bytes : List ℕ) → AtMost (length bytes) (comment_len depth before bytes)
unfolding comment_len
comment_len_within depth before [] = tt
comment_len_within depth before (byte ∷ bytes) =
    let now = depth_behind depth before byte in
    let next = before_behind before byte in
    cond_both (now == 0) (Some 1) (more 1 (comment_len now next bytes)) (AtMost (suc (length bytes)))
    (λ e. omega arith)
    (λ e. more_at_most (length bytes) (comment_len now next bytes) (comment_len_within now next bytes))

pub bad_escape_within : (escaped : Bool) (bytes : List ℕ) → AtMost (length bytes) (bad_escape escaped bytes)
unfolding bad_escape
bad_escape_within escaped [] = tt
bad_escape_within escaped (byte ∷ bytes) =
    let next = escapes byte escaped in
    cond_both (is_bad (byte ∷ bytes) escaped) (Some 0) (more 1 (bad_escape next bytes)) (AtMost (suc (length bytes)))
    (λ e. omega arith)
    (λ e. more_at_most (length bytes) (bad_escape next bytes) (bad_escape_within next bytes))

-- Pieces ---------------------------------------------------------------------------------------------------------------

-- a piece that lies within so many bytes
abbrev pub IsWithin : ℕ → Piece → Type 0
IsWithin most (Blank n) = (0 < n) × (n ≤ most)
IsWithin most (Token kind n) = (0 < n) × (n ≤ most)
IsWithin most (Fault number at) = at ≤ most

-- a character that begins an identifier also continues one
pub begins_continues : (character : ℕ) → begins_identifier character ≡ true → is_xid_continue character ≡ true
unfolding begins_identifier
begins_continues character e =
    ⊎_elim
    (λ s. is_xid_start-is_xid_continue character s)
    (λ t. let same : character ≡ 95 = eqb-true _ _ t in rw same (is_xid_continue-ascii 95 (omega arith)))
    (or_cases (is_xid_start character) (character == 95) e)

starts_by : (found : Option ℕ) (size : ℕ) → len_if begins_identifier found size ≢ 0 → len_if is_xid_continue found size ≡ len_if begins_identifier found size
starts_by None size h = refl
starts_by (Some character) size h =
    ⊎_elim
    (λ e. cond-true (is_xid_continue character) size 0 (begins_continues character e) ∙ sym (cond-true (begins_identifier character) size 0 e))
    (λ e. absurd (h (cond-false (begins_identifier character) size 0 e)))
    (cases_Bool (begins_identifier character))

-- so the first character of a name continues it
pub starts_continues : (bytes : List ℕ) → start_len bytes ≢ 0 → continue_len bytes ≡ start_len bytes
unfolding start_len continue_len
starts_continues bytes h = starts_by (decoded bytes).char (decoded bytes).size h

pub some_character : (bytes : List ℕ) → start_len bytes ≢ 0 → 0 < length bytes
unfolding start_len
some_character [] h = absurd (h refl)
some_character (byte ∷ bytes) h = omega arith

pub name_some : (bytes : List ℕ) → start_len bytes ≢ 0 → 0 < name_len 0 bytes
unfolding name_len
name_some [] h = absurd (let none = some_character [] h in omega arith)
name_some (byte ∷ bytes) h =
    let same = starts_continues (byte ∷ bytes) h in
    let len = continue_len (byte ∷ bytes) in
    cond_both (len == 0) 0 (1 + name_len (len - 1) bytes) (λ n. 0 < n) (λ e. absurd (h (sym same ∙ eqb-true _ _ e))) (λ e. omega arith)

space_within : (bytes : List ℕ) → Begun opens.Space bytes → IsWithin (length bytes) (Blank (prefix_len is_space bytes))
unfolding is_space
space_within bytes h = (prefix_some is_space bytes (passing is_space bytes refl h) h, prefix_len-le-length is_space bytes)

line_within : (bytes : List ℕ) → Begun opens.LineComment bytes → IsWithin (length bytes) (Blank (line_len bytes))
unfolding begins_line_comment line_len
line_within bytes h =
    let slash : slice_index bytes 0 ≡ 47 = eqb-true _ _ (and_parts _ _ h).0 in
    let test = λ (byte : ℕ). not (byte == 10) in
    (prefix_some test bytes (within bytes 0 (omega arith)) (rw slash refl), prefix_len-le-length test bytes)

block_within : (bytes : List ℕ) → Begun opens.BlockComment bytes → IsWithin (length bytes) (comment_piece bytes)
unfolding begins_block_comment comment_piece
block_within bytes h = by (comment_len 1 0 (drop 2 bytes)) (comment_len_within 1 0 (drop 2 bytes))
  where
    by : (len : Option ℕ) → AtMost (length (drop 2 bytes)) len → IsWithin (length bytes) (comment_by len)
    by None most = omega arith
    by (Some len) most =
        let star : slice_index bytes 1 ≡ 42 = eqb-true (slice_index bytes 1) 42 (and_parts (slice_index bytes 0 == 47) (slice_index bytes 1 == 42) h).1 in
        let two : 1 < length bytes = within bytes 1 (omega arith) in
        let rest = length-drop 2 bytes in
        (omega arith, omega arith)

pub operator_some : (bytes : List ℕ) → begins_comment bytes ≡ false → is_operator (slice_index bytes 0) ≡ true → 0 < operator_len bytes
unfolding is_operator goes_on operator_len
operator_some [] a b = absurd (both_ways false refl b)
operator_some (byte ∷ bytes) a b = rw (b, a) (omega arith)

operator_within : (bytes : List ℕ) → Begun opens.Operator bytes → IsWithin (length bytes) (operator_piece bytes)
unfolding operator_piece
operator_within bytes h =
    let len = operator_len bytes in
    let is : (0 < len) × (len ≤ length bytes) = (operator_some bytes h.0 h.1, operator_len_within bytes) in
    cond_both (is_sign (take len bytes)) (Token kind.Mark len) (Token kind.Operator len) (IsWithin (length bytes)) (λ e. is) (λ e. is)

mark_within : (bytes : List ℕ) → Begun opens.Mark bytes → IsWithin (length bytes) (Token kind.Mark 1)
unfolding is_mark
mark_within bytes h = (omega arith, passing is_mark bytes refl h)

number_within : (bytes : List ℕ) → Begun opens.Digit bytes → IsWithin (length bytes) (number_piece bytes)
unfolding number_piece is_digit
number_within bytes h =
    let len = prefix_len is_digit bytes in
    cond_both ((slice_index bytes 0 == 48 && nat_lt 1 len) || nat_lt 38 len || not (continue_len (drop len bytes) == 0)) (Fault 8 0) (Token kind.Number len) (IsWithin (length bytes))
    (λ e. omega arith)
    (λ e. (prefix_some is_digit bytes (passing is_digit bytes refl h) h, prefix_len-le-length is_digit bytes))

-- three marks are there
pub triple_marks : (bytes : List ℕ) → begins_triple bytes ≡ true → 3 ≤ length bytes
unfolding begins_triple
triple_marks bytes h =
    let mark : slice_index bytes 2 ≡ 34 = eqb-true (slice_index bytes 2) 34 (and_parts (slice_index bytes 0 == 34 && slice_index bytes 1 == 34) (slice_index bytes 2 == 34) h).1 in
    within bytes 2 (omega arith)

triple_within : (of : Kind) (bytes : List ℕ) (at : ℕ) → begins_triple (drop at bytes) ≡ true → IsWithin (length bytes) (triple_piece of bytes at)
unfolding triple_piece
triple_within of bytes at h = by (triple_len 0 (drop (at + 3) bytes)) (triple_len_within 0 (drop (at + 3) bytes))
  where
    there : at + 3 ≤ length bytes
    there = let three = triple_marks (drop at bytes) h in let rest = length-drop at bytes in omega arith

    by : (len : Option ℕ) → AtMost (length (drop (at + 3) bytes)) len → IsWithin (length bytes) (triple_by of at len)
    by None most = let marks = there in omega arith
    by (Some len) most = let marks = there in let rest = length-drop (at + 3) bytes in (omega arith, omega arith)

quoted_within : (bytes : List ℕ) → Begun opens.Quote bytes → IsWithin (length bytes) (quoted_piece bytes)
unfolding quoted_piece
quoted_within bytes h =
    let content = drop 1 bytes in
    let len = text_len false content in
    let rest = length-drop 1 bytes in
    cond_both (slice_index content len == 34) (quoted_by len (bad_escape false (take len content))) (Fault 4 0) (IsWithin (length bytes))
    (λ e.
    let mark : slice_index content len ≡ 34 = eqb-true _ _ e in
    let inside : len < length content = within content len (omega arith) in
    by len (omega arith) (bad_escape false (take len content)) (subst (λ n. AtMost n (bad_escape false (take len content))) (length-take-le len content (omega arith)) (bad_escape_within false (take len content))))
    (λ e. omega arith)
  where
    by : (len : ℕ) → len + 2 ≤ length bytes → (at : Option ℕ) → AtMost len at → IsWithin (length bytes) (quoted_by len at)
    by len inside None most = (omega arith, omega arith)
    by len inside (Some at) most = omega arith

letter_within : (bytes : List ℕ) → Begun opens.Apostrophe bytes → IsWithin (length bytes) (letter_piece bytes)
unfolding letter_piece symbol_piece identifier_len
letter_within bytes h =
    let content = drop 1 bytes in
    let escape = escape_len content in
    let character = char_len content in
    let first : 0 < length bytes = within bytes 0 (omega arith) in
    let rest = length-drop 1 bytes in
    let P = IsWithin (length bytes) in
    let closed = λ (len : ℕ) (e : slice_index content len == 39 ≡ true). by (IsWithin (length bytes) (Token kind.Letter (len + 2))) (
    let mark : slice_index content len ≡ 39 = eqb-true _ _ e in
    let inside : len < length content = within content len (omega arith) in
    (omega arith, omega arith)) in
    cond_both (not (escape == 0) && slice_index content escape == 39) _ _ P (λ e. closed escape (and_parts _ _ e).1) (λ a.
    cond_both (not (character == 0) && slice_index content character == 39) _ _ P (λ e. closed character (and_parts _ _ e).1) (λ b.
    let name = name_len 0 content in
    let most = name_len_within 0 content in
    let len = identifier_len content in
    let less : len ≤ name = cond_both (start_len content == 0 || (name == 1 && slice_index content 0 == 95)) 0 name (λ n. n ≤ name) (λ e. omega arith) (λ e. omega arith) in
    cond_both (not (len == 0)) (Token kind.Symbol (len + 1)) _ P (λ e. (omega arith, omega arith)) (λ c.
    cond_both (slice_index content 0 == 92 && escape_len content == 0) (Fault 5 1) (Fault 3 0) P (λ e. omega arith) (λ e. omega arith))))
  where
    by : (A : Type 0) → A → A
    by A a = a

name_within : (bytes : List ℕ) → Begun opens.Name bytes → IsWithin (length bytes) (name_piece bytes)
unfolding name_piece raw_piece
name_within bytes h =
    let len = name_len 0 bytes in
    let rest = drop len bytes in
    let some : 0 < len = name_some bytes h in
    let most : len ≤ length bytes = name_len_within 0 bytes in
    let P = IsWithin (length bytes) in
    cond_both (len == 1 && slice_index bytes 0 == 95) (Token kind.Mark 1) _ P (λ e. (omega arith, omega arith)) (λ a.
    cond_both (begins_triple rest) _ _ P (λ e. triple_within kind.Prefixed bytes len e) (λ b.
    cond_both (slice_index rest 0 == 34) _ _ P
    (λ e.
    let content = drop (len + 1) bytes in
    let raw = raw_len content in
    let left = length-drop (len + 1) bytes in
    cond_both (slice_index content raw == 34) (Token kind.Prefixed (len + raw + 2)) (Fault 4 0) P
    (λ q.
    let mark : slice_index content raw ≡ 34 = eqb-true _ _ q in
    let inside : raw < length content = within content raw (omega arith) in
    (omega arith, omega arith))
    (λ q. omega arith))
    (λ c. cond_both (is_word (take len bytes)) (Token kind.Word len) (Token kind.Ident len) P (λ e. (some, most)) (λ e. (some, most)))))

by_opening : (opening : Opening) (bytes : List ℕ) → Begun opening bytes → IsWithin (length bytes) (piece_by opening bytes)
by_opening opens.Space bytes h = space_within bytes h
by_opening opens.LineComment bytes h = line_within bytes h
by_opening opens.BlockComment bytes h = block_within bytes h
by_opening opens.Operator bytes h = operator_within bytes h
by_opening opens.Mark bytes h = mark_within bytes h
by_opening opens.Digit bytes h = number_within bytes h
by_opening opens.Triple bytes h = triple_within kind.Quoted bytes 0 h
by_opening opens.Quote bytes h = quoted_within bytes h
by_opening opens.Apostrophe bytes h = letter_within bytes h
by_opening opens.Name bytes h = name_within bytes h
by_opening opens.Nothing bytes h = omega arith

-- a piece takes at least one byte, and no more than there are
pub piece_within : (bytes : List ℕ) → IsWithin (length bytes) (piece_of bytes)
unfolding piece_of
piece_within bytes = by_opening (opening_of bytes) bytes (begun bytes)

-- the same of a piece at a place
pub lies_within : (text : List ℕ) (place : ℕ) → place < length text → LiesWithin (length text) place (piece_of (drop place text))
lies_within text place inside = by (piece_of (drop place text)) (piece_within (drop place text))
  where
    by : (piece : Piece) → IsWithin (length (drop place text)) piece → LiesWithin (length text) place piece
    by (Blank n) (some, most) = let rest = length-drop place text in (some, omega arith)
    by (Token kind n) (some, most) = let rest = length-drop place text in (some, omega arith)
    by (Fault number at) most = let rest = length-drop place text in omega arith
