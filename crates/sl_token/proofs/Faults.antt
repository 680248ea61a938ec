-- Which faults there are, and that none stands at the start of a text with a header.
use Rattle.std.proofs.Common.{◌≡◌, ℕ, ◌+◌, ◌≤◌, List, [], ◌∷◌, ◌++◌, length, take, drop, slice_index, false, ◌&&◌, ◌||◌, ◌==◌, not, nat_lt, Option, Some, None, IsUtf8, refl, sym, ap, subst, ◌∙◌, arith}
use Rattle.std.specs.List.{prefix_len}
use Rattle.std.specs.Str.{IsValidUpTo}
use Rattle.std.proofs.lemmas.Bool.{cond_both}
use Rattle.std.proofs.lemmas.List.{get_or-take}
use Rattle.std.proofs.lemmas.Str.{encode_ascii}
use Rattle.sl_text.specs.declared.token.Kind.{Kind}
use Rattle.sl_text.specs.declared.token.Kind.TheVariants as kind
use Rattle.sl_token.specs.declared.opening.Opening.{Opening}
use Rattle.sl_token.specs.declared.opening.Opening.TheVariants as opens
use Rattle.sl_token.specs.declared.piece.Piece.{Piece}
use Rattle.sl_token.specs.declared.piece.Piece.TheVariants.{Blank, Token, Fault}
use Rattle.sl_token.specs.Characters.{char_len, continue_len}
use Rattle.sl_token.specs.Spellings.{is_digit, is_space, begins_line_comment, begins_triple, opening_of, line_len, raw_len, operator_len, name_len, text_len, escape_len, bad_escape, is_sign, is_word, comment_by, comment_piece, operator_piece, number_piece, triple_by, triple_piece, quoted_by, quoted_piece, identifier_len, symbol_piece, letter_piece, raw_piece, name_piece, piece_by, piece_of}
use Rattle.sl_token.specs.Cut.{header}

-- a fault has the number of one of the rules L3 to L8
abbrev pub IsNumbered : Piece → Type 0
IsNumbered (Blank n) = Unit {0}
IsNumbered (Token kind n) = Unit {0}
IsNumbered (Fault number at) = 3 ≤ number

comment_numbered : (len : Option ℕ) → IsNumbered (comment_by len)
comment_numbered None = omega arith
comment_numbered (Some len) = tt

triple_numbered : (of : Kind) (at : ℕ) (len : Option ℕ) → IsNumbered (triple_by of at len)
triple_numbered of at None = omega arith
triple_numbered of at (Some len) = tt

quoted_numbered : (len : ℕ) (at : Option ℕ) → IsNumbered (quoted_by len at)
quoted_numbered len None = tt
quoted_numbered len (Some at) = omega arith

operator_numbered : (bytes : List ℕ) → IsNumbered (operator_piece bytes)
unfolding operator_piece
operator_numbered bytes = cond_both (is_sign (take (operator_len bytes) bytes)) _ _ IsNumbered (λ e. tt) (λ e. tt)

number_numbered : (bytes : List ℕ) → IsNumbered (number_piece bytes)
unfolding number_piece
number_numbered bytes =
    let len = prefix_len is_digit bytes in
    cond_both ((slice_index bytes 0 == 48 && nat_lt 1 len) || nat_lt 38 len || not (continue_len (drop len bytes) == 0)) (Fault 8 0) (Token kind.Number len) IsNumbered
    (λ e. omega arith)
    (λ e. tt)

quote_numbered : (bytes : List ℕ) → IsNumbered (quoted_piece bytes)
unfolding quoted_piece
quote_numbered bytes =
    let content = drop 1 bytes in
    let len = text_len false content in
    cond_both (slice_index content len == 34) (quoted_by len (bad_escape false (take len content))) (Fault 4 0) IsNumbered
    (λ e. quoted_numbered len _)
    (λ e. omega arith)

letter_numbered : (bytes : List ℕ) → IsNumbered (letter_piece bytes)
unfolding letter_piece symbol_piece
letter_numbered bytes =
    let content = drop 1 bytes in
    let escape = escape_len content in
    let character = char_len content in
    let len = identifier_len content in
    cond_both (not (escape == 0) && slice_index content escape == 39) _ _ IsNumbered (λ e. tt) (λ a.
    cond_both (not (character == 0) && slice_index content character == 39) _ _ IsNumbered (λ e. tt) (λ b.
    cond_both (not (len == 0)) (Token kind.Symbol (len + 1)) _ IsNumbered (λ e. tt) (λ c.
    cond_both (slice_index content 0 == 92 && escape_len content == 0) (Fault 5 1) (Fault 3 0) IsNumbered (λ e. omega arith) (λ e. omega arith))))

name_numbered : (bytes : List ℕ) → IsNumbered (name_piece bytes)
unfolding name_piece raw_piece triple_piece
name_numbered bytes =
    let len = name_len 0 bytes in
    let rest = drop len bytes in
    cond_both (len == 1 && slice_index bytes 0 == 95) (Token kind.Mark 1) _ IsNumbered (λ e. tt) (λ a.
    cond_both (begins_triple rest) _ _ IsNumbered (λ e. triple_numbered kind.Prefixed len _) (λ b.
    cond_both (slice_index rest 0 == 34) _ _ IsNumbered
    (λ e.
    let content = drop (len + 1) bytes in
    let raw = raw_len content in
    cond_both (slice_index content raw == 34) (Token kind.Prefixed (len + raw + 2)) (Fault 4 0) IsNumbered (λ q. tt) (λ q. omega arith))
    (λ c. cond_both (is_word (take len bytes)) (Token kind.Word len) (Token kind.Ident len) IsNumbered (λ e. tt) (λ e. tt))))

by_opening : (opening : Opening) (bytes : List ℕ) → IsNumbered (piece_by opening bytes)
unfolding comment_piece triple_piece
by_opening opens.Space bytes = tt
by_opening opens.LineComment bytes = tt
by_opening opens.BlockComment bytes = comment_numbered _
by_opening opens.Operator bytes = operator_numbered bytes
by_opening opens.Mark bytes = tt
by_opening opens.Digit bytes = number_numbered bytes
by_opening opens.Triple bytes = triple_numbered kind.Quoted 0 _
by_opening opens.Quote bytes = quote_numbered bytes
by_opening opens.Apostrophe bytes = letter_numbered bytes
by_opening opens.Name bytes = name_numbered bytes
by_opening opens.Nothing bytes = omega arith

pub fault_number : (bytes : List ℕ) (number at : ℕ) → piece_of bytes ≡ Fault number at → 3 ≤ number
unfolding piece_of
fault_number bytes number at is = subst IsNumbered is (by_opening (opening_of bytes) bytes)

-- a text with a header begins with two slashes
header_bytes : (text : List ℕ) → take (length header) text ≡ header → (slice_index text 0 ≡ 47) × (slice_index text 1 ≡ 47)
header_bytes text has =
    let first : slice_index (take (length header) text) 0 ≡ slice_index text 0 = get_or-take (length header) text 0 0 (omega arith) in
    let second : slice_index (take (length header) text) 1 ≡ slice_index text 1 = get_or-take (length header) text 1 0 (omega arith) in
    (sym first ∙ ap (λ bytes. slice_index bytes 0) has, sym second ∙ ap (λ bytes. slice_index bytes 1) has)

blank_is_no_fault : (len number at : ℕ) → Blank len ≡ Fault number at → ⊥
blank_is_no_fault len number at is = subst IsBlank is tt
  where
    IsBlank : Piece → Type 0
    IsBlank (Blank len) = Unit {0}
    IsBlank (Token kind len) = ⊥
    IsBlank (Fault number at) = ⊥

-- so a comment begins it, and no fault stands at its start
header_opening : (text : List ℕ) → take (length header) text ≡ header → opening_of text ≡ opens.LineComment
unfolding opening_of is_space begins_line_comment
header_opening text has =
    let bytes = header_bytes text has in
    rw (bytes.0, bytes.1) refl

pub header_no_fault : (text : List ℕ) (number at : ℕ) → take (length header) text ≡ header → piece_of text ≡ Fault number at → ⊥
unfolding piece_of
header_no_fault text number at has is =
    blank_is_no_fault (line_len text) number at (sym (ap (λ opening. piece_by opening text) (header_opening text has)) ∙ is)

-- nor does it stop being UTF-8 there
pub header_is_valid : (text : List ℕ) (place : ℕ) → take (length header) text ≡ header → IsValidUpTo text place → place ≤ 0 → ⊥
header_is_valid [] place has valid none = let short = valid.short in absurd (omega arith)
header_is_valid (byte ∷ bytes) place has valid none =
    let slash : byte ≡ 47 = (header_bytes (byte ∷ bytes) has).0 in
    valid.longest 1 (omega arith) (subst (λ first. IsUtf8 (first ∷ [])) (sym slash) (47 ∷ [], (refl, ap (λ first. first ++ []) (encode_ascii 47 (omega arith)))))
