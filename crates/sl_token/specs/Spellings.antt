-- What stands at a place: a blank, a token or a fault. All of it is said of the bytes from that place on.
use Rattle.std.specs.Prelude.{ℕ, zero, suc, ◌+◌, ◌-◌, List, [], ◌∷◌, take, drop, slice_index, Bool, false, not, ◌&&◌, ◌||◌, ◌==◌, nat_lt, nat_le, Option, Some, None, option_map, if◌then◌else◌, codes, bytes_eq}
use Rattle.std.specs.List.{list_any, prefix_len}
use Rattle.std.specs.Char.{is_ascii_digit, is_ascii_hexdigit}
use Rattle.sl_text.specs.declared.token.Kind.{Kind}
use Rattle.sl_text.specs.declared.token.Kind.TheVariants as kind
use Rattle.sl_token.specs.declared.opening.Opening.{Opening}
use Rattle.sl_token.specs.declared.opening.Opening.TheVariants as opens
use Rattle.sl_token.specs.declared.piece.Piece.{Piece}
use Rattle.sl_token.specs.declared.piece.Piece.TheVariants.{Blank, Token, Fault}
use Rattle.sl_token.specs.Characters.{char_len, start_len, continue_len}

-- bytes by themselves

-- a space, LF, TAB or CR
unfoldable pub is_space : ℕ → Bool
is_space byte = byte == 32 || byte == 10 || byte == 9 || byte == 13

-- `0` to `9`
unfoldable pub is_digit : ℕ → Bool
is_digit byte = is_ascii_digit byte

-- an operator character
unfoldable pub is_operator : ℕ → Bool
is_operator byte = list_any (λ operator. operator == byte) (codes "!#%&*+-/:<=>?@\\^|~")

-- a byte that is a Mark, whatever stands beside it
unfoldable pub is_mark : ℕ → Bool
is_mark byte = list_any (λ mark. mark == byte) (codes "()[]{},.")

-- what bytes begin with: the first of these that fits

-- a comment up to the end of its line
unfoldable pub begins_line_comment : List ℕ → Bool
begins_line_comment bytes = slice_index bytes 0 == 47 && slice_index bytes 1 == 47

-- a comment of the form `/* */`
unfoldable pub begins_block_comment : List ℕ → Bool
begins_block_comment bytes = slice_index bytes 0 == 47 && slice_index bytes 1 == 42

-- either
unfoldable pub begins_comment : List ℕ → Bool
begins_comment bytes = begins_line_comment bytes || begins_block_comment bytes

-- three quotation marks
unfoldable pub begins_triple : List ℕ → Bool
begins_triple bytes = slice_index bytes 0 == 34 && slice_index bytes 1 == 34 && slice_index bytes 2 == 34

unfoldable pub opening_of : List ℕ → Opening
opening_of bytes =
    let byte = slice_index bytes 0 in
    if is_space byte then opens.Space
    else if begins_line_comment bytes then opens.LineComment
    else if begins_block_comment bytes then opens.BlockComment
    else if is_operator byte then opens.Operator
    else if is_mark byte then opens.Mark
    else if is_digit byte then opens.Digit
    else if begins_triple bytes then opens.Triple
    else if byte == 34 then opens.Quote
    else if byte == 39 then opens.Apostrophe
    else if start_len bytes == 0 then opens.Nothing
    else opens.Name

-- how far runs of bytes go

-- so many bytes more
abbrev pub more : ℕ → Option ℕ → Option ℕ
more count len = option_map (λ n. count + n) len

-- the bytes before the end of the line
unfoldable pub line_len : List ℕ → ℕ
line_len bytes = prefix_len (λ byte. not (byte == 10)) bytes

-- the bytes before the first quotation mark or the end of the line
unfoldable pub raw_len : List ℕ → ℕ
raw_len bytes = prefix_len (λ byte. not (byte == 34) && not (byte == 10)) bytes

-- a run of operator characters goes on with these bytes: they begin with one, and with no comment
unfoldable pub goes_on : List ℕ → Bool
goes_on bytes = is_operator (slice_index bytes 0) && not (begins_comment bytes)

-- the operator characters before any other byte and before a comment
unfoldable pub operator_len : List ℕ → ℕ
operator_len [] = 0
operator_len (byte ∷ bytes) = if goes_on (byte ∷ bytes) then 1 + operator_len bytes else 0

-- the bytes of the characters before the first that continues no identifier; so many bytes of the first character lie before these
unfoldable pub name_len : ℕ → List ℕ → ℕ
name_len inside [] = 0
name_len (suc inside) (byte ∷ bytes) = 1 + name_len inside bytes
name_len zero (byte ∷ bytes) =
    let len = continue_len (byte ∷ bytes) in
    if len == 0 then 0 else 1 + name_len (len - 1) bytes

-- a byte is a backslash that escapes the next one, where a backslash before it escapes it or not
unfoldable pub escapes : ℕ → Bool → Bool
escapes byte escaped = byte == 92 && not escaped

-- a text's content ends before the byte: it ends the line, or is a quotation mark that isn't escaped
unfoldable pub ends_text : ℕ → Bool → Bool
ends_text byte escaped = byte == 10 || (byte == 34 && not escaped)

-- the bytes of a text's content before its end, or before the end of the file; whether the first of them is escaped
unfoldable pub text_len : Bool → List ℕ → ℕ
text_len escaped [] = 0
text_len escaped (byte ∷ bytes) = if ends_text byte escaped then 0 else 1 + text_len (escapes byte escaped) bytes

-- how many quotation marks stand directly before the end of a byte, where so many stand before it
unfoldable pub marks_behind : ℕ → ℕ → ℕ
marks_behind marks byte = if byte == 34 then marks + 1 else 0

-- the bytes up to and with the first three quotation marks; so many of these stand directly before the bytes
unfoldable pub triple_len : ℕ → List ℕ → Option ℕ
triple_len marks [] = None
triple_len marks (byte ∷ bytes) =
    if marks_behind marks byte == 3 then Some 1 else more 1 (triple_len (marks_behind marks byte) bytes)

-- how many comments are open behind a byte, where so many are before it; `before` is the byte before it, and 0 where there is none or
-- it is a part of a mark that opens or closes a comment
unfoldable pub depth_behind : ℕ → ℕ → ℕ → ℕ
depth_behind depth before byte =
    if before == 47 && byte == 42 then depth + 1
    else if before == 42 && byte == 47 then depth - 1
    else depth

-- that byte for the next one
unfoldable pub before_behind : ℕ → ℕ → ℕ
before_behind before byte = if (before == 47 && byte == 42) || (before == 42 && byte == 47) then 0 else byte

-- the bytes up to the place where no comment is open
unfoldable pub comment_len : ℕ → ℕ → List ℕ → Option ℕ
comment_len depth before [] = None
comment_len depth before (byte ∷ bytes) =
    if depth_behind depth before byte == 0 then Some 1
    else more 1 (comment_len (depth_behind depth before byte) (before_behind before byte) bytes)

-- escapes

-- a byte that makes an escape with a backslash before it: one of n r t b f, a backslash, a quotation mark or an apostrophe
unfoldable pub is_escaped : ℕ → Bool
is_escaped byte = list_any (λ escaped. escaped == byte) (codes "nrtbf\\\"'")

-- four hexadecimal digits are a surrogate where their number is D800 to DFFF
unfoldable pub is_surrogate : ℕ → ℕ → Bool
is_surrogate first second = (first == 100 || first == 68) && not (nat_le 48 second && nat_le second 55)

-- behind the first byte stand a `u` and four hexadecimal digits that are no surrogate
unfoldable pub is_unit : List ℕ → Bool
is_unit bytes =
    slice_index bytes 1 == 117
    && is_ascii_hexdigit (slice_index bytes 2)
    && is_ascii_hexdigit (slice_index bytes 3)
    && is_ascii_hexdigit (slice_index bytes 4)
    && is_ascii_hexdigit (slice_index bytes 5)
    && not (is_surrogate (slice_index bytes 2) (slice_index bytes 3))

-- the bytes of the escape that begins these bytes; 0 where none does
unfoldable pub escape_len : List ℕ → ℕ
escape_len bytes =
    if not (slice_index bytes 0 == 92) then 0
    else if is_escaped (slice_index bytes 1) then 2
    else if is_unit bytes then 6
    else 0

-- these bytes begin with a backslash that isn't escaped and begins no escape
unfoldable pub is_bad : List ℕ → Bool → Bool
is_bad bytes escaped = escapes (slice_index bytes 0) escaped && escape_len bytes == 0

-- where the first such backslash stands; whether the first byte is escaped
unfoldable pub bad_escape : Bool → List ℕ → Option ℕ
bad_escape escaped [] = None
bad_escape escaped (byte ∷ bytes) =
    if is_bad (byte ∷ bytes) escaped then Some 0 else more 1 (bad_escape (escapes byte escaped) bytes)

-- words and signs

-- the words of the language
abbrev pub words : List (List ℕ)
words =
    codes "abstract" ∷ codes "case" ∷ codes "catch" ∷ codes "class" ∷ codes "def" ∷ codes "do" ∷ codes "else" ∷ codes "extends"
    ∷ codes "final" ∷ codes "finally" ∷ codes "for" ∷ codes "forSome" ∷ codes "if" ∷ codes "implicit" ∷ codes "import" ∷ codes "lazy"
    ∷ codes "match" ∷ codes "new" ∷ codes "null" ∷ codes "object" ∷ codes "override" ∷ codes "package" ∷ codes "private"
    ∷ codes "protected" ∷ codes "return" ∷ codes "sealed" ∷ codes "super" ∷ codes "this" ∷ codes "throw" ∷ codes "trait" ∷ codes "try"
    ∷ codes "true" ∷ codes "false" ∷ codes "type" ∷ codes "val" ∷ codes "var" ∷ codes "while" ∷ codes "with" ∷ codes "yield"
    ∷ []

-- whether this is a word of the language
unfoldable pub is_word : List ℕ → Bool
is_word name = list_any (λ word. bytes_eq word name) words

-- whether this run of operator characters is a Mark
unfoldable pub is_sign : List ℕ → Bool
is_sign run = list_any (λ sign. bytes_eq sign run) (codes ":" ∷ codes "=" ∷ codes "=>" ∷ codes "<-" ∷ codes "@" ∷ [])

-- pieces

-- a comment of the form `/* */`; it breaks L6 at its start where it doesn't end
abbrev pub comment_by : Option ℕ → Piece
comment_by None = Fault 6 0
comment_by (Some len) = Blank (len + 2)

unfoldable pub comment_piece : List ℕ → Piece
comment_piece bytes = comment_by (comment_len 1 0 (drop 2 bytes))

-- a run of operator characters: a Mark where it is one of the signs
unfoldable pub operator_piece : List ℕ → Piece
operator_piece bytes =
    let len = operator_len bytes
    in if is_sign (take len bytes) then Token kind.Mark len else Token kind.Operator len

-- digits; they break L8 where there are more than one and the first is `0`, where there are more than 38, or where a character stands
-- behind them that continues an identifier
unfoldable pub number_piece : List ℕ → Piece
number_piece bytes =
    let len = prefix_len is_digit bytes
    in if (slice_index bytes 0 == 48 && nat_lt 1 len) || nat_lt 38 len || not (continue_len (drop len bytes) == 0)
    then Fault 8 0
    else Token kind.Number len

-- a text between three quotation marks on each side, the first of them behind so many bytes; it breaks L6 at them where it doesn't end
abbrev pub triple_by : Kind → ℕ → Option ℕ → Piece
triple_by of at None = Fault 6 at
triple_by of at (Some len) = Token of (at + 3 + len)

unfoldable pub triple_piece : Kind → List ℕ → ℕ → Piece
triple_piece of bytes at = triple_by of at (triple_len 0 (drop (at + 3) bytes))

-- a text between quotation marks; it breaks L4 at its start where it doesn't end on its line, else L5 at the first backslash that
-- begins no escape
abbrev pub quoted_by : ℕ → Option ℕ → Piece
quoted_by len None = Token kind.Quoted (len + 2)
quoted_by len (Some at) = Fault 5 (at + 1)

unfoldable pub quoted_piece : List ℕ → Piece
quoted_piece bytes =
    let content = drop 1 bytes in
    let len = text_len false content
    in if slice_index content len == 34 then quoted_by len (bad_escape false (take len content)) else Fault 4 0

-- the bytes of the identifier at the front, be it a word or not; `_` alone is none
unfoldable pub identifier_len : List ℕ → ℕ
identifier_len bytes =
    let len = name_len 0 bytes
    in if start_len bytes == 0 || (len == 1 && slice_index bytes 0 == 95) then 0 else len

-- what an apostrophe begins before this content where it begins no Letter: a Symbol, or L5 at a backslash that begins no escape, or L3
unfoldable pub symbol_piece : List ℕ → Piece
symbol_piece content =
    let len = identifier_len content
    in if not (len == 0) then Token kind.Symbol (len + 1)
    else if slice_index content 0 == 92 && escape_len content == 0 then Fault 5 1
    else Fault 3 0

-- what an apostrophe begins: a Letter of an escape, or of a character, or what `symbol_piece` says
unfoldable pub letter_piece : List ℕ → Piece
letter_piece bytes =
    let content = drop 1 bytes in
    let escape = escape_len content in
    let character = char_len content
    in if not (escape == 0) && slice_index content escape == 39 then Token kind.Letter (escape + 2)
    else if not (character == 0) && slice_index content character == 39 then Token kind.Letter (character + 2)
    else symbol_piece content

-- an identifier of so many bytes and a text on its line that is taken as it is; it breaks L4 at its start where that doesn't end there
unfoldable pub raw_piece : List ℕ → ℕ → Piece
raw_piece bytes at =
    let content = drop (at + 1) bytes in
    let len = raw_len content
    in if slice_index content len == 34 then Token kind.Prefixed (at + len + 2) else Fault 4 0

-- the Mark `_`, or an identifier with a quoted text behind it, or an identifier alone, which may be a word
unfoldable pub name_piece : List ℕ → Piece
name_piece bytes =
    let len = name_len 0 bytes in
    let rest = drop len bytes
    in if len == 1 && slice_index bytes 0 == 95 then Token kind.Mark 1
    else if begins_triple rest then triple_piece kind.Prefixed bytes len
    else if slice_index rest 0 == 34 then raw_piece bytes len
    else if is_word (take len bytes) then Token kind.Word len
    else Token kind.Ident len

-- what stands at the front of bytes, by what they begin with
abbrev pub piece_by : Opening → List ℕ → Piece
piece_by opens.Space bytes = Blank (prefix_len is_space bytes)
piece_by opens.LineComment bytes = Blank (line_len bytes)
piece_by opens.BlockComment bytes = comment_piece bytes
piece_by opens.Operator bytes = operator_piece bytes
piece_by opens.Mark bytes = Token kind.Mark 1
piece_by opens.Digit bytes = number_piece bytes
piece_by opens.Triple bytes = triple_piece kind.Quoted bytes 0
piece_by opens.Quote bytes = quoted_piece bytes
piece_by opens.Apostrophe bytes = letter_piece bytes
piece_by opens.Name bytes = name_piece bytes
piece_by opens.Nothing bytes = Fault 3 0

unfoldable pub piece_of : List ℕ → Piece
piece_of bytes = piece_by (opening_of bytes) bytes
