-- What spells a blank or a token, with no word on how it is found. What stands at a place is the longest that is spelled there.
use Rattle.std.specs.Prelude.{◌≡◌, ◌≢◌, ◌⊎◌, ℕ, zero, suc, ◌+◌, ◌<◌, ◌≤◌, List, [], ◌∷◌, ◌++◌, length, take, drop, slice_index, Bool, true, false, not, ◌&&◌, ◌==◌}
use Rattle.std.specs.List.{All}
use Rattle.std.specs.Char.{IsScalar, encode_utf8}
use Rattle.std.specs.Str.{encode_utf8_all}
use Rattle.unicode_ident.specs.Ident.{is_xid_continue}
use Rattle.sl_token.specs.declared.opening.Opening.{Opening}
use Rattle.sl_token.specs.declared.opening.Opening.TheVariants as opens
use Rattle.sl_token.specs.Characters.{begins_identifier}
use Rattle.sl_token.specs.Spellings.{is_space, is_digit, is_operator, is_mark, begins_line_comment, begins_block_comment, begins_comment, begins_triple, escape_len, opening_of}

-- runs

-- each of the first bytes has a property
abbrev pub FirstBytes : (ℕ → Type 0) → List ℕ → ℕ → Type 0
FirstBytes Has bytes n = (n ≤ length bytes) × ((place : ℕ) → place < n → Has (slice_index bytes place))

-- blanks
pub record IsSpace (bytes : List ℕ) (n : ℕ) : Type 0 where
  pub some : 0 < n
  pub spaces : FirstBytes (λ byte. is_space byte ≡ true) bytes n

-- a comment on one line
pub record IsLineComment (bytes : List ℕ) (n : ℕ) : Type 0 where
  pub begins : begins_line_comment bytes ≡ true
  pub marks : 2 ≤ n
  pub line : FirstBytes (λ byte. byte ≢ 10) bytes n

-- what stands between `/*` and `*/`: bytes and whole comments
pub data Body : Type 0 where
  Empty : Body
  -- a byte and what follows it
  Byte : ℕ → Body → Body
  -- what stands in a comment, and what follows that comment
  Comment : Body → Body → Body

-- its bytes, with these behind it
abbrev pub spelled : Body → List ℕ → List ℕ
spelled Empty behind = behind
spelled (Byte byte rest) behind = byte ∷ spelled rest behind
spelled (Comment inner rest) behind = 47 ∷ 42 ∷ spelled inner (42 ∷ 47 ∷ spelled rest behind)

-- how many bytes it has
abbrev pub body_len : Body → ℕ
body_len Empty = 0
body_len (Byte byte rest) = 1 + body_len rest
body_len (Comment inner rest) = 4 + body_len inner + body_len rest

-- bytes that end a comment
abbrev pub ends_block_comment : List ℕ → Bool
ends_block_comment bytes = slice_index bytes 0 == 42 && slice_index bytes 1 == 47

-- with these bytes behind it, no byte of it that stands alone begins a `/*` or a `*/`
abbrev pub IsBody : Body → List ℕ → Type 0
IsBody Empty behind = Unit {0}
IsBody (Byte byte rest) behind =
    (begins_block_comment (byte ∷ spelled rest behind) ≡ false) × (ends_block_comment (byte ∷ spelled rest behind) ≡ false) × IsBody rest behind
IsBody (Comment inner rest) behind = IsBody inner (42 ∷ 47 ∷ spelled rest behind) × IsBody rest behind

-- a comment of the form `/* */`, with others inside it
pub record IsBlockComment (bytes : List ℕ) (n : ℕ) : Type 0 where
  pub body : Body
  pub behind : List ℕ
  pub is : n ≡ body_len body + 4
  pub whole : bytes ≡ 47 ∷ 42 ∷ spelled body (42 ∷ 47 ∷ behind)
  pub well : IsBody body (42 ∷ 47 ∷ behind)

-- a run of operator characters in which no comment begins
pub record IsOperator (bytes : List ℕ) (n : ℕ) : Type 0 where
  pub some : 0 < n
  pub operators : FirstBytes (λ byte. is_operator byte ≡ true) bytes n
  pub no_comment : (place : ℕ) → place < n → begins_comment (drop place bytes) ≡ false

-- one to 38 digits, and no `0` before another
pub record IsNumber (bytes : List ℕ) (n : ℕ) : Type 0 where
  pub some : 0 < n
  pub most : n ≤ 38
  pub digits : FirstBytes (λ byte. is_digit byte ≡ true) bytes n
  pub leading : (n ≡ 1) ⊎ (slice_index bytes 0 ≢ 48)

-- texts

-- behind so many bytes stands a text between three quotation marks on each side, which ends with the first three
pub record IsTriple (bytes : List ℕ) (at n : ℕ) : Type 0 where
  pub close : ℕ
  pub is : n ≡ close + 3
  pub opened : begins_triple (drop at bytes) ≡ true
  pub apart : at + 3 ≤ close
  pub closed : begins_triple (drop close bytes) ≡ true
  pub first : (place : ℕ) → at + 3 ≤ place → place < close → begins_triple (drop place bytes) ≡ false

-- whether the byte at this place is escaped: before it stands a backslash that isn't escaped itself
abbrev pub is_escaped_at : List ℕ → ℕ → Bool
is_escaped_at content zero = false
is_escaped_at content (suc place) = slice_index content place == 92 && not (is_escaped_at content place)

-- a text between quotation marks: its content has no line's end and no quotation mark that isn't escaped, and each backslash that
-- isn't escaped begins an escape in it
pub record IsQuoted (bytes : List ℕ) (n : ℕ) : Type 0 where
  pub opened : slice_index bytes 0 ≡ 34
  pub len : ℕ
  pub is : n ≡ len + 2
  pub closed : slice_index (drop 1 bytes) len ≡ 34
  pub unescaped : is_escaped_at (drop 1 bytes) len ≡ false
  pub on_line : (place : ℕ) → place < len → slice_index (drop 1 bytes) place ≢ 10
  pub marks : (place : ℕ) → place < len → slice_index (drop 1 bytes) place ≡ 34 → is_escaped_at (drop 1 bytes) place ≡ true
  pub escapes : (place : ℕ) → place < len → slice_index (drop 1 bytes) place ≡ 92 → is_escaped_at (drop 1 bytes) place ≡ false
      → escape_len (drop place (take len (drop 1 bytes))) ≢ 0

-- behind so many bytes stands a text on its line that is taken as it is
pub record IsRaw (bytes : List ℕ) (at n : ℕ) : Type 0 where
  pub opened : slice_index bytes at ≡ 34
  pub len : ℕ
  pub is : n ≡ at + len + 2
  pub closed : slice_index (drop (at + 1) bytes) len ≡ 34
  pub content : (place : ℕ) → place < len
      → (slice_index (drop (at + 1) bytes) place ≢ 34) × (slice_index (drop (at + 1) bytes) place ≢ 10)

-- names

-- a character that may continue an identifier
abbrev pub Continues : ℕ → Type 0
Continues character = IsScalar character × (is_xid_continue character ≡ true)

-- characters of which the first may begin an identifier and the others continue it: an identifier, or `_`
pub record IsIdentifier (bytes : List ℕ) (n : ℕ) : Type 0 where
  pub first : ℕ
  pub rest : List ℕ
  pub scalar : IsScalar first
  pub begins : begins_identifier first ≡ true
  pub continue : All Continues rest
  pub fits : n ≤ length bytes
  pub spelled : take n bytes ≡ encode_utf8_all (first ∷ rest)

-- an identifier
abbrev pub IsName : List ℕ → ℕ → Type 0
IsName bytes n = IsIdentifier bytes n × (take n bytes ≢ 95 ∷ [])

-- these bytes begin with no character that may continue an identifier
abbrev pub NothingContinues : List ℕ → Type 0
NothingContinues bytes = (character : ℕ) (rest : List ℕ) → Continues character → bytes ≡ encode_utf8 character ++ rest → ⊥

-- an identifier that no character behind it continues, and a text directly behind it
pub record IsPrefixed (bytes : List ℕ) (n : ℕ) : Type 0 where
  pub at : ℕ
  pub name : IsName bytes at
  pub whole : NothingContinues (drop at bytes)
  pub text : IsTriple bytes at n ⊎ IsRaw bytes at n

-- the UTF-8 of a character
pub record IsCharacter (bytes : List ℕ) (n : ℕ) : Type 0 where
  pub character : ℕ
  pub scalar : IsScalar character
  pub fits : n ≤ length bytes
  pub spelled : take n bytes ≡ encode_utf8 character

-- between apostrophes an escape or a character
pub record IsLetter (bytes : List ℕ) (n : ℕ) : Type 0 where
  pub len : ℕ
  pub is : n ≡ len + 2
  pub some : 0 < len
  pub one : (len ≡ escape_len (drop 1 bytes)) ⊎ IsCharacter (drop 1 bytes) len
  pub closed : slice_index (drop 1 bytes) len ≡ 39

-- an apostrophe and an identifier, where no Letter stands
pub record IsSymbol (bytes : List ℕ) (n : ℕ) : Type 0 where
  pub len : ℕ
  pub is : n ≡ len + 1
  pub name : IsName (drop 1 bytes) len
  pub no_letter : (m : ℕ) → IsLetter bytes m → ⊥

-- the first n of these bytes, seen in their place, are a blank or a spelling of what this opening begins
abbrev pub Spells : Opening → List ℕ → ℕ → Type 0
Spells opens.Space bytes n = IsSpace bytes n
Spells opens.LineComment bytes n = IsLineComment bytes n
Spells opens.BlockComment bytes n = IsBlockComment bytes n
Spells opens.Operator bytes n = IsOperator bytes n
Spells opens.Mark bytes n = (is_mark (slice_index bytes 0) ≡ true) × (n ≡ 1)
Spells opens.Digit bytes n = IsNumber bytes n
Spells opens.Triple bytes n = IsTriple bytes 0 n
Spells opens.Quote bytes n = IsQuoted bytes n
Spells opens.Apostrophe bytes n = (slice_index bytes 0 ≡ 39) × (IsLetter bytes n ⊎ IsSymbol bytes n)
Spells opens.Name bytes n = IsIdentifier bytes n ⊎ IsPrefixed bytes n
Spells opens.Nothing bytes n = ⊥

-- this is spelled by what the bytes begin with, and nothing longer is spelled by anything
abbrev pub IsLongest : List ℕ → ℕ → Type 0
IsLongest bytes n = Spells (opening_of bytes) bytes n × ((opening : Opening) (m : ℕ) → Spells opening bytes m → m ≤ n)
