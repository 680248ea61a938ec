-- The cut of a file into blanks and tokens, and the rules L that a file breaks. Places are counted in bytes, from 0.
use Rattle.std.specs.Prelude.{◌≡◌, ◌⊎◌, ℕ, ◌+◌, ◌<◌, ◌≤◌, List, [], ◌∷◌, ◌++◌, length, take, drop, Option, Some, None, nat_le, if◌then◌else◌, codes}
use Rattle.std.specs.Str.{IsUtf8, IsValidUpTo}
use Rattle.sl_text.specs.declared.fault.Broken.{Broken}
use Rattle.sl_text.specs.declared.fault.Fault.{Fault}
use Rattle.sl_text.specs.declared.fault.Fault.TheVariants as fault
use Rattle.sl_text.specs.declared.rule.Phase.TheVariants.{L}
use Rattle.sl_text.specs.declared.token.Token.{Token}
use Rattle.sl_token.specs.declared.piece.Piece.{Piece}
use Rattle.sl_token.specs.declared.piece.Piece.TheVariants as piece
use Rattle.sl_token.specs.Spellings.{piece_of}
use Rattle.sl_token.specs.Longest.{IsLongest}
use Rattle.sl_token.specs.Layout.{laid}

-- at this place of a text stands this piece: a blank, a token or a fault
abbrev pub Stands : List ℕ → ℕ → Piece → Type 0
Stands text place stands = (place < length text) × (piece_of (drop place text) ≡ stands)

-- a blank or a token that stands at a place has at least one byte, and no more than there are; a fault lies within the bytes
abbrev pub LiesWithin : ℕ → ℕ → Piece → Type 0
LiesWithin most place (piece.Blank len) = (0 < len) × (place + len ≤ most)
LiesWithin most place (piece.Token kind len) = (0 < len) × (place + len ≤ most)
LiesWithin most place (piece.Fault number at) = place + at ≤ most

-- a blank or a token that stands where these bytes begin is the longest that is spelled there
abbrev pub IsLongestIfSpelled : List ℕ → Piece → Type 0
IsLongestIfSpelled bytes (piece.Blank len) = IsLongest bytes len
IsLongestIfSpelled bytes (piece.Token kind len) = IsLongest bytes len
IsLongestIfSpelled bytes (piece.Fault number at) = Unit {0}

-- how many bytes a piece has, if it is a blank or a token
abbrev pub len_of : Piece → ℕ
len_of (piece.Blank len) = len
len_of (piece.Token kind len) = len
len_of (piece.Fault number at) = 0

-- a piece is a blank or a token, and the longest that is spelled where these bytes begin
abbrev pub IsSpelled : List ℕ → Piece → Type 0
IsSpelled bytes (piece.Blank len) = IsLongest bytes len
IsSpelled bytes (piece.Token kind len) = IsLongest bytes len
IsSpelled bytes (piece.Fault number at) = ⊥

-- from one place to another a text is cut into these blanks and tokens, each the longest at its place
abbrev pub IsCut : List ℕ → ℕ → List Piece → ℕ → Type 0
IsCut text from [] to = from ≡ to
IsCut text from (first ∷ pieces) to =
    Stands text from first × IsSpelled (drop from text) first × IsCut text (from + len_of first) pieces to

-- the token, if any, that a piece is at a place of a file
abbrev pub token_of : ℕ → ℕ → Piece → List Token
token_of file from (piece.Blank len) = []
token_of file from (piece.Token of len) =
    record { kind = of; span = record { file = file; from = from; to = from + len } } ∷ []
token_of file from (piece.Fault number at) = []

-- the tokens of these pieces, which stand from a place of a file on
abbrev pub tokens_of : ℕ → ℕ → List Piece → List Token
tokens_of file from [] = []
tokens_of file from (first ∷ pieces) = token_of file from first ++ tokens_of file (from + len_of first) pieces

-- the bytes that each file begins with
abbrev pub header : List ℕ
header = codes "// #Sireum"

-- how many bytes a file may have
abbrev pub most_bytes : ℕ
most_bytes = 4194304

-- a text keeps the rules L1 and L7 on how files begin and how long they are
pub record KeepsStart (text : List ℕ) : Type 0 where
  pub begins : take (length header) text ≡ header
  pub short : length text ≤ most_bytes

-- a text breaks the rule L1 at its start: it doesn't begin with the header
abbrev pub BreaksHeader : List ℕ → ℕ → ℕ → Type 0
BreaksHeader text number place = (number ≡ 1) × (place ≡ 0) × ¬ (take (length header) text ≡ header)

-- a text breaks the rule L2 at a place: it is UTF-8 up to there, and no longer front of it is
abbrev pub BreaksUtf8 : List ℕ → ℕ → ℕ → Type 0
BreaksUtf8 text number place = (number ≡ 2) × IsValidUpTo text place

-- a text breaks the rule L7 at its start: it has too many bytes
abbrev pub BreaksLength : List ℕ → ℕ → ℕ → Type 0
BreaksLength text number place = (number ≡ 7) × (place ≡ 0) × (most_bytes < length text)

-- a text breaks a rule L at a place: a fault stands where the cut of the text comes to
abbrev pub BreaksPiece : List ℕ → ℕ → ℕ → Type 0
BreaksPiece text number place =
    (pieces : List Piece) × (from : ℕ) × (at : ℕ) × IsCut text 0 pieces from × Stands text from (piece.Fault number at) × (place ≡ from + at)

-- a text breaks the rule L of this number at this place
abbrev pub Breaks : List ℕ → ℕ → ℕ → Type 0
Breaks text number place =
    BreaksHeader text number place ⊎ BreaksUtf8 text number place ⊎ BreaksLength text number place ⊎ BreaksPiece text number place

-- a text breaks this rule L at this place, and none before it: none at a lesser place, and none of a lesser number at this place
pub record IsFirstBroken (text : List ℕ) (number place : ℕ) : Type 0 where
  pub broken : Breaks text number place
  pub first : (other at : ℕ) → Breaks text other at → (place < at) ⊎ ((place ≡ at) × (number ≤ other))

-- a text breaks no rule L, and these are the tokens of its cut with the Separators between them
pub record AreTokens (file : ℕ) (text : List ℕ) (tokens : List Token) : Type 0 where
  pub keeps : (number place : ℕ) → ¬ Breaks text number place
  pub cut : (pieces : List Piece) × IsCut text 0 pieces (length text) × (tokens ≡ laid text [] (tokens_of file 0 pieces))

-- a broken rule is the first rule L that a text breaks, at an empty span of its file
pub record IsFirstFault (file : ℕ) (text : List ℕ) (broken : Broken) : Type 0 where
  pub phase : broken.rule.phase ≡ L
  pub first : IsFirstBroken text broken.rule.number broken.span.from
  pub span : broken.span ≡ record { file = file; from = broken.span.from; to = broken.span.from }

-- the rule L of this number, broken at a place of a file
abbrev pub broken_at : ℕ → ℕ → ℕ → Fault
broken_at file number place =
    fault.Broken (record {
      rule = record { phase = L; number = number };
      span = record { file = file; from = place; to = place };
    })

-- where a text stops being UTF-8, if it does
abbrev pub IsStop : List ℕ → Option ℕ → Type 0
IsStop text None = IsUtf8 text
IsStop text (Some place) = IsValidUpTo text place

-- the first of two rules, by their numbers and places: L2 where a text stops being UTF-8, if it does, and another
abbrev pub first_of : Option ℕ → ℕ → ℕ → ℕ × ℕ
first_of None number place = (number, place)
first_of (Some stop) number place = if nat_le stop place then (2, stop) else (number, place)

-- a fault is the first broken rule L, or want of memory, which comes only where the text keeps the rules L1 and L7
abbrev pub TellsFirst : ℕ → List ℕ → Fault → Type 0
TellsFirst file text (fault.Broken broken) = IsFirstFault file text broken
TellsFirst file text fault.Mem = KeepsStart text
