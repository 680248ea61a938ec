-- Where a place of a file stands: its line and its column.
use Rattle.std.specs.Prelude.{ℕ, ◌+◌, List, [], ◌∷◌, length, take, Bool, not, ◌==◌, count_by, if◌then◌else◌}
use Rattle.std.specs.List.{suffix_len}

-- whether a byte is a line feed
abbrev pub is_feed : ℕ → Bool
is_feed byte = byte == 10

-- the line of a place: 1, and one more for each line feed before the place
abbrev pub line_of : List ℕ → ℕ → ℕ
line_of bytes place = 1 + count_by is_feed (take place bytes)

-- the column of a place: 1, and one more for each byte from the place back to a line feed, or to the file's start
abbrev pub column_of : List ℕ → ℕ → ℕ
column_of bytes place = 1 + suffix_len (λ byte. not (is_feed byte)) (take place bytes)

-- the places of the line feeds among bytes of which the first stands at a place, in order
abbrev pub feeds_from : ℕ → List ℕ → List ℕ
feeds_from place [] = []
feeds_from place (byte ∷ rest) =
    if is_feed byte then place ∷ feeds_from (place + 1) rest else feeds_from (place + 1) rest

-- the line ends of a file: the place of its end, and those of its line feeds, in order
pub record LineEnds : Type 0 where
  pub end : ℕ
  pub feeds : List ℕ

-- the line ends of a file with these bytes
abbrev pub line_ends_of : List ℕ → LineEnds
line_ends_of bytes = record { end = length bytes; feeds = feeds_from 0 bytes }
