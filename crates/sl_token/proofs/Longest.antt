-- What stands at a place is the longest that is spelled there.
pub mod Runs
pub mod Comments
pub mod Texts
pub mod Names
pub mod Letters
pub mod Openings
use Rattle.std.proofs.Common.{◌≡◌, ℕ, List, subst}
use Rattle.sl_text.specs.declared.token.Kind.{Kind}
use Rattle.sl_text.specs.declared.token.Kind.TheVariants as kind
use Rattle.sl_token.specs.declared.opening.Opening.{Opening}
use Rattle.sl_token.specs.declared.opening.Opening.TheVariants as opens
use Rattle.sl_token.specs.declared.piece.Piece.{Piece}
use Rattle.sl_token.specs.declared.piece.Piece.TheVariants.{Blank, Token, Fault}
use Rattle.sl_token.specs.Spellings.{opening_of, piece_by, piece_of}
use Rattle.sl_token.specs.Longest.{Spells, IsLongest}
use Rattle.sl_token.specs.Cut.{IsLongestIfSpelled}
use Rattle.sl_token.proofs.Within.{Begun, begun}
use Rattle.sl_token.proofs.Longest.Runs.{Longest, space_longest, line_longest, mark_longest, operator_longest, number_longest}
use Rattle.sl_token.proofs.Longest.Comments.{block_longest}
use Rattle.sl_token.proofs.Longest.Texts.{triple_longest, quoted_longest}
use Rattle.sl_token.proofs.Longest.Names.{name_longest}
use Rattle.sl_token.proofs.Longest.Letters.{letter_longest}
use Rattle.sl_token.proofs.Longest.Openings.{longest_of_all}

by_opening : (opening : Opening) (bytes : List ℕ) → Begun opening bytes → Longest (Spells opening bytes) (piece_by opening bytes)
by_opening opens.Space bytes h = space_longest bytes h
by_opening opens.LineComment bytes h = line_longest bytes h
by_opening opens.BlockComment bytes h = block_longest bytes h
by_opening opens.Operator bytes h = operator_longest bytes h
by_opening opens.Mark bytes h = mark_longest bytes h
by_opening opens.Digit bytes h = number_longest bytes h
by_opening opens.Triple bytes h = triple_longest kind.Quoted bytes 0 h
by_opening opens.Quote bytes h = quoted_longest bytes h
by_opening opens.Apostrophe bytes h = letter_longest bytes h
by_opening opens.Name bytes h = name_longest bytes h
by_opening opens.Nothing bytes h = tt

-- a blank or a token is the longest that is spelled at its place
pub piece_longest : (bytes : List ℕ) → Longest (Spells (opening_of bytes) bytes) (piece_of bytes)
unfolding piece_of
piece_longest bytes = by_opening (opening_of bytes) bytes (begun bytes)

-- the same, as the cut says it
pub longest_if_spelled : (bytes : List ℕ) → IsLongestIfSpelled bytes (piece_of bytes)
longest_if_spelled bytes = by (piece_of bytes) (piece_longest bytes)
  where
    by : (piece : Piece) → Longest (Spells (opening_of bytes) bytes) piece → IsLongestIfSpelled bytes piece
    by (Blank n) longest = (longest.0, longest_of_all bytes n longest.0 longest.1)
    by (Token kind n) longest = (longest.0, longest_of_all bytes n longest.0 longest.1)
    by (Fault number at) longest = tt
