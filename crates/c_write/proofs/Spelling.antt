-- The text that the writer gives tokens is one of these tokens, with the lines on which they come to stand.
use Rattle.std.proofs.Common.{◌≡◌, ℕ, List, [], ◌∷◌, ◌++◌, append_assoc, Option, Some, None, refl, All, codes}
use Rattle.std.specs.Prelude.{IfSome}
use Rattle.std.specs.Option.{option_map}
use Rattle.std.proofs.lemmas.List.Elements.{All-head, All-tail}
use Rattle.c_tree.specs.Flat.{Lexeme}
use Rattle.c_tree.specs.Words.{IsToken}
use Rattle.c_tree.specs.Text.{Spelled}
use Rattle.c_write.specs.Layout.{moved, gap, laid}
use Rattle.c_write.specs.Lined.{Spot, line_at, behind_token}
use Rattle.c_write.proofs.Stamped.{stamped}
use Rattle.c_write.proofs.Gaps.{spaces_blanks, one_feed, gap_spaces, longest_laid}

-- a line that is put in place of one is the one that is said
stamp_says : (line : Option ℕ) (at : ℕ) → IfSome (option_map (λ _. at) line) (λ said. said ≡ at)
stamp_says None at = tt
stamp_says (Some line) at = refl

-- tokens that are laid are spelled so
pub laid_spelled : (spot : Spot) (tokens : List Lexeme) → All (λ token. IsToken token.spelling) tokens → Spelled spot.line (stamped spot tokens) (laid spot.place tokens ++ codes "\n")
laid_spelled spot [] are = spaces_blanks (10 ∷ []) one_feed
laid_spelled spot (token ∷ tokens) are =
    let blanks = gap spot.place token.spelling in
    let rest = laid (moved spot.place token.spelling) tokens
    in (
      blanks,
      rest ++ codes "\n",
      spaces_blanks blanks (gap_spaces spot.place.after spot.place.depth token.spelling),
      append_assoc (blanks ++ token.spelling) rest (codes "\n"),
      longest_laid spot.place token.spelling tokens (All-head (λ t. IsToken t.spelling) token tokens are),
      stamp_says token.line (line_at spot token.spelling),
      laid_spelled (behind_token spot token.spelling) tokens (All-tail (λ t. IsToken t.spelling) token tokens are),
    )
