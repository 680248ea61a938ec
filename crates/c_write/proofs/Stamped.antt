-- Tokens with the lines on which they come to stand.
use Rattle.std.specs.Prelude.{List, [], ◌∷◌}
use Rattle.std.specs.Option.{option_map}
use Rattle.c_tree.specs.Flat.{Lexeme}
use Rattle.c_write.specs.Lined.{Spot, line_at, behind_token}

-- each token of which a tree says the line says the one on which it comes to stand
abbrev pub stamped : Spot → List Lexeme → List Lexeme
stamped spot [] = []
stamped spot (token ∷ tokens) =
    record token { line = option_map (λ _. line_at spot token.spelling) token.line } ∷ stamped (behind_token spot token.spelling) tokens
