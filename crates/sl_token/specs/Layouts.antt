-- What the state of the layout holds.
use Rattle.std.specs.Prelude.{◌≡◌, ℕ, List, [], reverse}
use Rattle.sl_text.specs.declared.token.Token.{Token}
use Rattle.sl_token.specs.declared.layout.Layout.{Layout}
use Rattle.sl_token.specs.Layout.{levels, last_of, laid}

-- the state behind these tokens of a text
pub record IsLayoutOf (text : List ℕ) (tokens : List Token) (layout : Layout) : Type 0 where
  pub bytes : layout.bytes.now ≡ text
  pub laid : layout.laid.items ≡ laid text [] tokens
  pub last : layout.last ≡ last_of (reverse tokens)
  pub levels : layout.levels ≡ levels text (reverse tokens)
