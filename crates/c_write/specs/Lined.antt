-- The lines on which functions and prototypes stand in the text of a tree.
use Rattle.std.specs.Prelude.{ℕ, ◌+◌, List, [], ◌∷◌, ◌++◌, codes}
use Rattle.std.specs.List.{flat_map}
use Rattle.c_tree.specs.declared.tree.CFile.{CFile}
use Rattle.c_tree.specs.declared.tree.CFun.{CFun}
use Rattle.c_tree.specs.Flat.{Lexeme, flat_struct, flat_global, flat_proto, flat_function}
use Rattle.c_tree.specs.Text.{first_line, line_feeds}
use Rattle.c_write.specs.declared.layout.Place.{Place}
use Rattle.c_write.specs.Layout.{first_place, moved, gap}

-- a place in the text: the line there, counted from 1, and where the writer stands
pub record Spot : Type 0 where
  pub line : ℕ
  pub place : Place

-- the line on which a token comes to stand
abbrev pub line_at : Spot → List ℕ → ℕ
line_at spot spelling = spot.line + line_feeds (gap spot.place spelling)

-- behind a token, and behind tokens
abbrev pub behind_token : Spot → List ℕ → Spot
behind_token spot spelling = record { line = line_at spot spelling; place = moved spot.place spelling }

abbrev pub behind : Spot → List Lexeme → Spot
behind spot [] = spot
behind spot (token ∷ tokens) = behind (behind_token spot token.spelling) tokens

-- before the first token
abbrev pub first_spot : Spot
first_spot = record { line = first_line; place = first_place }

-- functions with the lines on which they come to stand, where each has these tokens
abbrev pub lined_all : (CFun → List Lexeme) → Spot → List CFun → List CFun
lined_all flat spot [] = []
lined_all flat spot (function ∷ functions) = record function { line = line_at spot (codes "static") } ∷ lined_all flat (behind spot (flat function)) functions

-- before the prototypes, and before the functions
abbrev pub protos_spot : CFile → Spot
protos_spot file = behind first_spot (flat_map flat_struct file.structs ++ flat_map flat_global file.globals)

abbrev pub functions_spot : CFile → Spot
functions_spot file = behind (protos_spot file) (flat_map flat_proto file.protos)

-- a tree with the lines on which its prototypes and functions stand in its text
unfoldable pub lined : CFile → CFile
lined file = record file {
  protos = lined_all flat_proto (protos_spot file) file.protos;
  functions = lined_all flat_function (functions_spot file) file.functions;
}
