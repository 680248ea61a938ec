-- The writer as a list of bytes and a place: what it has after some tokens.
use Rattle.std.specs.Prelude.{◌≡◌, ℕ, List, [], ◌∷◌, ◌++◌, Result, Ok, Err, codes}
use Rattle.std.specs.Fmt.{decimal}
use Rattle.sl_text.specs.declared.fault.Mem.{Mem}
use Rattle.c_tree.specs.Flat.{Lexeme, lexemes}
use Rattle.c_write.specs.declared.layout.Place.{Place}
use Rattle.c_write.specs.declared.layout.Writer.{Writer}
use Rattle.c_write.specs.Layout.{moved, laid}

-- the tokens of a `for` up to its block
abbrev pub flat_for : List ℕ → List ℕ → ℕ → List ℕ → List Lexeme
flat_for set tested count raised =
    lexemes
    (codes "for" ∷ codes "(" ∷ set ∷ codes "=" ∷ codes "INT64_C" ∷ codes "(" ∷ codes "0" ∷ codes ")" ∷ codes ";"
    ∷ tested ∷ codes "<" ∷ decimal count ∷ codes ";" ∷ raised ∷ codes "++" ∷ codes ")" ∷ [])

-- where the writer stands behind tokens
abbrev pub behind_all : Place → List Lexeme → Place
behind_all place [] = place
behind_all place (token ∷ tokens) = behind_all (moved place token.spelling) tokens

-- a writer wrote tokens behind what it had
pub record Wrote (tokens : List Lexeme) (before after : Writer) : Type 0 where
  pub bytes : after.bytes.items ≡ before.bytes.items ++ laid before.place tokens
  pub place : after.place ≡ behind_all before.place tokens

-- what writing tokens owes: they were written, or memory ran out
abbrev pub Writes : List Lexeme → Writer → Writer → Result (Unit {0}) Mem → Type 0
Writes tokens before after (Ok done) = Wrote tokens before after
Writes tokens before after (Err mem) = Unit {0}
