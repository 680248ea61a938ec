-- Which bytes are the text of a C tree: the first lines, then its tokens with blanks between them, and the last line.
use Rattle.std.specs.Prelude.{◌≡◌, ◌≢◌, ◌⊎◌, ℕ, ◌+◌, List, [], ◌∷◌, ◌++◌, IfSome, All, codes, ◌==◌}
use Rattle.std.specs.List.{flat_map, count_by}
use Rattle.c_tree.specs.declared.tree.CFile.{CFile}
use Rattle.c_tree.specs.Words.{IsToken}
use Rattle.c_tree.specs.Flat.{Lexeme, cflat}
use Rattle.c_tree.specs.WellFormed.{IsWellFormed}

-- The first six lines of a file. What `sl_put`, `sl_get` and `sl_halt` do is said by Meaning.antt, and not by this text
unfoldable pub prelude : List ℕ
prelude =
    codes "#include <stdint.h>\n"
    ++ codes "#include <stdio.h>\n"
    ++ codes "#include <stdlib.h>\n"
    ++ codes "static inline void sl_put(int64_t b) { putchar((int)b); }\n"
    ++ codes "static inline int64_t sl_get(void) { int c = getchar(); return c == EOF ? -1 : c; }\n"
    ++ codes "static inline void sl_halt(int64_t k, int64_t f, int64_t n) { fflush(stdout); fprintf(stderr, \"halt %d %d:%d\\n\", (int)k, (int)f, (int)n); exit(66); }\n"

-- the last line of a file
unfoldable pub postlude : List ℕ
postlude = codes "int main(void) { return (int)sl_main(); }\n"

-- the line on which the bytes between the prelude and the postlude begin, counted from 1
abbrev pub first_line : ℕ
first_line = 7

-- a comment: it ends at the first `*/` behind its `/*`
abbrev pub IsComment : List ℕ → Type 0
IsComment bytes = (inner : List ℕ) × (bytes ≡ codes "/*" ++ inner ++ codes "*/") × ((front back : List ℕ) → inner ≢ front ++ codes "*/" ++ back)

-- a space, a line feed or a comment
abbrev pub IsBlank : List ℕ → Type 0
IsBlank bytes = (bytes ≡ codes " ") ⊎ (bytes ≡ codes "\n") ⊎ IsComment bytes

-- any number of blanks
abbrev pub AreBlanks : List ℕ → Type 0
AreBlanks bytes = (blanks : List (List ℕ)) × All IsBlank blanks × (bytes ≡ flat_map (λ blank. blank) blanks)

-- how many line feeds there are
abbrev pub line_feeds : List ℕ → ℕ
line_feeds bytes = count_by (λ byte. byte == 10) bytes

-- the spelling is the longest of a token with which these bytes begin, and they don't begin with a comment
pub record IsLongest (spelling behind : List ℕ) : Type 0 where
  pub token : IsToken spelling
  pub longest : (more rest : List ℕ) → behind ≡ more ++ rest → more ≢ [] → ¬ IsToken (spelling ++ more)
  pub no_comment : (rest : List ℕ) → spelling ++ behind ≢ codes "/*" ++ rest

-- the bytes, of which the first stands on this line, are the tokens with blanks before each and at the end. A token stands on
-- the line that the tree says
abbrev pub Spelled : ℕ → List Lexeme → List ℕ → Type 0
Spelled line [] bytes = AreBlanks bytes
Spelled line (token ∷ tokens) bytes =
    (blanks : List ℕ) × (behind : List ℕ)
    × AreBlanks blanks
    × (bytes ≡ blanks ++ token.spelling ++ behind)
    × IsLongest token.spelling behind
    × IfSome token.line (λ said. said ≡ line + line_feeds blanks)
    × Spelled (line + line_feeds blanks) tokens behind

-- the bytes are the text of the tree
pub record CText (bytes : List ℕ) (file : CFile) : Type 0 where
  pub well_formed : IsWellFormed file
  pub middle : List ℕ
  pub whole : bytes ≡ prelude ++ middle ++ postlude
  pub spelled : Spelled first_line (cflat file) middle
