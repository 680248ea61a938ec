-- Layout: where a line's end ends a statement.
use Rattle.std.specs.Prelude.{ℕ, ◌+◌, ◌-◌, List, [], ◌∷◌, ◌++◌, take, drop, Bool, true, false, not, ◌&&◌, ◌==◌, if◌then◌else◌, codes, bytes_eq, Option, Some, None}
use Rattle.std.specs.List.{list_any, sum_by}
use Rattle.std.specs.Option.{option_to_list}
use Rattle.sl_text.specs.declared.token.Kind.{Kind}
use Rattle.sl_text.specs.declared.token.Kind.TheVariants.{Ident, Word, Number, Quoted, Letter, Symbol, Prefixed, Operator, Mark, Separator}
use Rattle.sl_text.specs.declared.token.Token.{Token}
use Rattle.sl_token.specs.declared.layout.Level.{Level}

-- the bytes of a file from one place to another
abbrev pub between : List ℕ → ℕ → ℕ → List ℕ
between text from to = take (to - from) (drop from text)

-- the bytes of a token
abbrev pub spelling : List ℕ → Token → List ℕ
spelling text token = between text token.span.from token.span.to

-- whether these bytes are one of some
abbrev pub is_one_of : List (List ℕ) → List ℕ → Bool
is_one_of some bytes = list_any (λ one. bytes_eq one bytes) some

-- the words, and the Marks, that can end a statement
abbrev pub ending_words : List (List ℕ)
ending_words = codes "this" ∷ codes "return" ∷ []

abbrev pub ending_marks : List (List ℕ)
ending_marks = codes "_" ∷ codes ")" ∷ codes "]" ∷ codes "}" ∷ []

-- whether a statement can end with the token of this kind and spelling
abbrev pub ends_statement : Kind → List ℕ → Bool
ends_statement Ident bytes = true
ends_statement Word bytes = is_one_of ending_words bytes
ends_statement Number bytes = true
ends_statement Quoted bytes = true
ends_statement Letter bytes = true
ends_statement Symbol bytes = true
ends_statement Prefixed bytes = true
ends_statement Operator bytes = false
ends_statement Mark bytes = is_one_of ending_marks bytes
ends_statement Separator bytes = false

-- the words, and the Marks, that can't begin a statement
abbrev pub inner_words : List (List ℕ)
inner_words =
    codes "case" ∷ codes "catch" ∷ codes "else" ∷ codes "extends" ∷ codes "finally" ∷ codes "forSome" ∷ codes "match" ∷ codes "with"
    ∷ codes "yield"
    ∷ []

abbrev pub inner_marks : List (List ℕ)
inner_marks =
    codes "," ∷ codes "." ∷ codes ":" ∷ codes "=" ∷ codes "=>" ∷ codes "<-" ∷ codes "[" ∷ codes "{" ∷ codes ")" ∷ codes "]" ∷ codes "}"
    ∷ []

-- whether a statement can begin with the token of this kind and spelling
abbrev pub begins_statement : Kind → List ℕ → Bool
begins_statement Ident bytes = true
begins_statement Word bytes = not (is_one_of inner_words bytes)
begins_statement Number bytes = true
begins_statement Quoted bytes = true
begins_statement Letter bytes = true
begins_statement Symbol bytes = true
begins_statement Prefixed bytes = true
begins_statement Operator bytes = true
begins_statement Mark bytes = not (is_one_of inner_marks bytes)
begins_statement Separator bytes = true

-- Levels: one for the file, and one more for each open bracket, the innermost first. Each says whether newlines are on in it, and how
-- many `case`s in it wait for their `=>`.

-- the level of a file, and of what stands in braces
abbrev pub open_level : Level
open_level = record { newlines = true; cases = 0 }

-- the level of what stands in parentheses or in square brackets
abbrev pub closed_level : Level
closed_level = record { newlines = false; cases = 0 }

-- a closing bracket ends the innermost level, whatever bracket opened it, with the cases that wait in it; where no bracket is open it
-- ends nothing
abbrev pub closed : List Level → List Level
closed [] = []
closed (level ∷ []) = level ∷ []
closed (level ∷ outer ∷ levels) = outer ∷ levels

-- one more case waits in the innermost level
abbrev pub with_case : List Level → List Level
with_case [] = []
with_case (level ∷ levels) = record { newlines = level.newlines; cases = level.cases + 1 } ∷ levels

-- one case less waits in it, if one does
abbrev pub without_case : List Level → List Level
without_case [] = []
without_case (level ∷ levels) = record { newlines = level.newlines; cases = level.cases - 1 } ∷ levels

-- the levels behind a Mark of this spelling
unfoldable pub levels_behind_mark : List ℕ → List Level → List Level
levels_behind_mark bytes levels =
    if bytes_eq (codes "{") bytes then open_level ∷ levels
    else if is_one_of (codes "(" ∷ codes "[" ∷ []) bytes then closed_level ∷ levels
    else if is_one_of (codes ")" ∷ codes "]" ∷ codes "}" ∷ []) bytes then closed levels
    else if bytes_eq (codes "=>") bytes then without_case levels
    else levels

-- the levels behind a token of this kind and spelling
abbrev pub levels_behind : Kind → List ℕ → List Level → List Level
levels_behind Mark bytes levels = levels_behind_mark bytes levels
levels_behind Word bytes levels = if bytes_eq (codes "case") bytes then with_case levels else levels
levels_behind of bytes levels = levels

-- how many `case`s wait for their `=>`
abbrev pub waiting : List Level → ℕ
waiting levels = sum_by (λ level. level.cases) levels

-- the levels behind these tokens, the last of them first
unfoldable pub levels : List ℕ → List Token → List Level
levels text [] = open_level ∷ []
levels text (token ∷ before) = levels_behind token.kind (spelling text token) (levels text before)

-- whether newlines are enabled
abbrev pub are_enabled : List Level → Bool
are_enabled [] = false
are_enabled (level ∷ levels) = level.newlines && level.cases == 0

-- whether a line feed is one of these bytes
abbrev pub has_newline : List ℕ → Bool
has_newline bytes = list_any (λ byte. byte == 10) bytes

-- whether a Separator stands between a token and the next one, where these levels are behind the first
abbrev pub separates : List ℕ → List Level → Token → Token → Bool
separates text behind token next =
    has_newline (between text token.span.to next.span.from)
    && ends_statement token.kind (spelling text token)
    && begins_statement next.kind (spelling text next)
    && are_enabled behind

-- the Separator behind a token
abbrev pub separator_behind : Token → Token
separator_behind token = record {
  kind = Separator;
  span = record { file = token.span.file; from = token.span.to; to = token.span.to };
}

-- the Separator, if any, between the last token, if any, and the next one, where these levels are behind the last
abbrev pub separator : List ℕ → List Level → Option Token → Token → Option Token
separator text behind None next = None
separator text behind (Some token) next = if separates text behind token next then Some (separator_behind token) else None

-- the last token, if any, of tokens of which the last stands first
abbrev pub last_of : List Token → Option Token
last_of [] = None
last_of (token ∷ before) = Some token

-- tokens with the Separators between them, behind these tokens, the last of them first
unfoldable pub laid : List ℕ → List Token → List Token → List Token
laid text before [] = []
laid text before (token ∷ tokens) =
    option_to_list (separator text (levels text before) (last_of before) token) ++ token ∷ laid text (token ∷ before) tokens
