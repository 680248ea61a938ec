-- The text that the writer gives a tree: the blanks before each token, by what stands before it.
use Rattle.std.specs.Prelude.{ℕ, ◌+◌, ◌-◌, ◌*◌, ◌^◌, List, [], ◌∷◌, ◌++◌, Bool, true, false, ◌||◌, ◌==◌, min, replicate, if◌then◌else◌, codes}
use Rattle.std.specs.List.{list_any}
use Rattle.std.specs.Str.{bytes_eq}
use Rattle.c_tree.specs.declared.tree.CFile.{CFile}
use Rattle.c_tree.specs.Flat.{Lexeme, cflat}
use Rattle.c_tree.specs.Text.{prelude, postlude}
use Rattle.c_write.specs.declared.layout.After.{After}
use Rattle.c_write.specs.declared.layout.After.TheVariants.{Nothing, Line, Block, Bracket, Spaced, Other}
use Rattle.c_write.specs.declared.layout.Place.{Place}

-- whether this is one of some spellings
abbrev pub is_one_of : List (List ℕ) → List ℕ → Bool
is_one_of spellings spelling = list_any (λ other. bytes_eq other spelling) spellings

-- the brackets that open, and the point, behind which nothing stands on their line
abbrev pub opening : List (List ℕ)
opening = codes "(" ∷ codes "[" ∷ codes "." ∷ []

-- the marks before which nothing stands on their line
abbrev pub closing : List (List ℕ)
closing = codes ")" ∷ codes "]" ∷ codes ";" ∷ codes "," ∷ codes "." ∷ []

-- the marks that follow a name directly
abbrev pub applying : List (List ℕ)
applying = codes "(" ∷ codes "[" ∷ codes "++" ∷ []

-- whether this is a sign, behind which nothing stands on its line: a `-` behind a bracket that opens
abbrev pub is_sign : After → List ℕ → Bool
is_sign Bracket spelling = bytes_eq (codes "-") spelling
is_sign _ spelling = false

-- the words behind which there is a space, even before a bracket
abbrev pub keywords : List (List ℕ)
keywords = codes "if" ∷ codes "while" ∷ codes "for" ∷ codes "return" ∷ []

-- the marks behind which there is one too: the comma, `=`, and the operators and comparisons of two numbers
abbrev pub operators : List (List ℕ)
operators = codes "," ∷ codes "=" ∷ codes "+" ∷ codes "-" ∷ codes "*" ∷ codes "/" ∷ codes "%" ∷ []

abbrev pub comparisons : List (List ℕ)
comparisons = codes "<" ∷ codes "<=" ∷ codes ">" ∷ codes ">=" ∷ codes "==" ∷ codes "!=" ∷ []

-- what a token is, as far as the blanks behind it depend on it, by where it stands: a `;` ends a line, but in the head of a `for`
abbrev pub after_token : Place → List ℕ → After
after_token place spelling =
    if bytes_eq (codes "}") spelling then Block
    else if bytes_eq (codes "{") spelling then Line
    else if bytes_eq (codes ";") spelling then (if place.in_head then Spaced else Line)
    else if is_sign place.after spelling || is_one_of opening spelling then Bracket
    else if is_one_of keywords spelling || is_one_of operators spelling || is_one_of comparisons spelling then Spaced
    else Other

-- how many braces are open behind a token, up to 2 ^ 32 - 1
abbrev pub next_depth : ℕ → List ℕ → ℕ
next_depth depth spelling =
    if bytes_eq (codes "{") spelling then min (depth + 1) (2 ^ 32 - 1)
    else if bytes_eq (codes "}") spelling then depth - 1
    else depth

-- whether the head of a `for` is open behind a token: it goes on up to the brace
abbrev pub next_head : Bool → List ℕ → Bool
next_head in_head spelling =
    if bytes_eq (codes "for") spelling then true
    else if bytes_eq (codes "{") spelling then false
    else in_head

-- before the first token
abbrev pub first_place : Place
first_place = record { after = Nothing; depth = 0; in_head = false }

-- behind a token
abbrev pub moved : Place → List ℕ → Place
moved place spelling = record { after = after_token place spelling; depth = next_depth place.depth spelling; in_head = next_head place.in_head spelling }

-- a new line with four spaces for each open brace, but for the one that the token closes
abbrev pub new_line : ℕ → List ℕ → List ℕ
new_line depth next = 10 ∷ replicate (4 * (if bytes_eq (codes "}") next then depth - 1 else depth)) 32

-- a space, but not before a mark that closes
abbrev pub space_before : List (List ℕ) → List ℕ → List ℕ
space_before tight next = if is_one_of tight next then [] else 32 ∷ []

-- the blanks between what stands before and a token. Between functions there is an empty line
abbrev pub gap_after : After → ℕ → List ℕ → List ℕ
gap_after Nothing depth next = []
gap_after Line depth next = new_line depth next
gap_after Block depth next =
    if bytes_eq (codes ";") next then []
    else if bytes_eq (codes "else") next then 32 ∷ []
    else if depth == 0 then 10 ∷ 10 ∷ []
    else new_line depth next
gap_after Bracket depth next = []
gap_after Spaced depth next = space_before closing next
gap_after Other depth next = space_before (closing ++ applying) next

abbrev pub gap : Place → List ℕ → List ℕ
gap place next = gap_after place.after place.depth next

-- tokens with the blanks before each
abbrev pub laid : Place → List Lexeme → List ℕ
laid place [] = []
laid place (token ∷ tokens) = gap place token.spelling ++ token.spelling ++ laid (moved place token.spelling) tokens

-- the text of a tree
unfoldable pub text_of : CFile → List ℕ
text_of file = prelude ++ laid first_place (cflat file) ++ codes "\n" ++ postlude
