-- The words of the C subset and of C: what an identifier, a number and a mark is, and which identifiers are taken.
use Rattle.std.specs.Prelude.{◌≡◌, ◌≢◌, ◌⊎◌, ℕ, List, [], ◌∷◌, All, Contains, IsTrue, codes}
use Rattle.std.specs.Char.{is_ascii_alphanumeric, is_ascii_digit}

-- an ASCII letter, a digit or `_`
abbrev pub IsIdentifierByte : ℕ → Type 0
IsIdentifierByte byte = IsTrue (is_ascii_alphanumeric byte) ⊎ (byte ≡ 95)

-- an ASCII digit
abbrev pub IsDigit : ℕ → Type 0
IsDigit byte = IsTrue (is_ascii_digit byte)

-- the bytes don't begin with a digit, and there are some
abbrev pub BeginsWithoutDigit : List ℕ → Type 0
BeginsWithoutDigit [] = ⊥
BeginsWithoutDigit (byte ∷ bytes) = ¬ IsDigit byte

-- an identifier: ASCII letters, digits and `_`, of which the first is no digit (ISO C11, 6.4.2.1, without the other characters)
pub record IsIdentifier (spelling : List ℕ) : Type 0 where
  pub bytes : All IsIdentifierByte spelling
  pub begins : BeginsWithoutDigit spelling

-- a number: digits
pub record IsNumber (spelling : List ℕ) : Type 0 where
  pub digits : All IsDigit spelling
  pub some : spelling ≢ []

-- the other tokens
abbrev pub marks : List (List ℕ)
marks =
    codes "{" ∷ codes "}" ∷ codes "(" ∷ codes ")" ∷ codes "[" ∷ codes "]" ∷ codes ";" ∷ codes "," ∷ codes "." ∷ codes "=" ∷ codes "*" ∷ codes "&"
    ∷ codes "+" ∷ codes "-" ∷ codes "/" ∷ codes "%" ∷ codes "|" ∷ codes "^" ∷ codes "~" ∷ codes "<" ∷ codes ">"
    ∷ codes "++" ∷ codes "<<" ∷ codes ">>" ∷ codes "<=" ∷ codes ">=" ∷ codes "==" ∷ codes "!="
    ∷ []

-- a token is an identifier, a number or a mark
abbrev pub IsToken : List ℕ → Type 0
IsToken spelling = IsIdentifier spelling ⊎ IsNumber spelling ⊎ Contains marks spelling

-- the identifiers that have a meaning of their own in the subset
abbrev pub subset_words : List (List ℕ)
subset_words =
    codes "struct" ∷ codes "union" ∷ codes "static" ∷ codes "inline" ∷ codes "void"
    ∷ codes "if" ∷ codes "else" ∷ codes "while" ∷ codes "for" ∷ codes "break" ∷ codes "return"
    ∷ codes "INT64_C" ∷ codes "UINT64_C" ∷ codes "sl_put" ∷ codes "sl_get" ∷ codes "sl_halt"
    ∷ codes "int8_t" ∷ codes "int16_t" ∷ codes "int32_t" ∷ codes "int64_t" ∷ codes "uint8_t" ∷ codes "uint16_t" ∷ codes "uint32_t" ∷ codes "uint64_t"
    ∷ []

-- a name: an identifier that has no meaning of its own
pub record IsName (spelling : List ℕ) : Type 0 where
  pub identifier : IsIdentifier spelling
  pub free : ¬ Contains subset_words spelling

-- the names that a file may not declare: the keywords of ISO C11 (6.4.1), and what the first lines and the last line of a file
-- use of the standard library
abbrev pub reserved_words : List (List ℕ)
reserved_words =
    codes "auto" ∷ codes "break" ∷ codes "case" ∷ codes "char" ∷ codes "const" ∷ codes "continue" ∷ codes "default" ∷ codes "do" ∷ codes "double"
    ∷ codes "else" ∷ codes "enum" ∷ codes "extern" ∷ codes "float" ∷ codes "for" ∷ codes "goto" ∷ codes "if" ∷ codes "inline" ∷ codes "int"
    ∷ codes "long" ∷ codes "register" ∷ codes "restrict" ∷ codes "return" ∷ codes "short" ∷ codes "signed" ∷ codes "sizeof" ∷ codes "static"
    ∷ codes "struct" ∷ codes "switch" ∷ codes "typedef" ∷ codes "union" ∷ codes "unsigned" ∷ codes "void" ∷ codes "volatile" ∷ codes "while"
    ∷ codes "_Alignas" ∷ codes "_Alignof" ∷ codes "_Atomic" ∷ codes "_Bool" ∷ codes "_Complex" ∷ codes "_Generic" ∷ codes "_Imaginary"
    ∷ codes "_Noreturn" ∷ codes "_Static_assert" ∷ codes "_Thread_local"
    ∷ codes "putchar" ∷ codes "getchar" ∷ codes "fflush" ∷ codes "fprintf" ∷ codes "stdout" ∷ codes "stderr" ∷ codes "exit" ∷ codes "EOF" ∷ codes "main"
    ∷ []
