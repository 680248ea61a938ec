-- The names, texts and numbers that a plain program may have.
use Rattle.std.specs.Prelude.{ℕ, ◌-◌, ◌^◌, ℤ, pos, neg_ℤ, int_le, List, [], ◌∷◌, ◌++◌, length, slice_range, Bool, false, not, ◌&&◌, ◌==◌, nat_le, Option, Some, None, option_and_then, if◌then◌else◌, codes, bytes_eq}
use Rattle.std.specs.Bool.{then_some}
use Rattle.std.specs.Fmt.{signed_decimal}
use Rattle.std.specs.Str.Parse.{signed_digits_value}
use Rattle.std.specs.List.{list_all, list_any}
use Rattle.std.specs.Char.{is_ascii_lowercase, is_ascii_uppercase, is_ascii_alphanumeric}

-- the names that the subset reserves, of those that begin with a small letter: no variable may have one. (Those that it reserves for
-- methods alone are none of them.)
abbrev pub reserved_names : List (List ℕ)
reserved_names = codes "conversions" ∷ codes "print" ∷ codes "println" ∷ codes "assert" ∷ codes "assume" ∷ codes "halt" ∷ []

-- those that begin with a capital: no declaration may take them
abbrev pub reserved_app_names : List (List ℕ)
reserved_app_names =
    codes "B" ∷ codes "Z" ∷ codes "C" ∷ codes "String"
    ∷ codes "S8" ∷ codes "S16" ∷ codes "S32" ∷ codes "S64" ∷ codes "U8" ∷ codes "U16" ∷ codes "U32" ∷ codes "U64"
    ∷ codes "ISZ" ∷ codes "MSZ" ∷ codes "Unit" ∷ codes "App" ∷ codes "T" ∷ codes "F" ∷ codes "Port" ∷ codes "Contract" ∷ codes "Invariant"
    ∷ []

-- whether this is one of the names
abbrev pub is_among : List (List ℕ) → List ℕ → Bool
is_among names name = list_any (λ other. bytes_eq other name) names

unfoldable pub is_reserved : List ℕ → Bool
is_reserved name = is_among reserved_names name

unfoldable pub is_reserved_app_name : List ℕ → Bool
is_reserved_app_name name = is_among reserved_app_names name

-- whether the bytes begin with an ASCII small letter, or with an ASCII capital
abbrev pub begins_small : List ℕ → Bool
begins_small [] = false
begins_small (first ∷ rest) = is_ascii_lowercase first

abbrev pub begins_with_capital : List ℕ → Bool
begins_with_capital [] = false
begins_with_capital (first ∷ rest) = is_ascii_uppercase first

-- a variable's name: a small letter, then ASCII letters and digits, and no reserved name
abbrev pub is_name : List ℕ → Bool
is_name name = begins_small name && list_all is_ascii_alphanumeric name && not (is_reserved name)

-- an App's name: a capital, then ASCII letters and digits, and no reserved name
abbrev pub is_app_name : List ℕ → Bool
is_app_name name = begins_with_capital name && list_all is_ascii_alphanumeric name && not (is_reserved_app_name name)

-- a byte that a text may have: printable ASCII, without the quotation mark and the backslash
abbrev pub is_text_byte : ℕ → Bool
is_text_byte byte = nat_le 32 byte && nat_le byte 126 && not (byte == 34) && not (byte == 92)

-- a text of at most 100 bytes
abbrev pub is_text : List ℕ → Bool
is_text text = nat_le (length text) 100 && list_all is_text_byte text

-- a number of 64 bits with a sign
abbrev pub is_number : ℤ → Bool
is_number number = int_le (neg_ℤ (pos (2 ^ 63))) number && int_le number (pos (2 ^ 63 - 1))

-- the number of 64 bits that is printed as these bytes
unfoldable pub number_of : List ℕ → Option ℤ
number_of bytes =
    let number = signed_digits_value 10 bytes
    in if bytes_eq bytes (signed_decimal number) && is_number number then Some number else None

-- what stands between this front and this end of the bytes
abbrev pub between : List ℕ → List ℕ → List ℕ → Option (List ℕ)
between front end bytes =
    let middle = slice_range bytes (length front) (length bytes - length end)
    in if bytes_eq bytes (front ++ middle ++ end) then Some middle else None

-- the text between quotation marks
abbrev pub quoted_in : List ℕ → Option (List ℕ)
quoted_in bytes = option_and_then (λ text. then_some (is_text text) text) (between (codes "\"") (codes "\"") bytes)
