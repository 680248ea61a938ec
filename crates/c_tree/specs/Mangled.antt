-- The C name of a name: `m_` and then, byte by byte, letters and digits as they are, `_` as `__`, `.` as `_d`, `[` as `_l`, `]` as
-- `_r`, `,` as `_c`, and any other byte as `_x` and its two hexadecimal digits, in small letters. Two names have two C names.
use Rattle.std.specs.Prelude.{◌≡◌, ℕ, List, [], ◌∷◌, ◌++◌, ◌/◌, ◌%◌, ◌+◌, nat_lt, ◌==◌, if◌then◌else◌, codes}
use Rattle.std.specs.List.{flat_map}
use Rattle.std.specs.Char.{is_ascii_alphanumeric}

-- a hexadecimal digit
abbrev pub hex_digit : ℕ → ℕ
hex_digit value = if nat_lt value 10 then 48 + value else 87 + value

-- a byte of a name
abbrev pub mangled_byte : ℕ → List ℕ
mangled_byte byte =
    if is_ascii_alphanumeric byte then byte ∷ []
    else if byte == 95 then codes "__"
    else if byte == 46 then codes "_d"
    else if byte == 91 then codes "_l"
    else if byte == 93 then codes "_r"
    else if byte == 44 then codes "_c"
    else codes "_x" ++ hex_digit (byte / 16) ∷ hex_digit (byte % 16) ∷ []

unfoldable pub mangled : List ℕ → List ℕ
mangled name = codes "m_" ++ flat_map mangled_byte name

-- two names have two C names
pub record Distinguishes (c_name : List ℕ → List ℕ) : Type 0 where
  pub names : (a b : List ℕ) → c_name a ≡ c_name b → a ≡ b
