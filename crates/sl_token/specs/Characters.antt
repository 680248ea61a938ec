-- Characters, and which of them make identifiers.
use Rattle.std.specs.Prelude.{ℕ, List, Bool, true, ◌||◌, ◌==◌, Option, Some, None, if◌then◌else◌}
use Rattle.std.specs.Char.{is_ascii_alphanumeric}
use Rattle.bstr.specs.Utf8.{decoded}
use Rattle.unicode_ident.specs.Ident.{is_xid_start, is_xid_continue}

-- the length of a character that passes a test; 0 where there is none or it doesn't pass
abbrev pub len_if : (ℕ → Bool) → Option ℕ → ℕ → ℕ
len_if passes None size = 0
len_if passes (Some character) size = if passes character then size else 0

-- how many bytes the well-formed UTF-8 character has that begins these bytes; 0 where none does (`decoded` of the kit's bstr reads
-- one by table 3-7 of the Unicode standard)
unfoldable pub char_len : List ℕ → ℕ
char_len bytes = len_if (λ character. true) (decoded bytes).char (decoded bytes).size

-- whether an identifier may begin with the character: it has the property XID_Start, or is `_`
unfoldable pub begins_identifier : ℕ → Bool
begins_identifier character = is_xid_start character || character == 95

-- how many bytes the character has that begins these bytes and may begin an identifier; 0 where none does
unfoldable pub start_len : List ℕ → ℕ
start_len bytes = len_if begins_identifier (decoded bytes).char (decoded bytes).size

-- how many bytes the character has that begins these bytes and may continue an identifier, as it has the property XID_Continue;
-- 0 where none does
unfoldable pub continue_len : List ℕ → ℕ
continue_len bytes = len_if is_xid_continue (decoded bytes).char (decoded bytes).size

-- 1 where a byte is an ASCII letter, a digit or `_`, and else 0: what `continue_len` gives of an ASCII byte
abbrev pub ascii_len : ℕ → ℕ
ascii_len byte = if is_ascii_alphanumeric byte || byte == 95 then 1 else 0
