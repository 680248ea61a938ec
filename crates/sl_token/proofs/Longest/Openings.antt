-- What is spelled says what bytes begin with: no other opening spells anything longer.
use Rattle.std.proofs.Common.{◌≡◌, ◌≢◌, ◌⊎◌, ℕ, ◌<◌, ◌≤◌, List, [], ◌∷◌, ◌++◌, length, drop, slice_index, Bool, true, false, ◌&&◌, ◌||◌, ◌==◌, nat_le, refl, sym, ap, subst, ◌∙◌, inl, inr, ⊎_elim, true≢false, append_assoc, take-append-drop, arith, codes, if◌then◌else◌}
use Rattle.std.specs.List.{list_any}
use Rattle.std.specs.Char.{IsScalar}
use Rattle.std.specs.Str.{encode_utf8_all}
use Rattle.std.specs.Prelude.{encode_utf8}
use Rattle.bstr.proofs.lemmas.EncodeLemmas.{decoded-encode}
use Rattle.std.proofs.lemmas.Bool.{cases_Bool, or_cases, or_parts, and_parts, eqb-true, ne_eqb, cases_lt, cond-true}
use Rattle.std.proofs.lemmas.Bool.Decides.{nat_tests}
use Rattle.std.specs.Char.{is_ascii_alphabetic}
use Rattle.unicode_ident.specs.Ident.{is_xid_start}
use Rattle.unicode_ident.proofs.IdentLemmas.{is_xid_start-ascii}
use Rattle.bstr.specs.Utf8.{Decoded}
use Rattle.sl_token.proofs.Sizes.{ascii_decoded}
use Rattle.sl_token.specs.declared.opening.Opening.{Opening}
use Rattle.sl_token.specs.declared.opening.Opening.TheVariants as opens
use Rattle.sl_token.specs.Characters.{len_if, begins_identifier, start_len}
use Rattle.sl_token.specs.Spellings.{is_space, is_digit, is_operator, is_mark, begins_line_comment, begins_block_comment, begins_comment, begins_triple, opening_of}
use Rattle.sl_token.specs.Longest.{IsQuoted, IsIdentifier, IsTriple, Spells}
use Rattle.sl_token.proofs.Longest.Names.{encode_some, second_mark}

-- a byte of a list in which none passes a test
excludes : (some : List ℕ) (test : ℕ → Bool) (byte : ℕ) → list_any (λ one. one == byte) some ≡ true → list_any test some ≡ false → test byte ≡ false
excludes [] test byte is none = absurd (true≢false (sym is))
excludes (one ∷ some) test byte is none =
    let parts = or_parts (test one) (list_any test some) none in
    ⊎_elim
    (λ here. subst (λ byte. test byte ≡ false) (eqb-true one byte here) parts.0)
    (λ later. excludes some test byte later parts.1)
    (or_cases (one == byte) (list_any (λ one. one == byte) some) is)

-- the other way round
not_both : (a b : Bool) → (a ≡ true → b ≡ false) → b ≡ true → a ≡ false
not_both a b apart is = ⊎_elim (λ (yes : a ≡ true). absurd (true≢false (sym is ∙ apart yes))) (λ (none : a ≡ false). none) (cases_Bool a)

-- what is no slash begins no comment
no_line : (bytes : List ℕ) → (slice_index bytes 0 == 47) ≡ false → begins_line_comment bytes ≡ false
unfolding begins_line_comment
no_line bytes e = rw e refl

no_block : (bytes : List ℕ) → (slice_index bytes 0 == 47) ≡ false → begins_block_comment bytes ≡ false
unfolding begins_block_comment
no_block bytes e = rw e refl

-- the openings, by the bytes that begin them

space_opens : (bytes : List ℕ) → is_space (slice_index bytes 0) ≡ true → opening_of bytes ≡ opens.Space
unfolding opening_of
space_opens bytes e = rw e refl

line_opens : (bytes : List ℕ) → begins_line_comment bytes ≡ true → opening_of bytes ≡ opens.LineComment
unfolding opening_of is_space begins_line_comment
line_opens bytes e =
    let both = and_parts (slice_index bytes 0 == 47) (slice_index bytes 1 == 47) e in
    rw (eqb-true _ _ both.0, eqb-true _ _ both.1) refl

block_opens : (bytes : List ℕ) → begins_block_comment bytes ≡ true → opening_of bytes ≡ opens.BlockComment
unfolding opening_of is_space begins_line_comment begins_block_comment
block_opens bytes e =
    let both = and_parts (slice_index bytes 0 == 47) (slice_index bytes 1 == 42) e in
    rw (eqb-true _ _ both.0, eqb-true _ _ both.1) refl

operator_no_space : (byte : ℕ) → is_operator byte ≡ true → is_space byte ≡ false
unfolding is_operator is_space
operator_no_space byte e = excludes (codes "!#%&*+-/:<=>?@\\^|~") (λ byte. byte == 32 || byte == 10 || byte == 9 || byte == 13) byte e refl

operator_opens : (bytes : List ℕ) → is_operator (slice_index bytes 0) ≡ true → begins_comment bytes ≡ false → opening_of bytes ≡ opens.Operator
unfolding opening_of begins_comment
operator_opens bytes e none =
    let parts = or_parts (begins_line_comment bytes) (begins_block_comment bytes) none in
    rw (operator_no_space _ e, parts.0, parts.1, e) refl

mark_excludes : (test : ℕ → Bool) (byte : ℕ) → is_mark byte ≡ true → list_any test (codes "()[]{},.") ≡ false → test byte ≡ false
unfolding is_mark
mark_excludes test byte e none = excludes (codes "()[]{},.") test byte e none

mark_opens : (bytes : List ℕ) → is_mark (slice_index bytes 0) ≡ true → opening_of bytes ≡ opens.Mark
unfolding opening_of is_space is_operator
mark_opens bytes e =
    let byte = slice_index bytes 0 in
    let slash = mark_excludes (λ byte. byte == 47) byte e refl in
    let space = mark_excludes is_space byte e refl in
    let operator = mark_excludes is_operator byte e refl in
    rw (space, no_line bytes slash, no_block bytes slash, operator, e) refl

operator_excludes : (test : ℕ → Bool) (byte : ℕ) → is_operator byte ≡ true → list_any test (codes "!#%&*+-/:<=>?@\\^|~") ≡ false → test byte ≡ false
unfolding is_operator
operator_excludes test byte e none = excludes (codes "!#%&*+-/:<=>?@\\^|~") test byte e none

-- a space is one of four bytes
space_excludes : (test : ℕ → Bool) (byte : ℕ) → is_space byte ≡ true → list_any test (32 ∷ 10 ∷ 9 ∷ 13 ∷ []) ≡ false → test byte ≡ false
unfolding is_space
space_excludes test byte e none =
    let a = or_parts (test 32) (list_any test (10 ∷ 9 ∷ 13 ∷ [])) none in
    let b = or_parts (test 10) (list_any test (9 ∷ 13 ∷ [])) a.1 in
    let c = or_parts (test 9) (list_any test (13 ∷ [])) b.1 in
    let d = or_parts (test 13) false c.1 in
    ⊎_elim
    (λ rest. ⊎_elim
    (λ more. ⊎_elim
    (λ (is : (byte == 32) ≡ true). subst (λ byte. test byte ≡ false) (sym (eqb-true byte 32 is)) a.0)
    (λ (is : (byte == 10) ≡ true). subst (λ byte. test byte ≡ false) (sym (eqb-true byte 10 is)) b.0)
    (or_cases (byte == 32) (byte == 10) more))
    (λ (is : (byte == 9) ≡ true). subst (λ byte. test byte ≡ false) (sym (eqb-true byte 9 is)) c.0)
    (or_cases (byte == 32 || byte == 10) (byte == 9) rest))
    (λ (is : (byte == 13) ≡ true). subst (λ byte. test byte ≡ false) (sym (eqb-true byte 13 is)) d.0)
    (or_cases (byte == 32 || byte == 10 || byte == 9) (byte == 13) e)

digit_opens : (bytes : List ℕ) → is_digit (slice_index bytes 0) ≡ true → opening_of bytes ≡ opens.Digit
unfolding opening_of is_digit
digit_opens bytes e =
    let byte = slice_index bytes 0 in
    let space = not_both (is_space byte) (is_digit byte) (λ is. space_excludes is_digit byte is refl) e in
    let operator = not_both (is_operator byte) (is_digit byte) (λ is. operator_excludes is_digit byte is refl) e in
    let slash = not_both (byte == 47) (is_digit byte) (λ is. subst (λ byte. is_digit byte ≡ false) (sym (eqb-true byte 47 is)) refl) e in
    let mark = not_both (is_mark byte) (is_digit byte) (λ is. mark_excludes is_digit byte is refl) e in
    rw (space, no_line bytes slash, no_block bytes slash, operator, mark, e) refl

triple_opens : (bytes : List ℕ) → begins_triple bytes ≡ true → opening_of bytes ≡ opens.Triple
unfolding opening_of is_space is_digit is_operator is_mark begins_line_comment begins_block_comment begins_triple
triple_opens bytes e =
    let most = and_parts (slice_index bytes 0 == 34 && slice_index bytes 1 == 34) (slice_index bytes 2 == 34) e in
    let both = and_parts (slice_index bytes 0 == 34) (slice_index bytes 1 == 34) most.0 in
    rw (eqb-true _ _ both.0, eqb-true _ _ both.1, eqb-true _ _ most.1) refl

quote_opens : (bytes : List ℕ) → slice_index bytes 0 ≡ 34 → begins_triple bytes ≡ false → opening_of bytes ≡ opens.Quote
unfolding opening_of is_space is_digit is_operator is_mark begins_line_comment begins_block_comment
quote_opens bytes e none = rw (none, e) refl

apostrophe_opens : (bytes : List ℕ) → slice_index bytes 0 ≡ 39 → opening_of bytes ≡ opens.Apostrophe
unfolding opening_of is_space is_digit is_operator is_mark begins_line_comment begins_block_comment begins_triple
apostrophe_opens bytes e = rw e refl

-- an ASCII byte that is no letter and no `_` begins no identifier
abbrev ascii_start : ℕ → Bool
ascii_start byte = is_ascii_alphabetic byte || byte == 95

none_starts : (bytes : List ℕ) → slice_index bytes 0 < 128 → ascii_start (slice_index bytes 0) ≡ false → start_len bytes ≡ 0
unfolding start_len begins_identifier
none_starts [] small none = refl
none_starts (byte ∷ bytes) small none =
    ap (λ (found : Decoded). len_if (λ character. is_xid_start character || character == 95) found.char found.size) (ascii_decoded byte bytes small)
    ∙ ap (λ starts. if starts || byte == 95 then 1 else 0) (is_xid_start-ascii byte small)
    ∙ ap (λ starts. if starts then 1 else 0) none

-- what begins an identifier is none of some ASCII bytes
abbrev other : ℕ → Bool
other byte = nat_le 128 byte || ascii_start byte

digit_other : (byte : ℕ) → is_digit byte ≡ true → other byte ≡ false
unfolding is_digit
digit_other byte is = grind (arith, nat_tests)

no_other : (bytes : List ℕ) → other (slice_index bytes 0) ≡ false → start_len bytes ≡ 0
no_other bytes none =
    let parts = or_parts (nat_le 128 (slice_index bytes 0)) (ascii_start (slice_index bytes 0)) none in
    let small : slice_index bytes 0 < 128 = let is = parts.0 in grind (arith, nat_tests) in
    none_starts bytes small parts.1

name_opens : (bytes : List ℕ) → start_len bytes ≢ 0 → opening_of bytes ≡ opens.Name
unfolding opening_of begins_triple
name_opens bytes some =
    let byte = slice_index bytes 0 in
    let never : other byte ≡ false → ⊥ = λ none. some (no_other bytes none) in
    let isnt : (test : Bool) → (test ≡ true → other byte ≡ false) → test ≡ false = λ test apart.
    ⊎_elim (λ (is : test ≡ true). absurd (never (apart is))) (λ (isnt : test ≡ false). isnt) (cases_Bool test) in
    let one : (this : ℕ) → other this ≡ false → (byte == this) ≡ false = λ this none.
    isnt (byte == this) (λ is. subst (λ byte. other byte ≡ false) (sym (eqb-true byte this is)) none) in
    let space = isnt (is_space byte) (λ is. space_excludes other byte is refl) in
    let operator = isnt (is_operator byte) (λ is. operator_excludes other byte is refl) in
    let mark = isnt (is_mark byte) (λ is. mark_excludes other byte is refl) in
    let digit = isnt (is_digit byte) (λ is. digit_other byte is) in
    let slash = one 47 refl in
    let quote = one 34 refl in
    let apostrophe = one 39 refl in
    let starts = ne_eqb (start_len bytes) 0 some in
    rw (space, no_line bytes slash, no_block bytes slash, operator, mark, digit, quote, apostrophe, starts) refl

-- an identifier begins with a character that may begin one
start_spelled : (character : ℕ) (rest : List ℕ) → IsScalar character → begins_identifier character ≡ true
    → start_len (encode_utf8 character ++ rest) ≡ length (encode_utf8 character)
unfolding start_len
start_spelled character rest scalar begins =
    let len = length (encode_utf8 character) in
    ap (λ (read : Decoded). len_if begins_identifier read.char read.size) (decoded-encode character rest scalar)
    ∙ cond-true (begins_identifier character) len 0 begins

identifier_starts : (bytes : List ℕ) (m : ℕ) → IsIdentifier bytes m → start_len bytes ≢ 0
identifier_starts bytes m is none =
    let behind = encode_utf8_all is.rest ++ drop m bytes in
    let apart : encode_utf8 is.first ++ behind ≡ bytes =
    sym (append_assoc (encode_utf8 is.first) (encode_utf8_all is.rest) (drop m bytes))
    ∙ ap (λ front. front ++ drop m bytes) (sym is.spelled)
    ∙ take-append-drop m bytes in
    let len = ap start_len (sym apart) ∙ start_spelled is.first behind is.scalar is.begins in
    let some = encode_some is.first in
    absurd (omega arith)

-- no byte stands between the first two of three marks
short_quote : (bytes : List ℕ) (m : ℕ) → IsQuoted bytes m → begins_triple bytes ≡ true → m ≤ 2
short_quote bytes m is triple =
    let mark : slice_index (drop 1 bytes) 0 ≡ 34 = second_mark 0 bytes triple in
    ⊎_elim
    (λ (some : 0 < is.len). absurd (true≢false (sym (is.marks 0 some mark))))
    (λ (none : is.len ≤ 0). let size = is.is in omega arith)
    (cases_lt 0 is.len)

-- what is spelled is what the bytes begin, but for a text of no bytes before a third mark
spelled_opens : (opening : Opening) (bytes : List ℕ) (m : ℕ) → Spells opening bytes m
    → (opening_of bytes ≡ opening) ⊎ ((opening_of bytes ≡ opens.Triple) × (m ≤ 2))
unfolding begins_block_comment
spelled_opens opens.Space bytes m is = inl (space_opens bytes (is.spaces.1 0 is.some))
spelled_opens opens.LineComment bytes m is = inl (line_opens bytes is.begins)
spelled_opens opens.BlockComment bytes m is = inl (block_opens bytes (subst (λ bytes. begins_block_comment bytes ≡ true) (sym is.whole) refl))
spelled_opens opens.Operator bytes m is = inl (operator_opens bytes (is.operators.1 0 is.some) (is.no_comment 0 is.some))
spelled_opens opens.Mark bytes m is = inl (mark_opens bytes is.0)
spelled_opens opens.Digit bytes m is = inl (digit_opens bytes (is.digits.1 0 is.some))
spelled_opens opens.Triple bytes m is = inl (triple_opens bytes is.opened)
spelled_opens opens.Quote bytes m is =
    ⊎_elim
    (λ (triple : begins_triple bytes ≡ true). inr (triple_opens bytes triple, short_quote bytes m is triple))
    (λ (none : begins_triple bytes ≡ false). inl (quote_opens bytes is.opened none))
    (cases_Bool (begins_triple bytes))
spelled_opens opens.Apostrophe bytes m is = inl (apostrophe_opens bytes is.0)
spelled_opens opens.Name bytes m (inl is) = inl (name_opens bytes (identifier_starts bytes m is))
spelled_opens opens.Name bytes m (inr is) = inl (name_opens bytes (identifier_starts bytes is.at is.name.0))
spelled_opens opens.Nothing bytes m is = absurd is

-- so what is longest of what the bytes begin is longest of all
pub longest_of_all : (bytes : List ℕ) (n : ℕ) → Spells (opening_of bytes) bytes n → ((m : ℕ) → Spells (opening_of bytes) bytes m → m ≤ n)
    → (opening : Opening) (m : ℕ) → Spells opening bytes m → m ≤ n
longest_of_all bytes n spelled most opening m other =
    ⊎_elim
    (λ same. most m (subst (λ opening. Spells opening bytes m) (sym same) other))
    (λ triple.
    let is : IsTriple bytes 0 n = subst (λ opening. Spells opening bytes n) triple.0 spelled in
    let size = is.is in
    let apart = is.apart in
    let short = triple.1 in
    omega arith)
    (spelled_opens opening bytes m other)
