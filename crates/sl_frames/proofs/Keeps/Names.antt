-- The names of variables, temporaries and functions: they can be in a text, aren't reserved, and differ.
use Rattle.std.proofs.Common.{◌≡◌, ℕ, ◌/◌, ◌%◌, ◌^◌, ◌<◌, ◌≤◌, List, [], ◌∷◌, Bool, true, false, length, get_or, take, drop, refl, sym, ap, ◌∙◌, inl, inr, arith, All, Contains, codes, bytes_eq}
use Rattle.std.specs.Prelude.{◌==◌, ◌&&◌}
use Rattle.std.specs.Char.{is_ascii_alphanumeric, is_ascii_digit}
use Rattle.std.specs.Fmt.{decimal}
use Rattle.std.specs.Str.Parse.{AllDigits, digits_value}
use Rattle.std.specs.List.{list_any, flat_map}
use Rattle.std.proofs.lemmas.Bool.Decides.{nat_tests}
use Rattle.std.proofs.lemmas.Fmt.{decimal_is_IsNumeral_wide}
use Rattle.std.proofs.lemmas.Str.Parse.{digit_from_value}
use Rattle.std.proofs.lemmas.List.Elements.{All-nil, All-cons, All-head, All-tail, All-append, All-weaker, All-from_recursion}
use Rattle.c_tree.specs.Words.{IsIdentifierByte, IsDigit, IsName, subset_words, reserved_words}
use Rattle.c_tree.specs.Mangled.{hex_digit, mangled_byte, mangled}
use Rattle.c_tree.proofs.Names.{not_among, differ_names, name_is, none_of}
use Rattle.sl_frames.specs.Names.{variable_name, temporary_name}
use Rattle.sl_frames.proofs.Keeps.Tests.{by_test}

-- Numbers -------------------------------------------------------------------------------------------------------------

-- a digit of a number is an ASCII digit
digits_are : (digits : List ℕ) → AllDigits 10 digits → All (λ byte. (48 ≤ byte) × (byte ≤ 57)) digits
digits_are [] all = All-nil (λ byte. (48 ≤ byte) × (byte ≤ 57))
digits_are (digit ∷ digits) all =
    let range = digit_from_value digit all.0 in
    All-cons (λ byte. (48 ≤ byte) × (byte ≤ 57)) digit digits (omega arith, omega arith) (digits_are digits all.1)

-- the digits of a number that isn't enormous
decimal_digits : (number : ℕ) → number < 10 ^ 64 → All (λ byte. (48 ≤ byte) × (byte ≤ 57)) (decimal number)
decimal_digits number small = digits_are (decimal number) (decimal_is_IsNumeral_wide number small).0.1

-- two numbers have two
pub decimal_same : (m n : ℕ) → m < 10 ^ 64 → n < 10 ^ 64 → decimal m ≡ decimal n → m ≡ n
decimal_same m n small little same = sym (decimal_is_IsNumeral_wide m small).1 ∙ (ap (digits_value 10) same ∙ (decimal_is_IsNumeral_wide n little).1)

-- digits stand in identifiers
digit_in_word : (byte : ℕ) → (48 ≤ byte) × (byte ≤ 57) → IsIdentifierByte byte
digit_in_word byte range = inl (grind (arith, nat_tests))

-- a letter and then a digit
abbrev is_numbered : ℕ → List ℕ → Bool
is_numbered letter word = (get_or word 0 0 == letter) && is_ascii_digit (get_or word 1 0)

-- digits begin with one
begins_with_digit : (bytes : List ℕ) → 0 < length bytes → All (λ byte. (48 ≤ byte) × (byte ≤ 57)) bytes → is_ascii_digit (get_or bytes 0 0) ≡ true
begins_with_digit [] some all = absurd (omega arith)
begins_with_digit (byte ∷ bytes) some all = let range = All-head (λ byte. (48 ≤ byte) × (byte ≤ 57)) byte bytes all in grind (arith, nat_tests)

second_is_digit : (number : ℕ) → number < 10 ^ 64 → is_ascii_digit (get_or (decimal number) 0 0) ≡ true
second_is_digit number small = begins_with_digit (decimal number) (decimal_is_IsNumeral_wide number small).0.0 (decimal_digits number small)

-- a letter and a number are a name
numbered_is_name : (letter : ℕ) (number : ℕ) → number < 10 ^ 64 → IsIdentifierByte letter → ¬ IsDigit letter → (letter == letter) ≡ true → list_any (is_numbered letter) subset_words ≡ false → IsName (letter ∷ decimal number)
numbered_is_name letter number small word begins same none = record {
  identifier = record {
    bytes = All-cons IsIdentifierByte letter (decimal number) word (All-weaker (λ byte. (48 ≤ byte) × (byte ≤ 57)) IsIdentifierByte digit_in_word (decimal number) (decimal_digits number small));
    begins = begins;
  };
  free = not_among (is_numbered letter) subset_words (letter ∷ decimal number) none (rw (same, second_is_digit number small) refl);
}

pub variable_is_name : (number : ℕ) → number < 10 ^ 64 → IsName (variable_name number)
variable_is_name number small = numbered_is_name 118 number small (inl refl) (λ digit. cc) refl refl

pub temporary_is_name : (number : ℕ) → number < 10 ^ 64 → IsName (temporary_name number)
temporary_is_name number small = numbered_is_name 116 number small (inl refl) (λ digit. cc) refl refl

-- it isn't one of some words of which none is a letter and a number
pub variable_not_among : (words : List (List ℕ)) → list_any (is_numbered 118) words ≡ false → (number : ℕ) → number < 10 ^ 64 → ¬ Contains words (variable_name number)
variable_not_among words none number small = not_among (is_numbered 118) words (118 ∷ decimal number) none (second_is_digit number small)

pub temporary_not_among : (words : List (List ℕ)) → list_any (is_numbered 116) words ≡ false → (number : ℕ) → number < 10 ^ 64 → ¬ Contains words (temporary_name number)
temporary_not_among words none number small = not_among (is_numbered 116) words (116 ∷ decimal number) none (second_is_digit number small)

-- neither is reserved
pub variable_is_free : (number : ℕ) → number < 10 ^ 64 → ¬ Contains reserved_words (variable_name number)
variable_is_free = variable_not_among reserved_words refl

pub temporary_is_free : (number : ℕ) → number < 10 ^ 64 → ¬ Contains reserved_words (temporary_name number)
temporary_is_free = temporary_not_among reserved_words refl

-- two numbers have two names
pub variables_differ : (a b : ℕ) → a < b → b < 10 ^ 64 → bytes_eq (variable_name a) (variable_name b) ≡ false
variables_differ a b less small =
    differ_names (variable_name a) (variable_name b)
    (λ same. let bytes : decimal a ≡ decimal b = ap (drop 1) same in let equal = decimal_same a b (omega arith) small bytes in absurd (omega arith))

pub temporaries_differ : (a b : ℕ) → a < b → b < 10 ^ 64 → bytes_eq (temporary_name a) (temporary_name b) ≡ false
temporaries_differ a b less small =
    differ_names (temporary_name a) (temporary_name b)
    (λ same. let bytes : decimal a ≡ decimal b = ap (drop 1) same in let equal = decimal_same a b (omega arith) small bytes in absurd (omega arith))

-- a variable is no temporary
pub variable_no_temporary : (a b : ℕ) → bytes_eq (variable_name a) (temporary_name b) ≡ false
variable_no_temporary a b = refl

-- Functions -----------------------------------------------------------------------------------------------------------

-- whether a word begins as mangled names do
abbrev pub is_mangled : List ℕ → Bool
is_mangled word = bytes_eq (take 2 word) (codes "m_")

pub mangled_begins : (name : List ℕ) → is_mangled (mangled name) ≡ true
unfolding mangled
mangled_begins name = refl

-- it isn't one of some words that don't
pub mangled_not_among : (words : List (List ℕ)) → list_any is_mangled words ≡ false → (name : List ℕ) → ¬ Contains words (mangled name)
mangled_not_among words none name = not_among is_mangled words (mangled name) none (mangled_begins name)

-- a hexadecimal digit stands in identifiers
hex_in_word : (value : ℕ) → value < 16 → IsIdentifierByte (hex_digit value)
hex_in_word value small = inl (grind (arith, nat_tests))

-- the bytes of a mangled byte do
abbrev InWords : List ℕ → Type 0
InWords bytes = All IsIdentifierByte bytes

byte_in_word : (byte : ℕ) → byte ≤ 255 → InWords (mangled_byte byte)
byte_in_word byte small =
    by_test (is_ascii_alphanumeric byte) (λ plain. rw plain (All-cons IsIdentifierByte byte [] (inl plain) (All-nil IsIdentifierByte)))
    (λ other. by_test (byte == 95) (λ a. rw (other, a) (All-from_recursion IsIdentifierByte (codes "__") (inr refl, (inr refl, tt))))
    (λ a. by_test (byte == 46) (λ b. rw (other, a, b) (All-from_recursion IsIdentifierByte (codes "_d") (inr refl, (inl refl, tt))))
    (λ b. by_test (byte == 91) (λ c. rw (other, a, b, c) (All-from_recursion IsIdentifierByte (codes "_l") (inr refl, (inl refl, tt))))
    (λ c. by_test (byte == 93) (λ d. rw (other, a, b, c, d) (All-from_recursion IsIdentifierByte (codes "_r") (inr refl, (inl refl, tt))))
    (λ d. by_test (byte == 44) (λ e. rw (other, a, b, c, d, e) (All-from_recursion IsIdentifierByte (codes "_c") (inr refl, (inl refl, tt))))
    (λ e. rw (other, a, b, c, d, e)
    (All-from_recursion IsIdentifierByte (95 ∷ 120 ∷ hex_digit (byte / 16) ∷ hex_digit (byte % 16) ∷ [])
    (inr refl, (inl refl, (hex_in_word (byte / 16) (omega arith), (hex_in_word (byte % 16) (omega arith), tt)))))))))))

bytes_in_word : (name : List ℕ) → All (λ byte. byte ≤ 255) name → InWords (flat_map mangled_byte name)
bytes_in_word [] small = All-nil IsIdentifierByte
bytes_in_word (byte ∷ name) small =
    All-append IsIdentifierByte (mangled_byte byte) (flat_map mangled_byte name) (byte_in_word byte (All-head (λ byte. byte ≤ 255) byte name small))
    (bytes_in_word name (All-tail (λ byte. byte ≤ 255) byte name small))

pub mangled_is_name : (name : List ℕ) → All (λ byte. byte ≤ 255) name → IsName (mangled name)
unfolding mangled
mangled_is_name name small = record {
  identifier = record {
    bytes = All-append IsIdentifierByte (codes "m_") (flat_map mangled_byte name) (All-from_recursion IsIdentifierByte (codes "m_") (inl refl, (inr refl, tt))) (bytes_in_word name small);
    begins = λ digit. cc;
  };
  free = mangled_not_among subset_words refl name;
}

-- the function in which a run begins
pub main_is_name : IsName (codes "sl_main")
main_is_name = name_is (codes "sl_main") refl refl

pub main_is_free : ¬ Contains reserved_words (codes "sl_main")
main_is_free = none_of reserved_words (codes "sl_main") refl
