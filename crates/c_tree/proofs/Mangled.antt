-- Two names have two C names: the first byte of a name can be read from its C name, and what is left is that of the other bytes.
use Rattle.std.proofs.Common.{◌≡◌, ℕ, ◌+◌, ◌-◌, ◌*◌, ◌/◌, ◌%◌, List, [], ◌∷◌, ◌++◌, Bool, true, false, Option, Some, None, refl, sym, ap, ◌∙◌, subst, drop, arith}
use Rattle.std.specs.Prelude.{nat_lt, ◌==◌, if◌then◌else◌}
use Rattle.std.specs.List.{flat_map}
use Rattle.std.specs.Char.{is_ascii_alphanumeric}
use Rattle.std.proofs.lemmas.Bool.{eqb-true}
use Rattle.c_tree.specs.Mangled.{hex_digit, mangled_byte, mangled, Distinguishes}

-- a byte, and what stands behind its C name
record Read : Type 0 where
  byte : ℕ
  rest : List ℕ

abbrev found : ℕ → List ℕ → Option Read
found byte rest = Some (record { byte = byte; rest = rest })

abbrev byte_in : Option Read → ℕ
byte_in None = 0
byte_in (Some there) = there.byte

abbrev rest_in : Option Read → List ℕ
rest_in None = []
rest_in (Some there) = there.rest

-- the value of a hexadecimal digit
abbrev value_of : ℕ → ℕ
value_of digit = if nat_lt digit 58 then digit - 48 else digit - 87

-- the byte with these two hexadecimal digits
abbrev read_hex : List ℕ → Option Read
read_hex [] = None
read_hex (high ∷ []) = None
read_hex (high ∷ low ∷ rest) = found (16 * value_of high + value_of low) rest

-- a byte whose C name begins with `_`, from what stands behind that
abbrev read_escape : List ℕ → Option Read
read_escape [] = None
read_escape (mark ∷ rest) =
    if mark == 95 then found 95 rest
    else if mark == 100 then found 46 rest
    else if mark == 108 then found 91 rest
    else if mark == 114 then found 93 rest
    else if mark == 99 then found 44 rest
    else read_hex rest

-- a byte, from its C name and what stands behind that
abbrev read : List ℕ → Option Read
read [] = None
read (first ∷ rest) = if first == 95 then read_escape rest else found first rest

-- by cases of a test
by_test : {P : Type 0} (test : Bool) → (test ≡ true → P) → (test ≡ false → P) → P
by_test true chosen other = chosen refl
by_test false chosen other = other refl

value_of_digit : (value : ℕ) → value_of (hex_digit value) ≡ value
value_of_digit value = grind arith

both_digits : (byte : ℕ) → 16 * value_of (hex_digit (byte / 16)) + value_of (hex_digit (byte % 16)) ≡ byte
both_digits byte = omega (arith, value_of_digit (byte / 16), value_of_digit (byte % 16))

-- a letter or a digit is no `_`
no_mark : (byte : ℕ) → is_ascii_alphanumeric byte ≡ true → (byte == 95) ≡ false
no_mark byte plain =
    by_test (byte == 95)
    (λ mark. let impossible : false ≡ true = ap is_ascii_alphanumeric (sym (eqb-true byte 95 mark)) ∙ plain in cc)
    (λ none. none)

-- a letter or a digit is read
reads_plain : (byte : ℕ) (rest : List ℕ) → is_ascii_alphanumeric byte ≡ true → read (mangled_byte byte ++ rest) ≡ found byte rest
reads_plain byte rest plain = rw (plain, no_mark byte plain) refl

-- a byte that is this one is read
reads_this : (byte this : ℕ) (rest : List ℕ) → (byte == this) ≡ true → read (mangled_byte this ++ rest) ≡ found this rest → read (mangled_byte byte ++ rest) ≡ found byte rest
reads_this byte this rest same so = subst (λ n. read (mangled_byte n ++ rest) ≡ found n rest) (sym (eqb-true byte this same)) so

-- any other byte is read
reads_escape : (byte : ℕ) (rest : List ℕ) → is_ascii_alphanumeric byte ≡ false → read (mangled_byte byte ++ rest) ≡ found byte rest
reads_escape byte rest escaped =
    by_test (byte == 95) (λ same. reads_this byte 95 rest same refl)
    (λ a. by_test (byte == 46) (λ same. reads_this byte 46 rest same refl)
    (λ b. by_test (byte == 91) (λ same. reads_this byte 91 rest same refl)
    (λ c. by_test (byte == 93) (λ same. reads_this byte 93 rest same refl)
    (λ d. by_test (byte == 44) (λ same. reads_this byte 44 rest same refl)
    (λ e. rw (escaped, a, b, c, d, e) (ap (λ n. found n rest) (both_digits byte)))))))

-- the byte that a C name begins with is read
reads : (byte : ℕ) (rest : List ℕ) → read (mangled_byte byte ++ rest) ≡ found byte rest
reads byte rest = by_test (is_ascii_alphanumeric byte) (reads_plain byte rest) (reads_escape byte rest)

-- names whose bytes have the same C names
same_bytes : (a b : List ℕ) → flat_map mangled_byte a ≡ flat_map mangled_byte b → a ≡ b
same_bytes [] [] same = refl
same_bytes [] (y ∷ ys) same = let impossible : None ≡ found y (flat_map mangled_byte ys) = ap read same ∙ reads y (flat_map mangled_byte ys) in cc
same_bytes (x ∷ xs) [] same = let impossible : found x (flat_map mangled_byte xs) ≡ None = sym (reads x (flat_map mangled_byte xs)) ∙ ap read same in cc
same_bytes (x ∷ xs) (y ∷ ys) same =
    let both : found x (flat_map mangled_byte xs) ≡ found y (flat_map mangled_byte ys) = sym (reads x (flat_map mangled_byte xs)) ∙ (ap read same ∙ reads y (flat_map mangled_byte ys)) in
    ap (λ byte. byte ∷ xs) (ap byte_in both) ∙ ap (λ rest. y ∷ rest) (same_bytes xs ys (ap rest_in both))

pub distinguishes : Distinguishes mangled
unfolding mangled
distinguishes = record { names = λ a b same. same_bytes a b (ap (drop 2) same) }
