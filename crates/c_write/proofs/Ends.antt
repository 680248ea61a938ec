-- Where a token ends: before a byte that no token has behind its first, and behind a bracket, a point or a `-` that stands alone.
use Rattle.std.proofs.Common.{◌≡◌, ◌≢◌, ℕ, List, [], ◌∷◌, ◌++◌, Bool, true, false, not, ◌||◌, refl, sym, ◌∙◌, subst, inl, inr, ⊎_elim, ◌⊎◌, arith, Contains, codes, bytes_eq}
use Rattle.std.specs.Prelude.{◌==◌}
use Rattle.std.specs.Char.{is_ascii_alphanumeric}
use Rattle.std.specs.List.{list_all}
use Rattle.std.proofs.lemmas.Bool.{and_parts, or_cases, or_left, or_parts, not-true, both_ways}
use Rattle.std.proofs.lemmas.Bool.Decides.{Decides-eqb, nat_tests}
use Rattle.std.proofs.lemmas.List.Elements.{All-contains, All-head, All-tail, All-weaker}
use Rattle.std.proofs.lemmas.List.Folds.{list_all-append}
use Rattle.std.proofs.lemmas.List.Sums.{AllPass-from_list_all, list_all-from_AllPass}
use Rattle.std.proofs.lemmas.Map.Views.{Contains-from_any}
use Rattle.std.proofs.lemmas.Slice.Eq.{bytes_eq-Decides}
use Rattle.c_tree.specs.Words.{IsIdentifierByte, IsDigit, IsIdentifier, IsNumber, IsToken, marks}
use Rattle.c_tree.specs.Text.{IsLongest}
use Rattle.c_write.specs.Layout.{is_one_of, opening}

-- what each of some spellings passes, each that they contain passes
contained_passes : (test : List ℕ → Bool) (spellings : List (List ℕ)) (spelling : List ℕ) → list_all test spellings ≡ true → Contains spellings spelling → test spelling ≡ true
contained_passes test spellings spelling all contains =
    All-contains (λ s. test s ≡ true) spellings spelling (AllPass-from_list_all test spellings all) contains

-- and each that is one of them
pub one_passes : (test : List ℕ → Bool) (spellings : List (List ℕ)) (spelling : List ℕ) → list_all test spellings ≡ true → is_one_of spellings spelling ≡ true → test spelling ≡ true
one_passes test spellings spelling all one =
    contained_passes test spellings spelling all
    (Contains-from_any {eq = λ a b. bytes_eq b a} (λ a b e. sym ((bytes_eq-Decides b a).0 e)) spelling spellings one)

-- whether a token may have this byte behind its first: a letter, a digit, `_`, `+`, `<`, `>` or `=`
abbrev inside : ℕ → Bool
inside byte = is_ascii_alphanumeric byte || (byte == 95) || (byte == 43) || (byte == 60) || (byte == 62) || (byte == 61)

-- whether there is a first byte, and each that follows passes the test
abbrev rest_passes : (ℕ → Bool) → List ℕ → Bool
rest_passes test [] = false
rest_passes test (first ∷ rest) = list_all test rest

-- what the bytes of identifiers and numbers pass, those behind the first do
identifier_rest : (test : ℕ → Bool) → ((byte : ℕ) → IsIdentifierByte byte → test byte ≡ true) → (spelling : List ℕ) → IsIdentifier spelling → rest_passes test spelling ≡ true
identifier_rest test each [] is = absurd is.begins
identifier_rest test each (first ∷ rest) is =
    list_all-from_AllPass test rest (All-weaker IsIdentifierByte (λ b. test b ≡ true) each rest (All-tail IsIdentifierByte first rest is.bytes))

number_rest : (test : ℕ → Bool) → ((byte : ℕ) → IsDigit byte → test byte ≡ true) → (spelling : List ℕ) → IsNumber spelling → rest_passes test spelling ≡ true
number_rest test each [] is = absurd (is.some refl)
number_rest test each (first ∷ rest) is = list_all-from_AllPass test rest (All-weaker IsDigit (λ b. test b ≡ true) each rest (All-tail IsDigit first rest is.digits))

-- so each token has behind its first byte only such as a token may have there
identifier_byte_inside : (byte : ℕ) → IsIdentifierByte byte → inside byte ≡ true
identifier_byte_inside byte is = grind (arith, nat_tests)

digit_inside : (byte : ℕ) → IsDigit byte → inside byte ≡ true
digit_inside byte is = grind (arith, nat_tests)

token_inside : (spelling : List ℕ) → IsToken spelling → rest_passes inside spelling ≡ true
token_inside spelling (inl is) = identifier_rest inside identifier_byte_inside spelling is
token_inside spelling (inr (inl is)) = number_rest inside digit_inside spelling is
token_inside spelling (inr (inr is)) = contained_passes (rest_passes inside) marks spelling refl is

-- whether a byte isn't `+`
abbrev no_plus : ℕ → Bool
no_plus byte = not (byte == 43)

-- and it has no `+` there, if it isn't `++`
identifier_byte_no_plus : (byte : ℕ) → IsIdentifierByte byte → no_plus byte ≡ true
identifier_byte_no_plus byte is = grind (arith, nat_tests)

digit_no_plus : (byte : ℕ) → IsDigit byte → no_plus byte ≡ true
digit_no_plus byte is = grind (arith, nat_tests)

abbrev no_plus_behind : List ℕ → Bool
no_plus_behind spelling = rest_passes no_plus spelling || bytes_eq (codes "++") spelling

token_no_plus : (spelling : List ℕ) → IsToken spelling → no_plus_behind spelling ≡ true
token_no_plus spelling (inl is) = or_left (rest_passes no_plus spelling) (bytes_eq (codes "++") spelling) (identifier_rest no_plus identifier_byte_no_plus spelling is)
token_no_plus spelling (inr (inl is)) = or_left (rest_passes no_plus spelling) (bytes_eq (codes "++") spelling) (number_rest no_plus digit_no_plus spelling is)
token_no_plus spelling (inr (inr is)) = contained_passes no_plus_behind marks spelling refl is

-- whether each token ends before these bytes: no token has the first of them behind its own first, and it is no `*`
abbrev pub ends_token : List ℕ → Bool
ends_token [] = false
ends_token (byte ∷ bytes) = not (inside byte || (byte == 42))

-- whether bytes begin with `+`
abbrev pub begins_plus : List ℕ → Bool
begins_plus [] = false
begins_plus (byte ∷ bytes) = byte == 43

-- more bytes may follow
pub ends_token-append : (bytes more : List ℕ) → ends_token bytes ≡ true → ends_token (bytes ++ more) ≡ true
ends_token-append [] more e = cc
ends_token-append (byte ∷ bytes) more e = e

-- a token doesn't go on with such bytes
no_longer : (spelling more rest : List ℕ) → ends_token (more ++ rest) ≡ true → more ≢ [] → IsToken spelling → ¬ IsToken (spelling ++ more)
no_longer spelling [] rest ends some short long = some refl
no_longer [] (byte ∷ more) rest ends some short long = let e = token_inside [] short in cc
no_longer (first ∷ spelling) (byte ∷ more) rest ends some short long =
    let all = sym (list_all-append inside spelling (byte ∷ more)) ∙ token_inside (first ∷ spelling ++ byte ∷ more) long in
    let here = and_parts (inside byte) (list_all inside more) (and_parts (list_all inside spelling) (list_all inside (byte ∷ more)) all).1 in
    let out = or_parts (inside byte) (byte == 42) (not-true (inside byte || (byte == 42)) ends)
    in both_ways (inside byte) out.0 here.0

-- nor do a token and bytes that don't begin with `*` begin a comment
no_comment_before : (spelling behind rest : List ℕ) → ((more : List ℕ) → behind ≢ 42 ∷ more) → IsToken spelling → spelling ++ behind ≢ codes "/*" ++ rest
no_comment_before [] behind rest other is e = let none = token_inside [] is in cc
no_comment_before (first ∷ []) behind rest other is e = other rest cc
no_comment_before (first ∷ second ∷ more) behind rest other is e =
    let same : second ≡ 42 = cc in
    let here = and_parts (inside second) (list_all inside more) (token_inside (first ∷ second ∷ more) is) in
    let not_so : false ≡ true = subst (λ b. inside b ≡ true) same here.0
    in cc

-- so only `+` goes on with a `+`
before_plus : (first : ℕ) (rest more : List ℕ) → codes "++" ≡ first ∷ rest ++ 43 ∷ more → first ∷ rest ≡ codes "+"
before_plus first [] more e = cc
before_plus first (second ∷ []) more e = cc
before_plus first (second ∷ third ∷ rest) more e = cc

goes_on_plus : (first : ℕ) (rest more : List ℕ) → IsToken (first ∷ rest ++ 43 ∷ more) → first ∷ rest ≡ codes "+"
goes_on_plus first rest more is =
    ⊎_elim
    (λ none. let parts = and_parts (list_all no_plus rest) (list_all no_plus (43 ∷ more)) (sym (list_all-append no_plus rest (43 ∷ more)) ∙ none) in cc)
    (λ same. before_plus first rest more ((bytes_eq-Decides (codes "++") (first ∷ rest ++ 43 ∷ more)).0 same))
    (or_cases (list_all no_plus (rest ++ 43 ∷ more)) (bytes_eq (codes "++") (first ∷ rest ++ 43 ∷ more)) (token_no_plus (first ∷ rest ++ 43 ∷ more) is))

no_longer_plus : (spelling more rest : List ℕ) → begins_plus (more ++ rest) ≡ true → more ≢ [] → spelling ≢ codes "+" → IsToken spelling → ¬ IsToken (spelling ++ more)
no_longer_plus spelling [] rest plus some other short long = some refl
no_longer_plus [] (byte ∷ more) rest plus some other short long = let e = token_inside [] short in cc
no_longer_plus (first ∷ spelling) (byte ∷ more) rest plus some other short long =
    other (goes_on_plus first spelling more (subst (λ b. IsToken (first ∷ spelling ++ b ∷ more)) ((Decides-eqb byte 43).0 plus) long))

-- the bytes before which a token ends: those before which each does, and those that begin with `+`, if it isn't `+`
abbrev pub EndsBefore : List ℕ → List ℕ → Type 0
EndsBefore spelling bytes = (ends_token bytes ≡ true) ⊎ ((spelling ≢ codes "+") × (begins_plus bytes ≡ true))

-- more bytes may follow
begins_plus-append : (bytes more : List ℕ) → begins_plus bytes ≡ true → begins_plus (bytes ++ more) ≡ true
begins_plus-append [] more e = cc
begins_plus-append (byte ∷ bytes) more e = e

pub EndsBefore-append : (spelling bytes more : List ℕ) → EndsBefore spelling bytes → EndsBefore spelling (bytes ++ more)
EndsBefore-append spelling bytes more (inl ends) = inl (ends_token-append bytes more ends)
EndsBefore-append spelling bytes more (inr (other, plus)) = inr (other, begins_plus-append bytes more plus)

-- neither begins with `*`
no_star : (spelling bytes : List ℕ) → EndsBefore spelling bytes → (more : List ℕ) → bytes ≢ 42 ∷ more
no_star spelling bytes (inl ends) more e =
    let not_so : false ≡ true = subst (λ b. ends_token b ≡ true) e ends
    in cc
no_star spelling bytes (inr (other, plus)) more e =
    let not_so : false ≡ true = subst (λ b. begins_plus b ≡ true) e plus
    in cc

-- nor does a token go on with them
ends_there : (spelling more rest : List ℕ) → EndsBefore spelling (more ++ rest) → more ≢ [] → IsToken spelling → ¬ IsToken (spelling ++ more)
ends_there spelling more rest (inl ends) some is = no_longer spelling more rest ends some is
ends_there spelling more rest (inr (other, plus)) some is = no_longer_plus spelling more rest plus some other is

-- so it is the longest with which the bytes begin
pub longest_before : (spelling behind : List ℕ) → IsToken spelling → EndsBefore spelling behind → IsLongest spelling behind
longest_before spelling behind is ends = record {
  token = is;
  longest = λ more rest e some. ends_there spelling more rest (subst (EndsBefore spelling) e ends) some is;
  no_comment = λ rest. no_comment_before spelling behind rest (no_star spelling behind ends) is;
}

-- whether this is `(`, `[`, `.` or `-`
abbrev opens : ℕ → Bool
opens byte = (byte == 40) || (byte == 91) || (byte == 46) || (byte == 45)

-- whether bytes are one of these alone, and whether they are one of these with more behind
abbrev opens_alone : List ℕ → Bool
opens_alone [] = false
opens_alone (byte ∷ []) = opens byte
opens_alone (byte ∷ next ∷ more) = false

abbrev opens_longer : List ℕ → Bool
opens_longer [] = false
opens_longer (byte ∷ []) = false
opens_longer (byte ∷ next ∷ more) = opens byte

-- the bytes of identifiers and numbers are others
identifier_byte_other : (byte : ℕ) → IsIdentifierByte byte → opens byte ≡ false
identifier_byte_other byte is = grind (arith, nat_tests)

digit_other : (byte : ℕ) → IsDigit byte → opens byte ≡ false
digit_other byte is = grind (arith, nat_tests)

-- so no token is one of these with more behind
token_alone : (first next : ℕ) (more : List ℕ) → IsToken (first ∷ next ∷ more) → opens first ≡ false
token_alone first next more (inl is) = identifier_byte_other first (All-head IsIdentifierByte first (next ∷ more) is.bytes)
token_alone first next more (inr (inl is)) = digit_other first (All-head IsDigit first (next ∷ more) is.digits)
token_alone first next more (inr (inr is)) = not-true (opens first) (contained_passes (λ s. not (opens_longer s)) marks (first ∷ next ∷ more) refl is)

-- and each of these alone is the longest token with which bytes begin, whatever follows
opening_longest : (spelling behind : List ℕ) → opens_alone spelling ≡ true → IsToken spelling → IsLongest spelling behind
opening_longest [] behind alone is = cc
opening_longest (first ∷ next ∷ more) behind alone is = cc
opening_longest (first ∷ []) behind alone is = record { token = is; longest = longest; no_comment = no_comment }
  where
    longest : (more rest : List ℕ) → behind ≡ more ++ rest → more ≢ [] → ¬ IsToken (first ∷ more)
    longest [] rest e some long = some refl
    longest (next ∷ more) rest e some long = both_ways (opens first) (token_alone first next more long) alone

    no_comment : (rest : List ℕ) → first ∷ behind ≢ codes "/*" ++ rest
    no_comment rest e =
        let same : first ≡ 47 = cc in
        let not_so : false ≡ true = subst (λ b. opens b ≡ true) same alone
        in cc

-- each spelling that is one of these
pub longest_tight : (spelling behind : List ℕ) → is_one_of (codes "-" ∷ opening) spelling ≡ true → IsToken spelling → IsLongest spelling behind
longest_tight spelling behind one is = opening_longest spelling behind (one_passes opens_alone (codes "-" ∷ opening) spelling refl one) is
