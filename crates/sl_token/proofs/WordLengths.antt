-- A name is compared with the words of its length alone.
use Rattle.std.proofs.Common.{◌≡◌, ◌≢◌, ◌⊎◌, ℕ, ◌<◌, ◌≤◌, List, [], ◌∷◌, length, Bool, true, false, ◌&&◌, ◌||◌, ◌==◌, nat_le, refl, sym, ap, ◌∙◌, arith, ⊎_elim, true≢false, if◌then◌else◌, bytes_eq}
use Rattle.std.specs.List.{list_any, list_all}
use Rattle.std.proofs.lemmas.Bool.{cases_Bool, and_parts, cond-true, cond-false}
use Rattle.std.proofs.lemmas.Bool.Decides.{nat_tests}
use Rattle.std.proofs.lemmas.Slice.Eq.{bytes_eq-Decides}
use Rattle.sl_token.specs.Spellings.{words, is_word}

-- those of some texts that have so many bytes
abbrev pub of_length : ℕ → List (List ℕ) → List (List ℕ)
of_length n [] = []
of_length n (word ∷ words) = if length word == n then word ∷ of_length n words else of_length n words

-- texts of two lengths differ
differs : (word name : List ℕ) → length word ≢ length name → bytes_eq word name ≡ false
differs word name apart =
    ⊎_elim
    (λ same. absurd (apart (ap length ((bytes_eq-Decides word name).0 same))))
    (λ other. other)
    (cases_Bool (bytes_eq word name))

compared : (some : List (List ℕ)) (name : List ℕ) (n : ℕ) → length name ≡ n
    → list_any (λ word. bytes_eq word name) (of_length n some) ≡ list_any (λ word. bytes_eq word name) some
compared [] name n is = refl
compared (word ∷ some) name n is =
    let rest = compared some name n is in
    let any = λ (words : List (List ℕ)). list_any (λ word. bytes_eq word name) words in
    ⊎_elim
    (λ same. ap any (cond-true (length word == n) (word ∷ of_length n some) (of_length n some) same) ∙ ap (λ rest. bytes_eq word name || rest) rest)
    (λ other.
    let apart : length word ≢ length name = λ e. true≢false (sym (grind (arith, nat_tests)) ∙ other) in
    ap any (cond-false (length word == n) (word ∷ of_length n some) (of_length n some) other) ∙ rest
    ∙ sym (ap (λ first. first || any some) (differs word name apart)))
    (cases_Bool (length word == n))

-- whether a name of this length is a word
pub words_of_length : (name : List ℕ) (n : ℕ) → length name ≡ n → list_any (λ word. bytes_eq word name) (of_length n words) ≡ is_word name
unfolding is_word
words_of_length name n is = compared words name n is

-- the length of each text lies between two numbers
abbrev lie : ℕ → ℕ → List (List ℕ) → Bool
lie least most some = list_all (λ word. nat_le least (length word) && nat_le (length word) most) some

none_outside : (some : List (List ℕ)) (least most : ℕ) (name : List ℕ) → lie least most some ≡ true
    → (length name < least) ⊎ (most < length name) → list_any (λ word. bytes_eq word name) some ≡ false
none_outside [] least most name within outside = refl
none_outside (word ∷ some) least most name within outside =
    let both = and_parts (nat_le least (length word) && nat_le (length word) most) (lie least most some) within in
    let bounds = and_parts (nat_le least (length word)) (nat_le (length word) most) both.0 in
    let low : least ≤ length word = let is = bounds.0 in grind (arith, nat_tests) in
    let high : length word ≤ most = let is = bounds.1 in grind (arith, nat_tests) in
    let apart : length word ≢ length name = λ e. ⊎_elim (λ below. absurd (omega arith)) (λ above. absurd (omega arith)) outside in
    ap (λ first. first || list_any (λ word. bytes_eq word name) some) (differs word name apart)
    ∙ none_outside some least most name both.1 outside

-- no name of less than 2 or more than 9 bytes is a word
pub no_such_word : (name : List ℕ) → (length name < 2) ⊎ (9 < length name) → is_word name ≡ false
unfolding is_word
no_such_word name outside = none_outside words 2 9 name refl outside
