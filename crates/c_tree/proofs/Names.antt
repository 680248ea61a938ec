-- Names that are plain to see: that they can be in a text, aren't reserved, and differ.
use Rattle.std.proofs.Common.{◌≡◌, ◌≢◌, ℕ, List, [], ◌∷◌, Bool, true, false, refl, sym, ap, ◌∙◌, inl, inr, All, Contains, bytes_eq}
use Rattle.std.specs.Prelude.{◌==◌, not, ◌&&◌, ◌||◌}
use Rattle.std.specs.Bool.{Decides}
use Rattle.std.specs.Char.{is_ascii_alphanumeric, is_ascii_digit}
use Rattle.std.specs.List.{IsDistinct, list_any, list_all}
use Rattle.std.proofs.lemmas.Bool.{and_parts}
use Rattle.std.proofs.lemmas.Bool.Decides.{Decides-eqb, Decides-or, Decides-by_and}
use Rattle.std.proofs.lemmas.List.Elements.{All-contains}
use Rattle.std.proofs.lemmas.List.Folds.{list_any_at}
use Rattle.std.proofs.lemmas.Slice.Eq.{bytes_eq-Decides}
use Rattle.c_tree.specs.Words.{IsIdentifierByte, IsIdentifier, IsName, subset_words, reserved_words}
use Rattle.c_tree.specs.Rules.{NamesClash}

-- a word that passes a test is none of some words that don't pass it
pub not_among : (test : List ℕ → Bool) (words : List (List ℕ)) (word : List ℕ) → list_any test words ≡ false → test word ≡ true → ¬ Contains words word
not_among test words word none passed among = let some = list_any_at test words among.0 word among.1 (ap test among.2 ∙ passed) in cc

-- a word is none of some from which it differs
pub none_of : (words : List (List ℕ)) (word : List ℕ) → list_any (bytes_eq word) words ≡ false → ¬ Contains words word
none_of words word none = not_among (bytes_eq word) words word none ((bytes_eq-Decides word word).1 refl)

-- names that differ aren't equal
pub names_differ : (a b : List ℕ) → bytes_eq a b ≡ false → a ≢ b
names_differ a b differ same = let equal : bytes_eq a b ≡ true = (bytes_eq-Decides a b).1 same in cc

-- names that aren't equal differ
pub differ_names : (a b : List ℕ) → a ≢ b → bytes_eq a b ≡ false
differ_names a b apart = by (bytes_eq a b) refl
  where
    by : (test : Bool) → bytes_eq a b ≡ test → bytes_eq a b ≡ false
    by true is = absurd (apart ((bytes_eq-Decides a b).0 is))
    by false is = is

-- names that differ, of which none is reserved, don't clash
pub no_clash : (names : List (List ℕ)) → IsDistinct bytes_eq names → All (λ name. ¬ Contains reserved_words name) names → ¬ NamesClash names
no_clash names apart free (inl twice) = twice apart
no_clash names apart free (inr taken) = All-contains (λ name. ¬ Contains reserved_words name) names taken.0 free taken.1 taken.2

-- Names ---------------------------------------------------------------------------------------------------------------

-- whether a byte stands in words
abbrev pub in_word : ℕ → Bool
in_word byte = is_ascii_alphanumeric byte || byte == 95

-- the test says so
pub in_word_decides : (byte : ℕ) → Decides (in_word byte) (IsIdentifierByte byte)
in_word_decides byte = Decides-or (is_ascii_alphanumeric byte) (byte == 95) ((λ is. is), (λ is. is)) (Decides-eqb byte 95)

-- whether a spelling is an identifier
abbrev pub is_word : List ℕ → Bool
is_word [] = false
is_word (byte ∷ bytes) = not (is_ascii_digit byte) && list_all in_word (byte ∷ bytes)

-- where the test passes, it is one
pub word_is : (spelling : List ℕ) → is_word spelling ≡ true → IsIdentifier spelling
word_is [] passes = cc
word_is (byte ∷ bytes) passes =
    let parts = and_parts (not (is_ascii_digit byte)) (list_all in_word (byte ∷ bytes)) passes in
    record {
      bytes = (Decides-by_and in_word IsIdentifierByte (list_all in_word) in_word_decides refl (λ _ _. refl) (byte ∷ bytes)).0 parts.1;
      begins = λ digit. let same : false ≡ true = sym (ap not digit) ∙ parts.0 in cc;
    }

-- a word that has no meaning of its own is a name
pub name_is : (name : List ℕ) → is_word name ≡ true → list_any (bytes_eq name) subset_words ≡ false → IsName name
name_is name word none = record { identifier = word_is name word; free = none_of subset_words name none }
