-- What stands behind a `=` is the value; with no `=` the word is no option.
use Rattle.std.proofs.Common.{◌≡◌, ◌≢◌, ℕ, List, [], ◌∷◌, Bool, true, false, ◌==◌, refl, ap, length, rules, lit<}
use Rattle.std.proofs.lemmas.Bool.Decides.{Decides-eqb}
use Rattle.std.proofs.lemmas.Str.Pattern.{strip_prefix_char}
use Rattle.sl_words.specs.WordsReading.{IsOther, turns_kind}
use Rattle.sl_words.proofs.kinds.turns_kind.Goals as goal

-- with no `=` at the front the word is no option
no_equals : (bytes : List ℕ) → (length bytes == 0) ≡ false → ((others : List ℕ) → bytes ≢ 61 ∷ others) → turns_kind bytes ≡ IsOther
no_equals [] some h = absurd (cc some)
no_equals (byte ∷ bytes) some h = at (byte == 61) refl
  where
    at : (t : Bool) → (byte == 61) ≡ t → turns_kind (byte ∷ bytes) ≡ IsOther
    at true e = absurd (h bytes (ap (λ b. b ∷ bytes) ((Decides-eqb byte 61).0 e)))
    at false e = rw e

pub returns-in-None : goal.returns-in-None
returns-in-None c =
    no_equals c.args.rest.now (search rules)
    (rw c.in-None.is at (strip_prefix_char 61 c.args.rest.now c.strip_prefix.result c.strip_prefix.ensures.cases (lit< tt)))
