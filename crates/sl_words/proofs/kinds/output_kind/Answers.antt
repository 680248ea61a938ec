-- A `=` at the front is taken off; what is left is the value.
use Rattle.std.proofs.Common.{◌≡◌, ◌≢◌, ◌∙◌, ℕ, List, [], ◌∷◌, Bool, true, false, ◌==◌, Option, Some, None, Bor, refl, ap, length, rules, lit<}
use Rattle.std.specs.Prelude.{MatchOption}
use Rattle.std.specs.Option.{unwrap_or}
use Rattle.std.proofs.lemmas.Bool.Decides.{Decides-eqb}
use Rattle.std.proofs.lemmas.Str.Pattern.{strip_prefix_char}
use Rattle.sl_words.specs.WordsReading.{HasValue, output_kind}
use Rattle.sl_words.specs.declared.kinds.Valued.TheVariants.{Output}
use Rattle.sl_words.proofs.kinds.output_kind.Goals as goal

-- with no `=` at the front the value is all that stands there
no_equals : (bytes : List ℕ) → (length bytes == 0) ≡ false → ((others : List ℕ) → bytes ≢ 61 ∷ others) → output_kind bytes ≡ HasValue Output bytes
no_equals [] some h = absurd (cc some)
no_equals (byte ∷ bytes) some h = at (byte == 61) refl
  where
    at : (t : Bool) → (byte == 61) ≡ t → output_kind (byte ∷ bytes) ≡ HasValue Output (byte ∷ bytes)
    at true e = absurd (h bytes (ap (λ b. b ∷ bytes) ((Decides-eqb byte 61).0 e)))
    at false e = rw e

-- the value, by whether a `=` was there to be taken off
stripped : (rest : Bor (List ℕ)) (found : Option (Bor (List ℕ))) → (length rest.now == 0) ≡ false → MatchOption found ((others : List ℕ) → rest.now ≢ 61 ∷ others) (λ bytes. rest.now ≡ 61 ∷ bytes.now) → output_kind rest.now ≡ HasValue Output (unwrap_or found rest).now
stripped rest None some h = no_equals rest.now some h
stripped rest (Some bytes) some h = ap output_kind h

pub returns-else-is_empty : goal.returns-else-is_empty
returns-else-is_empty c =
    stripped c.args.rest c.strip_prefix.result (search rules) (strip_prefix_char 61 c.args.rest.now c.strip_prefix.result c.strip_prefix.ensures.cases (lit< tt))
    ∙ rw (← c.unwrap_or.ensures) refl
