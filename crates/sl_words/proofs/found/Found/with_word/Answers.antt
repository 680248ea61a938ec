-- Behind `--` a word that isn't empty is a file.
use Rattle.std.proofs.Common.{◌≡◌, ℕ, List, [], ◌∷◌, false, ◌==◌, length, option_map, refl}
use Rattle.std.proofs.lemmas.Result.{MatchResult-weaker}
use Rattle.sl_words.specs.WordsReading.{with_file, gathered}
use Rattle.sl_words.specs.declared.found.Place.TheVariants.{BehindDashes}
use Rattle.sl_words.proofs.found.Found.with_word.Goals as goal

-- a word behind `--` that isn't empty is a file before those of the words behind it
named : (word : List ℕ) (words : List (List ℕ)) → (length word == 0) ≡ false → gathered BehindDashes (word ∷ words) ≡ option_map (with_file word) (gathered BehindDashes words)
named [] words some = absurd (cc some)
named (byte ∷ bytes) words some = refl

pub returns-in-BehindDashes : goal.returns-in-BehindDashes
returns-in-BehindDashes c =
    let some : (length c.args.word.now == 0) ≡ false = cc in
    MatchResult-weaker c.with_file.result c.with_file.ensures
    (λ found file words. rw (c.in-BehindDashes.is, named c.args.word.now words some) (rw c.in-BehindDashes.is at (file words))) (λ error none. none)
