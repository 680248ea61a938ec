-- A file behind those that were found before stands in front of those that are found behind it.
use Rattle.std.proofs.Common.{◌≡◌, ℕ, List, [], ◌∷◌, ◌++◌, append_assoc, Option, Some, None, refl, option_map}
use Rattle.std.proofs.lemmas.List.{map-append}
use Rattle.sl_words.specs.WordsReading.{Gathered, names_seen, together, with_file, gathered, found_seen}
use Rattle.sl_words.proofs.found.Found.with_file.Goals as goal

-- a file in front of what is found behind may stand at the end of what was found before
file_moved : (options : List (List ℕ × List ℕ)) (files : List (List ℕ)) (file : List ℕ) (behind : Option Gathered)
    → together (record { options = options; files = files }) (option_map (with_file file) behind) ≡ together (record { options = options; files = files ++ file ∷ [] }) behind
file_moved options files file None = refl
file_moved options files file (Some behind) = rw (append_assoc files (file ∷ []) behind.files)

pub returns : goal.returns
returns c = λ words.
    rw (c.in_ok-push.ensures.ok, map-append (λ name. name.now) c.args.self.files (c.args.file ∷ []))
    (file_moved (found_seen c.args.self).options (names_seen c.args.self.files) c.args.file.now (gathered c.args.self.place words))
