-- A command that takes at most one option may be asked first whether there are more.
use Rattle.std.proofs.Common.{◌≡◌, ℕ, List, [], ◌∷◌, Option, Some, None, refl}
use Rattle.std.specs.Option.{option_and_then}
use Rattle.sl_words.specs.Words.{Command}
use Rattle.sl_words.specs.WordsReading.{Gathered, together, nothing, sole}

module _ (given : List (List ℕ × List ℕ) → List (List ℕ) → Option Command) where
  -- the command of what was found
  abbrev pub of_found : Gathered → Option Command
  of_found found = given found.options found.files

  module _ (refuses : (option other : List ℕ × List ℕ) (options : List (List ℕ × List ℕ)) (files : List (List ℕ)) → given (option ∷ other ∷ options) files ≡ None) where
    -- more than one option make none
    sole_given : (options : List (List ℕ × List ℕ)) (files : List (List ℕ)) → given options files ≡ option_and_then of_found (sole options files)
    sole_given [] files = refl
    sole_given (option ∷ []) files = refl
    sole_given (option ∷ other ∷ options) files = refuses option other options files

    -- so it may be asked first
    pub found_together : (found : Option Gathered) → option_and_then of_found found ≡ option_and_then of_found (together nothing found)
    found_together None = refl
    found_together (Some found) = sole_given found.options found.files
