-- `check` has no option, so it may be asked first whether there is more than one.
use Rattle.std.proofs.Common.{◌≡◌, ◌∙◌, Option, refl, ap, map, string_bytes, option_map}
use Rattle.std.specs.Option.{option_and_then}
use Rattle.sl_words.specs.WordsReading.{Gathered, gathered, together, nothing, found_seen, check_given}
use Rattle.sl_words.specs.declared.found.Place.TheVariants.{Among}
use Rattle.sl_words.proofs.Sole.{of_found, found_together}
use Rattle.sl_words.proofs.read_check.Goals as goal

-- what is found may be put together first
check_together : (found : Option Gathered) → option_and_then (of_found check_given) found ≡ option_and_then (of_found check_given) (together nothing found)
check_together found = found_together check_given (λ option other options files. refl) found

pub returns-in_default : goal.returns-in_default
returns-in_default c =
    check_together (gathered Among (map string_bytes c.args.words.now))
    ∙ ap (λ found. option_and_then (of_found check_given) found) (c.in_ok-found.ensures ∙ ap (λ found. option_map found_seen found) c.in_default.is)

pub returns : goal.returns
returns c =
    check_together (gathered Among (map string_bytes c.args.words.now))
    ∙ ap (λ found. option_and_then (of_found check_given) found) (c.in_ok-found.ensures ∙ ap (λ found. option_map found_seen found) c.in-Some.is)
    ∙ c.check_given.ensures
