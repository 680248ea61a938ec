-- `emit` has one option, so it may be asked first whether there are more.
use Rattle.std.proofs.Common.{◌≡◌, ◌∙◌, Option, refl, ap, map, string_bytes, option_map}
use Rattle.std.specs.Option.{option_and_then}
use Rattle.sl_words.specs.WordsReading.{Gathered, gathered, together, nothing, found_seen, emit_given}
use Rattle.sl_words.specs.declared.found.Place.TheVariants.{Among}
use Rattle.sl_words.proofs.Sole.{of_found, found_together}
use Rattle.sl_words.proofs.read_emit.Goals as goal

-- what is found may be put together first
emit_together : (found : Option Gathered) → option_and_then (of_found emit_given) found ≡ option_and_then (of_found emit_given) (together nothing found)
emit_together found = found_together emit_given (λ option other options files. refl) found

pub returns-in_default : goal.returns-in_default
returns-in_default c =
    emit_together (gathered Among (map string_bytes c.args.words.now))
    ∙ ap (λ found. option_and_then (of_found emit_given) found) (c.in_ok-found.ensures ∙ ap (λ found. option_map found_seen found) c.in_default.is)

pub returns : goal.returns
returns c =
    emit_together (gathered Among (map string_bytes c.args.words.now))
    ∙ ap (λ found. option_and_then (of_found emit_given) found) (c.in_ok-found.ensures ∙ ap (λ found. option_map found_seen found) c.in-Some.is)
    ∙ c.emit_given.ensures
