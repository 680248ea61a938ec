-- What was found so far, read on over the words that are left, is what all words give.
use Rattle.std.proofs.Common.{◌≡◌, map, drop, string_bytes}
use Rattle.sl_words.specs.WordsReading.{gathered, together, nothing, read_on}
use Rattle.sl_words.specs.declared.found.Place.TheVariants.{Among}
use Rattle.sl_words.proofs.found.found_in.Given as goal

abbrev pub invariant-loop-word : goal.invariant-loop-word
invariant-loop-word l = together nothing (gathered Among (map string_bytes l.words)) ≡ read_on l.found (map string_bytes (drop l.word-index l.words))
