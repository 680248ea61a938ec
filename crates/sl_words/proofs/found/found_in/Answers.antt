-- What a word gives is read on over the words behind it; one that is wrong has no reading, whatever words those are.
use Rattle.std.proofs.Common.{◌+◌, arith, map, drop, string_bytes}
use Rattle.std.proofs.lemmas.Grind.{common_steps}
use Rattle.sl_words.proofs.found.found_in.Goals as goal

pub returns-in_default : goal.returns-in_default
returns-in_default c =
    let wrong = c.in_ok-next.ensures (map string_bytes (drop (c.loop-word.word-index + 1) c.args.words.now)) in
    grind (arith, common_steps, wrong)

pub loop-word-preserved : goal.loop-word-preserved
loop-word-preserved c =
    let read = c.in_ok-next.ensures (map string_bytes (drop (c.loop-word.word-index + 1) c.args.words.now)) in
    grind (arith, common_steps, read)
