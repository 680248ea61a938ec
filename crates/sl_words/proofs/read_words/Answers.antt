-- The command that is found is the one that the words ask for.
use Rattle.std.proofs.Common.{◌≡◌, map, string_bytes, option_map, arith}
use Rattle.std.proofs.lemmas.Grind.{common_steps}
use Rattle.std.specs.Prelude.{IfOk}
use Rattle.sl_words.specs.WordsReading.{command_of, command_seen}
use Rattle.sl_words.proofs.Reading.{read_exactly}
use Rattle.sl_words.proofs.read_words.Goals as goal

pub returns-in-len1-up-clause-exact : goal.returns-in-len1-up-clause-exact
returns-in-len1-up-clause-exact c =
    let read : IfOk c.read_run.result (λ found. command_of (map string_bytes c.args.words.now) ≡ option_map command_seen found) = grind (arith, common_steps) in
    read_exactly (map string_bytes c.args.words.now) c.read_run.result read

pub returns-in-len1-up-2-clause-exact : goal.returns-in-len1-up-2-clause-exact
returns-in-len1-up-2-clause-exact c =
    let read : IfOk c.read_emit.result (λ found. command_of (map string_bytes c.args.words.now) ≡ option_map command_seen found) = grind (arith, common_steps) in
    read_exactly (map string_bytes c.args.words.now) c.read_emit.result read

pub returns-in-len1-up-3-clause-exact : goal.returns-in-len1-up-3-clause-exact
returns-in-len1-up-3-clause-exact c =
    let read : IfOk c.read_check.result (λ found. command_of (map string_bytes c.args.words.now) ≡ option_map command_seen found) = grind (arith, common_steps) in
    read_exactly (map string_bytes c.args.words.now) c.read_check.result read
