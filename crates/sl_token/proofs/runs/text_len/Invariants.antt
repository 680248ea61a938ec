use Rattle.std.proofs.Common.{◌≡◌, ◌+◌, false, drop}
use Rattle.sl_token.specs.Spellings.{text_len}
use Rattle.sl_token.proofs.runs.text_len.Given as goal

-- the run goes on over the bytes so far and what it takes of the rest
abbrev pub invariant-loop-at : goal.invariant-loop-at
invariant-loop-at l = text_len false l.bytes ≡ l.at + text_len l.escaped (drop l.at l.bytes)
