use Rattle.std.proofs.Common.{◌≡◌, ◌+◌, drop}
use Rattle.sl_token.specs.Spellings.{operator_len}
use Rattle.sl_token.proofs.runs.operator_len.Given as goal

-- the run goes on over the bytes so far and what it takes of the rest
abbrev pub invariant-loop-at : goal.invariant-loop-at
invariant-loop-at l = operator_len l.bytes ≡ l.at + operator_len (drop l.at l.bytes)
