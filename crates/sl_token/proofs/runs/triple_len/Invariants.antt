use Rattle.std.proofs.Common.{◌≡◌, ◌≤◌, drop}
use Rattle.sl_token.specs.Spellings.{more, triple_len}
use Rattle.sl_token.proofs.runs.triple_len.Given as goal

-- what ends in the rest ends so many bytes further on
abbrev pub invariant-loop-at : goal.invariant-loop-at
invariant-loop-at l = (l.marks ≤ 2) × (triple_len 0 l.bytes ≡ more l.at (triple_len l.marks (drop l.at l.bytes)))
