use Rattle.std.proofs.Common.{◌≡◌, ◌≤◌, ◌+◌, ◌-◌, length, drop}
use Rattle.sl_token.specs.Spellings.{name_len}
use Rattle.sl_token.proofs.runs.name_len.Given as goal

-- the run goes on over the bytes so far and what it takes of the rest
abbrev pub invariant-loop-len : goal.invariant-loop-len
invariant-loop-len l = (l.len ≤ length l.bytes) × (name_len 0 l.bytes ≡ l.len + name_len 0 (drop l.len l.bytes))

abbrev pub decreases-loop-len : goal.decreases-loop-len
decreases-loop-len l = length l.bytes - l.len
