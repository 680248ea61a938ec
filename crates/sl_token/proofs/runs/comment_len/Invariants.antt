use Rattle.std.proofs.Common.{◌≡◌, ◌≤◌, ◌+◌, drop}
use Rattle.sl_token.specs.Spellings.{more, comment_len}
use Rattle.sl_token.proofs.runs.comment_len.Given as goal

-- what ends in the rest ends so many bytes further on, and no more comments are open than there were bytes
abbrev pub invariant-loop-at : goal.invariant-loop-at
invariant-loop-at l =
    (1 ≤ l.depth) × (l.depth ≤ l.at + 1) × (comment_len 1 0 l.bytes ≡ more l.at (comment_len l.depth l.before (drop l.at l.bytes)))
