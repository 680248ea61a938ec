use Rattle.std.proofs.Common.{◌+◌, ◌-◌, ◌≤◌, length}
use Rattle.sl_tree.specs.Sorts.{spelled}
use Rattle.sl_parse_expr.proofs.Skipping.{Taken}
use Rattle.sl_parse_expr.proofs.skips.group.Given as goal

abbrev pub invariant-loop-last : goal.invariant-loop-last
invariant-loop-last l = record {
  taken : Taken l.bytes l.tokens l.start l.at (spelled l.bytes l.first) l.«open» l.all l.last;
  low : l.start + 2 ≤ l.at;
  high : l.at ≤ length l.tokens;
}

abbrev pub decreases-loop-last : goal.decreases-loop-last
decreases-loop-last l = length l.tokens - l.at
