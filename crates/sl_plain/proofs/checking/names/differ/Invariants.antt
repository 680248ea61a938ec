use Rattle.std.proofs.Common.{◌≡◌, drop}
use Rattle.sl_plain.specs.Checking.{are_distinct}
use Rattle.sl_plain.proofs.Checked.Seen.{distinct_behind, is_in}
use Rattle.sl_plain.proofs.checking.names.differ.Given as goal

-- the names differ where those that are left do, from one another and from those before
abbrev pub invariant-loop-name : goal.invariant-loop-name
invariant-loop-name l = are_distinct l.names ≡ distinct_behind (is_in l.seen) (drop l.name-index l.names)
