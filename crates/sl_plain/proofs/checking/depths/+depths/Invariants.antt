use Rattle.std.proofs.Common.{◌≡◌, nat_le, map, drop}
use Rattle.sl_plain.specs.Program.{depth, deepest}
use Rattle.sl_plain.proofs.checking.depths.+depths.Given as goal

-- all statements are at most so deep where those that are left are
abbrev pub invariant-are_within-loop-stmt : goal.invariant-are_within-loop-stmt
invariant-are_within-loop-stmt l = nat_le (deepest (map depth l.stmts)) l.most ≡ nat_le (deepest (map depth (drop l.stmt-index l.stmts))) l.most
