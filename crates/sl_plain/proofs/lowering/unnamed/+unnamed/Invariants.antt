use Rattle.std.proofs.Common.{◌≡◌, map, take}
use Rattle.sl_plain.specs.Program.{deepest}
use Rattle.sl_plain.specs.Lowered.{unnamed_in}
use Rattle.sl_plain.proofs.lowering.unnamed.+unnamed.Given as goal

-- the most that the statements so far need
abbrev pub invariant-count_unnamed-loop-stmt : goal.invariant-count_unnamed-loop-stmt
invariant-count_unnamed-loop-stmt l = l.most ≡ deepest (map unnamed_in (take l.stmt-index l.stmts))
