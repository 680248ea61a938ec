use Rattle.std.proofs.Common.{take, flat_map}
use Rattle.sl_plain.specs.Reach.{AreLines, lines_in}
use Rattle.sl_plain.specs.Numbering.{IsBy, lowered_all}
use Rattle.sl_plain.proofs.lowering.statements.+lower.Given as goal

-- the statements so far were lowered
abbrev pub invariant-lower_block-loop-stmt : goal.invariant-lower_block-loop-stmt
invariant-lower_block-loop-stmt l = IsBy l.variables (λ names. lowered_all names (take l.stmt-index l.stmts) l.taken) l.low × AreLines (flat_map lines_in (take l.stmt-index l.stmts))
