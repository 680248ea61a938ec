use Rattle.std.proofs.Common.{take}
use Rattle.std.specs.List.{flat_map}
use Rattle.c_tree.specs.Flat.{flat_stmt}
use Rattle.c_write.specs.Written.{Wrote}
use Rattle.c_write.proofs.trees.+write_tree.Given as goal

-- the statements so far were written
abbrev pub invariant-write_block-loop-stmt : goal.invariant-write_block-loop-stmt
invariant-write_block-loop-stmt l = Wrote (flat_map flat_stmt (take l.stmt-index l.stmts)) l.initial.writer l.writer
