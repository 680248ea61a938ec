use Rattle.std.proofs.Common.{take}
use Rattle.std.specs.List.{flat_map}
use Rattle.c_tree.specs.Flat.{flat_var, flat_stmt}
use Rattle.c_write.specs.Written.{Wrote}
use Rattle.c_write.proofs.trees.write_function.Given as goal

-- the variables so far were written
abbrev pub invariant-loop-var : goal.invariant-loop-var
invariant-loop-var l = Wrote (flat_map flat_var (take l.var-index l.var-items)) l.initial.writer l.writer

-- the statements so far were written
abbrev pub invariant-loop-stmt : goal.invariant-loop-stmt
invariant-loop-stmt l = Wrote (flat_map flat_stmt (take l.stmt-index l.stmt-items)) l.initial.writer l.writer
