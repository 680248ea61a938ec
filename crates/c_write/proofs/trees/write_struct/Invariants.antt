use Rattle.std.proofs.Common.{take}
use Rattle.std.specs.List.{flat_map}
use Rattle.c_tree.specs.Flat.{flat_member}
use Rattle.c_write.specs.Written.{Wrote}
use Rattle.c_write.proofs.trees.write_struct.Given as goal

-- the members so far were written
abbrev pub invariant-loop-member : goal.invariant-loop-member
invariant-loop-member l = Wrote (flat_map flat_member (take l.member-index l.member-items)) l.initial.writer l.writer
