use Rattle.std.proofs.Common.{take}
use Rattle.std.specs.List.{flat_map}
use Rattle.c_tree.specs.Flat.{flat_struct, flat_global, flat_proto, flat_function}
use Rattle.c_write.specs.Written.{Wrote}
use Rattle.c_write.proofs.trees.write_file.Given as goal

-- the structs so far were written
abbrev pub invariant-loop-item : goal.invariant-loop-item
invariant-loop-item l = Wrote (flat_map flat_struct (take l.item-index l.item-items)) l.initial.writer l.writer

-- the globals so far were written
abbrev pub invariant-loop-global : goal.invariant-loop-global
invariant-loop-global l = Wrote (flat_map flat_global (take l.global-index l.global-items)) l.initial.writer l.writer

-- the prototypes so far were written
abbrev pub invariant-loop-proto : goal.invariant-loop-proto
invariant-loop-proto l = Wrote (flat_map flat_proto (take l.proto-index l.proto-items)) l.initial.writer l.writer

-- the functions so far were written
abbrev pub invariant-loop-function : goal.invariant-loop-function
invariant-loop-function l = Wrote (flat_map flat_function (take l.function-index l.function-items)) l.initial.writer l.writer
