use Rattle.std.proofs.Common.{◌≡◌, map, drop}
use Rattle.sl_plain.specs.Reading.{block_of, read_of}
use Rattle.sl_plain.proofs.BodiesRead.{block_behind}
use Rattle.sl_plain.proofs.reading.statements.+read.Given as goal

-- the block is that of the statements so far, and of what is left
abbrev pub invariant-block_of-loop-tree : goal.invariant-block_of-loop-tree
invariant-block_of-loop-tree l = block_of (map (read_of l.feeds) l.trees) ≡ block_behind l.stmts (map (read_of l.feeds) (drop l.tree-index l.trees))
