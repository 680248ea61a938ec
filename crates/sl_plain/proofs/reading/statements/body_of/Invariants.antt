use Rattle.std.proofs.Common.{◌≡◌, map, drop}
use Rattle.sl_plain.specs.Reading.{body_of, body_behind, read_of}
use Rattle.sl_plain.proofs.reading.statements.body_of.Given as goal

-- the body is that of the statements and the return so far, and of what is left
abbrev pub invariant-loop-tree : goal.invariant-loop-tree
invariant-loop-tree l = body_of (map (read_of l.feeds) l.trees) ≡ body_behind l.stmts l.returned (map (read_of l.feeds) (drop l.tree-index l.trees))
