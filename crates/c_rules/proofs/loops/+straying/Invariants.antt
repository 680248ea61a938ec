use Rattle.std.proofs.Common.{◌≡◌, take}
use Rattle.std.specs.List.{list_any}
use Rattle.c_tree.specs.Rules.{strays}
use Rattle.c_rules.proofs.loops.+straying.Given as goal

-- the statements so far were looked at
abbrev pub invariant-block_strays-loop-stmt : goal.invariant-block_strays-loop-stmt
invariant-block_strays-loop-stmt l = l.some ≡ list_any strays (take l.stmt-index l.block)
