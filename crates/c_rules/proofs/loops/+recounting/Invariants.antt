use Rattle.std.proofs.Common.{◌≡◌, take}
use Rattle.std.specs.List.{list_any}
use Rattle.c_tree.specs.Rules.{recounts}
use Rattle.c_rules.specs.Loops.{names_seen}
use Rattle.c_rules.proofs.loops.+recounting.Given as goal

-- the statements so far were looked at
abbrev pub invariant-block_recounts-loop-stmt : goal.invariant-block_recounts-loop-stmt
invariant-block_recounts-loop-stmt l = l.some ≡ list_any (λ s. recounts s (names_seen l.counters)) (take l.stmt-index l.block)
