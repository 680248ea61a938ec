use Rattle.std.proofs.Common.{◌∙◌, sym}
use Rattle.c_tree.specs.Rules.{recounts}
use Rattle.c_rules.specs.Loops.{names_seen}
use Rattle.c_rules.proofs.Rounds.{any_more, any_all, any_map}
use Rattle.c_rules.proofs.loops.+recounting.Goals as goal

pub block_recounts-loop-stmt-preserved : goal.block_recounts-loop-stmt-preserved
block_recounts-loop-stmt-preserved t c =
    any_more (λ s. recounts s (names_seen c.args.counters.now)) c.args.block.now c.loop-stmt.stmt-index c.stmt-item.result c.loop-stmt.some c.in_ok-recounts.recounts c.either-some.result
    c.loop-stmt-test.true c.stmt-item.is c.loop-stmt.invariant c.in_ok-recounts.ensures c.either-some.ensures

pub block_recounts-returns : goal.block_recounts-returns
block_recounts-returns t c = any_all (λ s. recounts s (names_seen c.args.counters.now)) c.args.block.now c.loop-stmt.stmt-index c.loop-stmt.some c.loop-stmt-test.false c.loop-stmt.invariant ∙ sym (any_map (names_seen c.args.counters.now) c.args.block.now)
