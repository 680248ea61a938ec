use Rattle.std.proofs.Common.{◌∙◌, sym}
use Rattle.c_tree.specs.Rules.{strays}
use Rattle.c_rules.proofs.Rounds.{any_more, any_all, some_map}
use Rattle.c_rules.proofs.loops.+straying.Goals as goal

pub block_strays-loop-stmt-preserved : goal.block_strays-loop-stmt-preserved
block_strays-loop-stmt-preserved t c =
    any_more strays c.args.block.now c.loop-stmt.stmt-index c.stmt-item.result c.loop-stmt.some c.stmt_strays-strays.result c.either-some.result
    c.loop-stmt-test.true c.stmt-item.is c.loop-stmt.invariant c.stmt_strays-strays.ensures c.either-some.ensures

pub block_strays-returns : goal.block_strays-returns
block_strays-returns t c = any_all strays c.args.block.now c.loop-stmt.stmt-index c.loop-stmt.some c.loop-stmt-test.false c.loop-stmt.invariant ∙ sym (some_map strays c.args.block.now)
