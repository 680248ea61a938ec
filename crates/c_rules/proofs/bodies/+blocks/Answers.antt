use Rattle.c_rules.specs.Bodies.{of_stmt, rule_of}
use Rattle.c_rules.proofs.Walks.{least_more}
use Rattle.c_rules.proofs.bodies.+blocks.Goals as goal

pub of_block-loop-stmt-preserved : goal.of_block-loop-stmt-preserved
of_block-loop-stmt-preserved t c =
    least_more (of_stmt (rule_of c.args.around.now.file.now c.args.around.now.earlier.now c.args.around.now.function.now))
    c.args.block.now c.loop-stmt.stmt-index c.stmt-item.result c.loop-stmt.best c.of_stmt.result c.least-best.result
    c.loop-stmt-test.true c.stmt-item.is c.loop-stmt.invariant c.of_stmt.ensures c.least-best.ensures
