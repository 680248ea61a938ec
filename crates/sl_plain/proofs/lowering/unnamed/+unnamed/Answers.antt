use Rattle.std.proofs.Common.{max, ap₂, sym, ◌∙◌}
use Rattle.sl_plain.proofs.Unnamed.{unnamed_more}
use Rattle.sl_plain.proofs.lowering.unnamed.+unnamed.Goals as goal

pub count_unnamed-loop-stmt-preserved : goal.count_unnamed-loop-stmt-preserved
count_unnamed-loop-stmt-preserved t c =
    c.max-most.ensures
    ∙ (ap₂ max c.loop-stmt.invariant c.in_ok-count_in.ensures
    ∙ sym (unnamed_more c.args.stmts.now c.loop-stmt.stmt-index c.stmt-item.result c.stmt-item.result c.loop-stmt-test.true c.stmt-item.is))
