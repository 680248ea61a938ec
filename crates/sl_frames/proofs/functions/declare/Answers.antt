use Rattle.sl_frames.proofs.Counted.{declares_more}
use Rattle.sl_frames.proofs.functions.declare.Goals as goal

pub loop-number-preserved : goal.loop-number-preserved
loop-number-preserved c =
    declares_more c.args.text.now c.args.vars.now c.loop-number.vars c.push.new.self c.loop-number.number c.in_ok-numbered.field-0 c.loop-number.invariant c.in_ok-numbered.ensures
    c.in_ok-push.ensures.ok
