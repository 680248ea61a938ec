use Rattle.sl_outside.proofs.Streams.{writes_on}
use Rattle.sl_outside.proofs.adapters.streams.write_whole.Goals as goal

pub loop-rest-preserved : goal.loop-rest-preserved
loop-rest-preserved g c = writes_on _ _ _ _ _ c.in_ok-count.count c.loop-rest.invariant c.in_ok-count.ensures.bytes
