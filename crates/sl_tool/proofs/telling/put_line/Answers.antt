use Rattle.std.proofs.Common.{inr}
use Rattle.sl_outside.specs.Sink.{sink_state}
use Rattle.sl_tool.proofs.telling.put_line.Goals as goal

pub returns-in-Err : goal.returns-in-Err
returns-in-Err g c = inr (sink_state (g.N.Sink.held c.put.new.self) (g.N.Sink.faults c.put.new.self) (g.N.Sink.calls c.put.new.self), record { taken = c.in-Err.ensures.taken; cause = c.in-Err.ensures.cause; counted = c.put.ensures.counted }, c.try_line.ensures.tried, c.try_line.ensures.status)
