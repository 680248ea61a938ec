use Rattle.std.proofs.Common.{◌≡◌}
use Rattle.sl_outside.specs.Sink.{sink_state}
use Rattle.sl_outside.specs.Source.{source_state}
use Rattle.c_machine.specs.Outside.{outside}
use Rattle.c_machine.specs.Stepped.{ahead, work}
use Rattle.c_machine.specs.Ran.{Reaches}
use Rattle.c_machine.proofs.configuration.Configuration.to_turn.Given as goal

abbrev pub invariant-loop-end : goal.invariant-loop-end
invariant-loop-end g l =
    Reaches (ahead l.fn.self) l.fn.self.at_end l.self (outside (source_state (g.S.Source.left l.fn.input) (g.S.Source.faults l.fn.input) (g.S.Source.calls l.fn.input)) (sink_state (g.K.Sink.held l.fn.out) (g.K.Sink.faults l.fn.out) (g.K.Sink.calls l.fn.out))) (outside (source_state (g.S.Source.left l.input) (g.S.Source.faults l.input) (g.S.Source.calls l.input)) (sink_state (g.K.Sink.held l.out) (g.K.Sink.faults l.out) (g.K.Sink.calls l.out)))
    × (l.self.left ≡ l.left) × (l.left ≡ l.fn.self.left)

abbrev pub decreases-loop-end : goal.decreases-loop-end
decreases-loop-end g l = work l.self.control
