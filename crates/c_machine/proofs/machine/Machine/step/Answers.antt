use Rattle.std.proofs.Common.{refl}
use Rattle.sl_outside.specs.Sink.{sink_state}
use Rattle.sl_outside.specs.Source.{source_state}
use Rattle.c_machine.specs.Outside.{Outside, outside}
use Rattle.c_machine.specs.Stepped.{ahead, work}
use Rattle.c_machine.proofs.Together.{step_causes}
use Rattle.c_machine.proofs.machine.Machine.step.Goals as goal

pub returns-in-Going : goal.returns-in-Going
returns-in-Going g c =
    let a : Outside = outside (source_state (g.S.Source.left c.args.input.now) (g.S.Source.faults c.args.input.now) (g.S.Source.calls c.args.input.now)) (sink_state (g.K.Sink.held c.args.out.now) (g.K.Sink.faults c.args.out.now) (g.K.Sink.calls c.args.out.now)) in
    let b : Outside = outside (source_state (g.S.Source.left c.advance-answer.new.input) (g.S.Source.faults c.advance-answer.new.input) (g.S.Source.calls c.advance-answer.new.input)) (sink_state (g.K.Sink.held c.advance-answer.new.out) (g.K.Sink.faults c.advance-answer.new.out) (g.K.Sink.calls c.advance-answer.new.out)) in
    let at = c.args.self.now.at in
    rw c.in-Going.is (c.advance-answer.ensures, step_causes c.advance-answer.result (ahead at) (work at.control) at.left at.at_end c.advance-answer.new.self a b c.advance-answer.ensures, c.standing_after-self.ensures, refl)
