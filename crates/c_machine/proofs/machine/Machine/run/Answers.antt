use Rattle.std.proofs.Common.{refl}
use Rattle.std.specs.Prelude.{Ok, Err}
use Rattle.sl_outside.specs.Sink.{sink_state}
use Rattle.sl_outside.specs.Source.{source_state}
use Rattle.c_machine.specs.Outside.{Outside, outside}
use Rattle.c_machine.specs.Stepped.{ahead}
use Rattle.c_machine.proofs.Together.{ran_on_some_from, run_causes}
use Rattle.c_machine.proofs.machine.Machine.run.Goals as goal

pub returns-in-Ok : goal.returns-in-Ok
returns-in-Ok g c =
    let a : Outside = outside (source_state (g.S.Source.left c.args.input.now) (g.S.Source.faults c.args.input.now) (g.S.Source.calls c.args.input.now)) (sink_state (g.K.Sink.held c.args.out.now) (g.K.Sink.faults c.args.out.now) (g.K.Sink.calls c.args.out.now)) in
    let b : Outside = outside (source_state (g.S.Source.left c.run.new.input) (g.S.Source.faults c.run.new.input) (g.S.Source.calls c.run.new.input)) (sink_state (g.K.Sink.held c.run.new.out) (g.K.Sink.faults c.run.new.out) (g.K.Sink.calls c.run.new.out)) in
    let h = c.in-Ok.ensures {u = tt} in
    rw c.in-Going.is
    (h, ran_on_some_from (Ok c.in-Ok.end) (ahead c.args.self.now.at) c.args.self.now.at.at_end c.run.new.self a b h, run_causes (Ok c.in-Ok.end) (ahead c.args.self.now.at) c.args.self.now.at.at_end c.run.new.self a b h, refl, refl)

pub returns-in-Err : goal.returns-in-Err
returns-in-Err g c =
    let a : Outside = outside (source_state (g.S.Source.left c.args.input.now) (g.S.Source.faults c.args.input.now) (g.S.Source.calls c.args.input.now)) (sink_state (g.K.Sink.held c.args.out.now) (g.K.Sink.faults c.args.out.now) (g.K.Sink.calls c.args.out.now)) in
    let b : Outside = outside (source_state (g.S.Source.left c.run.new.input) (g.S.Source.faults c.run.new.input) (g.S.Source.calls c.run.new.input)) (sink_state (g.K.Sink.held c.run.new.out) (g.K.Sink.faults c.run.new.out) (g.K.Sink.calls c.run.new.out)) in
    let h = c.in-Err.ensures {u = tt} in
    rw c.in-Going.is
    (h, ran_on_some_from (Err c.in-Err.fault) (ahead c.args.self.now.at) c.args.self.now.at.at_end c.run.new.self a b h, run_causes (Err c.in-Err.fault) (ahead c.args.self.now.at) c.args.self.now.at.at_end c.run.new.self a b h, refl, refl)
