use Rattle.std.proofs.Common.{arith}
use Rattle.sl_outside.specs.Sink.{sink_state}
use Rattle.sl_outside.specs.Source.{source_state}
use Rattle.c_machine.specs.Outside.{Outside, outside}
use Rattle.std.specs.Prelude.{Ok, Err}
use Rattle.c_machine.specs.Stepped.{ahead}
use Rattle.c_machine.proofs.Together.{reaches_none, reaches_then, ran_then, ran_fault}
use Rattle.c_machine.proofs.configuration.Configuration.run.Goals as goal

pub loop-end-init : goal.loop-end-init
loop-end-init g c =
    let a : Outside = outside (source_state (g.S.Source.left c.args.input.now) (g.S.Source.faults c.args.input.now) (g.S.Source.calls c.args.input.now)) (sink_state (g.K.Sink.held c.args.out.now) (g.K.Sink.faults c.args.out.now) (g.K.Sink.calls c.args.out.now)) in
    reaches_none c.args.self.now a

pub returns-in_err-end : goal.returns-in_err-end
returns-in_err-end g c =
    let a : Outside = outside (source_state (g.S.Source.left c.args.input.now) (g.S.Source.faults c.args.input.now) (g.S.Source.calls c.args.input.now)) (sink_state (g.K.Sink.held c.args.out.now) (g.K.Sink.faults c.args.out.now) (g.K.Sink.calls c.args.out.now)) in
    let b : Outside = outside (source_state (g.S.Source.left c.loop-end.input) (g.S.Source.faults c.loop-end.input) (g.S.Source.calls c.loop-end.input)) (sink_state (g.K.Sink.held c.loop-end.out) (g.K.Sink.faults c.loop-end.out) (g.K.Sink.calls c.loop-end.out)) in
    let d : Outside = outside (source_state (g.S.Source.left c.to_turn.new.input) (g.S.Source.faults c.to_turn.new.input) (g.S.Source.calls c.to_turn.new.input)) (sink_state (g.K.Sink.held c.to_turn.new.out) (g.K.Sink.faults c.to_turn.new.out) (g.K.Sink.calls c.to_turn.new.out)) in
    ran_fault c.from_residual.result c.in_err-end.field-0.0 (ahead c.args.self.now) c.args.self.now.at_end c.to_turn.new.self a d c.from_residual.ensures.1
    (ran_then (ahead c.args.self.now) c.args.self.now.at_end c.loop-end.self a b c.loop-end.invariant (Err c.in_err-end.field-0.0) c.to_turn.new.self d (c.in_err-end.ensures {u = tt}))

pub returns-in-Ended : goal.returns-in-Ended
returns-in-Ended g c =
    let a : Outside = outside (source_state (g.S.Source.left c.args.input.now) (g.S.Source.faults c.args.input.now) (g.S.Source.calls c.args.input.now)) (sink_state (g.K.Sink.held c.args.out.now) (g.K.Sink.faults c.args.out.now) (g.K.Sink.calls c.args.out.now)) in
    let b : Outside = outside (source_state (g.S.Source.left c.loop-end.input) (g.S.Source.faults c.loop-end.input) (g.S.Source.calls c.loop-end.input)) (sink_state (g.K.Sink.held c.loop-end.out) (g.K.Sink.faults c.loop-end.out) (g.K.Sink.calls c.loop-end.out)) in
    let d : Outside = outside (source_state (g.S.Source.left c.to_turn.new.input) (g.S.Source.faults c.to_turn.new.input) (g.S.Source.calls c.to_turn.new.input)) (sink_state (g.K.Sink.held c.to_turn.new.out) (g.K.Sink.faults c.to_turn.new.out) (g.K.Sink.calls c.to_turn.new.out)) in
    ran_then (ahead c.args.self.now) c.args.self.now.at_end c.loop-end.self a b c.loop-end.invariant (Ok c.in-Ended.end) c.to_turn.new.self d (rw c.in-Ended.is at (c.in_ok-end.ensures {u = tt}))

pub loop-end-preserved : goal.loop-end-preserved
loop-end-preserved g c =
    let a : Outside = outside (source_state (g.S.Source.left c.args.input.now) (g.S.Source.faults c.args.input.now) (g.S.Source.calls c.args.input.now)) (sink_state (g.K.Sink.held c.args.out.now) (g.K.Sink.faults c.args.out.now) (g.K.Sink.calls c.args.out.now)) in
    let b : Outside = outside (source_state (g.S.Source.left c.loop-end.input) (g.S.Source.faults c.loop-end.input) (g.S.Source.calls c.loop-end.input)) (sink_state (g.K.Sink.held c.loop-end.out) (g.K.Sink.faults c.loop-end.out) (g.K.Sink.calls c.loop-end.out)) in
    let d : Outside = outside (source_state (g.S.Source.left c.to_turn.new.input) (g.S.Source.faults c.to_turn.new.input) (g.S.Source.calls c.to_turn.new.input)) (sink_state (g.K.Sink.held c.to_turn.new.out) (g.K.Sink.faults c.to_turn.new.out) (g.K.Sink.calls c.to_turn.new.out)) in
    reaches_then (ahead c.args.self.now) c.args.self.now.at_end c.loop-end.self a b c.loop-end.invariant c.to_turn.new.self d (rw c.in_default.is at (c.in_ok-end.ensures {u = tt})).0

pub loop-end-smaller : goal.loop-end-smaller
loop-end-smaller g c =
    let left = (rw c.in_default.is at (c.in_ok-end.ensures {u = tt})).1 in
    omega (arith, left)
