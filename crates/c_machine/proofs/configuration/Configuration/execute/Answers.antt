use Rattle.sl_outside.specs.Sink.{sink_state}
use Rattle.sl_outside.specs.Source.{source_state}
use Rattle.c_machine.specs.Outside.{Outside, outside}
use Rattle.c_machine.proofs.Executing.{undefined_stops, break_goes, halt_stops}
use Rattle.c_machine.proofs.configuration.Configuration.execute.Goals as goal

pub returns-in-Assign : goal.returns-in-Assign
returns-in-Assign g c =
    let a : Outside = outside (source_state (g.S.Source.left c.args.input.now) (g.S.Source.faults c.args.input.now) (g.S.Source.calls c.args.input.now)) (sink_state (g.K.Sink.held c.args.out.now) (g.K.Sink.faults c.args.out.now) (g.K.Sink.calls c.args.out.now)) in
    rw c.in-Assign.is (c.assign.ensures a)

pub returns-in-Call : goal.returns-in-Call
returns-in-Call g c =
    let a : Outside = outside (source_state (g.S.Source.left c.args.input.now) (g.S.Source.faults c.args.input.now) (g.S.Source.calls c.args.input.now)) (sink_state (g.K.Sink.held c.args.out.now) (g.K.Sink.faults c.args.out.now) (g.K.Sink.calls c.args.out.now)) in
    rw c.in-Call.is (rw c.as_slice.ensures at (c.call.ensures a))

pub returns-in_ok-body-in-Inline : goal.returns-in_ok-body-in-Inline
returns-in_ok-body-in-Inline g c =
    let a : Outside = outside (source_state (g.S.Source.left c.args.input.now) (g.S.Source.faults c.args.input.now) (g.S.Source.calls c.args.input.now)) (sink_state (g.K.Sink.held c.args.out.now) (g.K.Sink.faults c.args.out.now) (g.K.Sink.calls c.args.out.now)) in
    rw c.in-Inline.is (rw (c.as_slice-in-Inline.ensures, c.in_ok-body-in-Inline.ensures) at (c.call_inline.ensures a))

pub returns-in-Undefined : goal.returns-in-Undefined
returns-in-Undefined g c =
    let a : Outside = outside (source_state (g.S.Source.left c.args.input.now) (g.S.Source.faults c.args.input.now) (g.S.Source.calls c.args.input.now)) (sink_state (g.K.Sink.held c.args.out.now) (g.K.Sink.faults c.args.out.now) (g.K.Sink.calls c.args.out.now)) in
    rw (c.in-Undefined.is, c.stuck.ensures) (undefined_stops c.args.self.now a)

pub returns-in-If : goal.returns-in-If
returns-in-If g c =
    let a : Outside = outside (source_state (g.S.Source.left c.args.input.now) (g.S.Source.faults c.args.input.now) (g.S.Source.calls c.args.input.now)) (sink_state (g.K.Sink.held c.args.out.now) (g.K.Sink.faults c.args.out.now) (g.K.Sink.calls c.args.out.now)) in
    rw c.in-If.is (c.choose.ensures a)

pub returns-in-Return : goal.returns-in-Return
returns-in-Return g c =
    let a : Outside = outside (source_state (g.S.Source.left c.args.input.now) (g.S.Source.faults c.args.input.now) (g.S.Source.calls c.args.input.now)) (sink_state (g.K.Sink.held c.args.out.now) (g.K.Sink.faults c.args.out.now) (g.K.Sink.calls c.args.out.now)) in
    rw c.in-Return.is (c.return_with.ensures a)

pub returns-in-Put : goal.returns-in-Put
returns-in-Put g c = rw c.in-Put.is (c.put.ensures (source_state (g.S.Source.left c.args.input.now) (g.S.Source.faults c.args.input.now) (g.S.Source.calls c.args.input.now)))

pub returns-in-Get : goal.returns-in-Get
returns-in-Get g c = rw c.in-Get.is (c.get.ensures (sink_state (g.K.Sink.held c.args.out.now) (g.K.Sink.faults c.args.out.now) (g.K.Sink.calls c.args.out.now)))

pub returns-in-Loop : goal.returns-in-Loop
returns-in-Loop g c =
    let a : Outside = outside (source_state (g.S.Source.left c.args.input.now) (g.S.Source.faults c.args.input.now) (g.S.Source.calls c.args.input.now)) (sink_state (g.K.Sink.held c.args.out.now) (g.K.Sink.faults c.args.out.now) (g.K.Sink.calls c.args.out.now)) in
    rw c.in-Loop.is (c.begin_loop.ensures a)

pub returns-in-Count : goal.returns-in-Count
returns-in-Count g c =
    let a : Outside = outside (source_state (g.S.Source.left c.args.input.now) (g.S.Source.faults c.args.input.now) (g.S.Source.calls c.args.input.now)) (sink_state (g.K.Sink.held c.args.out.now) (g.K.Sink.faults c.args.out.now) (g.K.Sink.calls c.args.out.now)) in
    rw c.in-Count.is (c.begin_rounds.ensures a)

pub returns-in-Break : goal.returns-in-Break
returns-in-Break g c =
    let a : Outside = outside (source_state (g.S.Source.left c.args.input.now) (g.S.Source.faults c.args.input.now) (g.S.Source.calls c.args.input.now)) (sink_state (g.K.Sink.held c.args.out.now) (g.K.Sink.faults c.args.out.now) (g.K.Sink.calls c.args.out.now)) in
    rw c.in-Break.is (break_goes c.args.self.now a)

pub returns-in-Halt : goal.returns-in-Halt
returns-in-Halt g c =
    let a : Outside = outside (source_state (g.S.Source.left c.args.input.now) (g.S.Source.faults c.args.input.now) (g.S.Source.calls c.args.input.now)) (sink_state (g.K.Sink.held c.args.out.now) (g.K.Sink.faults c.args.out.now) (g.K.Sink.calls c.args.out.now)) in
    rw c.in-Halt.is (halt_stops c.args.self.now c.in-Halt.kind c.in-Halt.file c.in-Halt.line a)
