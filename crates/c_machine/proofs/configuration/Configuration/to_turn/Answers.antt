use Rattle.std.proofs.Common.{sym, ◌∙◌, refl}
use Rattle.sl_outside.specs.Sink.{sink_state}
use Rattle.sl_outside.specs.Source.{source_state}
use Rattle.c_machine.specs.Outside.{Outside, outside}
use Rattle.c_machine.specs.Stepped.{ahead, work}
use Rattle.c_machine.proofs.Together.{reaches_none, step_faults, step_ends, step_goes, no_turn, a_turn, turned_fault}
use Rattle.c_machine.proofs.configuration.Configuration.to_turn.Goals as goal

pub loop-end-init : goal.loop-end-init
loop-end-init g c =
    let a : Outside = outside (source_state (g.S.Source.left c.args.input.now) (g.S.Source.faults c.args.input.now) (g.S.Source.calls c.args.input.now)) (sink_state (g.K.Sink.held c.args.out.now) (g.K.Sink.faults c.args.out.now) (g.K.Sink.calls c.args.out.now)) in
    (reaches_none c.args.self.now a, refl, refl)

pub returns-in_err-end : goal.returns-in_err-end
returns-in_err-end g c =
    let a : Outside = outside (source_state (g.S.Source.left c.args.input.now) (g.S.Source.faults c.args.input.now) (g.S.Source.calls c.args.input.now)) (sink_state (g.K.Sink.held c.args.out.now) (g.K.Sink.faults c.args.out.now) (g.K.Sink.calls c.args.out.now)) in
    let b : Outside = outside (source_state (g.S.Source.left c.loop-end.input) (g.S.Source.faults c.loop-end.input) (g.S.Source.calls c.loop-end.input)) (sink_state (g.K.Sink.held c.loop-end.out) (g.K.Sink.faults c.loop-end.out) (g.K.Sink.calls c.loop-end.out)) in
    let d : Outside = outside (source_state (g.S.Source.left c.advance.new.input) (g.S.Source.faults c.advance.new.input) (g.S.Source.calls c.advance.new.input)) (sink_state (g.K.Sink.held c.advance.new.out) (g.K.Sink.faults c.advance.new.out) (g.K.Sink.calls c.advance.new.out)) in
    turned_fault c.from_residual.result c.in_err-end.field-0.0 (ahead c.args.self.now) c.args.self.now.left c.args.self.now.at_end c.advance.new.self a d c.from_residual.ensures.1
    (step_faults (ahead c.args.self.now) c.args.self.now.at_end c.loop-end.self a b c.loop-end.invariant.0 (work c.loop-end.self.control) c.advance.new.self d c.in_err-end.field-0.0 (c.in_err-end.ensures {u = tt}))

pub returns-in-Ended : goal.returns-in-Ended
returns-in-Ended g c =
    let a : Outside = outside (source_state (g.S.Source.left c.args.input.now) (g.S.Source.faults c.args.input.now) (g.S.Source.calls c.args.input.now)) (sink_state (g.K.Sink.held c.args.out.now) (g.K.Sink.faults c.args.out.now) (g.K.Sink.calls c.args.out.now)) in
    let b : Outside = outside (source_state (g.S.Source.left c.loop-end.input) (g.S.Source.faults c.loop-end.input) (g.S.Source.calls c.loop-end.input)) (sink_state (g.K.Sink.held c.loop-end.out) (g.K.Sink.faults c.loop-end.out) (g.K.Sink.calls c.loop-end.out)) in
    let d : Outside = outside (source_state (g.S.Source.left c.advance.new.input) (g.S.Source.faults c.advance.new.input) (g.S.Source.calls c.advance.new.input)) (sink_state (g.K.Sink.held c.advance.new.out) (g.K.Sink.faults c.advance.new.out) (g.K.Sink.calls c.advance.new.out)) in
    step_ends (ahead c.args.self.now) c.args.self.now.at_end c.loop-end.self a b c.loop-end.invariant.0 (work c.loop-end.self.control) c.advance.new.self d c.in-Ended.end (rw c.in-Ended.is at (c.in_ok-end.ensures {u = tt}))

pub returns-then-self-left : goal.returns-then-self-left
returns-then-self-left g c =
    let a : Outside = outside (source_state (g.S.Source.left c.args.input.now) (g.S.Source.faults c.args.input.now) (g.S.Source.calls c.args.input.now)) (sink_state (g.K.Sink.held c.args.out.now) (g.K.Sink.faults c.args.out.now) (g.K.Sink.calls c.args.out.now)) in
    let b : Outside = outside (source_state (g.S.Source.left c.loop-end.input) (g.S.Source.faults c.loop-end.input) (g.S.Source.calls c.loop-end.input)) (sink_state (g.K.Sink.held c.loop-end.out) (g.K.Sink.faults c.loop-end.out) (g.K.Sink.calls c.loop-end.out)) in
    let d : Outside = outside (source_state (g.S.Source.left c.advance.new.input) (g.S.Source.faults c.advance.new.input) (g.S.Source.calls c.advance.new.input)) (sink_state (g.K.Sink.held c.advance.new.out) (g.K.Sink.faults c.advance.new.out) (g.K.Sink.calls c.advance.new.out)) in
    let h = rw c.in-Going.is at (c.in_ok-end.ensures {u = tt}) in
    let same = c.loop-end.invariant.1 in (
      step_goes (ahead c.args.self.now) c.args.self.now.at_end c.loop-end.self a b c.loop-end.invariant.0 (work c.loop-end.self.control) c.advance.new.self d h,
      a_turn (work c.loop-end.self.control) c.loop-end.self.left c.advance.new.self h.falls (λ e. c.if-self-left.true (e ∙ same)) ∙ same,
    )

pub loop-end-preserved : goal.loop-end-preserved
loop-end-preserved g c =
    let a : Outside = outside (source_state (g.S.Source.left c.args.input.now) (g.S.Source.faults c.args.input.now) (g.S.Source.calls c.args.input.now)) (sink_state (g.K.Sink.held c.args.out.now) (g.K.Sink.faults c.args.out.now) (g.K.Sink.calls c.args.out.now)) in
    let b : Outside = outside (source_state (g.S.Source.left c.loop-end.input) (g.S.Source.faults c.loop-end.input) (g.S.Source.calls c.loop-end.input)) (sink_state (g.K.Sink.held c.loop-end.out) (g.K.Sink.faults c.loop-end.out) (g.K.Sink.calls c.loop-end.out)) in
    let d : Outside = outside (source_state (g.S.Source.left c.advance.new.input) (g.S.Source.faults c.advance.new.input) (g.S.Source.calls c.advance.new.input)) (sink_state (g.K.Sink.held c.advance.new.out) (g.K.Sink.faults c.advance.new.out) (g.K.Sink.calls c.advance.new.out)) in
    let h = rw c.in-Going.is at (c.in_ok-end.ensures {u = tt}) in
    (step_goes (ahead c.args.self.now) c.args.self.now.at_end c.loop-end.self a b c.loop-end.invariant.0 (work c.loop-end.self.control) c.advance.new.self d h, c.if-self-left.false, refl)

pub loop-end-smaller : goal.loop-end-smaller
loop-end-smaller g c =
    let h = rw c.in-Going.is at (c.in_ok-end.ensures {u = tt}) in
    no_turn (work c.loop-end.self.control) c.loop-end.self.left c.advance.new.self h.falls (c.if-self-left.false ∙ sym c.loop-end.invariant.1)
