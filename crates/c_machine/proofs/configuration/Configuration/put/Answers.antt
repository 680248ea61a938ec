use Rattle.std.proofs.Common.{rules, FitsSigned, refl, sym, ◌∙◌}
use Rattle.std.specs.Int.{w128}
use Rattle.std.proofs.lemmas.Int.{to_z-of_z}
use Rattle.sl_outside.specs.Sink.{SinkState, sink_state}
use Rattle.c_machine.specs.Outside.{Outside, outside}
use Rattle.c_machine.proofs.Bytes.{no_byte, byte_is, byte_fits}
use Rattle.c_machine.proofs.Executing.{put_unvalued, put_no_byte, put_goes, put_refused}
use Rattle.c_machine.proofs.configuration.Configuration.put.Goals as goal

pub returns-in_default : goal.returns-in_default
returns-in_default g c source =
    let a : Outside = outside source (sink_state (g.K.Sink.held c.args.out.now) (g.K.Sink.faults c.args.out.now) (g.K.Sink.calls c.args.out.now)) in
    rw c.stuck.ensures (put_unvalued c.args.self.now c.args.e.now (sym c.value.ensures ∙ c.in_default.is) a)

pub returns-in_default-try_from : goal.returns-in_default-try_from
returns-in_default-try_from g c source =
    let a : Outside = outside source (sink_state (g.K.Sink.held c.args.out.now) (g.K.Sink.faults c.args.out.now) (g.K.Sink.calls c.args.out.now)) in
    let fits : FitsSigned w128 c.in-Some.word.number = search rules in
    rw c.stuck-in_default-try_from.ensures
    (put_no_byte c.args.self.now c.args.e.now c.in-Some.word (sym c.value.ensures ∙ c.in-Some.is) (no_byte c.in-Some.word.number (rw to_z-of_z at (c.in_default-try_from.ensures {u = tt}))) a)

pub returns-in-Ok-put : goal.returns-in-Ok-put
returns-in-Ok-put g c source =
    let a : SinkState = sink_state (g.K.Sink.held c.args.out.now) (g.K.Sink.faults c.args.out.now) (g.K.Sink.calls c.args.out.now) in
    let b : SinkState = sink_state (g.K.Sink.held c.put.new.self) (g.K.Sink.faults c.put.new.self) (g.K.Sink.calls c.put.new.self) in
    let fits : FitsSigned w128 c.in-Some.word.number = search rules in
    let h = rw to_z-of_z at (c.in-Ok.ensures {u = tt}) in
    put_goes c.args.self.now c.args.e.now c.in-Some.word c.in-Ok.byte (sym c.value.ensures ∙ c.in-Some.is) (byte_is c.in-Some.word.number c.in-Ok.byte h.0 h.1) (byte_fits c.in-Some.word.number c.in-Ok.byte h.0 h.1) c.requires source a b
    (record { taken = c.in-Ok-put.ensures.taken; cause = c.in-Ok-put.ensures.cause; counted = c.put.ensures.counted })

pub returns-in-Err : goal.returns-in-Err
returns-in-Err g c source =
    let a : SinkState = sink_state (g.K.Sink.held c.args.out.now) (g.K.Sink.faults c.args.out.now) (g.K.Sink.calls c.args.out.now) in
    let b : SinkState = sink_state (g.K.Sink.held c.put.new.self) (g.K.Sink.faults c.put.new.self) (g.K.Sink.calls c.put.new.self) in
    let fits : FitsSigned w128 c.in-Some.word.number = search rules in
    let h = rw to_z-of_z at (c.in-Ok.ensures {u = tt}) in
    put_refused c.args.self.now c.args.e.now c.in-Some.word c.in-Ok.byte (sym c.value.ensures ∙ c.in-Some.is) (byte_is c.in-Some.word.number c.in-Ok.byte h.0 h.1) (byte_fits c.in-Some.word.number c.in-Ok.byte h.0 h.1) c.requires c.args.self.now source a b refl
    (record { taken = c.in-Err.ensures.taken; cause = c.in-Err.ensures.cause; counted = c.put.ensures.counted })
