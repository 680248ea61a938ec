use Rattle.std.proofs.Common.{◌∷◌, sym, ap, ◌∙◌}
use Rattle.std.specs.Prelude.{Ok}
use Rattle.sl_outside.specs.Sink.{sink_state}
use Rattle.sl_outside.specs.Source.{source_state}
use Rattle.c_machine.specs.Outside.{Outside, outside}
use Rattle.c_machine.specs.declared.configuration.Entry.{Entry}
use Rattle.c_machine.specs.declared.configuration.Entry.TheVariants.{Rest, Again, Rounds, Back}
use Rattle.c_machine.specs.Stepped.{work}
use Rattle.c_machine.proofs.Steps.{popped, popped_none}
use Rattle.c_machine.proofs.configuration.Configuration.advance.Goals as goal

pub returns-in-None : goal.returns-in-None
returns-in-None g c =
    let a : Outside = outside (source_state (g.S.Source.left c.args.input.now) (g.S.Source.faults c.args.input.now) (g.S.Source.calls c.args.input.now)) (sink_state (g.K.Sink.held c.args.out.now) (g.K.Sink.faults c.args.out.now) (g.K.Sink.calls c.args.out.now)) in
    popped_none (Ok c.finish.result) c.args.self.now c.pop.new.self c.finish.new.self a a ((c.in-None.ensures {u = tt}).0 ∙ sym (c.in-None.ensures {u = tt}).1) (c.finish.ensures (work c.args.self.now.control) a)

pub returns-in-Some-Rest : goal.returns-in-Some-Rest
returns-in-Some-Rest g c =
    let a : Outside = outside (source_state (g.S.Source.left c.args.input.now) (g.S.Source.faults c.args.input.now) (g.S.Source.calls c.args.input.now)) (sink_state (g.K.Sink.held c.args.out.now) (g.K.Sink.faults c.args.out.now) (g.K.Sink.calls c.args.out.now)) in
    let b : Outside = outside (source_state (g.S.Source.left c.rest.new.input) (g.S.Source.faults c.rest.new.input) (g.S.Source.calls c.rest.new.input)) (sink_state (g.K.Sink.held c.rest.new.out) (g.K.Sink.faults c.rest.new.out) (g.K.Sink.calls c.rest.new.out)) in
    popped c.rest.result c.args.self.now (Rest c.in-Some-Rest.block c.in-Some-Rest.at) c.pop.new.self c.rest.new.self a b
    ((c.in-Some-Rest.ensures {u = tt}) ∙ ap (λ (e : Entry). e ∷ c.pop.new.self) c.in-Some-Rest.field-0-is) c.rest.ensures

pub returns-in-Some-Back : goal.returns-in-Some-Back
returns-in-Some-Back g c =
    let a : Outside = outside (source_state (g.S.Source.left c.args.input.now) (g.S.Source.faults c.args.input.now) (g.S.Source.calls c.args.input.now)) (sink_state (g.K.Sink.held c.args.out.now) (g.K.Sink.faults c.args.out.now) (g.K.Sink.calls c.args.out.now)) in
    popped (Ok c.back.result) c.args.self.now (Back c.in-Some-Back.target c.in-Some-Back.gives) c.pop.new.self c.back.new.self a a
    ((c.in-Some-Back.ensures {u = tt}) ∙ ap (λ (e : Entry). e ∷ c.pop.new.self) c.in-Some-Back.field-0-is) (c.back.ensures a)

pub returns-in-Some-Again : goal.returns-in-Some-Again
returns-in-Some-Again g c =
    let a : Outside = outside (source_state (g.S.Source.left c.args.input.now) (g.S.Source.faults c.args.input.now) (g.S.Source.calls c.args.input.now)) (sink_state (g.K.Sink.held c.args.out.now) (g.K.Sink.faults c.args.out.now) (g.K.Sink.calls c.args.out.now)) in
    popped c.again.result c.args.self.now (Again c.in-Some-Again.stmts) c.pop.new.self c.again.new.self a a
    ((c.in-Some-Again.ensures {u = tt}) ∙ ap (λ (e : Entry). e ∷ c.pop.new.self) c.in-Some-Again.field-0-is) (c.again.ensures a)

pub returns-in-Some-Rounds : goal.returns-in-Some-Rounds
returns-in-Some-Rounds g c =
    let a : Outside = outside (source_state (g.S.Source.left c.args.input.now) (g.S.Source.faults c.args.input.now) (g.S.Source.calls c.args.input.now)) (sink_state (g.K.Sink.held c.args.out.now) (g.K.Sink.faults c.args.out.now) (g.K.Sink.calls c.args.out.now)) in
    popped c.rounds.result c.args.self.now (Rounds c.in-Some-Rounds.slot c.in-Some-Rounds.next c.in-Some-Rounds.end c.in-Some-Rounds.stmts) c.pop.new.self c.rounds.new.self a a
    ((c.in-Some-Rounds.ensures {u = tt}) ∙ ap (λ (e : Entry). e ∷ c.pop.new.self) c.in-Some-Rounds.field-0-is) (c.rounds.ensures a)
