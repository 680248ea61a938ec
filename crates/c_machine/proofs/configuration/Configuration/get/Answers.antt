use Rattle.std.proofs.Common.{rules, FitsSigned, refl, ap, ◌∙◌}
use Rattle.std.specs.Int.{w128}
use Rattle.std.specs.Option.{is_none, is_some}
use Rattle.std.proofs.lemmas.Int.{to_z-of_z}
use Rattle.sl_outside.specs.Source.{SourceState, source_state}
use Rattle.sl_run.specs.Statements.{gotten}
use Rattle.c_machine.specs.State.{is_declared, with_held}
use Rattle.c_machine.specs.Resume.{state_of}
use Rattle.c_machine.specs.Outside.{Outside, outside}
use Rattle.c_machine.proofs.Arguments.{declared_slot}
use Rattle.c_machine.proofs.Deeds.{no_answer}
use Rattle.c_machine.proofs.Executing.{get_undeclared, get_goes, get_unanswered}
use Rattle.c_machine.proofs.configuration.Configuration.get.Goals as goal

pub returns-in-Undeclared : goal.returns-in-Undeclared
returns-in-Undeclared g c sink =
    let a : Outside = outside (source_state (g.S.Source.left c.args.input.now) (g.S.Source.faults c.args.input.now) (g.S.Source.calls c.args.input.now)) sink in
    rw c.stuck.ensures (get_undeclared c.args.self.now c.args.slot (ap is_declared c.in-Undeclared.is) a)

pub returns-in-Ok : goal.returns-in-Ok
returns-in-Ok g c sink =
    let before : SourceState = source_state (g.S.Source.left c.args.input.now) (g.S.Source.faults c.args.input.now) (g.S.Source.calls c.args.input.now) in
    let after : SourceState = source_state (g.S.Source.left c.next.new.self) (g.S.Source.faults c.next.new.self) (g.S.Source.calls c.next.new.self) in
    let fits : FitsSigned w128 c.gotten.result = search rules in
    let stored = rw to_z-of_z at c.store.ensures in
    get_goes c.args.self.now c.args.slot (declared_slot c.args.slot c.in_default.not-Undeclared) c.requires c.in-Ok.answer c.store.new.self c.is_none-self.result sink before after
    (stored ∙ ap (λ number. with_held c.args.slot number (state_of c.args.self.now.memory)) (c.gotten.ensures ∙ ap gotten c.taken-answer.ensures))
    (no_answer c.is_none-self.result (is_some c.taken-answer.result) c.is_none-self.ensures ∙ ap is_none c.taken-answer.ensures)
    (record { next = c.in-Ok.ensures.next; cause = c.in-Ok.ensures.cause; counted = c.in-Ok.ensures.counted })

pub returns-in-Err : goal.returns-in-Err
returns-in-Err g c sink =
    let before : SourceState = source_state (g.S.Source.left c.args.input.now) (g.S.Source.faults c.args.input.now) (g.S.Source.calls c.args.input.now) in
    let after : SourceState = source_state (g.S.Source.left c.next.new.self) (g.S.Source.faults c.next.new.self) (g.S.Source.calls c.next.new.self) in
    get_unanswered c.args.self.now c.args.slot (declared_slot c.args.slot c.in_default.not-Undeclared) c.requires c.args.self.now sink before after refl
    (record { next = c.in-Err.ensures.next; cause = c.in-Err.ensures.cause; counted = c.in-Err.ensures.counted })
