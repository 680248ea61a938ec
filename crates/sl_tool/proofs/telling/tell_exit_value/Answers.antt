use Rattle.std.proofs.Common.{◌≡◌, ap, ◌∙◌, subst, inl}
use Rattle.std.specs.Int.{w128}
use Rattle.std.proofs.lemmas.Int.{to_z-of_z}
use Rattle.sl_outside.specs.Sink.{sink_state}
use Rattle.sl_tool.specs.declared.status.Status.TheVariants as status
use Rattle.sl_tool.specs.Parts.{Tells}
use Rattle.sl_tool.specs.Texts.{exit_value_line}
use Rattle.sl_tool.proofs.telling.tell_exit_value.Goals as goal

pub returns-in-Ok : goal.returns-in-Ok
returns-in-Ok g c =
    let line : c.as_bytes.result.now ≡ exit_value_line c.args.value = c.as_bytes.ensures.value ∙ (c.in-Ok.ensures.ok ∙ ap (λ value. exit_value_line value) (to_z-of_z w128 c.args.value c.ranges.value)) in
    inl (subst (λ line. Tells line status.ExitValue (sink_state (g.N.Sink.held c.args.note.now) (g.N.Sink.faults c.args.note.now) (g.N.Sink.calls c.args.note.now)) (sink_state (g.N.Sink.held c.put_line.new.note) (g.N.Sink.faults c.put_line.new.note) (g.N.Sink.calls c.put_line.new.note)) c.put_line.result) line c.put_line.ensures)
