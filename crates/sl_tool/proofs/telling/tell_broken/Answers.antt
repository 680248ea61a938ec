use Rattle.std.proofs.Common.{◌≡◌, ◌∙◌, subst, inl}
use Rattle.sl_outside.specs.Sink.{sink_state}
use Rattle.sl_tool.specs.declared.status.Status.TheVariants as status
use Rattle.sl_tool.specs.Parts.{Tells}
use Rattle.sl_tool.specs.Texts.{broken_line}
use Rattle.sl_tool.proofs.telling.tell_broken.Goals as goal

pub returns-in-Ok : goal.returns-in-Ok
returns-in-Ok g c =
    let line : c.as_bytes.result.now ≡ broken_line c.args.name.now c.args.line c.args.column c.args.rule = c.as_bytes.ensures.value ∙ c.in-Ok.ensures.ok in
    inl (subst (λ line. Tells line status.Broken (sink_state (g.N.Sink.held c.args.note.now) (g.N.Sink.faults c.args.note.now) (g.N.Sink.calls c.args.note.now)) (sink_state (g.N.Sink.held c.put_line.new.note) (g.N.Sink.faults c.put_line.new.note) (g.N.Sink.calls c.put_line.new.note)) c.put_line.result) line c.put_line.ensures)
