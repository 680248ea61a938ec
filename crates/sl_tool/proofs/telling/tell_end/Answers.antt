use Rattle.std.proofs.Common.{subst, sym, ap}
use Rattle.sl_outside.specs.Sink.{sink_state}
use Rattle.sl_words.specs.WordsReading.{names_seen}
use Rattle.sl_tool.specs.Parts.{TellsEnd, MakesAndTells}
use Rattle.sl_tool.specs.Texts.{halt_line}
use Rattle.sl_tool.specs.declared.status.Status.TheVariants as status
use Rattle.c_machine.specs.Stepped.{ending_of}
use Rattle.sl_tool.proofs.telling.tell_end.Goals as goal

-- no run ends in an undefined case
pub unreachable-requires : goal.unreachable-requires
unreachable-requires g c = c.requires c.in-Stuck.field-0 (ap ending_of c.in-Stuck.is)

-- a halt is told with the name of its file
pub returns-in-Halt : goal.returns-in-Halt
returns-in-Halt g c =
    subst (λ e. TellsEnd (names_seen c.args.names.now) e (sink_state (g.N.Sink.held c.args.note.now) (g.N.Sink.faults c.args.note.now) (g.N.Sink.calls c.args.note.now)) (sink_state (g.N.Sink.held c.tell_halt.new.note) (g.N.Sink.faults c.tell_halt.new.note) (g.N.Sink.calls c.tell_halt.new.note)) c.tell_halt.result) (sym c.in-Halt.is)
    (subst (λ name. MakesAndTells (halt_line c.in-Halt.kind name c.in-Halt.line) status.Halted (sink_state (g.N.Sink.held c.args.note.now) (g.N.Sink.faults c.args.note.now) (g.N.Sink.calls c.args.note.now)) (sink_state (g.N.Sink.held c.tell_halt.new.note) (g.N.Sink.faults c.tell_halt.new.note) (g.N.Sink.calls c.tell_halt.new.note)) c.tell_halt.result) c.name_of.ensures c.tell_halt.ensures)
