use Rattle.std.proofs.Common.{inr}
use Rattle.std.specs.Prelude.{Ok, Err}
use Rattle.sl_outside.specs.Folder.{folder_state}
use Rattle.sl_outside.specs.Source.{source_state}
use Rattle.sl_outside.specs.Sink.{sink_state}
use Rattle.c_machine.specs.declared.ending.StepFault.TheVariants as fault
use Rattle.sl_words.specs.WordsReading.{names_seen}
use Rattle.sl_tool.proofs.Asking.{program_is_ok, run_stopped}
use Rattle.sl_tool.proofs.Ran.{tree_ran, tree_defined}
use Rattle.sl_tool.proofs.running.run_files.Goals as goal

pub translate-requires : goal.translate-requires
translate-requires g c = program_is_ok c.in_ok-program.ensures.read

-- the program ran to its end
pub returns-in-Ok-clause-ran : goal.returns-in-Ok-clause-ran
returns-in-Ok-clause-ran g c = (
  c.in_ok-program.program,
  c.in_ok-program.ensures.read,
  tree_ran c.in_ok-program.program c.args.turns c.in_ok-tree.tree c.in_ok-tree.ensures.value c.in_ok-tree.ensures.means (source_state (g.S.Source.left c.args.input.now) (g.S.Source.faults c.args.input.now) (g.S.Source.calls c.args.input.now)) (source_state (g.S.Source.left c.run_tree.new.input) (g.S.Source.faults c.run_tree.new.input) (g.S.Source.calls c.run_tree.new.input)) (sink_state (g.K.Sink.held c.args.out.now) (g.K.Sink.faults c.args.out.now) (g.K.Sink.calls c.args.out.now)) (sink_state (g.K.Sink.held c.run_tree.new.out) (g.K.Sink.faults c.run_tree.new.out) (g.K.Sink.calls c.run_tree.new.out)) (Ok c.in-Ok.end) c.in-Ok.ensures.ran,
  tree_defined c.in_ok-program.program c.args.turns c.in_ok-tree.tree c.in_ok-tree.ensures.value c.in_ok-tree.ensures.means (source_state (g.S.Source.left c.args.input.now) (g.S.Source.faults c.args.input.now) (g.S.Source.calls c.args.input.now)) (source_state (g.S.Source.left c.run_tree.new.input) (g.S.Source.faults c.run_tree.new.input) (g.S.Source.calls c.run_tree.new.input)) (sink_state (g.K.Sink.held c.args.out.now) (g.K.Sink.faults c.args.out.now) (g.K.Sink.calls c.args.out.now)) (sink_state (g.K.Sink.held c.run_tree.new.out) (g.K.Sink.faults c.run_tree.new.out) (g.K.Sink.calls c.run_tree.new.out)) c.in-Ok.end c.in-Ok.ensures.ran,
)

-- `out` failed
pub returns-in-Err-Sink-clause-ran : goal.returns-in-Err-Sink-clause-ran
returns-in-Err-Sink-clause-ran g c = (
  c.in_ok-program.program,
  c.in_ok-program.ensures.read,
  tree_ran c.in_ok-program.program c.args.turns c.in_ok-tree.tree c.in_ok-tree.ensures.value c.in_ok-tree.ensures.means (source_state (g.S.Source.left c.args.input.now) (g.S.Source.faults c.args.input.now) (g.S.Source.calls c.args.input.now)) (source_state (g.S.Source.left c.run_tree.new.input) (g.S.Source.faults c.run_tree.new.input) (g.S.Source.calls c.run_tree.new.input)) (sink_state (g.K.Sink.held c.args.out.now) (g.K.Sink.faults c.args.out.now) (g.K.Sink.calls c.args.out.now)) (sink_state (g.K.Sink.held c.run_tree.new.out) (g.K.Sink.faults c.run_tree.new.out) (g.K.Sink.calls c.run_tree.new.out)) (Err fault.Sink) (rw c.in-Err-Sink.field-0-is at c.in-Err-Sink.ensures.ran),
)

-- memory ran out in the run
pub returns-in-Err-Mem-clause-ran : goal.returns-in-Err-Mem-clause-ran
returns-in-Err-Mem-clause-ran g c = inr (
  c.in_ok-program.program,
  c.in_ok-program.ensures.read,
  tree_ran c.in_ok-program.program c.args.turns c.in_ok-tree.tree c.in_ok-tree.ensures.value c.in_ok-tree.ensures.means (source_state (g.S.Source.left c.args.input.now) (g.S.Source.faults c.args.input.now) (g.S.Source.calls c.args.input.now)) (source_state (g.S.Source.left c.run_tree.new.input) (g.S.Source.faults c.run_tree.new.input) (g.S.Source.calls c.run_tree.new.input)) (sink_state (g.K.Sink.held c.args.out.now) (g.K.Sink.faults c.args.out.now) (g.K.Sink.calls c.args.out.now)) (sink_state (g.K.Sink.held c.run_tree.new.out) (g.K.Sink.faults c.run_tree.new.out) (g.K.Sink.calls c.run_tree.new.out)) (Err fault.Mem) (rw c.in-Err-Mem.field-0-is at c.in-Err-Mem.ensures.ran),
)

-- memory ran out in making the tree
pub returns-in_err-tree-clause-ran : goal.returns-in_err-tree-clause-ran
returns-in_err-tree-clause-ran g c =
    run_stopped c.args.turns (names_seen c.args.names.now) c.in_ok-program.program
    (folder_state (g.F.Folder.files c.args.folder.now) (g.F.Folder.faults c.args.folder.now) (g.F.Folder.calls c.args.folder.now) (g.F.Folder.log c.args.folder.now))
    (folder_state (g.F.Folder.files c.read_program.new.folder) (g.F.Folder.faults c.read_program.new.folder) (g.F.Folder.calls c.read_program.new.folder) (g.F.Folder.log c.read_program.new.folder))
    (source_state (g.S.Source.left c.args.input.now) (g.S.Source.faults c.args.input.now) (g.S.Source.calls c.args.input.now))
    (sink_state (g.K.Sink.held c.args.out.now) (g.K.Sink.faults c.args.out.now) (g.K.Sink.calls c.args.out.now))
    c.from_residual-in_err-tree.result c.from_residual-in_err-tree.ensures.1 c.in_ok-program.ensures.read
