use Rattle.sl_outside.specs.Source.{source_state}
use Rattle.sl_outside.specs.Sink.{sink_state}
use Rattle.sl_tool.proofs.Ran.{machine_ran, none_ran}
use Rattle.sl_tool.proofs.running.run_tree.Goals as goal

pub returns-in-Ok-open : goal.returns-in-Ok-open
returns-in-Ok-open g c = record {
  ran = machine_ran c.args.tree c.in-Ok.checked.file c.args.turns c.in-Ok-open.machine c.run.new.self
      (source_state (g.S.Source.left c.args.input.now) (g.S.Source.faults c.args.input.now) (g.S.Source.calls c.args.input.now))
      (source_state (g.S.Source.left c.run.new.input) (g.S.Source.faults c.run.new.input) (g.S.Source.calls c.run.new.input))
      (sink_state (g.K.Sink.held c.args.out.now) (g.K.Sink.faults c.args.out.now) (g.K.Sink.calls c.args.out.now))
      (sink_state (g.K.Sink.held c.run.new.out) (g.K.Sink.faults c.run.new.out) (g.K.Sink.calls c.run.new.out))
      c.run.result c.in-Ok.ensures.0 c.in-Ok-open.ensures c.run.ensures;
}

-- memory ran out in the check, or in opening the machine
pub returns-in-Err-Mem : goal.returns-in-Err-Mem
returns-in-Err-Mem g c = record {
  ran = none_ran c.args.tree c.args.turns
      (source_state (g.S.Source.left c.args.input.now) (g.S.Source.faults c.args.input.now) (g.S.Source.calls c.args.input.now))
      (sink_state (g.K.Sink.held c.args.out.now) (g.K.Sink.faults c.args.out.now) (g.K.Sink.calls c.args.out.now));
}

pub returns-in-Err : goal.returns-in-Err
returns-in-Err g c = record {
  ran = none_ran c.args.tree c.args.turns
      (source_state (g.S.Source.left c.args.input.now) (g.S.Source.faults c.args.input.now) (g.S.Source.calls c.args.input.now))
      (sink_state (g.K.Sink.held c.args.out.now) (g.K.Sink.faults c.args.out.now) (g.K.Sink.calls c.args.out.now));
}
