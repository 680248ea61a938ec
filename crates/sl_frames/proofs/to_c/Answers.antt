use Rattle.std.proofs.Common.{[]}
use Rattle.c_helpers.specs.Functions.{helper_functions}
use Rattle.sl_frames.specs.Translated.{proto_of, function_of}
use Rattle.sl_frames.proofs.Counted.{of_each_added}
use Rattle.sl_frames.proofs.to_c.Goals as goal

pub loop-number-preserved : goal.loop-number-preserved
loop-number-preserved c = (
  of_each_added (proto_of c.args.core.now) c.args.core.now.functions c.as_slice-function-items.result.now c.loop-number.number c.function-item.result [] c.loop-number.protos c.push.new.self
      c.in_ok-proto_of.field-0 c.as_slice-function-items.ensures c.loop-number-test.true c.function-item.is c.loop-number.invariant.0 c.in_ok-proto_of.ensures c.in_ok-push.ensures.ok,
  of_each_added (function_of c.args.core.now) c.args.core.now.functions c.as_slice-function-items.result.now c.loop-number.number c.function-item.result helper_functions c.loop-number.functions
      c.push-in-loop-number.new.self c.in_ok-function_of.field-0 c.as_slice-function-items.ensures c.loop-number-test.true c.function-item.is c.loop-number.invariant.1 c.in_ok-function_of.ensures
      c.in_ok-push-2.ensures.ok,
)
