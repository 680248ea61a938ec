use Rattle.c_machine.specs.Resolved.{FunctionIs, callees_of}
use Rattle.c_machine.proofs.Lists.{pairwise_more}
use Rattle.c_machine.proofs.functions.resolve_functions.Goals as goal

pub loop-function-preserved : goal.loop-function-preserved
loop-function-preserved c =
    pairwise_more (FunctionIs c.args.globals.now (callees_of c.args.numbers.now c.args.inlines.now))
    c.args.functions.now c.loop-function.resolved c.push.new.self c.loop-function.function-index c.function-item.result c.function-item.result c.in_ok-resolve_function.field-0
    c.loop-function-test.true c.function-item.is c.in_ok-push.ensures.ok c.loop-function.invariant c.in_ok-resolve_function.ensures
