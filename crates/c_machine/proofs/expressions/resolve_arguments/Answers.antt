use Rattle.c_tree.specs.Parts.{argument_of}
use Rattle.c_machine.specs.Naming.{place_named}
use Rattle.c_machine.specs.Related.{ValueIs}
use Rattle.c_machine.proofs.Lists.{pairwise_more}
use Rattle.c_machine.proofs.expressions.resolve_arguments.Goals as goal

pub loop-argument-preserved : goal.loop-argument-preserved
loop-argument-preserved c =
    pairwise_more (λ argument e. ValueIs (place_named c.args.around.now) (argument_of argument) e)
    c.args.arguments.now c.loop-argument.resolved c.push.new.self c.loop-argument.argument-index c.argument-item.result c.argument-item.result c.in_ok-resolve_argument.field-0
    c.loop-argument-test.true c.argument-item.is c.in_ok-push.ensures.ok c.loop-argument.invariant c.in_ok-resolve_argument.ensures
