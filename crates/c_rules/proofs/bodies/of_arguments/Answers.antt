use Rattle.std.proofs.Common.{refl, sym, ◌∙◌}
use Rattle.c_tree.specs.Parts.{argument_of}
use Rattle.c_tree.specs.Scope.{scope_of}
use Rattle.c_rules.specs.Bodies.{of_expr}
use Rattle.c_rules.proofs.Walks.{least_more, least_all, arguments_are}
use Rattle.c_rules.proofs.bodies.of_arguments.Goals as goal

pub loop-argument-preserved : goal.loop-argument-preserved
loop-argument-preserved c =
    let broken = of_expr (scope_of c.args.around.now.file.now c.args.around.now.function.now) in
    least_more (λ argument. broken (argument_of argument)) c.args.arguments.now c.loop-argument.argument-index c.argument-item.result c.loop-argument.best c.of_argument.result c.least-best.result
    c.loop-argument-test.true c.argument-item.is c.loop-argument.invariant c.of_argument.ensures c.least-best.ensures

pub returns : goal.returns
returns c =
    let broken = of_expr (scope_of c.args.around.now.file.now c.args.around.now.function.now) in
    least_all (λ argument. broken (argument_of argument)) c.args.arguments.now c.args.arguments.now c.loop-argument.argument-index c.loop-argument.best c.loop-argument-test.false refl c.loop-argument.invariant
    ∙ sym (arguments_are broken c.args.arguments.now)
