use Rattle.std.proofs.Common.{◌≡◌, take}
use Rattle.c_tree.specs.Parts.{argument_of}
use Rattle.c_tree.specs.Scope.{scope_of}
use Rattle.c_rules.specs.Least.{least_in}
use Rattle.c_rules.specs.Bodies.{of_expr}
use Rattle.c_rules.proofs.bodies.of_arguments.Given as goal

-- the arguments so far were looked at
abbrev pub invariant-loop-argument : goal.invariant-loop-argument
invariant-loop-argument l = l.best ≡ least_in (λ argument. of_expr (scope_of l.around.file.now l.around.function.now) (argument_of argument)) (take l.argument-index l.arguments)
