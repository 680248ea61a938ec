use Rattle.std.proofs.Common.{◌≡◌, take}
use Rattle.std.specs.Prelude.{slice_get}
use Rattle.std.specs.Option.{option_and_then}
use Rattle.c_tree.specs.Parts.{arguments_of}
use Rattle.c_tree.specs.Scope.{scope_of}
use Rattle.c_rules.specs.Least.{least_in}
use Rattle.c_rules.specs.Bodies.{of_callee}
use Rattle.c_rules.proofs.bodies.of_callees.Given as goal

-- the functions of the name so far were looked at
abbrev pub invariant-loop-number : goal.invariant-loop-number
invariant-loop-number l = l.best ≡ least_in (λ number. option_and_then (of_callee (scope_of l.around.file.now l.around.function.now) l.target l.name (arguments_of l.arguments)) (slice_get l.around.file.now.functions number)) (take l.number-index l.number-items)
