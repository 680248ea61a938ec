use Rattle.std.proofs.Common.{ℕ, Option, ◌∙◌, get_or}
use Rattle.std.specs.Prelude.{slice_get}
use Rattle.std.specs.Option.{option_and_then}
use Rattle.std.proofs.lemmas.List.{get_or_default}
use Rattle.c_tree.specs.Parts.{arguments_of}
use Rattle.c_tree.specs.Scope.{scope_of}
use Rattle.c_rules.specs.Naming.{numbers_named}
use Rattle.c_rules.specs.Bodies.{of_callee}
use Rattle.c_rules.proofs.Walks.{least_more, least_all}
use Rattle.c_rules.proofs.Found.{callees_found}
use Rattle.c_rules.proofs.bodies.of_callees.Goals as goal

pub loop-number-preserved : goal.loop-number-preserved
loop-number-preserved c =
    let around = c.args.around.now in
    let broken : ℕ → Option ℕ = λ number. option_and_then (of_callee (scope_of around.file.now around.function.now) c.args.target.now c.args.name.now (arguments_of c.args.arguments.now)) (slice_get around.file.now.functions number) in
    least_more broken c.numbers_named-number-items.result.now c.loop-number.number-index (get_or c.numbers_named-number-items.result.now c.loop-number.number-index 0) c.loop-number.best c.of_numbered.result c.least-best.result
    c.loop-number-test.true (get_or_default c.numbers_named-number-items.result.now c.loop-number.number-index 0 _ c.loop-number-test.true) c.loop-number.invariant c.of_numbered.ensures c.least-best.ensures

pub returns : goal.returns
returns c =
    let around = c.args.around.now in
    let broken : ℕ → Option ℕ = λ number. option_and_then (of_callee (scope_of around.file.now around.function.now) c.args.target.now c.args.name.now (arguments_of c.args.arguments.now)) (slice_get around.file.now.functions number) in
    least_all broken c.numbers_named-number-items.result.now (numbers_named around.functions.now c.args.name.now) c.loop-number.number-index c.loop-number.best c.loop-number-test.false c.numbers_named-number-items.ensures c.loop-number.invariant
    ∙ callees_found around.file.now.functions around.functions.now c.requires.functions (scope_of around.file.now around.function.now) c.args.target.now c.args.name.now (arguments_of c.args.arguments.now)
