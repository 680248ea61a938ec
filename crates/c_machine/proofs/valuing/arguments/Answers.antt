use Rattle.std.proofs.Common.{ℤ, Some, rules, FitsSigned, sym, ap, ◌∙◌, map}
use Rattle.std.specs.Prelude.{option_map}
use Rattle.std.specs.Int.{w128}
use Rattle.std.proofs.lemmas.Int.{to_z-of_z}
use Rattle.c_machine.specs.declared.program.Expr.{Expr}
use Rattle.c_machine.specs.Values.{value}
use Rattle.c_machine.specs.Resume.{state_of}
use Rattle.c_machine.proofs.Arguments.{more_cells, no_numbers}
use Rattle.c_machine.proofs.valuing.arguments.Goals as goal

pub returns-in-None : goal.returns-in-None
returns-in-None c =
    sym (ap (option_map (map {A = ℤ} Some)) (no_numbers (state_of c.args.memory.now) c.args.es.now c.loop-e.e-index c.e-item.result c.loop-e-test.true
    (ap (λ (e : Expr). value e (state_of c.args.memory.now)) (sym c.e-item.is) ∙ (sym c.value.ensures ∙ c.in-None.is))))

pub loop-e-preserved : goal.loop-e-preserved
loop-e-preserved c =
    let fits : FitsSigned w128 c.in-Some.word.number = search rules in
    rw ((c.in_ok-push-in-Some.ensures {u = tt}).ok, to_z-of_z)
    (more_cells (state_of c.args.memory.now) c.args.es.now c.loop-e.e-index c.e-item.result c.e-item.result c.in-Some.word c.loop-e.cells c.loop-e-test.true c.e-item.is c.loop-e.invariant (sym c.value.ensures ∙ c.in-Some.is))
