use Rattle.std.proofs.Common.{sym, ap, ◌∙◌}
use Rattle.sl_plain.specs.Lowered.{variable}
use Rattle.sl_plain.proofs.Numbered.{place_found, place_missing}
use Rattle.sl_plain.proofs.lowering.expressions.number_of.Goals as goal

pub returns-in-Some : goal.returns-in-Some
returns-in-Some c = λ names numbered. ap variable (place_found names c.args.variables.now c.args.name.now c.in-Some.variable numbered (sym c.in-Some.is ∙ c.get.ensures))

pub returns-in-None : goal.returns-in-None
returns-in-None c = λ names numbered. ap variable (place_missing names c.args.variables.now c.args.name.now numbered (sym c.in-None.is ∙ c.get.ensures))
