use Rattle.std.proofs.Common.{rules, FitsSigned, sym, ◌∙◌}
use Rattle.std.specs.Int.{w128}
use Rattle.std.proofs.lemmas.Int.{to_z-of_z}
use Rattle.c_machine.proofs.Executing.{return_goes, return_with_goes, return_unvalued}
use Rattle.c_machine.proofs.configuration.Configuration.return_with.Goals as goal

pub returns-in_default : goal.returns-in_default
returns-in_default c = rw c.in_default.is (return_goes c.args.self.now)

pub returns-in-Some-value : goal.returns-in-Some-value
returns-in-Some-value c =
    let fits : FitsSigned w128 c.in-Some-value.word.number = search rules in
    rw (c.in-Some.is, to_z-of_z) (return_with_goes c.args.self.now c.in-Some.e c.in-Some-value.word (sym c.value.ensures ∙ c.in-Some-value.is))

pub returns-in-None : goal.returns-in-None
returns-in-None c = rw (c.stuck.ensures, c.in-Some.is) (return_unvalued c.args.self.now c.in-Some.e (sym c.value.ensures ∙ c.in-None.is))
