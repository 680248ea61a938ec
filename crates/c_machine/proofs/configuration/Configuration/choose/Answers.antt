use Rattle.std.proofs.Common.{rules, FitsSigned, sym, ◌∙◌}
use Rattle.std.specs.Int.{w128}
use Rattle.std.proofs.lemmas.Int.{to_z-of_z}
use Rattle.c_machine.proofs.Executing.{if_unvalued, if_goes}
use Rattle.c_machine.proofs.configuration.Configuration.choose.Goals as goal

pub returns-in_default : goal.returns-in_default
returns-in_default c = rw c.stuck.ensures (if_unvalued c.args.self.now c.args.test.now c.args.chosen.now c.args.other.now (sym c.value.ensures ∙ c.in_default.is))

pub returns : goal.returns
returns c =
    let fits : FitsSigned w128 c.in-Some.word.number = search rules in
    rw c.in_ok-push.ensures
    (if_goes c.args.self.now c.args.test.now c.args.chosen.now c.args.other.now c.in_ok-block.block c.in-Some.word c.requires (sym c.value.ensures ∙ c.in-Some.is) (sym ((c.in_ok-block.ensures {u = tt}) ∙ (rw to_z-of_z at c.one_of.ensures))))
