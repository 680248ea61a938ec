use Rattle.std.proofs.Common.{rules, FitsSigned, sym, ap, ◌∙◌}
use Rattle.std.specs.Int.{w128}
use Rattle.std.proofs.lemmas.Int.{to_z-of_z}
use Rattle.c_machine.specs.State.{is_declared}
use Rattle.c_machine.proofs.Arguments.{declared_slot}
use Rattle.c_machine.proofs.Executing.{assign_undeclared, assign_unvalued, assign_goes}
use Rattle.c_machine.proofs.configuration.Configuration.assign.Goals as goal

pub returns-in-Undeclared : goal.returns-in-Undeclared
returns-in-Undeclared c = rw c.stuck.ensures (assign_undeclared c.args.self.now c.args.slot c.args.e.now (ap is_declared c.in-Undeclared.is))

pub returns-in-Some : goal.returns-in-Some
returns-in-Some c =
    let fits : FitsSigned w128 c.in-Some.word.number = search rules in
    assign_goes c.args.self.now c.args.slot c.args.e.now c.in-Some.word c.store.new.self c.requires (declared_slot c.args.slot c.in_default.not-Undeclared) (sym c.value.ensures ∙ c.in-Some.is) (rw to_z-of_z at c.store.ensures)

pub returns-in-None : goal.returns-in-None
returns-in-None c =
    rw c.stuck-in-None.ensures (assign_unvalued c.args.self.now c.args.slot c.args.e.now (declared_slot c.args.slot c.in_default.not-Undeclared) (sym c.value.ensures ∙ c.in-None.is))
