use Rattle.std.proofs.Common.{rules, FitsSigned}
use Rattle.std.specs.Int.{w128}
use Rattle.std.proofs.lemmas.Int.{to_z-of_z}
use Rattle.c_machine.proofs.Steps.{back_stuck, back_none, back_stores, back_nothing}
use Rattle.c_machine.proofs.configuration.Configuration.back.Goals as goal

pub returns-in_default : goal.returns-in_default
returns-in_default c = rw c.stuck.ensures (back_stuck c.args.self.now c.args.target c.args.gives (c.in_default.ensures {u = tt}))

pub returns-in-None-default : goal.returns-in-None-default
returns-in-None-default c =
    back_none c.args.self.now c.args.target c.args.gives c.in-Some.given c.leave.new.self c.in-None-default.is-0 (c.in-Some.ensures {u = tt}) c.leave.ensures

pub returns-in-Some-Some : goal.returns-in-Some-Some
returns-in-Some-Some c =
    let fits : FitsSigned w128 c.in-Some-Some.number = search rules in
    back_stores c.args.self.now c.args.target c.in-Some-Some.slot c.args.gives c.in-Some-Some.number c.leave.new.self c.store.new.self c.in-Some-Some.is-0
    (rw c.in-Some-Some.is-1 at (c.in-Some.ensures {u = tt})) c.leave.ensures (rw to_z-of_z at c.store.ensures)

pub returns-in-Some-None : goal.returns-in-Some-None
returns-in-Some-None c =
    rw c.stuck-in-Some-None.ensures
    (back_nothing c.args.self.now c.args.target c.in-Some-None.field-0-0 c.args.gives c.leave.new.self c.in-Some-None.is-0
    (rw c.in-Some-None.is-1 at (c.in-Some.ensures {u = tt})) c.leave.ensures)
