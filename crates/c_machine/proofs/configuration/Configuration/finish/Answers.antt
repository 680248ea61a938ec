use Rattle.std.proofs.Common.{rules, FitsSigned}
use Rattle.std.specs.Int.{w128}
use Rattle.std.proofs.lemmas.Int.{to_z-of_z}
use Rattle.c_machine.proofs.Steps.{finish_stuck, finish_done, finish_nothing}
use Rattle.c_machine.proofs.configuration.Configuration.finish.Goals as goal

pub returns-in_default : goal.returns-in_default
returns-in_default c bound = rw c.stuck.ensures (finish_stuck c.args.self.now bound c.requires (c.in_default.ensures {u = tt}))

pub returns-in-Some-given : goal.returns-in-Some-given
returns-in-Some-given c bound =
    let fits : FitsSigned w128 c.in-Some-given.value = search rules in
    rw to_z-of_z (finish_done c.args.self.now bound c.in-Some-given.value c.leave.new.self c.requires (rw c.in-Some-given.is at (c.in-Some.ensures {u = tt})))

pub returns-in-None : goal.returns-in-None
returns-in-None c bound =
    rw c.stuck-in-None.ensures (finish_nothing c.args.self.now bound c.requires (rw c.in-None.is at (c.in-Some.ensures {u = tt})))
