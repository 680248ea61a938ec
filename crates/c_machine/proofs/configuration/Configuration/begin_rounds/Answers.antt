use Rattle.std.proofs.Common.{ap}
use Rattle.c_machine.specs.State.{is_declared}
use Rattle.c_machine.proofs.Arguments.{declared_slot}
use Rattle.c_machine.proofs.Executing.{count_undeclared, count_goes}
use Rattle.c_machine.proofs.configuration.Configuration.begin_rounds.Goals as goal

pub returns-in-Undeclared : goal.returns-in-Undeclared
returns-in-Undeclared c = rw c.stuck.ensures (count_undeclared c.args.self.now c.args.slot c.args.count c.args.stmts.now (ap is_declared c.in-Undeclared.is))

pub returns : goal.returns
returns c =
    rw (c.in_ok-push.ensures, c.in_ok-stmts.ensures) (count_goes c.args.self.now c.args.slot c.args.count c.args.stmts.now c.requires (declared_slot c.args.slot c.in_default.not-Undeclared))
