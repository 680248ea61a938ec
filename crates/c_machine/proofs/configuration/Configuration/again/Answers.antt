use Rattle.std.proofs.Common.{◌-◌, arith}
use Rattle.c_machine.proofs.Steps.{again_left, again_spent, again_turns}
use Rattle.c_machine.proofs.configuration.Configuration.again.Goals as goal

pub returns-in-Some : goal.returns-in-Some
returns-in-Some c = again_left c.args.self.now c.args.stmts c.in-Some.flow (c.in-Some.ensures {u = tt})

pub returns-then-self-eq0 : goal.returns-then-self-eq0
returns-then-self-eq0 c = again_spent c.args.self.now c.args.stmts (c.in_default.ensures {u = tt}) c.if-self-eq0.true

pub returns : goal.returns
returns c =
    rw (c.in_ok-go_round.ensures.stacked, c.in_ok-round.ensures) (again_turns c.args.self.now c.args.stmts (c.args.self.now.left - 1) (c.in_default.ensures {u = tt}) (omega (arith, c.if-self-eq0.false)))
