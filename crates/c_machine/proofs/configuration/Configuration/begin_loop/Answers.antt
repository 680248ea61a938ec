use Rattle.c_machine.proofs.Executing.{loop_goes}
use Rattle.c_machine.proofs.configuration.Configuration.begin_loop.Goals as goal

pub returns : goal.returns
returns c = rw (c.in_ok-push.ensures, c.in_ok-stmts.ensures) (loop_goes c.args.self.now c.args.stmts.now c.requires)
