use Rattle.c_machine.specs.Naming.{callee_named, place_named}
use Rattle.c_machine.proofs.Doing.{call_does}
use Rattle.c_machine.proofs.statements.resolve_call.Goals as goal

pub returns : goal.returns
returns c =
    rw (c.call_stmt.ensures, c.target_slot-slot.ensures, c.in_ok-callee.ensures)
    (call_does (place_named c.args.around.now) (callee_named c.args.around.now) c.args.target.now c.args.name.now c.args.arguments.now c.in_ok-arguments.arguments c.in_ok-arguments.ensures)
