use Rattle.c_machine.specs.Naming.{callee_named, place_named}
use Rattle.c_machine.proofs.Doing.{return_none_does, return_does}
use Rattle.c_machine.proofs.statements.resolve_return.Goals as goal

pub returns-in-None : goal.returns-in-None
returns-in-None c = rw c.in-None.is (return_none_does (place_named c.args.around.now) (callee_named c.args.around.now))

pub returns-in_ok-resolve_expr-in-Some : goal.returns-in_ok-resolve_expr-in-Some
returns-in_ok-resolve_expr-in-Some c =
    rw c.in-Some.is (return_does (place_named c.args.around.now) (callee_named c.args.around.now) c.in-Some.e c.in_ok-resolve_expr-in-Some.field-0 c.in_ok-resolve_expr-in-Some.ensures)
