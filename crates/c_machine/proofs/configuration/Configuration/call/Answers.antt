use Rattle.std.proofs.Common.{◌+◌, ◌-◌, sym, ◌∙◌, arith}
use Rattle.c_machine.specs.Resume.{state_of}
use Rattle.c_machine.specs.Stepped.{ready, weight, work}
use Rattle.c_machine.specs.declared.program.Stmt.TheVariants as stmt
use Rattle.c_machine.proofs.Arguments.{held_numbers, held_none}
use Rattle.c_machine.proofs.Executing.{call_unready, call_spent, call_goes}
use Rattle.c_machine.proofs.configuration.Configuration.call.Goals as goal

pub returns-in_default : goal.returns-in_default
returns-in_default c =
    rw c.stuck.ensures
    (call_unready c.args.self.now c.args.target c.args.arguments.now c.args.function (held_none (ready c.args.target c.args.arguments.now (state_of c.args.self.now.memory)) (sym c.in_default.is ∙ (c.in_ok-cells.ensures {u = tt}))))

pub returns-then-self-eq0 : goal.returns-then-self-eq0
returns-then-self-eq0 c =
    let held = held_numbers (ready c.args.target c.args.arguments.now (state_of c.args.self.now.memory)) c.in-Some.cells (sym c.in-Some.is ∙ (c.in_ok-cells.ensures {u = tt})) in
    call_spent c.args.self.now c.args.target c.args.arguments.now c.args.function held.0 held.1 c.if-self-eq0.true

pub returns : goal.returns
returns c =
    let held = held_numbers (ready c.args.target c.args.arguments.now (state_of c.args.self.now.memory)) c.in-Some.cells (sym c.in-Some.is ∙ (c.in_ok-cells.ensures {u = tt})) in
    call_goes c.args.self.now c.args.target c.args.arguments.now c.args.function held.0 (c.args.self.now.left - 1) c.enter.result c.enter.new.self held.1 (omega (arith, c.if-self-eq0.false))
    (c.enter.ensures held.0 held.2 (weight (stmt.Call c.args.target c.args.arguments.now c.args.function) + work c.args.self.now.control))
