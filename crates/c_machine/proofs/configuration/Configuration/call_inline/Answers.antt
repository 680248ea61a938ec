use Rattle.std.proofs.Common.{None, sym, ◌∙◌, ◌++◌, replicate}
use Rattle.c_machine.specs.Resume.{state_of}
use Rattle.c_machine.specs.Stepped.{ready}
use Rattle.c_machine.proofs.Arguments.{held_numbers, held_none}
use Rattle.c_machine.proofs.Executing.{inline_unready, inline_goes}
use Rattle.c_machine.proofs.configuration.Configuration.call_inline.Goals as goal

pub returns-in_default : goal.returns-in_default
returns-in_default c =
    rw c.stuck.ensures
    (inline_unready c.args.self.now c.args.target c.args.arguments.now c.args.vars c.args.gives c.args.body (held_none (ready c.args.target c.args.arguments.now (state_of c.args.self.now.memory)) (sym c.in_default.is ∙ (c.in_ok-cells.ensures {u = tt}))))

pub returns : goal.returns
returns c =
    let held = held_numbers (ready c.args.target c.args.arguments.now (state_of c.args.self.now.memory)) c.in-Some.cells (sym c.in-Some.is ∙ (c.in_ok-cells.ensures {u = tt})) in
    rw c.in_ok-begin.ensures.stacked
    (inline_goes c.args.self.now c.args.target c.args.arguments.now c.args.vars c.args.gives c.args.body held.0 c.in_ok-frame.frame c.requires held.1
    ((c.in_ok-frame.ensures {u = tt}) ∙ (λ k. record { owner = c.owner.ensures k; cells = held.2 k ++ replicate c.args.vars None })))
