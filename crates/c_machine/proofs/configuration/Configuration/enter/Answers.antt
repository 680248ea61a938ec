use Rattle.std.proofs.Common.{◌-◌, None, ℤ, Option, List, sym, ap, ◌∙◌, ◌++◌, replicate, arith}
use Rattle.c_machine.specs.declared.program.Frame.{Frame}
use Rattle.c_machine.proofs.Executing.{enter_missing, enter_goes}
use Rattle.c_machine.proofs.configuration.Configuration.enter.Goals as goal

pub returns-in_default : goal.returns-in_default
returns-in_default c numbers same bound =
    rw c.stuck.ensures (enter_missing c.args.self.now c.args.target c.args.number numbers (c.args.self.now.left - 1) bound (sym (c.in_default.ensures {u = tt}).value))

pub returns : goal.returns
returns c numbers same bound =
    let framed : List (Option ℤ) → Frame = λ cells. record { owner = c.args.number; cells = cells ++ replicate c.in-Some.function.now.vars None } in
    rw (c.in_ok-begin.ensures.stacked, c.in_ok-body.ensures)
    (enter_goes c.args.self.now c.args.target c.args.number numbers (c.args.self.now.left - 1) bound c.in-Some.function.now c.in_ok-frame.frame c.requires.next (omega (arith, c.requires.turn)) (sym (c.in-Some.ensures {u = tt}).value) ((c.in_ok-frame.ensures {u = tt}) ∙ ap framed same))
