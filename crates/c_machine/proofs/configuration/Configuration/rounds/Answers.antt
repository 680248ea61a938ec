use Rattle.std.proofs.Common.{rules, FitsSigned, ap, ◌∙◌, arith}
use Rattle.std.specs.Int.{w128}
use Rattle.std.proofs.lemmas.Int.{to_z-of_z}
use Rattle.c_machine.specs.State.{with_held}
use Rattle.c_machine.specs.Resume.{state_of}
use Rattle.c_machine.proofs.Steps.{rounds_left, rounds_end, rounds_go}
use Rattle.c_machine.proofs.configuration.Configuration.rounds.Goals as goal

pub returns-in-Some : goal.returns-in-Some
returns-in-Some c = rounds_left c.args.self.now c.args.slot c.args.next c.args.end c.args.stmts c.in-Some.flow (c.in-Some.ensures {u = tt})

pub returns-then-next-end : goal.returns-then-next-end
returns-then-next-end c =
    let fits : FitsSigned w128 c.from.result = search rules in
    let stored = rw to_z-of_z at c.store.ensures in
    rounds_end c.args.self.now c.args.slot c.args.next c.args.end c.args.stmts c.store.new.self (c.in_default.ensures {u = tt}) c.if-next-end.true
    (stored ∙ ap (λ number. with_held c.args.slot number (state_of c.args.self.now.memory)) c.from.ensures)

pub returns : goal.returns
returns c =
    let fits : FitsSigned w128 c.from.result = search rules in
    let stored = rw to_z-of_z at c.store.ensures in
    rw (c.in_ok-go_round.ensures.stacked, c.in_ok-round.ensures)
    (rounds_go c.args.self.now c.args.slot c.args.next c.args.end c.args.stmts c.store.new.self (c.in_default.ensures {u = tt}) (omega (arith, c.if-next-end.false))
    (stored ∙ ap (λ number. with_held c.args.slot number (state_of c.args.self.now.memory)) c.from.ensures))
