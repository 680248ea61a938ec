use Rattle.std.proofs.Common.{refl}
use Rattle.c_machine.specs.declared.machine.Machine.{Machine}
use Rattle.c_machine.proofs.Beginning.{opened, still_fresh, started_as}
use Rattle.c_machine.proofs.machine.Machine.begin.Goals as goal

pub start-requires : goal.start-requires
start-requires c = still_fresh c.in_ok-at.at c.args.program c.args.turns (c.in_ok-at.ensures {u = tt})

pub returns : goal.returns
returns c =
    let machine : Machine = record { at = c.start.new.self; turns = c.args.turns; standing = c.standing_after-standing.result } in
    opened c.in_ok-start.field-0 c.args.program c.args.turns machine refl c.standing_after-standing.ensures
    (started_as c.in_ok-start.field-0 c.in_ok-at.at c.start.new.self c.args.program c.args.turns (c.in_ok-at.ensures {u = tt}) (c.in_ok-start.ensures {u = tt}))
