use Rattle.std.proofs.Common.{◌≡◌, None, replicate}
use Rattle.c_machine.proofs.starting.unwritten.Given as goal

abbrev pub invariant-loop : goal.invariant-loop
invariant-loop l = l.cells ≡ replicate l.counter None
