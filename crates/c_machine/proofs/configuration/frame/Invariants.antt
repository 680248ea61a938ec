use Rattle.std.proofs.Common.{◌≡◌, ◌++◌, None, replicate}
use Rattle.c_machine.proofs.configuration.frame.Given as goal

abbrev pub invariant-loop : goal.invariant-loop
invariant-loop l = l.cells ≡ l.fn.cells ++ replicate l.counter None
