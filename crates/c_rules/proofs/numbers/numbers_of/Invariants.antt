use Rattle.std.proofs.Common.{take}
use Rattle.c_rules.specs.Naming.{AreNumbered}
use Rattle.c_rules.proofs.numbers.numbers_of.Given as goal

-- the functions so far have their numbers
abbrev pub invariant-loop-number : goal.invariant-loop-number
invariant-loop-number l = AreNumbered (take l.number l.functions) l.numbers
