use Rattle.std.proofs.Common.{take}
use Rattle.c_rules.specs.Inside.{BreaksAmong}
use Rattle.c_rules.specs.Least.{IsFirst}
use Rattle.c_rules.specs.Naming.{AreEarlier}
use Rattle.c_rules.proofs.checking.first_broken.Given as goal

-- the first of what is broken outside functions and in the functions so far, whose names are known
abbrev pub invariant-loop-index : goal.invariant-loop-index
invariant-loop-index l = record {
  first : IsFirst (BreaksAmong l.file (take l.index l.functions)) l.best;
  earlier : AreEarlier (take l.index l.functions) l.names;
}
