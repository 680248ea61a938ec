use Rattle.std.proofs.Common.{◌≡◌, take}
use Rattle.c_machine.specs.Resolved.{AreNumbers}
use Rattle.c_machine.proofs.functions.number_functions.Given as goal

-- the functions so far have their numbers
abbrev pub invariant-loop-function : goal.invariant-loop-function
invariant-loop-function l = record {
  counted : l.number ≡ l.function-index;
  named : AreNumbers (take l.function-index l.functions) l.names;
}
