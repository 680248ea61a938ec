use Rattle.std.proofs.Common.{◌≡◌, Some, map, take}
use Rattle.std.specs.Prelude.{option_map}
use Rattle.c_machine.specs.Values.{numbers}
use Rattle.c_machine.specs.Resume.{state_of}
use Rattle.c_machine.proofs.valuing.arguments.Given as goal

abbrev pub invariant-loop-e : goal.invariant-loop-e
invariant-loop-e l = option_map (map Some) (numbers (take l.e-index l.es) (state_of l.memory)) ≡ Some l.cells
