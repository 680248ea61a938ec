use Rattle.std.proofs.Common.{take}
use Rattle.c_machine.specs.Naming.{place_named}
use Rattle.c_machine.specs.Related.{ArgumentsAre}
use Rattle.c_machine.proofs.expressions.resolve_arguments.Given as goal

-- the arguments so far are resolved
abbrev pub invariant-loop-argument : goal.invariant-loop-argument
invariant-loop-argument l = ArgumentsAre (place_named l.around) (take l.argument-index l.arguments) l.resolved
