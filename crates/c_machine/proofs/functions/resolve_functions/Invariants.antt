use Rattle.std.proofs.Common.{take}
use Rattle.c_machine.specs.Resolved.{callees_of, FunctionsAre}
use Rattle.c_machine.proofs.functions.resolve_functions.Given as goal

-- the functions so far are resolved
abbrev pub invariant-loop-function : goal.invariant-loop-function
invariant-loop-function l = FunctionsAre l.globals (callees_of l.numbers l.inlines) (take l.function-index l.functions) l.resolved
