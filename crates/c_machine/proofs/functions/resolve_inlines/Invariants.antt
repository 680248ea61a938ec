use Rattle.std.proofs.Common.{take}
use Rattle.c_machine.specs.Resolved.{InlinesOf}
use Rattle.c_machine.proofs.functions.resolve_inlines.Given as goal

-- the inline functions so far are resolved
abbrev pub invariant-loop-function : goal.invariant-loop-function
invariant-loop-function l = InlinesOf l.globals (take l.function-index l.functions) l.inlines
