use Rattle.std.proofs.Common.{take}
use Rattle.c_machine.specs.Naming.{callee_named, place_named}
use Rattle.c_machine.specs.Related.{DoAs}
use Rattle.c_machine.proofs.statements.+blocks.Given as goal

-- the statements so far are resolved
abbrev pub invariant-resolve_block-loop-stmt : goal.invariant-resolve_block-loop-stmt
invariant-resolve_block-loop-stmt l = DoAs (place_named l.around) (callee_named l.around) (take l.stmt-index l.stmts) l.resolved
