use Rattle.std.proofs.Common.{take, flat_map}
use Rattle.sl_plain.specs.Program.{declared_in}
use Rattle.sl_plain.specs.Numbering.{Declares}
use Rattle.sl_plain.proofs.lowering.declarations.+declare.Given as goal

-- the statements so far were declared
abbrev pub invariant-declare_block-loop-stmt : goal.invariant-declare_block-loop-stmt
invariant-declare_block-loop-stmt l = Declares (flat_map declared_in (take l.stmt-index l.stmts)) l.initial.variables l.variables
