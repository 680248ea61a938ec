use Rattle.std.proofs.Common.{◌≡◌, take}
use Rattle.c_rules.specs.Bodies.{of_block, rule_of}
use Rattle.c_rules.proofs.bodies.+blocks.Given as goal

-- the statements so far were looked at
abbrev pub invariant-of_block-loop-stmt : goal.invariant-of_block-loop-stmt
invariant-of_block-loop-stmt l = l.best ≡ of_block (rule_of l.around.file.now l.around.earlier.now l.around.function.now) (take l.stmt-index l.block)
