use Rattle.std.proofs.Common.{take, All}
use Rattle.c_rules.specs.Names.{StructClashes}
use Rattle.c_rules.proofs.names.breaks_names.Given as goal

-- no struct so far clashes
abbrev pub invariant-loop-item : goal.invariant-loop-item
invariant-loop-item l = All (λ item. ¬ StructClashes item) (take l.item-index l.item-items)
