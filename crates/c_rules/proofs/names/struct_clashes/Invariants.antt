use Rattle.std.proofs.Common.{take, All}
use Rattle.c_tree.specs.Rules.{var_names, NamesClash}
use Rattle.c_rules.proofs.names.struct_clashes.Given as goal

-- no union so far clashes
abbrev pub invariant-loop-member : goal.invariant-loop-member
invariant-loop-member l = All (λ member. ¬ NamesClash (var_names member.choice)) (take l.member-index l.member-items)
