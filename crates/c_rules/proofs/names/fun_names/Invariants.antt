use Rattle.std.proofs.Common.{◌≡◌, map, take}
use Rattle.c_tree.specs.Rules.{fun_names}
use Rattle.c_rules.proofs.names.fun_names.Given as goal

-- the names so far
abbrev pub invariant-loop-function : goal.invariant-loop-function
invariant-loop-function l = map (λ name. name.now) l.names.items ≡ fun_names (take l.function-index l.functions)
