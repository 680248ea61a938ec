use Rattle.std.proofs.Common.{◌≡◌, map, take}
use Rattle.c_tree.specs.Rules.{var_names}
use Rattle.c_rules.proofs.names.var_names.Given as goal

-- the names so far
abbrev pub invariant-loop-var : goal.invariant-loop-var
invariant-loop-var l = map (λ name. name.now) l.names.items ≡ var_names (take l.var-index l.vars)
