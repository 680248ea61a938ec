use Rattle.std.proofs.Common.{List, ◌++◌, take}
use Rattle.c_tree.specs.declared.tree.CVar.{CVar}
use Rattle.c_rules.specs.Naming.{AreKinds}
use Rattle.c_rules.proofs.kinds.add_kinds.Given as goal

-- the variables so far have their kinds
abbrev pub invariant-loop-var : goal.invariant-loop-var
invariant-loop-var l = (earlier : List CVar) → AreKinds earlier l.initial.kinds → AreKinds (earlier ++ take l.var-index l.vars) l.kinds
