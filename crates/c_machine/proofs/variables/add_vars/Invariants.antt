use Rattle.std.proofs.Common.{◌≡◌, ◌+◌, List, ◌++◌, length, take}
use Rattle.c_tree.specs.declared.tree.CVar.{CVar}
use Rattle.c_machine.specs.Naming.{AreVars}
use Rattle.c_machine.proofs.variables.add_vars.Given as goal

-- the variables so far have their numbers
abbrev pub invariant-loop-var : goal.invariant-loop-var
invariant-loop-var l = record {
  counted : l.number ≡ l.first + l.var-index;
  named : (earlier : List CVar) → length earlier ≡ l.first → AreVars earlier l.initial.names → AreVars (earlier ++ take l.var-index l.vars) l.names;
}
