-- What a check of a tree owes.
use Rattle.std.specs.Prelude.{◌≡◌, Result, Ok, Err}
use Rattle.c_tree.specs.declared.tree.CFile.{CFile}
use Rattle.c_tree.specs.declared.fault.CFault.{CFault}
use Rattle.c_tree.specs.declared.fault.CFault.TheVariants.{NotC, Mem}
use Rattle.c_tree.specs.Rules.{KeepsRules, IsFirstBroken}
use Rattle.c_rules.specs.declared.checking.Checked.{Checked}

-- a file that was checked keeps all rules; else the first that it breaks is told, or memory ran out
abbrev pub Checks : CFile → Result Checked CFault → Type 0
Checks file (Ok checked) = (checked.file ≡ file) × KeepsRules file
Checks file (Err (NotC broken)) = IsFirstBroken file broken.rule broken.line
Checks file (Err Mem) = Unit {0}
