use Rattle.std.proofs.Common.{◌≡◌, map, take}
use Rattle.c_tree.specs.declared.tree.CStruct.{CStruct}
use Rattle.c_rules.proofs.names.structs_clash.Given as goal

-- the names so far
abbrev pub invariant-loop-item : goal.invariant-loop-item
invariant-loop-item l = map (λ name. name.now) l.names.items ≡ map (λ (item : CStruct). item.name) (take l.item-index l.structs)
