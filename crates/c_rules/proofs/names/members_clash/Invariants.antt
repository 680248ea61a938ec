use Rattle.std.proofs.Common.{◌≡◌, map, take}
use Rattle.c_tree.specs.declared.tree.CMember.{CMember}
use Rattle.c_rules.proofs.names.members_clash.Given as goal

-- the names so far
abbrev pub invariant-loop-member : goal.invariant-loop-member
invariant-loop-member l = map (λ name. name.now) l.names.items ≡ map (λ (member : CMember). member.name) (take l.member-index l.members)
