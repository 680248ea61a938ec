use Rattle.std.proofs.Common.{map, take}
use Rattle.std.specs.List.{fold}
use Rattle.c_tree.specs.Bytes.{extend, choice_extent}
use Rattle.c_rules.specs.Sizes.{Holds}
use Rattle.c_rules.proofs.sizes.struct_room.Given as goal

-- the room of the members so far
abbrev pub invariant-loop-member : goal.invariant-loop-member
invariant-loop-member l = Holds l.room (fold extend (record { bytes = 0; align = 1 }) (map (λ member. choice_extent member member.choice) (take l.member-index l.member-items)))
