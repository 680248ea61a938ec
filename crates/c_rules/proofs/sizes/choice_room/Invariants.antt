use Rattle.std.proofs.Common.{map, take}
use Rattle.std.specs.Prelude.{max}
use Rattle.std.specs.List.{fold}
use Rattle.c_tree.specs.Bytes.{Extent, type_extent}
use Rattle.c_rules.specs.Sizes.{Holds}
use Rattle.c_rules.proofs.sizes.choice_room.Given as goal

-- the room of the members so far
abbrev pub invariant-loop-var : goal.invariant-loop-var
invariant-loop-var l = Holds l.room (fold (λ (so_far next : Extent). record { bytes = max so_far.bytes next.bytes; align = max so_far.align next.align }) (record { bytes = 0; align = 1 }) (map (λ var. type_extent var.kind) (take l.var-index l.choice)))
