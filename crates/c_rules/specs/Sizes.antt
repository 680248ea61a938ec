-- Sizes up to a bound, and tests of sizes.
use Rattle.std.specs.Prelude.{◌≡◌, ℕ, ◌<◌, ◌^◌, Bool, false, ◌||◌, ◌==◌, Option, Some, None, min, nat_lt}
use Rattle.std.specs.List.{list_any}
use Rattle.c_tree.specs.declared.tree.CFile.{CFile}
use Rattle.c_tree.specs.declared.tree.CStruct.{CStruct}
use Rattle.c_tree.specs.Bytes.{Extent, struct_extent}
use Rattle.c_rules.specs.declared.sizes.Room.{Room}

-- room that is an extent up to 2 ^ 40 bytes: more isn't counted
pub record Holds (room : Room) (extent : Extent) : Type 0 where
  pub bytes : room.bytes ≡ min (2 ^ 40) extent.bytes
  pub align : room.align ≡ extent.align
  pub small : extent.align < 32

-- a member is an array without an element, or with too many
abbrev pub is_count_wrong : Option ℕ → Bool
is_count_wrong None = false
is_count_wrong (Some count) = count == 0 || nat_lt 16777216 count

-- a struct has too many bytes, or such a member
unfoldable pub is_too_large : CStruct → Bool
is_too_large struct = nat_lt 16777216 (struct_extent struct).bytes || list_any (λ member. is_count_wrong member.count) struct.members

-- 13
abbrev pub sizes_broken : CFile → Bool
sizes_broken file = list_any is_too_large file.structs
