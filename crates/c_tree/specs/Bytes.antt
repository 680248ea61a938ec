-- How many bytes things have: types, structs and frames. A member stands at the next multiple of its alignment, and a size is
-- rounded up to the alignment, which is the greatest of the members'.
use Rattle.std.specs.Prelude.{ℕ, ◌+◌, ◌-◌, ◌*◌, ◌/◌, List, [], ◌∷◌, ◌++◌, Option, Some, None, max, map, reverse, ◌&&◌, if◌then◌else◌}
use Rattle.std.specs.List.{flat_map, list_any, fold}
use Rattle.std.specs.Str.{bytes_eq}
use Rattle.c_tree.specs.declared.tree.CFile.{CFile}
use Rattle.c_tree.specs.declared.tree.CStruct.{CStruct}
use Rattle.c_tree.specs.declared.tree.CMember.{CMember}
use Rattle.c_tree.specs.declared.tree.CVar.{CVar}
use Rattle.c_tree.specs.declared.tree.CType.{CType}
use Rattle.c_tree.specs.declared.tree.CType.TheVariants.{Int, Void}
use Rattle.c_tree.specs.declared.tree.CFun.{CFun}
use Rattle.c_tree.specs.Parts.{Action, Calls, actions_in}

-- how many bytes something has, and of which number its place is a multiple
pub record Extent : Type 0 where
  pub bytes : ℕ
  pub align : ℕ

-- the next multiple
abbrev pub round_up : ℕ → ℕ → ℕ
round_up n multiple = (n + (multiple - 1)) / multiple * multiple

-- an integer has as many bytes as its width says, and stands at a multiple of them
abbrev pub type_extent : CType → Extent
type_extent (Int signed width) = record { bytes = width / 8; align = width / 8 }
type_extent Void = record { bytes = 0; align = 1 }

-- behind what there is so far, one more
abbrev pub extend : Extent → Extent → Extent
extend so_far next = record { bytes = round_up so_far.bytes next.align + next.bytes; align = max so_far.align next.align }

-- rounded up to the alignment
abbrev pub rounded : Extent → Extent
rounded extent = record { bytes = round_up extent.bytes extent.align; align = extent.align }

-- one behind the other
abbrev pub in_a_row : List Extent → Extent
in_a_row extents = rounded (fold extend (record { bytes = 0; align = 1 }) extents)

-- all at one place
abbrev pub at_one_place : List Extent → Extent
at_one_place extents = rounded (fold (λ so_far next. record { bytes = max so_far.bytes next.bytes; align = max so_far.align next.align }) (record { bytes = 0; align = 1 }) extents)

-- so many elements
abbrev pub times : Option ℕ → Extent → Extent
times None extent = extent
times (Some count) extent = record { bytes = count * extent.bytes; align = extent.align }

abbrev pub choice_extent : CMember → List CVar → Extent
choice_extent member [] = times member.count (type_extent member.kind)
choice_extent member (first ∷ others) = at_one_place (map (λ var. type_extent var.kind) (first ∷ others))

abbrev pub struct_extent : CStruct → Extent
struct_extent struct = in_a_row (map (λ member. choice_extent member member.choice) struct.members)

-- the bytes of a frame: its parameters and then its variables, rounded up to a multiple of 8, and 16 more
abbrev pub frame_bytes : CFun → ℕ
frame_bytes function = round_up (in_a_row (map (λ var. type_extent var.kind) (function.params ++ function.vars))).bytes 8 + 16

-- the names that an action calls
abbrev pub called_by : Action → List (List ℕ)
called_by (Calls target name arguments) = name ∷ []
called_by other = []

-- the names that a function calls
abbrev pub called : CFun → List (List ℕ)
called function = flat_map called_by (actions_in function.body)

-- the most bytes that calls of these names can have live in inline functions, of those in the list. Each function in it calls
-- only those behind it
abbrev pub chain_bytes : List CFun → List (List ℕ) → ℕ
chain_bytes [] names = 0
chain_bytes (function ∷ earlier) names =
    if function.inline && list_any (bytes_eq function.name) names
    then max (frame_bytes function + chain_bytes earlier (called function)) (chain_bytes earlier names)
    else chain_bytes earlier names

-- the charge of a frame: its own bytes, and the most that inline functions have below it
abbrev pub charge : CFile → CFun → ℕ
charge file function = frame_bytes function + chain_bytes (reverse file.functions) (called function)
