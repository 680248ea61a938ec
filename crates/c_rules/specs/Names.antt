-- Tests of names.
use Rattle.std.specs.Prelude.{◌⊎◌, ℕ, List, Bool, Contains, map}
use Rattle.std.specs.List.{list_any}
use Rattle.std.specs.Str.{bytes_eq}
use Rattle.c_tree.specs.declared.tree.CStruct.{CStruct}
use Rattle.c_tree.specs.declared.tree.CMember.{CMember}
use Rattle.c_tree.specs.Words.{reserved_words}
use Rattle.c_tree.specs.Rules.{var_names, NamesClash}

-- a name is reserved
unfoldable pub is_reserved : List ℕ → Bool
is_reserved name = list_any (λ word. bytes_eq word name) reserved_words

-- the names of a struct's members clash, or those of a member that is a union
abbrev pub StructClashes : CStruct → Type 0
StructClashes struct =
    NamesClash (map (λ member. member.name) struct.members)
    ⊎ ((member : CMember) × Contains struct.members member × NamesClash (var_names member.choice))
