-- Tests of prototypes.
use Rattle.std.specs.Prelude.{ℕ, List, [], ◌∷◌, Bool, true, false, not, ◌==◌, ◌&&◌, ◌||◌, codes, length, slice_get}
use Rattle.std.specs.List.{list_any, list_all, zip, count_by}
use Rattle.std.specs.Option.{option_map_or}
use Rattle.std.specs.Str.{bytes_eq}
use Rattle.std.specs.Global.{Vec}
use Rattle.c_tree.specs.declared.tree.CFile.{CFile}
use Rattle.c_tree.specs.declared.tree.CFun.{CFun}
use Rattle.c_tree.specs.declared.tree.CVar.{CVar}
use Rattle.c_tree.specs.declared.tree.CType.TheVariants.{Int}
use Rattle.c_rules.specs.declared.naming.Names.{Names}
use Rattle.c_rules.specs.Naming.{numbers_named}
use Rattle.c_rules.specs.Types.{same_type}

-- whether two variables have the same name and type
abbrev pub same_var : CVar → CVar → Bool
same_var left right = bytes_eq left.name right.name && same_type left.kind right.kind

abbrev pub same_vars : List CVar → List CVar → Bool
same_vars left right = length left == length right && list_all (λ pair. same_var pair.0 pair.1) (zip left right)

-- a function and its prototype are alike
abbrev pub are_alike : CFun → CFun → Bool
are_alike proto function = bytes_eq proto.name function.name && same_type proto.result function.result && same_vars proto.params function.params

abbrev pub is_empty : {A : Type 0} → List A → Bool
is_empty [] = true
is_empty (x ∷ xs) = false

-- the function with which a run begins
abbrev pub is_start : CFun → Bool
is_start function = bytes_eq function.name (codes "sl_main") && not function.inline && same_type function.result (Int true 64) && is_empty function.params

-- a function that isn't inline has no prototype or two
abbrev pub lacks_proto : List CFun → CFun → Bool
lacks_proto protos function = not function.inline && not (count_by (λ proto. bytes_eq proto.name function.name) protos == 1)

-- the same with the numbers of the prototypes by their names
abbrev pub lacks_number : Names (Vec ℕ) → CFun → Bool
lacks_number protos function = not function.inline && not (length (numbers_named protos function.name) == 1)

-- a function isn't inline, and is like a prototype
abbrev pub is_function_of : CFun → CFun → Bool
is_function_of proto function = not function.inline && are_alike proto function

-- so is the function with this number
abbrev pub is_number_of : List CFun → CFun → ℕ → Bool
is_number_of functions proto number = option_map_or (is_function_of proto) (slice_get functions number) false

-- a prototype has no function like it
abbrev pub lacks_function : List CFun → CFun → Bool
lacks_function functions proto = not (list_any (is_function_of proto) functions)

-- 22
abbrev pub protos_broken : CFile → Bool
protos_broken file =
    list_any (lacks_proto file.protos) file.functions
    || list_any (lacks_function file.functions) file.protos
    || not (list_any is_start file.functions)
