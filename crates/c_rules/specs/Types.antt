-- Tests of types and of names, and what is known of an expression.
use Rattle.std.specs.Prelude.{ℕ, List, Bool, true, false, not, ◌==◌, Option, Some, None, option_map, map}
use Rattle.std.specs.List.{find, list_any}
use Rattle.std.specs.Option.{is_some}
use Rattle.std.specs.Str.{bytes_eq}
use Rattle.c_tree.specs.declared.tree.CVar.{CVar}
use Rattle.c_tree.specs.declared.tree.CType.{CType}
use Rattle.c_tree.specs.declared.tree.CType.TheVariants.{Int, Void}
use Rattle.c_tree.specs.declared.tree.CExpr.{CExpr}
use Rattle.c_tree.specs.declared.tree.CStmt.{CStmt}
use Rattle.c_tree.specs.Parts.{Leaf, Constant, Reads, leaves}
use Rattle.c_tree.specs.Scope.{Scope}
use Rattle.c_tree.specs.Rules.{last_is, ends_function, is_word, type_of_place}

abbrev pub is_void : CType → Bool
is_void Void = true
is_void (Int signed width) = false

-- whether two types are the same
abbrev pub same_type : CType → CType → Bool
same_type (Int true width) (Int true other) = width == other
same_type (Int false width) (Int false other) = width == other
same_type (Int true width) (Int false other) = false
same_type (Int false width) (Int true other) = false
same_type (Int signed width) Void = false
same_type Void (Int signed width) = false
same_type Void Void = true

-- a type is given, and it isn't the one that is wanted
abbrev pub is_other : Option CType → CType → Bool
is_other None wanted = false
is_other (Some given) wanted = not (same_type given wanted)

-- two types are known, and they aren't the same
abbrev pub are_other : Option CType → Option CType → Bool
are_other given None = false
are_other given (Some wanted) = is_other given wanted

-- a type is known, and it isn't one of 64 bits
abbrev pub is_no_word : Option CType → Bool
is_no_word None = false
is_no_word (Some given) = not (is_word given)

-- the type of the first variable with this name
abbrev pub kind_in : List CVar → List ℕ → Option CType
kind_in vars name = option_map (λ var. var.kind) (find (λ var. bytes_eq var.name name) vars)

-- a leaf reads a variable that isn't declared
abbrev pub is_strange : Scope → Leaf → Bool
is_strange scope (Constant signed number) = false
is_strange scope (Reads place) = not (is_some (type_of_place scope place))

-- so does an expression
unfoldable pub reads_strange : Scope → CExpr → Bool
reads_strange scope e = list_any (is_strange scope) (leaves e)

-- whether there is an `else` behind which nothing comes
abbrev pub ends_else : Option (List CStmt) → Bool
ends_else None = false
ends_else (Some block) = last_is (map ends_function block)
