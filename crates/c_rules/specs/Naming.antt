-- What is found by names: items, the kinds of variables, and the numbers of functions.
use Rattle.std.specs.Prelude.{◌≡◌, ℕ, ◌+◌, List, [], ◌∷◌, Bool, false, Option, None, Some, if◌then◌else◌}
use Rattle.std.specs.List.{list_any}
use Rattle.std.specs.Option.{is_some}
use Rattle.std.specs.BTreeMap.{get_by_text}
use Rattle.std.specs.Global.{Vec}
use Rattle.c_tree.specs.declared.tree.CFun.{CFun}
use Rattle.c_tree.specs.declared.tree.CVar.{CVar}
use Rattle.c_tree.specs.declared.tree.CType.{CType}
use Rattle.c_rules.specs.declared.naming.Names.{Names}
use Rattle.c_rules.specs.Types.{kind_in}
use Rattle.c_rules.specs.Bodies.{is_named, is_inline_among}

-- the item with this name
abbrev pub item_named : {T : Type 0} → Names T → List ℕ → Option T
item_named names name = get_by_text names.items name

-- these are the kinds of the variables of a list: of several with one name, that of the first
abbrev pub AreKinds : List CVar → Names CType → Type 0
AreKinds vars kinds = (name : List ℕ) → item_named kinds name ≡ kind_in vars name

-- the numbers of the functions of a list that have this name, where the first one has the number first
abbrev pub numbers_from : ℕ → List CFun → List ℕ → List ℕ
numbers_from first [] name = []
numbers_from first (function ∷ functions) name = if is_named name function then first ∷ numbers_from (first + 1) functions name else numbers_from (first + 1) functions name

abbrev pub listed : Option (Vec ℕ) → List ℕ
listed None = []
listed (Some numbers) = numbers.items

-- the numbers that are found for a name
abbrev pub numbers_named : Names (Vec ℕ) → List ℕ → List ℕ
numbers_named numbers name = listed (item_named numbers name)

-- these are the numbers of the functions of a list, from 0: of several with one name, all of them in order
abbrev pub AreNumbered : List CFun → Names (Vec ℕ) → Type 0
AreNumbered functions numbers = (name : List ℕ) → numbers_named numbers name ≡ numbers_from 0 functions name

-- an item says that there is an inline function
abbrev pub says_inline : Option Bool → Bool
says_inline None = false
says_inline (Some inline) = inline

-- these are the names of some functions, and whether an inline one is among those with a name
pub record AreEarlier (functions : List CFun) (names : Names Bool) : Type 0 where
  pub named : (name : List ℕ) → is_some (item_named names name) ≡ list_any (is_named name) functions
  pub inline : (name : List ℕ) → says_inline (item_named names name) ≡ is_inline_among functions name
