-- What the tests of types, names and calls mean.
use Rattle.std.proofs.Common.{◌≡◌, ◌≢◌, ◌⊎◌, ℕ, List, [], ◌∷◌, ◌++◌, Bool, true, false, not, ◌||◌, Option, Some, None, Decides, refl, sym, subst, ap, ◌∙◌, ⊎_elim, Contains, map, bytes_eq}
use Rattle.std.specs.Prelude.{option_map}
use Rattle.std.specs.List.{list_any, flat_map}
use Rattle.std.specs.Option.{is_some}
use Rattle.std.proofs.lemmas.Bool.{false≢true}
use Rattle.std.proofs.lemmas.Bool.Decides.{Decides-eqb, Decides-like, Decides-not, Decides-or, Decides-at}
use Rattle.std.proofs.lemmas.List.Elements.{Contains-append_left, Contains-append_right, Contains-append_cases}
use Rattle.std.proofs.lemmas.List.Folds.{list_any-append}
use Rattle.std.proofs.lemmas.Slice.Eq.{bytes_eq-Decides}
use Rattle.c_tree.specs.declared.tree.CVar.{CVar}
use Rattle.c_tree.specs.declared.tree.CType.{CType}
use Rattle.c_tree.specs.declared.tree.CType.TheVariants.{Int, Void}
use Rattle.c_tree.specs.declared.tree.CPlace.{CPlace}
use Rattle.c_tree.specs.declared.tree.CPlace.TheVariants.{Name}
use Rattle.c_tree.specs.declared.tree.CExpr.{CExpr}
use Rattle.c_tree.specs.Parts.{Leaf, Constant, Reads, leaves}
use Rattle.c_tree.specs.Scope.{Scope, variable}
use Rattle.c_tree.specs.Rules.{var_names, NamesRead, typed, type_of_place, is_word, ArgumentsMisfit}
use Rattle.c_rules.specs.Types.{is_void, same_type, is_other, are_other, is_no_word, is_strange, reads_strange}
use Rattle.c_rules.specs.Bodies.{is_var, misfits, result_misfits}
use Rattle.c_tree.proofs.Lists.{in_none, first_in}
use Rattle.c_rules.proofs.Anys.{any_holds, behind_in, in_cases}

-- Lists -------------------------------------------------------------------------------------------------------------------

-- what stands in a list made of another
pub in_map : {X Y : Type 0} (f : X → Y) (xs : List X) (y : Y) → Contains (map f xs) y → (x : X) × Contains xs x × (f x ≡ y)
in_map f [] y among = absurd (in_none y among)
in_map {X} f (x ∷ xs) y among =
    in_cases ((z : X) × Contains (x ∷ xs) z × (f z ≡ y)) y (f x) (map f xs) (λ same. (x, first_in x xs, same))
    (λ rest. let found = in_map f xs y rest in (found.0, behind_in found.0 x xs found.1, found.2)) among

pub map_in : {X Y : Type 0} (f : X → Y) (xs : List X) (x : X) → Contains xs x → Contains (map f xs) (f x)
map_in f [] x among = absurd (in_none x among)
map_in f (y ∷ ys) x among =
    in_cases (Contains (map f (y ∷ ys)) (f x)) x y ys (λ same. subst (λ z. Contains (f y ∷ map f ys) (f z)) same (first_in (f y) (map f ys)))
    (λ rest. behind_in (f x) (f y) (map f ys) (map_in f ys x rest)) among

-- what stands in lists made of the elements of another
pub in_flat : {X Y : Type 0} (f : X → List Y) (xs : List X) (y : Y) → Contains (flat_map f xs) y → (x : X) × Contains xs x × Contains (f x) y
in_flat f [] y among = absurd (in_none y among)
in_flat f (x ∷ xs) y among =
    ⊎_elim (λ here. (x, first_in x xs, here)) (λ rest. let found = in_flat f xs y rest in (found.0, behind_in found.0 x xs found.1, found.2))
    (Contains-append_cases (f x) (flat_map f xs) y among)

pub flat_in : {X Y : Type 0} (f : X → List Y) (xs : List X) (x : X) (y : Y) → Contains xs x → Contains (f x) y → Contains (flat_map f xs) y
flat_in f [] x y among of = absurd (in_none x among)
flat_in f (z ∷ zs) x y among of =
    in_cases (Contains (flat_map f (z ∷ zs)) y) x z zs (λ same. Contains-append_left (f z) (flat_map f zs) y (subst (λ w. Contains (f w) y) (sym same) of))
    (λ rest. Contains-append_right (f z) (flat_map f zs) y (flat_in f zs x y rest of)) among

-- something has this name
pub any_named : {X : Type 0} (f : X → List ℕ) (xs : List X) (name : List ℕ) → Decides (list_any (λ x. bytes_eq (f x) name) xs) (Contains (map f xs) name)
any_named f xs name =
    let some = any_holds (λ x. bytes_eq (f x) name) (λ x. f x ≡ name) (λ x. bytes_eq-Decides (f x) name) xs
    in (λ passed. let found = some.0 passed in subst (Contains (map f xs)) found.2 (map_in f xs found.0 found.1), λ among. some.1 (in_map f xs name among))

-- Types -------------------------------------------------------------------------------------------------------------------

-- no test passes, and there is nothing to pass it
pub never : {P : Type 0} → ¬ P → Decides false P
never none = (λ passed. absurd (false≢true passed), λ holds. absurd (none holds))

pub same_type_holds : (left right : CType) → Decides (same_type left right) (left ≡ right)
same_type_holds (Int true width) (Int true other) = let decides = Decides-eqb width other in (λ passed. ap (Int true) (decides.0 passed), λ same. decides.1 (cc))
same_type_holds (Int false width) (Int false other) = let decides = Decides-eqb width other in (λ passed. ap (Int false) (decides.0 passed), λ same. decides.1 (cc))
same_type_holds (Int true width) (Int false other) = never (λ same. cc)
same_type_holds (Int false width) (Int true other) = never (λ same. cc)
same_type_holds (Int true width) Void = never (λ same. cc)
same_type_holds (Int false width) Void = never (λ same. cc)
same_type_holds Void (Int true width) = never (λ same. cc)
same_type_holds Void (Int false width) = never (λ same. cc)
same_type_holds Void Void = (λ _. refl, λ _. refl)

pub is_void_holds : (kind : CType) → Decides (is_void kind) (kind ≡ Void)
is_void_holds Void = (λ _. refl, λ _. refl)
is_void_holds (Int signed width) = never (λ same. cc)

-- something is known, and it isn't what is wanted
abbrev pub IsOther : Option CType → CType → Type 0
IsOther given wanted = (other : CType) × (given ≡ Some other) × (other ≢ wanted)

pub is_other_holds : (given : Option CType) (wanted : CType) → Decides (is_other given wanted) (IsOther given wanted)
is_other_holds None wanted = never (λ (other, is, differs). cc)
is_other_holds (Some given) wanted =
    Decides-like (not (same_type given wanted)) (λ differs. (given, refl, differs)) (λ (other, is, differs) same. let this : given ≡ other = cc in differs (sym this ∙ same))
    (Decides-not (same_type given wanted) (same_type_holds given wanted))

pub are_other_holds : (given wanted : Option CType) → Decides (are_other given wanted) ((kind : CType) × (wanted ≡ Some kind) × IsOther given kind)
are_other_holds given None = never (λ (kind, is, differs). cc)
are_other_holds given (Some wanted) =
    Decides-like (is_other given wanted) (λ other. (wanted, refl, other)) (λ (kind, is, other). let this : kind ≡ wanted = cc in subst (IsOther given) this other)
    (is_other_holds given wanted)

-- a test that isn't passed
pub not_holds : (passed : Bool) → Decides (not passed) (passed ≡ false)
not_holds true = never (λ same. cc)
not_holds false = (λ _. refl, λ _. refl)

pub is_no_word_holds : (given : Option CType) → Decides (is_no_word given) ((other : CType) × (given ≡ Some other) × (is_word other ≡ false))
is_no_word_holds None = never (λ (other, is, unfit). cc)
is_no_word_holds (Some given) =
    Decides-like (not (is_word given)) (λ unfit. (given, refl, unfit)) (λ (other, is, unfit). let this : other ≡ given = cc in subst (λ kind. is_word kind ≡ false) this unfit) (not_holds (is_word given))

-- Names -------------------------------------------------------------------------------------------------------------------

none_holds : {X Y : Type 0} (f : X → Y) (given : Option X) → Decides (not (is_some (option_map f given))) (given ≡ None)
none_holds f None = (λ _. refl, λ _. refl)
none_holds f (Some x) = never (λ same. cc)

module _ (scope : Scope) where
  -- a place isn't declared
  abbrev pub PlaceUnknown : CPlace → Type 0
  PlaceUnknown place = (name : List ℕ) × (place ≡ Name name) × (variable scope name ≡ None)

  pub place_holds : (place : CPlace) → Decides (not (is_some (type_of_place scope place))) (PlaceUnknown place)
  place_holds (Name name) =
      Decides-like (not (is_some (type_of_place scope (Name name)))) (λ none. (name, refl, none))
      (λ (other, is, none). let this : other ≡ name = cc in subst (λ w. variable scope w ≡ None) this none)
      (none_holds (λ (var : CVar). var.kind) (variable scope name))

  -- a leaf reads what isn't declared
  abbrev LeafUnknown : Leaf → Type 0
  LeafUnknown (Constant signed number) = ⊥
  LeafUnknown (Reads place) = PlaceUnknown place

  leaf_holds : (leaf : Leaf) → Decides (is_strange scope leaf) (LeafUnknown leaf)
  leaf_holds (Constant signed number) = never (λ none. none)
  leaf_holds (Reads place) = place_holds place

  -- an expression reads what isn't declared
  abbrev pub ExprUnknown : CExpr → Type 0
  ExprUnknown e = (name : List ℕ) × NamesRead e name × (variable scope name ≡ None)

  leaf_named : (e : CExpr) (leaf : Leaf) → Contains (leaves e) leaf → LeafUnknown leaf → ExprUnknown e
  leaf_named e (Constant signed number) among unknown = absurd unknown
  leaf_named e (Reads place) among (name, is, none) = (name, subst (λ p. Contains (leaves e) (Reads p)) is among, none)

  pub expr_holds : (e : CExpr) → Decides (reads_strange scope e) (ExprUnknown e)
  unfolding reads_strange
  expr_holds e =
      let some = any_holds (is_strange scope) LeafUnknown leaf_holds (leaves e)
      in (λ passed. let found = some.0 passed in leaf_named e found.0 found.1 found.2, λ (name, read, none). some.1 (Reads (Name name), read, (name, refl, none)))

  -- Calls -------------------------------------------------------------------------------------------------------------------

  pub misfits_holds : (arguments : List CExpr) (params : List CVar) → Decides (misfits scope arguments params) (ArgumentsMisfit scope arguments params)
  misfits_holds [] [] = never (λ none. none)
  misfits_holds [] (param ∷ params) = (λ _. tt, λ _. refl)
  misfits_holds (argument ∷ arguments) [] = (λ _. tt, λ _. refl)
  misfits_holds (argument ∷ arguments) (param ∷ params) =
      Decides-or (is_other (typed scope argument).type param.kind) (misfits scope arguments params)
      (is_other_holds (typed scope argument).type param.kind) (misfits_holds arguments params)

  -- what a call gives doesn't fit its place
  abbrev pub ResultMisfits : Option CPlace → CType → Type 0
  ResultMisfits target result = (place : CPlace) × (target ≡ Some place) × ((result ≡ Void) ⊎ ((kind : CType) × (type_of_place scope place ≡ Some kind) × (kind ≢ result)))

  pub result_holds : (target : Option CPlace) (result : CType) → Decides (result_misfits scope target result) (ResultMisfits target result)
  result_holds None result = never (λ (place, is, bad). cc)
  result_holds (Some place) result =
      Decides-like (is_void result || is_other (type_of_place scope place) result) (λ bad. (place, refl, bad))
      (λ (other, is, bad). let this : other ≡ place = cc in subst (λ p. (result ≡ Void) ⊎ ((kind : CType) × (type_of_place scope p ≡ Some kind) × (kind ≢ result))) this bad)
      (Decides-or (is_void result) (is_other (type_of_place scope place) result) (is_void_holds result) (is_other_holds (type_of_place scope place) result))

-- a parameter or a variable has this name
pub local_holds : (params vars : List CVar) (name : List ℕ) → Decides (is_var params name || is_var vars name) (Contains (var_names (params ++ vars)) name)
local_holds params vars name =
    Decides-at (is_var params name || is_var vars name) (is_var (params ++ vars) name) (sym (list_any-append (λ var. bytes_eq var.name name) params vars))
    (any_named (λ (var : CVar). var.name) (params ++ vars) name)
