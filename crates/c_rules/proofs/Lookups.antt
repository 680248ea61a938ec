-- What a name means, and what is known of expressions, one form at a time.
use Rattle.std.proofs.Common.{◌≡◌, ℕ, ◌<◌, ◌≤◌, ◌⊎◌, List, ◌++◌, Bool, true, false, not, ◌&&◌, ◌||◌, Option, Some, None, inl, inr, if◌then◌else◌, refl, sym, ap, ap₂, ◌∙◌, length, bytes_eq}
use Rattle.std.specs.Prelude.{option_map, nat_lt}
use Rattle.std.specs.List.{find, list_any, position, slice_get, position_or_len}
use Rattle.std.specs.Option.{option_and_then, option_or, is_some}
use Rattle.std.proofs.lemmas.List.Folds.{find_at, find-append, list_any-append}
use Rattle.std.proofs.lemmas.Bool.{cases_lt, lt-ltb, le-ltb}
use Rattle.std.proofs.lemmas.Option.{slice_get_past}
use Rattle.sl_num.specs.declared.comparing.Comparison.{Comparison}
use Rattle.c_tree.specs.declared.tree.CBinary.{CBinary}
use Rattle.c_tree.specs.declared.tree.CFile.{CFile}
use Rattle.c_tree.specs.declared.tree.CFun.{CFun}
use Rattle.c_tree.specs.declared.tree.CVar.{CVar}
use Rattle.c_tree.specs.declared.tree.CType.TheVariants.{Int}
use Rattle.c_tree.specs.declared.tree.CPlace.{CPlace}
use Rattle.c_tree.specs.declared.tree.CExpr.{CExpr}
use Rattle.c_tree.specs.declared.tree.CExpr.TheVariants.{Const, Read, Binary, Compare, Negate}
use Rattle.c_tree.specs.Parts.{leaves}
use Rattle.c_tree.specs.Scope.{Scope, scope_of, var_named, or_else}
use Rattle.c_tree.specs.Rules.{word, typed, operands_fit, operand_fits, type_of_name, type_of_place}
use Rattle.c_tree.proofs.Variants.{leaves_of_const, leaves_of_read, leaves_of_binary, leaves_of_compare, leaves_of_negate, typed_of_const, typed_of_read, typed_of_binary, typed_of_compare, typed_of_negate}
use Rattle.c_rules.specs.declared.around.Around.{Around}
use Rattle.c_rules.specs.Types.{kind_in, is_strange, reads_strange}
use Rattle.c_rules.specs.Naming.{item_named}
use Rattle.c_rules.specs.Found.{AreFound}

-- Names ---------------------------------------------------------------------------------------------------------------

-- the place of the first element that passes, where it is within the list and where it isn't
at_first : {X : Type 0} (xs : List X) (n : ℕ) → (n < length xs) ⊎ (length xs ≤ n) → option_and_then (slice_get xs) (if nat_lt n (length xs) then Some n else None) ≡ slice_get xs n
at_first xs n (inl less) = ap (λ b. option_and_then (slice_get xs) (if b then Some n else None)) (lt-ltb n (length xs) less)
at_first xs n (inr more) = ap (λ b. option_and_then (slice_get xs) (if b then Some n else None)) (le-ltb n (length xs) more) ∙ sym (slice_get_past xs n more)

-- the first element that passes
first_of : {X : Type 0} (p : X → Bool) (xs : List X) → option_and_then (slice_get xs) (position p xs) ≡ find p xs
first_of p xs = at_first xs (position_or_len p xs) (cases_lt (position_or_len p xs) (length xs)) ∙ sym (find_at p xs)

-- the type of the first variable with a name
pub kind_is : (vars : List CVar) (name : List ℕ) → kind_in vars name ≡ option_map (λ (var : CVar). var.kind) (var_named vars name)
kind_is vars name = ap (option_map (λ (var : CVar). var.kind)) (sym (first_of (λ (var : CVar). bytes_eq var.name name) vars))

-- two words for the first of two
or_same : {A : Type 0} (first second : Option A) → option_or first second ≡ or_else first second
or_same None second = refl
or_same (Some x) second = refl

-- a type of the first of two
kind_or : (first second : Option CVar) → option_map (λ (var : CVar). var.kind) (or_else first second) ≡ or_else (option_map (λ (var : CVar). var.kind) first) (option_map (λ (var : CVar). var.kind) second)
kind_or None second = refl
kind_or (Some var) second = refl

-- in one list behind another
pub kind_in_both : (vars others : List CVar) (name : List ℕ) → kind_in (vars ++ others) name ≡ or_else (kind_in vars name) (kind_in others name)
kind_in_both vars others name =
    let test = λ (var : CVar). bytes_eq var.name name
    in ap (option_map (λ (var : CVar). var.kind)) (find-append test vars others ∙ or_same (find test vars) (find test others)) ∙ kind_or (find test vars) (find test others)

-- the type that a name has in a function
pub type_at : (file : CFile) (function : CFun) (name : List ℕ) → type_of_name (scope_of file function) name ≡ or_else (kind_in (function.params ++ function.vars) name) (kind_in file.globals name)
type_at file function name =
    let test = λ (var : CVar). bytes_eq var.name name in
    let kind = λ (var : CVar). var.kind in
    ap (λ local. option_map kind (or_else local (var_named file.globals name))) (first_of test (function.params ++ function.vars))
    ∙ (ap (λ global. option_map kind (or_else (find test (function.params ++ function.vars)) global)) (first_of test file.globals)
    ∙ kind_or (find test (function.params ++ function.vars)) (find test file.globals))

-- it is found
pub type_found : (around : Around) (found : AreFound around) (name : List ℕ) → type_of_name (scope_of around.file.now around.function.now) name ≡ or_else (item_named around.locals.now name) (item_named around.globals.now name)
type_found around found name = type_at around.file.now around.function.now name ∙ sym (ap₂ or_else (found.locals name) (found.globals name))

-- Expressions ---------------------------------------------------------------------------------------------------------

module _ (scope : Scope) where
  pub type_of_const : (signed : Bool) (number : ℕ) → (typed scope (Const signed number)).type ≡ Some (Int signed 64)
  type_of_const signed number = ap (λ known. known.type) (typed_of_const scope signed number)

  pub fits_of_const : (signed : Bool) (number : ℕ) → (typed scope (Const signed number)).fits ≡ true
  fits_of_const signed number = ap (λ known. known.fits) (typed_of_const scope signed number)

  pub strange_of_const : (signed : Bool) (number : ℕ) → reads_strange scope (Const signed number) ≡ false
  unfolding reads_strange
  strange_of_const signed number = ap (list_any (is_strange scope)) (leaves_of_const signed number)

  pub type_of_read : (place : CPlace) → (typed scope (Read place)).type ≡ type_of_place scope place
  type_of_read place = ap (λ known. known.type) (typed_of_read scope place)

  pub fits_of_read : (place : CPlace) → (typed scope (Read place)).fits ≡ true
  fits_of_read place = ap (λ known. known.fits) (typed_of_read scope place)

  pub strange_of_read : (place : CPlace) → reads_strange scope (Read place) ≡ not (is_some (type_of_place scope place)) || false
  unfolding reads_strange
  strange_of_read place = ap (list_any (is_strange scope)) (leaves_of_read place)

  pub type_of_binary : (operator : CBinary) (left right : CExpr) → (typed scope (Binary operator left right)).type ≡ (typed scope left).type
  type_of_binary operator left right = ap (λ known. known.type) (typed_of_binary scope operator left right)

  pub fits_of_binary : (operator : CBinary) (left right : CExpr) → (typed scope (Binary operator left right)).fits ≡ (typed scope left).fits && (typed scope right).fits && operands_fit (typed scope left).type (typed scope right).type
  fits_of_binary operator left right = ap (λ known. known.fits) (typed_of_binary scope operator left right)

  pub strange_of_binary : (operator : CBinary) (left right : CExpr) → reads_strange scope (Binary operator left right) ≡ reads_strange scope left || reads_strange scope right
  unfolding reads_strange
  strange_of_binary operator left right = ap (list_any (is_strange scope)) (leaves_of_binary operator left right) ∙ list_any-append (is_strange scope) (leaves left) (leaves right)

  pub type_of_compare : (comparison : Comparison) (left right : CExpr) → (typed scope (Compare comparison left right)).type ≡ Some word
  type_of_compare comparison left right = ap (λ known. known.type) (typed_of_compare scope comparison left right)

  pub fits_of_compare : (comparison : Comparison) (left right : CExpr) → (typed scope (Compare comparison left right)).fits ≡ (typed scope left).fits && (typed scope right).fits && operands_fit (typed scope left).type (typed scope right).type
  fits_of_compare comparison left right = ap (λ known. known.fits) (typed_of_compare scope comparison left right)

  pub strange_of_compare : (comparison : Comparison) (left right : CExpr) → reads_strange scope (Compare comparison left right) ≡ reads_strange scope left || reads_strange scope right
  unfolding reads_strange
  strange_of_compare comparison left right = ap (list_any (is_strange scope)) (leaves_of_compare comparison left right) ∙ list_any-append (is_strange scope) (leaves left) (leaves right)

  pub type_of_negate : (operand : CExpr) → (typed scope (Negate operand)).type ≡ Some word
  type_of_negate operand = ap (λ known. known.type) (typed_of_negate scope operand)

  pub fits_of_negate : (operand : CExpr) → (typed scope (Negate operand)).fits ≡ (typed scope operand).fits && operand_fits (typed scope operand).type
  fits_of_negate operand = ap (λ known. known.fits) (typed_of_negate scope operand)

  pub strange_of_negate : (operand : CExpr) → reads_strange scope (Negate operand) ≡ reads_strange scope operand
  unfolding reads_strange
  strange_of_negate operand = ap (list_any (is_strange scope)) (leaves_of_negate operand)

pub ruleset all_known = (type_of_const, fits_of_const, strange_of_const, type_of_read, fits_of_read, strange_of_read, type_of_binary, fits_of_binary, strange_of_binary, type_of_compare, fits_of_compare, strange_of_compare, type_of_negate, fits_of_negate, strange_of_negate)
