-- What the types of a core's expressions tell.
use Rattle.std.proofs.Common.{◌≡◌, ℕ, ◌%◌, ◌^◌, ◌-◌, ◌≤◌, Bool, true, false, Option, Some, None, refl, sym, ap, ◌∙◌, arith, if◌then◌else◌, is_some}
use Rattle.std.specs.Prelude.{ℤ, slice_get}
use Rattle.std.specs.Option.{option_and_then}
use Rattle.std.proofs.lemmas.Bool.{le-leb}
use Rattle.sl_core.specs.declared.tree.Core.{Core}
use Rattle.sl_run.specs.Statements.{gotten}
use Rattle.sl_core.specs.Sound.{Kind, NumberOf, Text, has_number, type_has, is_number_of, are_of_one_type}
use Rattle.c_tree.specs.Meaning.{is_int64}
use Rattle.sl_frames.specs.Promise.{HasOneType}
use Rattle.sl_frames.proofs.Keeps.Tests.{some_then, test_passed, only_type}

-- it is a number of some type
abbrev pub IsNumeric : Option Kind → Type 0
IsNumeric None = ⊥
IsNumeric (Some Text) = ⊥
IsNumeric (Some (NumberOf type)) = Unit {0}

-- what is a number of a type is a number
pub of_type : (type : ℕ) (kind : Option Kind) → is_number_of type kind ≡ true → IsNumeric kind
of_type type None h = let bad : false ≡ true = h in absurd (cc)
of_type type (Some Text) h = let bad : false ≡ true = h in absurd (cc)
of_type type (Some (NumberOf other)) h = tt

-- so are two of one type
pub first_numeric : (left right : Option Kind) → are_of_one_type left right ≡ true → IsNumeric left
first_numeric None right h = let bad : false ≡ true = h in absurd (cc)
first_numeric (Some Text) right h = let bad : false ≡ true = h in absurd (cc)
first_numeric (Some (NumberOf type)) right h = tt

pub second_numeric : (left right : Option Kind) → are_of_one_type left right ≡ true → IsNumeric right
second_numeric None right h = let bad : false ≡ true = h in absurd (cc)
second_numeric (Some Text) right h = let bad : false ≡ true = h in absurd (cc)
second_numeric (Some (NumberOf type)) right h = of_type type right h

-- a test without which there is no number
pub tested : (test : Bool) (kind : Option Kind) → IsNumeric (if test then kind else None) → test ≡ true
tested true kind h = refl
tested false kind h = absurd h

-- a number of an `int64_t` is one of 64 bits
pub number_fits : (core : Core) → HasOneType core → (type : ℕ) (number : ℤ) → type_has core type number ≡ true → is_int64 number ≡ true
number_fits core one type number h =
    let there = some_then (slice_get core.types type) (λ kind. if has_number number kind then Some kind else None) h in
    sym (ap (has_number number) (only_type core one type there.0 there.1)) ∙ test_passed (has_number number there.0) there.0 there.2

-- so is what there is of the input
pub gotten_fits : (byte : Option ℕ) → is_int64 (gotten byte) ≡ true
gotten_fits None = refl
gotten_fits (Some byte) = let small : byte % 256 ≤ 2 ^ 63 - 1 = omega arith in le-leb (byte % 256) (2 ^ 63 - 1) small

-- something that there is, and passes a test
pub some_if : {A : Type 0} (test : A → Bool) (got : Option A) → is_some (option_and_then (λ x. if test x then Some x else None) got) ≡ true → (x : A) × (got ≡ Some x) × (test x ≡ true)
some_if test got h = let there = some_then got (λ x. if test x then Some x else None) h in (there.0, there.1, test_passed (test there.0) there.0 there.2)
