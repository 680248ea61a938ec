-- What tests of a core tell, where all its types are `int64_t`.
use Rattle.std.proofs.Common.{◌≡◌, ℕ, ℤ, ◌-◌, ◌^◌, ◌<◌, ◌≤◌, List, Bool, true, false, Option, Some, None, length, refl, subst, arith, All}
use Rattle.std.specs.Prelude.{pos, negsuc, int_le, is_some, slice_get, nat_lt, ◌==◌, if◌then◌else◌}
use Rattle.std.specs.Option.{option_and_then}
use Rattle.std.proofs.lemmas.Bool.{and_parts, ltb-true}
use Rattle.std.proofs.lemmas.Int.{ints}
use Rattle.std.proofs.lemmas.Option.{slice_get_within, get_or_from_slice_get}
use Rattle.sl_core.specs.declared.tree.Core.{Core}
use Rattle.sl_core.specs.declared.tree.CoreType.{CoreType}
use Rattle.sl_core.specs.declared.tree.CoreType.TheVariants.{Int}
use Rattle.sl_core.specs.declared.tree.CoreFun.{CoreFun}
use Rattle.sl_core.specs.declared.tree.CorePath.{CorePath}
use Rattle.sl_core.specs.Meaning.{root_of}
use Rattle.sl_core.specs.Sound.{has_number, type_has, Kind, NumberOf, Text, is_number_of, are_of_one_type, place_has, is_source_place}
use Rattle.c_tree.specs.Parts.{Halts}
use Rattle.c_tree.specs.WellFormed.{IsAction}
use Rattle.sl_frames.specs.Promise.{int64_type, HasOneType}

-- by cases of a test
pub by_test : (test : Bool) {P : Type 0} → (test ≡ true → P) → (test ≡ false → P) → P
by_test true chosen other = chosen refl
by_test false chosen other = other refl

-- where something comes of an option, there is something
pub some_then : {A B : Type 0} (o : Option A) (f : A → Option B) → is_some (option_and_then f o) ≡ true → (x : A) × (o ≡ Some x) × (is_some (f x) ≡ true)
some_then None f some = let no : false ≡ true = some in cc
some_then (Some x) f some = (x, refl, some)

-- where something comes of a test, it passed
pub test_passed : {A : Type 0} (test : Bool) (x : A) → is_some (if test then Some x else None) ≡ true → test ≡ true
test_passed true x some = refl
test_passed false x some = let no : false ≡ true = some in cc

-- what is there of a list that has it
pub of_all : {X : Type 0} (P : X → Type 0) (xs : List X) (i : ℕ) (x : X) → All P xs → slice_get xs i ≡ Some x → P x
of_all P xs i x all is = subst P (get_or_from_slice_get xs i x x is) (all i x (slice_get_within xs i x is))

-- a type of a core is this one
pub only_type : (core : Core) → HasOneType core → (kind : ℕ) (type : CoreType) → slice_get core.types kind ≡ Some type → type ≡ Int int64_type
only_type core one kind type is = of_all (λ type. type ≡ Int int64_type) core.types kind type one is

-- a number of 64 bits
abbrev pub IsSmall : ℤ → Type 0
IsSmall (pos number) = number ≤ 2 ^ 63 - 1
IsSmall (negsuc below) = below ≤ 2 ^ 63 - 1

small_from_test : (number : ℤ) → has_number number (Int int64_type) ≡ true → IsSmall number
small_from_test (pos number) has = let both = and_parts (int_le int64_type.lo (pos number)) (int_le (pos number) int64_type.hi) has in let high = both.1 in omega (arith, ints)
small_from_test (negsuc below) has = let both = and_parts (int_le int64_type.lo (negsuc below)) (int_le (negsuc below) int64_type.hi) has in let low = both.0 in omega (arith, ints)

-- a number of a type
pub small_number : (core : Core) → HasOneType core → (kind : ℕ) (number : ℤ) → type_has core kind number ≡ true → IsSmall number
small_number core one kind number has =
    let there = some_then (slice_get core.types kind) (λ type. if has_number number type then Some type else None) has in
    let passed = test_passed (has_number number there.0) there.0 there.2 in
    small_from_test number (subst (λ type. has_number number type ≡ true) (only_type core one kind there.0 there.1) passed)

-- a place has a variable
pub place_is : (function : CoreFun) (path : CorePath) (type : ℕ) → place_has function path type ≡ true → root_of path.root < length function.vars
place_is function path type has =
    let there = some_then (slice_get function.vars (root_of path.root)) (λ other. if other == type then Some other else None) has in
    slice_get_within function.vars (root_of path.root) there.0 there.1

-- a number is something
pub is_something : (type : ℕ) (kind : Option Kind) → is_number_of type kind ≡ true → is_some kind ≡ true
is_something type None is = let no : false ≡ true = is in cc
is_something type (Some kind) is = refl

-- and so are two of one type
pub left_is : (left right : Option Kind) → are_of_one_type left right ≡ true → is_some left ≡ true
left_is None right is = let no : false ≡ true = is in cc
left_is (Some kind) right is = refl

pub right_is : (left right : Option Kind) → are_of_one_type left right ≡ true → is_some right ≡ true
right_is None right is = let no : false ≡ true = is in cc
right_is (Some Text) right is = let no : false ≡ true = is in cc
right_is (Some (NumberOf type)) right is = is_something type right is

-- a halt at a place in the source can be in a text
pub halt_is : (kind file line : ℕ) → kind ≤ 255 → is_source_place file line ≡ true → IsAction (Halts kind file line)
halt_is kind file line small place =
    let both = and_parts (nat_lt file (2 ^ 32)) (nat_lt line (2 ^ 32)) place in
    let first = ltb-true file (2 ^ 32) both.0 in
    let second = ltb-true line (2 ^ 32) both.1 in
    (omega arith, omega arith, omega arith)
