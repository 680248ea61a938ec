-- The numbers of functions by their names, and what of all functions is so of those with a name.
use Rattle.std.proofs.Common.{◌≡◌, ℕ, suc, ◌+◌, List, [], ◌∷◌, ◌++◌, Option, None, Some, Bool, true, false, not, ◌||◌, cond, if◌then◌else◌, refl, sym, ap, ap₂, ◌∙◌, arith, length, map, append_assoc, append-nil, length-append}
use Rattle.std.specs.Prelude.{slice_get, ◌==◌}
use Rattle.std.specs.List.{list_any, filter, count_by}
use Rattle.std.specs.Option.{option_and_then, option_map_or}
use Rattle.std.specs.Str.{bytes_eq}
use Rattle.std.specs.Global.{Vec}
use Rattle.std.proofs.lemmas.Bool.{ne_eqb}
use Rattle.std.proofs.lemmas.List.{length-map}
use Rattle.std.proofs.lemmas.List.Sums.{length-filter}
use Rattle.c_tree.specs.declared.tree.CFun.{CFun}
use Rattle.c_rules.specs.declared.naming.Names.{Names}
use Rattle.c_rules.specs.Least.{least, least_in}
use Rattle.c_rules.specs.Bodies.{is_named}
use Rattle.c_rules.specs.Naming.{item_named, numbers_from, listed, numbers_named, AreNumbered}
use Rattle.c_rules.proofs.Keeping.{same_text}

-- One function more -------------------------------------------------------------------------------------------------------

one : (first : ℕ) (b : Bool) → (if b then first ∷ [] else []) ≡ (if b then (first + 0) ∷ [] else [])
one first true = let e : first ≡ first + 0 = omega arith in ap (λ n. n ∷ []) e
one first false = refl

more : (first n m : ℕ) (here b : Bool) (long short : List ℕ) → n ≡ m → long ≡ short ++ (if b then n ∷ [] else []) → (if here then first ∷ long else long) ≡ (if here then first ∷ short else short) ++ (if b then m ∷ [] else [])
more first n m true b long short same is = ap (λ rest. first ∷ rest) (is ∙ ap (λ n. short ++ (if b then n ∷ [] else [])) same)
more first n m false b long short same is = is ∙ ap (λ n. short ++ (if b then n ∷ [] else [])) same

-- the numbers with one function more at the end
pub numbers_push : (first : ℕ) (functions : List CFun) (function : CFun) (name : List ℕ) → numbers_from first (functions ++ function ∷ []) name ≡ numbers_from first functions name ++ (if is_named name function then (first + length functions) ∷ [] else [])
numbers_push first [] function name = one first (is_named name function)
numbers_push first (other ∷ functions) function name =
    more first ((first + 1) + length functions) (first + suc (length functions)) (is_named name other) (is_named name function)
    (numbers_from (first + 1) (functions ++ function ∷ []) name) (numbers_from (first + 1) functions name) (omega arith) (numbers_push (first + 1) functions function name)

-- where no function is
pub numbers_none : (numbers : Names (Vec ℕ)) → ((name : List ℕ) → item_named numbers name ≡ None) → AreNumbered [] numbers
numbers_none numbers none name = ap listed (none name)

-- where one more gets its number
module _ (functions : List CFun) (function : CFun) (old mid new : Names (Vec ℕ)) (same : Vec ℕ) (number : ℕ) (counted : length functions ≡ number) (are : AreNumbered functions old) (pushed : same.items ≡ numbers_named old function.name ++ number ∷ []) where
  step : (name : List ℕ) (b : Bool) → (b ≡ true → function.name ≡ name) → listed (if b then Some same else (if b then None else item_named old name)) ≡ numbers_from 0 functions name ++ (if b then (0 + length functions) ∷ [] else [])
  step name true this =
      let e : number ≡ 0 + length functions = omega (arith, counted)
      in pushed ∙ ap₂ (λ (numbers : List ℕ) (n : ℕ). numbers ++ n ∷ []) (ap (numbers_named old) (this refl) ∙ are name) e
  step name false this = are name ∙ sym (append-nil (numbers_from 0 functions name))

  pub numbers_more : ((name : List ℕ) → item_named mid name ≡ (if bytes_eq function.name name then None else item_named old name)) → ((name : List ℕ) → item_named new name ≡ (if bytes_eq function.name name then Some same else item_named mid name)) → AreNumbered (functions ++ function ∷ []) new
  numbers_more took set name =
      ap listed (set name ∙ ap (λ o. if bytes_eq function.name name then Some same else o) (took name))
      ∙ (step name (bytes_eq function.name name) (same_text function.name name) ∙ sym (numbers_push 0 functions function name))

-- Whether one has a name ------------------------------------------------------------------------------------------------------

some_here : (b : Bool) (first : ℕ) (rest : List ℕ) (any : Bool) → not (length rest == 0) ≡ any → not (length (if b then first ∷ rest else rest) == 0) ≡ b || any
some_here true first rest any h = ap not (ne_eqb (length (first ∷ rest)) 0 (λ e. omega arith))
some_here false first rest any h = h

-- there is one
pub numbers_any : (first : ℕ) (functions : List CFun) (name : List ℕ) → not (length (numbers_from first functions name) == 0) ≡ list_any (is_named name) functions
numbers_any first [] name = refl
numbers_any first (function ∷ functions) name = some_here (is_named name function) first (numbers_from (first + 1) functions name) (list_any (is_named name) functions) (numbers_any (first + 1) functions name)

-- The functions with a name --------------------------------------------------------------------------------------------------

get_mid : {X : Type 0} (before : List X) (x : X) (behind : List X) → slice_get (before ++ x ∷ behind) (length before) ≡ Some x
get_mid [] x behind = refl
get_mid (y ∷ before) x behind = get_mid before x behind

-- one function more before them
filter_more : (all : List CFun) (function : CFun) (first : ℕ) (numbers : List ℕ) (functions : List CFun) (b : Bool) → slice_get all first ≡ Some function → map (slice_get all) numbers ≡ map Some functions → map (slice_get all) (if b then first ∷ numbers else numbers) ≡ map Some (cond b (function ∷ functions) functions)
filter_more all function first numbers functions true here behind = ap₂ (λ (x : Option CFun) (xs : List (Option CFun)). x ∷ xs) here behind
filter_more all function first numbers functions false here behind = behind

-- they are those that stand at the numbers
numbers_filter : (before functions : List CFun) (name : List ℕ) → map (slice_get (before ++ functions)) (numbers_from (length before) functions name) ≡ map Some (filter (is_named name) functions)
numbers_filter before [] name = refl
numbers_filter before (function ∷ functions) name =
    let e : length before + 1 ≡ length (before ++ function ∷ []) = omega (arith, length-append before (function ∷ [])) in
    let behind =
    ap₂ (λ (all : List CFun) (first : ℕ). map (slice_get all) (numbers_from first functions name)) (sym (append_assoc before (function ∷ []) functions)) e
    ∙ numbers_filter (before ++ function ∷ []) functions name
    in filter_more (before ++ function ∷ functions) function (length before) (numbers_from (length before + 1) functions name) (filter (is_named name) functions) (is_named name function) (get_mid before function functions) behind

-- so many have the name
pub numbers_count : (functions : List CFun) (name : List ℕ) → length (numbers_from 0 functions name) ≡ count_by (is_named name) functions
numbers_count functions name =
    sym (length-map (numbers_from 0 functions name) (slice_get functions))
    ∙ (ap length (numbers_filter [] functions name)
    ∙ (length-map (filter (is_named name) functions) Some ∙ length-filter (is_named name) functions))

module _ {A B : Type 0} (broken : B → Option ℕ) (f : A → B) where
  least_map : (xs : List A) → least_in broken (map f xs) ≡ least_in (λ x. broken (f x)) xs
  least_map [] = refl
  least_map (x ∷ xs) = ap (least (broken (f x))) (least_map xs)

module _ {A B : Type 0} (test : B → Bool) (f : A → B) where
  any_map : (xs : List A) → list_any test (map f xs) ≡ list_any (λ x. test (f x)) xs
  any_map [] = refl
  any_map (x ∷ xs) = ap (λ rest. test (f x) || rest) (any_map xs)

module _ {A : Type 0} (test : A → Bool) (broken : A → Option ℕ) (none : (x : A) → test x ≡ false → broken x ≡ None) where
  least_kept : (x : A) (some all : List A) (b : Bool) → test x ≡ b → least_in broken some ≡ least_in broken all → least_in broken (cond b (x ∷ some) some) ≡ least (broken x) (least_in broken all)
  least_kept x some all true is same = ap (least (broken x)) same
  least_kept x some all false is same = same ∙ sym (ap (λ rule. least rule (least_in broken all)) (none x is))

  least_filter : (xs : List A) → least_in broken (filter test xs) ≡ least_in broken xs
  least_filter [] = refl
  least_filter (x ∷ xs) = least_kept x (filter test xs) xs (test x) refl (least_filter xs)

module _ {A : Type 0} (test p : A → Bool) (none : (x : A) → test x ≡ false → p x ≡ false) where
  any_kept : (x : A) (some all : List A) (b : Bool) → test x ≡ b → list_any p some ≡ list_any p all → list_any p (cond b (x ∷ some) some) ≡ p x || list_any p all
  any_kept x some all true is same = ap (λ rest. p x || rest) same
  any_kept x some all false is same = same ∙ sym (ap (λ here. here || list_any p all) (none x is))

  any_filter : (xs : List A) → list_any p (filter test xs) ≡ list_any p xs
  any_filter [] = refl
  any_filter (x ∷ xs) = any_kept x (filter test xs) xs (test x) refl (any_filter xs)

module _ (functions : List CFun) (name : List ℕ) where
  -- where functions with other names break nothing, the least rule is that of the numbers
  pub least_numbered : (broken : CFun → Option ℕ) → ((function : CFun) → is_named name function ≡ false → broken function ≡ None) → least_in (λ number. option_and_then broken (slice_get functions number)) (numbers_from 0 functions name) ≡ least_in broken functions
  least_numbered broken none =
      sym (least_map (option_and_then broken) (slice_get functions) (numbers_from 0 functions name))
      ∙ (ap (least_in (option_and_then broken)) (numbers_filter [] functions name)
      ∙ (least_map (option_and_then broken) Some (filter (is_named name) functions)
      ∙ least_filter (is_named name) broken none functions))

  -- where none of them passes, one passes among the numbers
  pub any_numbered : (p : CFun → Bool) → ((function : CFun) → is_named name function ≡ false → p function ≡ false) → list_any (λ number. option_map_or p (slice_get functions number) false) (numbers_from 0 functions name) ≡ list_any p functions
  any_numbered p none =
      let passes = λ (function : Option CFun). option_map_or p function false in
      sym (any_map passes (slice_get functions) (numbers_from 0 functions name))
      ∙ (ap (list_any passes) (numbers_filter [] functions name)
      ∙ (any_map passes Some (filter (is_named name) functions)
      ∙ any_filter (is_named name) p none functions))
