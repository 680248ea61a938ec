-- What the names of functions mean in the C of a core.
use Rattle.std.proofs.Common.{◌≡◌, ℕ, zero, suc, ◌+◌, ◌<◌, List, [], ◌∷◌, ◌++◌, length, Bool, true, false, not, ◌&&◌, ◌==◌, Option, Some, refl, sym, ap, ◌∙◌, subst, arith, bytes_eq, codes, map, reverse, if◌then◌else◌, eqb-true}
use Rattle.std.specs.Prelude.{ℤ, slice_get}
use Rattle.std.specs.List.{position, IsDistinct, AllByRecursion}
use Rattle.std.proofs.lemmas.List.{reverse-append, append_assoc}
use Rattle.std.proofs.lemmas.Map.Keys.{IsDistinct-head, IsDistinct-tail}
use Rattle.sl_run.specs.Run.{Act, choose, ◌>>◌}
use Rattle.sl_core.specs.declared.tree.Core.{Core}
use Rattle.sl_core.specs.declared.tree.CoreFun.{CoreFun}
use Rattle.c_tree.specs.declared.tree.CFile.{CFile}
use Rattle.c_tree.specs.declared.tree.CFun.{CFun}
use Rattle.c_tree.specs.Mangled.{mangled}
use Rattle.c_tree.specs.Memory.{Tree, Memory, Number}
use Rattle.c_tree.specs.Meaning.{begin_inline, body, inline_callees, number_of, numbered_call, callees}
use Rattle.c_tree.proofs.Mangled.{distinguishes}
use Rattle.c_helpers.specs.Functions.{helper_functions, sum_fits, difference_fits, product_fits, quotient_fits, remainder, digit, print}
use Rattle.c_helpers.proofs.Called.{laws}
use Rattle.c_tree.proofs.Names.{names_differ, differ_names}
use Rattle.sl_frames.specs.Names.{function_name}
use Rattle.sl_frames.specs.Translated.{of_each, function_of}
use Rattle.sl_frames.proofs.Keeps.Tests.{of_all}
use Rattle.sl_core.proofs.Slots.{some_same, get_left, get_right}
use Rattle.sl_frames.proofs.Meaning.Finding.{found_at, found_none, before_or_behind}
use Rattle.sl_frames.proofs.Meaning.Naming.{same_name}
use Rattle.sl_frames.proofs.Meaning.Helped.{Helps}

-- Functions in a row --------------------------------------------------------------------------------------------------

module _ {A : Type 0} (of : ℕ → CoreFun → A) where
  pub get_each : (first : ℕ) (functions : List CoreFun) (k number : ℕ) (function : CoreFun) → number ≡ first + k → slice_get functions k ≡ Some function → slice_get (of_each of first functions) k ≡ Some (of number function)
  get_each first [] k number function is there = cc
  get_each first (f ∷ functions) zero number function is there =
      let same : f ≡ function = some_same f function there in
      let first_is : first ≡ number = omega arith in
      ap (λ (number : ℕ). Some (of number f)) first_is ∙ ap (λ (f : CoreFun). Some (of number f)) same
  get_each first (f ∷ functions) (suc k) number function is there = get_each (suc first) functions k number function (omega arith) there

  pub from_each : (first : ℕ) (functions : List CoreFun) (k number : ℕ) (x : A) → number ≡ first + k → slice_get (of_each of first functions) k ≡ Some x → (function : CoreFun) × (slice_get functions k ≡ Some function) × (x ≡ of number function)
  from_each first [] k number x is there = cc
  from_each first (f ∷ functions) zero number x is there =
      let first_is : first ≡ number = omega arith in
      (f, refl, sym (some_same (of first f) x there) ∙ ap (λ (number : ℕ). of number f) first_is)
  from_each first (f ∷ functions) (suc k) number x is there = from_each (suc first) functions k number x (omega arith) there

-- none is inline
abbrev pub Outer : List CFun → Type 0
Outer [] = Unit {0}
Outer (function ∷ functions) = (function.inline ≡ false) × Outer functions

pub each_outer : (core : Core) (first : ℕ) (functions : List CoreFun) → Outer (of_each (function_of core) first functions)
each_outer core first [] = tt
each_outer core first (f ∷ functions) = (refl, each_outer core (suc first) functions)

-- what isn't inline isn't called as what is
skip_one : (file : CFile) (function : CFun) (rest : List CFun) (name : List ℕ) (args : List Tree) → function.inline ≡ false → inline_callees file (function ∷ rest) name args ≡ inline_callees file rest name args
skip_one file function rest name args outer =
    ap (λ (inline : Bool). choose (inline && bytes_eq function.name name) (begin_inline function args >> body file function (inline_callees file rest)) (inline_callees file rest name args)) outer

reverse_more : (function : CFun) (functions rest : List CFun) → reverse (function ∷ functions) ++ rest ≡ reverse functions ++ (function ∷ rest)
reverse_more function functions rest = ap (λ (list : List CFun). list ++ rest) (reverse-append (function ∷ []) functions) ∙ append_assoc (reverse functions) (function ∷ []) rest

skip_outer : (file : CFile) (functions rest : List CFun) (name : List ℕ) (args : List Tree) → Outer functions → inline_callees file (reverse functions ++ rest) name args ≡ inline_callees file rest name args
skip_outer file [] rest name args outer = refl
skip_outer file (function ∷ functions) rest name args outer =
    ap (λ (list : List CFun). inline_callees file list name args) (reverse_more function functions rest)
    ∙ skip_outer file functions (function ∷ rest) name args outer.1
    ∙ skip_one file function rest name args outer.0

-- Names of functions --------------------------------------------------------------------------------------------------

-- a mangled name begins with `m`
mangled_other : (name rest : List ℕ) → bytes_eq (mangled name) (115 ∷ rest) ≡ false
unfolding mangled
mangled_other name rest = refl

other_mangled : (name rest : List ℕ) → bytes_eq (115 ∷ rest) (mangled name) ≡ false
unfolding mangled
other_mangled name rest = refl

-- the name of a function isn't another that begins with `s`
own_name : (core : Core) (number : ℕ) (function : CoreFun) (rest : List ℕ) → bytes_eq (codes "sl_main") (115 ∷ rest) ≡ false → bytes_eq (function_name core number function) (115 ∷ rest) ≡ false
own_name core number function rest other = by (number == core.entry)
  where
    by : (entry : Bool) → bytes_eq (if entry then codes "sl_main" else mangled function.name) (115 ∷ rest) ≡ false
    by true = other
    by false = mangled_other function.name rest

-- names that differ, by their places
distinct_at : (functions : List CoreFun) (j k : ℕ) (g f : CoreFun) → IsDistinct bytes_eq (map (λ (function : CoreFun). function.name) functions) → j < k → slice_get functions j ≡ Some g → slice_get functions k ≡ Some f → bytes_eq g.name f.name ≡ false
distinct_at [] j k g f distinct less first second = cc
distinct_at (h ∷ functions) j zero g f distinct less first second = absurd (omega arith)
distinct_at (h ∷ functions) zero (suc k) g f distinct less first second =
    let same : h ≡ g = some_same h g first in
    subst (λ (h : CoreFun). bytes_eq h.name f.name ≡ false) same
    (behind (λ (name : List ℕ). bytes_eq h.name name ≡ false) functions k (IsDistinct-head bytes_eq h.name (map (λ (function : CoreFun). function.name) functions) distinct) second)
  where
    behind : (P : List ℕ → Type 0) (functions : List CoreFun) (k : ℕ) → AllByRecursion P (map (λ (function : CoreFun). function.name) functions) → slice_get functions k ≡ Some f → P f.name
    behind P [] k all there = cc
    behind P (x ∷ xs) zero all there = let same : x ≡ f = some_same x f there in subst (λ (x : CoreFun). P x.name) same all.0
    behind P (x ∷ xs) (suc k) all there = behind P xs k all.1 there
distinct_at (h ∷ functions) (suc j) (suc k) g f distinct less first second =
    distinct_at functions j k g f (IsDistinct-tail bytes_eq h.name (map (λ (function : CoreFun). function.name) functions) distinct) (omega arith) first second

-- the C names of two functions differ
own_differ : (core : Core) → IsDistinct bytes_eq (map (λ (function : CoreFun). function.name) core.functions) → (j k : ℕ) (g f : CoreFun) → j < k → slice_get core.functions j ≡ Some g → slice_get core.functions k ≡ Some f
    → bytes_eq (function_name core j g) (function_name core k f) ≡ false
own_differ core distinct j k g f less first second = by (j == core.entry) (k == core.entry) refl refl
  where
    by : (entry entry' : Bool) → (j == core.entry) ≡ entry → (k == core.entry) ≡ entry' → bytes_eq (if entry then codes "sl_main" else mangled g.name) (if entry' then codes "sl_main" else mangled f.name) ≡ false
    by true true is is' = let a : j ≡ core.entry = eqb-true j core.entry is in let b : k ≡ core.entry = eqb-true k core.entry is' in absurd (omega arith)
    by true false is is' = other_mangled f.name (codes "l_main")
    by false true is is' = mangled_other g.name (codes "l_main")
    by false false is is' =
        differ_names (mangled g.name) (mangled f.name)
        (λ same. names_differ g.name f.name (distinct_at core.functions j k g f distinct less first second) (distinguishes.names g.name f.name same))

-- the number of inline functions
length_helpers : length helper_functions ≡ 7
unfolding helper_functions
length_helpers = refl

and_false : (test : Bool) → test && false ≡ false
and_false true = refl
and_false false = refl

module _ (core : Core) (file : CFile) (functions_are : file.functions ≡ helper_functions ++ of_each (function_of core) 0 core.functions) where
  abbrev own : List CFun
  own = of_each (function_of core) 0 core.functions

  abbrev is_called : List ℕ → CFun → Bool
  is_called name function = not function.inline && bytes_eq function.name name

  -- an inline function isn't called by number
  helper_fails : (name : List ℕ) (j : ℕ) (y : CFun) → slice_get helper_functions j ≡ Some y → is_called name y ≡ false
  helper_fails name j y there = ap (λ (inline : Bool). not inline && bytes_eq y.name name) (of_all (λ (function : CFun). function.inline ≡ true) helper_functions j y laws.inline there)

  -- what stands at a place, which is that of an inline function or of one of the core
  either : (name : List ℕ) (j : ℕ) (y : CFun) → slice_get (helper_functions ++ own) j ≡ Some y
      → ((k : ℕ) (g : CoreFun) → j ≡ 7 + k → slice_get core.functions k ≡ Some g → bytes_eq (function_name core k g) name ≡ false) → is_called name y ≡ false
  either name j y there others =
      let long : length helper_functions ≡ 7 = length_helpers in
      before_or_behind j 7 {P = is_called name y ≡ false}
      (λ before. helper_fails name j y (sym (get_left helper_functions own j (omega arith)) ∙ there))
      (λ k behind.
      let from = from_each (function_of core) 0 core.functions k k y (omega arith) (sym (get_right helper_functions own k j (omega arith)) ∙ there) in
      ap (is_called name) from.2 ∙ others k from.0 behind from.1)

  -- the number of the C of a function
  pub number_is : IsDistinct bytes_eq (map (λ (function : CoreFun). function.name) core.functions) → (k : ℕ) (f : CoreFun) → slice_get core.functions k ≡ Some f → number_of file (function_name core k f) ≡ Some (7 + k)
  number_is distinct k f there =
      let long : length helper_functions ≡ 7 = length_helpers in
      ap (λ (functions : List CFun). position (is_called (function_name core k f)) functions) functions_are
      ∙ found_at (is_called (function_name core k f)) (helper_functions ++ own) (7 + k) (function_of core k f)
      (get_right helper_functions own k (7 + k) (omega arith) ∙ get_each (function_of core) 0 core.functions k k f (omega arith) there)
      (same_name (function_name core k f))
      (λ j y less there'. either (function_name core k f) j y there' (λ i g is first. own_differ core distinct i k g f (omega arith) first there))

  -- the function with this number
  pub function_at : (k : ℕ) (f : CoreFun) → slice_get core.functions k ≡ Some f → slice_get file.functions (7 + k) ≡ Some (function_of core k f)
  function_at k f there =
      let long : length helper_functions ≡ 7 = length_helpers in
      ap (λ (functions : List CFun). slice_get functions (7 + k)) functions_are
      ∙ get_right helper_functions own k (7 + k) (omega arith)
      ∙ get_each (function_of core) 0 core.functions k k f (omega arith) there

  -- Inline functions --------------------------------------------------------------------------------------------------

  module _ (call : ℕ → List Tree → Act Memory (Option ℤ)) where
    -- a call by a name that is none of the core's is one of an inline function
    helper_called : (rest : List ℕ) (args : List Tree) → bytes_eq (codes "sl_main") (115 ∷ rest) ≡ false → callees file call (115 ∷ rest) args ≡ inline_callees file (reverse helper_functions) (115 ∷ rest) args
    helper_called rest args other =
        let name : List ℕ = 115 ∷ rest in
        ap (λ (functions : List CFun). numbered_call file call name (position (is_called name) functions) args) functions_are
        ∙ ap (λ (number : Option ℕ). numbered_call file call name number args)
        (found_none (is_called name) (helper_functions ++ own) (λ j y there. either name j y there (λ k g is there'. own_name core k g rest other)))
        ∙ ap (λ (functions : List CFun). inline_callees file (reverse functions) name args) functions_are
        ∙ ap (λ (functions : List CFun). inline_callees file functions name args) (reverse-append helper_functions own)
        ∙ skip_outer file own (reverse helper_functions) name args (each_outer core 0 core.functions)

    sum_called : (args : List Tree) → inline_callees file (reverse helper_functions) (codes "sl_sum_fits") args ≡ (begin_inline sum_fits args >> body file sum_fits (inline_callees file []))
    unfolding helper_functions
    sum_called args = refl

    difference_called : (args : List Tree) → inline_callees file (reverse helper_functions) (codes "sl_difference_fits") args ≡ (begin_inline difference_fits args >> body file difference_fits (inline_callees file (sum_fits ∷ [])))
    unfolding helper_functions
    difference_called args = refl

    product_called : (args : List Tree) → inline_callees file (reverse helper_functions) (codes "sl_product_fits") args ≡ (begin_inline product_fits args >> body file product_fits (inline_callees file (difference_fits ∷ sum_fits ∷ [])))
    unfolding helper_functions
    product_called args = refl

    quotient_called : (args : List Tree) → inline_callees file (reverse helper_functions) (codes "sl_quotient_fits") args ≡ (begin_inline quotient_fits args >> body file quotient_fits (inline_callees file (product_fits ∷ difference_fits ∷ sum_fits ∷ [])))
    unfolding helper_functions
    quotient_called args = refl

    remainder_called : (args : List Tree) → inline_callees file (reverse helper_functions) (codes "sl_remainder") args ≡ (begin_inline remainder args >> body file remainder (inline_callees file (quotient_fits ∷ product_fits ∷ difference_fits ∷ sum_fits ∷ [])))
    unfolding helper_functions
    remainder_called args = refl

    print_called : (args : List Tree) → inline_callees file (reverse helper_functions) (codes "sl_print") args ≡ (begin_inline print args >> body file print (inline_callees file (digit ∷ remainder ∷ quotient_fits ∷ product_fits ∷ difference_fits ∷ sum_fits ∷ [])))
    unfolding helper_functions
    print_called args = refl

    -- calls of the inline functions by their names
    pub helps : Helps (callees file call)
    helps = record {
      sum = λ a b p q t memory. ap (λ run. run t memory) (helper_called _ (Number a ∷ Number b ∷ []) refl ∙ sum_called (Number a ∷ Number b ∷ [])) ∙ laws.sum file a b p q _ t memory;
      difference = λ a b p q t memory. ap (λ run. run t memory) (helper_called _ (Number a ∷ Number b ∷ []) refl ∙ difference_called (Number a ∷ Number b ∷ [])) ∙ laws.difference file a b p q _ t memory;
      product = λ a b p q t memory. ap (λ run. run t memory) (helper_called _ (Number a ∷ Number b ∷ []) refl ∙ product_called (Number a ∷ Number b ∷ [])) ∙ laws.product file a b p q _ t memory;
      quotient = λ a b some p q t memory. ap (λ run. run t memory) (helper_called _ (Number a ∷ Number b ∷ []) refl ∙ quotient_called (Number a ∷ Number b ∷ [])) ∙ laws.quotient file a b p q some _ t memory;
      rest = λ a b some p q t memory. ap (λ run. run t memory) (helper_called _ (Number a ∷ Number b ∷ []) refl ∙ remainder_called (Number a ∷ Number b ∷ [])) ∙ laws.rest file a b p q some _ t memory;
      print = λ a p t memory. ap (λ run. run t memory) (helper_called _ (Number a ∷ []) refl ∙ print_called (Number a ∷ [])) ∙ laws.print file a p _ t memory (laws.reached file (remainder ∷ quotient_fits ∷ product_fits ∷ difference_fits ∷ sum_fits ∷ []));
    }
