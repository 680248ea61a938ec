-- What the names of variables and temporaries mean in the C of a function.
use Rattle.std.proofs.Common.{◌≡◌, ℕ, zero, suc, ◌+◌, ◌^◌, ◌<◌, List, ◌++◌, length, true, false, Option, Some, refl, sym, ap, ◌∙◌, subst, arith, bytes_eq}
use Rattle.std.specs.Prelude.{slice_get}
use Rattle.std.specs.Option.{option_and_then}
use Rattle.std.proofs.lemmas.Slice.Eq.{bytes_eq-Decides}
use Rattle.c_tree.specs.declared.tree.CVar.{CVar}
use Rattle.c_tree.specs.Scope.{number_named, var_named, or_else}
use Rattle.c_tree.specs.Meaning.{var_is_signed}
use Rattle.sl_frames.specs.Names.{variable_name, temporary_name}
use Rattle.sl_frames.specs.Translated.{declared, named_from}
use Rattle.sl_frames.proofs.Keeps.Names.{variables_differ, temporaries_differ, variable_no_temporary}
use Rattle.sl_core.proofs.Slots.{some_same, get_left, get_right}
use Rattle.sl_frames.proofs.Meaning.Finding.{found_at, before_or_behind}
use Rattle.sl_frames.proofs.Meaning.Frames.{Where, Named}

module _ (name : ℕ → List ℕ) where
  get_named : (first count i number : ℕ) → i < count → number ≡ first + i → slice_get (named_from name first count) i ≡ Some (declared (name number))
  get_named first zero i number within is = absurd (omega arith)
  get_named first (suc count) zero number within is = let same : first ≡ number = omega arith in ap (λ (number : ℕ). Some (declared (name number))) same
  get_named first (suc count) (suc i) number within is = get_named (suc first) count i number (omega arith) (omega arith)

  pub length_named : (first count : ℕ) → length (named_from name first count) ≡ count
  length_named first zero = refl
  length_named first (suc count) = let rest : length (named_from name (suc first) count) ≡ count = length_named (suc first) count in omega arith

pub same_name : (name : List ℕ) → bytes_eq name name ≡ true
same_name name = (bytes_eq-Decides name name).1 refl

module _ (variables temporaries : ℕ) (few : variables < 10 ^ 64) (few_temporaries : temporaries < 10 ^ 64) where
  abbrev pub both_kinds : List CVar
  both_kinds = named_from variable_name 0 variables ++ named_from temporary_name 0 temporaries

  get_variable : (i : ℕ) → i < variables → slice_get both_kinds i ≡ Some (declared (variable_name i))
  get_variable i within =
      get_left (named_from variable_name 0 variables) (named_from temporary_name 0 temporaries) i (let long : length (named_from variable_name 0 variables) ≡ variables = length_named variable_name 0 variables in omega arith)
      ∙ get_named variable_name 0 variables i i within (omega arith)

  get_temporary : (i n : ℕ) → i < temporaries → n ≡ variables + i → slice_get both_kinds n ≡ Some (declared (temporary_name i))
  get_temporary i n within is =
      get_right (named_from variable_name 0 variables) (named_from temporary_name 0 temporaries) i n (let long : length (named_from variable_name 0 variables) ≡ variables = length_named variable_name 0 variables in omega arith)
      ∙ get_named temporary_name 0 temporaries i i within (omega arith)

  -- which variable a name means
  variable_at : (i : ℕ) → i < variables → number_named both_kinds (variable_name i) ≡ Some i
  variable_at i within =
      found_at (λ (var : CVar). bytes_eq var.name (variable_name i)) both_kinds i (declared (variable_name i)) (get_variable i within) (same_name (variable_name i))
      (λ j y less there.
      let is : declared (variable_name j) ≡ y = some_same _ y (sym (get_variable j (omega arith)) ∙ there) in
      subst (λ (var : CVar). bytes_eq var.name (variable_name i) ≡ false) is (variables_differ j i less (omega arith)))

  temporary_at : (i : ℕ) → i < temporaries → number_named both_kinds (temporary_name i) ≡ Some (variables + i)
  temporary_at i within =
      found_at (λ (var : CVar). bytes_eq var.name (temporary_name i)) both_kinds (variables + i) (declared (temporary_name i)) (get_temporary i (variables + i) within refl) (same_name (temporary_name i))
      (λ j y less there.
      before_or_behind j variables {P = bytes_eq y.name (temporary_name i) ≡ false}
      (λ before.
      let is : declared (variable_name j) ≡ y = some_same _ y (sym (get_variable j before) ∙ there) in
      subst (λ (var : CVar). bytes_eq var.name (temporary_name i) ≡ false) is (variable_no_temporary j i))
      (λ k behind.
      let is : declared (temporary_name k) ≡ y = some_same _ y (sym (get_temporary k j (omega arith) behind) ∙ there) in
      subst (λ (var : CVar). bytes_eq var.name (temporary_name i) ≡ false) is (temporaries_differ k i (omega arith) (omega arith))))

  module _ (w : Where) (locals : w.scope.locals ≡ both_kinds) where
    -- a name that means a variable, which has a sign
    means_number : (name declared_name : List ℕ) (i : ℕ) → number_named both_kinds name ≡ Some i → slice_get both_kinds i ≡ Some (declared declared_name) → Named w name i
    means_number name declared_name i is there = record {
      named = ap (λ (vars : List CVar). number_named vars name) locals ∙ is;
      signed =
          ap (λ (vars : List CVar). var_is_signed (or_else (var_named vars name) (var_named w.scope.globals name))) locals
          ∙ ap (λ (number : Option ℕ). var_is_signed (or_else (option_and_then (λ number. slice_get both_kinds number) number) (var_named w.scope.globals name))) is
          ∙ ap (λ (var : Option CVar). var_is_signed (or_else var (var_named w.scope.globals name))) there;
    }

    pub variable_named : (i : ℕ) → i < variables → Named w (variable_name i) i
    variable_named i within = means_number (variable_name i) (variable_name i) i (variable_at i within) (get_variable i within)

    pub temporary_named : (i : ℕ) → i < temporaries → Named w (temporary_name i) (variables + i)
    temporary_named i within = means_number (temporary_name i) (temporary_name i) (variables + i) (temporary_at i within) (get_temporary i (variables + i) within refl)
