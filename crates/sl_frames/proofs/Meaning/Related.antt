-- When the variables of a C frame hold what those of a core frame do.
use Rattle.std.proofs.Common.{◌≡◌, ◌≢◌, ℕ, ◌+◌, ◌<◌, List, ◌∷◌, length, Bool, true, false, Option, Some, None, refl, sym, ◌∙◌, subst, arith, eqb, eqb-true}
use Rattle.std.specs.Prelude.{ℤ, slice_get, slice_set}
use Rattle.std.specs.Option.{option_and_then}
use Rattle.std.proofs.lemmas.Bool.{eqb-false}
use Rattle.std.proofs.lemmas.List.{length-set}
use Rattle.sl_core.specs.Memory as source
use Rattle.sl_core.specs.Memory.{Value, Number, Bytes}
use Rattle.c_tree.specs.Memory as c
use Rattle.c_tree.specs.Memory.{Tree}
use Rattle.c_tree.specs.Meaning.{is_int64}
use Rattle.sl_core.proofs.Slots.{get_set_same, get_set_other, SameBelow}

-- what is beside the variables of the last frame of a core
pub record Beneath : Type 0 where
  pub number : ℕ
  pub frames : List source.Frame

-- memory whose last frame has these variables
abbrev pub source_with : Beneath → List (Option Value) → source.Memory
source_with beneath vars = record { frames = record { function = beneath.number; vars = vars } ∷ beneath.frames }

-- a C variable holds the number that the core's variable holds. Where that holds nothing, it may hold anything
abbrev pub HoldsLike : Option Value → Option Tree → Type 0
HoldsLike None tree = Unit {0}
HoldsLike (Some (Number number)) tree = (tree ≡ Some (c.Number number)) × (is_int64 number ≡ true)
HoldsLike (Some (Bytes bytes)) tree = ⊥

-- what a variable holds, of these
abbrev pub held_in : List (Option Value) → ℕ → Option Value
held_in vars variable = option_and_then (λ value. value) (slice_get vars variable)

-- the variables of a C frame are those of a core frame, and then temporaries
pub record HoldLike (variables temporaries : ℕ) (vars : List (Option Value)) (others : List Tree) : Type 0 where
  pub long : length vars ≡ variables
  pub longer : length others ≡ variables + temporaries
  pub like : (variable : ℕ) → variable < variables → HoldsLike (held_in vars variable) (slice_get others variable)

-- it doesn't matter what temporaries hold
pub like_below : (variables temporaries free : ℕ) (vars : List (Option Value)) (others after : List Tree) → HoldLike variables temporaries vars others → SameBelow (variables + free) others after → HoldLike variables temporaries vars after
like_below variables temporaries free vars others after h same = record {
  long = h.long;
  longer = sym same.long ∙ h.longer;
  like = λ variable below. subst (λ (tree : Option Tree). HoldsLike (held_in vars variable) tree) (same.same variable (omega arith)) (h.like variable below);
}

module _ (variables temporaries : ℕ) (vars : List (Option Value)) (others : List Tree) (h : HoldLike variables temporaries vars others) (place : ℕ) (there : place < variables) (number : ℤ) (fits : is_int64 number ≡ true) where
  stored_at : (variable : ℕ) → variable < variables → (same : Bool) → eqb variable place ≡ same → HoldsLike (held_in (slice_set vars place (Some (Number number))) variable) (slice_get (slice_set others place (c.Number number)) variable)
  stored_at variable below true is =
      subst (λ (variable : ℕ). HoldsLike (held_in (slice_set vars place (Some (Number number))) variable) (slice_get (slice_set others place (c.Number number)) variable)) (sym (eqb-true variable place is))
      (subst (λ (value : Option (Option Value)). HoldsLike (option_and_then (λ value. value) value) (slice_get (slice_set others place (c.Number number)) place)) (sym (get_set_same vars place (Some (Number number)) (let long = h.long in omega arith)))
      (get_set_same others place (c.Number number) (let longer = h.longer in omega arith), fits))
  stored_at variable below false is =
      let other : variable ≢ place = eqb-false variable place is in
      subst (λ (value : Option (Option Value)). HoldsLike (option_and_then (λ value. value) value) (slice_get (slice_set others place (c.Number number)) variable)) (sym (get_set_other vars place variable (Some (Number number)) other))
      (subst (λ (tree : Option Tree). HoldsLike (held_in vars variable) tree) (sym (get_set_other others place variable (c.Number number) other)) (h.like variable below))

  -- a number that is stored in both
  pub like_stored : HoldLike variables temporaries (slice_set vars place (Some (Number number))) (slice_set others place (c.Number number))
  like_stored = record {
    long = length-set vars place (Some (Number number)) ∙ h.long;
    longer = length-set others place (c.Number number) ∙ h.longer;
    like = λ variable below. stored_at variable below (eqb variable place) refl;
  }
