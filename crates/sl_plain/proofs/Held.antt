-- What the variables of a plain program hold, and what the core's memory holds for them.
use Rattle.std.proofs.Common.{◌≡◌, ℕ, ◌+◌, ℤ, List, ◌∷◌, ◌++◌, length, map, slice_get, slice_set, Bool, Option, Some, None, option_map, bytes_eq, refl, sym, subst, ap, ◌∙◌, if◌then◌else◌, arith}
use Rattle.std.proofs.lemmas.List.{length-map}
use Rattle.std.specs.List.{IsDistinct}
use Rattle.sl_run.specs.Run.{Trace, Went}
use Rattle.sl_core.specs.Memory.{Memory, Frame, Number}
use Rattle.sl_core.specs.Memory as core
use Rattle.sl_num.specs.Comparing.{truth}
use Rattle.sl_core.specs.Meaning.{with_some, read}
use Rattle.sl_core.specs.Meaning as core_meaning
use Rattle.sl_plain.specs.declared.program.Kind.{Kind}
use Rattle.sl_plain.specs.declared.program.Kind.TheVariants as kind
use Rattle.sl_plain.specs.Program.{Declared, declaration, name_of}
use Rattle.sl_plain.specs.Means.{Value, Of, Is, Variables, with_held}
use Rattle.sl_plain.specs.Lowered.{path_of, unnamed}
use Rattle.sl_plain.proofs.Names.{declares, place, either, same_bytes, bytes_eq_sym, position_is, mapped_at, set_at, stands}
use Rattle.sl_core.proofs.Slots.{some_same, get_left, get_right, set_left, set_right}

-- a value in the core
abbrev pub shown : Value → core.Value
shown (Of number) = Number number
shown (Is so) = Number (truth so)

-- what a variable of the core holds
abbrev pub slot : Variables → Declared → Option core.Value
slot variables entry = option_map shown (variables.held entry.name)

-- the frame of `main`, where the variables without names hold this
abbrev pub frame_of : List Declared → List (Option core.Value) → Variables → Frame
frame_of names extra variables = record { function = 0; vars = map (slot variables) names ++ extra }

-- the memory of the core in `main`, above these frames
abbrev pub memory_of : List Declared → List Frame → List (Option core.Value) → Variables → Memory
memory_of names below extra variables = record { frames = frame_of names extra variables ∷ below }

-- a name holds a value of this type
abbrev pub Holds : Kind → Option Value → Type 0
Holds kind.Number held = (number : ℤ) × (held ≡ Some (Of number))
Holds kind.Truth held = (so : Bool) × (held ≡ Some (Is so))

-- each name of the scope holds a value of its type
abbrev pub Ready : List Declared → Variables → Type 0
Ready scope variables = (name : List ℕ) (entry : Declared) → declaration scope name ≡ Some entry → Holds entry.type (variables.held name)

-- the scope is a part of the names
abbrev pub Within : List Declared → List Declared → Type 0
Within names scope = (name : List ℕ) (entry : Declared) → declaration scope name ≡ Some entry → declaration names name ≡ Some entry

-- names of a scope keep their declarations
abbrev pub Extends : List Declared → List Declared → Type 0
Extends scope scope' = (name : List ℕ) (entry : Declared) → declaration scope name ≡ Some entry → declaration scope' name ≡ Some entry

module _ (names : List Declared) (below : List Frame) (extra : List (Option core.Value)) where
  -- there are as many as names
  as_many : (variables : Variables) → length (map (slot variables) names) ≡ length names
  as_many variables = length-map names (slot variables)

  -- what a name holds is read
  pub read_is : (variables : Variables) (name : List ℕ) (entry : Declared) (value : Value) → declaration names name ≡ Some entry → variables.held name ≡ Some value → (t : Trace) → read (path_of names name) t (memory_of names below extra variables) ≡ Went (shown value) t (memory_of names below extra variables)
  read_is variables name entry value h is t =
      let many = as_many variables in
      let within = (stands names name entry h).within in
      let at : slice_get (map (slot variables) names ++ extra) (place names name) ≡ Some (option_map shown (variables.held name))
      = get_left (map (slot variables) names) extra (place names name) (omega arith) ∙ (mapped_at (slot variables) names name entry h ∙ ap (λ n. Some (option_map shown (variables.held n))) (stands names name entry h).named)
      in rw (position_is names name entry h) (rw (at, is) refl)

  -- a name gets a value
  pub store_is : IsDistinct bytes_eq (map name_of names) → (variables : Variables) (name : List ℕ) (entry : Declared) (value : Value) → declaration names name ≡ Some entry → (t : Trace) → core_meaning.store (path_of names name) (shown value) t (memory_of names below extra variables) ≡ Went tt t (memory_of names below extra (with_held name value variables))
  store_is distinct variables name entry value h t =
      let many = as_many variables in
      let within = (stands names name entry h).within in
      let set : slice_set (map (slot variables) names ++ extra) (place names name) (Some (shown value)) ≡ map (slot (with_held name value variables)) names ++ extra
      = set_left (map (slot variables) names) extra (place names name) (Some (shown value)) (omega arith)
      ∙ ap (λ vars. vars ++ extra) (set_at (slot variables) (slot (with_held name value variables)) (Some (shown value)) names name entry h distinct
      (λ other e. ap (λ b. option_map shown (if b then Some value else variables.held other.name)) (bytes_eq_sym name other.name ∙ e))
      (λ other e. ap (λ b. option_map shown (if b then Some value else variables.held other.name)) (bytes_eq_sym name other.name ∙ e)))
      in rw (position_is names name entry h) (ap (λ vars. Went tt t (record { frames = record { function = 0; vars = vars } ∷ below })) set)

  -- what a variable without a name holds is read
  pub read_unnamed : (variables : Variables) (number : ℕ) (value : core.Value) → slice_get extra number ≡ Some (Some value) → (t : Trace) → read (unnamed names number) t (memory_of names below extra variables) ≡ Went value t (memory_of names below extra variables)
  read_unnamed variables number value is t =
      let many = as_many variables in
      let at : slice_get (map (slot variables) names ++ extra) (length names + number) ≡ Some (Some value)
      = get_right (map (slot variables) names) extra number (length names + number) (omega arith) ∙ is
      in rw at refl

  -- it gets a value
  pub store_unnamed : (variables : Variables) (number : ℕ) (value : core.Value) (t : Trace) → core_meaning.store (unnamed names number) value t (memory_of names below extra variables) ≡ Went tt t (memory_of names below (slice_set extra number (Some value)) variables)
  store_unnamed variables number value t =
      let many = as_many variables in
      let set : slice_set (map (slot variables) names ++ extra) (length names + number) (Some value) ≡ map (slot variables) names ++ slice_set extra number (Some value)
      = set_right (map (slot variables) names) extra number (length names + number) (Some value) (omega arith)
      in ap (λ vars. Went tt t (record { frames = record { function = 0; vars = vars } ∷ below })) set

-- a stored value leaves the others
pub ready_stored : (scope : List Declared) (variables : Variables) (name : List ℕ) (entry : Declared) (value : Value) → Ready scope variables → declaration scope name ≡ Some entry → Holds entry.type (Some value) → Ready scope (with_held name value variables)
ready_stored scope variables name entry value ready h holds other declared is =
    either (bytes_eq name other)
    (λ e.
    let same : Some entry ≡ Some declared = sym h ∙ (ap (declaration scope) (same_bytes name other e) ∙ is) in
    let entry_is : entry ≡ declared = some_same entry declared same
    in rw e (subst (λ (d : Declared). Holds d.type (Some value)) entry_is holds))
    (λ e. rw e (ready other declared is))

-- a declared name holds its first value
pub ready_declared : (scope : List Declared) (variables : Variables) (entry : Declared) (value : Value) → Ready scope variables → Holds entry.type (Some value) → Ready (entry ∷ scope) (with_held entry.name value variables)
ready_declared scope variables entry value ready holds other declared is =
    either (bytes_eq entry.name other)
    (λ e.
    let same : Some entry ≡ Some declared = rw e at is
    in rw e (subst (λ (o : Option Declared). Holds (type_or o) (Some value)) same holds))
    (λ e. rw e (ready other declared (rw e at is)))
  where
    type_or : Option Declared → Kind
    type_or None = kind.Number
    type_or (Some x) = x.type

-- one more declaration
pub within_declared : (names scope : List Declared) (entry : Declared) → Within names scope → declaration names entry.name ≡ Some entry → Within names (entry ∷ scope)
within_declared names scope entry within known name declared is =
    either (declares name entry)
    (λ e. subst (λ n. declaration names n ≡ Some declared) (same_bytes entry.name name e) (known ∙ (rw e at is)))
    (λ e. within name declared (rw e at is))
