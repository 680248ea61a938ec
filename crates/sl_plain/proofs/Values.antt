-- Atoms, right sides and conditions that fit give values, or halt, and their core does the same.
use Rattle.std.proofs.Common.{◌≡◌, ◌⊎◌, inl, inr, ℕ, suc, ℤ, pos, negsuc, List, [], ◌∷◌, ◌++◌, Bool, true, false, ◌&&◌, Option, Some, None, option_and_then, slice_get, refl, sym, subst, subst₂, ap, ◌∙◌, arith, if◌then◌else◌}
use Rattle.std.specs.Prelude.{Result, Ok, Err, ◌+ℤ◌, ◌-ℤ◌, ◌≤ℤ◌, ◌<ℤ◌, int_le, int_lt, T}
use Rattle.std.specs.Int.Signed.{le_z_yes, lt_z_yes}
use Rattle.std.proofs.lemmas.Int.{ints}
use Rattle.sl_num.specs.declared.arithmetic.Halt.{Halt}
use Rattle.sl_num.specs.declared.arithmetic.Halt.TheVariants.{Range}
use Rattle.sl_num.specs.declared.arithmetic.Op.TheVariants.{Add}
use Rattle.sl_num.specs.declared.comparing.Comparison.{Comparison}
use Rattle.sl_num.specs.declared.comparing.Comparison.TheVariants.{Less}
use Rattle.sl_num.specs.Arithmetic.{applied}
use Rattle.sl_num.specs.Comparing.{holds, truth}
use Rattle.sl_run.specs.Run.{Ending, Done, TurnsSpent, StackSpent, Stuck, Asks, first_of, rest_of, Trace, Step, Went, Over, Act, pure, over, step_then, ◌>>=◌}
use Rattle.sl_run.specs.Run as run
use Rattle.sl_core.specs.declared.tree.Core.{Core}
use Rattle.sl_core.specs.declared.tree.CoreType.TheVariants.{Int}
use Rattle.sl_core.specs.Memory.{Memory, Frame}
use Rattle.sl_core.specs.Memory as core
use Rattle.sl_core.specs.declared.tree.CorePath.{CorePath}
use Rattle.sl_core.specs.declared.tree.CoreExpr.{CoreExpr}
use Rattle.sl_core.specs.declared.tree.CoreExpr.TheVariants as expr
use Rattle.sl_run.specs.Statements.{gotten, Next}
use Rattle.sl_core.specs.Meaning.{evaluate, halt_number, number_or_halt, is_true, Callees, meaning}
use Rattle.sl_core.specs.Meaning as core_meaning
use Rattle.sl_core.proofs.Equations.{number_runs, path_runs, apply_runs, compare_runs, store_runs, get_runs}
use Rattle.sl_plain.specs.declared.program.Kind.{Kind}
use Rattle.sl_plain.specs.declared.program.Kind.TheVariants as kind
use Rattle.sl_plain.specs.declared.program.Atom.{Atom}
use Rattle.sl_plain.specs.declared.program.Atom.TheVariants.{Name, Number, Truth}
use Rattle.sl_plain.specs.declared.program.Right.{Right}
use Rattle.sl_plain.specs.declared.program.Right.TheVariants.{Just, Compare, Apply, Get}
use Rattle.sl_plain.specs.declared.program.Condition.{Condition}
use Rattle.sl_plain.specs.declared.program.Condition.TheVariants as condition
use Rattle.sl_plain.specs.Numbers.{z_type}
use Rattle.sl_plain.specs.Names.{is_number}
use Rattle.sl_plain.specs.Program.{Declared, declaration, same_kind, kind_of_atom, has_kind, are_numbers, right_fits, condition_fits}
use Rattle.sl_plain.specs.Means.{Value, Of, Is, Variables, value_of, with_value_of, with_value, with_number, with_truth, compare, result_or_halt, right_value, condition_value, natural_of, count_until}
use Rattle.sl_plain.specs.Lowered.{path_of, atom_expr, condition_expr, store_right, z}
use Rattle.sl_plain.proofs.Names.{both}
use Rattle.sl_plain.proofs.Held.{shown, memory_of, Holds, Ready, Within, read_is}

-- types that are tested to be the same are
pub kinds_same : (a b : Kind) → same_kind a b ≡ true → a ≡ b
kinds_same kind.Number kind.Number h = refl
kinds_same kind.Truth kind.Truth h = refl
kinds_same kind.Number kind.Truth h = grind arith
kinds_same kind.Truth kind.Number h = grind arith

-- what an atom has is its type
pub kind_is : (type : Kind) (given : Option Kind) → has_kind type given ≡ true → given ≡ Some type
kind_is type None h = grind arith
kind_is type (Some other) h = ap Some (sym (kinds_same type other h))

-- the type of a declared name
pub entry_of : (type : Kind) (given : Option Declared) → option_and_then (λ (entry : Declared). Some entry.type) given ≡ Some type → (entry : Declared) × (given ≡ Some entry) × (entry.type ≡ type)
entry_of type None h = grind arith
entry_of type (Some entry) h = (entry, refl, same entry.type type h)
  where
    or_number : Option Kind → Kind
    or_number None = kind.Number
    or_number (Some k) = k

    same : (a b : Kind) → Some a ≡ Some b → a ≡ b
    same a b h = ap or_number h

-- the run isn't over for want of a meaning
abbrev pub IsFine : Ending → Type 0
IsFine (Done value) = Unit {0}
IsFine (run.Halt kind file line) = Unit {0}
IsFine TurnsSpent = Unit {0}
IsFine StackSpent = Unit {0}
IsFine (Stuck function) = ⊥

-- two parts both gave a value of a type, or are over in the same way
abbrev pub Gives : Kind → Variables → Memory → Step Variables Value → Step Memory core.Value → Type 0
Gives type variables memory plain low =
    ((value : Value) × (t : Trace) × Holds type (Some value) × (plain ≡ Went value t variables) × (low ≡ Went (shown value) t memory))
    ⊎ ((e : Ending) × (t : Trace) × IsFine e × (plain ≡ Over e t) × (low ≡ Over e t))

module _ (scope : List Declared) (variables : Variables) (ready : Ready scope variables) where
  -- an atom has a value of its type
  pub atom_holds : (atom : Atom) (type : Kind) → kind_of_atom scope atom ≡ Some type → Holds type (value_of atom variables)
  atom_holds (Name name) type h =
      let found = entry_of type (declaration scope name) h
      in subst (λ type. Holds type (variables.held name)) found.2 (ready name found.0 found.1)
  atom_holds (Number number) kind.Number h = (number, refl)
  atom_holds (Number number) kind.Truth h = grind arith
  atom_holds (Truth so) kind.Truth h = (so, refl)
  atom_holds (Truth so) kind.Number h = grind arith

-- a part of a run has the value of an atom
module _ (variables : Variables) (t : Trace) {B : Type 0} where
  pub with_value_is : (atom : Atom) (value : Value) (go : Value → Act Variables B) → value_of atom variables ≡ Some value → with_value atom go t variables ≡ go value t variables
  with_value_is atom value go is = ap (λ held. with_value_of held go t variables) is

  pub with_number_is : (atom : Atom) (number : ℤ) (go : ℤ → Act Variables B) → value_of atom variables ≡ Some (Of number) → with_number atom go t variables ≡ go number t variables
  with_number_is atom number go is = with_value_is atom (Of number) _ is

  pub with_truth_is : (atom : Atom) (so : Bool) (go : Bool → Act Variables B) → value_of atom variables ≡ Some (Is so) → with_truth atom go t variables ≡ go so t variables
  with_truth_is atom so go is = with_value_is atom (Is so) _ is

module _ (lower : Core) (typed : slice_get lower.types 0 ≡ Some (Int z_type)) (names : List Declared) (below : List Frame) (extra : List (Option core.Value)) (scope : List Declared) (within : Within names scope) where
  -- the value of an atom in the core
  pub atom_runs : (variables : Variables) (atom : Atom) (type : Kind) (value : Value) → kind_of_atom scope atom ≡ Some type → value_of atom variables ≡ Some value → (t : Trace) → evaluate lower (atom_expr names atom) t (memory_of names below extra variables) ≡ Went (shown value) t (memory_of names below extra variables)
  atom_runs variables (Name name) type value h is t =
      let found = entry_of type (declaration scope name) h
      in path_runs lower (path_of names name) z t (memory_of names below extra variables) ∙ read_is names below extra variables name found.0 value (within name found.0 found.1) is t
  atom_runs variables (Number number) type value h is t = number_runs lower number z t (memory_of names below extra variables) ∙ ap (λ (o : Option Value). Went (shown_or o) t (memory_of names below extra variables)) is
    where
      shown_or : Option Value → core.Value
      shown_or None = core.Number number
      shown_or (Some value) = shown value
  atom_runs variables (Truth so) type value h is t = number_runs lower (truth so) z t (memory_of names below extra variables) ∙ ap (λ (o : Option Value). Went (shown_or o) t (memory_of names below extra variables)) is
    where
      shown_or : Option Value → core.Value
      shown_or None = core.Number (truth so)
      shown_or (Some value) = shown value

  module _ (variables : Variables) (ready : Ready scope variables) (t : Trace) where
    abbrev memory : Memory
    memory = memory_of names below extra variables

    -- two numbers
    abbrev Two : Atom → Atom → Type 0
    Two a b =
        (x : ℤ) × (y : ℤ) × (value_of a variables ≡ Some (Of x)) × (value_of b variables ≡ Some (Of y))
        × (evaluate lower (atom_expr names a) t memory ≡ Went (core.Number x) t memory) × (evaluate lower (atom_expr names b) t memory ≡ Went (core.Number y) t memory)

    two : (a b : Atom) → are_numbers scope a b ≡ true → Two a b
    two a b h =
        let fit = both (has_kind kind.Number (kind_of_atom scope a)) (has_kind kind.Number (kind_of_atom scope b)) h in
        let left = kind_is kind.Number (kind_of_atom scope a) fit.0 in
        let right = kind_is kind.Number (kind_of_atom scope b) fit.1 in
        let x = atom_holds scope variables ready a kind.Number left in
        let y = atom_holds scope variables ready b kind.Number right in
        (x.0, y.0, x.1, y.1, atom_runs variables a kind.Number (Of x.0) left x.1 t, atom_runs variables b kind.Number (Of y.0) right y.1 t)

    -- a comparison
    compare_is : (by : Comparison) (a b : Atom) → are_numbers scope a b ≡ true → (so : Bool) × (compare by a b t variables ≡ Went so t variables) × (evaluate lower (condition_expr names (condition.Compare by a b)) t memory ≡ Went (core.Number (truth so)) t memory)
    compare_is by a b h =
        let p = two a b h
        in (
          holds by p.0 p.1,
          with_number_is variables t a p.0 _ p.2 ∙ with_number_is variables t b p.1 _ p.3,
          simp (compare_runs, p.4, p.5),
        )

    -- a condition
    pub condition_is : (test : Condition) → condition_fits scope test ≡ true → (so : Bool) × (condition_value test t variables ≡ Went so t variables) × (evaluate lower (condition_expr names test) t memory ≡ Went (core.Number (truth so)) t memory)
    condition_is (condition.Just atom) h =
        let type = kind_is kind.Truth (kind_of_atom scope atom) h in
        let so = atom_holds scope variables ready atom kind.Truth type
        in (so.0, with_truth_is variables t atom so.0 pure so.1, atom_runs variables atom kind.Truth (Is so.0) type so.1 t)
    condition_is (condition.Compare by a b) h = compare_is by a b h

    -- a result, or a halt
    pub result_is : (line : ℕ) (result : Result ℤ Halt) → Gives kind.Number variables memory (result_or_halt line result t variables) (number_or_halt 0 line result t memory)
    result_is line (Ok number) = inl (Of number, t, (number, refl), refl, refl)
    result_is line (Err halt) = inr (run.Halt (halt_number halt) 0 line, t, tt, refl, refl)

    -- a value of an atom
    just_is : (type : Kind) (atom : Atom) → kind_of_atom scope atom ≡ Some type → Holds type (value_of atom variables) → Gives type variables memory (with_value atom pure t variables) (evaluate lower (atom_expr names atom) t memory)
    just_is kind.Number atom h has = inl (Of has.0, t, (has.0, refl), with_value_is variables t atom (Of has.0) pure has.1, atom_runs variables atom kind.Number (Of has.0) h has.1 t)
    just_is kind.Truth atom h has = inl (Is has.0, t, (has.0, refl), with_value_is variables t atom (Is has.0) pure has.1, atom_runs variables atom kind.Truth (Is has.0) h has.1 t)

    -- a right side, and the statement that stores it
    abbrev pub Stores : Kind → Right → Type 0
    Stores type right =
        (low : Step Memory core.Value) × Gives type variables memory (right_value right t variables) low
        × ((call : Callees) (path : CorePath) → meaning lower (store_right names path right) call t memory ≡ step_then (step_then low (core_meaning.store path)) (λ _. pure Next))

    pub right_is : (type : Kind) (right : Right) → right_fits scope type right ≡ true → Stores type right
    right_is type (Just atom) h =
        let is = kind_is type (kind_of_atom scope atom) h
        in (evaluate lower (atom_expr names atom) t memory, just_is type atom is (atom_holds scope variables ready atom type is), λ call path. store_runs lower call path (atom_expr names atom) t memory)
    right_is kind.Truth (Compare by a b) h =
        let is = compare_is by a b h
        in (
          evaluate lower (condition_expr names (condition.Compare by a b)) t memory,
          inl (Is is.0, t, (is.0, refl), ap (λ s. step_then s (λ so. pure (Is so))) is.1, is.2),
          λ call path. store_runs lower call path (condition_expr names (condition.Compare by a b)) t memory,
        )
    right_is kind.Number (Compare by a b) h = grind arith
    right_is kind.Truth (Apply op a b line) h = grind arith
    right_is kind.Number (Apply op a b line) h =
        let p = two a b h in
        let e : CoreExpr = expr.Apply op (atom_expr names a) (atom_expr names b) z 0 line
        in (
          evaluate lower e t memory,
          subst₂ (Gives kind.Number variables memory)
              (sym (with_number_is variables t a p.0 _ p.2 ∙ with_number_is variables t b p.1 _ p.3))
              (sym (simp (apply_runs, p.4, p.5, typed)))
              (result_is line (applied z_type op p.0 p.1)),
          λ call path. store_runs lower call path e t memory,
        )
    right_is kind.Number Get h =
        let number : ℤ = gotten (first_of t.rest) in
        let u : Trace = record t { events = t.events ++ Asks ∷ []; rest = rest_of t.rest }
        in (Went (core.Number number) u memory, inl (Of number, u, (number, refl), refl, refl), λ call path. get_runs lower call path t memory)
    right_is kind.Truth Get h = grind arith

-- Sums and counts of numbers ---------------------------------------------------------------------------------------------

-- a test that holds is true
is_so : (so : Bool) → T so → so ≡ true
is_so true h = refl
is_so false h = absurd h

le_so : (a b : ℤ) → a ≤ℤ b → int_le a b ≡ true
le_so a b h = is_so (int_le a b) h.le

less_so : (a b : ℤ) → a <ℤ b → int_lt a b ≡ true
less_so a b h = is_so (int_lt a b) h.lt

-- a number is less than another, or that isn't greater
less_or_not : (a b : ℤ) (so : Bool) → int_lt a b ≡ so → b ≤ℤ a → so ≡ false
less_or_not a b true is le = let below : a <ℤ b = lt_z_yes (subst T (sym is) tt) in absurd (omega (arith, ints))
less_or_not a b false is le = refl

-- the bounds of a number
pub number_bounds : (n : ℤ) → is_number n ≡ true → (z_type.lo ≤ℤ n) × (n ≤ℤ z_type.hi)
number_bounds n is =
    let bounds = both (int_le z_type.lo n) (int_le n z_type.hi) is
    in (le_z_yes (subst T (sym bounds.0) tt), le_z_yes (subst T (sym bounds.1) tt))

-- the number behind one that is less than another is one of `Z` where both are
pub next_number : (a b : ℤ) → is_number a ≡ true → is_number b ≡ true → holds Less a b ≡ true → applied z_type Add a (pos 1) ≡ Ok (a +ℤ pos 1)
next_number a b is_a is_b less =
    let below : a <ℤ b = lt_z_yes (subst T (sym less) tt) in
    let from = (number_bounds a is_a).0 in
    let to = (number_bounds b is_b).1 in
    let least : z_type.lo ≤ℤ (a +ℤ pos 1) = omega (arith, ints) in
    let greatest : (a +ℤ pos 1) ≤ℤ z_type.hi = omega (arith, ints)
    in rw (le_so z_type.lo (a +ℤ pos 1) least, le_so (a +ℤ pos 1) z_type.hi greatest) refl

-- a sum that doesn't halt is the sum
pub sum_is : (a n : ℤ) → applied z_type Add a (pos 1) ≡ Ok n → n ≡ a +ℤ pos 1
sum_is a n h = in_type_is (int_le z_type.lo (a +ℤ pos 1) && int_le (a +ℤ pos 1) z_type.hi) h
  where
    in_type_is : (so : Bool) → (if so then Ok (a +ℤ pos 1) else Err Range) ≡ Ok n → n ≡ a +ℤ pos 1
    in_type_is true h = cc
    in_type_is false h = cc

-- numbers that are counted from a distance
some_natural : (d : ℤ) (count : ℕ) → natural_of d ≡ suc count → d ≡ pos (suc count)
some_natural (pos n) count h = ap pos h
some_natural (negsuc n) count h = cc

none_natural : (d : ℤ) → natural_of d ≡ 0 → d ≤ℤ pos 0
none_natural (pos n) h = omega (arith, ints)
none_natural (negsuc n) h = le_z_yes tt

-- where numbers are left up to another, one is less than it, and one fewer are left behind it
pub some_left : (a b : ℤ) (count : ℕ) → count_until a b ≡ suc count → (holds Less a b ≡ true) × (count_until (a +ℤ pos 1) b ≡ count)
some_left a b count h =
    let far : b -ℤ a ≡ pos (suc count) = some_natural (b -ℤ a) count h in
    let below : a <ℤ b = omega (arith, ints) in
    let rest : b -ℤ (a +ℤ pos 1) ≡ pos count = omega (arith, ints)
    in (less_so a b below, ap natural_of rest)

-- where none are, it isn't less
pub none_left : (a b : ℤ) → count_until a b ≡ 0 → holds Less a b ≡ false
none_left a b h =
    let near : (b -ℤ a) ≤ℤ pos 0 = none_natural (b -ℤ a) h in
    let above : b ≤ℤ a = omega (arith, ints)
    in less_or_not a b (int_lt a b) refl above

-- a truth value is true where its number is
pub is_true_truth : (so : Bool) → is_true (truth so) ≡ so
is_true_truth true = refl
is_true_truth false = refl
