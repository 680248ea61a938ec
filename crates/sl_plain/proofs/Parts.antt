-- The parts of a plain program go as their core does: values that are stored, what is printed, choices and halts, one after another.
use Rattle.std.proofs.Common.{◌≡◌, inl, inr, ℕ, List, [], ◌∷◌, ◌++◌, map, Bool, true, false, Option, Some, bytes_eq, codes, slice_get, refl, sym, subst, subst₂, ap, ◌∙◌}
use Rattle.std.specs.List.{IsDistinct}
use Rattle.sl_run.specs.Run.{Puts, Trace, Step, Went, Over, Act, pure, over, step_then, ◌>>=◌, ◌>>◌, choose, put_all}
use Rattle.sl_run.specs.Run as run
use Rattle.sl_run.proofs.Puts.{put_all_is, put_all-append}
use Rattle.sl_core.specs.declared.tree.Core.{Core}
use Rattle.sl_core.specs.declared.tree.CoreType.TheVariants.{Int}
use Rattle.sl_core.specs.declared.tree.CoreStmt.{CoreStmt}
use Rattle.sl_core.specs.declared.tree.CoreStmt.TheVariants as core
use Rattle.sl_core.specs.Memory.{Memory, Frame}
use Rattle.sl_core.specs.Memory as held
use Rattle.sl_run.specs.Statements.{Next, Broke, Returned, then_on, in_order}
use Rattle.sl_core.specs.Meaning.{Callees, Flow, is_true}
use Rattle.sl_core.specs.Meaning as lowest
use Rattle.sl_core.proofs.Equations.{text_runs, if_runs, put_runs, halt_runs}
use Rattle.sl_plain.specs.declared.program.Kind.{Kind}
use Rattle.sl_plain.specs.declared.program.Kind.TheVariants as kind
use Rattle.sl_plain.specs.declared.program.Atom.{Atom}
use Rattle.sl_plain.specs.declared.program.Right.{Right}
use Rattle.sl_plain.specs.declared.program.Condition.{Condition}
use Rattle.sl_plain.specs.Numbers.{z_type}
use Rattle.sl_plain.specs.Program.{Declared, declaration, name_of, kind_of_atom, right_fits, condition_fits}
use Rattle.sl_plain.specs.Means.{Value, Of, Is, Variables, with_held, with_value, right_value, condition_value, printed_value, printed_truth, print_line, store}
use Rattle.sl_plain.specs.Lowered.{path_of, atom_expr, store_right, condition_expr, put_text, print_of}
use Rattle.sl_core.proofs.Slots.{same_below}
use Rattle.sl_plain.proofs.Held.{memory_of, Holds, Ready, Within, store_is}
use Rattle.sl_plain.proofs.Values.{Gives, atom_holds, with_value_is, atom_runs, condition_is, right_is, is_true_truth}
use Rattle.sl_plain.proofs.Alike.{Alike, GoAlike, went_both, over_both, go_same, bind_alike}

-- a statement was left by the next one
abbrev pub OnNext : Unit {0} → Flow → Type 0
OnNext x flow = flow ≡ Next

module _ (target : Core) (typed : slice_get target.types 0 ≡ Some (Int z_type)) (names : List Declared) (distinct : IsDistinct bytes_eq (map name_of names)) (below : List Frame) (rooms : ℕ) (call : Callees) where
  -- what statements of the core do
  abbrev pub do_all : List CoreStmt → Act Memory Flow
  do_all stmts = in_order (map (lowest.meaning target) stmts) call

  -- a part of a program and its core do the same, and are never stuck
  abbrev pub Goes : List Declared → List Declared → ℕ → Act Variables (Unit {0}) → List CoreStmt → Type 0
  Goes scope scope' taken plain stmts = GoAlike names below rooms OnNext scope scope' taken plain (do_all stmts)

  -- Lists -------------------------------------------------------------------------------------------------------------

  -- nothing behind a statement
  nothing_behind : (x : Step Memory Flow) → step_then x (then_on (pure Next)) ≡ x
  nothing_behind (Went Next t m) = refl
  nothing_behind (Went Broke t m) = refl
  nothing_behind (Went (Returned value) t m) = refl
  nothing_behind (Over e t) = refl

  -- a statement alone
  pub alone : (s : CoreStmt) (t : Trace) (m : Memory) → do_all (s ∷ []) t m ≡ lowest.meaning target s call t m
  alone s t m = nothing_behind (lowest.meaning target s call t m)

  -- statements and then others
  behind_step : (a b : List CoreStmt) → ((t : Trace) (m : Memory) → do_all (a ++ b) t m ≡ step_then (do_all a t m) (then_on (do_all b))) → (x : Step Memory Flow) → step_then x (then_on (do_all (a ++ b))) ≡ step_then (step_then x (then_on (do_all a))) (then_on (do_all b))
  behind_step a b h (Went Next t m) = h t m
  behind_step a b h (Went Broke t m) = refl
  behind_step a b h (Went (Returned value) t m) = refl
  behind_step a b h (Over e t) = refl

  pub do_all-append : (a b : List CoreStmt) (t : Trace) (m : Memory) → do_all (a ++ b) t m ≡ step_then (do_all a t m) (then_on (do_all b))
  do_all-append [] b t m = refl
  do_all-append (s ∷ a) b t m = behind_step a b (do_all-append a b) (lowest.meaning target s call t m)

  -- parts in order
  pub goes_then : (scope mid scope' : List Declared) (taken : ℕ) (p q : Act Variables (Unit {0})) (a b : List CoreStmt) → Goes scope mid taken p a → Goes mid scope' taken q b → Goes scope scope' taken (p >> q) (a ++ b)
  goes_then scope mid scope' taken p q a b h k =
      go_same names below rooms OnNext scope scope' taken (p >> q) (do_all (a ++ b)) (do_all a >>= then_on (do_all b)) (do_all-append a b)
      (bind_alike names below rooms OnNext OnNext scope mid scope' taken p (do_all a) (λ _. q) (then_on (do_all b)) h
      (λ x flow is. subst (λ flow. GoAlike names below rooms OnNext mid scope' taken q (then_on (do_all b) flow)) (sym is) k))

  -- Statements --------------------------------------------------------------------------------------------------------

  module _ (scope : List Declared) (within : Within names scope) (taken : ℕ) where
    -- a value that is stored, behind a right side that gave so
    stored_step : (scope' : List Declared) (name : List ℕ) (entry : Declared) (type : Kind) → declaration names name ≡ Some entry
        → ((value : Value) (variables : Variables) → Ready scope variables → Holds type (Some value) → Ready scope' (with_held name value variables))
        → (variables : Variables) (extra : List (Option held.Value)) → Ready scope variables → (x : Step Variables Value) (y : Step Memory held.Value) → Gives type variables (memory_of names below extra variables) x y
        → Alike names below rooms OnNext scope' taken extra (step_then x (store name)) (step_then (step_then y (lowest.store (path_of names name))) (λ _. pure Next))
    stored_step scope' name entry type h next variables extra ready x y gives =
        elim gives as (λ g. Alike names below rooms OnNext scope' taken extra (step_then x (store name)) (step_then (step_then y (lowest.store (path_of names name))) (λ _. pure Next))) [
          | inl g ↦ went_both names below rooms OnNext scope' taken extra extra tt Next g.1 (with_held name g.0 variables) (step_then x (store name)) (step_then (step_then y (lowest.store (path_of names name))) (λ _. pure Next))
              (ap (λ x. step_then x (store name)) g.3)
              (ap (λ y. step_then (step_then y (lowest.store (path_of names name))) (λ _. pure Next)) g.4
              ∙ ap (λ y. step_then y (λ _. pure Next)) (store_is names below extra distinct variables name entry g.0 h g.1))
              refl (same_below taken extra) (next g.0 variables ready g.2)
          | inr g ↦ over_both names below rooms OnNext scope' taken extra g.0 g.1 (step_then x (store name)) (step_then (step_then y (lowest.store (path_of names name))) (λ _. pure Next))
              (ap (λ x. step_then x (store name)) g.3)
              (ap (λ y. step_then (step_then y (lowest.store (path_of names name))) (λ _. pure Next)) g.4)
              g.2
        ]

    -- a declaration, or an assignment
    pub stored_goes : (scope' : List Declared) (name : List ℕ) (entry : Declared) (right : Right) → declaration names name ≡ Some entry → right_fits scope entry.type right ≡ true
        → ((value : Value) (variables : Variables) → Ready scope variables → Holds entry.type (Some value) → Ready scope' (with_held name value variables))
        → Goes scope scope' taken (right_value right >>= store name) (store_right names (path_of names name) right ∷ [])
    stored_goes scope' name entry right h fits next t variables extra ready long =
        let is = right_is target typed names below extra scope within variables ready t entry.type right fits in
        let k = stored_step scope' name entry entry.type h next variables extra ready (right_value right t variables) is.0 is.1
        in subst (λ y. Alike names below rooms OnNext scope' taken extra (step_then (right_value right t variables) (store name)) y)
        (sym (alone (store_right names (path_of names name) right) t (memory_of names below extra variables) ∙ is.2 call (path_of names name))) k

    -- a text that is printed
    pub text_goes : (bytes : List ℕ) → Goes scope scope taken (print_line bytes) (put_text (bytes ++ 10 ∷ []) ∷ [])
    text_goes bytes t variables extra ready long =
        went_both names below rooms OnNext scope taken extra extra tt Next (record t { events = t.events ++ map Puts (bytes ++ 10 ∷ []) }) variables (print_line bytes t variables) (do_all (put_text (bytes ++ 10 ∷ []) ∷ []) t (memory_of names below extra variables))
        (put_all_is (bytes ++ 10 ∷ []) t variables) (alone (put_text (bytes ++ 10 ∷ [])) t (memory_of names below extra variables) ∙ simp (put_runs, text_runs, put_all_is)) refl (same_below taken extra) ready

    -- one of two
    choice : (so : Bool) (p q : Act Variables (Unit {0})) (a b : Act Memory Flow) → GoAlike names below rooms OnNext scope scope taken p a → GoAlike names below rooms OnNext scope scope taken q b → GoAlike names below rooms OnNext scope scope taken (choose so p q) (choose so a b)
    choice true p q a b h k = h
    choice false p q a b h k = k

    -- a number, or a truth value, that is printed
    pub printed_goes : (type : Kind) (atom : Atom) → kind_of_atom scope atom ≡ Some type → Goes scope scope taken (with_value atom (λ value. print_line (printed_value value))) (print_of (Some type) (atom_expr names atom))
    printed_goes kind.Number atom h t variables extra ready long =
        let has = atom_holds scope variables ready atom kind.Number h in
        let low = atom_runs target typed names below extra scope within variables atom kind.Number (Of has.0) h has.1 in
        let plain : with_value atom (λ value. print_line (printed_value value)) t variables ≡ (put_all (printed_value (Of has.0)) >> put_all (10 ∷ [])) t variables
        = with_value_is variables t atom (Of has.0) (λ value. print_line (printed_value value)) has.1 ∙ ap (λ (a : Act Variables (Unit {0})). a t variables) (put_all-append (printed_value (Of has.0)) (10 ∷ [])) in
        let u : Trace = record t { events = (t.events ++ map Puts (printed_value (Of has.0))) ++ map Puts (10 ∷ []) }
        in went_both names below rooms OnNext scope taken extra extra tt Next u variables (with_value atom (λ value. print_line (printed_value value)) t variables) (do_all (print_of (Some kind.Number) (atom_expr names atom)) t (memory_of names below extra variables))
        (plain ∙ simp put_all_is) (simp (put_runs, text_runs, low, put_all_is)) refl (same_below taken extra) ready
    printed_goes kind.Truth atom h t variables extra ready long =
        let has = atom_holds scope variables ready atom kind.Truth h in
        let memory = memory_of names below extra variables in
        let low = atom_runs target typed names below extra scope within variables atom kind.Truth (Is has.0) h has.1 t in
        let plain = with_value_is variables t atom (Is has.0) (λ value. print_line (printed_value value)) has.1 in
        let yes : List CoreStmt = put_text (codes "T\n") ∷ [] in
        let nay : List CoreStmt = put_text (codes "F\n") ∷ []
        in subst₂ (λ x y. Alike names below rooms OnNext scope taken extra x y) (sym plain)
        (sym (alone (core.If (atom_expr names atom) yes nay) t memory
        ∙ (if_runs target call (atom_expr names atom) yes nay t memory
        ∙ (ap (λ y. step_then y (λ value. lowest.with_number value (λ number. choose (is_true number) (do_all yes) (do_all nay)))) low
        ∙ ap (λ so. choose so (do_all yes) (do_all nay) t memory) (is_true_truth has.0)))))
        (truth_goes has.0 t variables extra ready long)
      where
        truth_goes : (so : Bool) → GoAlike names below rooms OnNext scope scope taken (print_line (printed_truth so)) (choose so (do_all (put_text (codes "T\n") ∷ [])) (do_all (put_text (codes "F\n") ∷ [])))
        truth_goes true = text_goes (codes "T")
        truth_goes false = text_goes (codes "F")

    -- a condition, and what it chooses
    pub chosen_goes : (test : Condition) → condition_fits scope test ≡ true → (p q : Act Variables (Unit {0})) (a b : List CoreStmt) → Goes scope scope taken p a → Goes scope scope taken q b
        → Goes scope scope taken (condition_value test >>= (λ so. choose so p q)) (core.If (condition_expr names test) a b ∷ [])
    chosen_goes test fits p q a b h k t variables extra ready long =
        let memory = memory_of names below extra variables in
        let is = condition_is target typed names below extra scope within variables ready t test fits
        in subst₂ (λ x y. Alike names below rooms OnNext scope taken extra x y) (sym (ap (λ x. step_then x (λ so. choose so p q)) is.1))
        (sym (alone (core.If (condition_expr names test) a b) t memory
        ∙ (if_runs target call (condition_expr names test) a b t memory
        ∙ (ap (λ y. step_then y (λ value. lowest.with_number value (λ number. choose (is_true number) (do_all a) (do_all b)))) is.2
        ∙ ap (λ so. choose so (do_all a) (do_all b) t memory) (is_true_truth is.0)))))
        (choice is.0 p q (do_all a) (do_all b) h k t variables extra ready long)

    -- nothing
    pub nothing_goes : Goes scope scope taken (pure tt) []
    nothing_goes t variables extra ready long = record { value = Next; now = extra; is = refl; related = refl; kept = same_below taken extra; ready = ready }

    -- a halt
    pub halt_goes : (kind line : ℕ) → Goes scope scope taken (over (run.Halt kind 0 line)) (core.Halt kind 0 line ∷ [])
    halt_goes kind line t variables extra ready long = (alone (core.Halt kind 0 line) t (memory_of names below extra variables) ∙ halt_runs target call kind 0 line t (memory_of names below extra variables), tt)
