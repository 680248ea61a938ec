-- The loops of a plain program go as those of its core do.
use Rattle.std.proofs.Common.{◌≡◌, ℕ, zero, suc, ◌<◌, ℤ, pos, List, [], ◌∷◌, ◌++◌, map, length, Bool, true, false, Option, Some, None, bytes_eq, slice_get, slice_set, refl, sym, subst, subst₂, ap, ◌∙◌, arith}
use Rattle.std.specs.Prelude.{◌+ℤ◌, Result, Ok, Err}
use Rattle.std.specs.List.{IsDistinct}
use Rattle.sl_num.specs.declared.arithmetic.Halt.{Halt}
use Rattle.sl_num.specs.declared.arithmetic.Op.TheVariants.{Add}
use Rattle.sl_num.specs.declared.comparing.Comparison.TheVariants.{Less}
use Rattle.sl_num.specs.Arithmetic.{applied}
use Rattle.sl_num.specs.Comparing.{holds, truth}
use Rattle.sl_run.specs.Run.{Trace, Step, Went, Over, Act, pure, step_then, ◌>>=◌, ◌>>◌, turn_at, round_then, loop}
use Rattle.sl_run.specs.Run as run
use Rattle.sl_run.specs.Laws.{Steady}
use Rattle.sl_run.proofs.Statements.{round_agrees}
use Rattle.sl_run.proofs.Equations.{loop_is}
use Rattle.sl_run.proofs.Alike.{BothGive}
use Rattle.sl_core.specs.declared.tree.Core.{Core}
use Rattle.sl_core.specs.declared.tree.CoreType.TheVariants.{Int}
use Rattle.sl_core.specs.declared.tree.CorePath.{CorePath}
use Rattle.sl_core.specs.declared.tree.CoreStmt.{CoreStmt}
use Rattle.sl_core.specs.declared.tree.CoreStmt.TheVariants as core
use Rattle.sl_core.specs.declared.tree.CoreExpr.{CoreExpr}
use Rattle.sl_core.specs.declared.tree.CoreExpr.TheVariants as expr
use Rattle.sl_core.specs.Memory.{Memory, Frame}
use Rattle.sl_core.specs.Memory as held
use Rattle.sl_run.specs.Statements.{Next, Broke, then_on, after_round}
use Rattle.sl_core.specs.Meaning.{Callees, Flow, evaluate, number_or_halt, halt_number, is_true}
use Rattle.sl_core.specs.Meaning as lowest
use Rattle.sl_core.proofs.Equations.{path_runs, number_runs, compare_runs, apply_runs, store_runs, if_runs, loop_runs, break_runs}
use Rattle.sl_core.proofs.Steady.{in_order_agrees}
use Rattle.sl_plain.specs.declared.program.Kind.TheVariants as kind
use Rattle.sl_plain.specs.declared.program.Atom.{Atom}
use Rattle.sl_plain.specs.declared.program.Condition.{Condition}
use Rattle.sl_plain.specs.Numbers.{z_type}
use Rattle.sl_plain.specs.Program.{Declared, declaration, name_of, kind_of_atom, condition_fits, counted}
use Rattle.sl_plain.specs.Means.{Of, Variables, value_of, with_held, with_number, with_number_of, result_or_halt, condition_value, store, round_of, while_holds, for_numbers, count_until}
use Rattle.sl_plain.specs.Lowered.{path_of, atom_expr, condition_expr, unnamed, leave_unless, raise, for_round, for_of, z}
use Rattle.sl_core.proofs.Slots.{SameBelow, same_below, set_below, then_below, get_set_same, get_set_other}
use Rattle.sl_plain.proofs.Held.{memory_of, Ready, Within, Extends, store_is, read_unnamed, store_unnamed, ready_declared}
use Rattle.sl_plain.proofs.Values.{atom_holds, with_number_is, atom_runs, condition_is, is_true_truth, sum_is, some_left, none_left}
use Rattle.sl_plain.proofs.Alike.{Alike, GoAlike, went_both, alike_from, go_same, bind_alike, loop_alike}
use Rattle.sl_plain.proofs.Parts.{OnNext, do_all, Goes, alone, do_all-append}

module _ (target : Core) (typed : slice_get target.types 0 ≡ Some (Int z_type)) (names : List Declared) (distinct : IsDistinct bytes_eq (map name_of names)) (below : List Frame) (rooms : ℕ) (call : Callees) where
  abbrev does : List CoreStmt → Act Memory Flow
  does = do_all target typed names distinct below rooms call

  abbrev Same : List Declared → List Declared → ℕ → Act Variables (Unit {0}) → List CoreStmt → Type 0
  Same = Goes target typed names distinct below rooms call

  abbrev memory : List (Option held.Value) → Variables → Memory
  memory extra variables = memory_of names below extra variables

  -- one round of a loop of these statements
  abbrev round : List CoreStmt → Act Memory (Option Flow)
  round stmts = does stmts >>= (λ flow. pure (after_round flow))

  -- a loop alone
  loop_alone : (stmts : List CoreStmt) (t : Trace) (m : Memory) → does (core.Loop stmts ∷ []) t m ≡ loop (round stmts) t m
  loop_alone stmts t m = alone target typed names distinct below rooms call (core.Loop stmts) t m ∙ loop_runs target call stmts t m

  -- how a loop goes on where this was asked
  abbrev leaving : Bool → Flow
  leaving true = Next
  leaving false = Broke

  leave_is : (e : CoreExpr) (so : Bool) (t : Trace) (m : Memory) → evaluate target e t m ≡ Went (held.Number (truth so)) t m → lowest.meaning target (leave_unless e) call t m ≡ Went (leaving so) t m
  leave_is e so t m is =
      if_runs target call e [] (core.Break ∷ []) t m
      ∙ (ap (λ y. step_then y (λ value. lowest.with_number value (λ number. run.choose (is_true number) (does []) (does (core.Break ∷ []))))) is
      ∙ (ap (λ so. run.choose so (does []) (does (core.Break ∷ [])) t m) (is_true_truth so) ∙ left so))
    where
      left : (so : Bool) → run.choose so (does []) (does (core.Break ∷ [])) t m ≡ Went (leaving so) t m
      left true = refl
      left false = alone target typed names distinct below rooms call core.Break t m ∙ break_runs target call t m

  -- `while` -------------------------------------------------------------------------------------------------------------

  module _ (scope : List Declared) (within : Within names scope) (taken : ℕ) where
    -- what comes after an asking that was answered so
    asked_alike : (so : Bool) (body : Act Variables (Unit {0})) (low : List CoreStmt) → Same scope scope taken body low → GoAlike names below rooms (BothGive OnNext) scope scope taken (round_of body so) (then_on (does low) (leaving so) >>= (λ flow. pure (after_round flow)))
    asked_alike true body low h =
        bind_alike names below rooms OnNext (BothGive OnNext) scope scope scope taken body (does low) (λ _. pure None) (λ flow. pure (after_round flow)) h
        (λ x flow is t variables extra ready long. went_both names below rooms (BothGive OnNext) scope taken extra extra None None t variables (Went None t variables) (pure (after_round flow) t (memory extra variables)) refl (ap (λ flow. Went (after_round flow) t (memory extra variables)) is) tt (same_below taken extra) ready)
    asked_alike false body low h = λ t variables extra ready long.
        went_both names below rooms (BothGive OnNext) scope taken extra extra (Some tt) (Some Next) t variables (Went (Some tt) t variables) (Went (Some Next) t (memory extra variables)) refl refl refl (same_below taken extra) ready

    -- a round of a `while`
    round_goes : (test : Condition) → condition_fits scope test ≡ true → (body : Act Variables (Unit {0})) (low : List CoreStmt) → Same scope scope taken body low
        → GoAlike names below rooms (BothGive OnNext) scope scope taken (condition_value test >>= round_of body) (round (leave_unless (condition_expr names test) ∷ low))
    round_goes test fits body low h t variables extra ready long =
        let is = condition_is target typed names below extra scope within variables ready t test fits
        in subst₂ (λ x y. Alike names below rooms (BothGive OnNext) scope taken extra x y) (sym (ap (λ x. step_then x (round_of body)) is.1))
        (sym (ap (λ y. step_then (step_then y (then_on (does low))) (λ flow. pure (after_round flow))) (leave_is (condition_expr names test) is.0 t (memory extra variables) is.2)))
        (asked_alike is.0 body low h t variables extra ready long)

    -- a `while`
    pub while_goes : (test : Condition) → condition_fits scope test ≡ true → (body : Act Variables (Unit {0})) (low : List CoreStmt) → Same scope scope taken body low
        → Same scope scope taken (while_holds test body) (core.Loop (leave_unless (condition_expr names test) ∷ low) ∷ [])
    while_goes test fits body low h =
        go_same names below rooms OnNext scope scope taken (while_holds test body) (does (core.Loop (leave_unless (condition_expr names test) ∷ low) ∷ [])) (loop (round (leave_unless (condition_expr names test) ∷ low)))
        (loop_alone (leave_unless (condition_expr names test) ∷ low))
        (loop_alike names below rooms OnNext scope taken (condition_value test >>= round_of body) (round (leave_unless (condition_expr names test) ∷ low)) (round_goes test fits body low h))

  -- `for` ---------------------------------------------------------------------------------------------------------------

  module _ (calm : (function : ℕ) → Steady (call function)) where
    -- a round gives no turn back
    round_steady : (stmts : List CoreStmt) → Steady (round stmts)
    round_steady stmts n = round_agrees n (does stmts) (does stmts) (in_order_agrees n target stmts call call (λ function. calm function n))

    module _ (scope inner : List Declared) (taken : ℕ) (name : List ℕ) (known : declaration names name ≡ Some (counted name)) (extends : Extends scope inner)
        (line : ℕ) (body : Act Variables (Unit {0})) (low : List CoreStmt) (goes : Same (counted name ∷ scope) inner (suc (suc taken)) body low) where
      abbrev next : CorePath
      next = unnamed names taken

      abbrev bound : CorePath
      bound = unnamed names (suc taken)

      -- a round of the core
      abbrev goes_round : Act Memory (Option Flow)
      goes_round = round (for_round line (path_of names name) next bound low)

      -- the variables without names hold the next number and the second bound
      pub record Counts (a b : ℤ) (extra : List (Option held.Value)) : Type 0 where
        pub next_held : slice_get extra taken ≡ Some (Some (held.Number a))
        pub bound_held : slice_get extra (suc taken) ≡ Some (Some (held.Number b))

      module _ (a b : ℤ) (extra : List (Option held.Value)) (variables : Variables) (counts : Counts a b extra) (t : Trace) where
        -- the asking
        asks : lowest.meaning target (leave_unless (expr.Compare Less (expr.Path next z) (expr.Path bound z) z)) call t (memory extra variables) ≡ Went (leaving (holds Less a b)) t (memory extra variables)
        asks =
            let first : evaluate target (expr.Path next z) t (memory extra variables) ≡ Went (held.Number a) t (memory extra variables) = path_runs target next z t (memory extra variables) ∙ read_unnamed names below extra variables taken (held.Number a) counts.next_held t in
            let second : evaluate target (expr.Path bound z) t (memory extra variables) ≡ Went (held.Number b) t (memory extra variables) = path_runs target bound z t (memory extra variables) ∙ read_unnamed names below extra variables (suc taken) (held.Number b) counts.bound_held t
            in leave_is (expr.Compare Less (expr.Path next z) (expr.Path bound z) z) (holds Less a b) t (memory extra variables) (simp (compare_runs, first, second))

        -- the name gets the next number
        names_it : lowest.meaning target (core.Store (path_of names name) (expr.Path next z)) call t (memory extra variables) ≡ Went Next t (memory extra (with_held name (Of a) variables))
        names_it =
            let first : evaluate target (expr.Path next z) t (memory extra variables) ≡ Went (held.Number a) t (memory extra variables) = path_runs target next z t (memory extra variables) ∙ read_unnamed names below extra variables taken (held.Number a) counts.next_held t
            in store_runs target call (path_of names name) (expr.Path next z) t (memory extra variables)
            ∙ (ap (λ y. step_then (step_then y (lowest.store (path_of names name))) (λ _. pure Next)) first
            ∙ ap (λ y. step_then y (λ _. pure Next)) (store_is names below extra distinct variables name (counted name) (Of a) known t))

        -- the sum
        raises : lowest.meaning target (raise line next) call t (memory extra variables) ≡ step_then (step_then (number_or_halt 0 line (applied z_type Add a (pos 1)) t (memory extra variables)) (lowest.store next)) (λ _. pure Next)
        raises =
            let first : evaluate target (expr.Path next z) t (memory extra variables) ≡ Went (held.Number a) t (memory extra variables) = path_runs target next z t (memory extra variables) ∙ read_unnamed names below extra variables taken (held.Number a) counts.next_held t in
            let sum : evaluate target (expr.Apply Add (expr.Path next z) (expr.Number (pos 1) z) z 0 line) t (memory extra variables) ≡ number_or_halt 0 line (applied z_type Add a (pos 1)) t (memory extra variables) = simp (apply_runs, number_runs, first, typed)
            in store_runs target call next (expr.Apply Add (expr.Path next z) (expr.Number (pos 1) z) z 0 line) t (memory extra variables)
            ∙ ap (λ y. step_then (step_then y (lowest.store next)) (λ _. pure Next)) sum

      -- where the next number isn't less, the loop is left
      stops : (a b : ℤ) (extra : List (Option held.Value)) (variables : Variables) (t : Trace) → Counts a b extra → holds Less a b ≡ false → goes_round t (memory extra variables) ≡ Went (Some Next) t (memory extra variables)
      stops a b extra variables t counts less =
          ap (λ y. step_then (step_then y (then_on (does (core.Store (path_of names name) (expr.Path next z) ∷ (low ++ raise line next ∷ []))))) (λ flow. pure (after_round flow)))
          (asks a b extra variables counts t ∙ ap (λ so. Went (leaving so) t (memory extra variables)) less)

      -- else the name gets it, and then come the body and the sum
      rounds : (a b : ℤ) (extra : List (Option held.Value)) (variables : Variables) (t : Trace) → Counts a b extra → holds Less a b ≡ true
          → goes_round t (memory extra variables) ≡ step_then (step_then (does low t (memory extra (with_held name (Of a) variables))) (then_on (does (raise line next ∷ [])))) (λ flow. pure (after_round flow))
      rounds a b extra variables t counts less =
          ap (λ y. step_then (step_then y (then_on (does (core.Store (path_of names name) (expr.Path next z) ∷ (low ++ raise line next ∷ []))))) (λ flow. pure (after_round flow)))
          (asks a b extra variables counts t ∙ ap (λ so. Went (leaving so) t (memory extra variables)) less)
          ∙ (ap (λ y. step_then (step_then y (then_on (does (low ++ raise line next ∷ [])))) (λ flow. pure (after_round flow))) (names_it a b extra variables counts t)
          ∙ ap (λ y. step_then y (λ flow. pure (after_round flow))) (do_all-append target typed names distinct below rooms call low (raise line next ∷ []) t (memory extra (with_held name (Of a) variables))))

      -- what is known of the numbers from one on
      abbrev Numbers : ℕ → Type 0
      Numbers count = (a b : ℤ) → count_until a b ≡ count → (t : Trace) (variables : Variables) (extra : List (Option held.Value)) → Ready scope variables → length extra ≡ rooms → Counts a b extra
          → Alike names below rooms OnNext scope taken extra (for_numbers line name a count body t variables) (loop goes_round t (memory extra variables))

      -- the loop of the core, opened
      opened : (t : Trace) (m : Memory) → loop goes_round t m ≡ step_then (turn_at t.left t m) (λ _. goes_round >>= (λ given. round_then given (loop goes_round)))
      opened t m = ap (λ (l : Act Memory Flow). l t m) (loop_is goes_round (round_steady (for_round line (path_of names name) next bound low)))

      -- behind the body
      abbrev Behind : ℕ → ℤ → List (Option held.Value) → Step Variables (Unit {0}) → Step Memory Flow → Type 0
      Behind count a extra x y =
          Alike names below rooms OnNext scope taken extra
          (step_then (step_then x (λ _. result_or_halt line (applied z_type Add a (pos 1)))) (with_number_of (λ n. for_numbers line name n count body)))
          (step_then (step_then (step_then y (then_on (does (raise line next ∷ [])))) (λ flow. pure (after_round flow))) (λ given. round_then given (loop goes_round)))

      -- behind the sum
      summed : (count : ℕ) → Numbers count → (a b : ℤ) → count_until (a +ℤ pos 1) b ≡ count → (t : Trace) (variables : Variables) (extra : List (Option held.Value)) → Ready scope variables → length extra ≡ rooms → suc taken < rooms → Counts a b extra
          → (result : Result ℤ Halt) → applied z_type Add a (pos 1) ≡ result
          → Alike names below rooms OnNext scope taken extra
          (step_then (result_or_halt line result t variables) (with_number_of (λ n. for_numbers line name n count body)))
          (step_then (step_then (step_then (step_then (number_or_halt 0 line result t (memory extra variables)) (lowest.store next)) (λ _. pure Next)) (λ flow. pure (after_round flow))) (λ given. round_then given (loop goes_round)))
      summed count h a b left t variables extra ready long room counts (Ok n) is =
          let later : List (Option held.Value) = slice_set extra taken (Some (held.Number n)) in
          let kept : SameBelow taken extra later = set_below taken taken extra (Some (held.Number n)) (omega arith) in
          let same : n ≡ a +ℤ pos 1 = sum_is a n is in
          let more : Counts n b later = record {
            next_held = get_set_same extra taken (Some (held.Number n)) (omega arith);
            bound_held = get_set_other extra taken (suc taken) (Some (held.Number n)) (λ e. omega arith) ∙ counts.bound_held;
          } in
          let rest = h n b (ap (λ n. count_until n b) same ∙ left) t variables later ready (sym kept.long ∙ long) more
          in subst (λ y. Alike names below rooms OnNext scope taken extra (for_numbers line name n count body t variables) y)
          (sym (ap (λ y. step_then (step_then (step_then y (λ _. pure Next)) (λ flow. pure (after_round flow))) (λ given. round_then given (loop goes_round))) (store_unnamed names below extra variables taken (held.Number n) t)))
          (alike_from names below rooms OnNext scope taken taken extra later (omega arith) kept (for_numbers line name n count body t variables) (loop goes_round t (memory later variables)) rest)
      summed count h a b left t variables extra ready long room counts (Err halt) is = (refl, tt)

      behind : (count : ℕ) → Numbers count → (a b : ℤ) → count_until (a +ℤ pos 1) b ≡ count → (extra : List (Option held.Value)) → length extra ≡ rooms → suc taken < rooms → Counts a b extra
          → (x : Step Variables (Unit {0})) (y : Step Memory Flow) → Alike names below rooms OnNext inner (suc (suc taken)) extra x y → Behind count a extra x y
      behind count h a b left extra long room counts (Over e t) y alike =
          (ap (λ y. step_then (step_then (step_then y (then_on (does (raise line next ∷ [])))) (λ flow. pure (after_round flow))) (λ given. round_then given (loop goes_round))) alike.0, alike.1)
      behind count h a b left extra long room counts (Went v t variables) y alike =
          let now : List (Option held.Value) = alike.now in
          let kept : SameBelow taken extra now = record { long = alike.kept.long; same = λ i less. alike.kept.same i (omega arith) } in
          let still : Counts a b now = record {
            next_held = sym (alike.kept.same taken (omega arith)) ∙ counts.next_held;
            bound_held = sym (alike.kept.same (suc taken) (omega arith)) ∙ counts.bound_held;
          } in
          let rest = summed count h a b left t variables now (λ other entry e. alike.ready other entry (extends other entry e)) (sym alike.kept.long ∙ long) room still (applied z_type Add a (pos 1)) refl in
          let low_is : step_then y (then_on (does (raise line next ∷ []))) ≡ step_then (step_then (number_or_halt 0 line (applied z_type Add a (pos 1)) t (memory now variables)) (lowest.store next)) (λ _. pure Next)
          = ap (λ y. step_then y (then_on (does (raise line next ∷ [])))) (alike.is ∙ ap (λ flow. Went flow t (memory now variables)) alike.related)
          ∙ (alone target typed names distinct below rooms call (raise line next) t (memory now variables) ∙ raises a b now variables still t)
          in subst (λ y. Alike names below rooms OnNext scope taken extra (step_then (result_or_halt line (applied z_type Add a (pos 1)) t variables) (with_number_of (λ n. for_numbers line name n count body))) (step_then (step_then y (λ flow. pure (after_round flow))) (λ given. round_then given (loop goes_round))))
          (sym low_is)
          (alike_from names below rooms OnNext scope taken taken extra now (omega arith) kept
          (step_then (result_or_halt line (applied z_type Add a (pos 1)) t variables) (with_number_of (λ n. for_numbers line name n count body)))
          (step_then (step_then (step_then (step_then (number_or_halt 0 line (applied z_type Add a (pos 1)) t (memory now variables)) (lowest.store next)) (λ _. pure Next)) (λ flow. pure (after_round flow))) (λ given. round_then given (loop goes_round)))
          rest)

      -- the numbers that are left
      numbers : suc taken < rooms → (count : ℕ) → Numbers count
      numbers room zero = λ a b left t variables extra ready long counts.
          subst (λ y. Alike names below rooms OnNext scope taken extra (turn_at t.left t variables) y) (sym (opened t (memory extra variables)))
          (at t.left a b left t variables extra ready counts)
        where
          at : (n : ℕ) (a b : ℤ) → count_until a b ≡ 0 → (t : Trace) (variables : Variables) (extra : List (Option held.Value)) → Ready scope variables → Counts a b extra
              → Alike names below rooms OnNext scope taken extra (turn_at n t variables) (step_then (turn_at n t (memory extra variables)) (λ _. goes_round >>= (λ given. round_then given (loop goes_round))))
          at zero a b left t variables extra ready counts = (refl, tt)
          at (suc n) a b left t variables extra ready counts =
              let u : Trace = record t { left = n }
              in went_both names below rooms OnNext scope taken extra extra tt Next u variables (Went tt u variables) ((goes_round >>= (λ given. round_then given (loop goes_round))) u (memory extra variables)) refl
              (ap (λ y. step_then y (λ given. round_then given (loop goes_round))) (stops a b extra variables u counts (none_left a b left))) refl (same_below taken extra) ready
      numbers room (suc count) = more room count (numbers room count)
        where
          more : suc taken < rooms → (count : ℕ) → Numbers count → Numbers (suc count)
          more room count h a b left t variables extra ready long counts =
              let some = some_left a b count left
              in subst (λ y. Alike names below rooms OnNext scope taken extra (for_numbers line name a (suc count) body t variables) y) (sym (opened t (memory extra variables)))
              (at t.left some.0 some.1)
            where
              at : (n : ℕ) → holds Less a b ≡ true → count_until (a +ℤ pos 1) b ≡ count
                  → Alike names below rooms OnNext scope taken extra
                  (step_then (step_then (step_then (step_then (turn_at n t variables) (λ _. store name (Of a))) (λ _. body)) (λ _. result_or_halt line (applied z_type Add a (pos 1)))) (with_number_of (λ n. for_numbers line name n count body)))
                  (step_then (turn_at n t (memory extra variables)) (λ _. goes_round >>= (λ given. round_then given (loop goes_round))))
              at zero less fewer = (refl, tt)
              at (suc n) less fewer =
                  let u : Trace = record t { left = n } in
                  let held_now : Variables = with_held name (Of a) variables
                  in subst (λ y. Alike names below rooms OnNext scope taken extra (step_then (step_then (body u held_now) (λ _. result_or_halt line (applied z_type Add a (pos 1)))) (with_number_of (λ n. for_numbers line name n count body))) (step_then y (λ given. round_then given (loop goes_round))))
                  (sym (rounds a b extra variables u counts less))
                  (behind count h a b fewer extra long room counts (body u held_now) (does low u (memory extra held_now))
                  (goes u held_now extra (ready_declared scope variables (counted name) (Of a) ready (a, refl)) long))

      -- a `for`
      pub for_goes : (within : Within names scope) (first end : Atom) → kind_of_atom scope first ≡ Some kind.Number → kind_of_atom scope end ≡ Some kind.Number → suc taken < rooms
          → Same scope scope taken (with_number first (λ a. with_number end (λ b. for_numbers line name a (count_until a b) body))) (for_of line (path_of names name) next bound (atom_expr names first) (atom_expr names end) low)
      for_goes within first end is_first is_end room t variables extra ready long =
          let from = atom_holds scope variables ready first kind.Number is_first in
          let to = atom_holds scope variables ready end kind.Number is_end in
          let with_next : List (Option held.Value) = slice_set extra taken (Some (held.Number from.0)) in
          let with_both : List (Option held.Value) = slice_set with_next (suc taken) (Some (held.Number to.0)) in
          let first_kept : SameBelow taken extra with_next = set_below taken taken extra (Some (held.Number from.0)) (omega arith) in
          let second_kept : SameBelow (suc taken) with_next with_both = set_below (suc taken) (suc taken) with_next (Some (held.Number to.0)) (omega arith) in
          let kept : SameBelow taken extra with_both = then_below taken (suc taken) extra with_next with_both (omega arith) first_kept second_kept in
          let first_long = first_kept.long in
          let counts : Counts from.0 to.0 with_both = record {
            next_held = get_set_other with_next (suc taken) taken (Some (held.Number to.0)) (λ e. omega arith) ∙ get_set_same extra taken (Some (held.Number from.0)) (omega arith);
            bound_held = get_set_same with_next (suc taken) (Some (held.Number to.0)) (omega arith);
          } in
          let many : List CoreStmt = for_round line (path_of names name) next bound low in
          let plain : with_number first (λ a. with_number end (λ b. for_numbers line name a (count_until a b) body)) t variables ≡ for_numbers line name from.0 (count_until from.0 to.0) body t variables
          = with_number_is variables t first from.0 _ from.1 ∙ with_number_is variables t end to.0 _ to.1 in
          let low_is : does (for_of line (path_of names name) next bound (atom_expr names first) (atom_expr names end) low) t (memory extra variables) ≡ loop goes_round t (memory with_both variables)
          = ap (λ y. step_then y (then_on (does (core.Store bound (atom_expr names end) ∷ core.Loop many ∷ [])))) (bound_is extra taken first from.0 is_first from.1)
          ∙ (ap (λ y. step_then y (then_on (does (core.Loop many ∷ [])))) (bound_is with_next (suc taken) end to.0 is_end to.1)
          ∙ loop_alone many t (memory with_both variables))
          in subst₂ (λ x y. Alike names below rooms OnNext scope taken extra x y) (sym plain) (sym low_is)
          (alike_from names below rooms OnNext scope taken taken extra with_both (omega arith) kept (for_numbers line name from.0 (count_until from.0 to.0) body t variables) (loop goes_round t (memory with_both variables))
          (numbers room (count_until from.0 to.0) from.0 to.0 refl t variables with_both ready (sym kept.long ∙ long) counts))
        where
          -- a bound is stored
          bound_is : (extra : List (Option held.Value)) (number : ℕ) (atom : Atom) (a : ℤ) → kind_of_atom scope atom ≡ Some kind.Number → value_of atom variables ≡ Some (Of a)
              → lowest.meaning target (core.Store (unnamed names number) (atom_expr names atom)) call t (memory extra variables) ≡ Went Next t (memory (slice_set extra number (Some (held.Number a))) variables)
          bound_is extra number atom a is value =
              store_runs target call (unnamed names number) (atom_expr names atom) t (memory extra variables)
              ∙ (ap (λ y. step_then (step_then y (lowest.store (unnamed names number))) (λ _. pure Next)) (atom_runs target typed names below extra scope within variables atom kind.Number (Of a) is value t)
              ∙ ap (λ y. step_then y (λ _. pure Next)) (store_unnamed names below extra variables number (held.Number a) t))
