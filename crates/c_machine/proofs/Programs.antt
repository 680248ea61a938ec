-- A resolved program has the runs of the C file.
use Rattle.std.proofs.Common.{◌≡◌, ℕ, ℤ, ◌+◌, List, [], Option, None, Some, map, length, max, refl, ap, ◌∙◌, subst}
use Rattle.std.specs.Prelude.{slice_get, replicate, reverse, codes}
use Rattle.sl_run.specs.Run.{Act, pure, ◌>>=◌, ◌>>◌, calls}
use Rattle.sl_run.specs.Alike.{AnyCopies, Same, NoneExcused}
use Rattle.sl_run.proofs.Alike.{pure_follows, turn_follows_within, calls_follow}
use Rattle.sl_run.proofs.Outcomes.{follows_runs}
use Rattle.c_tree.specs.declared.tree.CFile.{CFile}
use Rattle.c_tree.specs.declared.tree.CFun.{CFun}
use Rattle.c_tree.specs.Bytes.{charge}
use Rattle.c_tree.specs.Memory.{Tree, Unwritten, Number, Memory, live}
use Rattle.c_tree.specs.Meaning.{charge_of, numbered_call, number_of, run_callees, begin_start, first_memory, c_run}
use Rattle.c_tree.specs.Meaning as c
use Rattle.c_rules.specs.declared.naming.Names.{Names}
use Rattle.c_machine.specs.declared.program.Function.{Function}
use Rattle.c_machine.specs.declared.program.Program.{Program}
use Rattle.c_machine.specs.declared.scopes.Variable.{Variable}
use Rattle.c_machine.specs.State.{State}
use Rattle.c_machine.specs.Meaning.{Calls, begin, leave, in_frame, body, meaning, functions, enter, called, with_some, exit_value, whole, first_state, program_run}
use Rattle.c_machine.specs.Naming.{AreVars, callee_in}
use Rattle.c_rules.specs.Naming.{item_named}
use Rattle.c_machine.specs.Related.{Fits, GoesAs, call_of, AreCallees}
use Rattle.c_machine.specs.Resolved.{FunctionIs, callees_of, FunctionsAre, AreNumbers, AreInlines, MeansFile}
use Rattle.c_machine.proofs.Lists.{Both, both_at}
use Rattle.c_machine.proofs.Going.{goes_same, bind_goes, some_goes, stuck_goes}
use Rattle.c_machine.proofs.Calling.{unwritten, inner_goes, framed_alike, frame_alike}

module _ (file : CFile) (globals : Names Variable) (numbers : Names ℕ) (inlines : Names Function) (named : AreVars file.globals globals) (numbered : AreNumbers file.functions numbers) (inlined : AreInlines file (reverse file.functions) inlines) where
  -- calls by names lead to what C calls
  all_lead : (call : Calls) (by_number : ℕ → List Tree → Act Memory (Option ℤ)) → ((depth n : ℕ) (xs : List ℤ) → GoesAs depth (call n xs) (by_number n (map Number xs))) → AreCallees (callees_of numbers inlines) call (c.callees file by_number)
  all_lead call by_number h name depth xs =
      goes_same depth _ (call_of (callee_in (number_of file name) (item_named inlines name)) call xs) _ (numbered_call file by_number name (number_of file name) (map Number xs))
      (ap (λ number. call_of (callee_in number (item_named inlines name)) call xs) (numbered name)) refl (at (number_of file name))
    where
      at : (number : Option ℕ) → GoesAs depth (call_of (callee_in number (item_named inlines name)) call xs) (numbered_call file by_number name number (map Number xs))
      at None = inlined call name depth xs
      at (Some n) = h depth n xs

  module _ (program : Program) (are : FunctionsAre globals (callees_of numbers inlines) file.functions program.functions) where
    -- functions by their numbers
    functions_go : (call : Calls) (by_number : ℕ → List Tree → Act Memory (Option ℤ)) → ((depth n : ℕ) (xs : List ℤ) → GoesAs depth (call n xs) (by_number n (map Number xs))) → (depth n : ℕ) (xs : List ℤ) → GoesAs depth (functions program call n xs) (c.functions file by_number n (map Number xs))
    functions_go call by_number h depth n xs = at (slice_get file.functions n) (slice_get program.functions n) (both_at (FunctionIs globals (callees_of numbers inlines)) file.functions program.functions n are)
      where
        at : (o : Option CFun) (p : Option Function) → Both (FunctionIs globals (callees_of numbers inlines)) o p → GoesAs depth
            (with_some p (λ function. begin n function.vars xs >> body function.gives (map meaning function.body) call))
            (c.with_some o (λ function. c.begin n (charge file function) function (map Number xs) >> c.body file function (c.callees file by_number)))
        at None None e = stuck_goes depth (Option ℤ)
        at (Some function) (Some resolved) e = λ t u s m same fits.
            frame_alike file globals named (callees_of numbers inlines) function resolved e call (c.callees file by_number) (all_lead call by_number h) depth n n (charge file function) xs refl t u s m same fits
        at None (Some resolved) e = absurd e
        at (Some function) None e = absurd e

    -- calls by numbers
    called_goes : (depth n : ℕ) (xs : List ℤ) → GoesAs depth (called program n xs) (calls (c.enter file None) (c.functions file) n (map Number xs))
    unfolding called
    called_goes depth n xs =
        calls_follow NoneExcused AnyCopies Fits (λ (depth : ℕ) (f : ℕ) (x : List ℤ) (g : ℕ) (y : List Tree). (f ≡ g) × (map Number x ≡ y)) (λ (depth : ℕ). Same {A = Option ℤ}) enter (c.enter file None) (functions program) (c.functions file)
        (λ depth f x g y e t u s m same fits. turn_follows_within NoneExcused AnyCopies (Fits depth) (live m + charge_of file (slice_get file.functions g)) t u s m same fits)
        (λ call by_number h depth f x g y e.
        subst (λ g. GoesAs depth (functions program call f x) (c.functions file by_number g y)) e.0
        (subst (λ y. GoesAs depth (functions program call f x) (c.functions file by_number f y)) e.1
        (functions_go call by_number (λ depth n xs. h depth n xs n (map Number xs) (refl, refl)) depth f x)))
        depth n xs n (map Number xs) (refl, refl)

    -- the exit value
    exit_goes : (depth : ℕ) (given : Option ℤ) → GoesAs depth (exit_value given) (c.exit_value given)
    exit_goes depth given = some_goes depth given pure pure (λ n. pure_follows NoneExcused AnyCopies (Fits depth) Same n n refl)

    -- the first function
    first_goes : (n : ℕ) (o : Option CFun) (p : Option Function) → Both (FunctionIs globals (callees_of numbers inlines)) o p → GoesAs 0
        (with_some p (λ function. begin n function.vars [] >> (in_frame function.gives (map meaning function.body) (called program) >>= exit_value >>= leave)))
        (c.with_some o (λ function. begin_start file None n function >> (c.in_frame file function (run_callees file None) >>= c.exit_value >>= c.leave)))
    first_goes n None None e = stuck_goes 0 ℤ
    first_goes n (Some function) (Some resolved) e = λ t u s m same fits.
        let lead = all_lead (called program) (calls (c.enter file None) (c.functions file)) called_goes
        in framed_alike file globals named (callees_of numbers inlines) function resolved e (called program) (run_callees file None) lead 0 n n (charge file function) [] refl
        (in_frame resolved.gives (map meaning resolved.body) (called program) >>= exit_value) (c.in_frame file function (run_callees file None) >>= c.exit_value)
        (bind_goes 1 (in_frame resolved.gives (map meaning resolved.body) (called program)) (c.in_frame file function (run_callees file None)) exit_value c.exit_value
        (inner_goes file globals named (callees_of numbers inlines) function resolved e (called program) (run_callees file None) lead 1) (exit_goes 1))
        t (record u { peak = max u.peak (charge file function) }) s m (record { events = same.events; rest = same.rest; left = same.left; made = tt }) fits
    first_goes n None (Some resolved) e = absurd e
    first_goes n (Some function) None e = absurd e

    module _ (start : program.start ≡ number_of file (codes "sl_main")) (count : program.globals ≡ length file.globals) where
      -- the program, where it begins with this function
      abbrev from_start : Option ℕ → Act State ℤ
      from_start number = with_some number (λ n. with_some (slice_get program.functions n) (λ function. begin n function.vars [] >> (in_frame function.gives (map meaning function.body) (called program) >>= exit_value >>= leave)))

      -- the whole program
      whole_goes : GoesAs 0 (whole program) (c.program file None)
      whole_goes =
          goes_same 0 (whole program) (from_start (number_of file (codes "sl_main"))) (c.program file None) (c.program file None) (ap from_start start) refl
          (some_goes 0 (number_of file (codes "sl_main")) _ _ (λ n. first_goes n (slice_get file.functions n) (slice_get program.functions n) (both_at (FunctionIs globals (callees_of numbers inlines)) file.functions program.functions n are)))

      -- its runs
      pub means_file : MeansFile file program
      unfolding program_run c_run
      means_file input turns =
          follows_runs NoneExcused AnyCopies (Fits 0) (whole program) (c.program file None) (first_state program) (first_memory file) whole_goes
          (record { globals = unwritten program.globals ∙ ap (λ n. replicate n Unwritten) count; frames = tt; begun = refl }) tt input turns (λ excused. excused)
