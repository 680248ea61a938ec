-- The core of a plain program does what the program does, and the program is never stuck.
use Rattle.std.proofs.Common.{◌≡◌, ◌≢◌, ℕ, zero, suc, ◌+◌, ℤ, List, [], ◌∷◌, ◌++◌, map, replicate, length, Option, Some, None, option_and_then, flat_map, slice_get, refl, sym, subst, ap, ◌∙◌, arith}
use Rattle.std.specs.List.{AllByRecursion}
use Rattle.std.proofs.lemmas.Simd.{splat_is_map}
use Rattle.std.proofs.lemmas.List.{length-replicate, replicate-append-replicate}
use Rattle.sl_run.specs.Run.{Ending, Done, TurnsSpent, Stuck, Trace, start, Step, Went, Over, Act, pure, step_then, ◌>>◌, turn, calls}
use Rattle.sl_run.specs.Outcome.{Outcome, outcome, whole_run}
use Rattle.sl_run.specs.Laws.{Steady}
use Rattle.sl_run.proofs.Equations.{calls_are, turn_goes, turn_takes, takes_steady}
use Rattle.sl_run.proofs.Steady.{calls_steady}
use Rattle.sl_core.specs.declared.tree.Core.{Core}
use Rattle.sl_core.specs.declared.tree.CoreType.TheVariants.{Int}
use Rattle.sl_core.specs.declared.tree.CoreStmt.{CoreStmt}
use Rattle.sl_core.specs.declared.tree.CoreStmt.TheVariants as core
use Rattle.sl_core.specs.declared.tree.CoreExpr.TheVariants as expr
use Rattle.sl_core.specs.Memory.{Memory, Frame}
use Rattle.sl_core.specs.Memory as held
use Rattle.sl_run.specs.Statements.{Next, Returned, then_on, in_order}
use Rattle.sl_core.specs.Meaning.{Callees, Flow, begin, leave, given, body, functions, enter, run_callees, store_result, no_frames, core_run}
use Rattle.sl_core.specs.Meaning as lowest
use Rattle.sl_core.proofs.Equations.{path_runs, call_runs, return_runs}
use Rattle.sl_core.proofs.Steady.{functions_respect}
use Rattle.sl_plain.specs.declared.program.Kind.TheVariants as kind
use Rattle.sl_plain.specs.declared.program.Plain.{Plain}
use Rattle.sl_plain.specs.Numbers.{z_type}
use Rattle.sl_plain.specs.Program.{Declared, declaration, kind_of_atom, scoped_in_order, scoped, joined, declared_in, declared, IsProgram}
use Rattle.sl_plain.specs.Means.{Value, Of, Variables, with_number, meaning, program, none_held, plain_run}
use Rattle.sl_plain.specs.Means as means
use Rattle.sl_plain.specs.Lowered.{atom_expr, lowered, unnamed_of, main_body, main_of, start_fun, core_of, variable, z}
use Rattle.sl_plain.specs.Lowered as lower
use Rattle.sl_plain.proofs.Names.{KnownIn, all_known}
use Rattle.sl_plain.proofs.Held.{slot, memory_of, Within}
use Rattle.sl_plain.proofs.Values.{IsFine, kind_is, atom_holds, with_number_is, atom_runs}
use Rattle.sl_plain.proofs.Keeping.{IsKept}
use Rattle.sl_plain.proofs.Alike.{Alike}
use Rattle.sl_plain.proofs.Parts.{OnNext, do_all, alone, do_all-append}
use Rattle.sl_plain.proofs.Statements.{then_found, statements}

-- lists one after another
pub joined_map : {A B : Type 0} (f : A → List B) (xs : List A) → joined (map f xs) ≡ flat_map f xs
joined_map f [] = refl
joined_map f (x ∷ xs) = ap (λ ys. f x ++ ys) (joined_map f xs)

-- nothing is declared
pub nothing_declared : (name : List ℕ) (entry : Declared) → declaration [] name ≡ Some entry → ⊥
nothing_declared name entry h = grind arith

-- what is known of a program that fits: the scope behind its statements, where its value is a number
pub record Fits (program : Plain) : Type 0 where
  pub scope : List Declared
  pub scoped : scoped_in_order (map scoped program.body) [] ≡ Some scope
  pub value : kind_of_atom scope program.value ≡ Some kind.Number
  pub known : AllByRecursion (KnownIn (declared program)) (joined (map declared_in program.body))

pub program_is : (program : Plain) → IsProgram program → Fits program
program_is program is =
    let found = then_found (λ scope. kind_of_atom scope program.value) (scoped_in_order (map scoped program.body) []) kind.Number (kind_is kind.Number (option_and_then (λ scope. kind_of_atom scope program.value) (scoped_in_order (map scoped program.body) [])) is.fits)
    in record {
      scope = found.0;
      scoped = found.1;
      value = found.2;
      known = subst (λ entries. AllByRecursion (KnownIn (declared program)) entries) (sym (joined_map declared_in program.body)) (all_known (declared program) is.distinct);
    }

-- the core has the type of numbers
pub has_type : (program : Plain) → slice_get (core_of program).types 0 ≡ Some (Int z_type)
unfolding core_of
has_type program = refl

-- no condition
trivial : (names : List Declared) (rooms : ℕ) → IsKept names rooms 0 (λ s. Unit {0})
trivial names rooms = record {
  store = λ scope within name entry h right fits is lines. tt;
  print = λ scope within atom type h is. tt;
  text = λ bytes are. tt;
  choice = λ scope within test fits is chosen other a b. tt;
  loop = λ scope within test fits is body all. tt;
  bound = λ scope within atom type is number less. tt;
  count = λ name entry h taken room line less body all. tt;
  halt = λ kind le line less. tt;
}

module _ (plain : Plain) (is : IsProgram plain) where
  abbrev names : List Declared
  names = declared plain

  abbrev target : Core
  target = core_of plain

  -- the frame of the function in which the run begins
  abbrev start_frame : Frame
  start_frame = record { function = 1; vars = None ∷ [] }

  abbrev below : List Frame
  below = start_frame ∷ []

  abbrev start_memory : Memory
  start_memory = record { frames = below }

  -- how many variables have no names
  abbrev rooms : ℕ
  rooms = unnamed_of plain

  -- nothing is written in them
  abbrev unwritten : List (Option held.Value)
  unwritten = replicate rooms None

  -- what `main` does
  abbrev main : Act Variables ℤ
  main = means.in_order (map meaning plain.body) >> with_number plain.value pure

  module _ (call : Callees) (calm : (function : ℕ) → Steady (call function)) where
    abbrev returns : List CoreStmt
    returns = core.Return (atom_expr names plain.value) ∷ []

    abbrev does : List CoreStmt → Act Memory Flow
    does = do_all target (has_type plain) names is.distinct below rooms call

    -- how the core's `main` ends where the program's ended so
    abbrev MainEnds : Step Variables ℤ → Step Memory Flow → Type 0
    MainEnds (Went number t variables) y = (extra : List (Option held.Value)) × (y ≡ Went (Returned (held.Number number)) t (memory_of names below extra variables))
    MainEnds (Over e t) y = (y ≡ Over e t) × IsFine e

    -- what is returned behind the statements
    returned : (fits : Fits plain) → Within names fits.scope → (x : Step Variables (Unit {0})) (y : Step Memory Flow) → Alike names below rooms OnNext fits.scope 0 unwritten x y
        → MainEnds (step_then x (λ _. with_number plain.value pure)) (step_then y (then_on (does returns)))
    returned fits within (Went v t variables) y alike =
        let memory = memory_of names below alike.now variables in
        let has = atom_holds fits.scope variables alike.ready plain.value kind.Number fits.value in
        let goes : with_number plain.value pure t variables ≡ Went has.0 t variables = with_number_is variables t plain.value has.0 pure has.1 in
        let low = atom_runs target (has_type plain) names below alike.now fits.scope within variables plain.value kind.Number (Of has.0) fits.value has.1 t in
        let low_is : step_then y (then_on (does returns)) ≡ Went (Returned (held.Number has.0)) t memory
        = ap (λ y. step_then y (then_on (does returns))) (alike.is ∙ ap (λ flow. Went flow t memory) alike.related)
        ∙ (alone target (has_type plain) names is.distinct below rooms call (core.Return (atom_expr names plain.value)) t memory
        ∙ (return_runs target call (atom_expr names plain.value) t memory
        ∙ ap (λ y. step_then y (λ value. pure (Returned value))) low))
        in subst (λ x. MainEnds x (step_then y (then_on (does returns)))) (sym goes) (alike.now, low_is)
    returned fits within (Over f t) y alike = (ap (λ y. step_then y (then_on (does returns))) alike.0, alike.1)

    -- `main`
    main_goes : (t : Trace) → MainEnds (main t none_held) (does (main_body plain) t (memory_of names below unwritten none_held))
    main_goes t =
        let fits = program_is plain is in
        let after = statements target (has_type plain) names is.distinct below rooms call calm 0 (λ s. Unit {0}) (trivial names rooms) plain.body [] fits.scope fits.scoped (λ name entry h. absurd (nothing_declared name entry h)) fits.known in
        let goes = after.goes 0 (omega arith) t none_held unwritten (λ name entry h. absurd (nothing_declared name entry h)) (length-replicate rooms None) in
        let low = lower.in_order (map (lowered names) plain.body) 0 in
        let k = returned fits after.within (means.in_order (map meaning plain.body) t none_held) (does low t (memory_of names below unwritten none_held)) goes
        in subst (λ y. MainEnds (main t none_held) y) (sym (do_all-append target (has_type plain) names is.distinct below rooms call low returns t (memory_of names below unwritten none_held))) k

  -- how the call of `main` ends where it ended so
  abbrev call_image : Step Variables ℤ → Step Memory held.Value
  call_image (Went number t variables) = Went (held.Number number) t start_memory
  call_image (Over e t) = Over e t

  -- what the call gives behind its statements
  call_given : (call : Callees) (calm : (function : ℕ) → Steady (call function)) (x : Step Variables ℤ) (y : Step Memory Flow) → MainEnds call calm x y → step_then (step_then y given) leave ≡ call_image x
  call_given call calm (Went number t variables) y ends = ap (λ y. step_then (step_then y given) leave) ends.1
  call_given call calm (Over f t) y ends = ap (λ y. step_then (step_then y given) leave) ends.0

  -- nothing is written in the frame
  frame_empty : replicate (length (replicate (length names + rooms) z)) None ≡ map (slot none_held) names ++ unwritten
  frame_empty =
      ap (λ n. replicate n None) (length-replicate (length names + rooms) z)
      ∙ (sym (replicate-append-replicate (length names) rooms None)
      ∙ ap (λ front. front ++ unwritten) (splat_is_map names (length names) None refl))

  -- the body of `main` in its frame
  body_is : (call : Callees) → ((function : ℕ) → Steady (call function)) → (t : Trace) → body target 0 (main_of plain) call t start_memory ≡ call_image (main t none_held)
  body_is call calm t =
      ap (λ vars. step_then (step_then (does call calm (main_body plain) t (record { frames = record { function = 0; vars = vars } ∷ below })) given) leave) frame_empty
      ∙ call_given call calm (main t none_held) (does call calm (main_body plain) t (memory_of names below unwritten none_held)) (main_goes call calm t)

  -- what the core's functions do at the number of `main`
  main_is : (call : ℕ → Unit {0} → Act Memory held.Value) → functions target call 0 tt ≡ body target 0 (main_of plain) (λ callee. call callee tt)
  unfolding core_of
  main_is call = refl

  -- calls of a run give no turn back
  pub calm_run : (function : ℕ) → Steady (run_callees target function)
  calm_run function = calls_steady enter (functions target) (λ number x. takes_steady turn turn_takes) (functions_respect target) function tt

  -- the call of `main`, where a turn is left
  call_is : (t : Trace) (left : ℕ) → t.left ≡ suc left → run_callees target 0 t start_memory ≡ call_image (main (record t { left = left }) none_held)
  call_is t left e =
      ap (λ (a : Act Memory held.Value). a t start_memory) (calls_are enter (functions target) (λ number x. turn_takes) (functions_respect target) 0 tt)
      ∙ (turn_goes (functions target (calls enter (functions target)) 0 tt) left t start_memory e
      ∙ (ap (λ (a : Act Memory held.Value). a (record t { left = left }) start_memory) (main_is (calls enter (functions target)))
      ∙ body_is (run_callees target) calm_run (record t { left = left })))

  -- what comes behind the call
  abbrev gives : List CoreStmt
  gives = core.Return (expr.Path (variable 0) z) ∷ []

  abbrev behind_call : Step Memory held.Value → Step Memory ℤ
  behind_call y =
      step_then (step_then (step_then (step_then (step_then (step_then y (store_result (Some (variable 0)))) (λ _. pure Next)) (then_on (in_order (map (lowest.meaning target) gives) (run_callees target)))) given) leave) (λ value. lowest.with_number value pure)

  -- the whole of the core
  core_is : (t : Trace) → lowest.program target t no_frames ≡ behind_call (run_callees target 0 t start_memory)
  unfolding core_of
  core_is t =
      ap (λ y. step_then (step_then (step_then (step_then y (then_on (in_order (map (lowest.meaning target) gives) (run_callees target)))) given) leave) (λ value. lowest.with_number value pure))
      (call_runs target (run_callees target) (Some (variable 0)) 0 t start_memory)

  -- the outside knows the same of it
  behind_is : (x : Step Variables ℤ) → outcome (behind_call (call_image x)) ≡ outcome x
  behind_is (Went number t variables) = simp (return_runs, path_runs)
  behind_is (Over e t) = refl

-- the core of a plain program does what the program does
pub same_run : (plain : Plain) → IsProgram plain → (input : List ℕ) (turns : ℕ) → core_run (core_of plain) input turns ≡ plain_run plain input turns
unfolding core_run plain_run whole_run
same_run plain is input zero = ap outcome (core_is plain is (start input zero))
same_run plain is input (suc turns) =
    ap outcome (core_is plain is (start input (suc turns)))
    ∙ (ap (λ y. outcome (behind_call plain is y)) (call_is plain is (start input (suc turns)) turns refl)
    ∙ behind_is plain is (main plain is (start input turns) none_held))

-- an end that is fine isn't that of a run without a meaning
fine_not_stuck : (e : Ending) (number : ℕ) → IsFine e → e ≢ Stuck number
fine_not_stuck e number fine is = subst IsFine is fine

ends_well : (plain : Plain) (is : IsProgram plain) (x : Step Variables ℤ) (y : Step Memory Flow) (number : ℕ) → MainEnds plain is (run_callees (core_of plain)) (calm_run plain is) x y → (outcome x).ending ≢ Stuck number
ends_well plain is (Went value t variables) y number ends = fine_not_stuck (Done value) number tt
ends_well plain is (Over e t) y number ends = fine_not_stuck e number ends.1

-- a plain program is never stuck
pub never_stuck : (plain : Plain) → IsProgram plain → (input : List ℕ) (turns number : ℕ) → (plain_run plain input turns).ending ≢ Stuck number
unfolding plain_run whole_run
never_stuck plain is input zero number = fine_not_stuck TurnsSpent number tt
never_stuck plain is input (suc turns) number =
    ends_well plain is (main plain is (start input turns) none_held) (does plain is (run_callees (core_of plain)) (calm_run plain is) (main_body plain) (start input turns) (memory_of (names plain is) (below plain is) (unwritten plain is) none_held)) number
    (main_goes plain is (run_callees (core_of plain)) (calm_run plain is) (start input turns))

-- nor is its core
pub core_never_stuck : (plain : Plain) → IsProgram plain → (input : List ℕ) (turns number : ℕ) → (core_run (core_of plain) input turns).ending ≢ Stuck number
core_never_stuck plain is input turns number stuck = never_stuck plain is input turns number (ap (λ (o : Outcome). o.ending) (sym (same_run plain is input turns)) ∙ stuck)
