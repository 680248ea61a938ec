-- The first function begins.
use Rattle.std.proofs.Common.{◌≡◌, ℕ, ℤ, List, [], ◌∷◌, ◌++◌, Bool, Option, Some, None, refl, sym, ap, subst, ◌∙◌, map, replicate, false}
use Rattle.std.specs.Prelude.{slice_get, IfOk, Result, Ok, Err}
use Rattle.std.specs.Option.{option_and_then}
use Rattle.sl_run.specs.Run.{Act, Trace, Step, Went, Over, step_then, ◌>>=◌, ◌>>◌, start}
use Rattle.sl_run.specs.Outcome.{Outcome, outcome, whole_run}
use Rattle.c_tree.specs.declared.tree.CFile.{CFile}
use Rattle.sl_run.specs.Statements.{in_order}
use Rattle.c_tree.specs.Meaning.{Flow, c_run}
use Rattle.c_machine.specs.Resolved.{MeansFile}
use Rattle.c_machine.specs.declared.program.Frame.{Frame}
use Rattle.c_machine.specs.declared.program.Function.{Function}
use Rattle.c_machine.specs.declared.program.Program.{Program}
use Rattle.c_machine.specs.declared.ending.State.{State}
use Rattle.c_machine.specs.declared.ending.State.TheVariants as state
use Rattle.c_machine.specs.declared.ending.End.TheVariants as end
use Rattle.c_machine.specs.declared.configuration.Entry.TheVariants.{Rest}
use Rattle.c_machine.specs.declared.configuration.Configuration.{Configuration}
use Rattle.c_machine.specs.declared.machine.Machine.{Machine}
use Rattle.c_machine.specs.State.{owner_of, with_frame}
use Rattle.c_machine.specs.State as memory
use Rattle.c_machine.specs.Meaning.{with_some, begin, meaning, called, given, leave, in_frame, exit_value, whole, first_state, program_run}
use Rattle.c_machine.specs.Resume.{resume}
use Rattle.c_machine.specs.Stepped.{ending_of, with_left, ahead}
use Rattle.c_machine.specs.Ran.{stands_after, fresh, begun, first_function, HasBegun, Started, StandsFirst, ComesTo, Opened}

module _ (program : Program) (turns : ℕ) where
  -- what the program does from its first function on
  abbrev first_does : ℕ → Option Function → Act memory.State ℤ
  first_does number found = with_some found (λ function. begin number function.vars [] >> (in_frame function.gives (map meaning function.body) (called program) >>= exit_value >>= leave))

  whole_is : (found : Option ℕ) (t : Trace) → program.start ≡ found → whole program t (first_state program) ≡ with_some found (λ number. first_does number (slice_get program.functions number)) t (first_state program)
  whole_is found t e = ap (λ (found : Option ℕ). with_some found (λ number. first_does number (slice_get program.functions number)) t (first_state program)) e

  -- which function that is
  first_is : (found : Option ℕ) → program.start ≡ found → first_function program ≡ option_and_then (λ number. slice_get program.functions number) found
  first_is found e = ap (λ (found : Option ℕ). option_and_then (λ number. slice_get program.functions number) found) e

  -- there is no first function
  pub no_start : program.start ≡ None → (m : Configuration) → m ≡ fresh program turns → Started (state.Ended (end.Stuck 0)) program turns m
  no_start e m is = (is, first_is None e, λ t. whole_is None (with_left turns t) e)

  module _ (number : ℕ) (e : program.start ≡ Some number) where
    found_is : (found : Option Function) (t : Trace) → slice_get program.functions number ≡ found → whole program t (first_state program) ≡ first_does number found t (first_state program)
    found_is found t f = whole_is (Some number) t e ∙ ap (λ (found : Option Function). first_does number found t (first_state program)) f

    -- or it isn't there
    pub no_function : slice_get program.functions number ≡ None → (m : Configuration) → m ≡ fresh program turns → Started (state.Ended (end.Stuck 0)) program turns m
    no_function f m is = (is, first_is (Some number) e ∙ f, λ t. found_is None (with_left turns t) f)

    ending : (gives : Bool) (x : Step memory.State Flow) → step_then (step_then (step_then x (given gives)) exit_value) leave ≡ step_then x (resume program gives [])
    unfolding resume
    ending gives (Went flow t s) = refl
    ending gives (Over f t) = refl

    -- what is ahead of a machine in which it has begun
    begun_goes : (function : Function) (m : Configuration) → slice_get program.functions number ≡ Some function → m ≡ begun program turns number function → (t : Trace) → ahead m t ≡ whole program (with_left turns t) (first_state program)
    unfolding ahead resume
    begun_goes function m f is t =
        ap (λ (m : Configuration). ahead m t) is
        ∙ (sym (ending function.gives (in_order (map meaning function.body) (called program) (with_left turns t) (with_frame number function.vars [] (first_state program))))
        ∙ sym (found_is (Some function) (with_left turns t) f))

    -- it begins
    pub begins : (function : Function) (frame : Frame) (m : Configuration) → slice_get program.functions number ≡ Some function → frame ≡ record { owner = number; cells = map Some [] ++ replicate function.vars None }
        → m ≡ record (fresh program turns) { memory = record { globals = replicate program.globals None; frames = frame ∷ [] }; control = Rest function.body 0 ∷ []; gives = function.gives }
        → Started state.Going program turns m
    begins function frame m f is same =
        let started : m ≡ begun program turns number function =
        same ∙ (λ k. record (fresh program turns) { memory = record { globals = replicate program.globals None; frames = is k ∷ [] }; control = Rest function.body 0 ∷ []; gives = function.gives })
        in (record { number = number; function = function; first = e; found = f; is = started }, begun_goes function m f started)

-- with no frame the number of the undefined case is 0
pub stuck_start : (program : Program) (turns : ℕ) (m m' : Configuration) → m ≡ fresh program turns → Started (state.Ended (end.Stuck 0)) program turns m' → Started (state.Ended (end.Stuck (owner_of m.memory.frames))) program turns m'
stuck_start program turns m m' e h = subst (λ owner. Started (state.Ended (end.Stuck owner)) program turns m') (sym (ap (λ (m : Configuration). owner_of m.memory.frames) e)) h

-- a fresh one, by what it holds
pub still_fresh : (m : Configuration) (program : Program) (turns : ℕ) → m ≡ fresh program turns → m ≡ fresh m.program m.left
still_fresh m program turns e = e ∙ sym (ap (λ (m : Configuration). fresh m.program m.left) e)

pub started_as : (s : State) (m m' : Configuration) (program : Program) (turns : ℕ) → m ≡ fresh program turns → Started s m.program m.left m' → Started s program turns m'
started_as s m m' program turns e h = subst (λ (m : Configuration). Started s m.program m.left m') e h

-- a machine that has begun is to come to the whole run
comes : (s : State) (program : Program) (turns : ℕ) (m : Configuration) → Started s program turns m → (input : List ℕ) → ComesTo (stands_after (Ok s)) m input (program_run program input turns)
unfolding program_run whole_run
comes state.Going program turns m h input = ap outcome (h.1 (start input 0))
comes (state.Ended end) program turns m h input =
    ap (λ (m : Configuration). record { ending = ending_of end; events = []; rest = input; left = m.left }) h.0 ∙ sym (ap outcome (h.2 (start input 0)))

-- nothing was done with it

firsts : (s : State) (program : Program) (turns : ℕ) (m : Configuration) → Started s program turns m → StandsFirst (stands_after (Ok s)) turns m
firsts state.Going program turns m h = subst (λ program. HasBegun program turns m) (sym (ap (λ (m : Configuration). m.program) h.0.is)) h.0
firsts (state.Ended end) program turns m h =
    (h.0 ∙ sym (ap (λ (m : Configuration). fresh m.program turns) h.0), ap (λ (m : Configuration). first_function m.program) h.0 ∙ h.1)

untaken : (s : State) (program : Program) (turns : ℕ) (m : Configuration) → Started s program turns m → m.left ≡ turns
untaken state.Going program turns m h = ap (λ (m : Configuration). m.left) h.0.is
untaken (state.Ended end) program turns m h = ap (λ (m : Configuration). m.left) h.0

unasked : (s : State) (program : Program) (turns : ℕ) (m : Configuration) → Started s program turns m → m.at_end ≡ false
unasked state.Going program turns m h = ap (λ (m : Configuration). m.at_end) h.0.is
unasked (state.Ended end) program turns m h = ap (λ (m : Configuration). m.at_end) h.0

-- so it was opened
pub opened : (s : State) (program : Program) (turns : ℕ) (m : Machine) → m.turns ≡ turns → m.standing ≡ stands_after (Ok s) → Started s program turns m.at → Opened (λ input. program_run program input turns) turns m
opened s program turns m t standing h = record {
  whole = λ input. subst (λ standing. ComesTo standing m.at input (program_run program input turns)) (sym standing) (comes s program turns m.at h input);
  first = subst (λ standing. StandsFirst standing turns m.at) (sym standing) (firsts s program turns m.at h);
  left = untaken s program turns m.at h;
  at_end = unasked s program turns m.at h;
  allowed = t;
}

-- a machine that was opened on the program of a file
pub opened_file : (file : CFile) (program : Program) (turns : ℕ) (m : Machine) → MeansFile file program → Opened (λ input. program_run program input turns) turns m → Opened (λ input. c_run file None input turns) turns m
opened_file file program turns m means h = record { whole = λ input. subst (λ (whole : Outcome). ComesTo m.standing m.at input whole) (means input turns) (h.whole input); first = h.first; left = h.left; at_end = h.at_end; allowed = h.allowed }

pub opened_files : {E : Type 0} (r : Result Machine E) (file : CFile) (program : Program) (turns : ℕ) → MeansFile file program → IfOk r (λ m. Opened (λ input. program_run program input turns) turns m) → IfOk r (λ m. Opened (λ input. c_run file None input turns) turns m)
opened_files (Ok m) file program turns means h = opened_file file program turns m means h
opened_files (Err e) file program turns means h = tt
