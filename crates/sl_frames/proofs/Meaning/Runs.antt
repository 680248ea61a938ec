-- The C of a core runs as the core does.
use Rattle.std.proofs.Common.{◌≡◌, ℕ, ◌+◌, List, ◌++◌, Bool, Option, Some, None, refl, sym, ap, ◌∙◌, subst, map, max, length, codes, if◌then◌else◌, eq-eqb}
use Rattle.std.specs.Prelude.{ℤ, slice_get}
use Rattle.sl_run.specs.Run.{Ending, Stuck, Done, TurnsSpent, StackSpent, Trace, Step, Went, Over, Act, pure, step_then, ◌>>=◌, ◌>>◌, calls}
use Rattle.sl_run.specs.Run as run
use Rattle.sl_run.specs.Alike.{SameSoFar, AlikeUnless, FollowsUnless, AnyCopies, Same}
use Rattle.sl_run.proofs.Alike.{turn_follows_within, calls_follow}
use Rattle.sl_run.proofs.Outcomes.{follows_runs}
use Rattle.sl_core.specs.declared.tree.Core.{Core}
use Rattle.sl_core.specs.declared.tree.CoreFun.{CoreFun}
use Rattle.sl_core.specs.Memory as source
use Rattle.sl_core.specs.Memory.{Value}
use Rattle.sl_core.specs.Meaning as means
use Rattle.sl_core.specs.Meaning.{core_run}
use Rattle.sl_core.specs.Sound.{IsSound, greatest}
use Rattle.c_tree.specs.declared.tree.CFile.{CFile}
use Rattle.c_tree.specs.declared.tree.CFun.{CFun}
use Rattle.c_tree.specs.Bytes.{charge}
use Rattle.c_tree.specs.Mangled.{mangled}
use Rattle.c_tree.specs.Memory as c
use Rattle.c_tree.specs.Memory.{Tree, live}
use Rattle.c_tree.specs.Meaning.{leave, in_frame, functions, with_some, enter, charge_of, run_callees, exit_value, begin_start, program, first_memory, number_of, c_run}
use Rattle.c_helpers.specs.Functions.{helper_functions}
use Rattle.sl_frames.specs.Promise.{HasOneType}
use Rattle.sl_frames.specs.Translated.{needs, of_each, function_of, c_of}
use Rattle.sl_frames.proofs.Meaning.Following.{IsStuck, ResultLike}
use Rattle.sl_frames.proofs.Meaning.Calling.{number_is, function_at}
use Rattle.sl_frames.proofs.Meaning.Functions.{Memories, These, Started, CallsAlike, exits_alike, these_by, here, below_ours, below_theirs, functions_alike, inside_alike}

module _ (core : Core) (sound : IsSound core) (one : HasOneType core) where
  abbrev file : CFile
  file = c_of core

  functions_are : file.functions ≡ helper_functions ++ of_each (function_of core) 0 core.functions
  unfolding c_of
  functions_are = refl

  -- calls are entered alike
  entered : (memories : Memories) (f : ℕ) (x : Unit {0}) (g : ℕ) (y : List Tree) → Started core f g y → FollowsUnless IsStuck AnyCopies (These memories) Same (means.enter f x) (enter file None g y)
  entered memories f x g y started t u s r same o =
      turn_follows_within IsStuck AnyCopies (These memories) (live r + charge_of file (slice_get file.functions g)) t u s r same o

  -- calls in a run
  calls_alike : CallsAlike core (calls means.enter (means.functions core)) (calls (enter file None) (functions file))
  calls_alike memories f x g y started =
      calls_follow IsStuck AnyCopies These (λ (memories : Memories) (f : ℕ) (x : Unit {0}) (g : ℕ) (y : List Tree). Started core f g y) (λ (memories : Memories). ResultLike)
      means.enter (enter file None) (means.functions core) (functions file) entered
      (λ call call' h. functions_alike core sound one call call' h)
      memories f x g y started

  -- before a run
  abbrev beginning : Memories
  beginning = record { ours = means.no_frames; theirs = first_memory file }

  abbrev bytes_of : CoreFun → ℕ
  bytes_of function = charge file (function_of core core.entry function)

  main_is : (function : CoreFun) → slice_get core.functions core.entry ≡ Some function → number_of file (codes "sl_main") ≡ Some (7 + core.entry)
  main_is function there =
      ap (number_of file) (sym (ap (λ (entry : Bool). if entry then codes "sl_main" else mangled function.name) (eq-eqb core.entry core.entry refl)))
      ∙ number_is core file functions_are sound.names core.entry function there

  -- the entry goes alike with its C
  entry_alike : (function : CoreFun) → slice_get core.functions core.entry ≡ Some function → (t u : Trace) → SameSoFar AnyCopies t u → (s : source.Memory) (r : c.Memory)
      → AlikeUnless IsStuck AnyCopies (These (record { ours = s; theirs = r })) (λ (v w : ℤ). v ≡ w)
      ((means.body core core.entry function (means.run_callees core) >>= (λ value. means.with_number value pure)) t s)
      ((begin_start file None (7 + core.entry) (function_of core core.entry function) >> (in_frame file (function_of core core.entry function) (run_callees file None) >>= exit_value >>= leave)) u r)
  entry_alike function there t u same s r =
      let call = calls means.enter (means.functions core) in
      let call' = calls (enter file None) (functions file) in
      let bytes : ℕ = bytes_of function in
      let ours = below_ours core sound one call call' calls_alike core.entry function there s r bytes in
      let theirs = below_theirs core sound one call call' calls_alike core.entry function there s r bytes in
      exits_alike (here core sound one call call' calls_alike core.entry function there ours theirs) ours (length function.vars) (greatest (map needs function.body)) _ _
      (inside_alike core sound one call call' calls_alike core.entry function there s r bytes t (record u { peak = max u.peak bytes })
      (record { events = same.events; rest = same.rest; left = same.left; made = tt }))

  -- programs go alike
  programs_follow : FollowsUnless IsStuck AnyCopies (These beginning) (λ (v w : ℤ). v ≡ w) (means.program core) (program file None)
  programs_follow t u s r same o =
      let function : CoreFun = sound.entry.0 in
      let there : slice_get core.functions core.entry ≡ Some function = sound.entry.2 in
      these_by (λ (v w : ℤ). v ≡ w) beginning s r o (means.program core t s) (program file None u r)
      (subst (λ (step : Step source.Memory ℤ). AlikeUnless IsStuck AnyCopies (These (record { ours = s; theirs = r })) (λ (v w : ℤ). v ≡ w) step (program file None u r))
      (sym (ap (λ (got : Option CoreFun). (means.with_some got (λ function. means.body core core.entry function (means.run_callees core)) >>= (λ value. means.with_number value pure)) t s) there))
      (subst (λ (step : Step c.Memory ℤ). AlikeUnless IsStuck AnyCopies (These (record { ours = s; theirs = r })) (λ (v w : ℤ). v ≡ w) ((means.body core core.entry function (means.run_callees core) >>= (λ value. means.with_number value pure)) t s) step)
      (sym (ap (λ (number : Option ℕ). with_some number (λ number. with_some (slice_get file.functions number) (λ function. begin_start file None number function >> (in_frame file function (run_callees file None) >>= exit_value >>= leave))) u r) (main_is function there)
      ∙ ap (λ (got : Option CFun). with_some got (λ function. begin_start file None (7 + core.entry) function >> (in_frame file function (run_callees file None) >>= exit_value >>= leave)) u r) (function_at core file functions_are core.entry function there)))
      (entry_alike function there t u same s r)))

  stuck_somewhere : (e : Ending) → IsStuck e → (number : ℕ) × (e ≡ Stuck number)
  stuck_somewhere (Done value) h = absurd h
  stuck_somewhere (run.Halt kind _ line) h = absurd h
  stuck_somewhere TurnsSpent h = absurd h
  stuck_somewhere StackSpent h = absurd h
  stuck_somewhere (Stuck number) h = (number, refl)

  -- the C of a sound core, whose numbers are all of one type, runs as the core does
  pub same_run : (input : List ℕ) (turns : ℕ) → c_run (c_of core) None input turns ≡ core_run core input turns
  unfolding c_run core_run
  same_run input turns =
      sym (follows_runs IsStuck AnyCopies (These beginning) (means.program core) (program file None) means.no_frames (first_memory file) programs_follow (refl, refl) tt input turns
      (λ stuck. let where_stuck = stuck_somewhere _ stuck in sound.never_stuck input turns where_stuck.0 where_stuck.1))
