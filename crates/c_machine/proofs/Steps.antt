-- What each kind of step does to a configuration of the machine.
use Rattle.std.proofs.Common.{◌≡◌, ℕ, suc, ◌+◌, ◌-◌, ◌≤◌, ℤ, pos, List, [], ◌∷◌, Bool, Option, Some, None, refl, sym, ap, ◌∙◌, arith, inl, inr, map, drop}
use Rattle.std.specs.Prelude.{Result, Ok, Err}
use Rattle.std.proofs.lemmas.List.Sums.{sum_by-cons}
use Rattle.sl_run.specs.Run.{Event, Trace, Step, Went, Over, pure}
use Rattle.sl_run.specs.Run as run
use Rattle.sl_run.specs.Outcome.{outcome, trace_of}
use Rattle.sl_run.specs.Statements.{after_round}
use Rattle.sl_run.specs.Statements as statements
use Rattle.c_machine.specs.declared.program.Slot.{Slot}
use Rattle.c_machine.specs.declared.program.Stmt.{Stmt}
use Rattle.c_machine.specs.declared.memory.Memory.{Memory}
use Rattle.c_machine.specs.declared.configuration.Entry.{Entry}
use Rattle.c_machine.specs.declared.configuration.Entry.TheVariants.{Rest, Again, Rounds, Back}
use Rattle.c_machine.specs.declared.configuration.Flow.{Flow}
use Rattle.c_machine.specs.declared.configuration.Flow.TheVariants.{Next, Broke, Returned}
use Rattle.c_machine.specs.declared.configuration.Configuration.{Configuration}
use Rattle.c_machine.specs.declared.ending.End.{End}
use Rattle.c_machine.specs.declared.ending.End.TheVariants as end
use Rattle.c_machine.specs.declared.ending.State.TheVariants.{Going, Ended}
use Rattle.c_machine.specs.declared.ending.State.{State}
use Rattle.c_machine.specs.declared.ending.StepFault.{StepFault}
use Rattle.c_machine.specs.declared.ending.StepFault.TheVariants as fault
use Rattle.c_machine.specs.State.{owner_of, with_held, without_frame}
use Rattle.c_machine.specs.State as memory
use Rattle.c_machine.specs.Meaning.{given, stuck}
use Rattle.c_machine.specs.Resume.{state_of, resume}
use Rattle.c_machine.specs.Outside.{Outside}
use Rattle.c_machine.specs.Stepped.{flow_of, ending_of, with_left, Ahead, ahead, ahead_of, with_control, weight, work, Falls, IsNext, Faulted, Stepped, Silent}
use Rattle.c_machine.proofs.Resuming as law
use Rattle.c_machine.proofs.Deeds.{seen_none, done_none}
use Rattle.c_machine.proofs.Works.{weights, round_less}

-- nothing is done to the outside
pub quiet : (before : Ahead) (bound left : ℕ) (at_end : Bool) (m : Configuration) → m.at_end ≡ at_end → ((t : Trace) → before t ≡ ahead m t) → Falls bound left m → Silent (Ok Going) before bound left at_end m
quiet before bound left at_end m same h falls a = record {
  deeds = [];
  at_most_one = omega arith;
  same = λ t gives. h t ∙ ap (ahead m) (sym (seen_none t));
  at_end_now = same;
  done = done_none a;
  falls = falls;
}

-- an end
pub over_so : (end : End) (before : Ahead) (bound left : ℕ) (at_end : Bool) (m : Configuration) → ((t : Trace) → before t ≡ Over (ending_of end) (with_left m.left t)) → Silent (Ok (Ended end)) before bound left at_end m
over_so end before bound left at_end m h a = (record { same = λ t. ap outcome (h t) }, refl)

-- what comes next, said of what is the same before
next_as : (event : Event) (before before' : Ahead) → ((t : Trace) → before' t ≡ before t) → IsNext event before → IsNext event before'
next_as event before before' e h t = ((h t).0, ap (λ (x : Step memory.State ℤ). (trace_of x).events) (e t) ∙ (h t).1)

faulted_as : (f : StepFault) (before before' : Ahead) (left : ℕ) (m : Configuration) (a b : Outside) → ((t : Trace) → before' t ≡ before t) → Faulted f before left m a b → Faulted f before' left m a b
faulted_as fault.Input before before' left m a b e h = (record { next = next_as run.Asks before before' e h.0.next; asked = h.0.asked; unput = h.0.unput }, h.1)
faulted_as fault.Sink before before' left m a b e h = (record { byte = h.0.byte; next = next_as (run.Puts h.0.byte) before before' e h.0.next; put = h.0.put; unasked = h.0.unasked }, h.1)
faulted_as fault.Mem before before' left m a b e h = h

-- the same, said of what is the same before, with no more work
pub stepped_as : (result : Result State StepFault) (before before' : Ahead) (bound bound' left : ℕ) (at_end : Bool) (m : Configuration) (a b : Outside) → ((t : Trace) → before' t ≡ before t) → bound ≤ bound' → Stepped result before bound left at_end m a b → Stepped result before' bound' left at_end m a b
stepped_as (Ok Going) before before' bound bound' left at_end m a b e le h = record { deeds = h.deeds; at_most_one = h.at_most_one; same = λ t gives. e t ∙ h.same t gives; at_end_now = h.at_end_now; done = h.done; falls = falls h.falls }
  where
    falls : Falls bound left m → Falls bound' left m
    falls (inl f) = inl (f.0, omega arith)
    falls (inr f) = inr f
stepped_as (Ok (Ended end)) before before' bound bound' left at_end m a b e le h = (record { same = λ t. ap outcome (e t) ∙ h.0.same t }, h.1)
stepped_as (Err f) before before' bound bound' left at_end m a b e le h = faulted_as f before before' left m a b e h

-- only one way of being left goes on
pub next_only : (flow : Flow) → flow_of flow ≡ statements.Next → flow ≡ Next
next_only Next e = refl
next_only Broke e = absurd (cc e)
next_only (Returned value) e = absurd (cc e)

module _ (m : Configuration) where
  -- the state of its memory
  abbrev s : memory.State
  s = state_of m.memory

  -- the end of the first function

  pub finish_stuck : (bound : ℕ) → m.control ≡ [] → given m.gives (flow_of m.flow) ≡ stuck → Silent (Ok (Ended (end.Stuck (owner_of m.memory.frames)))) (ahead m) bound m.left m.at_end m
  unfolding ahead
  finish_stuck bound e g =
      over_so (end.Stuck (owner_of m.memory.frames)) (ahead m) bound m.left m.at_end m
      (λ t. ap (λ (control : List Entry). resume m.program m.gives control (flow_of m.flow) (with_left m.left t) s) e ∙ law.finish_stuck m.program m.gives (flow_of m.flow) (with_left m.left t) s g)

  pub finish_done : (bound : ℕ) (number : ℤ) (memory' : Memory) → m.control ≡ [] → given m.gives (flow_of m.flow) ≡ pure (Some number) → Silent (Ok (Ended (end.Done number))) (ahead m) bound m.left m.at_end (record m { memory = memory' })
  unfolding ahead
  finish_done bound number memory' e g a = (
    record {
      same = λ t. ap outcome (ap (λ (control : List Entry). resume m.program m.gives control (flow_of m.flow) (with_left m.left t) s) e ∙ law.finish_done m.program m.gives (flow_of m.flow) number (with_left m.left t) s g);
    },
    refl,
  )

  pub finish_nothing : (bound : ℕ) → m.control ≡ [] → given m.gives (flow_of m.flow) ≡ pure None → Silent (Ok (Ended (end.Stuck (owner_of m.memory.frames)))) (ahead m) bound m.left m.at_end m
  unfolding ahead
  finish_nothing bound e g =
      over_so (end.Stuck (owner_of m.memory.frames)) (ahead m) bound m.left m.at_end m
      (λ t. ap (λ (control : List Entry). resume m.program m.gives control (flow_of m.flow) (with_left m.left t) s) e ∙ law.finish_nothing m.program m.gives (flow_of m.flow) (with_left m.left t) s g)

  -- the end of a call

  module _ (target : Option Slot) (gives : Bool) where
    abbrev backed : Configuration
    backed = with_control m (Back target gives ∷ m.control)

    pub back_stuck : given gives (flow_of m.flow) ≡ stuck → Silent (Ok (Ended (end.Stuck (owner_of m.memory.frames)))) (ahead backed) (work (Back target gives ∷ m.control)) m.left m.at_end m
    unfolding ahead
    back_stuck g =
        over_so (end.Stuck (owner_of m.memory.frames)) (ahead backed) (work (Back target gives ∷ m.control)) m.left m.at_end m
        (λ t. law.back_stuck m.program m.gives m.control target gives (flow_of m.flow) (with_left m.left t) s g)

  back_falls : (target : Option Slot) (gives : Bool) (memory' : Memory) → Falls (work (Back target gives ∷ m.control)) m.left (record m { memory = memory'; flow = Next })
  unfolding work
  back_falls target gives memory' = inl (refl, omega arith)

  pub back_none : (target : Option Slot) (gives : Bool) (value : Option ℤ) (memory' : Memory) → target ≡ None → given gives (flow_of m.flow) ≡ pure value → state_of memory' ≡ without_frame s
      → Silent (Ok Going) (ahead (backed target gives)) (work (Back target gives ∷ m.control)) m.left m.at_end (record m { memory = memory'; flow = Next })
  unfolding ahead
  back_none target gives value memory' n g f =
      quiet (ahead (backed target gives)) (work (Back target gives ∷ m.control)) m.left m.at_end (record m { memory = memory'; flow = Next }) refl
      (λ t. ap (λ (target : Option Slot). resume m.program m.gives (Back target gives ∷ m.control) (flow_of m.flow) (with_left m.left t) s) n
      ∙ (law.back_none m.program m.gives m.control gives (flow_of m.flow) value (with_left m.left t) s g
      ∙ ap (resume m.program m.gives m.control statements.Next (with_left m.left t)) (sym f)))
      (back_falls target gives memory')

  pub back_stores : (target : Option Slot) (slot : Slot) (gives : Bool) (number : ℤ) (left' memory' : Memory) → target ≡ Some slot → given gives (flow_of m.flow) ≡ pure (Some number) → state_of left' ≡ without_frame s → state_of memory' ≡ with_held slot number (state_of left')
      → Silent (Ok Going) (ahead (backed target gives)) (work (Back target gives ∷ m.control)) m.left m.at_end (record m { memory = memory'; flow = Next })
  unfolding ahead
  back_stores target slot gives number left' memory' n g f h =
      quiet (ahead (backed target gives)) (work (Back target gives ∷ m.control)) m.left m.at_end (record m { memory = memory'; flow = Next }) refl
      (λ t. ap (λ (target : Option Slot). resume m.program m.gives (Back target gives ∷ m.control) (flow_of m.flow) (with_left m.left t) s) n
      ∙ (law.back_stores m.program m.gives m.control slot gives (flow_of m.flow) number (with_left m.left t) s g
      ∙ ap (resume m.program m.gives m.control statements.Next (with_left m.left t)) (sym (h ∙ ap (with_held slot number) f))))
      (back_falls target gives memory')

  pub back_nothing : (target : Option Slot) (slot : Slot) (gives : Bool) (memory' : Memory) → target ≡ Some slot → given gives (flow_of m.flow) ≡ pure None → state_of memory' ≡ without_frame s
      → Silent (Ok (Ended (end.Stuck (owner_of memory'.frames)))) (ahead (backed target gives)) (work (Back target gives ∷ m.control)) m.left m.at_end (record m { memory = memory'; flow = Next })
  unfolding ahead
  back_nothing target slot gives memory' n g f =
      over_so (end.Stuck (owner_of memory'.frames)) (ahead (backed target gives)) (work (Back target gives ∷ m.control)) m.left m.at_end (record m { memory = memory'; flow = Next })
      (λ t. ap (λ (target : Option Slot). resume m.program m.gives (Back target gives ∷ m.control) (flow_of m.flow) (with_left m.left t) s) n
      ∙ (law.back_nothing m.program m.gives m.control slot gives (flow_of m.flow) (with_left m.left t) s g
      ∙ ap (λ (s : memory.State). Over (run.Stuck (owner_of s.frames)) (with_left m.left t)) (sym f)))

  -- the rest of a block

  module _ (stmts : List Stmt) (from : ℕ) where
    abbrev resting : Configuration
    resting = with_control m (Rest stmts from ∷ m.control)

    abbrev resting_work : ℕ
    resting_work = work (Rest stmts from ∷ m.control)

    rest_falls : Falls resting_work m.left m
    unfolding work
    rest_falls = inl (refl, omega arith)

    pub rest_left : (m.flow ≡ Next → ⊥) → Silent (Ok Going) (ahead resting) resting_work m.left m.at_end m
    unfolding ahead
    rest_left e =
        quiet (ahead resting) resting_work m.left m.at_end m refl
        (λ t. law.rest_left m.program m.gives m.control stmts from (flow_of m.flow) (with_left m.left t) s (λ f. e (next_only m.flow f)))
        rest_falls

    pub rest_ends : m.flow ≡ Next → drop from stmts ≡ [] → Silent (Ok Going) (ahead resting) resting_work m.left m.at_end m
    unfolding ahead
    rest_ends e d =
        quiet (ahead resting) resting_work m.left m.at_end m refl
        (λ t. ap (λ flow. resume m.program m.gives (Rest stmts from ∷ m.control) (flow_of flow) (with_left m.left t) s) e
        ∙ (law.rest_ends m.program m.gives m.control stmts from (with_left m.left t) s d
        ∙ ap (λ flow. resume m.program m.gives m.control (flow_of flow) (with_left m.left t) s) (sym e)))
        rest_falls

    -- a statement of it is done, before the others
    pub rest_goes : (result : Result State StepFault) (stmt : Stmt) (control : List Entry) (m' : Configuration) (a b : Outside) → m.flow ≡ Next → drop from stmts ≡ stmt ∷ drop (from + 1) stmts → control ≡ Rest stmts (from + 1) ∷ m.control
        → Stepped result (ahead_of stmt (with_control m control)) (weight stmt + work control) m.left m.at_end m' a b → Stepped result (ahead resting) resting_work m.left m.at_end m' a b
    unfolding ahead ahead_of work
    rest_goes result stmt control m' a b e d is h =
        stepped_as result (ahead_of stmt (with_control m control)) (ahead resting) (weight stmt + work control) resting_work m.left m.at_end m' a b
        (λ t. ap (λ flow. resume m.program m.gives (Rest stmts from ∷ m.control) (flow_of flow) (with_left m.left t) s) e
        ∙ (law.rest_goes m.program m.gives m.control stmts from stmt (with_left m.left t) s d
        ∙ ap (λ (control : List Entry). ahead_of stmt (with_control m control) t) (sym is)))
        (omega (arith, ap work is, ap weights d, sum_by-cons (λ x. x) (weight stmt) (map weight (drop (from + 1) stmts)))) h

  -- a loop

  module _ (stmts : List Stmt) where
    abbrev looping : Configuration
    looping = with_control m (Again stmts ∷ m.control)

    abbrev looping_work : ℕ
    looping_work = work (Again stmts ∷ m.control)

    loop_falls : (flow : Flow) → Falls looping_work m.left (record m { flow = flow })
    unfolding work
    loop_falls flow = inl (refl, omega arith)

    pub again_left : (flow : Flow) → after_round (flow_of m.flow) ≡ Some (flow_of flow) → Silent (Ok Going) (ahead looping) looping_work m.left m.at_end (record m { flow = flow })
    unfolding ahead
    again_left flow e =
        quiet (ahead looping) looping_work m.left m.at_end (record m { flow = flow }) refl
        (λ t. law.again_left m.program m.gives m.control stmts (flow_of m.flow) (flow_of flow) (with_left m.left t) s e) (loop_falls flow)

    pub again_spent : m.flow ≡ Next → m.left ≡ 0 → Silent (Ok (Ended end.TurnsSpent)) (ahead looping) looping_work m.left m.at_end m
    unfolding ahead
    again_spent e z =
        over_so end.TurnsSpent (ahead looping) looping_work m.left m.at_end m
        (λ t. ap (λ flow. resume m.program m.gives (Again stmts ∷ m.control) (flow_of flow) (with_left m.left t) s) e ∙ law.again_spent m.program m.gives m.control stmts (with_left m.left t) s z)

    -- the machine with a turn of it begun
    abbrev turning : ℕ → Configuration
    turning left = record m { control = Rest stmts 0 ∷ Again stmts ∷ m.control; left = left }

    pub again_turns : (left : ℕ) → m.flow ≡ Next → m.left ≡ suc left → Silent (Ok Going) (ahead looping) looping_work m.left m.at_end (turning left)
    unfolding ahead
    again_turns left e z =
        quiet (ahead looping) looping_work m.left m.at_end (turning left) refl
        (λ t. ap (λ flow. resume m.program m.gives (Again stmts ∷ m.control) (flow_of flow) (with_left m.left t) s) e
        ∙ (law.again_turns m.program m.gives m.control stmts left (with_left m.left t) s z
        ∙ ap (λ flow. resume m.program m.gives (Rest stmts 0 ∷ Again stmts ∷ m.control) (flow_of flow) (with_left left t) s) (sym e)))
        (inr (omega arith))

  -- a counted loop

  module _ (slot : Slot) (from count : ℕ) (stmts : List Stmt) where
    abbrev counting : Configuration
    counting = with_control m (Rounds slot from count stmts ∷ m.control)

    abbrev counting_work : ℕ
    counting_work = work (Rounds slot from count stmts ∷ m.control)

    count_falls : (flow : Flow) (memory' : Memory) → Falls counting_work m.left (record m { flow = flow; memory = memory' })
    unfolding work
    count_falls flow memory' = inl (refl, omega arith)

    pub rounds_left : (flow : Flow) → after_round (flow_of m.flow) ≡ Some (flow_of flow) → Silent (Ok Going) (ahead counting) counting_work m.left m.at_end (record m { flow = flow })
    unfolding ahead
    rounds_left flow e =
        quiet (ahead counting) counting_work m.left m.at_end (record m { flow = flow }) refl
        (λ t. law.rounds_left m.program m.gives m.control slot from count stmts (flow_of m.flow) (flow_of flow) (with_left m.left t) s e) (count_falls flow m.memory)

    pub rounds_end : (memory' : Memory) → m.flow ≡ Next → count ≤ from → state_of memory' ≡ with_held slot (pos from) s → Silent (Ok Going) (ahead counting) counting_work m.left m.at_end (record m { memory = memory' })
    unfolding ahead
    rounds_end memory' e le stored =
        quiet (ahead counting) counting_work m.left m.at_end (record m { memory = memory' }) refl
        (λ t. ap (λ flow. resume m.program m.gives (Rounds slot from count stmts ∷ m.control) (flow_of flow) (with_left m.left t) s) e
        ∙ (law.rounds_end m.program m.gives m.control slot from count stmts (with_left m.left t) s (omega arith)
        ∙ (ap (resume m.program m.gives m.control statements.Next (with_left m.left t)) (sym stored)
        ∙ ap (λ flow. resume m.program m.gives m.control (flow_of flow) (with_left m.left t) (state_of memory')) (sym e))))
        (count_falls m.flow memory')

    -- the machine with a round of it begun
    abbrev rounding : Memory → Configuration
    rounding memory' = record m { memory = memory'; control = Rest stmts 0 ∷ Rounds slot (from + 1) count stmts ∷ m.control }

    round_falls : (memory' : Memory) → count - from ≡ suc (count - (from + 1)) → Falls counting_work m.left (rounding memory')
    unfolding work
    round_falls memory' e = inl (refl, omega (arith, round_less from count (weights stmts) e))

    pub rounds_go : (memory' : Memory) → m.flow ≡ Next → suc from ≤ count → state_of memory' ≡ with_held slot (pos from) s → Silent (Ok Going) (ahead counting) counting_work m.left m.at_end (rounding memory')
    unfolding ahead
    rounds_go memory' e le stored =
        let one : count - from ≡ suc (count - (from + 1)) = omega arith in
        quiet (ahead counting) counting_work m.left m.at_end (rounding memory') refl
        (λ t. ap (λ flow. resume m.program m.gives (Rounds slot from count stmts ∷ m.control) (flow_of flow) (with_left m.left t) s) e
        ∙ (law.rounds_go m.program m.gives m.control slot from count stmts (with_left m.left t) s one
        ∙ (ap (resume m.program m.gives (Rest stmts 0 ∷ Rounds slot (from + 1) count stmts ∷ m.control) statements.Next (with_left m.left t)) (sym stored)
        ∙ ap (λ flow. resume m.program m.gives (Rest stmts 0 ∷ Rounds slot (from + 1) count stmts ∷ m.control) (flow_of flow) (with_left m.left t) (state_of memory')) (sym e))))
        (round_falls memory' one)

-- the same of a machine with its first entry, that is popped

pub popped : (result : Result State StepFault) (m : Configuration) (entry : Entry) (control : List Entry) (m' : Configuration) (a b : Outside) → m.control ≡ entry ∷ control
    → Stepped result (ahead (with_control m (entry ∷ control))) (work (entry ∷ control)) m.left m.at_end m' a b → Stepped result (ahead m) (work m.control) m.left m.at_end m' a b
popped result m entry control m' a b e h =
    stepped_as result (ahead (with_control m (entry ∷ control))) (ahead m) (work (entry ∷ control)) (work m.control) m.left m.at_end m' a b
    (λ t. ap (λ (control : List Entry). ahead (with_control m control) t) e) (omega (arith, ap work e)) h

-- or with none
pub popped_none : (result : Result State StepFault) (m : Configuration) (control : List Entry) (m' : Configuration) (a b : Outside) → m.control ≡ control
    → Stepped result (ahead (with_control m control)) (work m.control) m.left m.at_end m' a b → Stepped result (ahead m) (work m.control) m.left m.at_end m' a b
popped_none result m control m' a b e h =
    stepped_as result (ahead (with_control m control)) (ahead m) (work m.control) (work m.control) m.left m.at_end m' a b
    (λ t. ap (λ (control : List Entry). ahead (with_control m control) t) e) (omega arith) h
