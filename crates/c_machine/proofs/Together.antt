-- Steps put together.
use Rattle.std.proofs.Common.{◌≡◌, ℕ, ◌+◌, ◌<◌, ℤ, List, [], ◌∷◌, ◌++◌, Bool, true, false, refl, sym, ap, ◌∙◌, subst, arith, append_assoc, append-nil, inl, inr}
use Rattle.std.specs.Prelude.{Result, Ok, Err, Option, Some, IfSome}
use Rattle.std.specs.Result.{IsErrAnd}
use Rattle.sl_run.specs.Run.{Event, Trace, Step, Went, Over, start}
use Rattle.sl_run.specs.Run as run
use Rattle.sl_run.specs.Outcome.{Outcome, outcome, ended, printed, asked, trace_of, BeginsWith}
use Rattle.sl_outside.specs.declared.source.Failed.{Failed}
use Rattle.sl_outside.specs.Counts.{HasCause}
use Rattle.sl_outside.specs.Sink.{SinkState, Prints}
use Rattle.sl_outside.specs.Source.{SourceState, Asked, AreOf, Reads}
use Rattle.c_machine.specs.declared.ending.End.{End}
use Rattle.c_machine.specs.declared.ending.State.{State}
use Rattle.c_machine.specs.declared.ending.State.TheVariants.{Going, Ended}
use Rattle.c_machine.specs.declared.ending.StepFault.{StepFault}
use Rattle.c_machine.specs.declared.ending.StepFault.TheVariants as fault
use Rattle.c_machine.specs.declared.configuration.Configuration.{Configuration}
use Rattle.c_machine.specs.State as memory
use Rattle.c_machine.specs.Outside.{Deed, events_of, answers, Gives, ended_after, rest_after, seen, Outside, Done, AsksInput, HasCauses}
use Rattle.c_machine.specs.Stepped.{ending_of, with_left, Ahead, ahead, work, Falls, IsNext, Faulted, Stepped}
use Rattle.c_machine.specs.Ran.{Reaches, Finishes, Fails, RanFrom, Turned, RanOnSome}
use Rattle.c_machine.proofs.Deeds.{gives_then, ended_then, answers_then, seen_then, seen_none, done_none, done_then, as_many, reads_then, input_there, no_cause, prints_quiet, reads_quiet}
use Rattle.c_machine.proofs.Executing.{ahead_adds}

-- nothing was done
pub reaches_none : (m : Configuration) (a : Outside) → Reaches (ahead m) m.at_end m a a
reaches_none m a = record { deeds = []; same = λ t gives. ap (ahead m) (sym (seen_none t)); at_end_now = refl; done = done_none a }

module _ (before : Ahead) (at_end : Bool) (m : Configuration) (a b : Outside) (h : Reaches before at_end m a b) where
  -- an input that gives the answers of some deeds more gives those of these first, and then the others
  split : (more : List Deed) (t : Trace) → Gives at_end t.rest (answers (h.deeds ++ more)) → Gives at_end t.rest (answers h.deeds) × Gives m.at_end (seen h.deeds t).rest (answers more)
  split more t gives =
      let parts = gives_then at_end (answers h.deeds) (answers more) t.rest (subst (Gives at_end t.rest) (answers_then h.deeds more) gives) in
      (parts.0, subst (λ at_end. Gives at_end (rest_after (answers h.deeds) t.rest) (answers more)) (sym h.at_end_now) parts.1)

  -- some more was done
  pub reaches_then : (m' : Configuration) (c : Outside) → Reaches (ahead m) m.at_end m' b c → Reaches before at_end m' a c
  reaches_then m' c k = record {
    deeds = h.deeds ++ k.deeds;
    same = λ t gives.
        let parts = split k.deeds t gives in
        h.same t parts.0 ∙ (k.same (seen h.deeds t) parts.1 ∙ ap (ahead m') (seen_then h.deeds k.deeds t));
    at_end_now = k.at_end_now ∙ (ap (λ at_end. ended_after at_end (answers k.deeds)) h.at_end_now ∙ (sym (ended_then at_end (answers h.deeds) (answers k.deeds)) ∙ ap (ended_after at_end) (sym (answers_then h.deeds k.deeds))));
    done = done_then h.deeds k.deeds a b c h.done k.done;
  }

  -- and then it ended
  finishes_then : (end : End) (m' : Configuration) (c : Outside) → Finishes end (ahead m) m.at_end m' b c → Finishes end before at_end m' a c
  finishes_then end m' c k = record {
    deeds = h.deeds ++ k.deeds;
    same = λ t gives.
        let parts = split k.deeds t gives in
        ap outcome (h.same t parts.0) ∙ (k.same (seen h.deeds t) parts.1 ∙ ap (λ (t : Trace). ended (ending_of end) (with_left m'.left t)) (seen_then h.deeds k.deeds t));
    done = done_then h.deeds k.deeds a b c h.done k.done;
  }

  -- or there was a fault
  fails_then : (f : StepFault) (m' : Configuration) (c : Outside) → Fails f (ahead m) m.at_end m' b c → Fails f before at_end m' a c
  fails_then f m' c k = record { at = k.at; between = k.between; reached = reaches_then k.at k.between k.reached; failed = k.failed }

  -- and then the rest of a run answered so
  pub ran_then : (result : Result End StepFault) (m' : Configuration) (c : Outside) → RanFrom result (ahead m) m.at_end m' b c → RanFrom result before at_end m' a c
  ran_then (Ok end) m' c k = finishes_then end m' c k
  ran_then (Err f) m' c k = fails_then f m' c k

  module _ (bound : ℕ) (m' : Configuration) (c : Outside) where
    -- a step that doesn't go on

    pub step_faults : (f : StepFault) → Stepped (Err f) (ahead m) bound m.left m.at_end m' b c → RanFrom (Err f) before at_end m' a c
    step_faults f k = record { at = m; between = b; reached = h; failed = k }

    pub step_ends : (end : End) → Stepped (Ok (Ended end)) (ahead m) bound m.left m.at_end m' b c → RanFrom (Ok end) before at_end m' a c
    step_ends end k = record {
      deeds = h.deeds;
      same = λ t gives. ap outcome (h.same t gives) ∙ k.0.same (seen h.deeds t);
      done = subst (Done h.deeds a) (sym k.1) h.done;
    }

    -- a step that does
    pub step_goes : Stepped (Ok Going) (ahead m) bound m.left m.at_end m' b c → Reaches before at_end m' a c
    step_goes k = reaches_then m' c (record { deeds = k.deeds; same = k.same; at_end_now = k.at_end_now; done = k.done })

-- a step without a turn
pub no_turn : (bound left : ℕ) (m : Configuration) → Falls bound left m → m.left ≡ left → work m.control < bound
no_turn bound left m (inl f) e = f.1
no_turn bound left m (inr f) e = absurd (omega arith)

-- a step with a turn
pub a_turn : (bound left : ℕ) (m : Configuration) → Falls bound left m → (m.left ≡ left → ⊥) → m.left + 1 ≡ left
a_turn bound left m (inl f) e = absurd (e f.0)
a_turn bound left m (inr f) e = f

-- a fault that is handed on

pub turned_fault : (result : Result State StepFault) (f : StepFault) (before : Ahead) (left : ℕ) (at_end : Bool) (m : Configuration) (a b : Outside) → IsErrAnd result (λ e. e ≡ f) → RanFrom (Err f) before at_end m a b → Turned result before left at_end m a b
turned_fault (Ok x) f before left at_end m a b e h = absurd e
turned_fault (Err x) f before left at_end m a b e h = subst (λ f. RanFrom (Err f) before at_end m a b) (sym e) h

pub ran_fault : (result : Result End StepFault) (f : StepFault) (before : Ahead) (at_end : Bool) (m : Configuration) (a b : Outside) → IsErrAnd result (λ e. e ≡ f) → RanFrom (Err f) before at_end m a b → RanFrom result before at_end m a b
ran_fault (Ok x) f before at_end m a b e h = absurd e
ran_fault (Err x) f before at_end m a b e h = subst (λ f. RanFrom (Err f) before at_end m a b) (sym e) h

-- Causes --------------------------------------------------------------------------------------------------------------

module _ (deeds : List Deed) (a b : Outside) (h : Done deeds a b) where
  -- what was done raised no count
  abbrev source_quiet : b.source.faults ≡ a.source.faults
  source_quiet = reads_quiet (answers deeds) a.source b.source h.got

  abbrev sink_quiet : b.sink.faults ≡ a.sink.faults
  sink_quiet = prints_quiet (printed (events_of deeds)) a.sink b.sink h.put

  done_causes : {A : Type 0} (x : A) → HasCauses {A = A} (Ok x) a b
  done_causes x = record { input = no_cause a.source.faults b.source.faults source_quiet; sink = no_cause a.sink.faults b.sink.faults sink_quiet }

  -- a fault after it
  fault_causes : {A : Type 0} (f : StepFault) (before : Ahead) (left : ℕ) (m : Configuration) (c : Outside) → Faulted f before left m b c → HasCauses {A = A} (Err f) a c
  fault_causes fault.Input before left m c k = record {
    input = subst (λ faults. HasCause true faults c.source.faults) source_quiet k.0.asked.cause;
    sink = no_cause a.sink.faults c.sink.faults (ap (λ (s : SinkState). s.faults) k.0.unput ∙ sink_quiet);
  }
  fault_causes fault.Sink before left m c k = record {
    input = no_cause a.source.faults c.source.faults (ap (λ (s : SourceState). s.faults) k.0.unasked ∙ source_quiet);
    sink = subst (λ faults. HasCause true faults c.sink.faults) sink_quiet k.0.put.cause;
  }
  fault_causes fault.Mem before left m c k = record {
    input = no_cause a.source.faults c.source.faults (ap (λ (c : Outside). c.source.faults) k.0 ∙ source_quiet);
    sink = no_cause a.sink.faults c.sink.faults (ap (λ (c : Outside). c.sink.faults) k.0 ∙ sink_quiet);
  }

pub step_causes : (result : Result State StepFault) (before : Ahead) (bound left : ℕ) (at_end : Bool) (m : Configuration) (a b : Outside) → Stepped result before bound left at_end m a b → HasCauses result a b
step_causes (Ok Going) before bound left at_end m a b h = done_causes h.deeds a b h.done Going
step_causes (Ok (Ended end)) before bound left at_end m a b h = done_causes [] a b (subst (Done [] a) (sym h.1) (done_none a)) (Ended end)
step_causes (Err f) before bound left at_end m a b h = fault_causes [] a a (done_none a) f before left m b h

pub run_causes : (result : Result End StepFault) (before : Ahead) (at_end : Bool) (m : Configuration) (a b : Outside) → RanFrom result before at_end m a b → HasCauses result a b
run_causes (Ok end) before at_end m a b h = done_causes h.deeds a b h.done end
run_causes (Err f) before at_end m a b h = fault_causes h.reached.deeds a h.between h.reached.done f (ahead h.at) h.at.left m b h.failed

-- Whole runs ----------------------------------------------------------------------------------------------------------

-- the events of an outcome
outcome_events : (x : Step memory.State ℤ) → (outcome x).events ≡ (trace_of x).events
outcome_events (Went n t s) = refl
outcome_events (Over e t) = refl

-- the askings among deeds, on an input that gives their answers
asks : (deeds : List Deed) (input : List ℕ) (a b : SourceState) (result : Result (Unit {0}) Failed) → AreOf input (answers deeds) → Reads (answers deeds) a b result → AsksInput input (events_of deeds) a b result
asks deeds input a b result of reads = (answers deeds, as_many deeds, of, reads)

-- the events of a run that reached something, where an event comes next, or where none is known
module _ (before : Ahead) (m : Configuration) (deeds : List Deed) (input : List ℕ) (same : before (start input 0) ≡ ahead m (seen deeds (start input 0))) where
  begins_next : (event : Event) → IsNext event (ahead m) → BeginsWith (outcome (before (start input 0))) (events_of deeds ++ event ∷ [])
  begins_next event next =
      let after = next (seen deeds (start input 0)) in
      (after.0, outcome_events (before (start input 0)) ∙ (ap (λ (x : Step memory.State ℤ). (trace_of x).events) same ∙ (after.1 ∙ sym (append_assoc (events_of deeds) (event ∷ []) after.0))))

  begins_so : BeginsWith (outcome (before (start input 0))) (events_of deeds)
  begins_so =
      let after = ahead_adds m (seen deeds (start input 0)) in
      (after.0, outcome_events (before (start input 0)) ∙ (ap (λ (x : Step memory.State ℤ). (trace_of x).events) same ∙ after.1))

-- answers, and then an asking that failed
unanswered_then : (xs : List (Option ℕ)) (a b c : SourceState) → Reads xs a b (Ok tt) → Asked b c (Err (record {})) → Reads xs a c (Err (record {}))
unanswered_then xs a b c h asked = subst (λ xs. Reads xs a c (Err (record {}))) (append-nil xs) (reads_then xs [] a b c (Err (record {})) h asked)

module _ (before : Ahead) (m : Configuration) (a b : Outside) where
  ran_ok : (end : End) → Finishes end before false m a b → RanOnSome (Ok end) before m a b
  ran_ok end h =
      let found = input_there (answers h.deeds) a.source b.source (Ok tt) h.done.got in
      let input = found.0 in
      let same = h.same (start input 0) found.2 in (
        input,
        found.1,
        (
          sym (ap (λ (o : Outcome). o.ending) same),
          sym (ap (λ (o : Outcome). o.left) same),
          subst (λ (o : Outcome). Prints (printed o.events) a.sink b.sink (Ok tt)) (sym same) h.done.put,
          subst (λ (o : Outcome). AsksInput input o.events a.source b.source (Ok tt)) (sym same) (asks h.deeds input a.source b.source (Ok tt) found.2 h.done.got),
          subst (λ (o : Outcome). IfSome a.source.left (λ _. b.source.left ≡ Some o.rest)) (sym same) found.3,
        ),
      )

  ran_fail : (f : StepFault) → Fails f before false m a b → RanOnSome (Err f) before m a b
  ran_fail fault.Input h =
      let r = h.reached in
      let reads = unanswered_then (answers r.deeds) a.source h.between.source b.source r.done.got h.failed.0.asked in
      let found = input_there (answers r.deeds) a.source b.source (Err (record {})) reads in
      let same = r.same (start found.0 0) found.2 in (
        found.0,
        found.1,
        (
          events_of r.deeds,
          begins_next before h.at r.deeds found.0 same run.Asks h.failed.0.next,
          subst (λ sink. Prints (printed (events_of r.deeds)) a.sink sink (Ok tt)) (sym h.failed.0.unput) r.done.put,
          asks r.deeds found.0 a.source b.source (Err (record {})) found.2 reads,
        ),
      )
  ran_fail fault.Sink h =
      let r = h.reached in
      let reads = subst (λ source. Reads (answers r.deeds) a.source source (Ok tt)) (sym h.failed.0.unasked) r.done.got in
      let found = input_there (answers r.deeds) a.source b.source (Ok tt) reads in
      let same = r.same (start found.0 0) found.2 in (
        found.0,
        found.1,
        (
          events_of r.deeds,
          h.failed.0.byte,
          begins_next before h.at r.deeds found.0 same (run.Puts h.failed.0.byte) h.failed.0.next,
          (h.between.sink, r.done.put, h.failed.0.put),
          asks r.deeds found.0 a.source b.source (Ok tt) found.2 reads,
        ),
      )
  ran_fail fault.Mem h =
      let r = h.reached in
      let done = subst (Done r.deeds a) (sym h.failed.0) r.done in
      let found = input_there (answers r.deeds) a.source b.source (Ok tt) done.got in
      let same = r.same (start found.0 0) found.2 in
      (found.0, found.1, (events_of r.deeds, begins_so before h.at r.deeds found.0 same, done.put, asks r.deeds found.0 a.source b.source (Ok tt) found.2 done.got))

  -- a run answered as the outcome of what was ahead says
  pub ran_on_some : (result : Result End StepFault) → RanFrom result before false m a b → RanOnSome result before m a b
  ran_on_some (Ok end) h = ran_ok end h
  ran_on_some (Err f) h = ran_fail f h

-- the same, where the input may have come to its end before
pub ran_on_some_from : (result : Result End StepFault) (before : Ahead) (at_end : Bool) (m : Configuration) (a b : Outside) → RanFrom result before at_end m a b → at_end ≡ false → RanOnSome result before m a b
ran_on_some_from result before at_end m a b h e = ran_on_some before m a b result (subst (λ at_end. RanFrom result before at_end m a b) e h)
