-- What each statement does to a configuration of the machine.
use Rattle.std.proofs.Common.{◌≡◌, ℕ, suc, ◌+◌, ◌-◌, ℤ, pos, List, [], ◌∷◌, ◌++◌, Bool, true, false, Option, Some, None, refl, sym, ap, ◌∙◌, arith, append-nil, append_assoc, inl, inr, map, replicate}
use Rattle.std.specs.Option.{is_none}
use Rattle.std.specs.Prelude.{Result, Ok, Err, slice_get, nat_le, not, if◌then◌else◌}
use Rattle.sl_run.specs.Run.{Event, Trace, first_of, Step, Went, Over, pure}
use Rattle.sl_run.specs.Run as run
use Rattle.sl_run.specs.Outcome.{trace_of}
use Rattle.sl_run.specs.Laws.{Alone, step_after}
use Rattle.sl_outside.specs.Sink.{SinkState, Put}
use Rattle.sl_outside.specs.Source.{SourceState, Asked}
use Rattle.sl_run.specs.Statements.{gotten}
use Rattle.sl_run.specs.Statements as statements
use Rattle.c_tree.specs.Meaning.{is_zero}
use Rattle.c_machine.specs.declared.program.Slot.{Slot}
use Rattle.c_machine.specs.declared.program.Word.{Word}
use Rattle.c_machine.specs.declared.program.Expr.{Expr}
use Rattle.c_machine.specs.declared.program.Frame.{Frame}
use Rattle.c_machine.specs.declared.program.Stmt.{Stmt}
use Rattle.c_machine.specs.declared.program.Stmt.TheVariants as stmt
use Rattle.c_machine.specs.declared.program.Function.{Function}
use Rattle.c_machine.specs.declared.memory.Memory.{Memory}
use Rattle.c_machine.specs.declared.configuration.Entry.TheVariants.{Rest, Again, Rounds, Back}
use Rattle.c_machine.specs.declared.configuration.Flow.TheVariants.{Next, Broke, Returned}
use Rattle.c_machine.specs.declared.configuration.Configuration.{Configuration}
use Rattle.c_machine.specs.declared.ending.End.TheVariants as end
use Rattle.c_machine.specs.declared.ending.State.TheVariants.{Going, Ended}
use Rattle.c_machine.specs.declared.ending.State.{State}
use Rattle.c_machine.specs.declared.ending.StepFault.{StepFault}
use Rattle.c_machine.specs.declared.ending.StepFault.TheVariants as fault
use Rattle.c_machine.specs.State.{owner_of, with_held, is_declared, with_frame}
use Rattle.c_machine.specs.State as memory
use Rattle.c_machine.specs.Values.{value}
use Rattle.c_machine.specs.Resume.{state_of, resume}
use Rattle.c_machine.specs.Outside.{Puts, Gets, taken, Gives, seen, outside}
use Rattle.c_machine.specs.Stepped.{flow_of, with_left, with_turns, Ahead, ahead, ahead_of, entering, ready, with_control, rounds_work, weight, work, Falls, IsNext, Stepped, Silent}
use Rattle.c_machine.proofs.Resuming as law
use Rattle.c_machine.proofs.Steps.{quiet, over_so, stepped_as}
use Rattle.c_machine.proofs.Deeds.{gives_taken, ended_taken}
use Rattle.c_machine.proofs.Works.{weights, weight_assign, weight_inline, weight_if, weight_loop, weight_count, weight_break, weight_return, weight_put, weight_get, chosen_weighs}

-- what an act adds to the events so far
adds : (a : run.Act memory.State ℤ) → Alone a → (t : Trace) (s : memory.State) → (more : List Event) × ((trace_of (a t s)).events ≡ t.events ++ more)
adds a alone t s =
    let none : Trace = record t { events = [] } in (
      (trace_of (a none s)).events,
      ap (λ (t : Trace). (trace_of (a t s)).events) (λ k. record t { events = sym (append-nil t.events) k })
          ∙ (ap (λ (x : Step memory.State ℤ). (trace_of x).events) (alone t.events none s) ∙ after_is t.events (a none s)),
    )
  where
    after_is : (earlier : List Event) (x : Step memory.State ℤ) → (trace_of (step_after earlier x)).events ≡ earlier ++ (trace_of x).events
    after_is earlier (Went n u r) = refl
    after_is earlier (Over e u) = refl

-- what is ahead adds to the events so far
pub ahead_adds : (m : Configuration) (t : Trace) → (more : List Event) × ((trace_of (ahead m t)).events ≡ t.events ++ more)
unfolding ahead
ahead_adds m t = adds (resume m.program m.gives m.control (flow_of m.flow)) (law.resume_alone m.program m.gives m.control (flow_of m.flow)) (with_left m.left t) (state_of m.memory)

-- what comes next, where what is ahead is what an act does after one more event
next_of : (event : Event) (before : Ahead) (later : Trace → Trace) → ((t : Trace) → (later t).events ≡ t.events ++ event ∷ []) → (a : Trace → run.Act memory.State ℤ) → ((t : Trace) → Alone (a t)) → (state : Trace → memory.State)
    → ((t : Trace) → before t ≡ a t (later t) (state t)) → IsNext event before
next_of event before later is a alone state same t =
    let added = adds (a t) (alone t) (later t) (state t) in
    (added.0, ap (λ (x : Step memory.State ℤ). (trace_of x).events) (same t) ∙ (added.1 ∙ (ap (λ (events : List Event). events ++ added.0) (is t) ∙ append_assoc t.events (event ∷ []) added.0)))

module _ (m : Configuration) where
  -- the state of its memory
  abbrev s : memory.State
  s = state_of m.memory

  -- an undefined case
  pub stuck_so : (stmt : Stmt) → ((t : Trace) → ahead_of stmt m t ≡ Over (run.Stuck (owner_of m.memory.frames)) (with_left m.left t)) → Silent (Ok (Ended (end.Stuck (owner_of m.memory.frames)))) (ahead_of stmt m) (weight stmt + work m.control) m.left m.at_end m
  stuck_so stmt h = over_so (end.Stuck (owner_of m.memory.frames)) (ahead_of stmt m) (weight stmt + work m.control) m.left m.at_end m h

  pub undefined_stops : Silent (Ok (Ended (end.Stuck (owner_of m.memory.frames)))) (ahead_of stmt.Undefined m) (weight stmt.Undefined + work m.control) m.left m.at_end m
  unfolding ahead_of
  undefined_stops = stuck_so stmt.Undefined (λ t. law.undefined_stops m.program m.gives m.control (with_left m.left t) s)

  pub halt_stops : (kind file line : ℕ) → Silent (Ok (Ended (end.Halt kind file line))) (ahead_of (stmt.Halt kind file line) m) (weight (stmt.Halt kind file line) + work m.control) m.left m.at_end m
  unfolding ahead_of
  halt_stops kind file line =
      over_so (end.Halt kind file line) (ahead_of (stmt.Halt kind file line) m) (weight (stmt.Halt kind file line) + work m.control) m.left m.at_end m
      (λ t. law.halt_stops m.program m.gives m.control kind file line (with_left m.left t) s)

  -- an assignment

  module _ (slot : Slot) (e : Expr) where
    pub assign_undeclared : is_declared slot ≡ false → Silent (Ok (Ended (end.Stuck (owner_of m.memory.frames)))) (ahead_of (stmt.Assign slot e) m) (weight (stmt.Assign slot e) + work m.control) m.left m.at_end m
    unfolding ahead_of
    assign_undeclared d = stuck_so (stmt.Assign slot e) (λ t. law.assign_undeclared m.program m.gives m.control slot e (with_left m.left t) s d)

    pub assign_unvalued : is_declared slot ≡ true → value e s ≡ None → Silent (Ok (Ended (end.Stuck (owner_of m.memory.frames)))) (ahead_of (stmt.Assign slot e) m) (weight (stmt.Assign slot e) + work m.control) m.left m.at_end m
    unfolding ahead_of
    assign_unvalued d h = stuck_so (stmt.Assign slot e) (λ t. law.assign_unvalued m.program m.gives m.control slot e (with_left m.left t) s d h)

    pub assign_goes : (x : Word) (memory' : Memory) → m.flow ≡ Next → is_declared slot ≡ true → value e s ≡ Some x → state_of memory' ≡ with_held slot x.number s
        → Silent (Ok Going) (ahead_of (stmt.Assign slot e) m) (weight (stmt.Assign slot e) + work m.control) m.left m.at_end (record m { memory = memory' })
    unfolding ahead ahead_of
    assign_goes x memory' f d h stored =
        quiet (ahead_of (stmt.Assign slot e) m) (weight (stmt.Assign slot e) + work m.control) m.left m.at_end (record m { memory = memory' }) refl
        (λ t. law.assign_goes m.program m.gives m.control slot e x (with_left m.left t) s d h
        ∙ (ap (resume m.program m.gives m.control statements.Next (with_left m.left t)) (sym stored)
        ∙ ap (λ flow. resume m.program m.gives m.control (flow_of flow) (with_left m.left t) (state_of memory')) (sym f)))
        (inl (refl, omega (arith, weight_assign slot e)))

  -- a loop, and the end of one

  module _ (stmts : List Stmt) where
    loop_falls : Falls (weight (stmt.Loop stmts) + work m.control) m.left (with_control m (Again stmts ∷ m.control))
    unfolding work
    loop_falls = inl (refl, omega (arith, weight_loop stmts))

    pub loop_goes : m.flow ≡ Next → Silent (Ok Going) (ahead_of (stmt.Loop stmts) m) (weight (stmt.Loop stmts) + work m.control) m.left m.at_end (with_control m (Again stmts ∷ m.control))
    unfolding ahead ahead_of
    loop_goes f =
        quiet (ahead_of (stmt.Loop stmts) m) (weight (stmt.Loop stmts) + work m.control) m.left m.at_end (with_control m (Again stmts ∷ m.control)) refl
        (λ t. law.loop_goes m.program m.gives m.control stmts (with_left m.left t) s ∙ ap (λ flow. resume m.program m.gives (Again stmts ∷ m.control) (flow_of flow) (with_left m.left t) s) (sym f))
        loop_falls

  module _ (slot : Slot) (count : ℕ) (stmts : List Stmt) where
    pub count_undeclared : is_declared slot ≡ false → Silent (Ok (Ended (end.Stuck (owner_of m.memory.frames)))) (ahead_of (stmt.Count slot count stmts) m) (weight (stmt.Count slot count stmts) + work m.control) m.left m.at_end m
    unfolding ahead_of
    count_undeclared d = stuck_so (stmt.Count slot count stmts) (λ t. law.count_undeclared m.program m.gives m.control slot count stmts (with_left m.left t) s d)

    count_falls : Falls (weight (stmt.Count slot count stmts) + work m.control) m.left (with_control m (Rounds slot 0 count stmts ∷ m.control))
    unfolding work
    count_falls =
        let all : count - 0 ≡ count = omega arith in
        inl (refl, omega (arith, weight_count slot count stmts, ap (λ count. rounds_work count (weights stmts)) all))

    pub count_goes : m.flow ≡ Next → is_declared slot ≡ true → Silent (Ok Going) (ahead_of (stmt.Count slot count stmts) m) (weight (stmt.Count slot count stmts) + work m.control) m.left m.at_end (with_control m (Rounds slot 0 count stmts ∷ m.control))
    unfolding ahead ahead_of
    count_goes f d =
        quiet (ahead_of (stmt.Count slot count stmts) m) (weight (stmt.Count slot count stmts) + work m.control) m.left m.at_end (with_control m (Rounds slot 0 count stmts ∷ m.control)) refl
        (λ t. law.count_goes m.program m.gives m.control slot count stmts (with_left m.left t) s d ∙ ap (λ flow. resume m.program m.gives (Rounds slot 0 count stmts ∷ m.control) (flow_of flow) (with_left m.left t) s) (sym f))
        count_falls

  pub break_goes : Silent (Ok Going) (ahead_of stmt.Break m) (weight stmt.Break + work m.control) m.left m.at_end (record m { flow = Broke })
  unfolding ahead ahead_of
  break_goes =
      quiet (ahead_of stmt.Break m) (weight stmt.Break + work m.control) m.left m.at_end (record m { flow = Broke }) refl
      (λ t. law.break_goes m.program m.gives m.control (with_left m.left t) s)
      (inl (refl, omega (arith, weight_break)))

  -- a return

  pub return_goes : Silent (Ok Going) (ahead_of (stmt.Return None) m) (weight (stmt.Return None) + work m.control) m.left m.at_end (record m { flow = Returned None })
  unfolding ahead ahead_of
  return_goes =
      quiet (ahead_of (stmt.Return None) m) (weight (stmt.Return None) + work m.control) m.left m.at_end (record m { flow = Returned None }) refl
      (λ t. law.return_goes m.program m.gives m.control (with_left m.left t) s)
      (inl (refl, omega (arith, weight_return None)))

  pub return_with_goes : (e : Expr) (x : Word) → value e s ≡ Some x → Silent (Ok Going) (ahead_of (stmt.Return (Some e)) m) (weight (stmt.Return (Some e)) + work m.control) m.left m.at_end (record m { flow = Returned (Some x.number) })
  unfolding ahead ahead_of
  return_with_goes e x h =
      quiet (ahead_of (stmt.Return (Some e)) m) (weight (stmt.Return (Some e)) + work m.control) m.left m.at_end (record m { flow = Returned (Some x.number) }) refl
      (λ t. law.return_with_goes m.program m.gives m.control e x (with_left m.left t) s h)
      (inl (refl, omega (arith, weight_return (Some e))))

  pub return_unvalued : (e : Expr) → value e s ≡ None → Silent (Ok (Ended (end.Stuck (owner_of m.memory.frames)))) (ahead_of (stmt.Return (Some e)) m) (weight (stmt.Return (Some e)) + work m.control) m.left m.at_end m
  unfolding ahead_of
  return_unvalued e h = stuck_so (stmt.Return (Some e)) (λ t. law.return_unvalued m.program m.gives m.control e (with_left m.left t) s h)

  -- one of two blocks

  module _ (test : Expr) (chosen other : List Stmt) where
    pub if_unvalued : value test s ≡ None → Silent (Ok (Ended (end.Stuck (owner_of m.memory.frames)))) (ahead_of (stmt.If test chosen other) m) (weight (stmt.If test chosen other) + work m.control) m.left m.at_end m
    unfolding ahead_of
    if_unvalued h = stuck_so (stmt.If test chosen other) (λ t. law.if_unvalued m.program m.gives m.control test chosen other (with_left m.left t) s h)

    if_falls : (b : Bool) (block : List Stmt) → (if b then chosen else other) ≡ block → Falls (weight (stmt.If test chosen other) + work m.control) m.left (with_control m (Rest block 0 ∷ m.control))
    unfolding work
    if_falls b block i = inl (refl, omega (arith, weight_if test chosen other, chosen_weighs b chosen other block i))

    pub if_goes : (block : List Stmt) (x : Word) → m.flow ≡ Next → value test s ≡ Some x → (if not (is_zero x.number) then chosen else other) ≡ block
        → Silent (Ok Going) (ahead_of (stmt.If test chosen other) m) (weight (stmt.If test chosen other) + work m.control) m.left m.at_end (with_control m (Rest block 0 ∷ m.control))
    unfolding ahead ahead_of
    if_goes block x f h i =
        quiet (ahead_of (stmt.If test chosen other) m) (weight (stmt.If test chosen other) + work m.control) m.left m.at_end (with_control m (Rest block 0 ∷ m.control)) refl
        (λ t. law.if_goes m.program m.gives m.control test chosen other block x (with_left m.left t) s h i
        ∙ ap (λ flow. resume m.program m.gives (Rest block 0 ∷ m.control) (flow_of flow) (with_left m.left t) s) (sym f))
        (if_falls (not (is_zero x.number)) block i)

  -- a byte that is put

  module _ (e : Expr) where
    pub put_unvalued : value e s ≡ None → Silent (Ok (Ended (end.Stuck (owner_of m.memory.frames)))) (ahead_of (stmt.Put e) m) (weight (stmt.Put e) + work m.control) m.left m.at_end m
    unfolding ahead_of
    put_unvalued h = stuck_so (stmt.Put e) (λ t. law.put_unvalued m.program m.gives m.control e (with_left m.left t) s h)

    pub put_no_byte : (x : Word) → value e s ≡ Some x → ((byte : ℕ) → x.number ≡ pos byte → nat_le byte 255 ≡ false) → Silent (Ok (Ended (end.Stuck (owner_of m.memory.frames)))) (ahead_of (stmt.Put e) m) (weight (stmt.Put e) + work m.control) m.left m.at_end m
    unfolding ahead_of
    put_no_byte x h never = stuck_so (stmt.Put e) (λ t. law.put_no_byte m.program m.gives m.control e x (with_left m.left t) s h never)

    module _ (x : Word) (byte : ℕ) (h : value e s ≡ Some x) (is : x.number ≡ pos byte) (le : nat_le byte 255 ≡ true) (f : m.flow ≡ Next) where
      put_same : (t : Trace) → ahead_of (stmt.Put e) m t ≡ ahead m (seen (Puts byte ∷ []) t)
      unfolding ahead ahead_of
      put_same t =
          law.put_goes m.program m.gives m.control e x byte (with_left m.left t) s h is le
          ∙ ap (λ flow. resume m.program m.gives m.control (flow_of flow) (with_left m.left (seen (Puts byte ∷ []) t)) s) (sym f)

      pub put_goes : (source : SourceState) (out out' : SinkState) → Put (byte ∷ []) out out' (Ok tt) → Stepped (Ok Going) (ahead_of (stmt.Put e) m) (weight (stmt.Put e) + work m.control) m.left m.at_end m (outside source out) (outside source out')
      put_goes source out out' put = record {
        deeds = Puts byte ∷ [];
        at_most_one = omega arith;
        same = λ t gives. put_same t;
        at_end_now = refl;
        done = record { put = inl (out', put, refl); got = refl };
        falls = inl (refl, omega (arith, weight_put e));
      }

      put_next : IsNext (run.Puts byte) (ahead_of (stmt.Put e) m)
      put_next t =
          let added = ahead_adds m (seen (Puts byte ∷ []) t) in
          (added.0, ap (λ (x : Step memory.State ℤ). (trace_of x).events) (put_same t) ∙ (added.1 ∙ append_assoc t.events (run.Puts byte ∷ []) added.0))

      pub put_refused : (m' : Configuration) (source : SourceState) (out out' : SinkState) → m'.left ≡ m.left → Put (byte ∷ []) out out' (Err (record {}))
          → Stepped (Err fault.Sink) (ahead_of (stmt.Put e) m) (weight (stmt.Put e) + work m.control) m.left m.at_end m' (outside source out) (outside source out')
      put_refused m' source out out' left put = (record { byte = byte; next = put_next; put = put; unasked = refl }, left)

  -- a byte of the input

  module _ (slot : Slot) where
    pub get_undeclared : is_declared slot ≡ false → Silent (Ok (Ended (end.Stuck (owner_of m.memory.frames)))) (ahead_of (stmt.Get slot) m) (weight (stmt.Get slot) + work m.control) m.left m.at_end m
    unfolding ahead_of
    get_undeclared d = stuck_so (stmt.Get slot) (λ t. law.get_undeclared m.program m.gives m.control slot (with_left m.left t) s d)

    module _ (d : is_declared slot ≡ true) (f : m.flow ≡ Next) where
      -- the machine behind it
      abbrev gotten_so : Memory → Bool → Configuration
      gotten_so memory' at_end = record m { memory = memory'; at_end = at_end }

      get_same : (answer : Option ℕ) (memory' : Memory) (at_end : Bool) → state_of memory' ≡ with_held slot (gotten (taken m.at_end answer)) s
          → (t : Trace) → Gives m.at_end t.rest (answer ∷ []) → ahead_of (stmt.Get slot) m t ≡ ahead (gotten_so memory' at_end) (seen (Gets answer ∷ []) t)
      unfolding ahead ahead_of
      get_same answer memory' at_end stored t gives =
          law.get_goes m.program m.gives m.control slot (with_left m.left t) s d
          ∙ (ap (λ (first : Option ℕ). resume m.program m.gives m.control statements.Next (with_left m.left (seen (Gets answer ∷ []) t)) (with_held slot (gotten first) s)) (gives_taken m.at_end t.rest answer gives)
          ∙ (ap (resume m.program m.gives m.control statements.Next (with_left m.left (seen (Gets answer ∷ []) t))) (sym stored)
          ∙ ap (λ flow. resume m.program m.gives m.control (flow_of flow) (with_left m.left (seen (Gets answer ∷ []) t)) (state_of memory')) (sym f)))

      pub get_goes : (answer : Option ℕ) (memory' : Memory) (at_end : Bool) (sink : SinkState) (source source' : SourceState) → state_of memory' ≡ with_held slot (gotten (taken m.at_end answer)) s → at_end ≡ is_none (taken m.at_end answer)
          → Asked source source' (Ok answer) → Stepped (Ok Going) (ahead_of (stmt.Get slot) m) (weight (stmt.Get slot) + work m.control) m.left m.at_end (gotten_so memory' at_end) (outside source sink) (outside source' sink)
      get_goes answer memory' at_end sink source source' stored ended asked = record {
        deeds = Gets answer ∷ [];
        at_most_one = omega arith;
        same = get_same answer memory' at_end stored;
        at_end_now = ended ∙ ended_taken m.at_end answer;
        done = record { put = refl; got = (source', asked, refl) };
        falls = inl (refl, omega (arith, weight_get slot));
      }

      -- what is ahead behind it, whatever the answer is
      get_ahead : (t : Trace) → ahead_of (stmt.Get slot) m t ≡ resume m.program m.gives m.control statements.Next (with_left m.left (seen (Gets (first_of t.rest) ∷ []) t)) (with_held slot (gotten (first_of t.rest)) s)
      unfolding ahead_of
      get_ahead t = law.get_goes m.program m.gives m.control slot (with_left m.left t) s d

      pub get_unanswered : (m' : Configuration) (sink : SinkState) (source source' : SourceState) → m'.left ≡ m.left → Asked source source' (Err (record {}))
          → Stepped (Err fault.Input) (ahead_of (stmt.Get slot) m) (weight (stmt.Get slot) + work m.control) m.left m.at_end m' (outside source sink) (outside source' sink)
      get_unanswered m' sink source source' left asked = (
        record {
          next =
              next_of run.Asks (ahead_of (stmt.Get slot) m) (λ t. with_left m.left (seen (Gets (first_of t.rest) ∷ []) t)) (λ t. refl) (λ t. resume m.program m.gives m.control statements.Next) (λ t. law.resume_alone m.program m.gives m.control statements.Next)
              (λ t. with_held slot (gotten (first_of t.rest)) s) get_ahead;
          asked = asked;
          unput = refl;
        },
        left,
      )

  -- calls

  module _ (target : Option Slot) (arguments : List Expr) (function : ℕ) where
    pub call_unready : ready target arguments s ≡ None → Silent (Ok (Ended (end.Stuck (owner_of m.memory.frames)))) (ahead_of (stmt.Call target arguments function) m) (weight (stmt.Call target arguments function) + work m.control) m.left m.at_end m
    unfolding ahead_of
    call_unready h = stuck_so (stmt.Call target arguments function) (λ t. law.call_unready m.program m.gives m.control target arguments function (with_left m.left t) s h)

    pub call_spent : (ns : List ℤ) → ready target arguments s ≡ Some ns → m.left ≡ 0 → Silent (Ok (Ended end.TurnsSpent)) (ahead_of (stmt.Call target arguments function) m) (weight (stmt.Call target arguments function) + work m.control) m.left m.at_end m
    unfolding ahead_of
    call_spent ns h z =
        over_so end.TurnsSpent (ahead_of (stmt.Call target arguments function) m) (weight (stmt.Call target arguments function) + work m.control) m.left m.at_end m
        (λ t. law.call_spent m.program m.gives m.control target arguments function ns (with_left m.left t) s h z)

    pub call_turns : (ns : List ℤ) (left : ℕ) → ready target arguments s ≡ Some ns → m.left ≡ suc left → (t : Trace) → ahead_of (stmt.Call target arguments function) m t ≡ entering target function ns (with_turns left m) t
    unfolding ahead_of entering
    call_turns ns left h z t = law.call_turns m.program m.gives m.control target arguments function ns left (with_left m.left t) s h z

    pub call_goes : (ns : List ℤ) (left : ℕ) (result : Result State StepFault) (m' : Configuration) → ready target arguments s ≡ Some ns → m.left ≡ suc left
        → Silent result (entering target function ns (with_turns left m)) (weight (stmt.Call target arguments function) + work m.control) m.left m.at_end m' → Silent result (ahead_of (stmt.Call target arguments function) m) (weight (stmt.Call target arguments function) + work m.control) m.left m.at_end m'
    call_goes ns left result m' h z entered a =
        let bound : ℕ = weight (stmt.Call target arguments function) + work m.control in
        stepped_as result (entering target function ns (with_turns left m)) (ahead_of (stmt.Call target arguments function) m) bound bound m.left m.at_end m' a a (call_turns ns left h z) (omega arith) (entered a)

  -- a function begins

  module _ (target : Option Slot) (number : ℕ) (ns : List ℤ) (left : ℕ) where
    pub enter_missing : (bound : ℕ) → slice_get m.program.functions number ≡ None → Silent (Ok (Ended (end.Stuck (owner_of m.memory.frames)))) (entering target number ns (with_turns left m)) bound m.left m.at_end (with_turns left m)
    unfolding entering
    enter_missing bound h =
        over_so (end.Stuck (owner_of m.memory.frames)) (entering target number ns (with_turns left m)) bound m.left m.at_end (with_turns left m)
        (λ t. law.enter_missing m.program m.gives m.control target number ns (with_left left t) s h)

    -- the machine with the statements of the function to be done, in this frame
    abbrev entered_in : Function → Frame → Configuration
    entered_in function frame = record m { memory = record { globals = m.memory.globals; frames = frame ∷ m.memory.frames }; control = Rest function.body 0 ∷ Back target function.gives ∷ m.control; left = left }

    pub enter_goes : (bound : ℕ) (function : Function) (frame : Frame) → m.flow ≡ Next → m.left ≡ suc left → slice_get m.program.functions number ≡ Some function → frame ≡ record { owner = number; cells = map Some ns ++ replicate function.vars None }
        → Silent (Ok Going) (entering target number ns (with_turns left m)) bound m.left m.at_end (entered_in function frame)
    unfolding ahead entering
    enter_goes bound function frame f z h is =
        quiet (entering target number ns (with_turns left m)) bound m.left m.at_end (entered_in function frame) refl
        (λ t. law.enter_goes m.program m.gives m.control target number ns function (with_left left t) s h
        ∙ (ap (λ (frame : Frame). resume m.program m.gives (Rest function.body 0 ∷ Back target function.gives ∷ m.control) statements.Next (with_left left t) (record { globals = m.memory.globals; frames = frame ∷ m.memory.frames })) (sym is)
        ∙ ap (λ flow. resume m.program m.gives (Rest function.body 0 ∷ Back target function.gives ∷ m.control) (flow_of flow) (with_left left t) (record { globals = m.memory.globals; frames = frame ∷ m.memory.frames })) (sym f)))
        (inr (omega arith))

  -- an inline call

  module _ (target : Option Slot) (arguments : List Expr) (vars : ℕ) (gives : Bool) (stmts : List Stmt) where
    pub inline_unready : ready target arguments s ≡ None → Silent (Ok (Ended (end.Stuck (owner_of m.memory.frames)))) (ahead_of (stmt.Inline target arguments vars gives stmts) m) (weight (stmt.Inline target arguments vars gives stmts) + work m.control) m.left m.at_end m
    unfolding ahead_of
    inline_unready h = stuck_so (stmt.Inline target arguments vars gives stmts) (λ t. law.inline_unready m.program m.gives m.control target arguments vars gives stmts (with_left m.left t) s h)

    -- the machine with the statements of the function to be done, in this frame
    abbrev pub begun : Frame → Configuration
    begun frame = record m { memory = record { globals = m.memory.globals; frames = frame ∷ m.memory.frames }; control = Rest stmts 0 ∷ Back target gives ∷ m.control }

    inline_falls : (frame : Frame) → Falls (weight (stmt.Inline target arguments vars gives stmts) + work m.control) m.left (begun frame)
    unfolding work
    inline_falls frame = inl (refl, omega (arith, weight_inline target arguments vars gives stmts))

    pub inline_goes : (ns : List ℤ) (frame : Frame) → m.flow ≡ Next → ready target arguments s ≡ Some ns → frame ≡ record { owner = owner_of m.memory.frames; cells = map Some ns ++ replicate vars None }
        → Silent (Ok Going) (ahead_of (stmt.Inline target arguments vars gives stmts) m) (weight (stmt.Inline target arguments vars gives stmts) + work m.control) m.left m.at_end (begun frame)
    unfolding ahead ahead_of
    inline_goes ns frame f h is =
        quiet (ahead_of (stmt.Inline target arguments vars gives stmts) m) (weight (stmt.Inline target arguments vars gives stmts) + work m.control) m.left m.at_end (begun frame) refl
        (λ t. law.inline_goes m.program m.gives m.control target arguments vars gives stmts ns (with_left m.left t) s h
        ∙ (ap (λ (frame : Frame). resume m.program m.gives (Rest stmts 0 ∷ Back target gives ∷ m.control) statements.Next (with_left m.left t) (record { globals = m.memory.globals; frames = frame ∷ m.memory.frames })) (sym is)
        ∙ ap (λ flow. resume m.program m.gives (Rest stmts 0 ∷ Back target gives ∷ m.control) (flow_of flow) (with_left m.left t) (record { globals = m.memory.globals; frames = frame ∷ m.memory.frames })) (sym f)))
        (inline_falls frame)
