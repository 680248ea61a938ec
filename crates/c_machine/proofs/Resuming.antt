-- One law for each kind of step: what `resume` says before it, it says after it.
use Rattle.std.proofs.Common.{◌≡◌, ℕ, suc, ◌+◌, ◌-◌, ℤ, pos, negsuc, List, [], ◌∷◌, ◌++◌, Bool, true, false, Option, Some, None, refl, sym, ap, ◌∙◌, arith, map, drop, add-one}
use Rattle.std.specs.Prelude.{slice_get, nat_le, not, if◌then◌else◌}
use Rattle.sl_run.specs.Run.{TurnsSpent, Stuck, Puts, Asks, Act, Trace, Step, Went, Over, pure, step_then, ◌>>=◌, ◌>>◌, turn, turn_at, choose, put, first_of, rest_of, round_then, loop}
use Rattle.sl_run.specs.Run as run
use Rattle.sl_run.specs.Laws.{Alone}
use Rattle.sl_run.proofs.Then.{bind_assoc}
use Rattle.sl_run.proofs.Alone.{bind_alone, round_then_alone, loop_alone}
use Rattle.sl_run.proofs.Equations.{turn_goes, turn_stops}
use Rattle.sl_run.specs.Statements.{Next, Broke, Returned, after_round, gotten, then_on, in_order}
use Rattle.c_tree.specs.Meaning.{Flow, is_zero}
use Rattle.c_machine.specs.declared.program.Slot.{Slot}
use Rattle.c_machine.specs.declared.program.Word.{Word}
use Rattle.c_machine.specs.declared.program.Expr.{Expr}
use Rattle.c_machine.specs.declared.program.Stmt.{Stmt}
use Rattle.c_machine.specs.declared.program.Stmt.TheVariants as stmt
use Rattle.c_machine.specs.declared.program.Function.{Function}
use Rattle.c_machine.specs.declared.program.Program.{Program}
use Rattle.c_machine.specs.declared.configuration.Entry.{Entry}
use Rattle.c_machine.specs.declared.configuration.Entry.TheVariants.{Rest, Again, Rounds, Back}
use Rattle.c_machine.specs.State.{State, owner_of, with_held, is_declared, with_frame, without_frame}
use Rattle.c_machine.specs.Values.{value, numbers}
use Rattle.c_machine.specs.Meaning.{stuck, with_some, with_value, write, store_result, has_target, call_to, given, begin, leave, body, begin_inline, put_number, round, rounds, get_to, meaning, functions, called, exit_value}
use Rattle.c_machine.specs.Resume.{block, entered, resume}
use Rattle.c_machine.specs.Stepped.{ready}
use Rattle.c_machine.proofs.Layers as layer
use Rattle.c_machine.proofs.Steady.{called_is, loop_again}
use Rattle.sl_run.proofs.Statements.{then_on_alone, and_next_alone, round_alone}
use Rattle.c_machine.proofs.Alone.{rounds_alone, in_order_alone, called_alone, given_alone, left_alone, store_result_alone, exit_value_alone}

module _ (program : Program) (gives : Bool) where
  -- what still happens doesn't look at the events so far

  block_alone : (stmts : List Stmt) → Alone (block program stmts)
  block_alone stmts = in_order_alone stmts (called program) (called_alone program)

  entered_alone : (entry : Entry) (flow : Flow) → Alone (entered program entry flow)
  entered_alone (Rest stmts from) flow = then_on_alone (block program (drop from stmts)) flow (block_alone (drop from stmts))
  entered_alone (Again stmts) flow =
      let body : Act State Flow = block program stmts in
      round_then_alone (after_round flow) (loop (round body)) (loop_alone (round body) (round_alone body (block_alone stmts)))
  entered_alone (Rounds slot from end stmts) flow =
      let body : Act State Flow = block program stmts in
      round_then_alone (after_round flow) (rounds slot body from (end - from)) (rounds_alone slot body (block_alone stmts) from (end - from))
  entered_alone (Back target given_back) flow =
      and_next_alone (given given_back flow >>= leave >>= store_result target)
      (bind_alone (given given_back flow >>= leave) (store_result target) (left_alone given_back flow) (store_result_alone target))

  pub resume_alone : (control : List Entry) (flow : Flow) → Alone (resume program gives control flow)
  unfolding resume
  resume_alone [] flow = bind_alone (given gives flow >>= exit_value) leave (bind_alone (given gives flow) exit_value (given_alone gives flow) exit_value_alone) (λ value earlier t s. refl)
  resume_alone (entry ∷ control) flow = bind_alone (entered program entry flow) (resume program gives control) (entered_alone entry flow) (resume_alone control)

  -- the end of the first function

  pub finish_stuck : (flow : Flow) (t : Trace) (s : State) → given gives flow ≡ stuck → resume program gives [] flow t s ≡ Over (Stuck (owner_of s.frames)) t
  unfolding resume
  finish_stuck flow t s e = ap (λ (act : Act State (Option ℤ)). (act >>= exit_value >>= leave) t s) e

  pub finish_done : (flow : Flow) (number : ℤ) (t : Trace) (s : State) → given gives flow ≡ pure (Some number) → resume program gives [] flow t s ≡ Went number t (without_frame s)
  unfolding resume
  finish_done flow number t s e = ap (λ (act : Act State (Option ℤ)). (act >>= exit_value >>= leave) t s) e

  pub finish_nothing : (flow : Flow) (t : Trace) (s : State) → given gives flow ≡ pure None → resume program gives [] flow t s ≡ Over (Stuck (owner_of s.frames)) t
  unfolding resume
  finish_nothing flow t s e = ap (λ (act : Act State (Option ℤ)). (act >>= exit_value >>= leave) t s) e

  module _ (control : List Entry) where
    -- what happens after a statement
    abbrev after : Flow → Act State ℤ
    after = resume program gives control

    -- the rest of a block

    pub rest_ends : (stmts : List Stmt) (from : ℕ) (t : Trace) (s : State) → drop from stmts ≡ [] → resume program gives (Rest stmts from ∷ control) Next t s ≡ after Next t s
    unfolding resume
    rest_ends stmts from t s e = ap (λ (left : List Stmt). (in_order (map meaning left) (called program) >>= after) t s) e

    pub rest_left : (stmts : List Stmt) (from : ℕ) (flow : Flow) (t : Trace) (s : State) → (flow ≡ Next → ⊥) → resume program gives (Rest stmts from ∷ control) flow t s ≡ after flow t s
    unfolding resume
    rest_left stmts from Next t s h = absurd (h refl)
    rest_left stmts from Broke t s h = refl
    rest_left stmts from (Returned value) t s h = refl

    after_statement : (stmts : List Stmt) (from : ℕ) (flow : Flow) → (then_on (block program (drop from stmts)) flow >>= after) ≡ resume program gives (Rest stmts from ∷ control) flow
    unfolding resume
    after_statement stmts from flow = refl

    block_goes : (stmts : List Stmt) (from : ℕ) → resume program gives (Rest stmts from ∷ control) Next ≡ (block program (drop from stmts) >>= after)
    unfolding resume
    block_goes stmts from = refl

    pub rest_goes : (stmts : List Stmt) (from : ℕ) (stmt : Stmt) (t : Trace) (s : State) → drop from stmts ≡ stmt ∷ drop (from + 1) stmts → resume program gives (Rest stmts from ∷ control) Next t s ≡ (meaning stmt (called program) >>= resume program gives (Rest stmts (from + 1) ∷ control)) t s
    rest_goes stmts from stmt t s e =
        (λ k. block_goes stmts from k t s)
        ∙ (ap (λ (left : List Stmt). (in_order (map meaning left) (called program) >>= after) t s) e
        ∙ ((λ k. bind_assoc (meaning stmt (called program)) (then_on (in_order (map meaning (drop (from + 1) stmts)) (called program))) after k t s)
        ∙ (λ k. step_then (meaning stmt (called program) t s) (λ flow. after_statement stmts (from + 1) flow k))))

    -- the end of a call

    pub back_stuck : (target : Option Slot) (gives_back : Bool) (flow : Flow) (t : Trace) (s : State) → given gives_back flow ≡ stuck → resume program gives (Back target gives_back ∷ control) flow t s ≡ Over (Stuck (owner_of s.frames)) t
    unfolding resume
    back_stuck target gives_back flow t s e = ap (λ (act : Act State (Option ℤ)). ((act >>= leave >>= store_result target >> pure Next) >>= after) t s) e

    back_gives : (target : Option Slot) (gives_back : Bool) (flow : Flow) (value : Option ℤ) (t : Trace) (s : State) → given gives_back flow ≡ pure value → resume program gives (Back target gives_back ∷ control) flow t s ≡ ((store_result target value >> pure Next) >>= after) t (without_frame s)
    unfolding resume
    back_gives target gives_back flow value t s e = ap (λ (act : Act State (Option ℤ)). ((act >>= leave >>= store_result target >> pure Next) >>= after) t s) e

    pub back_none : (gives_back : Bool) (flow : Flow) (value : Option ℤ) (t : Trace) (s : State) → given gives_back flow ≡ pure value → resume program gives (Back None gives_back ∷ control) flow t s ≡ after Next t (without_frame s)
    back_none gives_back flow value t s e = back_gives None gives_back flow value t s e

    pub back_stores : (slot : Slot) (gives_back : Bool) (flow : Flow) (number : ℤ) (t : Trace) (s : State) → given gives_back flow ≡ pure (Some number) → resume program gives (Back (Some slot) gives_back ∷ control) flow t s ≡ after Next t (with_held slot number (without_frame s))
    back_stores slot gives_back flow number t s e = back_gives (Some slot) gives_back flow (Some number) t s e

    pub back_nothing : (slot : Slot) (gives_back : Bool) (flow : Flow) (t : Trace) (s : State) → given gives_back flow ≡ pure None → resume program gives (Back (Some slot) gives_back ∷ control) flow t s ≡ Over (Stuck (owner_of (without_frame s).frames)) t
    back_nothing slot gives_back flow t s e = back_gives (Some slot) gives_back flow None t s e

    -- loops

    left_so : (go : Act State Flow) (flow onward : Flow) (t : Trace) (s : State) → after_round flow ≡ Some onward → (round_then (after_round flow) go >>= after) t s ≡ after onward t s
    left_so go flow onward t s e = ap (λ (given : Option Flow). (round_then given go >>= after) t s) e

    pub again_left : (stmts : List Stmt) (flow onward : Flow) (t : Trace) (s : State) → after_round flow ≡ Some onward → resume program gives (Again stmts ∷ control) flow t s ≡ after onward t s
    unfolding resume
    again_left stmts flow onward t s e = left_so (loop (round (block program stmts))) flow onward t s e

    again_is : (stmts : List Stmt) → resume program gives (Again stmts ∷ control) Next ≡ (loop (round (block program stmts)) >>= after)
    unfolding resume
    again_is stmts = refl

    after_turn : (stmts : List Stmt) (flow : Flow) → (pure (after_round flow) >>= (λ given. round_then given (loop (round (block program stmts))) >>= after)) ≡ resume program gives (Again stmts ∷ control) flow
    unfolding resume
    after_turn stmts flow = refl

    turn_block : (stmts : List Stmt) → resume program gives (Rest stmts 0 ∷ Again stmts ∷ control) Next ≡ (block program stmts >>= resume program gives (Again stmts ∷ control))
    unfolding resume
    turn_block stmts = refl

    turn_is : (stmts : List Stmt) → ((round (block program stmts) >>= (λ given. round_then given (loop (round (block program stmts))))) >>= after) ≡ resume program gives (Rest stmts 0 ∷ Again stmts ∷ control) Next
    turn_is stmts =
        let body : Act State Flow = block program stmts in
        bind_assoc (round body) (λ given. round_then given (loop (round body))) after
        ∙ (bind_assoc body (λ flow. pure (after_round flow)) (λ given. round_then given (loop (round body)) >>= after)
        ∙ ((λ k. body >>= (λ flow. after_turn stmts flow k)) ∙ sym (turn_block stmts)))

    -- a loop is a turn, its statements, and the loop again
    again_goes : (stmts : List Stmt) → resume program gives (Again stmts ∷ control) Next ≡ (turn >> resume program gives (Rest stmts 0 ∷ Again stmts ∷ control) Next)
    again_goes stmts =
        let body : Act State Flow = block program stmts in
        again_is stmts
        ∙ ((λ k. loop_again program stmts k >>= after)
        ∙ (bind_assoc turn (λ _. round body >>= (λ given. round_then given (loop (round body)))) after
        ∙ (λ k. turn >> turn_is stmts k)))

    pub again_turns : (stmts : List Stmt) (left : ℕ) (t : Trace) (s : State) → t.left ≡ suc left → resume program gives (Again stmts ∷ control) Next t s ≡ resume program gives (Rest stmts 0 ∷ Again stmts ∷ control) Next (record t { left = left }) s
    again_turns stmts left t s e = (λ k. again_goes stmts k t s) ∙ turn_goes (resume program gives (Rest stmts 0 ∷ Again stmts ∷ control) Next) left t s e

    pub again_spent : (stmts : List Stmt) (t : Trace) (s : State) → t.left ≡ 0 → resume program gives (Again stmts ∷ control) Next t s ≡ Over TurnsSpent t
    again_spent stmts t s e = (λ k. again_goes stmts k t s) ∙ turn_stops (resume program gives (Rest stmts 0 ∷ Again stmts ∷ control) Next) t s e

    -- counted loops

    module _ (slot : Slot) (from end : ℕ) (stmts : List Stmt) where
      pub rounds_left : (flow onward : Flow) (t : Trace) (s : State) → after_round flow ≡ Some onward → resume program gives (Rounds slot from end stmts ∷ control) flow t s ≡ after onward t s
      unfolding resume
      rounds_left flow onward t s e = left_so (rounds slot (block program stmts) from (end - from)) flow onward t s e

      rounds_are : (count : ℕ) (t : Trace) (s : State) → end - from ≡ count → resume program gives (Rounds slot from end stmts ∷ control) Next t s ≡ (rounds slot (block program stmts) from count >>= after) t s
      unfolding resume
      rounds_are count t s e = ap (λ count. (rounds slot (block program stmts) from count >>= after) t s) e

      pub rounds_end : (t : Trace) (s : State) → end - from ≡ 0 → resume program gives (Rounds slot from end stmts ∷ control) Next t s ≡ after Next t (with_held slot (pos from) s)
      rounds_end t s e = rounds_are 0 t s e

      -- the statements, and then the rounds from the next count on
      abbrev going_round : ℕ → Act State ℤ
      going_round next = block program stmts >>= (λ flow. round_then (after_round flow) (rounds slot (block program stmts) next (end - (from + 1))) >>= after)

      round_block : resume program gives (Rest stmts 0 ∷ Rounds slot (from + 1) end stmts ∷ control) Next ≡ going_round (from + 1)
      unfolding resume
      round_block = refl

      pub rounds_go : (t : Trace) (s : State) → end - from ≡ suc (end - (from + 1)) → resume program gives (Rounds slot from end stmts ∷ control) Next t s ≡ resume program gives (Rest stmts 0 ∷ Rounds slot (from + 1) end stmts ∷ control) Next t (with_held slot (pos from) s)
      rounds_go t s e =
          rounds_are (suc (end - (from + 1))) t s e
          ∙ ((λ k. bind_assoc (block program stmts) (λ flow. round_then (after_round flow) (rounds slot (block program stmts) (suc from) (end - (from + 1)))) after k t (with_held slot (pos from) s))
          ∙ ((λ k. going_round (sym (add-one from) k) t (with_held slot (pos from) s))
          ∙ (λ k. sym round_block k t (with_held slot (pos from) s))))

    -- a statement, and then what the control says
    abbrev pub first : Stmt → Act State ℤ
    first stmt = meaning stmt (called program) >>= after

    pub undefined_stops : (t : Trace) (s : State) → first stmt.Undefined t s ≡ Over (Stuck (owner_of s.frames)) t
    undefined_stops t s = λ k. step_then (layer.undefined_is (called program) k t s) after

    pub halt_stops : (kind file line : ℕ) (t : Trace) (s : State) → first (stmt.Halt kind file line) t s ≡ Over (run.Halt kind file line) t
    halt_stops kind file line t s = λ k. step_then (layer.halt_is (called program) kind file line k t s) after

    -- a loop, and the end of one

    pub loop_goes : (stmts : List Stmt) (t : Trace) (s : State) → first (stmt.Loop stmts) t s ≡ resume program gives (Again stmts ∷ control) Next t s
    unfolding resume
    loop_goes stmts t s = λ k. step_then (layer.loop_is (called program) stmts k t s) after

    count_is : (slot : Slot) (count : ℕ) (stmts : List Stmt) (declared : Bool) (t : Trace) (s : State) → is_declared slot ≡ declared → first (stmt.Count slot count stmts) t s ≡ (choose declared (rounds slot (block program stmts) 0 count) stuck >>= after) t s
    count_is slot count stmts declared t s d =
        (λ k. step_then (layer.count_is (called program) slot count stmts k t s) after) ∙ ap (λ b. (choose b (rounds slot (block program stmts) 0 count) stuck >>= after) t s) d

    pub count_undeclared : (slot : Slot) (count : ℕ) (stmts : List Stmt) (t : Trace) (s : State) → is_declared slot ≡ false → first (stmt.Count slot count stmts) t s ≡ Over (Stuck (owner_of s.frames)) t
    count_undeclared slot count stmts t s d = count_is slot count stmts false t s d

    pub count_goes : (slot : Slot) (count : ℕ) (stmts : List Stmt) (t : Trace) (s : State) → is_declared slot ≡ true → first (stmt.Count slot count stmts) t s ≡ resume program gives (Rounds slot 0 count stmts ∷ control) Next t s
    unfolding resume
    count_goes slot count stmts t s d =
        let all : count ≡ count - 0 = omega arith in
        count_is slot count stmts true t s d ∙ ap (λ count. (rounds slot (block program stmts) 0 count >>= after) t s) all

    pub break_goes : (t : Trace) (s : State) → first stmt.Break t s ≡ after Broke t s
    break_goes t s = λ k. step_then (layer.break_is (called program) k t s) after

    -- a byte of the input

    get_is : (slot : Slot) (declared : Bool) (t : Trace) (s : State) → is_declared slot ≡ declared → first (stmt.Get slot) t s ≡ (choose declared (get_to slot >> pure Next) stuck >>= after) t s
    get_is slot declared t s d =
        (λ k. step_then (layer.get_is (called program) slot k t s) after) ∙ ap (λ b. (choose b (get_to slot >> pure Next) stuck >>= after) t s) d

    pub get_undeclared : (slot : Slot) (t : Trace) (s : State) → is_declared slot ≡ false → first (stmt.Get slot) t s ≡ Over (Stuck (owner_of s.frames)) t
    get_undeclared slot t s d = get_is slot false t s d

    pub get_goes : (slot : Slot) (t : Trace) (s : State) → is_declared slot ≡ true
        → first (stmt.Get slot) t s ≡ after Next (record t { events = t.events ++ Asks ∷ []; rest = rest_of t.rest }) (with_held slot (gotten (first_of t.rest)) s)
    get_goes slot t s d = get_is slot true t s d

    -- an assignment

    assign_is : (slot : Slot) (e : Expr) (declared : Bool) (v : Option Word) (t : Trace) (s : State) → is_declared slot ≡ declared → value e s ≡ v → first (stmt.Assign slot e) t s ≡ (choose declared (with_some v (λ x. write slot x.number) >> pure Next) stuck >>= after) t s
    assign_is slot e declared v t s d h =
        (λ k. step_then (layer.assign_is (called program) slot e k t s) after)
        ∙ (ap (λ b. (choose b (with_value (value e) (λ x. write slot x.number) >> pure Next) stuck >>= after) t s) d
        ∙ stored declared)
      where
        stored : (declared : Bool) → (choose declared (with_value (value e) (λ x. write slot x.number) >> pure Next) stuck >>= after) t s ≡ (choose declared (with_some v (λ x. write slot x.number) >> pure Next) stuck >>= after) t s
        stored true = ap (λ (v : Option Word). ((with_some v (λ x. write slot x.number) >> pure Next) >>= after) t s) h
        stored false = refl

    pub assign_goes : (slot : Slot) (e : Expr) (x : Word) (t : Trace) (s : State) → is_declared slot ≡ true → value e s ≡ Some x → first (stmt.Assign slot e) t s ≡ after Next t (with_held slot x.number s)
    assign_goes slot e x t s d h = assign_is slot e true (Some x) t s d h

    pub assign_unvalued : (slot : Slot) (e : Expr) (t : Trace) (s : State) → is_declared slot ≡ true → value e s ≡ None → first (stmt.Assign slot e) t s ≡ Over (Stuck (owner_of s.frames)) t
    assign_unvalued slot e t s d h = assign_is slot e true None t s d h

    pub assign_undeclared : (slot : Slot) (e : Expr) (t : Trace) (s : State) → is_declared slot ≡ false → first (stmt.Assign slot e) t s ≡ Over (Stuck (owner_of s.frames)) t
    assign_undeclared slot e t s d = assign_is slot e false (value e s) t s d refl

    -- a byte that is put

    put_is : (e : Expr) (v : Option Word) (t : Trace) (s : State) → value e s ≡ v → first (stmt.Put e) t s ≡ (with_some v (λ x. put_number x.number) >>= after) t s
    put_is e v t s h =
        (λ k. step_then (layer.put_is (called program) e k t s) after)
        ∙ ap (λ (v : Option Word). (with_some v (λ x. put_number x.number) >>= after) t s) h

    pub put_unvalued : (e : Expr) (t : Trace) (s : State) → value e s ≡ None → first (stmt.Put e) t s ≡ Over (Stuck (owner_of s.frames)) t
    put_unvalued e t s h = put_is e None t s h

    put_number_is : (e : Expr) (x : Word) (n : ℤ) (t : Trace) (s : State) → value e s ≡ Some x → x.number ≡ n → first (stmt.Put e) t s ≡ (put_number n >>= after) t s
    put_number_is e x n t s h i = put_is e (Some x) t s h ∙ ap (λ n. (put_number n >>= after) t s) i

    pub put_goes : (e : Expr) (x : Word) (byte : ℕ) (t : Trace) (s : State) → value e s ≡ Some x → x.number ≡ pos byte → nat_le byte 255 ≡ true → first (stmt.Put e) t s ≡ after Next (record t { events = t.events ++ Puts byte ∷ [] }) s
    put_goes e x byte t s h i le =
        put_number_is e x (pos byte) t s h i
        ∙ ap (λ b. (choose b (put byte >> pure Next) stuck >>= after) t s) le

    pub put_no_byte : (e : Expr) (x : Word) (t : Trace) (s : State) → value e s ≡ Some x → ((byte : ℕ) → x.number ≡ pos byte → nat_le byte 255 ≡ false) → first (stmt.Put e) t s ≡ Over (Stuck (owner_of s.frames)) t
    put_no_byte e x t s h never = put_is e (Some x) t s h ∙ at x.number never
      where
        at : (n : ℤ) → ((byte : ℕ) → n ≡ pos byte → nat_le byte 255 ≡ false) → (put_number n >>= after) t s ≡ Over (Stuck (owner_of s.frames)) t
        at (pos byte) never = ap (λ b. (choose b (put byte >> pure Next) stuck >>= after) t s) (never byte refl)
        at (negsuc below) never = refl

    -- one of two blocks

    if_is : (test : Expr) (chosen other : List Stmt) (v : Option Word) (t : Trace) (s : State) → value test s ≡ v
        → first (stmt.If test chosen other) t s ≡ (with_some v (λ x. choose (not (is_zero x.number)) (in_order (map meaning chosen) (called program)) (in_order (map meaning other) (called program))) >>= after) t s
    if_is test chosen other v t s h =
        (λ k. step_then (layer.if_is (called program) test chosen other k t s) after)
        ∙ ap (λ (v : Option Word). (with_some v (λ x. choose (not (is_zero x.number)) (in_order (map meaning chosen) (called program)) (in_order (map meaning other) (called program))) >>= after) t s) h

    pub if_unvalued : (test : Expr) (chosen other : List Stmt) (t : Trace) (s : State) → value test s ≡ None → first (stmt.If test chosen other) t s ≡ Over (Stuck (owner_of s.frames)) t
    if_unvalued test chosen other t s h = if_is test chosen other None t s h

    chosen_goes : (b : Bool) (chosen other block : List Stmt) (t : Trace) (s : State) → (if b then chosen else other) ≡ block → (choose b (in_order (map meaning chosen) (called program)) (in_order (map meaning other) (called program)) >>= after) t s ≡ resume program gives (Rest block 0 ∷ control) Next t s
    chosen_goes true chosen other block t s e = ap (λ (block : List Stmt). (in_order (map meaning block) (called program) >>= after) t s) e ∙ sym (λ k. block_goes block 0 k t s)
    chosen_goes false chosen other block t s e = ap (λ (block : List Stmt). (in_order (map meaning block) (called program) >>= after) t s) e ∙ sym (λ k. block_goes block 0 k t s)

    pub if_goes : (test : Expr) (chosen other block : List Stmt) (x : Word) (t : Trace) (s : State) → value test s ≡ Some x → (if not (is_zero x.number) then chosen else other) ≡ block → first (stmt.If test chosen other) t s ≡ resume program gives (Rest block 0 ∷ control) Next t s
    if_goes test chosen other block x t s h e = if_is test chosen other (Some x) t s h ∙ chosen_goes (not (is_zero x.number)) chosen other block t s e

    -- a return

    pub return_goes : (t : Trace) (s : State) → first (stmt.Return None) t s ≡ after (Returned None) t s
    return_goes t s = λ k. step_then (layer.return_is (called program) None k t s) after

    return_is : (e : Expr) (v : Option Word) (t : Trace) (s : State) → value e s ≡ v → first (stmt.Return (Some e)) t s ≡ (with_some v (λ x. pure (Returned (Some x.number))) >>= after) t s
    return_is e v t s h =
        (λ k. step_then (layer.return_is (called program) (Some e) k t s) after)
        ∙ ap (λ (v : Option Word). (with_some v (λ x. pure (Returned (Some x.number))) >>= after) t s) h

    pub return_with_goes : (e : Expr) (x : Word) (t : Trace) (s : State) → value e s ≡ Some x → first (stmt.Return (Some e)) t s ≡ after (Returned (Some x.number)) t s
    return_with_goes e x t s h = return_is e (Some x) t s h

    pub return_unvalued : (e : Expr) (t : Trace) (s : State) → value e s ≡ None → first (stmt.Return (Some e)) t s ≡ Over (Stuck (owner_of s.frames)) t
    return_unvalued e t s h = return_is e None t s h

    -- calls

    -- a call that is done, and then its end
    abbrev pub then_back : Option Slot → Act State (Option ℤ) → Act State ℤ
    then_back target call = call >>= store_result target >> pure Next >>= after

    ready_at : (target : Option Slot) (declared : Bool) (arguments ready_arguments : Option (List ℤ)) (call : List ℤ → Act State (Option ℤ)) (t : Trace) (s : State) → (if declared then arguments else None) ≡ ready_arguments
        → (choose declared (with_some arguments call >>= store_result target >> pure Next) stuck >>= after) t s ≡ then_back target (with_some ready_arguments call) t s
    ready_at target true arguments ready_arguments call t s e = ap (λ (v : Option (List ℤ)). then_back target (with_some v call) t s) e
    ready_at target false arguments ready_arguments call t s e = ap (λ (v : Option (List ℤ)). then_back target (with_some v call) t s) e

    call_to_is : (target : Option Slot) (arguments : List Expr) (ready_arguments : Option (List ℤ)) (call : List ℤ → Act State (Option ℤ)) (t : Trace) (s : State) → ready target arguments s ≡ ready_arguments
        → (call_to target arguments call >>= after) t s ≡ then_back target (with_some ready_arguments call) t s
    call_to_is target arguments ready_arguments call t s e = opened (has_target target) ∙ ready_at target (has_target target) (numbers arguments s) ready_arguments call t s e
      where
        opened : (declared : Bool) → (choose declared (with_value (numbers arguments) call >>= store_result target >> pure Next) stuck >>= after) t s ≡ (choose declared (with_some (numbers arguments s) call >>= store_result target >> pure Next) stuck >>= after) t s
        opened true = refl
        opened false = refl

    pub call_unready : (target : Option Slot) (arguments : List Expr) (function : ℕ) (t : Trace) (s : State) → ready target arguments s ≡ None → first (stmt.Call target arguments function) t s ≡ Over (Stuck (owner_of s.frames)) t
    call_unready target arguments function t s e =
        (λ k. step_then (layer.call_is (called program) target arguments function k t s) after) ∙ call_to_is target arguments None (called program function) t s e

    call_turns_to : (target : Option Slot) (arguments : List Expr) (function : ℕ) (ns : List ℤ) (left : ℕ) (t : Trace) (s : State) → ready target arguments s ≡ Some ns → t.left ≡ left
        → first (stmt.Call target arguments function) t s ≡ step_then (step_then (step_then (step_then (turn_at left t s) (λ _. functions program (called program) function ns)) (store_result target)) (λ _. pure Next)) after
    call_turns_to target arguments function ns left t s e f =
        (λ k. step_then (layer.call_is (called program) target arguments function k t s) after)
        ∙ (call_to_is target arguments (Some ns) (called program function) t s e
        ∙ ((λ k. then_back target (called_is program function ns k) t s)
        ∙ ap (λ left. step_then (step_then (step_then (step_then (turn_at left t s) (λ _. functions program (called program) function ns)) (store_result target)) (λ _. pure Next)) after) f))

    pub call_spent : (target : Option Slot) (arguments : List Expr) (function : ℕ) (ns : List ℤ) (t : Trace) (s : State) → ready target arguments s ≡ Some ns → t.left ≡ 0 → first (stmt.Call target arguments function) t s ≡ Over TurnsSpent t
    call_spent target arguments function ns t s e f = call_turns_to target arguments function ns 0 t s e f

    pub call_turns : (target : Option Slot) (arguments : List Expr) (function : ℕ) (ns : List ℤ) (left : ℕ) (t : Trace) (s : State) → ready target arguments s ≡ Some ns → t.left ≡ suc left
        → first (stmt.Call target arguments function) t s ≡ then_back target (functions program (called program) function ns) (record t { left = left }) s
    call_turns target arguments function ns left t s e f = call_turns_to target arguments function ns (suc left) t s e f

    -- a function begins

    returning : (target : Option Slot) (gives_back : Bool) (x : Step State Flow) → step_then (step_then (step_then (step_then (step_then x (given gives_back)) leave) (store_result target)) (λ _. pure Next)) after ≡ step_then x (resume program gives (Back target gives_back ∷ control))
    unfolding resume
    returning target gives_back (Went flow t s) = refl
    returning target gives_back (Over e t) = refl

    body_goes : (target : Option Slot) (gives_back : Bool) (stmts : List Stmt) (t : Trace) (s : State) → then_back target (body gives_back (map meaning stmts) (called program)) t s ≡ resume program gives (Rest stmts 0 ∷ Back target gives_back ∷ control) Next t s
    unfolding resume
    body_goes target gives_back stmts t s = returning target gives_back (in_order (map meaning stmts) (called program) t s)

    functions_are : (target : Option Slot) (number : ℕ) (ns : List ℤ) (found : Option Function) (t : Trace) (s : State) → slice_get program.functions number ≡ found
        → then_back target (functions program (called program) number ns) t s ≡ then_back target (with_some found (λ function. begin number function.vars ns >> body function.gives (map meaning function.body) (called program))) t s
    functions_are target number ns found t s e = ap (λ (found : Option Function). then_back target (with_some found (λ function. begin number function.vars ns >> body function.gives (map meaning function.body) (called program))) t s) e

    pub enter_missing : (target : Option Slot) (number : ℕ) (ns : List ℤ) (t : Trace) (s : State) → slice_get program.functions number ≡ None → then_back target (functions program (called program) number ns) t s ≡ Over (Stuck (owner_of s.frames)) t
    enter_missing target number ns t s e = functions_are target number ns None t s e

    pub enter_goes : (target : Option Slot) (number : ℕ) (ns : List ℤ) (function : Function) (t : Trace) (s : State) → slice_get program.functions number ≡ Some function
        → then_back target (functions program (called program) number ns) t s ≡ resume program gives (Rest function.body 0 ∷ Back target function.gives ∷ control) Next t (with_frame number function.vars ns s)
    enter_goes target number ns function t s e =
        functions_are target number ns (Some function) t s e ∙ body_goes target function.gives function.body t (with_frame number function.vars ns s)

    -- an inline call

    pub inline_unready : (target : Option Slot) (arguments : List Expr) (vars : ℕ) (gives_back : Bool) (stmts : List Stmt) (t : Trace) (s : State) → ready target arguments s ≡ None
        → first (stmt.Inline target arguments vars gives_back stmts) t s ≡ Over (Stuck (owner_of s.frames)) t
    inline_unready target arguments vars gives_back stmts t s e =
        (λ k. step_then (layer.inline_is (called program) target arguments vars gives_back stmts k t s) after)
        ∙ call_to_is target arguments None (λ numbers. begin_inline vars numbers >> body gives_back (map meaning stmts) (called program)) t s e

    pub inline_goes : (target : Option Slot) (arguments : List Expr) (vars : ℕ) (gives_back : Bool) (stmts : List Stmt) (ns : List ℤ) (t : Trace) (s : State) → ready target arguments s ≡ Some ns
        → first (stmt.Inline target arguments vars gives_back stmts) t s ≡ resume program gives (Rest stmts 0 ∷ Back target gives_back ∷ control) Next t (with_frame (owner_of s.frames) vars ns s)
    inline_goes target arguments vars gives_back stmts ns t s e =
        (λ k. step_then (layer.inline_is (called program) target arguments vars gives_back stmts k t s) after)
        ∙ (call_to_is target arguments (Some ns) (λ numbers. begin_inline vars numbers >> body gives_back (map meaning stmts) (called program)) t s e
        ∙ body_goes target gives_back stmts t (with_frame (owner_of s.frames) vars ns s))
