-- The C of each statement goes alike with the statement.
use Rattle.std.proofs.Common.{◌≡◌, ℕ, ◌<◌, ◌≤◌, List, [], ◌∷◌, ◌++◌, Bool, true, not, ◌&&◌, ◌==◌, Option, Some, None, refl, sym, ap, ◌∙◌, subst, inr, arith, map, max, length, is_some, if◌then◌else◌}
use Rattle.std.specs.Prelude.{ℤ, pos, negsuc, nat_le, slice_get, slice_set, option_map}
use Rattle.std.specs.Fmt.{signed_decimal}
use Rattle.std.specs.List.{list_all, flat_map}
use Rattle.std.specs.Option.{option_and_then}
use Rattle.std.proofs.lemmas.List.{append_assoc, append-nil}
use Rattle.std.proofs.lemmas.Bool.{ltb-true, le-leb}
use Rattle.std.proofs.lemmas.Option.{slice_get_within}
use Rattle.sl_run.specs.Run.{Event, Puts, Asks, Trace, Step, Went, Over, Act, pure, over, step_then, ◌>>=◌, ◌>>◌, choose, put_all, first_of, rest_of, get, loop}
use Rattle.sl_run.specs.Run as run
use Rattle.sl_run.specs.Alike.{AnyCopies}
use Rattle.sl_run.proofs.Alike.{BothGive, bind_follows, choose_follows, pure_follows, loop_follows}
use Rattle.sl_run.proofs.Puts.{put_all_is}
use Rattle.sl_run.proofs.Then.{bind_assoc}
use Rattle.sl_core.specs.declared.tree.Core.{Core}
use Rattle.sl_core.specs.declared.tree.CoreFun.{CoreFun}
use Rattle.sl_core.specs.declared.tree.CorePath.{CorePath}
use Rattle.sl_core.specs.declared.tree.CoreExpr.{CoreExpr}
use Rattle.sl_core.specs.declared.tree.CoreStmt.{CoreStmt, CoreStmt-F, ind-CoreStmt, map-CoreStmt, roll-CoreStmt}
use Rattle.sl_core.specs.declared.tree.CoreStmt.TheOpen as stmt
use Rattle.sl_core.specs.Memory as source
use Rattle.sl_core.specs.Memory.{Value, Number, Bytes}
use Rattle.sl_run.specs.Statements.{Next, Broke, Returned, then_on, after_round, gotten, in_order}
use Rattle.sl_core.specs.Meaning as means
use Rattle.sl_core.specs.Meaning.{root_of, store, with_number, is_true, printed_form, evaluate}
use Rattle.sl_core.specs.Sound.{type_has, is_number, is_number_of, type_of_place, kind_of, result_fits, call_fits, fits_step, fits, expr_in_range, stmt_range_step, stmt_in_range, greatest}
use Rattle.sl_core.proofs.Layers as source_layers
use Rattle.c_tree.specs.declared.tree.CExpr.{CExpr}
use Rattle.c_tree.specs.declared.tree.CStmt.{CStmt}
use Rattle.c_tree.specs.declared.tree.CStmt.TheVariants.{Assign, Call, If, Loop, Break, Return, Get}
use Rattle.c_tree.specs.Memory as c
use Rattle.c_tree.specs.Memory.{Tree}
use Rattle.c_tree.specs.Meaning.{Flow, is_zero, write_number, store_result, evaluate as c_evaluate, meaning, block}
use Rattle.c_tree.proofs.Running.{const_runs, call_runs, call_to_runs, if_runs, if_else_runs, loop_runs, break_runs, return_runs, put_runs, get_runs, halt_runs}
use Rattle.sl_frames.specs.Translated.{code_of, put_byte, print, with_value, text_of, put_code, else_of, joined, stmts_step, stmts_of, needs_step, needs}
use Rattle.sl_frames.specs.Names.{variable_name, place_of, function_name, called_name}
use Rattle.sl_frames.specs.Promise.{HasOneType}
use Rattle.sl_frames.proofs.Layers.{stmts_layer, needs_layer}
use Rattle.sl_frames.proofs.Meaning.Frames.{memory_with, pointer_to, Where, block_append, makes_assigned, located_here, write_here}
use Rattle.sl_frames.proofs.Meaning.Operations.{Ready}
use Rattle.sl_frames.proofs.Meaning.Related.{Beneath, source_with, like_stored}
use Rattle.std.proofs.lemmas.Bool.{and_parts}
use Rattle.sl_core.proofs.Layers.{fits_layer, stmt_range_layer}
use Rattle.sl_frames.proofs.Keeps.Tests.{place_is}
use Rattle.sl_frames.proofs.Meaning.Kinds.{IsNumeric, of_type, first_numeric, gotten_fits, some_if}
use Rattle.sl_frames.proofs.Meaning.Expressions.{Good}
use Rattle.sl_frames.proofs.Meaning.Evaluating.{evaluated}
use Rattle.sl_frames.proofs.Meaning.Following.{IsStuck, InFrame, ResultLike, FlowLike, FollowsIn, Uses, alike_of, from_frames, in_frame, then_next, value_follows}
use Rattle.sl_frames.proofs.Meaning.Needs.{is_byte, EachTrue, EachAtMost, each_true, each_at_most, Printed, IsNumber, IsText, printed_as}

-- an `if` whose other block may be left out
if_else_of : (w : Where) (test : CExpr) (chosen other : List CStmt) (t : Trace) (memory : c.Memory)
    → meaning w.scope (If test chosen (else_of other)) w.call t memory ≡ (c_evaluate w.scope test >>= (λ x. choose (not (is_zero x.number)) (block w.scope chosen w.call) (block w.scope other w.call))) t memory
if_else_of w test chosen [] t memory = if_runs w.scope w.call test chosen t memory
if_else_of w test chosen (s ∷ stmts) t memory = if_else_runs w.scope w.call test chosen (s ∷ stmts) t memory

puts_byte : (w : Where) (byte : ℕ) → is_byte byte ≡ true → (t : Trace) (memory : c.Memory) → meaning w.scope (put_byte byte) w.call t memory ≡ Went Next (record t { events = t.events ++ Puts byte ∷ [] }) memory
puts_byte w byte h t memory =
    let less : byte < 256 = ltb-true byte 256 h in
    let small : nat_le byte 255 ≡ true = le-leb byte 255 (omega arith) in
    simp (put_runs, const_runs, small)

-- a text is put byte by byte
puts_bytes : (w : Where) (bytes : List ℕ) → list_all is_byte bytes ≡ true → (t : Trace) (memory : c.Memory)
    → block w.scope (map put_byte bytes) w.call t memory ≡ Went Next (record t { events = t.events ++ map Puts bytes }) memory
puts_bytes w [] h t memory = ap (λ es. Went Next (record t { events = es }) memory) (sym (append-nil t.events))
puts_bytes w (byte ∷ bytes) h t memory =
    let parts = and_parts (is_byte byte) (list_all is_byte bytes) h in
    ap (λ x. step_then x (then_on (block w.scope (map put_byte bytes) w.call))) (puts_byte w byte parts.0 t memory)
    ∙ puts_bytes w bytes parts.1 (record t { events = t.events ++ Puts byte ∷ [] }) memory
    ∙ ap (λ es. Went Next (record t { events = es }) memory) (append_assoc t.events (Puts byte ∷ []) (map Puts bytes))

module _ (w : Where) (b : Beneath) (variables temporaries : ℕ) (ready : Ready w variables temporaries) (core : Core) (one : HasOneType core) (function : CoreFun) (many : length function.vars ≡ variables) where
  good_of : (e : CoreExpr) → Good w b variables temporaries ready (evaluate core e) (code_of e) (IsNumeric (kind_of core function e))
  good_of e = evaluated w b variables temporaries ready core one function many e

  -- an expression, and what is done with its number
  uses_number : {A : Type 0} (val : A → Flow → Type 0) (e : CoreExpr) (go : Value → Act source.Memory A) (s : CExpr → CStmt) → IsNumeric (kind_of core function e) → (code_of e 0).free ≤ temporaries
      → Uses w b variables temporaries val (s (code_of e 0).value) go (code_of e 0) → FollowsIn w b variables temporaries val (evaluate core e >>= go) (block w.scope (with_value e s) w.call)
  uses_number val e go s numeric room uses =
      value_follows w b variables temporaries val (evaluate core e) (code_of e 0) go (s (code_of e 0).value) uses 0 (λ vars others like. (good_of e).good numeric 0 vars others like room)

  -- what comes behind a statement
  then_follows : (flow : means.Flow) (flow' : Flow) (go : Act source.Memory means.Flow) (go' : Act c.Memory Flow) → FlowLike flow flow' → FollowsIn w b variables temporaries FlowLike go go' → FollowsIn w b variables temporaries FlowLike (then_on go flow) (then_on go' flow')
  then_follows Next Next go go' e h = h
  then_follows Broke Broke go go' e h = pure_follows IsStuck AnyCopies (InFrame b w.beside variables temporaries) FlowLike Broke Broke e
  then_follows (Returned value) (Returned given) go go' e h = pure_follows IsStuck AnyCopies (InFrame b w.beside variables temporaries) FlowLike (Returned value) (Returned given) e
  then_follows Next Broke go go' e h = absurd e
  then_follows Next (Returned given) go go' e h = absurd e
  then_follows Broke Next go go' e h = absurd e
  then_follows Broke (Returned given) go go' e h = absurd e
  then_follows (Returned value) Next go go' e h = absurd e
  then_follows (Returned value) Broke go go' e h = absurd e

  -- what rounds give that were left so
  rounds_give : (flow : means.Flow) (flow' : Flow) → FlowLike flow flow' → BothGive FlowLike (after_round flow) (after_round flow')
  rounds_give Next Next e = tt
  rounds_give Broke Broke e = tt
  rounds_give (Returned value) (Returned given) e = e
  rounds_give Next Broke e = absurd e
  rounds_give Next (Returned given) e = absurd e
  rounds_give Broke Next e = absurd e
  rounds_give Broke (Returned given) e = absurd e
  rounds_give (Returned value) Next e = absurd e
  rounds_give (Returned value) Broke e = absurd e

  -- a loop of statements that go alike
  rounds_follow : (a : Act source.Memory means.Flow) (stmts : List CStmt) → FollowsIn w b variables temporaries FlowLike a (block w.scope stmts w.call)
      → FollowsIn w b variables temporaries FlowLike (loop (a >>= (λ flow. pure (after_round flow)))) (block w.scope (Loop stmts ∷ []) w.call)
  rounds_follow a stmts h t u s r same o =
      let round = a >>= (λ flow. pure (after_round flow)) in
      let round' = block w.scope stmts w.call >>= (λ flow. pure (after_round flow)) in
      alike_of w b variables temporaries FlowLike (loop round t s) _ (loop round' u r) _ refl
      (ap (λ x. step_then x (then_on (pure Next))) (loop_runs w.scope w.call stmts u r) ∙ then_next (loop round' u r))
      (loop_follows IsStuck AnyCopies (InFrame b w.beside variables temporaries) FlowLike round round'
      (bind_follows IsStuck AnyCopies (InFrame b w.beside variables temporaries) FlowLike (BothGive FlowLike) a (block w.scope stmts w.call) (λ flow. pure (after_round flow)) (λ flow. pure (after_round flow)) h
      (λ flow flow' e. pure_follows IsStuck AnyCopies (InFrame b w.beside variables temporaries) (BothGive FlowLike) (after_round flow) (after_round flow') (rounds_give flow flow' e)))
      t u s r same o)

  break_follows : FollowsIn w b variables temporaries FlowLike (pure Broke) (block w.scope (Break ∷ []) w.call)
  break_follows t u s r same o =
      alike_of w b variables temporaries FlowLike (Went Broke t s) _ (Went Broke u r) _ refl (ap (λ x. step_then x (then_on (pure Next))) (break_runs w.scope w.call u r)) (tt, same, o)

  -- the next byte of the input, which is stored
  get_follows : (path : CorePath) → root_of path.root < variables
      → FollowsIn w b variables temporaries FlowLike (get >>= (λ byte. store path (Number (gotten byte))) >> pure Next) (block w.scope (Get (place_of path) ∷ []) w.call)
  get_follows path there =
      from_frames w b variables temporaries FlowLike (get >>= (λ byte. store path (Number (gotten byte))) >> pure Next) (block w.scope (Get (place_of path) ∷ []) w.call)
      (λ t u vars others same like.
      let root : ℕ = root_of path.root in
      let number : ℤ = gotten (first_of t.rest) in
      let given : ℤ = gotten (first_of u.rest) in
      let asked : Trace = record t { events = t.events ++ Asks ∷ []; rest = rest_of t.rest } in
      let asked' : Trace = record u { events = u.events ++ Asks ∷ []; rest = rest_of u.rest } in
      let same_number : given ≡ number = ap (λ rest. gotten (first_of rest)) (sym same.rest) in
      alike_of w b variables temporaries FlowLike
      (Went Next asked (source_with b (slice_set vars root (Some (Number number))))) _
      (Went Next asked' (memory_with w.beside (slice_set others root (c.Number number)))) _
      refl
      (ap (λ x. step_then x (then_on (pure Next))) (get_runs w.scope w.call (place_of path) u (memory_with w.beside others))
      ∙ ap (λ (x : Step c.Memory c.Pointer). step_then (step_then (step_then x (λ pointer. get >>= (λ byte. write_number pointer (gotten byte)))) (λ _. pure Next)) (then_on (pure Next))) (located_here w (variable_name root) root (ready.variable root there) others u)
      ∙ ap (λ (x : Step c.Memory (Unit {0})). step_then (step_then x (λ _. pure Next)) (then_on (pure Next))) (write_here w.beside others root given asked')
      ∙ ap (λ (number : ℤ). Went Next asked' (memory_with w.beside (slice_set others root (c.Number number)))) same_number)
      (tt, record { events = ap (λ es. es ++ Asks ∷ []) same.events; rest = ap rest_of same.rest; left = same.left; made = tt }, in_frame w b variables temporaries _ _ (like_stored variables temporaries vars others like root there number (gotten_fits (first_of t.rest)))))

  store_uses : (path : CorePath) (e : CoreExpr) → root_of path.root < variables → Uses w b variables temporaries FlowLike (Assign (place_of path) (code_of e 0).value) (λ value. store path value >> pure Next) (code_of e 0)
  store_uses path e there number vars others like fits value t u same =
      let root : ℕ = root_of path.root in
      let stored : List (Option Value) = slice_set vars root (Some (Number number)) in
      let after : List Tree = slice_set others root (c.Number number) in
      let makes = makes_assigned w (variable_name root) root (ready.variable root there) others (code_of e 0).value number value in
      alike_of w b variables temporaries FlowLike (Went Next t (source_with b stored)) _ (Went Next u (memory_with w.beside after)) _ refl (makes.makes u)
      (tt, same, in_frame w b variables temporaries stored after (like_stored variables temporaries vars others like root there number fits))

  return_uses : (e : CoreExpr) → Uses w b variables temporaries FlowLike (Return (Some (code_of e 0).value)) (λ value. pure (Returned value)) (code_of e 0)
  return_uses e number vars others like fits value t u same =
      alike_of w b variables temporaries FlowLike (Went (Returned (Number number)) t (source_with b vars)) _ (Went (Returned (Some number)) u (memory_with w.beside others)) _ refl
      (return_runs w.scope w.call (code_of e 0).value u (memory_with w.beside others) ∙ ap (λ x. step_then x (λ x. pure (Returned (Some x.number)))) (value.has u))
      (record { number = number; value_is = refl; given_is = refl; fits = fits }, same, in_frame w b variables temporaries vars others like)

  print_uses : (e : CoreExpr) → Uses w b variables temporaries FlowLike (print (code_of e 0).value) (λ value. put_all (printed_form value) >> pure Next) (code_of e 0)
  print_uses e number vars others like fits value t u same =
      let digits : List Event = map Puts (signed_decimal number) in
      alike_of w b variables temporaries FlowLike (Went Next (record t { events = t.events ++ digits }) (source_with b vars)) _ (Went Next (record u { events = u.events ++ digits }) (memory_with w.beside others)) _
      (ap (λ x. step_then x (λ _. pure Next)) (put_all_is (signed_decimal number) t (source_with b vars)))
      (printed_by u)
      (tt, record { events = ap (λ es. es ++ digits) same.events; rest = same.rest; left = same.left; made = tt }, in_frame w b variables temporaries vars others like)
    where
      printed_by : (u : Trace) → meaning w.scope (print (code_of e 0).value) w.call u (memory_with w.beside others) ≡ Went Next (record u { events = u.events ++ map Puts (signed_decimal number) }) (memory_with w.beside others)
      printed_by u = simp (call_runs, value.has, ready.helps.print number fits)

  text_puts : (a : Act source.Memory Value) (bytes : List ℕ) → a ≡ pure (Bytes bytes) → list_all is_byte bytes ≡ true → FollowsIn w b variables temporaries FlowLike (a >>= (λ value. put_all (printed_form value)) >> pure Next) (block w.scope (map put_byte bytes) w.call)
  text_puts a bytes is h =
      subst (λ (a : Act source.Memory Value). FollowsIn w b variables temporaries FlowLike (a >>= (λ value. put_all (printed_form value)) >> pure Next) (block w.scope (map put_byte bytes) w.call)) (sym is)
      (λ t u s r same o.
      alike_of w b variables temporaries FlowLike (Went Next (record t { events = t.events ++ map Puts bytes }) s) _ (Went Next (record u { events = u.events ++ map Puts bytes }) r) _
      (ap (λ x. step_then x (λ _. pure Next)) (put_all_is bytes t s))
      (puts_bytes w bytes h u r)
      (tt, record { events = ap (λ es. es ++ map Puts bytes) same.events; rest = same.rest; left = same.left; made = tt }, o))

  -- what is printed
  put_by : (e : CoreExpr) → Printed (evaluate core e) (kind_of core function e) (text_of e) → (code_of e 0).free ≤ temporaries → FollowsIn w b variables temporaries FlowLike (evaluate core e >>= (λ value. put_all (printed_form value)) >> pure Next) (block w.scope (put_code (text_of e) e) w.call)
  put_by e (IsNumber numeric none) room =
      subst (λ (text : Option (List ℕ)). FollowsIn w b variables temporaries FlowLike (evaluate core e >>= (λ value. put_all (printed_form value)) >> pure Next) (block w.scope (put_code text e) w.call)) (sym none)
      (subst (λ (a : Act source.Memory means.Flow). FollowsIn w b variables temporaries FlowLike a (block w.scope (with_value e print) w.call)) (sym (bind_assoc (evaluate core e) (λ value. put_all (printed_form value)) (λ _. pure Next)))
      (uses_number FlowLike e (λ value. put_all (printed_form value) >> pure Next) print numeric room (print_uses e)))
  put_by e (IsText bytes pure_bytes some bytes_are) room =
      subst (λ (text : Option (List ℕ)). FollowsIn w b variables temporaries FlowLike (evaluate core e >>= (λ value. put_all (printed_form value)) >> pure Next) (block w.scope (put_code text e) w.call)) (sym some)
      (text_puts (evaluate core e) bytes pure_bytes bytes_are)

  if_uses : (test : CoreExpr) (chosen other : Act source.Memory means.Flow) (chosen' other' : List CStmt)
      → FollowsIn w b variables temporaries FlowLike chosen (block w.scope chosen' w.call) → FollowsIn w b variables temporaries FlowLike other (block w.scope other' w.call)
      → Uses w b variables temporaries FlowLike (If (code_of test 0).value chosen' (else_of other')) (λ value. with_number value (λ number. choose (is_true number) chosen other)) (code_of test 0)
  if_uses test chosen other chosen' other' h k number vars others like fits value t u same =
      alike_of w b variables temporaries FlowLike (choose (is_true number) chosen other t (source_with b vars)) _ (choose (not (is_zero number)) (block w.scope chosen' w.call) (block w.scope other' w.call) u (memory_with w.beside others)) _ refl
      (if_else_of w (code_of test 0).value chosen' other' u (memory_with w.beside others) ∙ ap (λ x. step_then x (λ x. choose (not (is_zero x.number)) (block w.scope chosen' w.call) (block w.scope other' w.call))) (value.has u))
      (choose_follows IsStuck AnyCopies (InFrame b w.beside variables temporaries) FlowLike (is_true number) (not (is_zero number)) chosen other (block w.scope chosen' w.call) (block w.scope other' w.call) refl h k t u _ _ same (in_frame w b variables temporaries vars others like))

  module _ (call : means.Callees) (called : (number : ℕ) (callee : CoreFun) → slice_get core.functions number ≡ Some callee → FollowsIn w b variables temporaries ResultLike (call number) (w.call (function_name core number callee) [])) where
    -- a result that is stored
    result_stored : (path : CorePath) → root_of path.root < variables → (value : Value) (given : Option ℤ) → ResultLike value given
        → FollowsIn w b variables temporaries FlowLike (means.store_result (Some path) value >> pure Next) (store_result (pointer_to w.beside (root_of path.root)) given >> pure Next)
    result_stored path there value given e =
        from_frames w b variables temporaries FlowLike (means.store_result (Some path) value >> pure Next) (store_result (pointer_to w.beside (root_of path.root)) given >> pure Next)
        (λ t u vars others same like.
        alike_of w b variables temporaries FlowLike
        (Went Next t (source_with b (slice_set vars (root_of path.root) (Some (Number e.number))))) _
        (Went Next u (memory_with w.beside (slice_set others (root_of path.root) (c.Number e.number)))) _
        (ap (λ (value : Value). (means.store_result (Some path) value >> pure Next) t (source_with b vars)) e.value_is)
        (ap (λ (given : Option ℤ). (store_result (pointer_to w.beside (root_of path.root)) given >> pure Next) u (memory_with w.beside others)) e.given_is
        ∙ ap (λ (x : Step c.Memory (Unit {0})). step_then x (λ _. pure Next)) (write_here w.beside others (root_of path.root) e.number u))
        (tt, same, in_frame w b variables temporaries _ _ (like_stored variables temporaries vars others like (root_of path.root) there e.number e.fits)))

    -- calls whose results are dropped, or stored
    call_dropped : (number : ℕ) (callee : CoreFun) → slice_get core.functions number ≡ Some callee
        → FollowsIn w b variables temporaries FlowLike (call number >>= means.store_result None >> pure Next) (block w.scope (Call None (function_name core number callee) [] ∷ []) w.call)
    call_dropped number callee is t u s r same o =
        let name : List ℕ = function_name core number callee in
        alike_of w b variables temporaries FlowLike ((call number >>= (λ value. means.store_result None value >> pure Next)) t s) _ ((w.call name [] >>= (λ given. pure Next)) u r) _
        (ap (λ (a : Act source.Memory means.Flow). a t s) (bind_assoc (call number) (means.store_result None) (λ _. pure Next)))
        (ap (λ x. step_then x (then_on (pure Next))) (call_runs w.scope w.call name [] u r) ∙ then_next ((w.call name [] >>= (λ given. pure Next)) u r))
        (bind_follows IsStuck AnyCopies (InFrame b w.beside variables temporaries) ResultLike FlowLike (call number) (w.call name []) (λ value. means.store_result None value >> pure Next) (λ given. pure Next) (called number callee is)
        (λ value given e. pure_follows IsStuck AnyCopies (InFrame b w.beside variables temporaries) FlowLike Next Next tt) t u s r same o)

    call_stored : (path : CorePath) → root_of path.root < variables → (number : ℕ) (callee : CoreFun) → slice_get core.functions number ≡ Some callee
        → FollowsIn w b variables temporaries FlowLike (call number >>= means.store_result (Some path) >> pure Next) (block w.scope (Call (Some (place_of path)) (function_name core number callee) [] ∷ []) w.call)
    call_stored path there number callee is =
        let name : List ℕ = function_name core number callee in
        let root : ℕ = root_of path.root in
        from_frames w b variables temporaries FlowLike (call number >>= means.store_result (Some path) >> pure Next) (block w.scope (Call (Some (place_of path)) name [] ∷ []) w.call)
        (λ t u vars others same like.
        let here : c.Memory = memory_with w.beside others in
        alike_of w b variables temporaries FlowLike ((call number >>= (λ value. means.store_result (Some path) value >> pure Next)) t (source_with b vars)) _ ((w.call name [] >>= (λ given. store_result (pointer_to w.beside root) given >> pure Next)) u here) _
        (ap (λ (a : Act source.Memory means.Flow). a t (source_with b vars)) (bind_assoc (call number) (means.store_result (Some path)) (λ _. pure Next)))
        (ap (λ x. step_then x (then_on (pure Next))) (call_to_runs w.scope w.call (place_of path) name [] u here)
        ∙ then_next _
        ∙ ap (λ (x : Step c.Memory c.Pointer). step_then (step_then x (λ pointer. w.call name [] >>= store_result pointer)) (λ _. pure Next)) (located_here w (variable_name root) root (ready.variable root there) others u)
        ∙ ap (λ (a : Act c.Memory Flow). a u here) (bind_assoc (w.call name []) (store_result (pointer_to w.beside root)) (λ _. pure Next)))
        (bind_follows IsStuck AnyCopies (InFrame b w.beside variables temporaries) ResultLike FlowLike (call number) (w.call name []) (λ value. means.store_result (Some path) value >> pure Next) (λ given. store_result (pointer_to w.beside root) given >> pure Next) (called number callee is)
        (result_stored path there) t u (source_with b vars) here same (in_frame w b variables temporaries vars others like)))

    call_follows : (target : Option CorePath) (number : ℕ) → call_fits core function target number ≡ true
        → FollowsIn w b variables temporaries FlowLike (call number >>= means.store_result target >> pure Next) (block w.scope (Call (option_map place_of target) (called_name core number (slice_get core.functions number)) [] ∷ []) w.call)
    call_follows target number h =
        let tests = and_parts (not (number == core.entry)) (is_some (option_and_then (λ callee. if result_fits function target callee.result then Some callee else None) (slice_get core.functions number))) h in
        let there = some_if (λ callee. result_fits function target callee.result) (slice_get core.functions number) tests.1 in
        subst (λ (got : Option CoreFun). FollowsIn w b variables temporaries FlowLike (call number >>= means.store_result target >> pure Next) (block w.scope (Call (option_map place_of target) (called_name core number got) [] ∷ []) w.call)) (sym there.1)
        (by target there.0 there.1 there.2)
      where
        by : (target : Option CorePath) (callee : CoreFun) → slice_get core.functions number ≡ Some callee → result_fits function target callee.result ≡ true
            → FollowsIn w b variables temporaries FlowLike (call number >>= means.store_result target >> pure Next) (block w.scope (Call (option_map place_of target) (function_name core number callee) [] ∷ []) w.call)
        by None callee is fit = call_dropped number callee is
        by (Some path) callee is fit = call_stored path (subst (λ (count : ℕ). root_of path.root < count) many (place_is function path callee.result fit)) number callee is

    -- Statements --------------------------------------------------------------------------------------------------------

    abbrev GoesAs : means.Meaning → List CStmt → Bool → Bool → ℕ → Type 0
    GoesAs m stmts in_range fit need = in_range ≡ true → fit ≡ true → need ≤ temporaries → FollowsIn w b variables temporaries FlowLike (m call) (block w.scope stmts w.call)

    abbrev Goes : CoreStmt → Type 0
    Goes s = GoesAs (means.meaning core s) (stmts_of core s) (stmt_in_range s) (fits core function s) (needs s)

    abbrev Known : Type 0
    Known = (s : CoreStmt) × Goes s

    abbrev stmt_of : Known → CoreStmt
    stmt_of known = known.0

    via : (x : CoreStmt-F CoreStmt)
        → GoesAs (means.stmt_step core (map-CoreStmt CoreStmt means.Meaning (means.meaning core) x)) (stmts_step core (map-CoreStmt CoreStmt (List CStmt) (stmts_of core) x)) (stmt_range_step (map-CoreStmt CoreStmt Bool stmt_in_range x)) (fits_step core function (map-CoreStmt CoreStmt Bool (fits core function) x)) (needs_step (map-CoreStmt CoreStmt ℕ needs x))
        → Goes (roll-CoreStmt x)
    via x h =
        let m = means.stmt_step core (map-CoreStmt CoreStmt means.Meaning (means.meaning core) x) in
        let stmts = stmts_step core (map-CoreStmt CoreStmt (List CStmt) (stmts_of core) x) in
        let in_range = stmt_range_step (map-CoreStmt CoreStmt Bool stmt_in_range x) in
        let fit = fits_step core function (map-CoreStmt CoreStmt Bool (fits core function) x) in
        subst (λ (m : means.Meaning). GoesAs m (stmts_of core (roll-CoreStmt x)) (stmt_in_range (roll-CoreStmt x)) (fits core function (roll-CoreStmt x)) (needs (roll-CoreStmt x))) (sym (source_layers.meaning_layer core x))
        (subst (λ (stmts : List CStmt). GoesAs m stmts (stmt_in_range (roll-CoreStmt x)) (fits core function (roll-CoreStmt x)) (needs (roll-CoreStmt x))) (sym (stmts_layer core x))
        (subst (λ (in_range : Bool). GoesAs m stmts in_range (fits core function (roll-CoreStmt x)) (needs (roll-CoreStmt x))) (sym (stmt_range_layer x))
        (subst (λ (fit : Bool). GoesAs m stmts in_range fit (needs (roll-CoreStmt x))) (sym (fits_layer core function x))
        (subst (λ (need : ℕ). GoesAs m stmts in_range fit need) (sym (needs_layer x)) h))))

    -- one statement and then others
    one_more : (s : CoreStmt) (rest : Act source.Memory means.Flow) (stmts : List CStmt) → FollowsIn w b variables temporaries FlowLike (means.meaning core s call) (block w.scope (stmts_of core s) w.call) → FollowsIn w b variables temporaries FlowLike rest (block w.scope stmts w.call)
        → FollowsIn w b variables temporaries FlowLike (means.meaning core s call >>= then_on rest) (block w.scope (stmts_of core s ++ stmts) w.call)
    one_more s rest stmts h k t u q r same o =
        alike_of w b variables temporaries FlowLike ((means.meaning core s call >>= then_on rest) t q) _ ((block w.scope (stmts_of core s) w.call >>= then_on (block w.scope stmts w.call)) u r) _ refl
        (block_append w.scope w.call (stmts_of core s) stmts u r)
        (bind_follows IsStuck AnyCopies (InFrame b w.beside variables temporaries) FlowLike FlowLike (means.meaning core s call) (block w.scope (stmts_of core s) w.call) (then_on rest) (then_on (block w.scope stmts w.call)) h
        (λ flow flow' e. then_follows flow flow' rest (block w.scope stmts w.call) e k) t u q r same o)

    all_go : (ks : List Known) → EachTrue (map stmt_in_range (map stmt_of ks)) → EachTrue (map (fits core function) (map stmt_of ks)) → EachAtMost temporaries (map needs (map stmt_of ks))
        → FollowsIn w b variables temporaries FlowLike (in_order (map (means.meaning core) (map stmt_of ks)) call) (block w.scope (joined (map (stmts_of core) (map stmt_of ks))) w.call)
    all_go [] in_range fit room = pure_follows IsStuck AnyCopies (InFrame b w.beside variables temporaries) FlowLike Next Next tt
    all_go (k ∷ ks) in_range fit room = one_more k.0 (in_order (map (means.meaning core) (map stmt_of ks)) call) (joined (map (stmts_of core) (map stmt_of ks))) (k.1 in_range.0 fit.0 room.0) (all_go ks in_range.1 fit.1 room.1)

    abbrev all_fit : List Known → Bool
    all_fit ks = list_all (λ fits. fits) (map (fits core function) (map stmt_of ks))

    abbrev all_in_range : List Known → Bool
    all_in_range ks = list_all (λ fits. fits) (map stmt_in_range (map stmt_of ks))

    abbrev need_of : List Known → ℕ
    need_of ks = greatest (map needs (map stmt_of ks))

    room_of : (first second third : ℕ) → max first (max second third) ≤ temporaries → (first ≤ temporaries) × (second ≤ temporaries) × (third ≤ temporaries)
    room_of first second third h = (omega arith, omega arith, omega arith)

    if_goes : (test : CoreExpr) (chosen other : List Known) → is_number (kind_of core function test) ≡ true → (code_of test 0).free ≤ temporaries
        → FollowsIn w b variables temporaries FlowLike (in_order (map (means.meaning core) (map stmt_of chosen)) call) (block w.scope (joined (map (stmts_of core) (map stmt_of chosen))) w.call)
        → FollowsIn w b variables temporaries FlowLike (in_order (map (means.meaning core) (map stmt_of other)) call) (block w.scope (joined (map (stmts_of core) (map stmt_of other))) w.call)
        → FollowsIn w b variables temporaries FlowLike (means.stmt_step core (stmt.If test (map (means.meaning core) (map stmt_of chosen)) (map (means.meaning core) (map stmt_of other))) call) (block w.scope (stmts_step core (stmt.If test (map (stmts_of core) (map stmt_of chosen)) (map (stmts_of core) (map stmt_of other)))) w.call)
    if_goes test chosen other numeric room h k =
        uses_number FlowLike test (λ value. with_number value (λ number. choose (is_true number) (in_order (map (means.meaning core) (map stmt_of chosen)) call) (in_order (map (means.meaning core) (map stmt_of other)) call)))
        (λ value. If value (joined (map (stmts_of core) (map stmt_of chosen))) (else_of (joined (map (stmts_of core) (map stmt_of other)))))
        (first_numeric (kind_of core function test) (kind_of core function test) numeric) room
        (if_uses test _ _ _ _ h k)

    layer : (y : CoreStmt-F Known) → Goes (roll-CoreStmt (map-CoreStmt Known CoreStmt stmt_of y))
    layer (stmt.Store path e) =
        via (stmt.Store path e) (λ in_range fit room.
        let there = some_if (λ type. is_number_of type (kind_of core function e)) (type_of_place function path) fit in
        subst (λ (a : Act source.Memory means.Flow). FollowsIn w b variables temporaries FlowLike a (block w.scope (with_value e (Assign (place_of path))) w.call)) (sym (bind_assoc (evaluate core e) (store path) (λ _. pure Next)))
        (uses_number FlowLike e (λ value. store path value >> pure Next) (Assign (place_of path)) (of_type there.0 (kind_of core function e) there.2) room
        (store_uses path e (subst (λ (count : ℕ). root_of path.root < count) many (slice_get_within function.vars (root_of path.root) there.0 there.1)))))
    layer (stmt.If test chosen other) =
        via (stmt.If test (map stmt_of chosen) (map stmt_of other)) (λ in_range fit room.
        let tests = and_parts (is_number (kind_of core function test) && all_fit chosen) (all_fit other) fit in
        let first = and_parts (is_number (kind_of core function test)) (all_fit chosen) tests.0 in
        let ranges = and_parts (expr_in_range test && all_in_range chosen) (all_in_range other) in_range in
        let first_range = and_parts (expr_in_range test) (all_in_range chosen) ranges.0 in
        let parts = room_of ((code_of test 0).free) (need_of chosen) (need_of other) room in
        if_goes test chosen other first.0 parts.0
        (all_go chosen (each_true (map stmt_in_range (map stmt_of chosen)) first_range.1) (each_true (map (fits core function) (map stmt_of chosen)) first.1) (each_at_most temporaries (map needs (map stmt_of chosen)) parts.1))
        (all_go other (each_true (map stmt_in_range (map stmt_of other)) ranges.1) (each_true (map (fits core function) (map stmt_of other)) tests.1) (each_at_most temporaries (map needs (map stmt_of other)) parts.2)))
    layer (stmt.Loop stmts) =
        via (stmt.Loop (map stmt_of stmts)) (λ in_range fit room.
        rounds_follow (in_order (map (means.meaning core) (map stmt_of stmts)) call) (joined (map (stmts_of core) (map stmt_of stmts)))
        (all_go stmts (each_true (map stmt_in_range (map stmt_of stmts)) in_range) (each_true (map (fits core function) (map stmt_of stmts)) fit) (each_at_most temporaries (map needs (map stmt_of stmts)) room)))
    layer stmt.Break = via stmt.Break (λ in_range fit room. break_follows)
    layer (stmt.Call target number) = via (stmt.Call target number) (λ in_range fit room. call_follows target number fit)
    layer (stmt.Put e) = via (stmt.Put e) (λ in_range fit room. put_by e (printed_as core function e in_range fit) room)
    layer (stmt.Get path) =
        via (stmt.Get path) (λ in_range fit room.
        let there = some_if (λ type. type_has core type (negsuc 0) && type_has core type (pos 255)) (type_of_place function path) fit in
        get_follows path (subst (λ (count : ℕ). root_of path.root < count) many (slice_get_within function.vars (root_of path.root) there.0 there.1)))
    layer (stmt.Halt kind file line) = via (stmt.Halt kind file line) (λ in_range fit room t u s r same o.
        alike_of w b variables temporaries FlowLike (Over (run.Halt kind file line) t) _ (Over (run.Halt kind file line) u) _ refl
        (ap (λ x. step_then x (then_on (pure Next))) (halt_runs w.scope w.call kind file line u r)) (inr (refl, same)))
    layer (stmt.Return e) = via (stmt.Return e) (λ in_range fit room. uses_number FlowLike e (λ value. pure (Returned value)) (λ value. Return (Some value)) (of_type function.result (kind_of core function e) fit) room (return_uses e))

    -- the C of a statement
    goes : (s : CoreStmt) → Goes s
    goes s = ind-CoreStmt Goes (λ x y same. subst (λ z. Goes (roll-CoreStmt z)) same (layer y)) s

    -- the C of statements in order
    pub in_order_follows : (stmts : List CoreStmt) → EachTrue (map stmt_in_range stmts) → EachTrue (map (fits core function) stmts) → EachAtMost temporaries (map needs stmts)
        → FollowsIn w b variables temporaries FlowLike (in_order (map (means.meaning core) stmts) call) (block w.scope (flat_map (stmts_of core) stmts) w.call)
    in_order_follows [] in_range fit room = pure_follows IsStuck AnyCopies (InFrame b w.beside variables temporaries) FlowLike Next Next tt
    in_order_follows (s ∷ stmts) in_range fit room = one_more s (in_order (map (means.meaning core) stmts) call) (flat_map (stmts_of core) stmts) (goes s in_range.0 fit.0 room.0) (in_order_follows stmts in_range.1 fit.1 room.1)
