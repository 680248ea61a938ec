-- The C of a function goes alike with the function, where the calls in them do.
use Rattle.std.proofs.Common.{◌≡◌, ℕ, zero, suc, ◌+◌, ◌^◌, ◌<◌, List, [], ◌++◌, length, Bool, true, false, Option, Some, None, refl, sym, ap, ◌∙◌, subst, arith, map, replicate, if◌then◌else◌}
use Rattle.std.specs.Prelude.{ℤ, slice_get}
use Rattle.std.specs.List.{flat_map}
use Rattle.std.proofs.lemmas.List.{length-append, length-replicate}
use Rattle.sl_run.specs.Run.{Stuck, Trace, Step, Went, Over, Act, pure, step_then, ◌>>=◌, ◌>>◌}
use Rattle.sl_run.specs.Alike.{SameSoFar, AlikeUnless, FollowsUnless, AnyCopies}
use Rattle.sl_run.proofs.Alike.{excused_alike}
use Rattle.sl_run.proofs.Then.{then_assoc}
use Rattle.sl_core.specs.declared.tree.Core.{Core}
use Rattle.sl_core.specs.declared.tree.CoreFun.{CoreFun}
use Rattle.sl_core.specs.Memory as source
use Rattle.sl_core.specs.Memory.{Value, Number}
use Rattle.sl_run.specs.Statements.{Next, Broke, Returned, then_on, in_order}
use Rattle.sl_core.specs.Meaning as means
use Rattle.sl_core.specs.Sound.{stmt_in_range, fits, IsFunction, IsSound, greatest}
use Rattle.c_tree.specs.declared.tree.CFile.{CFile}
use Rattle.c_tree.specs.declared.tree.CFun.{CFun}
use Rattle.c_tree.specs.declared.tree.CStmt.{CStmt}
use Rattle.c_tree.specs.declared.tree.CType.TheVariants.{Int}
use Rattle.c_tree.specs.Bytes.{charge}
use Rattle.c_tree.specs.Memory as c
use Rattle.c_tree.specs.Memory.{Tree, Unwritten}
use Rattle.c_tree.specs.Scope.{scope_of}
use Rattle.c_tree.specs.Rules.{last_is, ends_function}
use Rattle.c_tree.specs.Meaning.{Flow, block, given, begin, leave, in_frame, body, numbered_call, callees, with_some, functions, exit_value}
use Rattle.c_helpers.specs.Functions.{helper_functions}
use Rattle.sl_frames.specs.Names.{variable_name, temporary_name, function_name}
use Rattle.sl_frames.specs.Promise.{HasOneType}
use Rattle.sl_frames.specs.Translated.{stmts_of, needs, named_from, vars_of, of_each, function_of, c_of}
use Rattle.sl_frames.proofs.Keeps.Needs.{body_few}
use Rattle.sl_frames.proofs.Keeps.Tests.{of_all}
use Rattle.sl_frames.proofs.Meaning.Frames.{Beside, memory_with, Where, block_append}
use Rattle.sl_frames.proofs.Meaning.Operations.{Ready}
use Rattle.sl_frames.proofs.Meaning.Related.{Beneath, source_with, HoldsLike, held_in, HoldLike}
use Rattle.sl_frames.proofs.Meaning.Following.{IsStuck, InFrame, ResultLike, FlowLike, AlikeIn, FollowsIn, alike_of}
use Rattle.sl_frames.proofs.Meaning.Following as following
use Rattle.sl_frames.proofs.Meaning.Needs.{all_true, each_at_most}
use Rattle.sl_frames.proofs.Meaning.Statements.{in_order_follows}
use Rattle.sl_frames.proofs.Meaning.Naming.{length_named, variable_named, temporary_named}
use Rattle.sl_frames.proofs.Meaning.Calling.{number_is, function_at, helps}

-- Calls ---------------------------------------------------------------------------------------------------------------

-- two memories, of the core and of the C
pub record Memories : Type 0 where
  pub ours : source.Memory
  pub theirs : c.Memory

-- they are these
abbrev pub These : Memories → source.Memory → c.Memory → Type 0
These memories s r = (s ≡ memories.ours) × (r ≡ memories.theirs)

-- a function of the core, and the number of its C
pub record Started (core : Core) (number other : ℕ) (args : List Tree) : Type 0 where
  pub function : CoreFun
  pub there : slice_get core.functions number ≡ Some function
  pub other_is : other ≡ 7 + number
  pub args_are : args ≡ []

-- calls of the two go alike, and leave memory as it was
abbrev pub CallsAlike : Core → (ℕ → Unit {0} → Act source.Memory Value) → (ℕ → List Tree → Act c.Memory (Option ℤ)) → Type 0
CallsAlike core call call' = (memories : Memories) (f : ℕ) (x : Unit {0}) (g : ℕ) (y : List Tree) → Started core f g y → FollowsUnless IsStuck AnyCopies (These memories) ResultLike (call f x) (call' g y)

module _ (w : Where) (b : Beneath) (variables temporaries : ℕ) where
  -- what leaves memory as it was leaves the frame
  stays_in_frame : (s : source.Memory) (r : c.Memory) (o : InFrame b w.beside variables temporaries s r) (x : Step source.Memory Value) (y : Step c.Memory (Option ℤ))
      → AlikeUnless IsStuck AnyCopies (These (record { ours = s; theirs = r })) ResultLike x y → AlikeIn w b variables temporaries ResultLike x y
  stays_in_frame s r o (Went v t s') (Went g u r') h = (h.0, h.1, record { vars = o.vars; others = o.others; source_is = h.2.0 ∙ o.source_is; c_is = h.2.1 ∙ o.c_is; like = o.like })
  stays_in_frame s r o (Over e t) (Over f u) h = h
  stays_in_frame s r o (Over e t) (Went g u r') h = h
  stays_in_frame s r o (Went v t s') (Over f u) h = absurd h

  -- what a function gives whose body was left so. Where the core's body comes to no return, the core is stuck
  ends_alike : (x : Step source.Memory means.Flow) (y : Step c.Memory Flow) (go : Flow → Act c.Memory (Option ℤ)) → ((g : Option ℤ) (u : Trace) (r : c.Memory) → go (Returned g) u r ≡ Went g u r)
      → AlikeIn w b variables temporaries FlowLike x y → AlikeIn w b variables temporaries ResultLike (step_then x means.given) (step_then y go)
  ends_alike (Went Next t s) (Went Next u r) go gives h = excused_alike IsStuck AnyCopies (InFrame b w.beside variables temporaries) ResultLike (Stuck (source.running s.frames)) t (go Next u r) tt
  ends_alike (Went Broke t s) (Went Broke u r) go gives h = excused_alike IsStuck AnyCopies (InFrame b w.beside variables temporaries) ResultLike (Stuck (source.running s.frames)) t (go Broke u r) tt
  ends_alike (Went (Returned v) t s) (Went (Returned g) u r) go gives h = alike_of w b variables temporaries ResultLike (Went v t s) (Went v t s) (Went g u r) (go (Returned g) u r) refl (gives g u r) h
  ends_alike (Went Next t s) (Went Broke u r) go gives h = absurd h.0
  ends_alike (Went Next t s) (Went (Returned g) u r) go gives h = absurd h.0
  ends_alike (Went Broke t s) (Went Next u r) go gives h = absurd h.0
  ends_alike (Went Broke t s) (Went (Returned g) u r) go gives h = absurd h.0
  ends_alike (Went (Returned v) t s) (Went Next u r) go gives h = absurd h.0
  ends_alike (Went (Returned v) t s) (Went Broke u r) go gives h = absurd h.0
  ends_alike (Over e t) (Over f u) go gives h = h
  ends_alike (Over e t) (Went flow u r) go gives h = excused_alike IsStuck AnyCopies (InFrame b w.beside variables temporaries) ResultLike e t (go flow u r) h
  ends_alike (Went flow t s) (Over f u) go gives h = absurd h

  -- a body, and what its function gives
  body_by : (a : Act source.Memory means.Flow) (stmts : List CStmt) (extra : List CStmt) → FollowsIn w b variables temporaries FlowLike a (block w.scope stmts w.call) → (sure : Bool)
      → FollowsIn w b variables temporaries ResultLike (a >>= means.given) (block w.scope (if sure then stmts else stmts ++ extra) w.call >>= given (Int true 64))
  body_by a stmts extra h true t u s r same o = ends_alike (a t s) (block w.scope stmts w.call u r) (given (Int true 64)) (λ g u r. refl) (h t u s r same o)
  body_by a stmts extra h false t u s r same o =
      alike_of w b variables temporaries ResultLike ((a >>= means.given) t s) ((a >>= means.given) t s) (step_then (block w.scope stmts w.call u r) (λ flow. then_on (block w.scope extra w.call) flow >>= given (Int true 64))) _ refl
      (ap (λ x. step_then x (given (Int true 64))) (block_append w.scope w.call stmts extra u r)
      ∙ then_assoc (block w.scope stmts w.call u r) (then_on (block w.scope extra w.call)) (given (Int true 64)))
      (ends_alike (a t s) (block w.scope stmts w.call u r) (λ flow. then_on (block w.scope extra w.call) flow >>= given (Int true 64)) (λ g u r. refl) (h t u s r same o))

-- the memories below two frames
abbrev pub below : Beneath → Beside → Memories
below b beside = record { ours = record { frames = b.frames }; theirs = record { globals = beside.globals; frames = beside.frames } }

module _ (w : Where) (b : Beneath) (variables temporaries : ℕ) where
  -- when the frames end, memory is what it was
  pub leaves_alike : (x : Step source.Memory Value) (y : Step c.Memory (Option ℤ)) → AlikeIn w b variables temporaries ResultLike x y
      → AlikeUnless IsStuck AnyCopies (These (below b w.beside)) ResultLike (step_then x means.leave) (step_then y leave)
  leaves_alike (Went v t s) (Went g u r) h = (h.0, h.1, (ap source.without_frame h.2.source_is, ap c.without_frame h.2.c_is))
  leaves_alike (Over e t) (Over f u) h = h
  leaves_alike (Over e t) (Went g u r) h = excused_alike IsStuck AnyCopies (These (below b w.beside)) ResultLike e t (leave g u r) h
  leaves_alike (Went v t s) (Over f u) h = absurd h

  -- and so it is where the number that is given is the exit value
  pub exits_alike : (x : Step source.Memory Value) (y : Step c.Memory (Option ℤ)) → AlikeIn w b variables temporaries ResultLike x y
      → AlikeUnless IsStuck AnyCopies (These (below b w.beside)) (λ (v w : ℤ). v ≡ w) (step_then (step_then x means.leave) (λ value. means.with_number value pure)) (step_then (step_then y exit_value) leave)
  exits_alike (Went v t s) (Went g u r) h =
      subst (λ (v : Value). AlikeUnless IsStuck AnyCopies (These (below b w.beside)) (λ (v w : ℤ). v ≡ w) (means.with_number v pure t (source.without_frame s)) (step_then (exit_value g u r) leave)) (sym h.0.value_is)
      (subst (λ (g : Option ℤ). AlikeUnless IsStuck AnyCopies (These (below b w.beside)) (λ (v w : ℤ). v ≡ w) (Went h.0.number t (source.without_frame s)) (step_then (exit_value g u r) leave)) (sym h.0.given_is)
      (refl, h.1, (ap source.without_frame h.2.source_is, ap c.without_frame h.2.c_is)))
  exits_alike (Over e t) (Over f u) h = h
  exits_alike (Over e t) (Went g u r) h = excused_alike IsStuck AnyCopies (These (below b w.beside)) (λ (v w : ℤ). v ≡ w) e t (step_then (exit_value g u r) leave) h
  exits_alike (Went v t s) (Over f u) h = absurd h

-- where two memories are those, what leaves them leaves those
pub these_by : {A B : Type 0} (val : A → B → Type 0) (memories : Memories) (s : source.Memory) (r : c.Memory) → These memories s r → (x : Step source.Memory A) (y : Step c.Memory B)
    → AlikeUnless IsStuck AnyCopies (These (record { ours = s; theirs = r })) val x y → AlikeUnless IsStuck AnyCopies (These memories) val x y
these_by val memories s r o (Went v t s') (Went g u r') h = (h.0, h.1, (h.2.0 ∙ o.0, h.2.1 ∙ o.1))
these_by val memories s r o (Over e t) (Over f u) h = h
these_by val memories s r o (Over e t) (Went g u r') h = h
these_by val memories s r o (Went v t s') (Over f u) h = absurd h

-- Frames --------------------------------------------------------------------------------------------------------------

none_held : (count variable : ℕ) → held_in (replicate count None) variable ≡ None
none_held zero variable = refl
none_held (suc count) zero = refl
none_held (suc count) (suc variable) = none_held count variable

-- when a frame begins, nothing is written
begins_like : (function : CoreFun) → HoldLike (length function.vars) (greatest (map needs function.body)) (replicate (length function.vars) None) (replicate (length (vars_of function)) Unwritten)
begins_like function = record {
  long = length-replicate (length function.vars) None;
  longer = length-replicate (length (vars_of function)) Unwritten ∙ length_of;
  like = λ variable below. subst (λ (value : Option Value). HoldsLike value (slice_get (replicate (length (vars_of function)) Unwritten) variable)) (sym (none_held (length function.vars) variable)) tt;
}
  where
    length_of : length (vars_of function) ≡ length function.vars + greatest (map needs function.body)
    length_of =
        length-append (named_from variable_name 0 (length function.vars)) (named_from temporary_name 0 (greatest (map needs function.body)))
        ∙ (let first = length_named variable_name 0 (length function.vars) in let second = length_named temporary_name 0 (greatest (map needs function.body)) in omega arith)

-- Functions -----------------------------------------------------------------------------------------------------------

module _ (core : Core) (sound : IsSound core) (one : HasOneType core) (call : ℕ → Unit {0} → Act source.Memory Value) (call' : ℕ → List Tree → Act c.Memory (Option ℤ)) (calls : CallsAlike core call call') where
  abbrev file : CFile
  file = c_of core

  functions_are : file.functions ≡ helper_functions ++ of_each (function_of core) 0 core.functions
  unfolding c_of
  functions_are = refl

  module _ (number : ℕ) (function : CoreFun) (there : slice_get core.functions number ≡ Some function) (b : Beneath) (beside : Beside) where
    abbrev variables : ℕ
    variables = length function.vars

    abbrev temporaries : ℕ
    temporaries = greatest (map needs function.body)

    -- where its C runs
    abbrev pub here : Where
    here = record { scope = scope_of file (function_of core number function); call = callees file call'; beside = beside }

    known : IsFunction core function
    known = of_all (IsFunction core) core.functions number function sound.functions there

    ready : Ready here variables temporaries
    ready =
        let few : variables < 10 ^ 64 = (let in_range = known.in_range.vars in omega arith) in
        let few' : temporaries < 10 ^ 64 = (let most = body_few function.body known.depth in omega arith) in
        record {
          variable = variable_named variables temporaries few few' here refl;
          temporary = temporary_named variables temporaries few few' here refl;
          helps = helps core file functions_are call';
        }

    -- a call in it
    called : (callee : ℕ) (other : CoreFun) → slice_get core.functions callee ≡ Some other → FollowsIn here b variables temporaries ResultLike (call callee tt) (callees file call' (function_name core callee other) [])
    called callee other is t u s r same o =
        alike_of here b variables temporaries ResultLike (call callee tt t s) (call callee tt t s) (call' (7 + callee) [] u r) _ refl
        (ap (λ (got : Option ℕ). numbered_call file call' (function_name core callee other) got [] u r) (number_is core file functions_are sound.names callee other is))
        (stays_in_frame here b variables temporaries s r o (call callee tt t s) (call' (7 + callee) [] u r)
        (calls (record { ours = s; theirs = r }) callee tt (7 + callee) [] (record { function = other; there = is; other_is = refl; args_are = refl }) t u s r same (refl, refl)))

    -- its statements, and what it gives
    pub inside_follows : FollowsIn here b variables temporaries ResultLike (in_order (map (means.meaning core) function.body) (λ callee. call callee tt) >>= means.given) (in_frame file (function_of core number function) (callees file call'))
    inside_follows =
        body_by here b variables temporaries (in_order (map (means.meaning core) function.body) (λ callee. call callee tt)) (flat_map (stmts_of core) function.body) _
        (in_order_follows here b variables temporaries ready core one function refl (λ callee. call callee tt) called function.body
        (all_true stmt_in_range function.body known.in_range.body) (all_true (fits core function) function.body known.fit) (each_at_most temporaries (map needs function.body) (omega arith)))
        (last_is (map ends_function (flat_map (stmts_of core) function.body)))

  module _ (number : ℕ) (function : CoreFun) (there : slice_get core.functions number ≡ Some function) (s : source.Memory) (r : c.Memory) (bytes : ℕ) where
    abbrev pub below_ours : Beneath
    below_ours = record { number = number; frames = s.frames }

    abbrev pub below_theirs : Beside
    below_theirs = record { globals = r.globals; owner = 7 + number; bytes = bytes; frames = r.frames }

    -- a function in its frame
    pub inside_alike : (t u : Trace) → SameSoFar AnyCopies t u
        → AlikeIn (here number function there below_ours below_theirs) below_ours (length function.vars) (greatest (map needs function.body)) ResultLike
        ((in_order (map (means.meaning core) function.body) (λ callee. call callee tt) >>= means.given) t (source_with below_ours (replicate (length function.vars) None)))
        (in_frame file (function_of core number function) (callees file call') u (memory_with below_theirs (replicate (length (vars_of function)) Unwritten)))
    inside_alike t u same =
        inside_follows number function there below_ours below_theirs t u _ _ same
        (following.in_frame (here number function there below_ours below_theirs) below_ours (length function.vars) (greatest (map needs function.body)) (replicate (length function.vars) None) (replicate (length (vars_of function)) Unwritten) (begins_like function))

  -- functions go alike, where their calls do
  pub functions_alike : CallsAlike core (means.functions core call) (functions file call')
  functions_alike memories f x g y started t u s r same o =
      let function : CoreFun = started.function in
      let there : slice_get core.functions f ≡ Some function = started.there in
      let bytes : ℕ = charge file (function_of core f function) in
      these_by ResultLike memories s r o (means.functions core call f x t s) (functions file call' g y u r)
      (subst (λ (step : Step source.Memory Value). AlikeUnless IsStuck AnyCopies (These (record { ours = s; theirs = r })) ResultLike step (functions file call' g y u r))
      (sym (ap (λ (got : Option CoreFun). means.with_some got (λ function. means.body core f function (λ callee. call callee tt)) t s) there))
      (subst (λ (step : Step c.Memory (Option ℤ)). AlikeUnless IsStuck AnyCopies (These (record { ours = s; theirs = r })) ResultLike (means.body core f function (λ callee. call callee tt) t s) step)
      (sym (ap (λ (g : ℕ). functions file call' g y u r) started.other_is
      ∙ ap (λ (y : List Tree). functions file call' (7 + f) y u r) started.args_are
      ∙ ap (λ (got : Option CFun). with_some got (λ function. begin (7 + f) (charge file function) function [] >> body file function (callees file call')) u r) (function_at core file functions_are f function there)))
      (leaves_alike (here f function there (below_ours f function there s r bytes) (below_theirs f function there s r bytes)) (below_ours f function there s r bytes) (length function.vars) (greatest (map needs function.body)) _ _
      (inside_alike f function there s r bytes t u same))))
