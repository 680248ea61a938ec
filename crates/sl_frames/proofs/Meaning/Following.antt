-- The C of a function goes alike with the function, where the core isn't stuck: how states, results and the ways of leaving a
-- statement are related, and what is done with the number of an expression.
use Rattle.std.proofs.Common.{◌≡◌, ℕ, ◌+◌, List, [], ◌∷◌, ◌++◌, true, Option, Some, refl, sym, ap, ◌∙◌, subst, inr}
use Rattle.std.specs.Prelude.{ℤ}
use Rattle.sl_run.specs.Run.{Ending, Stuck, Done, TurnsSpent, StackSpent, Trace, Step, Went, Over, Act, pure, step_then, ◌>>=◌}
use Rattle.sl_run.specs.Run as run
use Rattle.sl_run.specs.Alike.{SameSoFar, AlikeUnless, FollowsUnless, AnyCopies}
use Rattle.sl_run.proofs.Alike.{excused_alike}
use Rattle.sl_core.specs.Memory as source
use Rattle.sl_core.specs.Memory.{Value, Number, Bytes}
use Rattle.sl_run.specs.Statements.{Next, Broke, Returned, then_on}
use Rattle.sl_core.specs.Meaning as means
use Rattle.c_tree.specs.declared.tree.CStmt.{CStmt}
use Rattle.c_tree.specs.Memory as c
use Rattle.c_tree.specs.Memory.{Tree}
use Rattle.c_tree.specs.Meaning.{Flow, is_int64, meaning, block}
use Rattle.sl_frames.specs.Translated.{Code}
use Rattle.sl_frames.proofs.Meaning.Frames.{Beside, memory_with, Where, Has, block_append}
use Rattle.sl_core.proofs.Slots.{same_below}
use Rattle.sl_frames.proofs.Meaning.Related.{Beneath, source_with, HoldLike, like_below}
use Rattle.sl_frames.proofs.Meaning.Expressions.{Evaluated, Gave, Halting, Sticks}

-- the run is stuck
abbrev pub IsStuck : Ending → Type 0
IsStuck (Done value) = ⊥
IsStuck (run.Halt kind file line) = ⊥
IsStuck TurnsSpent = ⊥
IsStuck StackSpent = ⊥
IsStuck (Stuck function) = Unit {0}

-- both are in a frame of one function, whose variables hold the same
pub record InFrame (b : Beneath) (beside : Beside) (variables temporaries : ℕ) (s : source.Memory) (r : c.Memory) : Type 0 where
  pub vars : List (Option Value)
  pub others : List Tree
  pub source_is : s ≡ source_with b vars
  pub c_is : r ≡ memory_with beside others
  pub like : HoldLike variables temporaries vars others

-- a number of 64 bits, and it is what C gives
pub record ResultLike (value : Value) (given : Option ℤ) : Type 0 where
  pub number : ℤ
  pub value_is : value ≡ Number number
  pub given_is : given ≡ Some number
  pub fits : is_int64 number ≡ true

-- both are left by the next statement or by a break, or return the same number
abbrev pub FlowLike : means.Flow → Flow → Type 0
FlowLike Next Next = Unit {0}
FlowLike Broke Broke = Unit {0}
FlowLike (Returned value) (Returned given) = ResultLike value given
FlowLike Next Broke = ⊥
FlowLike Next (Returned given) = ⊥
FlowLike Broke Next = ⊥
FlowLike Broke (Returned given) = ⊥
FlowLike (Returned value) Next = ⊥
FlowLike (Returned value) Broke = ⊥

-- nothing comes behind the last statement
pub then_next : (x : Step c.Memory Flow) → step_then x (then_on (pure Next)) ≡ x
then_next (Went Next t memory) = refl
then_next (Went Broke t memory) = refl
then_next (Went (Returned given) t memory) = refl
then_next (Over e t) = refl

module _ (w : Where) (b : Beneath) (variables temporaries : ℕ) where
  -- steps of the two that ended alike
  abbrev pub AlikeIn : {A B : Type 0} → (A → B → Type 0) → Step source.Memory A → Step c.Memory B → Type 0
  AlikeIn val x y = AlikeUnless IsStuck AnyCopies (InFrame b w.beside variables temporaries) val x y

  -- parts of the two that go alike
  abbrev pub FollowsIn : {A B : Type 0} → (A → B → Type 0) → Act source.Memory A → Act c.Memory B → Type 0
  FollowsIn val a a' = FollowsUnless IsStuck AnyCopies (InFrame b w.beside variables temporaries) val a a'

  -- steps that are those that ended alike
  pub alike_of : {A B : Type 0} (val : A → B → Type 0) (x x' : Step source.Memory A) (y y' : Step c.Memory B) → x' ≡ x → y' ≡ y → AlikeIn val x y → AlikeIn val x' y'
  alike_of val x x' y y' p q h = subst (λ x. AlikeIn val x y') (sym p) (subst (λ y. AlikeIn val x y) (sym q) h)

  -- parts that go alike from each state of a frame go alike
  pub from_frames : {A B : Type 0} (val : A → B → Type 0) (a : Act source.Memory A) (a' : Act c.Memory B)
      → ((t u : Trace) (vars : List (Option Value)) (others : List Tree) → SameSoFar AnyCopies t u → HoldLike variables temporaries vars others → AlikeIn val (a t (source_with b vars)) (a' u (memory_with w.beside others)))
      → FollowsIn val a a'
  from_frames val a a' h t u s r same o =
      alike_of val (a t (source_with b o.vars)) (a t s) (a' u (memory_with w.beside o.others)) (a' u r) (ap (a t) o.source_is) (ap (a' u) o.c_is) (h t u o.vars o.others same o.like)

  pub in_frame : (vars : List (Option Value)) (others : List Tree) → HoldLike variables temporaries vars others → InFrame b w.beside variables temporaries (source_with b vars) (memory_with w.beside others)
  in_frame vars others like = record { vars = vars; others = others; source_is = refl; c_is = refl; like = like }

  -- what is done with the number of an expression, in both
  abbrev pub Uses : {A : Type 0} → (A → Flow → Type 0) → CStmt → (Value → Act source.Memory A) → Code → Type 0
  Uses {A} val s go code =
      (number : ℤ) (vars : List (Option Value)) (others : List Tree) → HoldLike variables temporaries vars others → is_int64 number ≡ true → Has w others code.value number
      → (t u : Trace) → SameSoFar AnyCopies t u → AlikeIn val (go (Number number) t (source_with b vars)) (meaning w.scope s w.call u (memory_with w.beside others))

  module _ {A : Type 0} (val : A → Flow → Type 0) (a : Act source.Memory Value) (code : Code) (go : Value → Act source.Memory A) (s : CStmt) (uses : Uses val s go code) where
    used : (free : ℕ) (t u : Trace) (vars : List (Option Value)) (others : List Tree) → SameSoFar AnyCopies t u → HoldLike variables temporaries vars others → Evaluated w b variables a code free vars others
        → AlikeIn val ((a >>= go) t (source_with b vars)) (block w.scope (code.before ++ s ∷ []) w.call u (memory_with w.beside others))
    used free t u vars others same like (Gave number after gives fits does below stays) =
        alike_of val _ _ _ _ (ap (λ x. step_then x go) (gives.gives t))
        (block_append w.scope w.call code.before (s ∷ []) u (memory_with w.beside others)
        ∙ ap (λ x. step_then x (then_on (block w.scope (s ∷ []) w.call))) (does.does u)
        ∙ then_next (meaning w.scope s w.call u (memory_with w.beside after)))
        (uses number vars after (like_below variables temporaries free vars others after like below) fits (stays.stays after (same_below (variables + code.free) after)) t u same)
    used free t u vars others same like (Halting kind file line ends halts) =
        alike_of val (Over (run.Halt kind file line) t) _ (Over (run.Halt kind file line) u) _ (ap (λ x. step_then x go) (ends.ends t))
        (block_append w.scope w.call code.before (s ∷ []) u (memory_with w.beside others) ∙ ap (λ x. step_then x (then_on (block w.scope (s ∷ []) w.call))) (halts.halts u))
        (inr (refl, same))
    used free t u vars others same like (Sticks ends) =
        alike_of val (Over (Stuck b.number) t) _ _ _ (ap (λ x. step_then x go) (ends.ends t)) refl
        (excused_alike IsStuck AnyCopies (InFrame b w.beside variables temporaries) val (Stuck b.number) t _ tt)

    -- the number of an expression is computed, and something is done with it
    pub value_follows : (free : ℕ) → ((vars : List (Option Value)) (others : List Tree) → HoldLike variables temporaries vars others → Evaluated w b variables a code free vars others) → FollowsIn val (a >>= go) (block w.scope (code.before ++ s ∷ []) w.call)
    value_follows free evaluated =
        from_frames val (a >>= go) (block w.scope (code.before ++ s ∷ []) w.call) (λ t u vars others same like. used free t u vars others same like (evaluated vars others like))
