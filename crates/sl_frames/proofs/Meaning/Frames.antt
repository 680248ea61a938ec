-- What C expressions and statements do in a frame.
use Rattle.std.proofs.Common.{◌≡◌, ℕ, List, [], ◌∷◌, ◌++◌, length, Bool, true, Some, refl, ap, ◌∙◌, eq-eqb}
use Rattle.std.specs.Prelude.{ℤ, slice_get, slice_set}
use Rattle.sl_run.specs.Run.{Trace, Step, Went, Over, step_then, pure}
use Rattle.sl_run.specs.Run as run
use Rattle.c_tree.specs.declared.tree.CArg.TheVariants.{Value}
use Rattle.c_tree.specs.declared.tree.CExpr.{CExpr}
use Rattle.c_tree.specs.declared.tree.CExpr.TheVariants.{Read}
use Rattle.c_tree.specs.declared.tree.CPlace.TheVariants.{Name}
use Rattle.c_tree.specs.declared.tree.CStmt.{CStmt}
use Rattle.c_tree.specs.declared.tree.CStmt.TheVariants.{Assign, Call}
use Rattle.c_tree.specs.Scope.{Scope, number_named}
use Rattle.c_tree.specs.Memory.{FrameAt, Pointer, Tree, Number, Frame, Memory}
use Rattle.sl_run.specs.Statements.{Next, Broke, Returned, then_on}
use Rattle.c_tree.specs.Meaning.{Flow, Callees, Word, place_is_signed, located, read_number, write_number, evaluate, meaning, block}
use Rattle.c_tree.proofs.Running.{read_runs, assign_runs, call_to_runs}

-- what is beside the variables of the last frame
pub record Beside : Type 0 where
  pub globals : List Tree
  pub owner : ℕ
  pub bytes : ℕ
  pub frames : List Frame

-- memory whose last frame has these variables
abbrev pub memory_with : Beside → List Tree → Memory
memory_with beside vars = record { globals = beside.globals; frames = record { owner = beside.owner; bytes = beside.bytes; vars = vars } ∷ beside.frames }

-- a number with a sign
abbrev pub word : ℤ → Word
word number = record { signed = true; number = number }

-- where a variable of the last frame is
abbrev pub pointer_to : Beside → ℕ → Pointer
pointer_to beside variable = record { frame = FrameAt (length beside.frames); variable = variable; path = [] }

-- where C runs: what names mean, what calls do, and what is beside the variables
pub record Where : Type 0 where
  pub scope : Scope
  pub call : Callees
  pub beside : Beside

-- an expression has this number where the variables are these, and changes nothing
pub record Has (w : Where) (vars : List Tree) (e : CExpr) (number : ℤ) : Type 0 where
  pub has : (t : Trace) → evaluate w.scope e t (memory_with w.beside vars) ≡ Went (word number) t (memory_with w.beside vars)

-- a statement changes the variables to these, and is left by the next one
pub record Makes (w : Where) (s : CStmt) (vars after : List Tree) : Type 0 where
  pub makes : (t : Trace) → meaning w.scope s w.call t (memory_with w.beside vars) ≡ Went Next t (memory_with w.beside after)

-- so do statements
pub record Does (w : Where) (stmts : List CStmt) (vars after : List Tree) : Type 0 where
  pub does : (t : Trace) → block w.scope stmts w.call t (memory_with w.beside vars) ≡ Went Next t (memory_with w.beside after)

-- statements halt
pub record Halts (w : Where) (stmts : List CStmt) (vars : List Tree) (kind file line : ℕ) : Type 0 where
  pub halts : (t : Trace) → block w.scope stmts w.call t (memory_with w.beside vars) ≡ Over (run.Halt kind file line) t

-- Statements in order -------------------------------------------------------------------------------------------------

module _ (scope : Scope) (call : Callees) where
  append_step : (xs ys : List CStmt) (x : Step Memory Flow)
      → ((t : Trace) (memory : Memory) → block scope (xs ++ ys) call t memory ≡ step_then (block scope xs call t memory) (then_on (block scope ys call)))
      → step_then x (then_on (block scope (xs ++ ys) call)) ≡ step_then (step_then x (then_on (block scope xs call))) (then_on (block scope ys call))
  append_step xs ys (Went Next t memory) h = h t memory
  append_step xs ys (Went Broke t memory) h = refl
  append_step xs ys (Went (Returned value) t memory) h = refl
  append_step xs ys (Over e t) h = refl

  -- a block behind another
  pub block_append : (xs ys : List CStmt) (t : Trace) (memory : Memory) → block scope (xs ++ ys) call t memory ≡ step_then (block scope xs call t memory) (then_on (block scope ys call))
  block_append [] ys t memory = refl
  block_append (x ∷ xs) ys t memory = append_step xs ys (meaning scope x call t memory) (block_append xs ys)

module _ (w : Where) where
  pub does_none : (vars : List Tree) → Does w [] vars vars
  does_none vars = record { does = λ t. refl }

  pub does_one : (s : CStmt) (stmts : List CStmt) (vars between after : List Tree) → Makes w s vars between → Does w stmts between after → Does w (s ∷ stmts) vars after
  does_one s stmts vars between after first others = record { does = λ t. simp (first.makes, others.does) }

  pub does_then : (xs ys : List CStmt) (vars between after : List Tree) → Does w xs vars between → Does w ys between after → Does w (xs ++ ys) vars after
  does_then xs ys vars between after first second = record { does = λ t. simp (block_append, first.does, second.does) }

  pub does_halts : (xs ys : List CStmt) (vars between : List Tree) (kind file line : ℕ) → Does w xs vars between → Halts w ys between kind file line → Halts w (xs ++ ys) vars kind file line
  does_halts xs ys vars between kind file line first second = record { halts = λ t. simp (block_append, first.does, second.halts) }

  pub halts_then : (xs ys : List CStmt) (vars : List Tree) (kind file line : ℕ) → Halts w xs vars kind file line → Halts w (xs ++ ys) vars kind file line
  halts_then xs ys vars kind file line first = record { halts = λ t. simp (block_append, first.halts) }

  pub makes_halts : (s : CStmt) (stmts : List CStmt) (vars between : List Tree) (kind file line : ℕ) → Makes w s vars between → Halts w stmts between kind file line → Halts w (s ∷ stmts) vars kind file line
  makes_halts s stmts vars between kind file line first others = record { halts = λ t. simp (first.makes, others.halts) }

-- Places --------------------------------------------------------------------------------------------------------------

-- the variable with this number has this name, and holds numbers with a sign
pub record Named (w : Where) (name : List ℕ) (variable : ℕ) : Type 0 where
  pub named : number_named w.scope.locals name ≡ Some variable
  pub signed : place_is_signed w.scope (Name name) ≡ true

module _ (beside : Beside) (vars : List Tree) (variable : ℕ) where
  read_here : (number : ℤ) → slice_get vars variable ≡ Some (Number number) → (t : Trace) → read_number (pointer_to beside variable) t (memory_with beside vars) ≡ Went number t (memory_with beside vars)
  read_here number is t = simp (eq-eqb (length beside.frames) (length beside.frames) refl, is)

  pub write_here : (number : ℤ) (t : Trace) → write_number (pointer_to beside variable) number t (memory_with beside vars) ≡ Went tt t (memory_with beside (slice_set vars variable (Number number)))
  write_here number t = simp (eq-eqb (length beside.frames) (length beside.frames) refl)

module _ (w : Where) (name : List ℕ) (variable : ℕ) (is : Named w name variable) (vars : List Tree) where
  pub located_here : (t : Trace) → located w.scope (Name name) t (memory_with w.beside vars) ≡ Went (pointer_to w.beside variable) t (memory_with w.beside vars)
  located_here t = simp is.named

  -- what a variable holds
  pub has_variable : (number : ℤ) → slice_get vars variable ≡ Some (Number number) → Has w vars (Read (Name name)) number
  has_variable number there = record {
    has = λ t.
        read_runs w.scope (Name name) t (memory_with w.beside vars)
        ∙ ap (λ (x : Step Memory Pointer). step_then (step_then x read_number) (λ (number : ℤ). pure (record { signed = place_is_signed w.scope (Name name); number = number }))) (located_here t)
        ∙ ap (λ (x : Step Memory ℤ). step_then x (λ (number : ℤ). pure (record { signed = place_is_signed w.scope (Name name); number = number }))) (read_here w.beside vars variable number there t)
        ∙ ap (λ (signed : Bool). Went (record { signed = signed; number = number }) t (memory_with w.beside vars)) is.signed;
  }

  -- an assignment
  pub makes_assigned : (e : CExpr) (number : ℤ) → Has w vars e number → Makes w (Assign (Name name) e) vars (slice_set vars variable (Number number))
  makes_assigned e number value = record { makes = λ t. simp (assign_runs, is.named, value.has) (ap (λ (x : Step Memory (Unit {0})). step_then x (λ _. pure Next)) (write_here w.beside vars variable number t)) }

  -- a call that gives a number of two numbers
  pub makes_called : (helper : List ℕ) (l r : CExpr) (a b number : ℤ) → Has w vars l a → Has w vars r b
      → ((t : Trace) (memory : Memory) → w.call helper (Number a ∷ Number b ∷ []) t memory ≡ Went (Some number) t memory)
      → Makes w (Call (Some (Name name)) helper (Value l ∷ Value r ∷ [])) vars (slice_set vars variable (Number number))
  makes_called helper l r a b number left right given = record { makes = λ t. simp (call_to_runs, is.named, left.has, right.has, given) (ap (λ (x : Step Memory (Unit {0})). step_then x (λ _. pure Next)) (write_here w.beside vars variable number t)) }
