-- What expressions and statements do in the frame of an inline function.
use Rattle.std.proofs.Common.{◌≡◌, ℕ, List, [], ◌∷◌, Bool, true, false, Some, refl, eq-eqb, codes, length}
use Rattle.std.specs.Prelude.{ℤ, pos, negsuc, ◌+ℤ◌, ◌-ℤ◌, int_div, int_rem}
use Rattle.sl_num.specs.declared.comparing.Comparison.{Comparison}
use Rattle.sl_num.specs.Comparing.{holds, truth}
use Rattle.sl_run.specs.Run.{Trace, Went}
use Rattle.c_tree.specs.declared.tree.CBinary.TheVariants.{Add, Sub, Div, Rem}
use Rattle.c_tree.specs.declared.tree.CFile.{CFile}
use Rattle.c_tree.specs.declared.tree.CExpr.{CExpr}
use Rattle.c_tree.specs.declared.tree.CExpr.TheVariants.{Binary, Compare}
use Rattle.c_tree.specs.declared.tree.CStmt.{CStmt}
use Rattle.c_tree.specs.Memory.{Tree, Memory, Number, owner_of, with_frame}
use Rattle.c_tree.specs.Scope.{Scope, scope_of}
use Rattle.sl_run.specs.Statements.{Returned}
use Rattle.c_tree.specs.Meaning.{Callees, evaluate, block, is_int64, is_zero, divides}
use Rattle.c_tree.proofs.Running.{const_runs, read_runs, binary_runs, compare_runs, negate_runs, if_else_runs, return_runs}
use Rattle.c_helpers.specs.Functions.{constant, named, greatest, least, minus_one, give, if_else, helper}
use Rattle.c_helpers.specs.Laws.{Gives}

-- memory with the frame of a call on these arguments
abbrev pub within : List Tree → Memory → Memory
within vars memory = with_frame (record { owner = owner_of memory.frames; bytes = 0; vars = vars }) memory

-- what the functions with two parameters can name
abbrev pub scope_in : CFile → Scope
scope_in file = scope_of file (helper [] [])

-- two arguments
abbrev pub two : ℤ → ℤ → List Tree
two a b = Number a ∷ Number b ∷ []

module _ (scope : Scope) (vars : List Tree) where
  -- an expression has this number with a sign, and changes nothing
  pub record Yields (e : CExpr) (n : ℤ) : Type 0 where
    pub yields : (t : Trace) (memory : Memory) → evaluate scope e t (within vars memory) ≡ Went (record { signed = true; number = n }) t (within vars memory)

  -- statements return this number, and change nothing
  pub record Returns (body : List CStmt) (n : ℤ) : Type 0 where
    pub returns : (call : Callees) (t : Trace) (memory : Memory) → block scope body call t (within vars memory) ≡ Went (Returned (Some n)) t (within vars memory)

  -- a constant
  pub yields_constant : (n : ℕ) → Yields (constant n) (pos n)
  yields_constant n = record { yields = λ t memory. const_runs scope true n t (within vars memory) }

  -- a comparison
  pub yields_comparison : (comparison : Comparison) (l r : CExpr) (x y : ℤ) → Yields l x → Yields r y → Yields (Compare comparison l r) (truth (holds comparison x y))
  yields_comparison comparison l r x y left right = record { yields = λ t memory. simp (compare_runs, left.yields, right.yields) }

  -- a sum, a difference and a quotient that are numbers of 64 bits
  pub yields_sum : (l r : CExpr) (x y : ℤ) → Yields l x → Yields r y → is_int64 (x +ℤ y) ≡ true → Yields (Binary Add l r) (x +ℤ y)
  yields_sum l r x y left right fits = record { yields = λ t memory. simp (binary_runs, left.yields, right.yields, fits) }

  pub yields_difference : (l r : CExpr) (x y : ℤ) → Yields l x → Yields r y → is_int64 (x -ℤ y) ≡ true → Yields (Binary Sub l r) (x -ℤ y)
  yields_difference l r x y left right fits = record { yields = λ t memory. simp (binary_runs, left.yields, right.yields, fits) }

  pub yields_quotient : (l r : CExpr) (x y : ℤ) → Yields l x → Yields r y → is_zero y ≡ false → is_int64 (int_div x y) ≡ true → Yields (Binary Div l r) (int_div x y)
  yields_quotient l r x y left right divides fits = record { yields = λ t memory. simp (binary_runs, left.yields, right.yields, divides, fits) }

  -- a remainder that is one, where the quotient is one too
  pub yields_remainder : (l r : CExpr) (x y : ℤ) → Yields l x → Yields r y → is_zero y ≡ false → is_int64 (int_div x y) ≡ true → is_int64 (int_rem x y) ≡ true → Yields (Binary Rem l r) (int_rem x y)
  yields_remainder l r x y left right divides fits rest_fits = record { yields = λ t memory. simp (binary_runs, left.yields, right.yields, divides, fits, rest_fits) }

  -- the limits, and -1
  pub yields_greatest : Yields greatest (pos 9223372036854775807)
  yields_greatest = yields_constant 9223372036854775807

  pub yields_least : Yields least (negsuc 9223372036854775807)
  yields_least = record { yields = λ t memory. simp (binary_runs, negate_runs, const_runs) }

  pub yields_minus_one : Yields minus_one (negsuc 0)
  yields_minus_one = record { yields = λ t memory. simp (negate_runs, const_runs) }

  -- a return
  pub returns_value : (e : CExpr) (n : ℤ) → Yields e n → Returns (give e) n
  returns_value e n value = record { returns = λ call t memory. simp (return_runs, value.yields) }

  -- one of two blocks, by a test
  pub returns_by : (test : CExpr) (chosen other : List CStmt) (holds : Bool) (n : ℤ)
      → Yields test (truth holds) → (holds ≡ true → Returns chosen n) → (holds ≡ false → Returns other n) → Returns (if_else test chosen other) n
  returns_by test chosen other true n tested first second =
      let branch = first refl in record { returns = λ call t memory. simp (if_else_runs, tested.yields, branch.returns) }
  returns_by test chosen other false n tested first second =
      let branch = second refl in record { returns = λ call t memory. simp (if_else_runs, tested.yields, branch.returns) }

module _ (file : CFile) (a b : ℤ) where
  -- the parameters
  pub yields_a : Yields (scope_in file) (two a b) (named (codes "a")) a
  yields_a = record { yields = λ t memory. simp (read_runs, eq-eqb (length memory.frames) (length memory.frames) refl) }

  pub yields_b : Yields (scope_in file) (two a b) (named (codes "b")) b
  yields_b = record { yields = λ t memory. simp (read_runs, eq-eqb (length memory.frames) (length memory.frames) refl) }

  -- what the body returns is what a call gives
  pub gives_returned : (name : List ℕ) (body : List CStmt) (n : ℤ) → Returns (scope_in file) (two a b) body n → Gives file (helper name body) (a ∷ b ∷ []) n
  gives_returned name body n value call t memory = simp value.returns
