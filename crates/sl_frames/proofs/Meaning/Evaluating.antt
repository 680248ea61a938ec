-- The C of each expression computes the number that the expression has, or halts as it does.
use Rattle.std.proofs.Common.{◌≡◌, ℕ, suc, ◌+◌, ◌-◌, ◌^◌, ◌<◌, ◌≤◌, List, [], ◌++◌, length, Bool, true, false, ◌&&◌, Option, Some, None, refl, sym, ap, ◌∙◌, subst, arith, if◌then◌else◌}
use Rattle.std.specs.Prelude.{ℤ, pos, negsuc, nat_lt, Result, slice_get}
use Rattle.std.proofs.lemmas.Bool.{ltb-false}
use Rattle.std.proofs.lemmas.Int.{ints}
use Rattle.std.proofs.lemmas.List.{append-nil}
use Rattle.sl_num.specs.declared.arithmetic.Op.{Op}
use Rattle.sl_num.specs.declared.arithmetic.Halt.{Halt}
use Rattle.sl_num.specs.declared.comparing.Comparison.{Comparison}
use Rattle.sl_num.specs.Arithmetic.{applied}
use Rattle.sl_num.specs.Comparing.{holds, truth}
use Rattle.sl_run.specs.Run.{Went, Act, pure}
use Rattle.sl_core.specs.declared.tree.Core.{Core}
use Rattle.sl_core.specs.declared.tree.CoreType.{CoreType}
use Rattle.sl_core.specs.declared.tree.CoreType.TheVariants.{Int}
use Rattle.sl_core.specs.declared.tree.CoreFun.{CoreFun}
use Rattle.sl_core.specs.declared.tree.CorePath.{CorePath}
use Rattle.sl_core.specs.declared.tree.CoreExpr.{CoreExpr, CoreExpr-F, ind-CoreExpr, map-CoreExpr, roll-CoreExpr}
use Rattle.sl_core.specs.declared.tree.CoreExpr.TheOpen as expr
use Rattle.sl_core.specs.Memory as source
use Rattle.sl_core.specs.Memory.{Value, Number, Bytes}
use Rattle.sl_core.specs.Meaning.{with_some, apply_in, number_or_halt, halt_number, root_of, read, expr_step, evaluate}
use Rattle.sl_core.specs.Sound.{Kind, type_has, is_number_of, are_of_one_type, place_has, kind_step, kind_of}
use Rattle.sl_core.proofs.Layers.{evaluate_layer, kind_layer}
use Rattle.c_tree.specs.declared.tree.CExpr.{CExpr}
use Rattle.c_tree.specs.declared.tree.CExpr.TheVariants.{Read, Binary, Compare, Negate}
use Rattle.c_tree.specs.declared.tree.CBinary.TheVariants as binary
use Rattle.c_tree.specs.declared.tree.CStmt.{CStmt}
use Rattle.c_tree.specs.Memory.{Tree}
use Rattle.c_tree.specs.Meaning.{is_int64}
use Rattle.c_tree.proofs.Running.{const_runs, binary_runs, compare_runs, negate_runs}
use Rattle.c_helpers.specs.Functions.{constant}
use Rattle.c_helpers.proofs.Sums.{Bounded, bounds}
use Rattle.sl_frames.specs.Promise.{int64_type, HasOneType}
use Rattle.sl_frames.specs.Translated.{Code, number_expr, operate, temporary, code_step, code_of}
use Rattle.sl_frames.specs.Names.{variable_name, temporary_name, place_of}
use Rattle.sl_frames.proofs.Layers.{code_layer}
use Rattle.sl_core.proofs.Slots.{same_below}
use Rattle.sl_frames.proofs.Meaning.Frames.{Where, does_none, has_variable}
use Rattle.sl_frames.proofs.Meaning.Operations.{Ready, Stays, stays_constant, Operated, Computed, Halted, operated}
use Rattle.sl_frames.proofs.Meaning.Related.{Beneath, source_with, HoldsLike, held_in, HoldLike}
use Rattle.std.proofs.lemmas.Bool.{and_parts}
use Rattle.sl_frames.proofs.Keeps.Tests.{place_is, only_type}
use Rattle.sl_frames.proofs.Meaning.Kinds.{IsNumeric, of_type, first_numeric, second_numeric, tested, number_fits}
use Rattle.sl_frames.proofs.Meaning.Expressions.{Evaluated, Gave, Halting, Sticks, truth_fits, Good, two, Behind, two_evaluated}

-- Numbers -------------------------------------------------------------------------------------------------------------

module _ (w : Where) (limit : ℕ) (vars : List Tree) where
  -- the least number
  least_stays : (below : ℕ) → below ≡ 9223372036854775807 → Stays w limit vars (Binary binary.Sub (Negate (constant below)) (constant 1)) (negsuc below)
  least_stays below is =
      subst (λ (below : ℕ). Stays w limit vars (Binary binary.Sub (Negate (constant below)) (constant 1)) (negsuc below)) (sym is)
      (record { stays = λ other same. record { has = λ t. simp (binary_runs, negate_runs, const_runs) } })

  negated_stays : (below : ℕ) → is_int64 (negsuc below) ≡ true → Stays w limit vars (Negate (constant (suc below))) (negsuc below)
  negated_stays below fits = record { stays = λ other same. record { has = λ t. simp (negate_runs, const_runs, fits) } }

  negative_stays : (below : ℕ) (less : Bool) → nat_lt below (2 ^ 63 - 1) ≡ less → is_int64 (negsuc below) ≡ true → Stays w limit vars (if less then Negate (constant (suc below)) else Binary binary.Sub (Negate (constant below)) (constant 1)) (negsuc below)
  negative_stays below true is fits = negated_stays below fits
  negative_stays below false is fits =
      let bounded : Bounded (negsuc below) = bounds (negsuc below) fits in
      let above : 9223372036854775807 ≤ below = ltb-false below 9223372036854775807 is in
      least_stays below (omega (arith, ints))

  -- a number
  pub number_stays : (number : ℤ) → is_int64 number ≡ true → Stays w limit vars (number_expr number) number
  number_stays (pos number) fits = stays_constant w limit vars number
  number_stays (negsuc below) fits = negative_stays below (nat_lt below (2 ^ 63 - 1)) refl fits

module _ (w : Where) (b : Beneath) (variables temporaries : ℕ) (ready : Ready w variables temporaries) where
  -- Places ------------------------------------------------------------------------------------------------------------

  path_by : (path : CorePath) (free : ℕ) (vars : List (Option Value)) (others : List Tree) → root_of path.root < variables
      → (got : Option Value) → held_in vars (root_of path.root) ≡ got → HoldsLike got (slice_get others (root_of path.root))
      → Evaluated w b variables (read path) (record { before = []; value = Read (place_of path); free = free }) free vars others
  path_by path free vars others there None is like = Sticks (record { ends = λ t. simp is })
  path_by path free vars others there (Some (Number number)) is like =
      Gave number others (record { gives = λ t. simp is }) like.1 (does_none w others) (same_below (variables + free) others)
      (record { stays = λ other same. has_variable w (variable_name (root_of path.root)) (root_of path.root) (ready.variable (root_of path.root) there) other number (sym (same.same (root_of path.root) (omega arith)) ∙ like.0) })
  path_by path free vars others there (Some (Bytes bytes)) is like = absurd like

  -- Operations --------------------------------------------------------------------------------------------------------

  from_operated : (op : Op) (file line : ℕ) (m n : ℤ) (stmts : List CStmt) (number : ℕ) (below : number < temporaries) (vars : List (Option Value)) (others : List Tree)
      → Operated w stmts (variables + number) others file line (applied int64_type op m n)
      → Evaluated w b variables (apply_in (Int int64_type) op file line m n) (record { before = stmts; value = temporary number; free = suc number }) number vars others
  from_operated op file line m n stmts number below vars others (Computed x after is fits does same there) =
      Gave x after (record { gives = λ t. ap (λ (result : Result ℤ Halt). number_or_halt file line result t (source_with b vars)) is }) fits does same
      (record { stays = λ other same'. has_variable w (temporary_name number) (variables + number) (ready.temporary number below) other x (sym (same'.same (variables + number) (omega arith)) ∙ there) })
  from_operated op file line m n stmts number below vars others (Halted halt is halts) =
      Halting (halt_number halt) file line (record { ends = λ t. ap (λ (result : Result ℤ Halt). number_or_halt file line result t (source_with b vars)) is }) halts

  -- Comparisons -------------------------------------------------------------------------------------------------------

  compared : (comparison : Comparison) (m n : ℤ) (free : ℕ) (vars : List (Option Value)) (others : List Tree) (l r : CExpr)
      → Stays w (variables + free) others l m → Stays w (variables + free) others r n
      → Evaluated w b variables (pure (Number (truth (holds comparison m n)))) (record { before = []; value = Compare comparison l r; free = free }) free vars others
  compared comparison m n free vars others l r left right =
      Gave (truth (holds comparison m n)) others (record { gives = λ t. refl }) (truth_fits (holds comparison m n)) (does_none w others) (same_below (variables + free) others)
      (record { stays = λ other same. let first = left.stays other same in let second = right.stays other same in record { has = λ t. simp (compare_runs, first.has, second.has) } })

  module _ (core : Core) (one : HasOneType core) where
    applied_by : (op : Op) (type file line : ℕ) (m n : ℤ) (code : Code) (free : ℕ) (vars : List (Option Value)) (others : List Tree)
        → Evaluated w b variables (apply_in (Int int64_type) op file line m n) code free vars others
        → (got : Option CoreType) → slice_get core.types type ≡ got → Evaluated w b variables (with_some got (λ kind. apply_in kind op file line m n)) code free vars others
    applied_by op type file line m n code free vars others h None is = Sticks (record { ends = λ t. refl })
    applied_by op type file line m n code free vars others h (Some kind) is =
        subst (λ (kind : CoreType). Evaluated w b variables (apply_in kind op file line m n) code free vars others) (sym (only_type core one type kind is)) h

    -- Expressions -----------------------------------------------------------------------------------------------------

    module _ (function : CoreFun) (many : length function.vars ≡ variables) where
      abbrev GoodOf : CoreExpr → Type 0
      GoodOf e = Good w b variables temporaries ready (evaluate core e) (code_of e) (IsNumeric (kind_of core function e))

      abbrev Known : Type 0
      Known = (e : CoreExpr) × GoodOf e

      abbrev first_of : Known → CoreExpr
      first_of known = known.0

      via : (x : CoreExpr-F CoreExpr)
          → Good w b variables temporaries ready (expr_step core (map-CoreExpr CoreExpr (Act source.Memory Value) (evaluate core) x)) (code_step (map-CoreExpr CoreExpr (ℕ → Code) code_of x)) (IsNumeric (kind_step core function (map-CoreExpr CoreExpr (Option Kind) (kind_of core function) x)))
          → GoodOf (roll-CoreExpr x)
      via x h =
          subst (λ (a : Act source.Memory Value). Good w b variables temporaries ready a (code_of (roll-CoreExpr x)) (IsNumeric (kind_of core function (roll-CoreExpr x)))) (sym (evaluate_layer core x))
          (subst (λ (code : ℕ → Code). Good w b variables temporaries ready (expr_step core (map-CoreExpr CoreExpr (Act source.Memory Value) (evaluate core) x)) code (IsNumeric (kind_of core function (roll-CoreExpr x)))) (sym (code_layer x))
          (subst (λ (kind : Option Kind). Good w b variables temporaries ready (expr_step core (map-CoreExpr CoreExpr (Act source.Memory Value) (evaluate core) x)) (code_step (map-CoreExpr CoreExpr (ℕ → Code) code_of x)) (IsNumeric kind)) (sym (kind_layer core function x)) h))

      module _ (l r : CoreExpr) (left : GoodOf l) (right : GoodOf r) where
        abbrev first : ℕ → Code
        first free = code_of l free

        abbrev second : ℕ → Code
        second free = code_of r (first free).free

        -- the C of two operands, and what is done with their numbers
        two_good : (go : ℤ → ℤ → Act source.Memory Value) (code : Code) (rest : List CStmt) → IsNumeric (kind_of core function l) → IsNumeric (kind_of core function r)
            → (free : ℕ) (vars : List (Option Value)) (others : List Tree) → HoldLike variables temporaries vars others → (second free).free ≤ temporaries
            → Behind w b variables temporaries ready (evaluate core l) (evaluate core r) go (first free) (second free) code free vars others rest
            → Evaluated w b variables (two w b variables temporaries ready (evaluate core l) (evaluate core r) go) (record code { before = (first free).before ++ (second free).before ++ rest }) free vars others
        two_good go code rest numeric numeric' free vars others like fits behind =
            let less : free ≤ (first free).free = left.grows free in
            let more : (first free).free ≤ (second free).free = right.grows (first free).free in
            two_evaluated w b variables temporaries ready (evaluate core l) (evaluate core r) go (first free) (second free) code free vars others rest behind like less more
            (left.good numeric free vars others like (omega arith))
            (λ after like'. right.good numeric' (first free).free vars after like' fits)

        -- of an operation
        apply_good : (op : Op) (type file line : ℕ)
            → Good w b variables temporaries ready (expr_step core (expr.Apply op (evaluate core l) (evaluate core r) type file line)) (code_step (expr.Apply op (code_of l) (code_of r) type file line)) (IsNumeric (kind_step core function (expr.Apply op (kind_of core function l) (kind_of core function r) type file line)))
        apply_good op type file line = record {
          grows = λ free. let less : free ≤ (first free).free = left.grows free in let more : (first free).free ≤ (second free).free = right.grows (first free).free in omega arith;
          good = λ numeric free vars others like fits.
              let kinds = and_parts (is_number_of type (kind_of core function l)) (is_number_of type (kind_of core function r)) (tested (is_number_of type (kind_of core function l) && is_number_of type (kind_of core function r)) _ numeric) in
              let room : suc (second free).free ≤ temporaries = fits in
              two_good (λ m n. with_some (slice_get core.types type) (λ kind. apply_in kind op file line m n)) (code_step (expr.Apply op (code_of l) (code_of r) type file line) free)
              (operate op (second free).free (first free).value (second free).value file line)
              (of_type type (kind_of core function l) kinds.0) (of_type type (kind_of core function r) kinds.1) free vars others like (omega arith)
              (λ m n after like' fits fits' stays stays'.
              applied_by op type file line m n _ (second free).free vars after
              (from_operated op file line m n _ (second free).free (omega arith) vars after
              (operated w variables temporaries ready (second free).free (omega arith) after like'.longer file line (first free).value (second free).value m n stays stays' fits fits' op))
              (slice_get core.types type) refl);
        }

        -- of a comparison
        compare_good : (comparison : Comparison) (type : ℕ)
            → Good w b variables temporaries ready (expr_step core (expr.Compare comparison (evaluate core l) (evaluate core r) type)) (code_step (expr.Compare comparison (code_of l) (code_of r) type)) (IsNumeric (kind_step core function (expr.Compare comparison (kind_of core function l) (kind_of core function r) type)))
        compare_good comparison type = record {
          grows = λ free. let less : free ≤ (first free).free = left.grows free in let more : (first free).free ≤ (second free).free = right.grows (first free).free in omega arith;
          good = λ numeric free vars others like fits.
              let alike : Bool = are_of_one_type (kind_of core function l) (kind_of core function r) in
              let tests = and_parts (alike && type_has core type (pos 0)) (type_has core type (pos 1)) (tested (alike && type_has core type (pos 0) && type_has core type (pos 1)) _ numeric) in
              let kinds = and_parts alike (type_has core type (pos 0)) tests.0 in
              subst (λ (stmts : List CStmt). Evaluated w b variables (expr_step core (expr.Compare comparison (evaluate core l) (evaluate core r) type)) (record { before = stmts; value = Compare comparison (first free).value (second free).value; free = (second free).free }) free vars others)
              (append-nil ((first free).before ++ (second free).before))
              (two_good (λ m n. pure (Number (truth (holds comparison m n)))) (code_step (expr.Compare comparison (code_of l) (code_of r) type) free) []
              (first_numeric (kind_of core function l) (kind_of core function r) kinds.0) (second_numeric (kind_of core function l) (kind_of core function r) kinds.0) free vars others like fits
              (λ m n after like' fits fits' stays stays'. compared comparison m n (second free).free vars after (first free).value (second free).value stays stays'));
        }

      layer : (y : CoreExpr-F Known) → GoodOf (roll-CoreExpr (map-CoreExpr Known CoreExpr first_of y))
      layer (expr.Number number type) =
          via (expr.Number number type) (record {
            grows = λ free. omega arith;
            good = λ numeric free vars others like fits.
                let is : is_int64 number ≡ true = number_fits core one type number (tested (type_has core type number) _ numeric) in
                Gave number others (record { gives = λ t. refl }) is (does_none w others) (same_below (variables + free) others) (number_stays w (variables + free) others number is);
          })
      layer (expr.TextOf bytes) = via (expr.TextOf bytes) (record { grows = λ free. omega arith; good = λ numeric free vars others like fits. absurd numeric })
      layer (expr.Path path type) =
          via (expr.Path path type) (record {
            grows = λ free. omega arith;
            good = λ numeric free vars others like fits.
                let there : root_of path.root < variables = subst (λ (count : ℕ). root_of path.root < count) many (place_is function path type (tested (place_has function path type) _ numeric)) in
                path_by path free vars others there (held_in vars (root_of path.root)) refl (like.like (root_of path.root) there);
          })
      layer (expr.Apply op left right type file line) = via (expr.Apply op left.0 right.0 type file line) (apply_good left.0 right.0 left.1 right.1 op type file line)
      layer (expr.Compare comparison left right type) = via (expr.Compare comparison left.0 right.0 type) (compare_good left.0 right.0 left.1 right.1 comparison type)

      -- the C of an expression
      pub evaluated : (e : CoreExpr) → GoodOf e
      evaluated e = ind-CoreExpr GoodOf (λ x y same. subst (λ z. GoodOf (roll-CoreExpr z)) same (layer y)) e
