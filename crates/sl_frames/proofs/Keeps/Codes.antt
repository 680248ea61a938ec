-- The C of expressions keeps the rules.
use Rattle.std.proofs.Common.{◌≡◌, ℕ, ◌+◌, ◌-◌, ◌*◌, ◌^◌, ◌<◌, ◌≤◌, suc, ℤ, List, [], ◌∷◌, ◌++◌, Bool, true, Option, Some, refl, sym, subst, ap, ◌∙◌, arith, All, codes}
use Rattle.std.specs.Prelude.{pos, negsuc, is_some, max, nat_lt, ◌&&◌}
use Rattle.std.proofs.Math.Nat.{pow-le-pow_right, pow-suc, one-le-pow}
use Rattle.std.proofs.lemmas.Bool.{and_parts, ltb-true}
use Rattle.std.proofs.lemmas.List.Elements.{All-nil, All-cons, All-append, All-weaker}
use Rattle.sl_num.specs.declared.arithmetic.Op.{Op}
use Rattle.sl_num.specs.declared.arithmetic.Op.TheVariants.{Add, Sub, Mul, Div, Rem, Neg}
use Rattle.sl_num.specs.declared.comparing.Comparison.{Comparison}
use Rattle.sl_num.specs.declared.comparing.Comparison.TheVariants.{Equal}
use Rattle.sl_core.specs.declared.tree.Core.{Core}
use Rattle.sl_core.specs.declared.tree.CoreFun.{CoreFun}
use Rattle.sl_core.specs.declared.tree.CoreExpr.{CoreExpr, CoreExpr-F, ind-CoreExpr, map-CoreExpr, roll-CoreExpr}
use Rattle.sl_core.specs.declared.tree.CoreExpr.TheOpen as expr
use Rattle.sl_core.specs.Meaning.{root_of}
use Rattle.sl_core.specs.Sound.{Kind, kind_step, kind_of, type_has, is_number_of, are_of_one_type, is_source_place, expr_range_step, expr_in_range, expr_depth_step, expr_depth}
use Rattle.c_tree.specs.declared.tree.CArg.TheVariants.{Value}
use Rattle.c_tree.specs.declared.tree.CBinary.{CBinary}
use Rattle.c_tree.specs.declared.tree.CBinary.TheVariants as binary
use Rattle.c_tree.specs.declared.tree.CFile.{CFile}
use Rattle.c_tree.specs.declared.tree.CFun.{CFun}
use Rattle.c_tree.specs.declared.tree.CPlace.TheVariants.{Name}
use Rattle.c_tree.specs.declared.tree.CStmt.{CStmt}
use Rattle.c_tree.specs.declared.tree.CStmt.TheVariants.{Halt}
use Rattle.c_tree.specs.declared.tree.CExpr.{CExpr}
use Rattle.c_tree.specs.declared.tree.CExpr.TheVariants.{Binary, Compare, Negate}
use Rattle.c_tree.specs.Scope.{Scope}
use Rattle.c_tree.specs.Rules.{word}
use Rattle.c_tree.specs.WellFormed.{IsAction}
use Rattle.c_tree.specs.WellFormed as c
use Rattle.c_tree.specs.Parts.{Halts}
use Rattle.c_tree.proofs.Variants.{depth_of_const, depth_of_read, depth_of_binary, depth_of_compare, depth_of_negate}
use Rattle.c_helpers.specs.Functions.{constant}
use Rattle.c_helpers.proofs.Keeping.{ExprGood, inside, CanCall, StmtGood}
use Rattle.c_helpers.proofs.Composing.{constant_good, named_good, binary_good, compare_good, negate_good, assign_good, call_good, halt_good, if_good, deeper}
use Rattle.sl_frames.specs.Names.{variable_name, temporary_name, place_of}
use Rattle.sl_frames.specs.Promise.{HasOneType}
use Rattle.sl_frames.specs.Translated.{number_expr, temporary, halt_at_zero, call_helper, set_temporary, where_it_fits, operate, Code, code_step, code_of}
use Rattle.sl_frames.proofs.Layers.{code_layer}
use Rattle.sl_core.proofs.Layers.{kind_layer, expr_range_layer, expr_depth_layer}
use Rattle.sl_frames.proofs.Keeps.Tests.{by_test, IsSmall, small_number, place_is, is_something, left_is, right_is, test_passed, halt_is}
use Rattle.sl_frames.proofs.Keeps.Inside.{two, IsPlaced}

-- Temporaries ---------------------------------------------------------------------------------------------------------

-- the temporaries of an expression come behind those before it, and are fewer than 2 to the power of its depth
abbrev Grows : (ℕ → Code) → ℕ → Type 0
Grows code depth = (free : ℕ) → (free ≤ (code free).free) × ((code free).free < free + 2 ^ depth)

abbrev ExprGrows : CoreExpr → Type 0
ExprGrows e = Grows (code_of e) (expr_depth e)

abbrev Known : Type 0
Known = (e : CoreExpr) × ExprGrows e

abbrev first : Known → CoreExpr
first known = known.0

power_max : (a b : ℕ) → (2 ^ a ≤ 2 ^ max a b) × (2 ^ b ≤ 2 ^ max a b)
power_max a b = (pow-le-pow_right (omega arith) (omega arith), pow-le-pow_right (omega arith) (omega arith))

power_more : (a : ℕ) → 2 ^ (1 + a) ≡ 2 ^ a + 2 ^ a
power_more a =
    let next : 1 + a ≡ suc a = omega arith in
    let twice : 2 ^ suc a ≡ 2 ^ a * 2 = pow-suc 2 a in
    ap (λ n. 2 ^ n) next ∙ (twice ∙ omega arith)

power_some : (a : ℕ) → 1 ≤ 2 ^ a
power_some a = one-le-pow a 2 (omega arith)

both_grow : (left right : ℕ → Code) (a b : ℕ) → Grows left a → Grows right b → (free : ℕ)
    → (free ≤ (left free).free) × ((left free).free ≤ (right (left free).free).free) × (suc (right (left free).free).free < free + 2 ^ (1 + max a b))
both_grow left right a b first second free =
    let low = first free in
    let high = second (left free).free in
    let powers = power_max a b in
    let more = power_more (max a b) in
    (low.0, high.0, omega arith)

pub code_grows : (e : CoreExpr) → Grows (code_of e) (expr_depth e)
code_grows e = ind-CoreExpr ExprGrows (λ x y same. subst (λ z. ExprGrows (roll-CoreExpr z)) same (layer y)) e
  where
    via : (x : CoreExpr-F CoreExpr) → Grows (code_step (map-CoreExpr CoreExpr (ℕ → Code) code_of x)) (expr_depth_step (map-CoreExpr CoreExpr ℕ expr_depth x)) → ExprGrows (roll-CoreExpr x)
    via x h = subst (λ code. Grows code (expr_depth (roll-CoreExpr x))) (sym (code_layer x)) (subst (Grows (code_step (map-CoreExpr CoreExpr (ℕ → Code) code_of x))) (sym (expr_depth_layer x)) h)

    layer : (y : CoreExpr-F Known) → ExprGrows (roll-CoreExpr (map-CoreExpr Known CoreExpr first y))
    layer (expr.Number number type) = via (expr.Number number type) (λ free. (omega arith, omega arith))
    layer (expr.TextOf bytes) = via (expr.TextOf bytes) (λ free. (omega arith, omega arith))
    layer (expr.Path path type) = via (expr.Path path type) (λ free. (omega arith, omega arith))
    layer (expr.Apply op left right type file line) =
        via (expr.Apply op left.0 right.0 type file line)
        (λ free. let grown = both_grow (code_of left.0) (code_of right.0) (expr_depth left.0) (expr_depth right.0) left.1 right.1 free in (omega arith, grown.2))
    layer (expr.Compare comparison left right type) =
        via (expr.Compare comparison left.0 right.0 type)
        (λ free. let grown = both_grow (code_of left.0) (code_of right.0) (expr_depth left.0) (expr_depth right.0) left.1 right.1 free in (omega arith, omega arith))

-- Numbers -------------------------------------------------------------------------------------------------------------

-- an expression that is good and nests at most so deep
pub record Fits (scope : Scope) (depth : ℕ) (e : CExpr) : Type 0 where
  pub good : ExprGood scope e
  pub deep : c.expr_depth e ≤ depth

module _ (scope : Scope) where
  -- a constant
  pub constant_fits : (number : ℕ) → number ≤ 2 ^ 63 - 1 → Fits scope 1 (constant number)
  constant_fits number small = record { good = constant_good scope number small; deep = let is = depth_of_const true number in omega arith }

  -- a number
  number_fits : (number : ℤ) → IsSmall number → Fits scope 3 (number_expr number)
  number_fits (pos number) small = let of = constant_fits number small in record { good = of.good; deep = let below = of.deep in omega arith }
  number_fits (negsuc below) small =
      by_test (nat_lt below (2 ^ 63 - 1))
      (λ less. let limit = ltb-true below (2 ^ 63 - 1) less in
      rw less (record {
        good = negate_good scope (constant (suc below)) (constant_good scope (suc below) (omega arith));
        deep = let is = depth_of_negate (constant (suc below)) in let inner = depth_of_const true (suc below) in omega arith;
      }))
      (λ not. rw not (record {
        good = binary_good scope binary.Sub (Negate (constant below)) (constant 1) (negate_good scope (constant below) (constant_good scope below small)) (constant_good scope 1 (omega arith));
        deep =
            let is = depth_of_binary binary.Sub (Negate (constant below)) (constant 1) in
            let left = depth_of_negate (constant below) in
            let inner = depth_of_const true below in
            let right = depth_of_const true 1 in
            omega arith;
      }))

-- Operations ----------------------------------------------------------------------------------------------------------

module _ (core : Core) (one : HasOneType core) (source : CoreFun) (file : CFile) (before : List CFun) (function : CFun) (limit : ℕ) (placed : IsPlaced core source file before function limit) where
  abbrev scope : Scope
  scope = inside file before function

  -- statements that keep the rules
  abbrev AreGood : ℕ → List CStmt → Type 0
  AreGood depth body = All (StmtGood file before function depth) body

  abbrev More : ℕ → CStmt → Type 0
  More depth s = StmtGood file before function depth s

  -- a temporary
  temporary_fits : (number : ℕ) → number < limit → Fits scope 1 (temporary number)
  temporary_fits number low = record {
    good = named_good scope (temporary_name number) (placed.temporaries number low);
    deep = let is = depth_of_read (Name (temporary_name number)) in omega arith;
  }

  -- a result that is stored in it
  sets : (number depth : ℕ) (e : CExpr) → number < limit → Fits scope (1 + depth) e → StmtGood file before function (3 + depth) (set_temporary number e)
  sets number depth e low fits =
      assign_good file before function (3 + depth) (temporary_name number) e (placed.temporaries number low) fits.good (let below = fits.deep in omega arith) (omega arith)

  -- a halt where a number is 0
  halts_at_zero : (depth : ℕ) (e : CExpr) (kind file_number line : ℕ) → 1 ≤ depth → Fits scope depth e → IsAction (Halts kind file_number line) → StmtGood file before function (3 + depth) (halt_at_zero e kind file_number line)
  halts_at_zero depth e kind file_number line some fits halt =
      deeper file before function (1 + (1 + depth)) (3 + depth) (omega arith) (halt_at_zero e kind file_number line)
      (if_good file before function (1 + depth) (Compare Equal e (constant 0)) (Halt kind file_number line ∷ [])
      (compare_good scope Equal e (constant 0) fits.good (constant_fits scope 0 (omega arith)).good)
      (let is = depth_of_compare Equal e (constant 0) in let zero_deep = depth_of_const true 0 in let below = fits.deep in omega arith)
      (All-cons (More (1 + depth)) (Halt kind file_number line) [] (halt_good file before function (1 + depth) kind file_number line halt (omega arith)) (All-nil (More (1 + depth)))))

  -- a call of an inline function
  calls_helper : (number depth : ℕ) (name : List ℕ) (left right : CExpr) → number < limit → CanCall file before function name two word → Fits scope depth left → Fits scope depth right → StmtGood file before function (3 + depth) (call_helper number name left right)
  calls_helper number depth name left right low can first_fits second_fits =
      call_good file before function (3 + depth) (Some (Name (temporary_name number))) name (Value left ∷ Value right ∷ [])
      (record {
        params = two;
        result = word;
        can = can;
        fits = (first_fits.good, refl, (second_fits.good, refl, tt));
        stored = (placed.temporaries number low, refl);
      })
      (let a = first_fits.deep in let b = second_fits.deep in omega arith) (omega arith)

  -- an operation that is tested first
  where_fits : (number depth : ℕ) (name : List ℕ) (left right result : CExpr) (file_number line : ℕ) → number < limit → 1 ≤ depth → CanCall file before function name two word → Fits scope depth left → Fits scope depth right
      → Fits scope (1 + depth) result → is_source_place file_number line ≡ true → AreGood (3 + depth) (where_it_fits number name left right file_number line result)
  where_fits number depth name left right result file_number line low some can first_fits second_fits result_fits place =
      All-cons (More (3 + depth)) (call_helper number name left right) (halt_at_zero (temporary number) 3 file_number line ∷ set_temporary number result ∷ [])
      (calls_helper number depth name left right low can first_fits second_fits)
      (All-cons (More (3 + depth)) (halt_at_zero (temporary number) 3 file_number line) (set_temporary number result ∷ [])
      (deeper file before function (3 + 1) (3 + depth) (omega arith) (halt_at_zero (temporary number) 3 file_number line)
      (halts_at_zero 1 (temporary number) 3 file_number line (omega arith) (temporary_fits number low) (halt_is 3 file_number line (omega arith) place)))
      (All-cons (More (3 + depth)) (set_temporary number result) [] (sets number depth result low result_fits) (All-nil (More (3 + depth)))))

  -- a result
  computes : (depth : ℕ) (operator : CBinary) (left right : CExpr) → Fits scope depth left → Fits scope depth right → Fits scope (1 + depth) (Binary operator left right)
  computes depth operator left right first_fits second_fits = record {
    good = binary_good scope operator left right first_fits.good second_fits.good;
    deep = let is = depth_of_binary operator left right in let a = first_fits.deep in let b = second_fits.deep in omega arith;
  }

  -- zero, as deep as there is room
  zero_fits : (depth : ℕ) → 1 ≤ depth → Fits scope depth (constant 0)
  zero_fits depth some = let zero_fit = constant_fits scope 0 (omega arith) in record { good = zero_fit.good; deep = let below = zero_fit.deep in omega arith }

  operates : (op : Op) (number depth : ℕ) (left right : CExpr) (file_number line : ℕ) → number < limit → 1 ≤ depth → Fits scope depth left → Fits scope depth right → is_source_place file_number line ≡ true
      → AreGood (3 + depth) (operate op number left right file_number line)
  operates Add number depth left right file_number line low some a b place =
      where_fits number depth (codes "sl_sum_fits") left right (Binary binary.Add left right) file_number line low some placed.sum a b (computes depth binary.Add left right a b) place
  operates Sub number depth left right file_number line low some a b place =
      where_fits number depth (codes "sl_difference_fits") left right (Binary binary.Sub left right) file_number line low some placed.difference a b (computes depth binary.Sub left right a b) place
  operates Mul number depth left right file_number line low some a b place =
      where_fits number depth (codes "sl_product_fits") left right (Binary binary.Mul left right) file_number line low some placed.product a b (computes depth binary.Mul left right a b) place
  operates Div number depth left right file_number line low some a b place =
      All-cons (More (3 + depth)) (halt_at_zero right 4 file_number line) (where_it_fits number (codes "sl_quotient_fits") left right file_number line (Binary binary.Div left right))
      (halts_at_zero depth right 4 file_number line some b (halt_is 4 file_number line (omega arith) place))
      (where_fits number depth (codes "sl_quotient_fits") left right (Binary binary.Div left right) file_number line low some placed.quotient a b (computes depth binary.Div left right a b) place)
  operates Rem number depth left right file_number line low some a b place =
      All-cons (More (3 + depth)) (halt_at_zero right 4 file_number line) (call_helper number (codes "sl_remainder") left right ∷ [])
      (halts_at_zero depth right 4 file_number line some b (halt_is 4 file_number line (omega arith) place))
      (All-cons (More (3 + depth)) (call_helper number (codes "sl_remainder") left right) [] (calls_helper number depth (codes "sl_remainder") left right low placed.remainder a b) (All-nil (More (3 + depth))))
  operates Neg number depth left right file_number line low some a b place =
      where_fits number depth (codes "sl_difference_fits") (constant 0) left (Binary binary.Sub (constant 0) left) file_number line low some placed.difference (zero_fits depth some) a
      (computes depth binary.Sub (constant 0) left (zero_fits depth some) a) place

  -- Expressions -------------------------------------------------------------------------------------------------------

  -- the C of an expression of such a depth
  pub record CodeGood (depth : ℕ) (code : Code) : Type 0 where
    pub first : AreGood (4 + depth) code.before
    pub value : Fits scope (2 + depth) code.value

  abbrev Claim : Option Kind → (ℕ → Code) → ℕ → Bool → Type 0
  Claim kind code depth range = (free : ℕ) → is_some kind ≡ true → range ≡ true → (code free).free ≤ limit → CodeGood depth (code free)

  abbrev ExprKeeps : CoreExpr → Type 0
  ExprKeeps e = Claim (kind_of core source e) (code_of e) (expr_depth e) (expr_in_range e)

  abbrev Certain : Type 0
  Certain = (e : CoreExpr) × ExprKeeps e

  abbrev only : Certain → CoreExpr
  only certain = certain.0

  -- what nests less deep
  wider : (small large : ℕ) (e : CExpr) → small ≤ large → Fits scope small e → Fits scope large e
  wider small large e le fits = record { good = fits.good; deep = let below = fits.deep in omega arith }

  widen : (small large : ℕ) (body : List CStmt) → small ≤ large → AreGood small body → AreGood large body
  widen small large body le good = All-weaker (More small) (More large) (deeper file before function small large le) body good

  -- an operation, from what its operands are
  apply_keeps : (op : Op) (left right : CoreExpr) (type file_number line : ℕ) → ExprKeeps left → ExprKeeps right
      → Claim (kind_step core source (expr.Apply op (kind_of core source left) (kind_of core source right) type file_number line))
      (code_step (expr.Apply op (code_of left) (code_of right) type file_number line))
      (expr_depth_step (expr.Apply op (expr_depth left) (expr_depth right) type file_number line))
      (expr_range_step (expr.Apply op (expr_in_range left) (expr_in_range right) type file_number line))
  apply_keeps op left right type file_number line a b free some range within =
      let kinds = and_parts (is_number_of type (kind_of core source left)) (is_number_of type (kind_of core source right)) (test_passed _ _ some) in
      let others = and_parts (expr_in_range left && expr_in_range right) (is_source_place file_number line) range in
      let ranges = and_parts (expr_in_range left) (expr_in_range right) others.0 in
      let grown = code_grows right (code_of left free).free in
      let l = a free (is_something type (kind_of core source left) kinds.0) ranges.0 (omega arith) in
      let r = b (code_of left free).free (is_something type (kind_of core source right) kinds.1) ranges.1 (omega arith) in
      let depth = max (expr_depth left) (expr_depth right) in
      record {
        first =
            All-append (More (4 + (1 + depth))) ((code_of left free).before ++ (code_of right (code_of left free).free).before) _
            (All-append (More (4 + (1 + depth))) (code_of left free).before (code_of right (code_of left free).free).before (widen (4 + expr_depth left) (4 + (1 + depth)) (code_of left free).before (omega arith) l.first)
            (widen (4 + expr_depth right) (4 + (1 + depth)) (code_of right (code_of left free).free).before (omega arith) r.first))
            (widen (3 + (2 + depth)) (4 + (1 + depth)) _ (omega arith)
            (operates op (code_of right (code_of left free).free).free (2 + depth) (code_of left free).value (code_of right (code_of left free).free).value file_number line (omega arith) (omega arith)
            (wider (2 + expr_depth left) (2 + depth) (code_of left free).value (omega arith) l.value) (wider (2 + expr_depth right) (2 + depth) (code_of right (code_of left free).free).value (omega arith) r.value) others.1));
        value = wider 1 (2 + (1 + depth)) _ (omega arith) (temporary_fits (code_of right (code_of left free).free).free (omega arith));
      }

  -- a comparison
  compare_keeps : (comparison : Comparison) (left right : CoreExpr) (type : ℕ) → ExprKeeps left → ExprKeeps right
      → Claim (kind_step core source (expr.Compare comparison (kind_of core source left) (kind_of core source right) type))
      (code_step (expr.Compare comparison (code_of left) (code_of right) type))
      (expr_depth_step (expr.Compare comparison (expr_depth left) (expr_depth right) type))
      (expr_range_step (expr.Compare comparison (expr_in_range left) (expr_in_range right) type))
  compare_keeps comparison left right type a b free some range within =
      let passed = and_parts (are_of_one_type (kind_of core source left) (kind_of core source right) && type_has core type (pos 0)) (type_has core type (pos 1)) (test_passed _ _ some) in
      let kinds = and_parts (are_of_one_type (kind_of core source left) (kind_of core source right)) (type_has core type (pos 0)) passed.0 in
      let ranges = and_parts (expr_in_range left) (expr_in_range right) range in
      let grown = code_grows right (code_of left free).free in
      let l = a free (left_is (kind_of core source left) (kind_of core source right) kinds.0) ranges.0 (omega arith) in
      let r = b (code_of left free).free (right_is (kind_of core source left) (kind_of core source right) kinds.0) ranges.1 within in
      let depth = max (expr_depth left) (expr_depth right) in
      record {
        first =
            All-append (More (4 + (1 + depth))) (code_of left free).before (code_of right (code_of left free).free).before (widen (4 + expr_depth left) (4 + (1 + depth)) (code_of left free).before (omega arith) l.first)
            (widen (4 + expr_depth right) (4 + (1 + depth)) (code_of right (code_of left free).free).before (omega arith) r.first);
        value = record {
          good = compare_good scope comparison (code_of left free).value (code_of right (code_of left free).free).value l.value.good r.value.good;
          deep = let is = depth_of_compare comparison (code_of left free).value (code_of right (code_of left free).free).value in let c = l.value.deep in let d = r.value.deep in omega arith;
        };
      }

  pub code_keeps : (e : CoreExpr) (free : ℕ) → is_some (kind_of core source e) ≡ true → expr_in_range e ≡ true → (code_of e free).free ≤ limit → CodeGood (expr_depth e) (code_of e free)
  code_keeps e = ind-CoreExpr ExprKeeps (λ x y same. subst (λ z. ExprKeeps (roll-CoreExpr z)) same (layer y)) e
    where
      via : (x : CoreExpr-F CoreExpr) → Claim (kind_step core source (map-CoreExpr CoreExpr (Option Kind) (kind_of core source) x)) (code_step (map-CoreExpr CoreExpr (ℕ → Code) code_of x)) (expr_depth_step (map-CoreExpr CoreExpr ℕ expr_depth x)) (expr_range_step (map-CoreExpr CoreExpr Bool expr_in_range x)) → ExprKeeps (roll-CoreExpr x)
      via x h =
          subst (λ kind. Claim kind (code_of (roll-CoreExpr x)) (expr_depth (roll-CoreExpr x)) (expr_in_range (roll-CoreExpr x))) (sym (kind_layer core source x))
          (subst (λ code. Claim (kind_step core source (map-CoreExpr CoreExpr (Option Kind) (kind_of core source) x)) code (expr_depth (roll-CoreExpr x)) (expr_in_range (roll-CoreExpr x))) (sym (code_layer x))
          (subst (λ depth. Claim (kind_step core source (map-CoreExpr CoreExpr (Option Kind) (kind_of core source) x)) (code_step (map-CoreExpr CoreExpr (ℕ → Code) code_of x)) depth (expr_in_range (roll-CoreExpr x))) (sym (expr_depth_layer x))
          (subst (λ range. Claim (kind_step core source (map-CoreExpr CoreExpr (Option Kind) (kind_of core source) x)) (code_step (map-CoreExpr CoreExpr (ℕ → Code) code_of x)) (expr_depth_step (map-CoreExpr CoreExpr ℕ expr_depth x)) range) (sym (expr_range_layer x)) h)))

      layer : (y : CoreExpr-F Certain) → ExprKeeps (roll-CoreExpr (map-CoreExpr Certain CoreExpr only y))
      layer (expr.Number number type) = via (expr.Number number type) (λ free some range within. record { first = All-nil (More 5); value = number_fits scope number (small_number core one type number (test_passed _ _ some)) })
      layer (expr.TextOf bytes) = via (expr.TextOf bytes) (λ free some range within. record { first = All-nil (More 5); value = zero_fits 3 (omega arith) })
      layer (expr.Path path type) =
          via (expr.Path path type)
          (λ free some range within. record {
            first = All-nil (More 5);
            value = record {
              good = named_good scope (variable_name (root_of path.root)) (placed.variables (root_of path.root) (place_is source path type (test_passed _ _ some)));
              deep = let is = depth_of_read (place_of path) in omega arith;
            };
          })
      layer (expr.Apply op left right type file_number line) = via (expr.Apply op left.0 right.0 type file_number line) (apply_keeps op left.0 right.0 type file_number line left.1 right.1)
      layer (expr.Compare comparison left right type) = via (expr.Compare comparison left.0 right.0 type) (compare_keeps comparison left.0 right.0 type left.1 right.1)
