-- Each of some statements fits, and needs no more temporaries than there are; and what can be printed.
use Rattle.std.proofs.Common.{◌≡◌, ℕ, suc, ◌≤◌, List, [], ◌∷◌, Bool, true, false, Option, Some, None, refl, sym, subst, arith, map, max, if◌then◌else◌, is_some, All}
use Rattle.std.specs.Prelude.{nat_lt}
use Rattle.std.specs.List.{fold, list_all}
use Rattle.std.proofs.lemmas.List.Elements.{All-get_or}
use Rattle.sl_run.specs.Run.{Act, pure}
use Rattle.sl_core.specs.declared.tree.Core.{Core}
use Rattle.sl_core.specs.declared.tree.CoreFun.{CoreFun}
use Rattle.sl_core.specs.declared.tree.CoreExpr.{CoreExpr, CoreExpr-F, ind-CoreExpr, map-CoreExpr, roll-CoreExpr}
use Rattle.sl_core.specs.declared.tree.CoreExpr.TheOpen as expr
use Rattle.sl_core.specs.Memory as source
use Rattle.sl_core.specs.Memory.{Value, Bytes}
use Rattle.sl_core.specs.Meaning.{expr_step, evaluate}
use Rattle.sl_core.specs.Sound.{Kind, NumberOf, kind_step, kind_of, expr_range_step, expr_in_range, greatest}
use Rattle.sl_core.proofs.Layers.{evaluate_layer, kind_layer, expr_range_layer}
use Rattle.sl_frames.specs.Translated.{text_step, text_of}
use Rattle.sl_frames.proofs.Layers.{text_layer}
use Rattle.std.proofs.lemmas.Bool.{and_parts}
use Rattle.sl_frames.proofs.Meaning.Kinds.{IsNumeric}

-- each is true
abbrev pub EachTrue : List Bool → Type 0
EachTrue [] = Unit {0}
EachTrue (test ∷ tests) = (test ≡ true) × EachTrue tests

-- each is at most so great
abbrev pub EachAtMost : ℕ → List ℕ → Type 0
EachAtMost most [] = Unit {0}
EachAtMost most (number ∷ numbers) = (number ≤ most) × EachAtMost most numbers

pub each_true : (tests : List Bool) → list_all (λ test. test) tests ≡ true → EachTrue tests
each_true [] h = tt
each_true (test ∷ tests) h = let parts = and_parts test (list_all (λ test. test) tests) h in (parts.0, each_true tests parts.1)

fold_at_most : (most first : ℕ) (numbers : List ℕ) → fold max first numbers ≤ most → (first ≤ most) × EachAtMost most numbers
fold_at_most most first [] h = (h, tt)
fold_at_most most first (number ∷ numbers) h =
    let parts : (max first number ≤ most) × EachAtMost most numbers = fold_at_most most (max first number) numbers h in
    let less : max first number ≤ most = parts.0 in
    (omega arith, (omega arith, parts.1))

pub each_at_most : (most : ℕ) (numbers : List ℕ) → greatest numbers ≤ most → EachAtMost most numbers
each_at_most most numbers h = (fold_at_most most 0 numbers h).1

-- what holds of all statements, of each
pub all_true : {A : Type 0} (test : A → Bool) (xs : List A) → All (λ x. test x ≡ true) xs → EachTrue (map test xs)
all_true test [] h = tt
all_true {A} test (x ∷ xs) h = (All-get_or (λ (x : A). test x ≡ true) (x ∷ xs) 0 x (omega arith) h, all_true test xs (λ k d below. h (suc k) d (omega arith)))

-- a byte
abbrev pub is_byte : ℕ → Bool
is_byte byte = nat_lt byte 256

-- a number that can be printed, or a text
pub data Printed (a : Act source.Memory Value) (kind : Option Kind) (text : Option (List ℕ)) : Type 0 where
  IsNumber : IsNumeric kind → text ≡ None → Printed a kind text
  IsText : (bytes : List ℕ) → a ≡ pure (Bytes bytes) → text ≡ Some bytes → list_all is_byte bytes ≡ true → Printed a kind text

abbrev Prints : Act source.Memory Value → Option Kind → Option (List ℕ) → Bool → Type 0
Prints a kind text in_range = in_range ≡ true → is_some kind ≡ true → Printed a kind text

numeric_if : (test : Bool) (type : ℕ) → is_some (if test then Some (NumberOf type) else None) ≡ true → IsNumeric (if test then Some (NumberOf type) else None)
numeric_if true type h = tt
numeric_if false type h = let bad : false ≡ true = h in absurd (cc)

module _ (core : Core) (function : CoreFun) where
  abbrev PrintsOf : CoreExpr → Type 0
  PrintsOf e = Prints (evaluate core e) (kind_of core function e) (text_of e) (expr_in_range e)

  abbrev Known : Type 0
  Known = (e : CoreExpr) × PrintsOf e

  abbrev first_of : Known → CoreExpr
  first_of known = known.0

  via : (x : CoreExpr-F CoreExpr)
      → Prints (expr_step core (map-CoreExpr CoreExpr (Act source.Memory Value) (evaluate core) x)) (kind_step core function (map-CoreExpr CoreExpr (Option Kind) (kind_of core function) x)) (text_step (map-CoreExpr CoreExpr (Option (List ℕ)) text_of x)) (expr_range_step (map-CoreExpr CoreExpr Bool expr_in_range x))
      → PrintsOf (roll-CoreExpr x)
  via x h =
      subst (λ (a : Act source.Memory Value). Prints a (kind_of core function (roll-CoreExpr x)) (text_of (roll-CoreExpr x)) (expr_in_range (roll-CoreExpr x))) (sym (evaluate_layer core x))
      (subst (λ (kind : Option Kind). Prints (expr_step core (map-CoreExpr CoreExpr (Act source.Memory Value) (evaluate core) x)) kind (text_of (roll-CoreExpr x)) (expr_in_range (roll-CoreExpr x))) (sym (kind_layer core function x))
      (subst (λ (text : Option (List ℕ)). Prints (expr_step core (map-CoreExpr CoreExpr (Act source.Memory Value) (evaluate core) x)) (kind_step core function (map-CoreExpr CoreExpr (Option Kind) (kind_of core function) x)) text (expr_in_range (roll-CoreExpr x))) (sym (text_layer x))
      (subst (λ (in_range : Bool). Prints (expr_step core (map-CoreExpr CoreExpr (Act source.Memory Value) (evaluate core) x)) (kind_step core function (map-CoreExpr CoreExpr (Option Kind) (kind_of core function) x)) (text_step (map-CoreExpr CoreExpr (Option (List ℕ)) text_of x)) in_range) (sym (expr_range_layer x)) h)))

  layer : (y : CoreExpr-F Known) → PrintsOf (roll-CoreExpr (map-CoreExpr Known CoreExpr first_of y))
  layer (expr.Number number type) = via (expr.Number number type) (λ in_range some. IsNumber (numeric_if _ type some) refl)
  layer (expr.TextOf bytes) = via (expr.TextOf bytes) (λ in_range some. IsText bytes refl refl in_range)
  layer (expr.Path path type) = via (expr.Path path type) (λ in_range some. IsNumber (numeric_if _ type some) refl)
  layer (expr.Apply op left right type file line) = via (expr.Apply op left.0 right.0 type file line) (λ in_range some. IsNumber (numeric_if _ type some) refl)
  layer (expr.Compare comparison left right type) = via (expr.Compare comparison left.0 right.0 type) (λ in_range some. IsNumber (numeric_if _ type some) refl)

  -- what can be printed is a number or a text
  pub printed_as : (e : CoreExpr) → PrintsOf e
  printed_as e = ind-CoreExpr PrintsOf (λ x y same. subst (λ z. PrintsOf (roll-CoreExpr z)) same (layer y)) e
