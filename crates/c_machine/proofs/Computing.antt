-- Where a state fits a memory of C, expressions have the values that C computes.
use Rattle.std.proofs.Common.{◌≡◌, ℕ, ℤ, ◌-◌, ◌<◌, inl, inr, zero, suc, List, [], ◌∷◌, Option, None, Some, map, length, Bool, true, false, ◌&&◌, refl, sym, ap, ap₂, ◌∙◌, subst, arith, if◌then◌else◌}
use Rattle.std.specs.Prelude.{option_map, slice_get}
use Rattle.std.specs.Option.{option_and_then}
use Rattle.std.specs.List.{position_or_len}
use Rattle.std.specs.Prelude.{int_div, int_rem, neg_ℤ}
use Rattle.std.specs.Str.{bytes_eq}
use Rattle.std.proofs.lemmas.Bool.{cases_lt, lt-ltb, le-ltb}
use Rattle.sl_num.specs.declared.comparing.Comparison.{Comparison}
use Rattle.sl_num.specs.Comparing.{holds, truth}
use Rattle.sl_run.specs.Run.{Trace, Step, Act, pure, step_then, ◌>>=◌, choose}
use Rattle.c_tree.specs.declared.tree.CArg.{CArg}
use Rattle.c_tree.specs.declared.tree.CArg.TheVariants.{Value}
use Rattle.c_tree.specs.declared.tree.CBinary.{CBinary}
use Rattle.c_tree.specs.declared.tree.CBinary.TheVariants.{Add, Sub, Mul, Div, Rem}
use Rattle.c_tree.specs.declared.tree.CExpr.{CExpr}
use Rattle.c_tree.specs.declared.tree.CExpr.TheVariants as c_expr
use Rattle.c_tree.specs.declared.tree.CPlace.{CPlace}
use Rattle.c_tree.specs.declared.tree.CPlace.TheVariants.{Name}
use Rattle.c_tree.specs.declared.tree.CVar.{CVar}
use Rattle.c_tree.specs.Memory.{Globals, FrameAt, Pointer, Tree, Number, Memory, below_last}
use Rattle.c_tree.specs.Memory as c_memory
use Rattle.c_tree.specs.Parts.{argument_of}
use Rattle.c_tree.specs.Scope.{Scope, number_named, var_named, or_else, variable}
use Rattle.c_tree.specs.Meaning.{kind_is_signed, var_is_signed, place_of, number_in, read_number, located, read_word, evaluate, arguments, same, exact, is_zero, divides, is_int64}
use Rattle.c_tree.specs.Meaning as c
use Rattle.c_tree.proofs.Running.{const_runs, read_runs, binary_runs, compare_runs, negate_runs}
use Rattle.c_machine.specs.declared.program.Word.{Word}
use Rattle.c_machine.specs.declared.program.Expr.{Expr}
use Rattle.c_machine.specs.declared.program.Expr.TheVariants.{Const, Read, Binary, Compare, Negate}
use Rattle.c_machine.specs.declared.scopes.Place.{Place}
use Rattle.c_machine.specs.declared.scopes.Variable.{Variable}
use Rattle.c_machine.specs.State.{State}
use Rattle.c_machine.specs.Values.{int64, uint64, int64_of, binary, compared, negated, value, numbers}
use Rattle.c_machine.specs.Naming.{name_of, first_named, place_in, ArePlaces}
use Rattle.c_machine.specs.Related.{Pairwise, Fits, word_of, computed, ComputesAs, ValueIs}
use Rattle.c_machine.proofs.Layers.{const_is, read_is, binary_is, compare_is, negate_is}
use Rattle.c_machine.proofs.Fitting.{pointer_to, below_depth, read_fits}

-- Names ---------------------------------------------------------------------------------------------------------------

-- where the first variable with a name stands in a list
pub data FirstIs (vars : List CVar) (name : List ℕ) : Type 0 where
  Nowhere : number_named vars name ≡ None → FirstIs vars name
  At : (number : ℕ) (var : CVar) → number_named vars name ≡ Some number → slice_get vars number ≡ Some var → FirstIs vars name

-- an element within a list
pub record Element {X : Type 0} (xs : List X) (n : ℕ) : Type 0 where
  pub item : X
  pub is : slice_get xs n ≡ Some item

element_at : {X : Type 0} (xs : List X) (n : ℕ) → n < length xs → Element xs n
element_at [] n less = absurd (omega (arith, less))
element_at (x ∷ xs) zero less = record { item = x; is = refl }
element_at (x ∷ xs) (suc n) less = let rest = element_at xs n (omega (arith, less)) in record { item = rest.item; is = rest.is }

pub first_is : (vars : List CVar) (name : List ℕ) → FirstIs vars name
first_is vars name =
    let n = position_or_len (λ (var : CVar). bytes_eq var.name name) vars in
    elim (cases_lt n (length vars)) [
      | inl less ↦ let found = element_at vars n less in At n found.item (ap (λ b. if b then Some n else None) (lt-ltb n (length vars) less)) found.is
      | inr more ↦ Nowhere (ap (λ b. if b then Some n else None) (le-ltb n (length vars) more))
    ]

-- a variable where it stands
abbrev pub numbered : ℕ → CVar → Variable
numbered number var = record { number = number; signed = kind_is_signed var.kind }

module _ (vars : List CVar) (name : List ℕ) where
  -- a name that isn't there
  pub named_nowhere : number_named vars name ≡ None → first_named vars name ≡ None
  named_nowhere none = ap (λ number. option_and_then (λ number. option_map (numbered number) (slice_get vars number)) number) none

  -- a name that is there
  pub named_at : (number : ℕ) (var : CVar) → number_named vars name ≡ Some number → slice_get vars number ≡ Some var → first_named vars name ≡ Some (numbered number var)
  named_at number var some is =
      ap (λ number. option_and_then (λ number. option_map (numbered number) (slice_get vars number)) number) some ∙ ap (option_map (numbered number)) is

  -- its number
  number_of_first : number_named vars name ≡ option_map (λ (variable : Variable). variable.number) (first_named vars name)
  number_of_first = elim (first_is vars name) [
    | Nowhere none ↦ none ∙ sym (ap (option_map (λ (variable : Variable). variable.number)) (named_nowhere none))
    | At number var some is ↦ some ∙ sym (ap (option_map (λ (variable : Variable). variable.number)) (named_at number var some is))
  ]

  -- whether it has a sign
  sign_of_first : option_map (λ (var : CVar). kind_is_signed var.kind) (var_named vars name) ≡ option_map (λ (variable : Variable). variable.signed) (first_named vars name)
  sign_of_first = elim (first_is vars name) [
    | Nowhere none ↦ ap (λ number. option_map (λ (var : CVar). kind_is_signed var.kind) (option_and_then (slice_get vars) number)) none ∙ sym (ap (option_map (λ (variable : Variable). variable.signed)) (named_nowhere none))
    | At number var some is ↦
        ap (λ number. option_map (λ (var : CVar). kind_is_signed var.kind) (option_and_then (slice_get vars) number)) some
        ∙ (ap (option_map (λ (var : CVar). kind_is_signed var.kind)) is
        ∙ sym (ap (option_map (λ (variable : Variable). variable.signed)) (named_at number var some is)))
  ]

-- the sign of one of two variables
sign_in : (local global : Option CVar) (first other : Option Variable) → option_map (λ (var : CVar). kind_is_signed var.kind) local ≡ option_map (λ (variable : Variable). variable.signed) first → option_map (λ (var : CVar). kind_is_signed var.kind) global ≡ option_map (λ (variable : Variable). variable.signed) other → var_is_signed (or_else local global) ≡ (place_in first other).signed
sign_in None None None None h k = refl
sign_in None (Some var) None (Some variable) h k = cc
sign_in (Some var) global (Some variable) other h k = cc
sign_in (Some var) global None other h k = cc
sign_in None global (Some variable) other h k = cc
sign_in None (Some var) None None h k = cc
sign_in None None None (Some variable) h k = cc

-- the pointer to one of two variables
pointer_in : (depth : ℕ) (local global : Option Variable) → or_else
    (option_map (λ number. record { frame = FrameAt (depth - 1); variable = number; path = [] }) (option_map (λ (variable : Variable). variable.number) local))
    (option_map (λ number. record { frame = Globals; variable = number; path = [] }) (option_map (λ (variable : Variable). variable.number) global))
    ≡ pointer_to depth (place_in local global).slot
pointer_in depth (Some local) global = refl
pointer_in depth None (Some global) = refl
pointer_in depth None None = refl

module _ (scope : Scope) (places : List ℕ → Place) (h : ArePlaces scope places) where
  -- the place that a name means
  pub place_fits : (depth : ℕ) (state : State) (memory : Memory) → Fits depth state memory → (name : List ℕ) → place_of scope (Name name) memory ≡ pointer_to depth (places name).slot
  place_fits depth state memory fits name =
      ap₂ (λ local global. or_else
      (option_map (λ number. record { frame = FrameAt (below_last memory.frames); variable = number; path = [] }) local)
      (option_map (λ number. record { frame = Globals; variable = number; path = [] }) global)) (number_of_first scope.locals name) (number_of_first scope.globals name)
      ∙ (ap (λ below. or_else
      (option_map (λ number. record { frame = FrameAt below; variable = number; path = [] }) (option_map (λ (variable : Variable). variable.number) (first_named scope.locals name)))
      (option_map (λ number. record { frame = Globals; variable = number; path = [] }) (option_map (λ (variable : Variable). variable.number) (first_named scope.globals name)))) (below_depth memory.frames depth fits.begun)
      ∙ (pointer_in depth (first_named scope.locals name) (first_named scope.globals name)
      ∙ ap (λ place. pointer_to depth place.slot) (sym (h name))))

  -- whether it has a sign
  sign_fits : (name : List ℕ) → var_is_signed (variable scope name) ≡ (places name).signed
  sign_fits name =
      sign_in (var_named scope.locals name) (var_named scope.globals name) (first_named scope.locals name) (first_named scope.globals name) (sign_of_first scope.locals name) (sign_of_first scope.globals name)
      ∙ ap (λ place. place.signed) (sym (h name))

-- Values --------------------------------------------------------------------------------------------------------------

module _ (t : Trace) (memory : Memory) where
  -- one of two
  if_computes : (b : Bool) (x y : Act Memory c.Word) (o p : Option Word) → x t memory ≡ computed o t memory → y t memory ≡ computed p t memory → choose b x y t memory ≡ computed (if b then o else p) t memory
  if_computes true x y o p h k = h
  if_computes false x y o p h k = k

  -- one after another
  then_computes : (a : Act Memory c.Word) (o : Option Word) (go : c.Word → Act Memory c.Word) (f : Word → Option Word) → a t memory ≡ computed o t memory → ((x : Word) → go (word_of x) t memory ≡ computed (f x) t memory) → (a >>= go) t memory ≡ computed (option_and_then f o) t memory
  then_computes a o go f h k = ap (λ x. step_then x go) h ∙ at o
    where
      at : (o : Option Word) → step_then (computed o t memory) go ≡ computed (option_and_then f o) t memory
      at None = refl
      at (Some x) = k x

  -- a number with a sign
  int64_computes : (n : ℤ) → c.int64 n t memory ≡ computed (int64 n) t memory
  int64_computes n = if_computes (is_int64 n) (pure (record { signed = true; number = n })) c.stuck (Some (record { signed = true; number = n })) None refl refl

  -- an operator on numbers with a sign
  int64_of_computes : (operator : CBinary) (a b : ℤ) → c.int64_of operator a b t memory ≡ computed (int64_of operator a b) t memory
  int64_of_computes Add a b = int64_computes (exact Add a b)
  int64_of_computes Sub a b = int64_computes (exact Sub a b)
  int64_of_computes Mul a b = int64_computes (exact Mul a b)
  int64_of_computes Div a b = int64_computes (exact Div a b)
  int64_of_computes Rem a b = then_computes (c.int64 (int_div a b)) (int64 (int_div a b)) (λ _. c.int64 (int_rem a b)) (λ _. int64 (int_rem a b)) (int64_computes (int_div a b)) (λ x. int64_computes (int_rem a b))

  -- an operator
  binary_computes : (operator : CBinary) (x y : Word) → c.binary operator (word_of x) (word_of y) t memory ≡ computed (binary operator x y) t memory
  binary_computes operator x y =
      if_computes (same x.signed y.signed) (c.binary_at x.signed operator x.number y.number) c.stuck _ None
      (if_computes (divides operator && is_zero y.number) c.stuck (choose x.signed (c.int64_of operator x.number y.number) (c.uint64 (exact operator x.number y.number))) None _ refl
      (if_computes x.signed (c.int64_of operator x.number y.number) (c.uint64 (exact operator x.number y.number)) (int64_of operator x.number y.number) (Some (uint64 (exact operator x.number y.number))) (int64_of_computes operator x.number y.number) refl))
      refl

  -- a comparison
  compared_computes : (comparison : Comparison) (x y : Word) → c.compared comparison (word_of x) (word_of y) t memory ≡ computed (compared comparison x y) t memory
  compared_computes comparison x y = if_computes (same x.signed y.signed) (pure (record { signed = true; number = truth (holds comparison x.number y.number) })) c.stuck (Some (record { signed = true; number = truth (holds comparison x.number y.number) })) None refl refl

  -- a negation
  negated_computes : (x : Word) → c.negated (word_of x) t memory ≡ computed (negated x) t memory
  negated_computes x = if_computes x.signed (c.int64 (neg_ℤ x.number)) c.stuck (int64 (neg_ℤ x.number)) None (int64_computes (neg_ℤ x.number)) refl

  -- a number that is read
  number_computes : (signed : Bool) (o : Option ℤ) → step_then (c.with_some o pure t memory) (λ number. pure (record { signed = signed; number = number })) ≡ computed (option_map (λ number. record { signed = signed; number = number }) o) t memory
  number_computes signed None = refl
  number_computes signed (Some number) = refl

  -- a place that is read
  place_computes : (signed : Bool) (o : Option Pointer) → (c.with_some o pure >>= read_number >>= (λ number. pure (record { signed = signed; number = number }))) t memory ≡ computed (option_map (λ number. record { signed = signed; number = number }) (option_and_then (λ pointer. number_in (c_memory.held pointer memory)) o)) t memory
  place_computes signed None = refl
  place_computes signed (Some pointer) = number_computes signed (number_in (c_memory.held pointer memory))

-- Expressions ---------------------------------------------------------------------------------------------------------

module _ (scope : Scope) where
  -- a constant
  pub const_computes : (signed : Bool) (number : ℕ) → ComputesAs scope (c_expr.Const signed number) (Const signed number)
  const_computes signed number = record { same = λ depth state memory fits t. const_runs scope signed number t memory ∙ sym (ap (λ o. computed o t memory) (const_is signed number state)) }

  -- an operator
  pub binary_computes_as : (operator : CBinary) (left right : CExpr) (l r : Expr) → ComputesAs scope left l → ComputesAs scope right r → ComputesAs scope (c_expr.Binary operator left right) (Binary operator l r)
  binary_computes_as operator left right l r h k = record {
    same = λ depth state memory fits t.
        binary_runs scope operator left right t memory
        ∙ (then_computes t memory (evaluate scope left) (value l state) (λ x. evaluate scope right >>= (λ y. c.binary operator x y)) (λ x. option_and_then (λ y. binary operator x y) (value r state)) (h.same depth state memory fits t)
        (λ x. then_computes t memory (evaluate scope right) (value r state) (λ y. c.binary operator (word_of x) y) (λ y. binary operator x y) (k.same depth state memory fits t) (λ y. binary_computes t memory operator x y))
        ∙ sym (ap (λ o. computed o t memory) (binary_is operator l r state)));
  }

  -- a comparison
  pub compare_computes_as : (comparison : Comparison) (left right : CExpr) (l r : Expr) → ComputesAs scope left l → ComputesAs scope right r → ComputesAs scope (c_expr.Compare comparison left right) (Compare comparison l r)
  compare_computes_as comparison left right l r h k = record {
    same = λ depth state memory fits t.
        compare_runs scope comparison left right t memory
        ∙ (then_computes t memory (evaluate scope left) (value l state) (λ x. evaluate scope right >>= (λ y. c.compared comparison x y)) (λ x. option_and_then (λ y. compared comparison x y) (value r state)) (h.same depth state memory fits t)
        (λ x. then_computes t memory (evaluate scope right) (value r state) (λ y. c.compared comparison (word_of x) y) (λ y. compared comparison x y) (k.same depth state memory fits t) (λ y. compared_computes t memory comparison x y))
        ∙ sym (ap (λ o. computed o t memory) (compare_is comparison l r state)));
  }

  -- a negation
  pub negate_computes_as : (operand : CExpr) (r : Expr) → ComputesAs scope operand r → ComputesAs scope (c_expr.Negate operand) (Negate r)
  negate_computes_as operand r h = record {
    same = λ depth state memory fits t.
        negate_runs scope operand t memory
        ∙ (then_computes t memory (evaluate scope operand) (value r state) c.negated negated (h.same depth state memory fits t) (λ x. negated_computes t memory x)
        ∙ sym (ap (λ o. computed o t memory) (negate_is r state)));
  }

-- a variable
pub read_computes : (scope : Scope) (places : List ℕ → Place) → ArePlaces scope places → (name : List ℕ) → ComputesAs scope (c_expr.Read (Name name)) (Read (places name).slot (places name).signed)
read_computes scope places h name = record {
  same = λ depth state memory fits t.
      let place = places name in
      let read : Bool → Option Pointer → Step Memory c.Word = λ signed o. (c.with_some o pure >>= read_number >>= (λ number. pure (record { signed = signed; number = number }))) t memory
      in read_runs scope (Name name) t memory
      ∙ (ap₂ read (sign_fits scope places h name) (place_fits scope places h depth state memory fits name)
      ∙ (place_computes t memory place.signed (pointer_to depth place.slot)
      ∙ (ap (λ o. computed (option_map (λ number. record { signed = place.signed; number = number }) o) t memory) (read_fits depth state memory fits place.slot)
      ∙ sym (ap (λ o. computed o t memory) (read_is place.slot place.signed state)))));
}

module _ (places : List ℕ → Place) where
  -- expressions where names mean these places
  pub const_value : (signed : Bool) (number : ℕ) → ValueIs places (c_expr.Const signed number) (Const signed number)
  const_value signed number = record { computes = λ scope h. const_computes scope signed number }

  pub read_value : (place : CPlace) → ValueIs places (c_expr.Read place) (Read (places (name_of place)).slot (places (name_of place)).signed)
  read_value (Name name) = record { computes = λ scope h. read_computes scope places h name }

  pub binary_value : (operator : CBinary) (left right : CExpr) (l r : Expr) → ValueIs places left l → ValueIs places right r → ValueIs places (c_expr.Binary operator left right) (Binary operator l r)
  binary_value operator left right l r p q = record { computes = λ scope h. binary_computes_as scope operator left right l r (p.computes scope h) (q.computes scope h) }

  pub compare_value : (comparison : Comparison) (left right : CExpr) (l r : Expr) → ValueIs places left l → ValueIs places right r → ValueIs places (c_expr.Compare comparison left right) (Compare comparison l r)
  compare_value comparison left right l r p q = record { computes = λ scope h. compare_computes_as scope comparison left right l r (p.computes scope h) (q.computes scope h) }

  pub negate_value : (operand : CExpr) (r : Expr) → ValueIs places operand r → ValueIs places (c_expr.Negate operand) (Negate r)
  negate_value operand r p = record { computes = λ scope h. negate_computes_as scope operand r (p.computes scope h) }

-- the same expressions by other names
pub value_same : {places : List ℕ → Place} {e : CExpr} {r : Expr} (other : CExpr) (s : Expr) → e ≡ other → s ≡ r → ValueIs places e r → ValueIs places other s
value_same {places = places} {e = e} {r = r} other s h k is = subst (λ e. ValueIs places e s) h (subst (ValueIs places e) (sym k) is)

-- Arguments -----------------------------------------------------------------------------------------------------------

-- what comes after a value
after_value : {A : Type 0} (t : Trace) (memory : Memory) (a : Act Memory c.Word) (o : Option Word) (go : c.Word → Act Memory A) → a t memory ≡ computed o t memory → (a >>= go) t memory ≡ step_then (computed o t memory) go
after_value t memory a o go h = ap (λ x. step_then x go) h

module _ (scope : Scope) (depth : ℕ) (state : State) (memory : Memory) (fits : Fits depth state memory) (t : Trace) where
  -- one more argument
  more_arguments : (given : Option Word) (others : Option (List ℤ)) (rest : Act Memory (List Tree)) → rest t memory ≡ c.with_some (option_map (map Number) others) pure t memory →
      step_then (computed given t memory) (λ x. rest >>= (λ trees. pure (Number x.number ∷ trees))) ≡ c.with_some (option_map (map Number) (option_and_then (λ (x : Word). option_map (λ others. x.number ∷ others) others) given)) pure t memory
  more_arguments None others rest h = refl
  more_arguments (Some x) None rest h = ap (λ y. step_then y (λ trees. pure (Number x.number ∷ trees))) h
  more_arguments (Some x) (Some numbers) rest h = ap (λ y. step_then y (λ trees. pure (Number x.number ∷ trees))) h

  -- arguments are computed
  pub arguments_compute : (args : List CArg) (resolved : List Expr) → Pairwise (λ arg e. ComputesAs scope (argument_of arg) e) args resolved → arguments scope args t memory ≡ c.with_some (option_map (map Number) (numbers resolved state)) pure t memory
  arguments_compute [] [] h = refl
  arguments_compute (Value e ∷ args) (r ∷ rs) h =
      after_value t memory (evaluate scope e) (value r state) (λ x. arguments scope args >>= (λ rest. pure (Number x.number ∷ rest))) (h.0.same depth state memory fits t)
      ∙ more_arguments (value r state) (numbers rs state) (arguments scope args) (arguments_compute args rs h.1)
  arguments_compute [] (r ∷ rs) h = absurd h
  arguments_compute (arg ∷ args) [] h = absurd h
