-- What the C of an operation does: it computes what the operation gives, or halts as it does.
use Rattle.std.proofs.Common.{◌≡◌, ◌≢◌, ℕ, suc, ◌+◌, ◌<◌, List, [], ◌∷◌, length, Bool, true, false, Some, refl, sym, ap, ◌∙◌, subst, arith, if◌then◌else◌, codes, eqb-true}
use Rattle.std.specs.Prelude.{ℤ, pos, negsuc, neg_ℤ, ◌+ℤ◌, ◌-ℤ◌, ◌*ℤ◌, int_div, int_rem, Result, Ok, Err, slice_get, slice_set}
use Rattle.std.proofs.lemmas.Int.{ints}
use Rattle.std.proofs.lemmas.List.{length-set}
use Rattle.sl_num.specs.declared.arithmetic.Op.{Op}
use Rattle.sl_num.specs.declared.arithmetic.Op.TheVariants.{Add, Sub, Mul, Div, Rem, Neg}
use Rattle.sl_num.specs.declared.arithmetic.Halt.{Halt}
use Rattle.sl_num.specs.declared.arithmetic.Halt.TheVariants.{Range, Zero}
use Rattle.sl_num.specs.declared.comparing.Comparison.TheVariants.{Equal}
use Rattle.sl_num.specs.Arithmetic.{in_type, applied}
use Rattle.sl_num.specs.Comparing.{holds, truth}
use Rattle.sl_core.specs.Meaning.{halt_number}
use Rattle.c_tree.specs.declared.tree.CExpr.{CExpr}
use Rattle.c_tree.specs.declared.tree.CExpr.TheVariants.{Binary}
use Rattle.c_tree.specs.declared.tree.CBinary.TheVariants as binary
use Rattle.c_tree.specs.declared.tree.CStmt.{CStmt}
use Rattle.c_tree.specs.Memory.{Tree, Number}
use Rattle.c_tree.specs.Meaning.{is_int64, is_zero}
use Rattle.c_tree.proofs.Running.{const_runs, binary_runs, compare_runs, if_runs, halt_runs}
use Rattle.c_helpers.specs.Functions.{constant}
use Rattle.c_helpers.proofs.Sums.{bounds}
use Rattle.c_helpers.proofs.Quotients.{not_zero, remainder_fits, is_same, is_other}
use Rattle.sl_frames.specs.Names.{variable_name, temporary_name}
use Rattle.sl_frames.specs.Translated.{temporary, halt_at_zero, call_helper, set_temporary, where_it_fits, operate}
use Rattle.sl_frames.specs.Promise.{int64_type}
use Rattle.sl_core.proofs.Slots.{get_set_same, SameBelow, same_below, set_below, then_below}
use Rattle.sl_frames.proofs.Meaning.Frames.{Where, Has, Makes, Does, Halts, Named, does_none, does_one, makes_halts, has_variable, makes_assigned, makes_called}
use Rattle.sl_frames.proofs.Meaning.Helped.{Gives, Helps}

-- so many variables, and then so many temporaries, have their names, and calls of the inline functions do what they should
pub record Ready (w : Where) (variables temporaries : ℕ) : Type 0 where
  pub variable : (number : ℕ) → number < variables → Named w (variable_name number) number
  pub temporary : (number : ℕ) → number < temporaries → Named w (temporary_name number) (variables + number)
  pub helps : Helps w.call

-- an expression has this number, whatever stands from a place on
pub record Stays (w : Where) (limit : ℕ) (vars : List Tree) (e : CExpr) (number : ℤ) : Type 0 where
  pub stays : (other : List Tree) → SameBelow limit vars other → Has w other e number

-- Tests ---------------------------------------------------------------------------------------------------------------

equal_zero : (number : ℤ) → holds Equal number (pos 0) ≡ is_zero number
equal_zero number = at (holds Equal number (pos 0)) refl
  where
    at : (same : Bool) → holds Equal number (pos 0) ≡ same → holds Equal number (pos 0) ≡ is_zero number
    at true is = is ∙ sym (ap is_zero (is_same number (pos 0) is))
    at false is = is ∙ sym (not_zero number (is_other number (pos 0) is))

is_zero_pos : (number : ℤ) → is_zero number ≡ true → number ≡ pos 0
is_zero_pos (pos n) h = ap pos (eqb-true n 0 h)
is_zero_pos (negsuc n) h = let bad : suc n ≡ 0 = eqb-true (suc n) 0 h in absurd (omega arith)

module _ (w : Where) (vars : List Tree) (e : CExpr) (number : ℤ) (value : Has w vars e number) (kind file line : ℕ) where
  -- a test that a number isn't zero goes on
  pub passes_zero : is_zero number ≡ false → Makes w (halt_at_zero e kind file line) vars vars
  passes_zero other = record { makes = λ t. simp (if_runs, compare_runs, const_runs, value.has, equal_zero number, other) }

  -- and halts where it is
  pub halts_zero : (stmts : List CStmt) → is_zero number ≡ true → Halts w (halt_at_zero e kind file line ∷ stmts) vars kind file line
  halts_zero stmts is = record { halts = λ t. simp (if_runs, compare_runs, const_runs, value.has, equal_zero number, is, halt_runs) }

-- Operations ----------------------------------------------------------------------------------------------------------

-- what the C of an operation did, whose result stands at a place
pub data Operated (w : Where) (stmts : List CStmt) (place : ℕ) (vars : List Tree) (file line : ℕ) (result : Result ℤ Halt) : Type 0 where
  Computed : (number : ℤ) (after : List Tree) → result ≡ Ok number → is_int64 number ≡ true → Does w stmts vars after → SameBelow place vars after → slice_get after place ≡ Some (Number number) → Operated w stmts place vars file line result
  Halted : (halt : Halt) → result ≡ Err halt → Halts w stmts vars (halt_number halt) file line → Operated w stmts place vars file line result

module _ (w : Where) (variables temporaries : ℕ) (ready : Ready w variables temporaries) (number : ℕ) (below : number < temporaries) (vars : List Tree) (long : length vars ≡ variables + temporaries) (file line : ℕ) (l r : CExpr) (a b : ℤ) where
  -- the variables with a number in the temporary
  abbrev filled : List Tree → ℤ → List Tree
  filled vars value = slice_set vars (variables + number) (Number value)

  -- what stands in it then
  in_filled : (vars : List Tree) → length vars ≡ variables + temporaries → (value : ℤ) → slice_get (filled vars value) (variables + number) ≡ Some (Number value)
  in_filled vars long value = get_set_same vars (variables + number) (Number value) (omega arith)

  filled_below : (vars : List Tree) (value : ℤ) → SameBelow (variables + number) vars (filled vars value)
  filled_below vars value = set_below (variables + number) (variables + number) vars (Number value) (omega arith)

  filled_long : (vars : List Tree) (value : ℤ) → length vars ≡ variables + temporaries → length (filled vars value) ≡ variables + temporaries
  filled_long vars value is = length-set vars (variables + number) (Number value) ∙ is

  -- the temporary has what stands in it
  has_filled : (vars : List Tree) → length vars ≡ variables + temporaries → (value : ℤ) → Has w (filled vars value) (temporary number) value
  has_filled vars long value = has_variable w (temporary_name number) (variables + number) (ready.temporary number below) (filled vars value) value (in_filled vars long value)

  module _ (left : Stays w (variables + number) vars l a) (right : Stays w (variables + number) vars r b) where
    -- a helper is called, whose answer stands in the temporary
    calls_helper : (name : List ℕ) (answer : ℤ) → is_int64 a ≡ true → is_int64 b ≡ true → Gives w.call name a b answer → Makes w (call_helper number name l r) vars (filled vars answer)
    calls_helper name answer p q given =
        makes_called w (temporary_name number) (variables + number) (ready.temporary number below) vars name l r a b answer
        (left.stays vars (same_below (variables + number) vars)) (right.stays vars (same_below (variables + number) vars)) (given p q)

    module _ (p : is_int64 a ≡ true) (q : is_int64 b ≡ true) (name : List ℕ) (result : CExpr) (x : ℤ) (given : Gives w.call name a b (truth (is_int64 x))) (computes : is_int64 x ≡ true → Stays w (variables + number) vars result x) where
      twice : (answer : ℤ) → SameBelow (variables + number) vars (filled (filled vars answer) x)
      twice answer = then_below (variables + number) (variables + number) vars (filled vars answer) (filled (filled vars answer) x) (omega arith) (filled_below vars answer) (filled_below (filled vars answer) x)

      answered : (fits : Bool) → is_int64 x ≡ fits → Makes w (call_helper number name l r) vars (filled vars (truth fits))
      answered fits is = subst (λ (fits : Bool). Makes w (call_helper number name l r) vars (filled vars (truth fits))) is (calls_helper name (truth (is_int64 x)) p q given)

      fitting_by : (fits : Bool) → is_int64 x ≡ fits → Operated w (where_it_fits number name l r file line result) (variables + number) vars file line (in_type int64_type x)
      fitting_by true is =
          let first : List Tree = filled vars (pos 1) in
          Computed x (filled first x) (ap (λ (fits : Bool). if fits then Ok x else Err Range) is) is
          (does_one w (call_helper number name l r) _ vars first (filled first x) (answered true is)
          (does_one w (halt_at_zero (temporary number) 3 file line) _ first first (filled first x) (passes_zero w first (temporary number) (pos 1) (has_filled vars long (pos 1)) 3 file line refl)
          (does_one w (set_temporary number result) [] first (filled first x) (filled first x)
          (makes_assigned w (temporary_name number) (variables + number) (ready.temporary number below) first result x ((computes is).stays first (filled_below vars (pos 1))))
          (does_none w (filled first x)))))
          (twice (pos 1))
          (in_filled first (filled_long vars (pos 1) long) x)
      fitting_by false is =
          let first : List Tree = filled vars (pos 0) in
          Halted Range (ap (λ (fits : Bool). if fits then Ok x else Err Range) is)
          (makes_halts w (call_helper number name l r) _ vars first 3 file line (answered false is)
          (halts_zero w first (temporary number) (pos 0) (has_filled vars long (pos 0)) 3 file line _ refl))

      -- a result that a helper tells to be in the type is computed, and else the run halts
      fitting : Operated w (where_it_fits number name l r file line result) (variables + number) vars file line (in_type int64_type x)
      fitting = fitting_by (is_int64 x) refl

-- a constant has its number
pub stays_constant : (w : Where) (limit : ℕ) (vars : List Tree) (number : ℕ) → Stays w limit vars (constant number) (pos number)
stays_constant w limit vars number = record { stays = λ other same. record { has = λ t. simp const_runs } }

minus_is : (a : ℤ) → pos 0 -ℤ a ≡ neg_ℤ a
minus_is a = omega (arith, ints)

module _ (w : Where) (variables temporaries : ℕ) (ready : Ready w variables temporaries) (number : ℕ) (below : number < temporaries) (vars : List Tree) (long : length vars ≡ variables + temporaries) (file line : ℕ) (l r : CExpr) (a b : ℤ) (left : Stays w (variables + number) vars l a) (right : Stays w (variables + number) vars r b) (p : is_int64 a ≡ true) (q : is_int64 b ≡ true) where
  abbrev Operates : Op → Type 0
  Operates op = Operated w (operate op number l r file line) (variables + number) vars file line (applied int64_type op a b)

  fitted : (name : List ℕ) (result : CExpr) (x : ℤ) → Gives w.call name a b (truth (is_int64 x)) → (is_int64 x ≡ true → Stays w (variables + number) vars result x) → Operated w (where_it_fits number name l r file line result) (variables + number) vars file line (in_type int64_type x)
  fitted name result x given computes = fitting w variables temporaries ready number below vars long file line l r a b left right p q name result x given computes

  stays_sum : is_int64 (a +ℤ b) ≡ true → Stays w (variables + number) vars (Binary binary.Add l r) (a +ℤ b)
  stays_sum fits = record { stays = λ other same. let first = left.stays other same in let second = right.stays other same in record { has = λ t. simp (binary_runs, first.has, second.has, fits) } }

  stays_difference : is_int64 (a -ℤ b) ≡ true → Stays w (variables + number) vars (Binary binary.Sub l r) (a -ℤ b)
  stays_difference fits = record { stays = λ other same. let first = left.stays other same in let second = right.stays other same in record { has = λ t. simp (binary_runs, first.has, second.has, fits) } }

  stays_product : is_int64 (a *ℤ b) ≡ true → Stays w (variables + number) vars (Binary binary.Mul l r) (a *ℤ b)
  stays_product fits = record { stays = λ other same. let first = left.stays other same in let second = right.stays other same in record { has = λ t. simp (binary_runs, first.has, second.has, fits) } }

  stays_quotient : is_zero b ≡ false → is_int64 (int_div a b) ≡ true → Stays w (variables + number) vars (Binary binary.Div l r) (int_div a b)
  stays_quotient some fits = record { stays = λ other same. let first = left.stays other same in let second = right.stays other same in record { has = λ t. simp (binary_runs, first.has, second.has, some, fits) } }

  not_none : is_zero b ≡ false → b ≢ pos 0
  not_none some is = let bad : true ≡ false = sym (ap is_zero is) ∙ some in cc

  -- a divisor that is zero halts
  divisor_zero : (stmts : List CStmt) (otherwise : Result ℤ Halt) → is_zero b ≡ true → Operated w (halt_at_zero r 4 file line ∷ stmts) (variables + number) vars file line (if is_zero b then Err Zero else otherwise)
  divisor_zero stmts otherwise is =
      Halted Zero (ap (λ (zero : Bool). if zero then Err Zero else otherwise) is)
      (halts_zero w vars r b (right.stays vars (same_below (variables + number) vars)) 4 file line stmts is)

  -- behind any other
  behind_divisor : (stmts : List CStmt) (otherwise : Result ℤ Halt) → is_zero b ≡ false → Operated w stmts (variables + number) vars file line otherwise → Operated w (halt_at_zero r 4 file line ∷ stmts) (variables + number) vars file line (if is_zero b then Err Zero else otherwise)
  behind_divisor stmts otherwise some (Computed x after is fits does same there) =
      Computed x after (ap (λ (zero : Bool). if zero then Err Zero else otherwise) some ∙ is) fits
      (does_one w (halt_at_zero r 4 file line) stmts vars vars after (passes_zero w vars r b (right.stays vars (same_below (variables + number) vars)) 4 file line some) does)
      same there
  behind_divisor stmts otherwise some (Halted halt is halts) =
      Halted halt (ap (λ (zero : Bool). if zero then Err Zero else otherwise) some ∙ is)
      (makes_halts w (halt_at_zero r 4 file line) stmts vars vars (halt_number halt) file line (passes_zero w vars r b (right.stays vars (same_below (variables + number) vars)) 4 file line some) halts)

  quotient_by : (zero : Bool) → is_zero b ≡ zero → Operates Div
  quotient_by true is = divisor_zero _ (in_type int64_type (int_div a b)) is
  quotient_by false is =
      behind_divisor _ (in_type int64_type (int_div a b)) is
      (fitted (codes "sl_quotient_fits") (Binary binary.Div l r) (int_div a b) (ready.helps.quotient a b (not_none is)) (stays_quotient is))

  remainder_by : (zero : Bool) → is_zero b ≡ zero → Operates Rem
  remainder_by true is = divisor_zero _ (in_type int64_type (int_rem a b)) is
  remainder_by false is =
      let rest_fits : is_int64 (int_rem a b) ≡ true = remainder_fits a b (bounds a p) in
      let after : List Tree = slice_set vars (variables + number) (Number (int_rem a b)) in
      behind_divisor (call_helper number (codes "sl_remainder") l r ∷ []) (in_type int64_type (int_rem a b)) is
      (Computed (int_rem a b) after (ap (λ (fits : Bool). if fits then Ok (int_rem a b) else Err Range) rest_fits) rest_fits
      (does_one w (call_helper number (codes "sl_remainder") l r) [] vars after after
      (calls_helper w variables temporaries ready number below vars long file line l r a b left right (codes "sl_remainder") (int_rem a b) p q (ready.helps.rest a b (not_none is)))
      (does_none w after))
      (set_below (variables + number) (variables + number) vars (Number (int_rem a b)) (omega arith))
      (get_set_same vars (variables + number) (Number (int_rem a b)) (omega arith)))

module _ (w : Where) (variables temporaries : ℕ) (ready : Ready w variables temporaries) (number : ℕ) (below : number < temporaries) (vars : List Tree) (long : length vars ≡ variables + temporaries) (file line : ℕ) (l r : CExpr) (a b : ℤ) (left : Stays w (variables + number) vars l a) (right : Stays w (variables + number) vars r b) (p : is_int64 a ≡ true) (q : is_int64 b ≡ true) where
  -- the C of an operation on two numbers does what the operation does
  pub operated : (op : Op) → Operated w (operate op number l r file line) (variables + number) vars file line (applied int64_type op a b)
  operated Add = fitted w variables temporaries ready number below vars long file line l r a b left right p q (codes "sl_sum_fits") (Binary binary.Add l r) (a +ℤ b) (ready.helps.sum a b) (stays_sum w variables temporaries ready number below vars long file line l r a b left right p q)
  operated Sub = fitted w variables temporaries ready number below vars long file line l r a b left right p q (codes "sl_difference_fits") (Binary binary.Sub l r) (a -ℤ b) (ready.helps.difference a b) (stays_difference w variables temporaries ready number below vars long file line l r a b left right p q)
  operated Mul = fitted w variables temporaries ready number below vars long file line l r a b left right p q (codes "sl_product_fits") (Binary binary.Mul l r) (a *ℤ b) (ready.helps.product a b) (stays_product w variables temporaries ready number below vars long file line l r a b left right p q)
  operated Div = quotient_by w variables temporaries ready number below vars long file line l r a b left right p q (is_zero b) refl
  operated Rem = remainder_by w variables temporaries ready number below vars long file line l r a b left right p q (is_zero b) refl
  operated Neg =
      subst (λ (x : ℤ). Operated w (operate Neg number l r file line) (variables + number) vars file line (in_type int64_type x)) (minus_is a)
      (fitted w variables temporaries ready number below vars long file line (constant 0) l (pos 0) a (stays_constant w (variables + number) vars 0) left refl p
      (codes "sl_difference_fits") (Binary binary.Sub (constant 0) l) (pos 0 -ℤ a) (ready.helps.difference (pos 0) a)
      (stays_difference w variables temporaries ready number below vars long file line (constant 0) l (pos 0) a (stays_constant w (variables + number) vars 0) left refl p))
