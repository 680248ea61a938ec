-- Where a state fits a memory of C, statements do what those of C do.
use Rattle.std.proofs.Common.{◌≡◌, ℕ, zero, suc, ℤ, ◌-◌, List, [], Option, None, Some, map, refl, sym, ap, subst, inr}
use Rattle.std.specs.Prelude.{pos, negsuc, option_map, nat_le}
use Rattle.sl_run.specs.Run.{Stuck, Trace, Act, pure, step_then, ◌>>=◌, ◌>>◌, choose, put, get, round_then, loop}
use Rattle.sl_run.specs.Alike.{AlikeUnless, AnyCopies, Same, NoneExcused}
use Rattle.sl_run.proofs.Alike.{bind_follows, pure_follows, put_follows, get_follows, choose_follows, BothGive, round_then_follows, loop_follows}
use Rattle.c_tree.specs.declared.tree.CArg.{CArg}
use Rattle.c_tree.specs.declared.tree.CExpr.{CExpr}
use Rattle.c_tree.specs.declared.tree.CPlace.{CPlace}
use Rattle.c_tree.specs.declared.tree.CPlace.TheVariants.{Name}
use Rattle.c_tree.specs.Memory.{Globals, FrameAt, Pointer, Tree, Number, Memory}
use Rattle.c_tree.specs.Parts.{argument_of}
use Rattle.c_tree.specs.Scope.{Scope}
use Rattle.sl_run.specs.Statements.{Next, Broke, Returned, after_round, gotten, then_on}
use Rattle.c_tree.specs.Meaning.{Flow, Callees, located, place_of, evaluate, arguments, is_zero, write_number, put_value, block}
use Rattle.c_tree.specs.Meaning as c
use Rattle.c_machine.specs.declared.program.Word.{Word}
use Rattle.c_machine.specs.declared.program.Slot.{Slot}
use Rattle.c_machine.specs.declared.program.Slot.TheVariants.{Local, Global, Undeclared}
use Rattle.c_machine.specs.declared.program.Expr.{Expr}
use Rattle.c_machine.specs.declared.scopes.Place.{Place}
use Rattle.c_machine.specs.State.{State, is_declared}
use Rattle.c_machine.specs.Values.{value, numbers}
use Rattle.c_machine.specs.Meaning.{stuck, with_some, with_value, write, put_number, round, rounds, get_to}
use Rattle.c_machine.specs.Naming.{name_of, ArePlaces}
use Rattle.c_machine.specs.Related.{Pairwise, Fits, GoesAs, word_of, ComputesAs}
use Rattle.c_machine.proofs.Fitting.{pointer_to, stuck_fits, local_fits, global_fits}
use Rattle.c_machine.proofs.Computing.{place_fits, arguments_compute}

module _ (depth : ℕ) where
  -- the same parts by other names
  pub goes_same : {A : Type 0} (a' a : Act State A) (b' b : Act Memory A) → a' ≡ a → b' ≡ b → GoesAs depth a b → GoesAs depth a' b'
  goes_same a' a b' b h k goes = subst (λ a. GoesAs depth a b') (sym h) (subst (GoesAs depth a) (sym k) goes)

  -- one after another
  pub bind_goes : {A B : Type 0} (a : Act State A) (b : Act Memory A) (go : A → Act State B) (go' : A → Act Memory B) → GoesAs depth a b → ((x : A) → GoesAs depth (go x) (go' x)) → GoesAs depth (a >>= go) (b >>= go')
  bind_goes a b go go' h k = bind_follows NoneExcused AnyCopies (Fits depth) Same Same a b go go' h (λ x y e. subst (λ y. GoesAs depth (go x) (go' y)) e (k x))

  -- an undefined case
  pub stuck_goes : (A : Type 0) → GoesAs depth (stuck {A = A}) (c.stuck {A = A})
  stuck_goes A t u s m same fits = inr (ap Stuck (stuck_fits depth s m fits), same)

  -- something that there may not be
  pub some_goes : {A B : Type 0} (o : Option A) (go : A → Act State B) (go' : A → Act Memory B) → ((x : A) → GoesAs depth (go x) (go' x)) → GoesAs depth (with_some o go) (c.with_some o go')
  some_goes {A} {B} None go go' h = stuck_goes B
  some_goes {A} {B} (Some x) go go' h = h x

  -- what comes after something of the state, which C computes
  pub value_goes : {A B C : Type 0} (of : State → Option A) (a : Act Memory B) (same_as : A → B) (go : A → Act State C) (go' : B → Act Memory C) →
      ((s : State) (m : Memory) → Fits depth s m → (u : Trace) → a u m ≡ c.with_some (option_map same_as (of s)) pure u m) →
      ((x : A) → GoesAs depth (go x) (go' (same_as x))) → GoesAs depth (with_value of go) (a >>= go')
  value_goes {A} {B} {C} of a same_as go go' h k t u s m same fits =
      subst (λ x. AlikeUnless NoneExcused AnyCopies (Fits depth) (Same {A = C}) (with_some (of s) go t s) (step_then x go')) (sym (h s m fits u)) (at (of s))
    where
      at : (o : Option A) → AlikeUnless NoneExcused AnyCopies (Fits depth) (Same {A = C}) (with_some o go t s) (step_then (c.with_some (option_map same_as o) pure u m) go')
      at None = stuck_goes C t u s m same fits
      at (Some x) = k x t u s m same fits

  -- what comes after an expression
  pub expr_goes : {A : Type 0} (scope : Scope) (e : CExpr) (r : Expr) (go : Word → Act State A) (go' : c.Word → Act Memory A) → ComputesAs scope e r → ((x : Word) → GoesAs depth (go x) (go' (word_of x))) → GoesAs depth (with_value (value r) go) (evaluate scope e >>= go')
  expr_goes scope e r go go' h k = value_goes (value r) (evaluate scope e) word_of go go' (λ s m fits u. h.same depth s m fits u) k

  -- what comes after arguments
  pub arguments_go : {A : Type 0} (scope : Scope) (args : List CArg) (rs : List Expr) (go : List ℤ → Act State A) (go' : List Tree → Act Memory A) → Pairwise (λ arg e. ComputesAs scope (argument_of arg) e) args rs → ((xs : List ℤ) → GoesAs depth (go xs) (go' (map Number xs))) → GoesAs depth (with_value (numbers rs) go) (arguments scope args >>= go')
  arguments_go scope args rs go go' h k = value_goes (numbers rs) (arguments scope args) (map Number) go go' (λ s m fits u. arguments_compute scope depth s m fits u args rs h) k

  -- a number is stored
  pub write_goes : (slot : Slot) (number : ℤ) (pointer : Pointer) → pointer_to depth slot ≡ Some pointer → GoesAs depth (write slot number) (write_number pointer number)
  write_goes (Local n) number pointer is t u s m same fits =
      let is' : record { frame = FrameAt (depth - 1); variable = n; path = [] } ≡ pointer = cc
      in subst (λ pointer. AlikeUnless NoneExcused AnyCopies (Fits depth) (Same {A = Unit {0}}) (write (Local n) number t s) (write_number pointer number u m)) is' (refl, same, local_fits depth s m fits n number)
  write_goes (Global n) number pointer is t u s m same fits =
      let is' : record { frame = Globals; variable = n; path = [] } ≡ pointer = cc
      in subst (λ pointer. AlikeUnless NoneExcused AnyCopies (Fits depth) (Same {A = Unit {0}}) (write (Global n) number t s) (write_number pointer number u m)) is' (refl, same, global_fits depth s m fits n number)
  write_goes Undeclared number pointer is t u s m same fits = cc

  -- what comes after a place
  pub located_goes : {A : Type 0} (scope : Scope) (places : List ℕ → Place) → ArePlaces scope places → (place : CPlace) (a : Act State A) (go' : Pointer → Act Memory A) → ((pointer : Pointer) → pointer_to depth (places (name_of place)).slot ≡ Some pointer → GoesAs depth a (go' pointer)) → GoesAs depth (choose (is_declared (places (name_of place)).slot) a stuck) (located scope place >>= go')
  located_goes {A} scope places h (Name name) a go' k t u s m same fits =
      subst (λ o. AlikeUnless NoneExcused AnyCopies (Fits depth) (Same {A = A}) (choose (is_declared (places name).slot) a stuck t s) (step_then (c.with_some o pure u m) go')) (sym (place_fits scope places h depth s m fits name)) (at (places name).slot k)
    where
      at : (slot : Slot) → ((pointer : Pointer) → pointer_to depth slot ≡ Some pointer → GoesAs depth a (go' pointer)) → AlikeUnless NoneExcused AnyCopies (Fits depth) (Same {A = A}) (choose (is_declared slot) a stuck t s) (step_then (c.with_some (pointer_to depth slot) pure u m) go')
      at (Local n) k = k _ refl t u s m same fits
      at (Global n) k = k _ refl t u s m same fits
      at Undeclared k = stuck_goes A t u s m same fits

  -- a byte
  pub put_goes : (number : ℤ) → GoesAs depth (put_number number) (put_value number)
  put_goes (pos byte) = choose_follows NoneExcused AnyCopies (Fits depth) Same (nat_le byte 255) (nat_le byte 255) (put byte >> pure Next) stuck (put byte >> pure Next) c.stuck refl
      (bind_goes (put byte) (put byte) (λ _. pure Next) (λ _. pure Next) (put_follows NoneExcused AnyCopies (Fits depth) byte byte refl) (λ _. pure_follows NoneExcused AnyCopies (Fits depth) Same Next Next refl)) (stuck_goes Flow)
  put_goes (negsuc below) = stuck_goes Flow

  -- what comes after a statement
  pub then_on_goes : (a : Act State Flow) (b : Act Memory Flow) (flow : Flow) → GoesAs depth a b → GoesAs depth (then_on a flow) (then_on b flow)
  then_on_goes a b Next h = h
  then_on_goes a b Broke h = pure_follows NoneExcused AnyCopies (Fits depth) Same Broke Broke refl
  then_on_goes a b (Returned value) h = pure_follows NoneExcused AnyCopies (Fits depth) Same (Returned value) (Returned value) refl

  -- the same way of being left, or both go round again
  both_give : (given : Option Flow) → BothGive Same given given
  both_give None = tt
  both_give (Some flow) = refl

  -- a round of a loop, and the loop
  pub loop_goes : (a : Act State Flow) (b : Act Memory Flow) → GoesAs depth a b → GoesAs depth (loop (round a)) (loop (b >>= (λ flow. pure (after_round flow))))
  loop_goes a b h =
      loop_follows NoneExcused AnyCopies (Fits depth) Same (round a) (b >>= (λ flow. pure (after_round flow)))
      (bind_follows NoneExcused AnyCopies (Fits depth) Same (BothGive Same) a b (λ flow. pure (after_round flow)) (λ flow. pure (after_round flow)) h
      (λ x y e. pure_follows NoneExcused AnyCopies (Fits depth) (BothGive Same) (after_round x) (after_round y) (subst (λ y. BothGive Same (after_round x) (after_round y)) e (both_give (after_round x)))))

  -- the rounds of a counted loop
  pub rounds_go : (slot : Slot) (pointer : Pointer) → pointer_to depth slot ≡ Some pointer → (a : Act State Flow) (b : Act Memory Flow) → GoesAs depth a b → (from count : ℕ) → GoesAs depth (rounds slot a from count) (c.rounds pointer b from count)
  rounds_go slot pointer is a b h from zero =
      bind_goes (write slot (pos from)) (write_number pointer (pos from)) (λ _. pure Next) (λ _. pure Next) (write_goes slot (pos from) pointer is) (λ _. pure_follows NoneExcused AnyCopies (Fits depth) Same Next Next refl)
  rounds_go slot pointer is a b h from (suc count) =
      let go : Flow → Act State Flow = λ flow. round_then (after_round flow) (rounds slot a (suc from) count) in
      let go' : Flow → Act Memory Flow = λ flow. round_then (after_round flow) (c.rounds pointer b (suc from) count) in
      bind_goes (write slot (pos from)) (write_number pointer (pos from)) (λ _. a >>= go) (λ _. b >>= go') (write_goes slot (pos from) pointer is)
      (λ _. bind_goes a b go go' h
      (λ flow. round_then_follows NoneExcused AnyCopies (Fits depth) Same (after_round flow) (after_round flow) (rounds slot a (suc from) count) (c.rounds pointer b (suc from) count) (both_give (after_round flow)) (rounds_go slot pointer is a b h (suc from) count)))

  -- a byte of the input that is stored
  pub get_goes : (slot : Slot) (pointer : Pointer) → pointer_to depth slot ≡ Some pointer → GoesAs depth (get_to slot) (get >>= (λ answer. write_number pointer (gotten answer)))
  get_goes slot pointer is =
      bind_goes get get (λ answer. write slot (gotten answer)) (λ answer. write_number pointer (gotten answer)) (get_follows NoneExcused AnyCopies (Fits depth)) (λ answer. write_goes slot (gotten answer) pointer is)
