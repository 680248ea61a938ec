-- Resolved statements do what those of C do, one variant at a time.
use Rattle.std.proofs.Common.{◌≡◌, ℕ, ℤ, List, [], ◌∷◌, Option, None, Some, map, Bool, true, false, not, refl, sym, ◌∙◌}
use Rattle.sl_run.specs.Run.{Trace, Step, Act, pure, over, step_then, ◌>>=◌, ◌>>◌, choose, get, loop}
use Rattle.sl_run.specs.Run as run
use Rattle.sl_run.specs.Alike.{AnyCopies, Same, NoneExcused}
use Rattle.sl_run.proofs.Alike.{pure_follows, over_follows, choose_follows}
use Rattle.sl_run.proofs.Then.{bind_assoc}
use Rattle.c_tree.specs.declared.tree.CArg.{CArg}
use Rattle.c_tree.specs.declared.tree.CExpr.{CExpr}
use Rattle.c_tree.specs.declared.tree.CPlace.{CPlace}
use Rattle.c_tree.specs.declared.tree.CPlace.TheVariants.{Name}
use Rattle.c_tree.specs.declared.tree.CStmt.{CStmt}
use Rattle.c_tree.specs.declared.tree.CStmt.TheVariants as c_stmt
use Rattle.c_tree.specs.Memory.{Number, Pointer, Memory}
use Rattle.c_tree.specs.Parts.{argument_of}
use Rattle.c_tree.specs.Scope.{Scope}
use Rattle.sl_run.specs.Statements.{Next, Broke, Returned, after_round, gotten, then_on, in_order}
use Rattle.c_tree.specs.Meaning.{Flow, Callees, located, evaluate, arguments, is_zero, write_number, put_value, block}
use Rattle.c_tree.specs.Meaning as c
use Rattle.c_tree.proofs.Equations as c_is
use Rattle.c_machine.specs.declared.program.Expr.{Expr}
use Rattle.c_machine.specs.declared.program.Slot.{Slot}
use Rattle.c_machine.specs.declared.program.Stmt.{Stmt}
use Rattle.c_machine.specs.declared.program.Stmt.TheVariants as stmt
use Rattle.c_machine.specs.declared.scopes.Place.{Place}
use Rattle.c_machine.specs.declared.scopes.Callee.{Callee}
use Rattle.c_machine.specs.declared.scopes.Callee.TheVariants.{Numbered, Inline, Unknown}
use Rattle.c_machine.specs.State.{State, is_declared}
use Rattle.c_machine.specs.Values.{value, numbers}
use Rattle.c_machine.specs.Meaning.{stuck, with_some, with_value, Calls, write, store_result, has_target, call_to, put_number, round, rounds, get_to, returned, meaning}
use Rattle.c_machine.specs.Naming.{name_of, ArePlaces}
use Rattle.c_machine.specs.Related.{Pairwise, Fits, GoesAs, ComputesAs, ValueIs, ArgumentsAre, call_of, AreCallees, DoesAs, DoAs, target_slot, call_stmt}
use Rattle.c_machine.proofs.Layers.{assign_is, call_is, inline_is, undefined_is, if_is, loop_is, count_is, break_is, return_is, put_is, get_is, halt_is}
use Rattle.c_machine.proofs.Going.{goes_same, bind_goes, some_goes, expr_goes, arguments_go, write_goes, located_goes, put_goes, then_on_goes, loop_goes, rounds_go, get_goes}

-- Calls ---------------------------------------------------------------------------------------------------------------

-- a call that leads nowhere is undefined, whatever its arguments are
nothing_called : (o : Option (List ℤ)) (go : Option ℤ → Act State (Unit {0})) (t : Trace) (s : State) → step_then (step_then (with_some o (λ _. stuck) t s) go) (λ _. pure Next) ≡ stuck {A = Flow} t s
nothing_called None go t s = refl
nothing_called (Some xs) go t s = refl

nowhere_called : (target : Option Slot) (arguments : List Expr) (b : Bool) (t : Trace) (s : State) → choose b (with_value (numbers arguments) (λ _. stuck) >>= store_result target >> pure Next) stuck t s ≡ stuck {A = Flow} t s
nowhere_called target arguments true t s = nothing_called (numbers arguments s) (store_result target) t s
nowhere_called target arguments false t s = refl

-- the statement of a call does the call
call_stmt_is : (target : Option Slot) (arguments : List Expr) (callee : Callee) (call : Calls) → meaning (call_stmt target arguments callee) call ≡ call_to target arguments (call_of callee call)
call_stmt_is target arguments (Numbered number) call = call_is call target arguments number
call_stmt_is target arguments (Inline function) call = inline_is call target arguments function.vars function.gives function.body
call_stmt_is target arguments Unknown call = undefined_is call ∙ sym (λ k t s. nowhere_called target arguments (has_target target) t s k)

module _ (depth : ℕ) (scope : Scope) (places : List ℕ → Place) (h : ArePlaces scope places) where
  -- the values of arguments
  arguments_in : (args : List CArg) (rs : List Expr) → ArgumentsAre places args rs → Pairwise (λ arg e. ComputesAs scope (argument_of arg) e) args rs
  arguments_in [] [] are = tt
  arguments_in (arg ∷ args) (r ∷ rs) are = (are.0.computes scope h, arguments_in args rs are.1)
  arguments_in [] (r ∷ rs) are = absurd are
  arguments_in (arg ∷ args) [] are = absurd are

  -- a call, given what it leads to
  call_goes : (target : Option CPlace) (name : List ℕ) (args : List CArg) (rs : List Expr) (f : List ℤ → Act State (Option ℤ)) (by_name : Callees) → ArgumentsAre places args rs → ((xs : List ℤ) → GoesAs depth (f xs) (by_name name (map Number xs))) → GoesAs depth (call_to (target_slot places target) rs f) (c.call_to scope target name args by_name)
  call_goes None name args rs f by_name are k =
      goes_same depth (with_value (numbers rs) f >>= store_result None >> pure Next) (with_value (numbers rs) f >>= (λ given. store_result None given >> pure Next)) (arguments scope args >>= by_name name >> pure Next) (arguments scope args >>= by_name name >> pure Next) (bind_assoc (with_value (numbers rs) f) (store_result None) (λ _. pure Next)) refl
      (bind_goes depth (with_value (numbers rs) f) (arguments scope args >>= by_name name) (λ given. store_result None given >> pure Next) (λ _. pure Next)
      (arguments_go depth scope args rs f (by_name name) (arguments_in args rs are) k)
      (λ given. pure_follows NoneExcused AnyCopies (Fits depth) Same Next Next refl))
  call_goes (Some place) name args rs f by_name are k =
      let slot = (places (name_of place)).slot in
      let stored = with_value (numbers rs) f >>= store_result (Some slot) >> pure Next in
      let call : Pointer → Act Memory (Unit {0}) = λ pointer. arguments scope args >>= by_name name >>= c.store_result pointer
      in goes_same depth (choose (is_declared slot) stored stuck) (choose (is_declared slot) stored stuck) (located scope place >>= call >> pure Next) (located scope place >>= (λ pointer. call pointer >> pure Next)) refl (bind_assoc (located scope place) call (λ _. pure Next))
      (located_goes depth scope places h place stored (λ pointer. call pointer >> pure Next) (λ pointer is.
      bind_goes depth (with_value (numbers rs) f >>= store_result (Some slot)) (call pointer) (λ _. pure Next) (λ _. pure Next)
      (bind_goes depth (with_value (numbers rs) f) (arguments scope args >>= by_name name) (store_result (Some slot)) (c.store_result pointer)
      (arguments_go depth scope args rs f (by_name name) (arguments_in args rs are) k)
      (λ given. some_goes depth given (write slot) (write_number pointer) (λ number. write_goes depth slot number pointer is)))
      (λ _. pure_follows NoneExcused AnyCopies (Fits depth) Same Next Next refl)))

-- the call of C
c_call_is : (scope : Scope) (by_name : Callees) (target : Option CPlace) (name : List ℕ) (args : List CArg) → c.meaning scope (c_stmt.Call target name args) by_name ≡ c.call_to scope target name args by_name
c_call_is scope by_name None name args = c_is.call_is scope by_name name args
c_call_is scope by_name (Some place) name args = c_is.call_to_is scope by_name place name args

module _ (places : List ℕ → Place) (callees : List ℕ → Callee) where
  -- a call
  pub call_does : (target : Option CPlace) (name : List ℕ) (args : List CArg) (rs : List Expr) → ArgumentsAre places args rs → DoesAs places callees (c_stmt.Call target name args) (call_stmt (target_slot places target) rs (callees name))
  call_does target name args rs are = record {
    goes = λ scope h call by_name lead depth.
        goes_same depth _ (call_to (target_slot places target) rs (call_of (callees name) call)) _ (c.call_to scope target name args by_name)
        (call_stmt_is (target_slot places target) rs (callees name) call) (c_call_is scope by_name target name args)
        (call_goes depth scope places h target name args rs (call_of (callees name) call) by_name are (λ xs. lead name depth xs));
  }

  -- an assignment
  pub assign_does : (place : CPlace) (e : CExpr) (r : Expr) → ValueIs places e r → DoesAs places callees (c_stmt.Assign place e) (stmt.Assign (places (name_of place)).slot r)
  assign_does place e r is = record {
    goes = λ scope h call by_name lead depth.
        let slot = (places (name_of place)).slot in
        let stored = with_value (value r) (λ x. write slot x.number) >> pure Next in
        let go : Pointer → Act Memory (Unit {0}) = λ pointer. evaluate scope e >>= (λ x. write_number pointer x.number)
        in goes_same depth _ (choose (is_declared slot) stored stuck) _ (located scope place >>= (λ pointer. go pointer >> pure Next))
        (assign_is call slot r) (c_is.assign_is scope by_name place e ∙ bind_assoc (located scope place) go (λ _. pure Next))
        (located_goes depth scope places h place stored (λ pointer. go pointer >> pure Next) (λ pointer at.
        bind_goes depth (with_value (value r) (λ x. write slot x.number)) (go pointer) (λ _. pure Next) (λ _. pure Next)
        (expr_goes depth scope e r (λ x. write slot x.number) (λ x. write_number pointer x.number) (is.computes scope h) (λ x. write_goes depth slot x.number pointer at))
        (λ _. pure_follows NoneExcused AnyCopies (Fits depth) Same Next Next refl)));
  }

  -- a return without a value
  pub return_none_does : DoesAs places callees (c_stmt.Return None) (stmt.Return None)
  return_none_does = record {
    goes = λ scope h call by_name lead depth.
        goes_same depth _ (pure (Returned None)) _ (pure (Returned None)) (return_is call None) (c_is.return_none_is scope by_name) (pure_follows NoneExcused AnyCopies (Fits depth) Same (Returned None) (Returned None) refl);
  }

  -- a return with a value
  pub return_does : (e : CExpr) (r : Expr) → ValueIs places e r → DoesAs places callees (c_stmt.Return (Some e)) (stmt.Return (Some r))
  return_does e r is = record {
    goes = λ scope h call by_name lead depth.
        goes_same depth _ (returned (Some r)) _ (c.returned scope (Some e)) (return_is call (Some r)) (c_is.return_is scope by_name e)
        (expr_goes depth scope e r (λ x. pure (Returned (Some x.number))) (λ x. pure (Returned (Some x.number))) (is.computes scope h) (λ x. pure_follows NoneExcused AnyCopies (Fits depth) Same (Returned (Some x.number)) (Returned (Some x.number)) refl));
  }

  -- a byte
  pub put_does : (e : CExpr) (r : Expr) → ValueIs places e r → DoesAs places callees (c_stmt.Put e) (stmt.Put r)
  put_does e r is = record {
    goes = λ scope h call by_name lead depth.
        goes_same depth _ (with_value (value r) (λ x. put_number x.number)) _ (evaluate scope e >>= (λ x. put_value x.number)) (put_is call r) (c_is.put_is scope by_name e)
        (expr_goes depth scope e r (λ x. put_number x.number) (λ x. put_value x.number) (is.computes scope h) (λ x. put_goes depth x.number));
  }

  -- a byte of the input
  pub get_does : (place : CPlace) → DoesAs places callees (c_stmt.Get place) (stmt.Get (places (name_of place)).slot)
  get_does place = record {
    goes = λ scope h call by_name lead depth.
        let slot = (places (name_of place)).slot in
        let go : Pointer → Act Memory (Unit {0}) = λ pointer. get >>= (λ answer. write_number pointer (gotten answer))
        in goes_same depth _ (choose (is_declared slot) (get_to slot >> pure Next) stuck) _ (located scope place >>= (λ pointer. go pointer >> pure Next))
        (get_is call slot) (c_is.get_is scope by_name place ∙ bind_assoc (located scope place) go (λ _. pure Next))
        (located_goes depth scope places h place (get_to slot >> pure Next) (λ pointer. go pointer >> pure Next) (λ pointer at.
        bind_goes depth (get_to slot) (go pointer) (λ _. pure Next) (λ _. pure Next) (get_goes depth slot pointer at)
        (λ _. pure_follows NoneExcused AnyCopies (Fits depth) Same Next Next refl)));
  }

  -- the end of a loop
  pub break_does : DoesAs places callees c_stmt.Break stmt.Break
  break_does = record {
    goes = λ scope h call by_name lead depth.
        goes_same depth _ (pure Broke) _ (pure Broke) (break_is call) (c_is.break_is scope by_name) (pure_follows NoneExcused AnyCopies (Fits depth) Same Broke Broke refl);
  }

  -- a halt
  pub halt_does : (kind file line : ℕ) → DoesAs places callees (c_stmt.Halt kind file line) (stmt.Halt kind file line)
  halt_does kind file line = record {
    goes = λ scope h call by_name lead depth.
        goes_same depth _ (over (run.Halt kind file line)) _ (over (run.Halt kind file line)) (halt_is call kind file line) (c_is.halt_is scope by_name kind file line) (over_follows NoneExcused AnyCopies (Fits depth) (Same {A = Flow}) (run.Halt kind file line) (run.Halt kind file line) refl);
  }

  module _ (scope : Scope) (h : ArePlaces scope places) (call : Calls) (by_name : Callees) (lead : AreCallees callees call by_name) (depth : ℕ) where
    -- statements in order
    pub block_goes : (stmts : List CStmt) (rs : List Stmt) → DoAs places callees stmts rs → GoesAs depth (in_order (map meaning rs) call) (block scope stmts by_name)
    block_goes [] [] are = pure_follows NoneExcused AnyCopies (Fits depth) Same Next Next refl
    block_goes (s ∷ stmts) (r ∷ rs) are =
        bind_goes depth (meaning r call) (c.meaning scope s by_name) (then_on (in_order (map meaning rs) call)) (then_on (block scope stmts by_name)) (are.0.goes scope h call by_name lead depth)
        (λ flow. then_on_goes depth (in_order (map meaning rs) call) (block scope stmts by_name) flow (block_goes stmts rs are.1))
    block_goes [] (r ∷ rs) are = absurd are
    block_goes (s ∷ stmts) [] are = absurd are

  -- one of two blocks
  pub if_else_does : (test : CExpr) (r : Expr) (chosen other : List CStmt) (first second : List Stmt) → ValueIs places test r → DoAs places callees chosen first → DoAs places callees other second → DoesAs places callees (c_stmt.If test chosen (Some other)) (stmt.If r first second)
  if_else_does test r chosen other first second is p q = record {
    goes = λ scope h call by_name lead depth.
        goes_same depth _ (with_value (value r) (λ x. choose (not (is_zero x.number)) (in_order (map meaning first) call) (in_order (map meaning second) call))) _ (evaluate scope test >>= (λ x. choose (not (is_zero x.number)) (block scope chosen by_name) (block scope other by_name)))
        (if_is call r first second) (c_is.if_else_is scope by_name test chosen other)
        (expr_goes depth scope test r _ _ (is.computes scope h) (λ x.
        choose_follows NoneExcused AnyCopies (Fits depth) Same (not (is_zero x.number)) (not (is_zero x.number)) _ _ _ _ refl (block_goes scope h call by_name lead depth chosen first p) (block_goes scope h call by_name lead depth other second q)));
  }

  -- a block or nothing
  pub if_does : (test : CExpr) (r : Expr) (chosen : List CStmt) (first : List Stmt) → ValueIs places test r → DoAs places callees chosen first → DoesAs places callees (c_stmt.If test chosen None) (stmt.If r first [])
  if_does test r chosen first is p = record {
    goes = λ scope h call by_name lead depth.
        goes_same depth _ (with_value (value r) (λ x. choose (not (is_zero x.number)) (in_order (map meaning first) call) (pure Next))) _ (evaluate scope test >>= (λ x. choose (not (is_zero x.number)) (block scope chosen by_name) (pure Next)))
        (if_is call r first []) (c_is.if_is scope by_name test chosen)
        (expr_goes depth scope test r _ _ (is.computes scope h) (λ x.
        choose_follows NoneExcused AnyCopies (Fits depth) Same (not (is_zero x.number)) (not (is_zero x.number)) _ _ _ _ refl (block_goes scope h call by_name lead depth chosen first p) (pure_follows NoneExcused AnyCopies (Fits depth) Same Next Next refl)));
  }

  -- a loop
  pub loop_does : (body : List CStmt) (rs : List Stmt) → DoAs places callees body rs → DoesAs places callees (c_stmt.Loop body) (stmt.Loop rs)
  loop_does body rs p = record {
    goes = λ scope h call by_name lead depth.
        goes_same depth _ (loop (round (in_order (map meaning rs) call))) _ (loop (block scope body by_name >>= (λ flow. pure (after_round flow)))) (loop_is call rs) (c_is.while_is scope by_name body)
        (loop_goes depth (in_order (map meaning rs) call) (block scope body by_name) (block_goes scope h call by_name lead depth body rs p));
  }

  -- a counted loop
  pub count_does : (set tested : List ℕ) (count : ℕ) (raised : List ℕ) (body : List CStmt) (rs : List Stmt) → DoAs places callees body rs → DoesAs places callees (c_stmt.Count set tested count raised body) (stmt.Count (places set).slot count rs)
  count_does set tested count raised body rs p = record {
    goes = λ scope h call by_name lead depth.
        let slot = (places set).slot in
        let inside = in_order (map meaning rs) call
        in goes_same depth _ (choose (is_declared slot) (rounds slot inside 0 count) stuck) _ (located scope (Name set) >>= (λ pointer. c.rounds pointer (block scope body by_name) 0 count))
        (count_is call slot count rs) (c_is.count_is scope by_name set tested count raised body)
        (located_goes depth scope places h (Name set) (rounds slot inside 0 count) (λ pointer. c.rounds pointer (block scope body by_name) 0 count)
        (λ pointer at. rounds_go depth slot pointer at inside (block scope body by_name) (block_goes scope h call by_name lead depth body rs p) 0 count));
  }
