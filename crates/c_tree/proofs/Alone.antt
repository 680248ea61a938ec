-- What the C of a tree does doesn't look at the events so far.
use Rattle.std.proofs.Common.{ℕ, zero, suc, ◌+◌, ℤ, List, [], ◌∷◌, Bool, Option, Some, None, refl, subst, sym, map}
use Rattle.std.specs.Prelude.{true, pos, negsuc, neg_ℤ, nat_le, int_div, int_rem, reverse, slice_get, not, ◌&&◌}
use Rattle.std.specs.Str.{bytes_eq}
use Rattle.sl_num.specs.declared.comparing.Comparison.{Comparison}
use Rattle.sl_num.specs.Comparing.{holds, truth}
use Rattle.sl_run.specs.Run.{Act, pure, ◌>>=◌, ◌>>◌, choose, put, get, round_then, calls}
use Rattle.sl_run.specs.Laws.{Alone}
use Rattle.sl_run.proofs.Alone.{bind_alone, pure_alone, put_alone, get_alone, choose_alone, round_then_alone, loop_alone, turn_within_by_alone, calls_alone}
use Rattle.sl_run.proofs.Statements.{then_on_alone, and_next_alone, round_alone}
use Rattle.c_tree.specs.declared.tree.CFile.{CFile}
use Rattle.c_tree.specs.declared.tree.CType.{CType}
use Rattle.c_tree.specs.declared.tree.CType.TheVariants.{Int, Void}
use Rattle.c_tree.specs.declared.tree.CFun.{CFun}
use Rattle.c_tree.specs.declared.tree.CArg.{CArg}
use Rattle.c_tree.specs.declared.tree.CArg.TheVariants.{Value}
use Rattle.c_tree.specs.declared.tree.CPlace.{CPlace}
use Rattle.c_tree.specs.declared.tree.CPlace.TheVariants.{Name}
use Rattle.c_tree.specs.declared.tree.CBinary.{CBinary}
use Rattle.c_tree.specs.declared.tree.CBinary.TheVariants.{Add, Sub, Mul, Div, Rem}
use Rattle.c_tree.specs.declared.tree.CStmt.{CStmt, CStmt-F, ind-CStmt, map-CStmt, roll-CStmt}
use Rattle.c_tree.specs.declared.tree.CStmt.TheOpen as stmt
use Rattle.c_tree.specs.declared.tree.CExpr.{CExpr, CExpr-F, ind-CExpr, map-CExpr, roll-CExpr}
use Rattle.c_tree.specs.declared.tree.CExpr.TheOpen as expr
use Rattle.c_tree.specs.Bytes.{charge}
use Rattle.c_tree.specs.Scope.{Scope, scope_of}
use Rattle.c_tree.specs.Memory.{Pointer, Tree, Number, Memory, live, held}
use Rattle.sl_run.specs.Statements.{Next, Broke, Returned, then_on, after_round, gotten}
use Rattle.c_tree.specs.Meaning.{Flow, Callees, stuck, with_some, place_of, located, number_in, read_number, write_number, is_zero, same, Word, exact, divides, is_int64, int64, uint64, int64_of, binary_at, binary, compared, negated, place_is_signed, read_word, expr_step, evaluate, arguments, Meaning, rounds, put_value, store_result, call_to, returned, stmt_step, meaning, block, given, begin, leave, body, begin_inline, inline_callees, number_of, numbered_call, callees, functions, charge_of, enter, run_callees}
use Rattle.c_tree.proofs.Layers.{evaluate_layer, meaning_layer}

-- Values --------------------------------------------------------------------------------------------------------------

-- an undefined case
pub stuck_alone : {A : Type 0} → Alone (stuck {A = A})
stuck_alone earlier t s = refl

-- something that there may not be
pub with_some_alone : {A B : Type 0} (x : Option A) (go : A → Act Memory B) → ((a : A) → Alone (go a)) → Alone (with_some x go)
with_some_alone None go h = stuck_alone
with_some_alone (Some a) go h = h a

-- a place that is found
pub located_alone : (scope : Scope) (place : CPlace) → Alone (located scope place)
located_alone scope place earlier t memory = with_some_alone (place_of scope place memory) pure (λ pointer. pure_alone pointer) earlier t memory

-- a number that is read
pub read_number_alone : (pointer : Pointer) → Alone (read_number pointer)
read_number_alone pointer earlier t memory = with_some_alone (number_in (held pointer memory)) pure (λ number. pure_alone number) earlier t memory

-- a number that is stored
pub write_number_alone : (pointer : Pointer) (number : ℤ) → Alone (write_number pointer number)
write_number_alone pointer number earlier t s = refl

-- a number of 64 bits with a sign
int64_alone : (n : ℤ) → Alone (int64 n)
int64_alone n = choose_alone (is_int64 n) (pure (record { signed = true; number = n })) stuck (pure_alone (record { signed = true; number = n })) stuck_alone

-- an operator on numbers with a sign
int64_of_alone : (operator : CBinary) (a b : ℤ) → Alone (int64_of operator a b)
int64_of_alone Rem a b = bind_alone (int64 (int_div a b)) (λ _. int64 (int_rem a b)) (int64_alone (int_div a b)) (λ _. int64_alone (int_rem a b))
int64_of_alone Add a b = int64_alone (exact Add a b)
int64_of_alone Sub a b = int64_alone (exact Sub a b)
int64_of_alone Mul a b = int64_alone (exact Mul a b)
int64_of_alone Div a b = int64_alone (exact Div a b)

-- an operator on two numbers of one type
binary_at_alone : (signed : Bool) (operator : CBinary) (a b : ℤ) → Alone (binary_at signed operator a b)
binary_at_alone signed operator a b =
    choose_alone (divides operator && is_zero b) stuck (choose signed (int64_of operator a b) (uint64 (exact operator a b))) stuck_alone
    (choose_alone signed (int64_of operator a b) (uint64 (exact operator a b)) (int64_of_alone operator a b) (λ earlier t s. refl))

-- an operator
pub binary_alone : (operator : CBinary) (left right : Word) → Alone (binary operator left right)
binary_alone operator left right =
    choose_alone (same left.signed right.signed) (binary_at left.signed operator left.number right.number) stuck (binary_at_alone left.signed operator left.number right.number) stuck_alone

-- a comparison
pub compared_alone : (comparison : Comparison) (left right : Word) → Alone (compared comparison left right)
compared_alone comparison left right =
    choose_alone (same left.signed right.signed) (pure (record { signed = true; number = truth (holds comparison left.number right.number) })) stuck (λ earlier t s. refl) stuck_alone

-- a number that is negated
pub negated_alone : (operand : Word) → Alone (negated operand)
negated_alone operand = choose_alone operand.signed (int64 (neg_ℤ operand.number)) stuck (int64_alone (neg_ℤ operand.number)) stuck_alone

-- what a place holds, as a number of its type
pub read_word_alone : (scope : Scope) (place : CPlace) → Alone (read_word scope place)
read_word_alone scope place =
    bind_alone (located scope place >>= read_number) (λ number. pure (record { signed = place_is_signed scope place; number = number }))
    (bind_alone (located scope place) read_number (located_alone scope place) read_number_alone)
    (λ number earlier t s. refl)

-- Expressions ---------------------------------------------------------------------------------------------------------

module _ (scope : Scope) where
  -- an expression is alone
  abbrev IsAlone : CExpr → Type 0
  IsAlone e = Alone (evaluate scope e)

  -- one of which it is known
  abbrev Known : Type 0
  Known = (e : CExpr) × IsAlone e

  -- the expression
  abbrev first : Known → CExpr
  first known = known.0

  -- two operands
  two_alone : (left right : Act Memory Word) (go : Word → Word → Act Memory Word) → Alone left → Alone right → ((x y : Word) → Alone (go x y)) → Alone (left >>= (λ x. right >>= (λ y. go x y)))
  two_alone left right go h k l = bind_alone left (λ x. right >>= (λ y. go x y)) h (λ x. bind_alone right (λ y. go x y) k (λ y. l x y))

  -- an expression
  pub evaluate_alone : (e : CExpr) → Alone (evaluate scope e)
  evaluate_alone e = ind-CExpr IsAlone (λ x y same. subst (λ z. IsAlone (roll-CExpr z)) same (layer y)) e
    where
      -- by its layer
      via : (x : CExpr-F CExpr) → Alone (expr_step scope (map-CExpr CExpr (Act Memory Word) (evaluate scope) x)) → IsAlone (roll-CExpr x)
      via x h = subst Alone (sym (evaluate_layer scope x)) h

      -- each layer, where it is known of the parts
      layer : (y : CExpr-F Known) → IsAlone (roll-CExpr (map-CExpr Known CExpr first y))
      layer (expr.Const signed number) = via (expr.Const signed number) (λ earlier t s. refl)
      layer (expr.Read place) = via (expr.Read place) (read_word_alone scope place)
      layer (expr.Binary operator left right) =
          via (expr.Binary operator left.0 right.0) (two_alone (evaluate scope left.0) (evaluate scope right.0) (binary operator) left.1 right.1 (binary_alone operator))
      layer (expr.Compare comparison left right) =
          via (expr.Compare comparison left.0 right.0) (two_alone (evaluate scope left.0) (evaluate scope right.0) (compared comparison) left.1 right.1 (compared_alone comparison))
      layer (expr.Negate operand) = via (expr.Negate operand.0) (bind_alone (evaluate scope operand.0) negated operand.1 negated_alone)

  -- arguments
  pub arguments_alone : (args : List CArg) → Alone (arguments scope args)
  arguments_alone [] = pure_alone []
  arguments_alone (Value e ∷ others) =
      bind_alone (evaluate scope e) (λ x. arguments scope others >>= (λ rest. pure (Number x.number ∷ rest))) (evaluate_alone e)
      (λ x. bind_alone (arguments scope others) (λ rest. pure (Number x.number ∷ rest)) (arguments_alone others) (λ rest. pure_alone (Number x.number ∷ rest)))

-- Statements ----------------------------------------------------------------------------------------------------------

-- a number that is put
put_value_alone : (number : ℤ) → Alone (put_value number)
put_value_alone (pos number) =
    choose_alone (nat_le number 255) (put number >> pure Next) stuck
    (bind_alone (put number) (λ _. pure Next) (put_alone number) (λ _. pure_alone Next))
    stuck_alone
put_value_alone (negsuc below) = stuck_alone

-- a result that is stored
store_result_alone : (pointer : Pointer) (value : Option ℤ) → Alone (store_result pointer value)
store_result_alone pointer value = with_some_alone value (write_number pointer) (write_number_alone pointer)

-- the rounds of a counted loop
pub rounds_alone : (pointer : Pointer) (body : Act Memory Flow) → Alone body → (from count : ℕ) → Alone (rounds pointer body from count)
rounds_alone pointer body h from zero = and_next_alone (write_number pointer (pos from)) (write_number_alone pointer (pos from))
rounds_alone pointer body h from (suc count) =
    let rest : Act Memory Flow = rounds pointer body (suc from) count in
    bind_alone (write_number pointer (pos from)) (λ _. body >>= (λ flow. round_then (after_round flow) rest)) (write_number_alone pointer (pos from))
    (λ _. bind_alone body (λ flow. round_then (after_round flow) rest) h (λ flow. round_then_alone (after_round flow) rest (rounds_alone pointer body h (suc from) count)))

module _ (scope : Scope) where
  -- a return
  returned_alone : (value : Option CExpr) → Alone (returned scope value)
  returned_alone None = pure_alone (Returned None)
  returned_alone (Some e) = bind_alone (evaluate scope e) (λ x. pure (Returned (Some x.number))) (evaluate_alone scope e) (λ x. pure_alone (Returned (Some x.number)))

  -- an assignment
  assign_alone : (place : CPlace) (e : CExpr) → Alone (located scope place >>= (λ pointer. evaluate scope e >>= (λ x. write_number pointer x.number)))
  assign_alone place e =
      bind_alone (located scope place) (λ pointer. evaluate scope e >>= (λ x. write_number pointer x.number)) (located_alone scope place)
      (λ pointer. bind_alone (evaluate scope e) (λ x. write_number pointer x.number) (evaluate_alone scope e) (λ x. write_number_alone pointer x.number))

  -- a byte of the input that is stored
  get_to_alone : (place : CPlace) → Alone (located scope place >>= (λ pointer. get >>= (λ byte. write_number pointer (gotten byte))))
  get_to_alone place =
      bind_alone (located scope place) (λ pointer. get >>= (λ byte. write_number pointer (gotten byte))) (located_alone scope place)
      (λ pointer. bind_alone get (λ byte. write_number pointer (gotten byte)) get_alone (λ byte. write_number_alone pointer (gotten byte)))

  -- a counted loop
  count_alone : (set : List ℕ) (count : ℕ) (body : Act Memory Flow) → Alone body → Alone (located scope (Name set) >>= (λ pointer. rounds pointer body 0 count))
  count_alone set count body h = bind_alone (located scope (Name set)) (λ pointer. rounds pointer body 0 count) (located_alone scope (Name set)) (λ pointer. rounds_alone pointer body h 0 count)

  -- the arguments of a call, and the call
  called_alone : (name : List ℕ) (args : List CArg) (call : Callees) → ((name : List ℕ) (args : List Tree) → Alone (call name args)) → Alone (arguments scope args >>= call name)
  called_alone name args call h = bind_alone (arguments scope args) (call name) (arguments_alone scope args) (h name)

  -- a call
  call_to_alone : (target : Option CPlace) (name : List ℕ) (args : List CArg) (call : Callees) → ((name : List ℕ) (args : List Tree) → Alone (call name args)) → Alone (call_to scope target name args call)
  call_to_alone None name args call h = and_next_alone (arguments scope args >>= call name) (called_alone name args call h)
  call_to_alone (Some place) name args call h =
      let stored : Pointer → Act Memory (Unit {0}) = λ pointer. arguments scope args >>= call name >>= store_result pointer in
      and_next_alone (located scope place >>= stored)
      (bind_alone (located scope place) stored (located_alone scope place)
      (λ pointer. bind_alone (arguments scope args >>= call name) (store_result pointer) (called_alone name args call h) (store_result_alone pointer)))

  -- a statement is alone where calls are
  abbrev Calm : CStmt → Type 0
  Calm s = (call : Callees) → ((name : List ℕ) (args : List Tree) → Alone (call name args)) → Alone (meaning scope s call)

  -- a statement of which it is known
  abbrev Certain : Type 0
  Certain = (s : CStmt) × Calm s

  -- the statement
  abbrev only : Certain → CStmt
  only certain = certain.0

  -- statements in order, of which so much is known
  in_order_known : (ms : List Certain) (call : Callees) → ((name : List ℕ) (args : List Tree) → Alone (call name args)) → Alone (block scope (map only ms) call)
  in_order_known [] call h = pure_alone Next
  in_order_known (m ∷ ms) call h =
      bind_alone (meaning scope m.0 call) (then_on (block scope (map only ms) call)) (m.1 call h)
      (λ flow. then_on_alone (block scope (map only ms) call) flow (in_order_known ms call h))

  -- one of two blocks
  if_alone : (test : CExpr) (chosen other : Act Memory Flow) → Alone chosen → Alone other → Alone (evaluate scope test >>= (λ x. choose (not (is_zero x.number)) chosen other))
  if_alone test chosen other h k =
      bind_alone (evaluate scope test) (λ x. choose (not (is_zero x.number)) chosen other) (evaluate_alone scope test) (λ x. choose_alone (not (is_zero x.number)) chosen other h k)

  -- a statement
  pub meaning_alone : (s : CStmt) (call : Callees) → ((name : List ℕ) (args : List Tree) → Alone (call name args)) → Alone (meaning scope s call)
  meaning_alone s = ind-CStmt Calm (λ x y same. subst (λ z. Calm (roll-CStmt z)) same (layer y)) s
    where
      -- by its layer
      via : (x : CStmt-F CStmt) → ((call : Callees) → ((name : List ℕ) (args : List Tree) → Alone (call name args)) → Alone (stmt_step scope (map-CStmt CStmt Meaning (meaning scope) x) call)) → Calm (roll-CStmt x)
      via x h = subst (λ (m : Meaning). (call : Callees) → ((name : List ℕ) (args : List Tree) → Alone (call name args)) → Alone (m call)) (sym (meaning_layer scope x)) h

      -- each layer, where it is known of the parts
      layer : (y : CStmt-F Certain) → Calm (roll-CStmt (map-CStmt Certain CStmt only y))
      layer (stmt.Assign place e) =
          via (stmt.Assign place e) (λ call h. and_next_alone (located scope place >>= (λ pointer. evaluate scope e >>= (λ x. write_number pointer x.number))) (assign_alone place e))
      layer (stmt.Call target name args) = via (stmt.Call target name args) (call_to_alone target name args)
      layer (stmt.If test chosen None) =
          via (stmt.If test (map only chosen) None) (λ call h. if_alone test (block scope (map only chosen) call) (pure Next) (in_order_known chosen call h) (pure_alone Next))
      layer (stmt.If test chosen (Some other)) =
          via (stmt.If test (map only chosen) (Some (map only other)))
          (λ call h. if_alone test (block scope (map only chosen) call) (block scope (map only other) call) (in_order_known chosen call h) (in_order_known other call h))
      layer (stmt.Loop body) =
          via (stmt.Loop (map only body))
          (λ call h. loop_alone (block scope (map only body) call >>= (λ flow. pure (after_round flow))) (round_alone (block scope (map only body) call) (in_order_known body call h)))
      layer (stmt.Count set tested count raised body) =
          via (stmt.Count set tested count raised (map only body)) (λ call h. count_alone set count (block scope (map only body) call) (in_order_known body call h))
      layer stmt.Break = via stmt.Break (λ call h. pure_alone Broke)
      layer (stmt.Return value) = via (stmt.Return value) (λ call h. returned_alone value)
      layer (stmt.Put e) = via (stmt.Put e) (λ call h. bind_alone (evaluate scope e) (λ x. put_value x.number) (evaluate_alone scope e) (λ x. put_value_alone x.number))
      layer (stmt.Get place) =
          via (stmt.Get place) (λ call h. and_next_alone (located scope place >>= (λ pointer. get >>= (λ byte. write_number pointer (gotten byte)))) (get_to_alone place))
      layer (stmt.Halt kind file line) = via (stmt.Halt kind file line) (λ call h earlier t s. refl)

module _ (scope : Scope) (call : Callees) (h : (name : List ℕ) (args : List Tree) → Alone (call name args)) where
  -- statements in order
  pub block_alone : (stmts : List CStmt) → Alone (block scope stmts call)
  block_alone [] = pure_alone Next
  block_alone (s ∷ stmts) =
      bind_alone (meaning scope s call) (then_on (block scope stmts call)) (meaning_alone scope s call h)
      (λ flow. then_on_alone (block scope stmts call) flow (block_alone stmts))

  -- what comes after a statement, of those that follow it
  pub rest_alone : (stmts : List CStmt) (flow : Flow) → Alone (then_on (block scope stmts call) flow)
  rest_alone stmts flow = then_on_alone (block scope stmts call) flow (block_alone stmts)

-- Functions -----------------------------------------------------------------------------------------------------------

-- what a function gives
pub given_alone : (kind : CType) (flow : Flow) → Alone (given kind flow)
given_alone kind (Returned value) earlier t s = refl
given_alone kind Broke earlier t s = refl
given_alone Void Next earlier t s = refl
given_alone (Int signed width) Next earlier t s = refl

module _ (file : CFile) where
  -- the body of a function
  pub body_alone : (function : CFun) (call : Callees) → ((name : List ℕ) (args : List Tree) → Alone (call name args)) → Alone (body file function call)
  body_alone function call h =
      bind_alone (block (scope_of file function) function.body call >>= given function.result) leave
      (bind_alone (block (scope_of file function) function.body call) (given function.result) (block_alone (scope_of file function) call h function.body) (given_alone function.result))
      (λ value earlier t s. refl)

  -- calls of inline functions
  pub inline_callees_alone : (earlier : List CFun) (name : List ℕ) (args : List Tree) → Alone (inline_callees file earlier name args)
  inline_callees_alone [] name args = stuck_alone
  inline_callees_alone (function ∷ earlier) name args =
      choose_alone (function.inline && bytes_eq function.name name) (begin_inline function args >> body file function (inline_callees file earlier)) (inline_callees file earlier name args)
      (bind_alone (begin_inline function args) (λ _. body file function (inline_callees file earlier)) (λ events t s. refl) (λ _. body_alone function (inline_callees file earlier) (inline_callees_alone earlier)))
      (inline_callees_alone earlier name args)

  module _ (call : ℕ → List Tree → Act Memory (Option ℤ)) (h : (number : ℕ) (args : List Tree) → Alone (call number args)) where
    -- calls by numbers
    numbered_call_alone : (name : List ℕ) (number : Option ℕ) (args : List Tree) → Alone (numbered_call file call name number args)
    numbered_call_alone name None args = inline_callees_alone (reverse file.functions) name args
    numbered_call_alone name (Some number) args = h number args

    -- calls by names
    pub callees_alone : (name : List ℕ) (args : List Tree) → Alone (callees file call name args)
    callees_alone name args = numbered_call_alone name (number_of file name) args

    -- functions
    functions_alone : (number : ℕ) (args : List Tree) → Alone (functions file call number args)
    functions_alone number args =
        with_some_alone (slice_get file.functions number)
        (λ function. begin number (charge file function) function args >> body file function (callees file call))
        (λ function. bind_alone (begin number (charge file function) function args) (λ _. body file function (callees file call)) (λ earlier t s. refl) (λ _. body_alone function (callees file call) callees_alone))

  -- calls in a run
  pub run_callees_alone : (limit : Option ℕ) (name : List ℕ) (args : List Tree) → Alone (run_callees file limit name args)
  run_callees_alone limit =
      callees_alone (calls (enter file limit) (functions file))
      (calls_alone (enter file limit) (functions file)
      (λ number args. turn_within_by_alone limit (λ memory. live memory + charge_of file (slice_get file.functions number)))
      functions_alone)
