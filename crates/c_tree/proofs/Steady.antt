-- What the C of a tree does agrees where what its calls do agrees.
use Rattle.std.proofs.Common.{ℕ, zero, suc, ◌+◌, ℤ, List, [], ◌∷◌, Bool, Option, Some, None, refl, subst, sym, map}
use Rattle.std.specs.Prelude.{true, pos, negsuc, neg_ℤ, nat_le, int_div, int_rem, reverse, slice_get, not, ◌&&◌}
use Rattle.std.specs.Str.{bytes_eq}
use Rattle.sl_num.specs.declared.comparing.Comparison.{Comparison}
use Rattle.sl_num.specs.Comparing.{holds, truth}
use Rattle.sl_run.specs.Run.{Act, pure, ◌>>=◌, ◌>>◌, choose, put, get, round_then, calls}
use Rattle.sl_run.specs.Laws.{Agrees, Steady, Respects}
use Rattle.sl_run.proofs.Steady.{bind_agrees, pure_agrees, put_agrees, get_agrees, choose_agrees, round_then_agrees, loop_agrees, calls_steady}
use Rattle.sl_run.proofs.Statements.{then_on_agrees, and_next_agrees, round_agrees}
use Rattle.sl_run.proofs.Equations.{takes_steady, turn_within_by_takes}
use Rattle.c_tree.specs.declared.tree.CFile.{CFile}
use Rattle.c_tree.specs.declared.tree.CType.{CType}
use Rattle.c_tree.specs.declared.tree.CType.TheVariants.{Int, Void}
use Rattle.c_tree.specs.declared.tree.CFun.{CFun}
use Rattle.c_tree.specs.declared.tree.CArg.{CArg}
use Rattle.c_tree.specs.declared.tree.CArg.TheVariants.{Value}
use Rattle.c_tree.specs.declared.tree.CPlace.{CPlace}
use Rattle.c_tree.specs.declared.tree.CPlace.TheVariants.{Name}
use Rattle.c_tree.specs.declared.tree.CBinary.{CBinary}
use Rattle.c_tree.specs.declared.tree.CBinary.TheVariants.{Add, Sub, Mul, Div, Rem}
use Rattle.c_tree.specs.declared.tree.CStmt.{CStmt, CStmt-F, ind-CStmt, map-CStmt, roll-CStmt}
use Rattle.c_tree.specs.declared.tree.CStmt.TheOpen as stmt
use Rattle.c_tree.specs.declared.tree.CExpr.{CExpr, CExpr-F, ind-CExpr, map-CExpr, roll-CExpr}
use Rattle.c_tree.specs.declared.tree.CExpr.TheOpen as expr
use Rattle.c_tree.specs.Bytes.{charge}
use Rattle.c_tree.specs.Scope.{Scope, scope_of}
use Rattle.c_tree.specs.Memory.{Pointer, Tree, Number, Memory, live, held}
use Rattle.sl_run.specs.Statements.{Next, Broke, Returned, then_on, after_round, gotten}
use Rattle.c_tree.specs.Meaning.{Flow, Callees, stuck, with_some, place_of, located, number_in, read_number, write_number, is_zero, same, Word, exact, divides, is_int64, int64, uint64, int64_of, binary_at, binary, compared, negated, place_is_signed, read_word, expr_step, evaluate, arguments, Meaning, rounds, put_value, store_result, call_to, returned, stmt_step, meaning, block, given, begin, leave, body, begin_inline, inline_callees, number_of, numbered_call, callees, functions, charge_of, enter, run_callees}
use Rattle.c_tree.proofs.Layers.{evaluate_layer, meaning_layer}

-- what two ways of calling functions have in common
abbrev pub AgreeingCalls : ℕ → Callees → Callees → Type 0
AgreeingCalls n call call' = (name : List ℕ) (args : List Tree) → Agrees n (call name args) (call' name args)

module _ (n : ℕ) where
  -- an undefined case
  stuck_agrees : {A : Type 0} → Agrees n (stuck {A = A}) stuck
  stuck_agrees t s le = (refl, le)

  -- something that there may not be
  with_some_agrees : {A B : Type 0} (x : Option A) (go go' : A → Act Memory B) → ((a : A) → Agrees n (go a) (go' a)) → Agrees n (with_some x go) (with_some x go')
  with_some_agrees None go go' h = stuck_agrees
  with_some_agrees (Some a) go go' h = h a

  -- a place that is found
  located_agrees : (scope : Scope) (place : CPlace) → Agrees n (located scope place) (located scope place)
  located_agrees scope place t memory le = with_some_agrees (place_of scope place memory) pure pure (λ pointer. pure_agrees n pointer) t memory le

  -- a number that is read
  read_number_agrees : (pointer : Pointer) → Agrees n (read_number pointer) (read_number pointer)
  read_number_agrees pointer t memory le = with_some_agrees (number_in (held pointer memory)) pure pure (λ number. pure_agrees n number) t memory le

  -- a number that is stored
  write_number_agrees : (pointer : Pointer) (number : ℤ) → Agrees n (write_number pointer number) (write_number pointer number)
  write_number_agrees pointer number t s le = (refl, le)

  -- a number of 64 bits with a sign
  int64_agrees : (number : ℤ) → Agrees n (int64 number) (int64 number)
  int64_agrees number =
      let word : Act Memory Word = pure (record { signed = true; number = number }) in
      choose_agrees n (is_int64 number) word stuck word stuck (λ t s le. (refl, le)) stuck_agrees

  -- an operator on numbers with a sign
  int64_of_agrees : (operator : CBinary) (a b : ℤ) → Agrees n (int64_of operator a b) (int64_of operator a b)
  int64_of_agrees Rem a b =
      bind_agrees n (int64 (int_div a b)) (int64 (int_div a b)) (λ _. int64 (int_rem a b)) (λ _. int64 (int_rem a b)) (int64_agrees (int_div a b)) (λ _. int64_agrees (int_rem a b))
  int64_of_agrees Add a b = int64_agrees (exact Add a b)
  int64_of_agrees Sub a b = int64_agrees (exact Sub a b)
  int64_of_agrees Mul a b = int64_agrees (exact Mul a b)
  int64_of_agrees Div a b = int64_agrees (exact Div a b)

  -- an operator on two numbers of one type
  binary_at_agrees : (signed : Bool) (operator : CBinary) (a b : ℤ) → Agrees n (binary_at signed operator a b) (binary_at signed operator a b)
  binary_at_agrees signed operator a b =
      let result : Act Memory Word = choose signed (int64_of operator a b) (uint64 (exact operator a b)) in
      choose_agrees n (divides operator && is_zero b) stuck result stuck result stuck_agrees
      (choose_agrees n signed (int64_of operator a b) (uint64 (exact operator a b)) (int64_of operator a b) (uint64 (exact operator a b)) (int64_of_agrees operator a b) (λ t s le. (refl, le)))

  -- an operator
  binary_agrees : (operator : CBinary) (left right : Word) → Agrees n (binary operator left right) (binary operator left right)
  binary_agrees operator left right =
      let result : Act Memory Word = binary_at left.signed operator left.number right.number in
      choose_agrees n (same left.signed right.signed) result stuck result stuck (binary_at_agrees left.signed operator left.number right.number) stuck_agrees

  -- a comparison
  compared_agrees : (comparison : Comparison) (left right : Word) → Agrees n (compared comparison left right) (compared comparison left right)
  compared_agrees comparison left right =
      let result : Act Memory Word = pure (record { signed = true; number = truth (holds comparison left.number right.number) }) in
      choose_agrees n (same left.signed right.signed) result stuck result stuck (λ t s le. (refl, le)) stuck_agrees

  -- a number that is negated
  negated_agrees : (operand : Word) → Agrees n (negated operand) (negated operand)
  negated_agrees operand = choose_agrees n operand.signed (int64 (neg_ℤ operand.number)) stuck (int64 (neg_ℤ operand.number)) stuck (int64_agrees (neg_ℤ operand.number)) stuck_agrees

  -- what a place holds, as a number of its type
  read_word_agrees : (scope : Scope) (place : CPlace) → Agrees n (read_word scope place) (read_word scope place)
  read_word_agrees scope place =
      let typed : ℤ → Act Memory Word = λ number. pure (record { signed = place_is_signed scope place; number = number }) in
      bind_agrees n (located scope place >>= read_number) (located scope place >>= read_number) typed typed
      (bind_agrees n (located scope place) (located scope place) read_number read_number (located_agrees scope place) read_number_agrees)
      (λ number t s le. (refl, le))

  -- two operands
  two_agree : (left right : Act Memory Word) (go : Word → Word → Act Memory Word) → Agrees n left left → Agrees n right right → ((x y : Word) → Agrees n (go x y) (go x y))
      → Agrees n (left >>= (λ x. right >>= (λ y. go x y))) (left >>= (λ x. right >>= (λ y. go x y)))
  two_agree left right go h k l =
      let rest : Word → Act Memory Word = λ x. right >>= (λ y. go x y) in
      bind_agrees n left left rest rest h (λ x. bind_agrees n right right (λ y. go x y) (λ y. go x y) k (λ y. l x y))

  -- a number that is put
  put_value_agrees : (number : ℤ) → Agrees n (put_value number) (put_value number)
  put_value_agrees (pos number) =
      choose_agrees n (nat_le number 255) (put number >> pure Next) stuck (put number >> pure Next) stuck
      (bind_agrees n (put number) (put number) (λ _. pure Next) (λ _. pure Next) (put_agrees n number) (λ _. pure_agrees n Next))
      stuck_agrees
  put_value_agrees (negsuc below) = stuck_agrees

  -- a result that is stored
  store_result_agrees : (pointer : Pointer) (value : Option ℤ) → Agrees n (store_result pointer value) (store_result pointer value)
  store_result_agrees pointer value = with_some_agrees value (write_number pointer) (write_number pointer) (write_number_agrees pointer)

  -- the rounds of a counted loop
  pub rounds_agree : (pointer : Pointer) (body body' : Act Memory Flow) → Agrees n body body' → (from count : ℕ) → Agrees n (rounds pointer body from count) (rounds pointer body' from count)
  rounds_agree pointer body body' h from zero = and_next_agrees n (write_number pointer (pos from)) (write_number pointer (pos from)) (write_number_agrees pointer (pos from))
  rounds_agree pointer body body' h from (suc count) =
      let rest : Act Memory Flow = rounds pointer body (suc from) count in
      let rest' : Act Memory Flow = rounds pointer body' (suc from) count in
      bind_agrees n (write_number pointer (pos from)) (write_number pointer (pos from)) (λ _. body >>= (λ flow. round_then (after_round flow) rest)) (λ _. body' >>= (λ flow. round_then (after_round flow) rest'))
      (write_number_agrees pointer (pos from))
      (λ _. bind_agrees n body body' (λ flow. round_then (after_round flow) rest) (λ flow. round_then (after_round flow) rest') h
      (λ flow. round_then_agrees n (after_round flow) rest rest' (rounds_agree pointer body body' h (suc from) count)))

  -- what a function gives
  given_agrees : (kind : CType) (flow : Flow) → Agrees n (given kind flow) (given kind flow)
  given_agrees kind (Returned value) t s le = (refl, le)
  given_agrees kind Broke t s le = (refl, le)
  given_agrees Void Next t s le = (refl, le)
  given_agrees (Int signed width) Next t s le = (refl, le)

  module _ (scope : Scope) where
    -- an expression agrees with itself
    abbrev Same : CExpr → Type 0
    Same e = Agrees n (evaluate scope e) (evaluate scope e)

    -- one of which it is known
    abbrev Known : Type 0
    Known = (e : CExpr) × Same e

    -- the expression
    abbrev first : Known → CExpr
    first known = known.0

    -- an expression
    pub evaluate_agrees : (e : CExpr) → Agrees n (evaluate scope e) (evaluate scope e)
    evaluate_agrees e = ind-CExpr Same (λ x y same. subst (λ z. Same (roll-CExpr z)) same (layer y)) e
      where
        -- by its layer
        via : (x : CExpr-F CExpr) → Agrees n (expr_step scope (map-CExpr CExpr (Act Memory Word) (evaluate scope) x)) (expr_step scope (map-CExpr CExpr (Act Memory Word) (evaluate scope) x)) → Same (roll-CExpr x)
        via x h = subst (λ (a : Act Memory Word). Agrees n a a) (sym (evaluate_layer scope x)) h

        -- each layer, where it is known of the parts
        layer : (y : CExpr-F Known) → Same (roll-CExpr (map-CExpr Known CExpr first y))
        layer (expr.Const signed number) = via (expr.Const signed number) (λ t s le. (refl, le))
        layer (expr.Read place) = via (expr.Read place) (read_word_agrees scope place)
        layer (expr.Binary operator left right) =
            via (expr.Binary operator left.0 right.0) (two_agree (evaluate scope left.0) (evaluate scope right.0) (binary operator) left.1 right.1 (binary_agrees operator))
        layer (expr.Compare comparison left right) =
            via (expr.Compare comparison left.0 right.0) (two_agree (evaluate scope left.0) (evaluate scope right.0) (compared comparison) left.1 right.1 (compared_agrees comparison))
        layer (expr.Negate operand) = via (expr.Negate operand.0) (bind_agrees n (evaluate scope operand.0) (evaluate scope operand.0) negated negated operand.1 negated_agrees)

    -- arguments
    pub arguments_agree : (args : List CArg) → Agrees n (arguments scope args) (arguments scope args)
    arguments_agree [] = pure_agrees n []
    arguments_agree (Value e ∷ others) =
        let rest : Word → Act Memory (List Tree) = λ x. arguments scope others >>= (λ rest. pure (Number x.number ∷ rest)) in
        bind_agrees n (evaluate scope e) (evaluate scope e) rest rest (evaluate_agrees e)
        (λ x. bind_agrees n (arguments scope others) (arguments scope others) (λ rest. pure (Number x.number ∷ rest)) (λ rest. pure (Number x.number ∷ rest)) (arguments_agree others) (λ rest. pure_agrees n (Number x.number ∷ rest)))

    -- a return
    returned_agrees : (value : Option CExpr) → Agrees n (returned scope value) (returned scope value)
    returned_agrees None = pure_agrees n (Returned None)
    returned_agrees (Some e) =
        let leaves : Word → Act Memory Flow = λ x. pure (Returned (Some x.number)) in
        bind_agrees n (evaluate scope e) (evaluate scope e) leaves leaves (evaluate_agrees e) (λ x. pure_agrees n (Returned (Some x.number)))

    -- an assignment
    assign_agrees : (place : CPlace) (e : CExpr) → Agrees n (located scope place >>= (λ pointer. evaluate scope e >>= (λ x. write_number pointer x.number))) (located scope place >>= (λ pointer. evaluate scope e >>= (λ x. write_number pointer x.number)))
    assign_agrees place e =
        let stored : Pointer → Act Memory (Unit {0}) = λ pointer. evaluate scope e >>= (λ x. write_number pointer x.number) in
        bind_agrees n (located scope place) (located scope place) stored stored (located_agrees scope place)
        (λ pointer. bind_agrees n (evaluate scope e) (evaluate scope e) (λ x. write_number pointer x.number) (λ x. write_number pointer x.number) (evaluate_agrees e) (λ x. write_number_agrees pointer x.number))

    -- a byte of the input that is stored
    get_to_agrees : (place : CPlace) → Agrees n (located scope place >>= (λ pointer. get >>= (λ byte. write_number pointer (gotten byte)))) (located scope place >>= (λ pointer. get >>= (λ byte. write_number pointer (gotten byte))))
    get_to_agrees place =
        let stored : Pointer → Act Memory (Unit {0}) = λ pointer. get >>= (λ byte. write_number pointer (gotten byte)) in
        bind_agrees n (located scope place) (located scope place) stored stored (located_agrees scope place)
        (λ pointer. bind_agrees n get get (λ byte. write_number pointer (gotten byte)) (λ byte. write_number pointer (gotten byte)) (get_agrees n) (λ byte. write_number_agrees pointer (gotten byte)))

    -- a counted loop
    count_agrees : (set : List ℕ) (count : ℕ) (body body' : Act Memory Flow) → Agrees n body body' → Agrees n (located scope (Name set) >>= (λ pointer. rounds pointer body 0 count)) (located scope (Name set) >>= (λ pointer. rounds pointer body' 0 count))
    count_agrees set count body body' h =
        bind_agrees n (located scope (Name set)) (located scope (Name set)) (λ pointer. rounds pointer body 0 count) (λ pointer. rounds pointer body' 0 count) (located_agrees scope (Name set))
        (λ pointer. rounds_agree pointer body body' h 0 count)

    -- the arguments of a call, and the call
    called_agrees : (name : List ℕ) (args : List CArg) (call call' : Callees) → AgreeingCalls n call call' → Agrees n (arguments scope args >>= call name) (arguments scope args >>= call' name)
    called_agrees name args call call' h = bind_agrees n (arguments scope args) (arguments scope args) (call name) (call' name) (arguments_agree args) (h name)

    -- a call
    call_to_agrees : (target : Option CPlace) (name : List ℕ) (args : List CArg) (call call' : Callees) → AgreeingCalls n call call' → Agrees n (call_to scope target name args call) (call_to scope target name args call')
    call_to_agrees None name args call call' h = and_next_agrees n (arguments scope args >>= call name) (arguments scope args >>= call' name) (called_agrees name args call call' h)
    call_to_agrees (Some place) name args call call' h =
        let stored : Pointer → Act Memory (Unit {0}) = λ pointer. arguments scope args >>= call name >>= store_result pointer in
        let stored' : Pointer → Act Memory (Unit {0}) = λ pointer. arguments scope args >>= call' name >>= store_result pointer in
        and_next_agrees n (located scope place >>= stored) (located scope place >>= stored')
        (bind_agrees n (located scope place) (located scope place) stored stored' (located_agrees scope place)
        (λ pointer. bind_agrees n (arguments scope args >>= call name) (arguments scope args >>= call' name) (store_result pointer) (store_result pointer) (called_agrees name args call call' h) (store_result_agrees pointer)))

    -- a statement agrees with itself where calls agree
    abbrev Calm : CStmt → Type 0
    Calm s = (call call' : Callees) → AgreeingCalls n call call' → Agrees n (meaning scope s call) (meaning scope s call')

    -- a statement of which it is known
    abbrev Certain : Type 0
    Certain = (s : CStmt) × Calm s

    -- the statement
    abbrev only : Certain → CStmt
    only certain = certain.0

    -- statements in order, of which so much is known
    in_order_known : (ms : List Certain) (call call' : Callees) → AgreeingCalls n call call' → Agrees n (block scope (map only ms) call) (block scope (map only ms) call')
    in_order_known [] call call' h = pure_agrees n Next
    in_order_known (m ∷ ms) call call' h =
        bind_agrees n (meaning scope m.0 call) (meaning scope m.0 call') (then_on (block scope (map only ms) call)) (then_on (block scope (map only ms) call')) (m.1 call call' h)
        (λ flow. then_on_agrees n (block scope (map only ms) call) (block scope (map only ms) call') flow (in_order_known ms call call' h))

    -- one of two blocks
    if_agrees : (test : CExpr) (chosen other chosen' other' : Act Memory Flow) → Agrees n chosen chosen' → Agrees n other other' → Agrees n (evaluate scope test >>= (λ x. choose (not (is_zero x.number)) chosen other)) (evaluate scope test >>= (λ x. choose (not (is_zero x.number)) chosen' other'))
    if_agrees test chosen other chosen' other' h k =
        bind_agrees n (evaluate scope test) (evaluate scope test) (λ x. choose (not (is_zero x.number)) chosen other) (λ x. choose (not (is_zero x.number)) chosen' other') (evaluate_agrees test)
        (λ x. choose_agrees n (not (is_zero x.number)) chosen other chosen' other' h k)

    -- a statement
    pub meaning_agrees : (s : CStmt) (call call' : Callees) → AgreeingCalls n call call' → Agrees n (meaning scope s call) (meaning scope s call')
    meaning_agrees s = ind-CStmt Calm (λ x y same. subst (λ z. Calm (roll-CStmt z)) same (layer y)) s
      where
        -- by its layer
        via : (x : CStmt-F CStmt) → ((call call' : Callees) → AgreeingCalls n call call' → Agrees n (stmt_step scope (map-CStmt CStmt Meaning (meaning scope) x) call) (stmt_step scope (map-CStmt CStmt Meaning (meaning scope) x) call')) → Calm (roll-CStmt x)
        via x h = subst (λ (m : Meaning). (call call' : Callees) → AgreeingCalls n call call' → Agrees n (m call) (m call')) (sym (meaning_layer scope x)) h

        -- each layer, where it is known of the parts
        layer : (y : CStmt-F Certain) → Calm (roll-CStmt (map-CStmt Certain CStmt only y))
        layer (stmt.Assign place e) =
            let stored : Act Memory (Unit {0}) = located scope place >>= (λ pointer. evaluate scope e >>= (λ x. write_number pointer x.number)) in
            via (stmt.Assign place e) (λ call call' h. and_next_agrees n stored stored (assign_agrees place e))
        layer (stmt.Call target name args) = via (stmt.Call target name args) (call_to_agrees target name args)
        layer (stmt.If test chosen None) =
            via (stmt.If test (map only chosen) None)
            (λ call call' h. if_agrees test (block scope (map only chosen) call) (pure Next) (block scope (map only chosen) call') (pure Next) (in_order_known chosen call call' h) (pure_agrees n Next))
        layer (stmt.If test chosen (Some other)) =
            via (stmt.If test (map only chosen) (Some (map only other)))
            (λ call call' h.
            if_agrees test (block scope (map only chosen) call) (block scope (map only other) call) (block scope (map only chosen) call') (block scope (map only other) call')
            (in_order_known chosen call call' h) (in_order_known other call call' h))
        layer (stmt.Loop body) =
            let blocks : Meaning = block scope (map only body) in
            via (stmt.Loop (map only body))
            (λ call call' h.
            loop_agrees n (blocks call >>= (λ flow. pure (after_round flow))) (blocks call' >>= (λ flow. pure (after_round flow))) (round_agrees n (blocks call) (blocks call') (in_order_known body call call' h)))
        layer (stmt.Count set tested count raised body) =
            via (stmt.Count set tested count raised (map only body))
            (λ call call' h. count_agrees set count (block scope (map only body) call) (block scope (map only body) call') (in_order_known body call call' h))
        layer stmt.Break = via stmt.Break (λ call call' h. pure_agrees n Broke)
        layer (stmt.Return value) = via (stmt.Return value) (λ call call' h. returned_agrees value)
        layer (stmt.Put e) =
            via (stmt.Put e)
            (λ call call' h. bind_agrees n (evaluate scope e) (evaluate scope e) (λ x. put_value x.number) (λ x. put_value x.number) (evaluate_agrees e) (λ x. put_value_agrees x.number))
        layer (stmt.Get place) =
            let stored : Act Memory (Unit {0}) = located scope place >>= (λ pointer. get >>= (λ byte. write_number pointer (gotten byte))) in
            via (stmt.Get place) (λ call call' h. and_next_agrees n stored stored (get_to_agrees place))
        layer (stmt.Halt kind file line) = via (stmt.Halt kind file line) (λ call call' h t s le. (refl, le))

    -- statements in order
    pub block_agrees : (stmts : List CStmt) (call call' : Callees) → AgreeingCalls n call call' → Agrees n (block scope stmts call) (block scope stmts call')
    block_agrees [] call call' h = pure_agrees n Next
    block_agrees (s ∷ stmts) call call' h =
        bind_agrees n (meaning scope s call) (meaning scope s call') (then_on (block scope stmts call)) (then_on (block scope stmts call')) (meaning_agrees s call call' h)
        (λ flow. then_on_agrees n (block scope stmts call) (block scope stmts call') flow (block_agrees stmts call call' h))

  module _ (file : CFile) where
    -- the body of a function
    body_agrees : (function : CFun) (call call' : Callees) → AgreeingCalls n call call' → Agrees n (body file function call) (body file function call')
    body_agrees function call call' h =
        let go = block (scope_of file function) function.body call in
        let go' = block (scope_of file function) function.body call' in
        bind_agrees n (go >>= given function.result) (go' >>= given function.result) leave leave
        (bind_agrees n go go' (given function.result) (given function.result) (block_agrees (scope_of file function) function.body call call' h) (given_agrees function.result))
        (λ value t s le. (refl, le))

    -- calls of inline functions
    inline_callees_agree : (earlier : List CFun) (name : List ℕ) (args : List Tree) → Agrees n (inline_callees file earlier name args) (inline_callees file earlier name args)
    inline_callees_agree [] name args = stuck_agrees
    inline_callees_agree (function ∷ earlier) name args =
        let inside : Act Memory (Option ℤ) = begin_inline function args >> body file function (inline_callees file earlier) in
        choose_agrees n (function.inline && bytes_eq function.name name) inside (inline_callees file earlier name args) inside (inline_callees file earlier name args)
        (bind_agrees n (begin_inline function args) (begin_inline function args) (λ _. body file function (inline_callees file earlier)) (λ _. body file function (inline_callees file earlier)) (λ t s le. (refl, le))
        (λ _. body_agrees function (inline_callees file earlier) (inline_callees file earlier) (inline_callees_agree earlier)))
        (inline_callees_agree earlier name args)

    module _ (call call' : ℕ → List Tree → Act Memory (Option ℤ)) (h : (number : ℕ) (args : List Tree) → Agrees n (call number args) (call' number args)) where
      -- calls by numbers
      numbered_call_agrees : (name : List ℕ) (number : Option ℕ) (args : List Tree) → Agrees n (numbered_call file call name number args) (numbered_call file call' name number args)
      numbered_call_agrees name None args = inline_callees_agree (reverse file.functions) name args
      numbered_call_agrees name (Some number) args = h number args

      -- calls by names
      callees_agree : (name : List ℕ) (args : List Tree) → Agrees n (callees file call name args) (callees file call' name args)
      callees_agree name args = numbered_call_agrees name (number_of file name) args

      -- a function
      function_agrees : (number : ℕ) (args : List Tree) (function : CFun) → Agrees n (begin number (charge file function) function args >> body file function (callees file call)) (begin number (charge file function) function args >> body file function (callees file call'))
      function_agrees number args function =
          bind_agrees n (begin number (charge file function) function args) (begin number (charge file function) function args) (λ _. body file function (callees file call)) (λ _. body file function (callees file call'))
          (λ t s le. (refl, le)) (λ _. body_agrees function (callees file call) (callees file call') callees_agree)

-- functions agree where what their calls do agrees
pub functions_respect : (file : CFile) → Respects (functions file)
functions_respect file n call call' h number args =
    with_some_agrees n (slice_get file.functions number)
    (λ function. begin number (charge file function) function args >> body file function (callees file call))
    (λ function. begin number (charge file function) function args >> body file function (callees file call'))
    (function_agrees n file call call' h number args)

-- statements in order give no turn back where calls give none back
pub block_steady : (scope : Scope) (stmts : List CStmt) (call : Callees) → ((name : List ℕ) (args : List Tree) → Steady (call name args)) → Steady (block scope stmts call)
block_steady scope stmts call h n = block_agrees n scope stmts call call (λ name args. h name args n)

-- calls in a run give no turn back
pub run_callees_steady : (file : CFile) (limit : Option ℕ) (name : List ℕ) (args : List Tree) → Steady (run_callees file limit name args)
run_callees_steady file limit name args n =
    let called : ℕ → List Tree → Act Memory (Option ℤ) = calls (enter file limit) (functions file) in
    callees_agree n file called called
    (λ number args. calls_steady (enter file limit) (functions file)
    (λ number args. takes_steady (enter file limit number args) (turn_within_by_takes limit (λ memory. live memory + charge_of file (slice_get file.functions number))))
    (functions_respect file) number args n)
    name args
