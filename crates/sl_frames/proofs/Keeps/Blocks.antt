-- The C of statements keeps the rules.
use Rattle.std.proofs.Common.{◌≡◌, ℕ, ◌+◌, ◌≤◌, List, [], ◌∷◌, Bool, true, false, Option, Some, None, refl, sym, subst, arith, All, map, codes}
use Rattle.std.specs.Prelude.{pos, negsuc, is_some, max, nat_lt, not, ◌==◌, ◌&&◌, if◌then◌else◌, slice_get, option_map}
use Rattle.std.specs.List.{list_all, fold}
use Rattle.std.specs.Option.{option_and_then}
use Rattle.std.proofs.lemmas.Bool.{and_parts, ltb-true}
use Rattle.std.proofs.lemmas.Option.{slice_get_within}
use Rattle.std.proofs.lemmas.List.Elements.{All-nil, All-cons, All-head, All-tail, All-append, All-map, All-weaker}
use Rattle.sl_core.specs.declared.tree.Core.{Core}
use Rattle.sl_core.specs.declared.tree.CoreFun.{CoreFun}
use Rattle.sl_core.specs.declared.tree.CorePath.{CorePath}
use Rattle.sl_core.specs.declared.tree.CoreExpr.{CoreExpr, CoreExpr-F, ind-CoreExpr, map-CoreExpr, roll-CoreExpr}
use Rattle.sl_core.specs.declared.tree.CoreExpr.TheOpen as expr
use Rattle.sl_core.specs.declared.tree.CoreStmt.{CoreStmt, CoreStmt-F, ind-CoreStmt, map-CoreStmt, roll-CoreStmt}
use Rattle.sl_core.specs.declared.tree.CoreStmt.TheOpen as stmt
use Rattle.sl_core.specs.Meaning.{root_of}
use Rattle.sl_core.specs.Sound.{type_has, kind_of, is_number, is_number_of, place_has, type_of_place, result_fits, fits_step, fits, is_source_place, expr_range_step, expr_in_range, stmt_range_step, stmt_in_range, expr_depth, stmt_depth_step, stmt_depth, greatest}
use Rattle.c_tree.specs.declared.tree.CArg.TheVariants.{Value}
use Rattle.c_tree.specs.declared.tree.CFile.{CFile}
use Rattle.c_tree.specs.declared.tree.CFun.{CFun}
use Rattle.c_tree.specs.declared.tree.CType.TheVariants.{Void}
use Rattle.c_tree.specs.declared.tree.CStmt.{CStmt}
use Rattle.c_tree.specs.declared.tree.CStmt.TheVariants.{Assign, Call, If, Loop, Break, Return, Get, Halt}
use Rattle.c_tree.specs.declared.tree.CExpr.{CExpr}
use Rattle.c_tree.specs.Scope.{Scope}
use Rattle.c_tree.specs.Rules.{word}
use Rattle.c_tree.proofs.Variants.{depth_of_const}
use Rattle.c_helpers.specs.Functions.{constant}
use Rattle.c_helpers.proofs.Keeping.{inside, TargetGood, StmtGood}
use Rattle.c_helpers.proofs.Composing.{constant_good, assign_good, call_good, return_good, put_good, get_good, break_good, halt_good, loop_good, if_good, if_else_good, deeper}
use Rattle.sl_frames.specs.Names.{variable_name, place_of, function_name, called_name}
use Rattle.sl_frames.specs.Promise.{HasOneType}
use Rattle.sl_frames.specs.Translated.{code_of, put_byte, print, with_value, text_step, text_of, put_code, else_of, joined, stmts_step, stmts_of, needed, needs_step, needs}
use Rattle.sl_frames.proofs.Layers.{text_layer, stmts_layer, needs_layer}
use Rattle.sl_core.proofs.Layers.{expr_range_layer, fits_layer, stmt_range_layer, stmt_depth_layer}
use Rattle.sl_frames.proofs.Keeps.Tests.{some_then, test_passed, place_is, is_something, left_is, halt_is}
use Rattle.sl_frames.proofs.Keeps.Inside.{one, IsPlaced}
use Rattle.sl_frames.proofs.Keeps.Codes.{Fits, code_keeps}

-- Lists ---------------------------------------------------------------------------------------------------------------

-- what is at least the greatest is at least each
pub all_below : (limit : ℕ) (numbers : List ℕ) → greatest numbers ≤ limit → All (λ number. number ≤ limit) numbers
all_below limit numbers within = (from 0 numbers within).1
  where
    from : (start : ℕ) (numbers : List ℕ) → fold max start numbers ≤ limit → (start ≤ limit) × All (λ number. number ≤ limit) numbers
    from start [] within = (within, All-nil (λ number. number ≤ limit))
    from start (number ∷ numbers) within =
        let rest = from (max start number) numbers within in
        let low = rest.0 in
        (omega arith, All-cons (λ number. number ≤ limit) number numbers (omega arith) rest.1)

-- bytes that pass the test
bytes_small : (bytes : List ℕ) → list_all (λ byte. nat_lt byte 256) bytes ≡ true → All (λ byte. byte ≤ 255) bytes
bytes_small [] passed = All-nil (λ byte. byte ≤ 255)
bytes_small (byte ∷ bytes) passed =
    let both = and_parts (nat_lt byte 256) (list_all (λ byte. nat_lt byte 256) bytes) passed in
    let small = ltb-true byte 256 both.0 in
    All-cons (λ byte. byte ≤ 255) byte bytes (omega arith) (bytes_small bytes both.1)

-- the bytes of a text are bytes
abbrev TextClaim : Option (List ℕ) → Bool → Type 0
TextClaim text range = (bytes : List ℕ) → text ≡ Some bytes → range ≡ true → All (λ byte. byte ≤ 255) bytes

abbrev TextSmall : CoreExpr → Type 0
TextSmall e = TextClaim (text_of e) (expr_in_range e)

abbrev TextKnown : Type 0
TextKnown = (e : CoreExpr) × TextSmall e

abbrev text_first : TextKnown → CoreExpr
text_first known = known.0

text_small : (e : CoreExpr) (bytes : List ℕ) → text_of e ≡ Some bytes → expr_in_range e ≡ true → All (λ byte. byte ≤ 255) bytes
text_small e = ind-CoreExpr TextSmall (λ x y same. subst (λ z. TextSmall (roll-CoreExpr z)) same (layer y)) e
  where
    via : (x : CoreExpr-F CoreExpr) → TextClaim (text_step (map-CoreExpr CoreExpr (Option (List ℕ)) text_of x)) (expr_range_step (map-CoreExpr CoreExpr Bool expr_in_range x)) → TextSmall (roll-CoreExpr x)
    via x h =
        subst (λ text. TextClaim text (expr_in_range (roll-CoreExpr x))) (sym (text_layer x))
        (subst (TextClaim (text_step (map-CoreExpr CoreExpr (Option (List ℕ)) text_of x))) (sym (expr_range_layer x)) h)

    layer : (y : CoreExpr-F TextKnown) → TextSmall (roll-CoreExpr (map-CoreExpr TextKnown CoreExpr text_first y))
    layer (expr.Number number type) = via (expr.Number number type) (λ bytes is range. cc)
    layer (expr.TextOf text) = via (expr.TextOf text) (λ bytes is range. let same : text ≡ bytes = cc in subst (All (λ byte. byte ≤ 255)) same (bytes_small text range))
    layer (expr.Path path type) = via (expr.Path path type) (λ bytes is range. cc)
    layer (expr.Apply op left right type file line) = via (expr.Apply op left.0 right.0 type file line) (λ bytes is range. cc)
    layer (expr.Compare comparison left right type) = via (expr.Compare comparison left.0 right.0 type) (λ bytes is range. cc)

-- Statements ----------------------------------------------------------------------------------------------------------

module _ (core : Core) (types : HasOneType core) (source : CoreFun) (file : CFile) (before : List CFun) (function : CFun) (limit : ℕ) (placed : IsPlaced core source file before function limit) where
  abbrev scope : Scope
  scope = inside file before function

  -- statements that keep the rules
  abbrev Good : ℕ → CStmt → Type 0
  Good depth s = StmtGood file before function depth s

  abbrev AreGood : ℕ → List CStmt → Type 0
  AreGood depth body = All (Good depth) body

  widen : (small large : ℕ) (body : List CStmt) → small ≤ large → AreGood small body → AreGood large body
  widen small large body le good = All-weaker (Good small) (Good large) (deeper file before function small large le) body good

  alone : (depth : ℕ) (s : CStmt) → Good depth s → AreGood depth (s ∷ [])
  alone depth s good = All-cons (Good depth) s [] good (All-nil (Good depth))

  -- a statement with a value
  with_keeps : (depth : ℕ) (e : CoreExpr) (make : CExpr → CStmt) → is_some (kind_of core source e) ≡ true → expr_in_range e ≡ true → needed e ≤ limit → 4 + expr_depth e ≤ depth
      → (Fits scope (2 + expr_depth e) (code_of e 0).value → Good depth (make (code_of e 0).value)) → AreGood depth (with_value e make)
  with_keeps depth e make some range within deep good =
      let code = code_keeps core types source file before function limit placed e 0 some range within in
      All-append (Good depth) (code_of e 0).before (make (code_of e 0).value ∷ []) (widen (4 + expr_depth e) depth (code_of e 0).before deep code.first) (alone depth (make (code_of e 0).value) (good code.value))

  -- what is printed
  prints : (e : CoreExpr) → is_some (kind_of core source e) ≡ true → expr_in_range e ≡ true → needed e ≤ limit → (text : Option (List ℕ)) → text_of e ≡ text → AreGood (4 + (1 + expr_depth e)) (put_code text e)
  prints e some range within None is =
      with_keeps (4 + (1 + expr_depth e)) e print some range within (omega arith)
      (λ fit. call_good file before function (4 + (1 + expr_depth e)) None (codes "sl_print") (Value (code_of e 0).value ∷ [])
      (record { params = one; result = Void; can = placed.print; fits = (fit.good, refl, tt); stored = tt }) (let below = fit.deep in omega arith) (omega arith))
  prints e some range within (Some bytes) is =
      All-map (Good (4 + (1 + expr_depth e))) put_byte bytes
      (All-weaker (λ byte. byte ≤ 255) (λ byte. Good (4 + (1 + expr_depth e)) (put_byte byte))
      (λ byte small. put_good file before function (4 + (1 + expr_depth e)) (constant byte) (constant_good scope byte (omega arith)) (let is = depth_of_const true byte in omega arith)) bytes
      (text_small e bytes is range))

  -- the place of a result is known
  target_keeps : (target : Option CorePath) (type : ℕ) → result_fits source target type ≡ true → TargetGood scope (option_map place_of target) word
  target_keeps None type has = tt
  target_keeps (Some path) type has = (placed.variables (root_of path.root) (place_is source path type has), refl)

  -- a call
  calls : (target : Option CorePath) (number : ℕ) (there : Option CoreFun) → slice_get core.functions number ≡ there → not (number == core.entry) ≡ true
      → is_some (option_and_then (λ (callee : CoreFun). if result_fits source target callee.result then Some callee else None) there) ≡ true
      → Good 5 (Call (option_map place_of target) (called_name core number there) [])
  calls target number None is other some = let no : false ≡ true = some in cc
  calls target number (Some callee) is other some =
      call_good file before function 5 (option_map place_of target) (function_name core number callee) []
      (record {
        params = [];
        result = word;
        can = placed.calls number callee is (not_entry (number == core.entry) other);
        fits = tt;
        stored = target_keeps target callee.result (test_passed (result_fits source target callee.result) callee some);
      })
      (omega arith) (omega arith)
    where
      not_entry : (test : Bool) → not test ≡ true → test ≡ false
      not_entry true is = let no : false ≡ true = is in cc
      not_entry false is = refl

  -- a block behind `else`, if there is anything in it
  chooses : (depth : ℕ) (test : CExpr) (chosen other : List CStmt) → Fits scope depth test → AreGood depth chosen → AreGood depth other → Good (1 + depth) (If test chosen (else_of other))
  chooses depth test chosen [] fit first second = if_good file before function depth test chosen fit.good fit.deep first
  chooses depth test chosen (s ∷ other) fit first second = if_else_good file before function depth test chosen (s ∷ other) fit.good fit.deep first second

  abbrev Claim : Bool → Bool → ℕ → ℕ → List CStmt → Type 0
  Claim fit range need depth body = fit ≡ true → range ≡ true → need ≤ limit → AreGood (4 + depth) body

  abbrev Keeps : CoreStmt → Type 0
  Keeps s = Claim (fits core source s) (stmt_in_range s) (needs s) (stmt_depth s) (stmts_of core s)

  abbrev Known : Type 0
  Known = (s : CoreStmt) × Keeps s

  abbrev first : Known → CoreStmt
  first known = known.0

  -- blocks
  block_keeps : (depth : ℕ) (block : List Known) → list_all (λ fit. fit) (map (fits core source) (map first block)) ≡ true → list_all (λ fit. fit) (map stmt_in_range (map first block)) ≡ true
      → All (λ number. number ≤ limit) (map needs (map first block)) → All (λ number. number ≤ depth) (map stmt_depth (map first block)) → AreGood (4 + depth) (joined (map (stmts_of core) (map first block)))
  block_keeps depth [] fit range need deep = All-nil (Good (4 + depth))
  block_keeps depth (s ∷ block) fit range need deep =
      let fits_both = and_parts (fits core source s.0) (list_all (λ fit. fit) (map (fits core source) (map first block))) fit in
      let range_both = and_parts (stmt_in_range s.0) (list_all (λ fit. fit) (map stmt_in_range (map first block))) range in
      let low = All-head (λ number. number ≤ limit) (needs s.0) (map needs (map first block)) need in
      let shallow = All-head (λ number. number ≤ depth) (stmt_depth s.0) (map stmt_depth (map first block)) deep in
      All-append (Good (4 + depth)) (stmts_of core s.0) (joined (map (stmts_of core) (map first block)))
      (widen (4 + stmt_depth s.0) (4 + depth) (stmts_of core s.0) (omega arith) (s.1 fits_both.0 range_both.0 low))
      (block_keeps depth block fits_both.1 range_both.1 (All-tail (λ number. number ≤ limit) (needs s.0) (map needs (map first block)) need)
      (All-tail (λ number. number ≤ depth) (stmt_depth s.0) (map stmt_depth (map first block)) deep))

  -- where all numbers are below the greatest of some
  all_within : (numbers : List ℕ) (depth : ℕ) → greatest numbers ≤ depth → All (λ number. number ≤ depth) numbers
  all_within numbers depth le = all_below depth numbers le

  -- a choice
  if_keeps : (test : CoreExpr) (chosen other : List Known)
      → Claim (fits_step core source (stmt.If test (map (fits core source) (map first chosen)) (map (fits core source) (map first other))))
      (stmt_range_step (stmt.If test (map stmt_in_range (map first chosen)) (map stmt_in_range (map first other))))
      (needs_step (stmt.If test (map needs (map first chosen)) (map needs (map first other))))
      (stmt_depth_step (stmt.If test (map stmt_depth (map first chosen)) (map stmt_depth (map first other))))
      (stmts_step core (stmt.If test (map (stmts_of core) (map first chosen)) (map (stmts_of core) (map first other))))
  if_keeps test chosen other fit range need =
      let depth = max (expr_depth test) (max (greatest (map stmt_depth (map first chosen))) (greatest (map stmt_depth (map first other)))) in
      let fits_two = and_parts (is_number (kind_of core source test) && list_all (λ fit. fit) (map (fits core source) (map first chosen))) (list_all (λ fit. fit) (map (fits core source) (map first other))) fit in
      let fits_one = and_parts (is_number (kind_of core source test)) (list_all (λ fit. fit) (map (fits core source) (map first chosen))) fits_two.0 in
      let range_two = and_parts (expr_in_range test && list_all (λ fit. fit) (map stmt_in_range (map first chosen))) (list_all (λ fit. fit) (map stmt_in_range (map first other))) range in
      let range_one = and_parts (expr_in_range test) (list_all (λ fit. fit) (map stmt_in_range (map first chosen))) range_two.0 in
      with_keeps (4 + (1 + depth)) test (λ value. If value (joined (map (stmts_of core) (map first chosen))) (else_of (joined (map (stmts_of core) (map first other)))))
      (left_is (kind_of core source test) (kind_of core source test) fits_one.0) range_one.0 (omega arith) (omega arith)
      (λ fit_value. deeper file before function (1 + (4 + depth)) (4 + (1 + depth)) (omega arith) _
      (chooses (4 + depth) (code_of test 0).value (joined (map (stmts_of core) (map first chosen))) (joined (map (stmts_of core) (map first other)))
      (record { good = fit_value.good; deep = let below = fit_value.deep in omega arith })
      (block_keeps depth chosen fits_one.1 range_one.1 (all_within (map needs (map first chosen)) limit (omega arith)) (all_within (map stmt_depth (map first chosen)) depth (omega arith)))
      (block_keeps depth other fits_two.1 range_two.1 (all_within (map needs (map first other)) limit (omega arith)) (all_within (map stmt_depth (map first other)) depth (omega arith)))))

  -- a loop
  loop_keeps : (stmts : List Known)
      → Claim (fits_step core source (stmt.Loop (map (fits core source) (map first stmts)))) (stmt_range_step (stmt.Loop (map stmt_in_range (map first stmts)))) (needs_step (stmt.Loop (map needs (map first stmts))))
      (stmt_depth_step (stmt.Loop (map stmt_depth (map first stmts)))) (stmts_step core (stmt.Loop (map (stmts_of core) (map first stmts))))
  loop_keeps stmts fit range need =
      let depth = greatest (map stmt_depth (map first stmts)) in
      let block = joined (map (stmts_of core) (map first stmts)) in
      alone (4 + (1 + depth)) (Loop block)
      (deeper file before function (1 + (4 + depth)) (4 + (1 + depth)) (omega arith) (Loop block)
      (loop_good file before function (4 + depth) block placed.outer
      (block_keeps depth stmts fit range (all_within (map needs (map first stmts)) limit need) (all_within (map stmt_depth (map first stmts)) depth (omega arith)))))

  pub stmt_keeps : (s : CoreStmt) → fits core source s ≡ true → stmt_in_range s ≡ true → needs s ≤ limit → AreGood (4 + stmt_depth s) (stmts_of core s)
  stmt_keeps s = ind-CoreStmt Keeps (λ x y same. subst (λ z. Keeps (roll-CoreStmt z)) same (layer y)) s
    where
      via : (x : CoreStmt-F CoreStmt)
          → Claim (fits_step core source (map-CoreStmt CoreStmt Bool (fits core source) x)) (stmt_range_step (map-CoreStmt CoreStmt Bool stmt_in_range x)) (needs_step (map-CoreStmt CoreStmt ℕ needs x)) (stmt_depth_step (map-CoreStmt CoreStmt ℕ stmt_depth x)) (stmts_step core (map-CoreStmt CoreStmt (List CStmt) (stmts_of core) x))
          → Keeps (roll-CoreStmt x)
      via x h = rw (fits_layer core source x, stmt_range_layer x, needs_layer x, stmt_depth_layer x, stmts_layer core x) h

      layer : (y : CoreStmt-F Known) → Keeps (roll-CoreStmt (map-CoreStmt Known CoreStmt first y))
      layer (stmt.Store path e) =
          via (stmt.Store path e)
          (λ fit range need.
          let there = some_then (type_of_place source path) (λ type. if is_number_of type (kind_of core source e) then Some type else None) fit in
          let known = placed.variables (root_of path.root) (slice_get_within source.vars (root_of path.root) there.0 there.1) in
          with_keeps (4 + (1 + expr_depth e)) e (Assign (place_of path)) (is_something there.0 (kind_of core source e) (test_passed (is_number_of there.0 (kind_of core source e)) there.0 there.2)) range need (omega arith)
          (λ fit_value. assign_good file before function (4 + (1 + expr_depth e)) (variable_name (root_of path.root)) (code_of e 0).value known fit_value.good (let below = fit_value.deep in omega arith) (omega arith)))
      layer (stmt.If test chosen other) = via (stmt.If test (map first chosen) (map first other)) (if_keeps test chosen other)
      layer (stmt.Loop stmts) = via (stmt.Loop (map first stmts)) (loop_keeps stmts)
      layer stmt.Break = via stmt.Break (λ fit range need. alone 5 Break (break_good file before function 5 (omega arith)))
      layer (stmt.Call target number) =
          via (stmt.Call target number)
          (λ fit range need.
          let both = and_parts (not (number == core.entry)) (is_some (option_and_then (λ (callee : CoreFun). if result_fits source target callee.result then Some callee else None) (slice_get core.functions number))) fit in
          alone 5 (Call (option_map place_of target) (called_name core number (slice_get core.functions number)) []) (calls target number (slice_get core.functions number) refl both.0 both.1))
      layer (stmt.Put e) = via (stmt.Put e) (λ fit range need. prints e fit range need (text_of e) refl)
      layer (stmt.Get path) =
          via (stmt.Get path)
          (λ fit range need.
          let there = some_then (type_of_place source path) (λ type. if type_has core type (negsuc 0) && type_has core type (pos 255) then Some type else None) fit in
          let known = placed.variables (root_of path.root) (slice_get_within source.vars (root_of path.root) there.0 there.1) in
          alone 5 (Get (place_of path)) (get_good file before function 5 (variable_name (root_of path.root)) known (omega arith)))
      layer (stmt.Halt kind file_number line) =
          via (stmt.Halt kind file_number line)
          (λ fit range need.
          let both = and_parts (nat_lt kind 256) (is_source_place file_number line) range in
          let small = ltb-true kind 256 both.0 in
          alone 5 (Halt kind file_number line) (halt_good file before function 5 kind file_number line (halt_is kind file_number line (omega arith) both.1) (omega arith)))
      layer (stmt.Return e) =
          via (stmt.Return e)
          (λ fit range need. with_keeps (4 + (1 + expr_depth e)) e (λ value. Return (Some value)) (is_something source.result (kind_of core source e) fit) range need (omega arith)
          (λ fit_value. return_good file before function (4 + (1 + expr_depth e)) (code_of e 0).value placed.gives fit_value.good (let below = fit_value.deep in omega arith)))
