-- How deep the core of a plain program nests.
use Rattle.std.proofs.Common.{◌≡◌, ℕ, suc, ◌+◌, ◌≤◌, pos, List, [], ◌∷◌, ◌++◌, map, max, Option, Some, None, codes, refl, sym, subst, ap, arith, le_trans}
use Rattle.std.specs.List.{AllByRecursion}
use Rattle.sl_num.specs.declared.arithmetic.Op.TheVariants.{Add}
use Rattle.sl_num.specs.declared.comparing.Comparison.TheVariants.{Less}
use Rattle.sl_core.specs.declared.tree.CorePath.{CorePath}
use Rattle.sl_core.specs.declared.tree.CoreExpr.{CoreExpr}
use Rattle.sl_core.specs.declared.tree.CoreExpr.TheVariants as expr
use Rattle.sl_core.specs.declared.tree.CoreStmt.{CoreStmt}
use Rattle.sl_core.specs.declared.tree.CoreStmt.TheVariants as core
use Rattle.sl_core.specs.Sound.{expr_depth, stmt_depth, greatest}
use Rattle.sl_num.specs.Comparing.{truth}
use Rattle.sl_plain.specs.declared.program.Kind.{Kind}
use Rattle.sl_plain.specs.declared.program.Kind.TheVariants as kind
use Rattle.sl_plain.specs.declared.program.Atom.{Atom}
use Rattle.sl_plain.specs.declared.program.Atom.TheVariants.{Name, Number, Truth}
use Rattle.sl_plain.specs.declared.program.Right.{Right}
use Rattle.sl_plain.specs.declared.program.Right.TheVariants.{Just, Compare, Apply, Get}
use Rattle.sl_plain.specs.declared.program.Condition.{Condition}
use Rattle.sl_plain.specs.declared.program.Condition.TheVariants as condition
use Rattle.sl_plain.specs.declared.program.Stmt.{Stmt, Stmt-F, ind-Stmt, map-Stmt, roll-Stmt}
use Rattle.sl_plain.specs.declared.program.Stmt.TheOpen as stmt
use Rattle.sl_plain.specs.Program.{Declared, deepest, depth_step, depth, kind_of_atom}
use Rattle.sl_plain.specs.Means.{assert_halt, halt_halt}
use Rattle.sl_plain.specs.Lowered.{path_of, atom_expr, condition_expr, store_right, unnamed, leave_unless, raise, for_round, put_text, print_of, Lowered, in_order, lowered_step, lowered, z}
use Rattle.sl_plain.proofs.Layers.{depth_layer, lowered_layer}
use Rattle.sl_plain.proofs.Greatest.{greatest_within, greatest_bounds, all_to_map}
use Rattle.sl_plain.proofs.Names.{all_append, all_so}
use Rattle.sl_plain.proofs.CoreLayers.{number_depth, text_depth, path_depth, apply_depth, compare_depth, store_depth, if_depth, loop_depth, break_depth, get_depth, put_depth, halt_depth}

module _ (names : List Declared) where
  -- an atom
  pub atom_depth : (atom : Atom) → expr_depth (atom_expr names atom) ≡ 1
  atom_depth (Name name) = path_depth (path_of names name) z
  atom_depth (Number number) = number_depth number z
  atom_depth (Truth so) = number_depth (truth so) z

  -- a condition
  condition_depth : (test : Condition) → expr_depth (condition_expr names test) ≤ 2
  condition_depth (condition.Just atom) = let is = atom_depth atom in omega arith
  condition_depth (condition.Compare by a b) = let is = compare_depth by (atom_expr names a) (atom_expr names b) z in let left = atom_depth a in let right = atom_depth b in omega arith

  -- statements of the core nest at most so deep
  abbrev pub Shallow : ℕ → List CoreStmt → Type 0
  Shallow n stmts = AllByRecursion (λ s. stmt_depth s ≤ n) stmts

  shallow_greatest : (n : ℕ) (stmts : List CoreStmt) → Shallow n stmts → greatest (map stmt_depth stmts) ≤ n
  shallow_greatest n stmts all = greatest_within n 0 (map stmt_depth stmts) (omega arith) (all_to_map (λ d. d ≤ n) stmt_depth stmts all)

  -- a choice nests one deeper
  choice_shallow : (n : ℕ) (test : CoreExpr) (chosen other : List CoreStmt) → expr_depth test ≤ n → Shallow n chosen → Shallow n other → Shallow (suc n) (core.If test chosen other ∷ [])
  choice_shallow n test chosen other le a b =
      let is = if_depth test chosen other in
      let first = shallow_greatest n chosen a in
      let second = shallow_greatest n other b
      in (omega arith, tt)

  -- a loop as well
  loop_shallow : (n : ℕ) (body : List CoreStmt) → Shallow n body → Shallow (suc n) (core.Loop body ∷ [])
  loop_shallow n body all =
      let is = loop_depth body in
      let most = shallow_greatest n body all
      in (omega arith, tt)

  -- an expression that is stored
  stored_shallow : (n d : ℕ) (path : CorePath) (e : CoreExpr) → expr_depth e ≤ d → 1 + d ≤ n → Shallow n (core.Store path e ∷ [])
  stored_shallow n d path e le less = let is = store_depth path e in (omega arith, tt)

  right_shallow : (path : CorePath) (right : Right) → Shallow 4 (store_right names path right ∷ [])
  right_shallow path (Just atom) = stored_shallow 4 1 path (atom_expr names atom) (let is = atom_depth atom in omega arith) (omega arith)
  right_shallow path (Compare by a b) =
      let is = compare_depth by (atom_expr names a) (atom_expr names b) z in let left = atom_depth a in let right = atom_depth b in
      stored_shallow 4 2 path (expr.Compare by (atom_expr names a) (atom_expr names b) z) (omega arith) (omega arith)
  right_shallow path (Apply op a b line) =
      let is = apply_depth op (atom_expr names a) (atom_expr names b) z 0 line in let left = atom_depth a in let right = atom_depth b in
      stored_shallow 4 2 path (expr.Apply op (atom_expr names a) (atom_expr names b) z 0 line) (omega arith) (omega arith)
  right_shallow path Get = let is = get_depth path in (omega arith, tt)

  leave_shallow : (n : ℕ) (e : CoreExpr) → expr_depth e ≤ 2 → 3 ≤ n → Shallow n (leave_unless e ∷ [])
  leave_shallow n e le less =
      let is = if_depth e [] (core.Break ∷ []) in
      let first = shallow_greatest 1 [] tt in
      let second = shallow_greatest 1 (core.Break ∷ []) (let left = break_depth in omega arith, tt)
      in (omega arith, tt)

  -- a round of a `for`
  round_shallow : (n line : ℕ) (path next bound : CorePath) (body : List CoreStmt) → 3 ≤ n → Shallow n body → Shallow n (for_round line path next bound body)
  round_shallow n line path next bound body le all =
      let is = compare_depth Less (expr.Path next z) (expr.Path bound z) z in
      let of_next = path_depth next z in
      let of_bound = path_depth bound z in
      let sum = apply_depth Add (expr.Path next z) (expr.Number (pos 1) z) z 0 line in
      let of_one = number_depth (pos 1) z in
      let asks = leave_shallow n (expr.Compare Less (expr.Path next z) (expr.Path bound z) z) (omega arith) le in
      let named = stored_shallow n 1 path (expr.Path next z) (omega arith) (omega arith) in
      let raised = stored_shallow n 2 next (expr.Apply Add (expr.Path next z) (expr.Number (pos 1) z) z 0 line) (omega arith) (omega arith)
      in (asks.0, (named.0, all_append (λ s. stmt_depth s ≤ n) body (raise line next ∷ []) all raised))

  text_shallow : (n : ℕ) (text : List ℕ) → 2 ≤ n → Shallow n (put_text text ∷ [])
  text_shallow n text le = let is = put_depth (expr.TextOf text) in let of = text_depth text in (omega arith, tt)

  -- what is known of a statement
  abbrev Claim : Stmt → Type 0
  Claim s = (taken : ℕ) → Shallow (depth s + 4) (lowered names s taken)

  abbrev Known : Type 0
  Known = (s : Stmt) × Claim s

  abbrev first : Known → Stmt
  first known = known.0

  more : (m n : ℕ) → m ≤ n → (stmts : List CoreStmt) → Shallow m stmts → Shallow n stmts
  more m n le stmts all = all_so (λ s. stmt_depth s ≤ m) (λ s. stmt_depth s ≤ n) (λ s h. le_trans h le) stmts all

  block : (n : ℕ) (ks : List Known) → AllByRecursion (λ d. d ≤ n) (map depth (map first ks)) → (taken : ℕ) → Shallow (n + 4) (in_order (map (lowered names) (map first ks)) taken)
  block n [] all taken = tt
  block n (k ∷ ks) all taken =
      all_append (λ s. stmt_depth s ≤ n + 4) (lowered names k.0 taken) (in_order (map (lowered names) (map first ks)) taken)
      (more (depth k.0 + 4) (n + 4) (let le = all.0 in omega arith) (lowered names k.0 taken) (k.1 taken))
      (block n ks all.1 taken)

  -- a block, as deep as its statements
  whole_block : (ks : List Known) (taken : ℕ) → Shallow (deepest (map depth (map first ks)) + 4) (in_order (map (lowered names) (map first ks)) taken)
  whole_block ks taken = block (deepest (map depth (map first ks))) ks (greatest_bounds 0 (map depth (map first ks))) taken

  -- every statement
  claim : (s : Stmt) → Claim s
  claim s = ind-Stmt Claim (λ x y same. subst (λ z. Claim (roll-Stmt z)) same (layer y)) s
    where
      via : (x : Stmt-F Stmt) → ((taken : ℕ) → Shallow (depth_step (map-Stmt Stmt ℕ depth x) + 4) (lowered_step names (map-Stmt Stmt Lowered (lowered names) x) taken)) → Claim (roll-Stmt x)
      via x h =
          subst (λ d. (taken : ℕ) → Shallow (d + 4) (lowered names (roll-Stmt x) taken)) (sym (depth_layer x))
          (subst (λ (l : Lowered). (taken : ℕ) → Shallow (depth_step (map-Stmt Stmt ℕ depth x) + 4) (l taken)) (sym (lowered_layer names x)) h)

      print_shallow : (given : Option Kind) (atom : Atom) → Shallow 4 (print_of given (atom_expr names atom))
      print_shallow (Some kind.Truth) atom = choice_shallow 3 (atom_expr names atom) (put_text (codes "T\n") ∷ []) (put_text (codes "F\n") ∷ []) (let is = atom_depth atom in omega arith) (text_shallow 3 (codes "T\n") (omega arith)) (text_shallow 3 (codes "F\n") (omega arith))
      print_shallow (Some kind.Number) atom = let is = put_depth (atom_expr names atom) in let of = atom_depth atom in (omega arith, text_shallow 4 (codes "\n") (omega arith))
      print_shallow None atom = let is = put_depth (atom_expr names atom) in let of = atom_depth atom in (omega arith, text_shallow 4 (codes "\n") (omega arith))

      halt_shallow : (n kind line : ℕ) → 1 ≤ n → Shallow n (core.Halt kind 0 line ∷ [])
      halt_shallow n kind line le = let is = halt_depth kind 0 line in (omega arith, tt)

      while_shallow : (n : ℕ) (test : Condition) (low : List CoreStmt) → 3 ≤ n → Shallow n low → Shallow (suc n) (core.Loop (leave_unless (condition_expr names test) ∷ low) ∷ [])
      while_shallow n test low le all =
          let leaves = leave_shallow n (condition_expr names test) (condition_depth test) le
          in loop_shallow n (leave_unless (condition_expr names test) ∷ low) (leaves.0, all)

      layer : (y : Stmt-F Known) → Claim (roll-Stmt (map-Stmt Known Stmt first y))
      layer (stmt.Declare is_var name type right) = via (stmt.Declare is_var name type right) (λ taken. right_shallow (path_of names name) right)
      layer (stmt.Assign name value) = via (stmt.Assign name value) (λ taken. right_shallow (path_of names name) value)
      layer (stmt.Print atom) = via (stmt.Print atom) (λ taken. print_shallow (kind_of_atom names atom) atom)
      layer (stmt.PrintText text) = via (stmt.PrintText text) (λ taken. text_shallow 4 (text ++ 10 ∷ []) (omega arith))
      layer (stmt.If test chosen other) = via (stmt.If test (map first chosen) (map first other)) (λ taken.
          let a = deepest (map depth (map first chosen)) in
          let b = deepest (map depth (map first other)) in
          let n = max a b in
          let low = in_order (map (lowered names) (map first chosen)) taken in
          let low_other = in_order (map (lowered names) (map first other)) taken
          in more (suc (n + 4)) (suc n + 4) (omega arith) (core.If (condition_expr names test) low low_other ∷ [])
          (choice_shallow (n + 4) (condition_expr names test) low low_other (let le = condition_depth test in omega arith)
          (more (a + 4) (n + 4) (omega arith) low (whole_block chosen taken))
          (more (b + 4) (n + 4) (omega arith) low_other (whole_block other taken))))
      layer (stmt.While test []) = via (stmt.While test []) (λ taken. while_shallow 3 test [] (omega arith) tt)
      layer (stmt.While test (k ∷ ks)) = via (stmt.While test (map first (k ∷ ks))) (λ taken.
          let n = deepest (map depth (map first (k ∷ ks))) in
          let low = in_order (map (lowered names) (map first (k ∷ ks))) taken
          in more (suc (n + 4)) (suc n + 4) (omega arith) (core.Loop (leave_unless (condition_expr names test) ∷ low) ∷ []) (while_shallow (n + 4) test low (omega arith) (whole_block (k ∷ ks) taken)))
      layer (stmt.For name from to body line) = via (stmt.For name from to (map first body) line) (λ taken.
          let n = deepest (map depth (map first body)) in
          let low = in_order (map (lowered names) (map first body)) (suc (suc taken)) in
          let round = for_round line (path_of names name) (unnamed names taken) (unnamed names (suc taken)) low in
          let first_stored = stored_shallow (suc n + 4) 1 (unnamed names taken) (atom_expr names from) (let is = atom_depth from in omega arith) (omega arith) in
          let second_stored = stored_shallow (suc n + 4) 1 (unnamed names (suc taken)) (atom_expr names to) (let is = atom_depth to in omega arith) (omega arith) in
          let loops = more (suc (n + 4)) (suc n + 4) (omega arith) (core.Loop round ∷ []) (loop_shallow (n + 4) round (round_shallow (n + 4) line (path_of names name) (unnamed names taken) (unnamed names (suc taken)) low (omega arith) (whole_block body (suc (suc taken)))))
          in (first_stored.0, (second_stored.0, loops)))
      layer (stmt.Assert test line) = via (stmt.Assert test line) (λ taken. choice_shallow 3 (condition_expr names test) [] (core.Halt assert_halt 0 line ∷ []) (let le = condition_depth test in omega arith) tt (halt_shallow 3 assert_halt line (omega arith)))
      layer (stmt.Halt text line) = via (stmt.Halt text line) (λ taken. halt_shallow 4 halt_halt line (omega arith))

  known_of : (ss : List Stmt) → (ks : List Known) × (map first ks ≡ ss)
  known_of [] = ([], refl)
  known_of (s ∷ ss) = let ks = known_of ss in ((s, claim s) ∷ ks.0, ap (λ rest. s ∷ rest) ks.1)

  -- statements that nest at most so deep
  pub statements_shallow : (n : ℕ) (ss : List Stmt) → AllByRecursion (λ s. depth s ≤ n) ss → (taken : ℕ) → Shallow (n + 4) (in_order (map (lowered names) ss) taken)
  statements_shallow n ss all =
      let ks = known_of ss
      in subst (λ ss. AllByRecursion (λ s. depth s ≤ n) ss → (taken : ℕ) → Shallow (n + 4) (in_order (map (lowered names) ss) taken)) ks.1 (λ all. block n ks.0 (all_to_map (λ d. d ≤ n) depth (map first ks.0) all)) all
