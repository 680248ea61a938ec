-- Expressions and statements that keep the rules, from their parts.
use Rattle.std.proofs.Common.{◌≡◌, ℕ, ◌+◌, ◌≤◌, List, [], ◌∷◌, ◌++◌, true, false, Option, Some, None, refl, sym, subst, ap, ◌∙◌, arith, All, map}
use Rattle.std.specs.Prelude.{max}
use Rattle.std.specs.List.{fold}
use Rattle.std.proofs.lemmas.List.Elements.{All-nil, All-cons, All-head, All-tail, All-append}
use Rattle.sl_num.specs.declared.comparing.Comparison.{Comparison}
use Rattle.c_tree.specs.declared.tree.CArg.{CArg}
use Rattle.c_tree.specs.declared.tree.CBinary.{CBinary}
use Rattle.c_tree.specs.declared.tree.CFile.{CFile}
use Rattle.c_tree.specs.declared.tree.CFun.{CFun}
use Rattle.c_tree.specs.declared.tree.CPlace.{CPlace}
use Rattle.c_tree.specs.declared.tree.CPlace.TheVariants.{Name}
use Rattle.c_tree.specs.declared.tree.CStmt.{CStmt}
use Rattle.c_tree.specs.declared.tree.CStmt.TheVariants.{Assign, Call, If, Loop, Break, Return, Put, Get, Halt}
use Rattle.c_tree.specs.declared.tree.CExpr.{CExpr}
use Rattle.c_tree.specs.declared.tree.CExpr.TheVariants.{Const, Read, Binary, Compare, Negate}
use Rattle.c_tree.specs.WellFormed.{greatest, expr_depth, stmt_depth, deepest, target_depth, IsAction}
use Rattle.c_tree.specs.Parts.{Constant, Reads, leaves, Action, Assigns, Calls, Tests, Returns, Puts, Gets, Loops, Halts, argument_of, arguments_of, joined, actions}
use Rattle.c_tree.specs.Scope.{Scope}
use Rattle.c_tree.specs.Rules.{Typed, word, target_among, any_with, recounts}
use Rattle.c_tree.proofs.Variants.{leaves_of_const, leaves_of_read, leaves_of_binary, leaves_of_compare, leaves_of_negate, typed_of_const, typed_of_read, typed_of_binary, typed_of_compare, typed_of_negate, actions_of_assign, actions_of_call, actions_of_if, actions_of_if_else, actions_of_loop, actions_of_break, actions_of_return, actions_of_put, actions_of_get, actions_of_halt, depth_of_assign, depth_of_call, depth_of_if, depth_of_if_else, depth_of_loop, depth_of_break, depth_of_return, depth_of_put, depth_of_get, depth_of_halt, recounts_of_assign, recounts_of_call, recounts_of_if, recounts_of_if_else, recounts_of_loop, recounts_of_break, recounts_of_return, recounts_of_put, recounts_of_get, recounts_of_halt}
use Rattle.c_helpers.proofs.Keeping.{IsKnown, LeafGood, ExprGood, inside, CallGood, ActionGood, StmtGood}

-- what is known of an `int64_t`
abbrev sound : Typed
sound = record { type = Some word; fits = true }

module _ (scope : Scope) where
  -- a constant
  pub constant_good : (number : ℕ) → number ≤ greatest true → ExprGood scope (Const true number)
  constant_good number small = record {
    each = subst (All (LeafGood scope)) (sym (leaves_of_const true number)) (All-cons (LeafGood scope) (Constant true number) [] small (All-nil (LeafGood scope)));
    type = typed_of_const scope true number;
  }

  -- a variable
  pub named_good : (name : List ℕ) → IsKnown scope name → ExprGood scope (Read (Name name))
  named_good name known = record {
    each = subst (All (LeafGood scope)) (sym (leaves_of_read (Name name))) (All-cons (LeafGood scope) (Reads (Name name)) [] known (All-nil (LeafGood scope)));
    type = typed_of_read scope (Name name) ∙ ap (λ type. record { type = type; fits = true }) known.type;
  }

  -- leaves of two
  both : (left right whole : CExpr) → leaves whole ≡ leaves left ++ leaves right → ExprGood scope left → ExprGood scope right → All (LeafGood scope) (leaves whole)
  both left right whole are first second = subst (All (LeafGood scope)) (sym are) (All-append (LeafGood scope) (leaves left) (leaves right) first.each second.each)

  -- an operator
  pub binary_good : (operator : CBinary) (left right : CExpr) → ExprGood scope left → ExprGood scope right → ExprGood scope (Binary operator left right)
  binary_good operator left right first second = record {
    each = both left right (Binary operator left right) (leaves_of_binary operator left right) first second;
    type = typed_of_binary scope operator left right ∙ rw (first.type, second.type) refl;
  }

  -- a comparison
  pub compare_good : (comparison : Comparison) (left right : CExpr) → ExprGood scope left → ExprGood scope right → ExprGood scope (Compare comparison left right)
  compare_good comparison left right first second = record {
    each = both left right (Compare comparison left right) (leaves_of_compare comparison left right) first second;
    type = typed_of_compare scope comparison left right ∙ rw (first.type, second.type) refl;
  }

  -- a negation
  pub negate_good : (operand : CExpr) → ExprGood scope operand → ExprGood scope (Negate operand)
  negate_good operand good = record {
    each = subst (All (LeafGood scope)) (sym (leaves_of_negate operand)) good.each;
    type = typed_of_negate scope operand ∙ rw good.type refl;
  }

-- the deepest of some is no deeper than all of them
pub deepest_below : (limit : ℕ) (depths : List ℕ) → All (λ depth. depth ≤ limit) depths → deepest depths ≤ limit
deepest_below limit depths all = from 0 depths (omega arith) all
  where
    from : (start : ℕ) (depths : List ℕ) → start ≤ limit → All (λ depth. depth ≤ limit) depths → fold max start depths ≤ limit
    from start [] below all = below
    from start (depth ∷ depths) below all =
        let here : depth ≤ limit = All-head (λ depth. depth ≤ limit) depth depths all in
        from (max start depth) depths (omega arith) (All-tail (λ depth. depth ≤ limit) depth depths all)

module _ (file : CFile) (before : List CFun) (function : CFun) where
  -- one action
  single : (s : CStmt) (action : Action) → actions s ≡ action ∷ [] → ActionGood file before function action → All (ActionGood file before function) (actions s)
  single s action is good =
      subst (All (ActionGood file before function)) (sym is) (All-cons (ActionGood file before function) action [] good (All-nil (ActionGood file before function)))

  module _ (depth : ℕ) where
    -- an assignment
    pub assign_good : (name : List ℕ) (e : CExpr) → IsKnown (inside file before function) name → ExprGood (inside file before function) e → 1 + expr_depth e ≤ depth → 2 ≤ depth → StmtGood file before function depth (Assign (Name name) e)
    assign_good name e known good deep some = record {
      acts = single (Assign (Name name) e) (Assigns (Name name) e) (actions_of_assign (Name name) e) (known, good);
      counts = recounts_of_assign (Name name) e [];
      deep = let is = depth_of_assign (Name name) e in omega arith;
    }

    -- a call
    pub call_good : (target : Option CPlace) (name : List ℕ) (args : List CArg) → CallGood file before function target name (arguments_of args)
        → 1 + deepest (map (λ argument. expr_depth (argument_of argument)) args) ≤ depth → 2 ≤ depth → StmtGood file before function depth (Call target name args)
    call_good target name args good deep some = record {
      acts = single (Call target name args) (Calls target name (arguments_of args)) (actions_of_call target name args) good;
      counts = recounts_of_call target name args [] ∙ none_among target;
      deep = let is = depth_of_call target name args in let least = target_low target in omega arith;
    }
      where
        target_low : (target : Option CPlace) → target_depth target ≤ 1
        target_low None = omega arith
        target_low (Some place) = omega arith

        none_among : (target : Option CPlace) → target_among [] target ≡ false
        none_among None = refl
        none_among (Some (Name name)) = refl

    -- a return of a value
    pub return_good : (e : CExpr) → function.result ≡ word → ExprGood (inside file before function) e → 1 + expr_depth e ≤ depth → StmtGood file before function depth (Return (Some e))
    return_good e result good deep = record {
      acts = single (Return (Some e)) (Returns (Some e)) (actions_of_return (Some e)) (result, good);
      counts = recounts_of_return (Some e) [];
      deep = let is = depth_of_return (Some e) in omega arith;
    }

    -- a put
    pub put_good : (e : CExpr) → ExprGood (inside file before function) e → 1 + expr_depth e ≤ depth → StmtGood file before function depth (Put e)
    put_good e good deep = record {
      acts = single (Put e) (Puts e) (actions_of_put e) good;
      counts = recounts_of_put e [];
      deep = let is = depth_of_put e in omega arith;
    }

    -- a byte of the input that is stored
    pub get_good : (name : List ℕ) → IsKnown (inside file before function) name → 2 ≤ depth → StmtGood file before function depth (Get (Name name))
    get_good name known deep = record {
      acts = single (Get (Name name)) (Gets (Name name)) (actions_of_get (Name name)) known;
      counts = recounts_of_get (Name name) [];
      deep = let is = depth_of_get (Name name) in omega arith;
    }

    -- a `break`
    pub break_good : 1 ≤ depth → StmtGood file before function depth Break
    break_good deep = record {
      acts = subst (All (ActionGood file before function)) (sym actions_of_break) (All-nil (ActionGood file before function));
      counts = recounts_of_break [];
      deep = let is = depth_of_break in omega arith;
    }

    -- a halt
    pub halt_good : (kind file_number line : ℕ) → IsAction (Halts kind file_number line) → 1 ≤ depth → StmtGood file before function depth (Halt kind file_number line)
    halt_good kind file_number line good deep = record {
      acts = single (Halt kind file_number line) (Halts kind file_number line) (actions_of_halt kind file_number line) good;
      counts = recounts_of_halt kind file_number line [];
      deep = let is = depth_of_halt kind file_number line in omega arith;
    }

    -- the actions of a block
    block_actions : (block : List CStmt) → All (StmtGood file before function depth) block → All (ActionGood file before function) (joined (map actions block))
    block_actions [] all = All-nil (ActionGood file before function)
    block_actions (s ∷ block) all =
        All-append (ActionGood file before function) (actions s) (joined (map actions block)) (All-head (StmtGood file before function depth) s block all).acts
        (block_actions block (All-tail (StmtGood file before function depth) s block all))

    -- its depth
    block_depth : (block : List CStmt) → All (StmtGood file before function depth) block → All (λ depth_of. depth_of ≤ depth) (map stmt_depth block)
    block_depth [] all = All-nil (λ depth_of. depth_of ≤ depth)
    block_depth (s ∷ block) all =
        All-cons (λ depth_of. depth_of ≤ depth) (stmt_depth s) (map stmt_depth block) (All-head (StmtGood file before function depth) s block all).deep
        (block_depth block (All-tail (StmtGood file before function depth) s block all))

    -- nothing in it stores in the variable of a `for`
    block_counts : (block : List CStmt) → All (StmtGood file before function depth) block → any_with [] (map recounts block) ≡ false
    block_counts [] all = refl
    block_counts (s ∷ block) all = rw (All-head (StmtGood file before function depth) s block all).counts (block_counts block (All-tail (StmtGood file before function depth) s block all))

    -- a loop
    pub loop_good : (block : List CStmt) → function.inline ≡ false → All (StmtGood file before function depth) block → StmtGood file before function (1 + depth) (Loop block)
    loop_good block outer all = record {
      acts = subst (All (ActionGood file before function)) (sym (actions_of_loop block)) (All-cons (ActionGood file before function) Loops (joined (map actions block)) outer (block_actions block all));
      counts = recounts_of_loop block [] ∙ block_counts block all;
      deep = let is = depth_of_loop block in let below = deepest_below depth (map stmt_depth block) (block_depth block all) in omega arith;
    }

    -- an `if` without `else`
    pub if_good : (test : CExpr) (chosen : List CStmt) → ExprGood (inside file before function) test → expr_depth test ≤ depth → All (StmtGood file before function depth) chosen
        → StmtGood file before function (1 + depth) (If test chosen None)
    if_good test chosen good deep first = record {
      acts =
          subst (All (ActionGood file before function)) (sym (actions_of_if test chosen))
          (All-cons (ActionGood file before function) (Tests test) (joined (map actions chosen) ++ []) good
          (All-append (ActionGood file before function) (joined (map actions chosen)) [] (block_actions chosen first) (All-nil (ActionGood file before function))));
      counts = recounts_of_if test chosen [] ∙ rw (block_counts chosen first) refl;
      deep = let is = depth_of_if test chosen in let below = deepest_below depth (map stmt_depth chosen) (block_depth chosen first) in omega arith;
    }

    -- an `if` with `else`
    pub if_else_good : (test : CExpr) (chosen other : List CStmt) → ExprGood (inside file before function) test → expr_depth test ≤ depth → All (StmtGood file before function depth) chosen
        → All (StmtGood file before function depth) other → StmtGood file before function (1 + depth) (If test chosen (Some other))
    if_else_good test chosen other good deep first second = record {
      acts =
          subst (All (ActionGood file before function)) (sym (actions_of_if_else test chosen other))
          (All-cons (ActionGood file before function) (Tests test) (joined (map actions chosen) ++ joined (map actions other)) good
          (All-append (ActionGood file before function) (joined (map actions chosen)) (joined (map actions other)) (block_actions chosen first) (block_actions other second)));
      counts = recounts_of_if_else test chosen other [] ∙ rw (block_counts chosen first, block_counts other second) refl;
      deep =
          let is = depth_of_if_else test chosen other in
          let below = deepest_below depth (map stmt_depth chosen) (block_depth chosen first) in
          let under = deepest_below depth (map stmt_depth other) (block_depth other second) in
          omega arith;
    }

  -- a statement that nests less deep
  pub deeper : (depth limit : ℕ) → depth ≤ limit → (s : CStmt) → StmtGood file before function depth s → StmtGood file before function limit s
  deeper depth limit le s good = record { acts = good.acts; counts = good.counts; deep = let below = good.deep in omega arith }
