-- How many temporaries a statement needs is bounded by its depth.
use Rattle.std.proofs.Common.{ℕ, ◌+◌, ◌^◌, ◌≤◌, suc, List, [], ◌∷◌, subst, arith, All, map}
use Rattle.std.specs.Prelude.{max}
use Rattle.std.proofs.Math.Nat.{pow-le-pow_right}
use Rattle.std.proofs.lemmas.List.Elements.{All-nil, All-cons, All-map, All-weaker}
use Rattle.sl_core.specs.declared.tree.CoreExpr.{CoreExpr}
use Rattle.sl_core.specs.declared.tree.CoreStmt.{CoreStmt, CoreStmt-F, ind-CoreStmt, map-CoreStmt, roll-CoreStmt}
use Rattle.sl_core.specs.declared.tree.CoreStmt.TheOpen as stmt
use Rattle.sl_core.specs.Sound.{deepest, expr_depth, stmt_depth_step, stmt_depth, greatest}
use Rattle.c_helpers.proofs.Composing.{deepest_below}
use Rattle.sl_frames.specs.Translated.{needed, needs_step, needs}
use Rattle.sl_frames.proofs.Layers.{needs_layer}
use Rattle.sl_core.proofs.Layers.{stmt_depth_layer}
use Rattle.sl_frames.proofs.Keeps.Codes.{code_grows}
use Rattle.sl_frames.proofs.Keeps.Blocks.{all_below}

-- powers of 2 grow
power : (a b : ℕ) → a ≤ b → 2 ^ a ≤ 2 ^ b
power a b le = pow-le-pow_right (omega arith) le

-- an expression needs fewer than 2 to the power of its depth
few : (e : CoreExpr) → needed e ≤ 2 ^ (1 + expr_depth e)
few e = let grown = code_grows e 0 in let more = power (expr_depth e) (1 + expr_depth e) (omega arith) in omega arith

abbrev IsFew : CoreStmt → Type 0
IsFew s = needs s ≤ 2 ^ stmt_depth s

abbrev Known : Type 0
Known = (s : CoreStmt) × IsFew s

abbrev first : Known → CoreStmt
first known = known.0

-- so do the statements of a block
block_few : (depth : ℕ) (block : List Known) → All (λ number. number ≤ depth) (map stmt_depth (map first block)) → All (λ number. number ≤ 2 ^ depth) (map needs (map first block))
block_few depth [] deep = All-nil (λ number. number ≤ 2 ^ depth)
block_few depth (s ∷ block) deep =
    let less : stmt_depth s.0 ≤ depth = deep 0 0 (omega arith) in
    let more = power (stmt_depth s.0) depth less in
    let here = s.1 in
    All-cons (λ number. number ≤ 2 ^ depth) (needs s.0) (map needs (map first block)) (omega arith) (block_few depth block (λ k d inside. deep (suc k) d (omega arith)))

pub stmt_few : (s : CoreStmt) → needs s ≤ 2 ^ stmt_depth s
stmt_few s = ind-CoreStmt IsFew (λ x y same. subst (λ z. IsFew (roll-CoreStmt z)) same (layer y)) s
  where
    via : (x : CoreStmt-F CoreStmt) → needs_step (map-CoreStmt CoreStmt ℕ needs x) ≤ 2 ^ stmt_depth_step (map-CoreStmt CoreStmt ℕ stmt_depth x) → IsFew (roll-CoreStmt x)
    via x h = rw (needs_layer x, stmt_depth_layer x) h

    layer : (y : CoreStmt-F Known) → IsFew (roll-CoreStmt (map-CoreStmt Known CoreStmt first y))
    layer (stmt.Store path e) = via (stmt.Store path e) (few e)
    layer (stmt.If test chosen other) =
        via (stmt.If test (map first chosen) (map first other))
        (let depth = max (expr_depth test) (max (greatest (map stmt_depth (map first chosen))) (greatest (map stmt_depth (map first other)))) in
        let tested = few test in
        let a = power (1 + expr_depth test) (1 + depth) (omega arith) in
        let b = power depth (1 + depth) (omega arith) in
        let c = deepest_below (2 ^ depth) (map needs (map first chosen)) (block_few depth chosen (all_below depth (map stmt_depth (map first chosen)) (omega arith))) in
        let d = deepest_below (2 ^ depth) (map needs (map first other)) (block_few depth other (all_below depth (map stmt_depth (map first other)) (omega arith))) in
        omega arith)
    layer (stmt.Loop stmts) =
        via (stmt.Loop (map first stmts))
        (let depth = greatest (map stmt_depth (map first stmts)) in
        let more = power depth (1 + depth) (omega arith) in
        let few_below = deepest_below (2 ^ depth) (map needs (map first stmts)) (block_few depth stmts (all_below depth (map stmt_depth (map first stmts)) (omega arith))) in
        omega arith)
    layer stmt.Break = via stmt.Break (omega arith)
    layer (stmt.Call target number) = via (stmt.Call target number) (omega arith)
    layer (stmt.Put e) = via (stmt.Put e) (few e)
    layer (stmt.Get path) = via (stmt.Get path) (omega arith)
    layer (stmt.Halt kind file line) = via (stmt.Halt kind file line) (omega arith)
    layer (stmt.Return e) = via (stmt.Return e) (few e)

-- the statements of a body need fewer than 10 ^ 64, since they nest at most 200 deep
pub body_few : (body : List CoreStmt) → All (λ s. stmt_depth s ≤ deepest) body → greatest (map needs body) ≤ 2 ^ 200
body_few body deep =
    deepest_below (2 ^ 200) (map needs body)
    (All-map (λ number. number ≤ 2 ^ 200) needs body
    (All-weaker (λ s. stmt_depth s ≤ deepest) (λ s. needs s ≤ 2 ^ 200) (λ s less. let more = power (stmt_depth s) 200 less in let here = stmt_few s in omega arith) body deep))
