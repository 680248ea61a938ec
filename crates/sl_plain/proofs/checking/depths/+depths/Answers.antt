use Rattle.std.proofs.Common.{◌≡◌, ◌&&◌, ◌∷◌, ◌+◌, suc, [], rules, true≢false, false, true, drop, map, sym, ap, ◌∙◌, nat_le}
use Rattle.std.proofs.lemmas.List.{drop_more}
use Rattle.sl_plain.specs.Program.{depth, deepest}
use Rattle.sl_plain.proofs.Checked.Shallow.{while_block, first_within}
use Rattle.sl_plain.proofs.checking.depths.+depths.Goals as goal

pub is_within-returns-else-is_empty : goal.is_within-returns-else-is_empty
is_within-returns-else-is_empty t c =
    let body = c.in-While.body in
    let some : body ≡ [] → ⊥ = λ none. true≢false (sym (c.is_empty.ensures.1 none) ∙ c.if-is_empty.false)
    in c.is_block_within-else-is_empty.ensures
    ∙ ap (λ stmts. nat_le (suc (deepest (map depth stmts))) c.args.most) c.as_slice-else-is_empty.ensures
    ∙ sym (while_block c.in-While.field-0 body c.args.most some)
    ∙ ap (λ s. nat_le (depth s) c.args.most) (sym c.in-While.is)

pub are_within-returns-then-not-is_within : goal.are_within-returns-then-not-is_within
are_within-returns-then-not-is_within t c =
    let stmts = c.args.stmts.now in
    let at = c.loop-stmt.stmt-index in
    let stmt = c.stmt-item.result in
    let rest = drop (at + 1) stmts in
    let most = c.args.most in
    let cut : drop at stmts ≡ stmt ∷ rest = drop_more stmts at stmt c.loop-stmt-test.true ∙ ap (λ s. s ∷ rest) (sym c.stmt-item.is) in
    let so : nat_le (depth stmt) most ≡ false = search rules
    in sym (c.loop-stmt.invariant ∙ ap (λ left. nat_le (deepest (map depth left)) most) cut ∙ first_within (depth stmt) (map depth rest) most ∙ ap (λ b. b && nat_le (deepest (map depth rest)) most) so)

pub are_within-loop-stmt-preserved : goal.are_within-loop-stmt-preserved
are_within-loop-stmt-preserved t c =
    let stmts = c.args.stmts.now in
    let at = c.loop-stmt.stmt-index in
    let stmt = c.stmt-item.result in
    let rest = drop (at + 1) stmts in
    let most = c.args.most in
    let cut : drop at stmts ≡ stmt ∷ rest = drop_more stmts at stmt c.loop-stmt-test.true ∙ ap (λ s. s ∷ rest) (sym c.stmt-item.is) in
    let so : nat_le (depth stmt) most ≡ true = search rules
    in c.loop-stmt.invariant ∙ ap (λ left. nat_le (deepest (map depth left)) most) cut ∙ first_within (depth stmt) (map depth rest) most ∙ ap (λ b. b && nat_le (deepest (map depth rest)) most) so
