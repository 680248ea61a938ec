use Rattle.std.proofs.Common.{◌≡◌, ◌∷◌, [], ◌++◌, ◌+◌, suc, refl, sym, ap, ◌∙◌, add-one, arith}
use Rattle.sl_grammar.specs.Phrase.{Done}
use Rattle.sl_tree.specs.Sorts.{spelled, lexeme}
use Rattle.sl_parse_expr.specs.Told.{behind}
use Rattle.sl_parse_expr.proofs.Telling.{token_err}
use Rattle.sl_parse_expr.proofs.Skipping.{second_stops, taken_start, taken_opens, taken_plain, taken_closes, taken_wrong, taken_none, taken_end, filled, emptied, two_of, more_of}
use Rattle.sl_parse_expr.proofs.skips.group.Goals as goal
use Rattle.sl_parse_expr.proofs.skips.group.Goals.{then-is_opening+in_ok-push-4, else-is_opening+then-is_closing+in-Some-pop+else-wanted-sort, else-is_opening+else-is_closing}

pub returns-in_err-second-clause-told : goal.returns-in_err-second-clause-told
returns-in_err-second-clause-told c =
    token_err _ _ (c.args.start + 1) _ _ c.in_err-second.field-0.0 _ c.in_err-second.ensures.told c.from_residual-in_err-second.ensures.1
    (λ rest f. second_stops _ _ rest _ (c.in_ok-first.ensures.told ∙ ap (λ n. Done (spelled c.args.bytes.now c.in_ok-first.first) (behind c.args.bytes.now c.args.tokens.now n)) (sym (add-one c.args.start))) f)

pub loop-last-init : goal.loop-last-init
unfolding spelled
loop-last-init c = record {
  taken =
      let two : c.args.start + 2 ≡ suc (suc c.args.start) = omega arith in
      taken_start c.args.bytes.now c.args.tokens.now c.args.start (c.args.start + 1) (c.args.start + 2) (spelled c.args.bytes.now c.in_ok-first.first) (spelled c.args.bytes.now c.in_ok-second.second) c.push-3.new.self c.push-2.new.self
      (c.in_ok-first.ensures.told ∙ ap (λ n. Done (spelled c.args.bytes.now c.in_ok-first.first) (behind c.args.bytes.now c.args.tokens.now n)) (sym (add-one c.args.start)))
      (c.in_ok-second.ensures.told ∙ ap (λ n. Done (spelled c.args.bytes.now c.in_ok-second.second) (behind c.args.bytes.now c.args.tokens.now n)) (ap suc (add-one c.args.start) ∙ sym two))
      (c.in_ok-push-3.ensures.ok ∙ ap (λ x. x ++ 1 ∷ []) c.new-open.ensures)
      (two_of c.new-all.result c.push.new.self c.push-2.new.self c.in_ok-lexeme.field-0 c.in_ok-lexeme-2.field-0 (lexeme (spelled c.args.bytes.now c.in_ok-first.first)) (lexeme (spelled c.args.bytes.now c.in_ok-second.second)) c.new-all.ensures c.in_ok-push.ensures.ok c.in_ok-push-2.ensures.ok c.in_ok-lexeme.ensures c.in_ok-lexeme-2.ensures);
  low = omega arith;
  high = let h = c.in_ok-second.ensures.in_bounds in omega arith;
}

pub returns-in-None-clause-told : goal.returns-in-None-clause-told
returns-in-None-clause-told c = taken_none _ _ _ _ _ _ _ _ c.loop-last.invariant.taken (filled _ _ c.is_empty.ensures c.loop-last-test.true) c.in-None.ensures.lookup.3

pub returns-then-wanted-sort-clause-told : goal.returns-then-wanted-sort-clause-told
returns-then-wanted-sort-clause-told c =
    let w = c.in-Some.ensures.lookup in
    taken_wrong c.args.bytes.now c.args.tokens.now c.args.start c.loop-last.at (spelled c.args.bytes.now c.in_ok-first.first) c.loop-last.open c.loop-last.all c.loop-last.last c.loop-last.invariant.taken
    (filled _ _ c.is_empty.ensures c.loop-last-test.true) c.in-Some.token.now w.3.0 w.1 (suc c.loop-last.at) refl c.sort-sort.result c.sort-sort.ensures (c.loop-last.all ++ lexeme (spelled c.args.bytes.now c.in-Some.token.now) ∷ []) refl
    c.pop.new.self c.in-Some-pop.wanted (sym c.is_closing.ensures ∙ c.if-is_closing.true) c.in-Some-pop.ensures c.if-wanted-sort.true

pub loop-last-preserved : goal.loop-last-preserved
loop-last-preserved c =
    let w = c.in-Some.ensures.lookup in
    let empty_not = filled _ _ c.is_empty.ensures c.loop-last-test.true in
    let all_is = more_of c.loop-last.all c.push-in-loop-last.new.self c.in_ok-lexeme-3.field-0 (lexeme (spelled c.args.bytes.now c.in-Some.token.now)) c.in_ok-push-5.ensures.ok c.in_ok-lexeme-3.ensures in
    record {
      taken = elim c.if-is_opening.branch [
        | then-is_opening+in_ok-push-4 v ↦
            taken_opens c.args.bytes.now c.args.tokens.now c.args.start c.loop-last.at (spelled c.args.bytes.now c.in_ok-first.first) c.loop-last.open c.loop-last.all c.loop-last.last c.loop-last.invariant.taken
            empty_not c.in-Some.token.now w.3.0 w.1 (c.loop-last.at + 1) (add-one c.loop-last.at) c.sort-sort.result c.sort-sort.ensures c.push-in-loop-last.new.self all_is
            c.if-is_opening.open (sym c.is_opening.ensures ∙ v.if-is_opening.true) (v.open-is ∙ (v.in_ok-push-4.ensures.ok ∙ ap (λ x. c.loop-last.open ++ x ∷ []) (add-one c.sort-sort.result)))
        | else-is_opening+then-is_closing+in-Some-pop+else-wanted-sort v ↦
            taken_closes c.args.bytes.now c.args.tokens.now c.args.start c.loop-last.at (spelled c.args.bytes.now c.in_ok-first.first) c.loop-last.open c.loop-last.all c.loop-last.last c.loop-last.invariant.taken
            empty_not c.in-Some.token.now w.3.0 w.1 (c.loop-last.at + 1) (add-one c.loop-last.at) c.sort-sort.result c.sort-sort.ensures c.push-in-loop-last.new.self all_is
            c.if-is_opening.open v.in-Some-pop.wanted (sym v.is_closing.ensures ∙ v.if-is_closing.true) (v.in-Some-pop.ensures ∙ ap (λ x. x ++ v.in-Some-pop.wanted ∷ []) (sym v.open-is)) v.if-wanted-sort.false
        | else-is_opening+else-is_closing v ↦
            taken_plain c.args.bytes.now c.args.tokens.now c.args.start c.loop-last.at (spelled c.args.bytes.now c.in_ok-first.first) c.loop-last.open c.loop-last.all c.loop-last.last c.loop-last.invariant.taken
            empty_not c.in-Some.token.now w.3.0 w.1 (c.loop-last.at + 1) (add-one c.loop-last.at) c.sort-sort.result c.sort-sort.ensures c.push-in-loop-last.new.self all_is
            c.if-is_opening.open v.open-is (sym c.is_opening.ensures ∙ v.if-is_opening.false) (sym v.is_closing.ensures ∙ v.if-is_closing.false)
      ];
      low = let h = c.loop-last.invariant.low in omega arith;
      high = let h = w.3.0 in omega arith;
    }

pub returns-clause-told : goal.returns-clause-told
unfolding spelled
returns-clause-told c =
    taken_end c.args.bytes.now c.args.tokens.now c.args.start c.loop-last.at (spelled c.args.bytes.now c.in_ok-first.first) c.loop-last.open c.loop-last.all c.loop-last.last c.loop-last.invariant.taken
    (emptied _ _ c.is_empty.ensures c.loop-last-test.false) c.join-span.result c.join-span.ensures
