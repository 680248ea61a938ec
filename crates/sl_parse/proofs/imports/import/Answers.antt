use Rattle.std.proofs.Common.{◌≡◌, ◌∷◌, [], ◌++◌, ◌+◌, suc, sym, ap, ◌∙◌, false, arith, eq-eqb, ne_eqb}
use Rattle.sl_tree.specs.Sorts.{spelled, dot}
use Rattle.sl_parse_expr.specs.Told.{behind}
use Rattle.sl_parse_expr.proofs.Telling.{comes, comes_not, token_here}
use Rattle.sl_parse.specs.Names.{Import_of}
use Rattle.sl_parse.specs.Told.{found_tree}
use Rattle.sl_parse.proofs.Telling.{err_told}
use Rattle.sl_parse.proofs.ImportsRead.{steps_from, steps_begin, steps_end, steps_all, steps_last, steps_more, import_missing, import_unnamed, import_broken, import_whole}
use Rattle.sl_parse.proofs.imports.import.Goals as goal
use Rattle.sl_parse.proofs.imports.import.Goals.{then-sort-eq-UNDERSCORE, else-sort-eq-UNDERSCORE+in_ok-text-2+in_ok-push-2, then-steps-test+else-peek-eq-DOT, else-steps-test}

pub returns-in_err-expect-clause-told : goal.returns-in_err-expect-clause-told
returns-in_err-expect-clause-told c =
    let file = c.args.file in
    let bytes = c.args.bytes.now in
    let tokens = c.args.tokens.now in
    let e = c.in_err-expect.field-0.0 in
    err_told file bytes tokens (λ b. found_tree b Import_of (behind bytes tokens c.args.start)) e c.from_residual.result
    (import_missing file bytes tokens c.args.start e c.in_err-expect.ensures.told) c.from_residual.ensures.1

pub returns-in_err-first-clause-told : goal.returns-in_err-first-clause-told
returns-in_err-first-clause-told c =
    let file = c.args.file in
    let bytes = c.args.bytes.now in
    let tokens = c.args.tokens.now in
    let e = c.in_err-first.field-0.0 in
    err_told file bytes tokens (λ b. found_tree b Import_of (behind bytes tokens c.args.start)) e c.from_residual-in_err-first.result
    (import_unnamed file bytes tokens c.args.start (spelled bytes c.in_ok-expect.field-0) c.in_ok-expect.ensures.told e c.in_err-first.ensures.told) c.from_residual-in_err-first.ensures.1

pub steps-init : goal.steps-init
unfolding spelled
steps-init c =
    let bytes = c.args.bytes.now in
    let tokens = c.args.tokens.now in
    let start = c.args.start in
    let k = spelled bytes c.in_ok-first.first in
    let one : c.push.new.self ≡ k.text ∷ [] = c.in_ok-push.ensures.ok ∙ (ap (λ w. w ++ c.in_ok-text.field-0 ∷ []) c.new-path.ensures ∙ ap (λ x. x ∷ []) c.in_ok-text.ensures) in
    let n : suc (start + 1) ≡ start + 2 = omega arith in
    record {
      start_to = omega arith;
      in_bounds = omega (arith, c.in_ok-first.ensures.lies);
      grows = λ b. steps_begin b (behind bytes tokens (start + 1)) (behind bytes tokens (suc (start + 1))) k c.in_ok-first.ensures.told ∙ rw (one, n);
    }

pub returns-in_err-step-clause-told : goal.returns-in_err-step-clause-told
returns-in_err-step-clause-told c =
    let file = c.args.file in
    let bytes = c.args.bytes.now in
    let tokens = c.args.tokens.now in
    let at = c.steps.at in
    let ts = behind bytes tokens at in
    let e = c.in_err-step.field-0.0 in
    let h = comes dot c.peek.result ts c.peek.ensures.sort c.if-peek-eq-DOT.true in
    let d = token_here bytes tokens at (at + 1) (dot ∷ []) (omega arith) (c.peek.ensures.present (omega arith)) h in
    err_told file bytes tokens (λ b. found_tree b Import_of (behind bytes tokens c.args.start)) e c.from_residual-in_err-step.result
    (import_broken file bytes tokens c.args.start (spelled bytes c.in_ok-expect.field-0) c.in_ok-expect.ensures.told c.steps.path ts (behind bytes tokens (at + 1)) d.0 e
    (λ b. c.steps.invariant.grows b ∙ ap (λ all. steps_from b (c.steps.path, all) ts) c.steps-test.true) h d.1 c.in_err-step.ensures.told)
    c.from_residual-in_err-step.ensures.1

pub steps-preserved : goal.steps-preserved
unfolding spelled
steps-preserved c =
    let bytes = c.args.bytes.now in
    let tokens = c.args.tokens.now in
    let at = c.steps.at in
    let path = c.steps.path in
    let ts = behind bytes tokens at in
    let more = behind bytes tokens (at + 1) in
    let rest = behind bytes tokens (suc (at + 1)) in
    let n : suc (at + 1) ≡ at + 2 = omega arith in
    let k = spelled bytes c.in_ok-step.step in
    let h = comes dot c.peek.result ts c.peek.ensures.sort c.if-peek-eq-DOT.true in
    let d = token_here bytes tokens at (at + 1) (dot ∷ []) (omega arith) (c.peek.ensures.present (omega arith)) h in
    let told = c.in_ok-step.ensures.told in
    record {
      start_to = omega arith;
      in_bounds = omega (arith, c.in_ok-step.ensures.lies);
      grows = λ b. c.steps.invariant.grows b ∙ (ap (λ all. steps_from b (path, all) ts) c.steps-test.true
          ∙ elim c.if-sort-eq-UNDERSCORE.branch [
            | then-sort-eq-UNDERSCORE w ↦
                steps_last b path ts more d.0 h d.1 k rest told (eq-eqb _ _ (sym c.sort.ensures ∙ w.if-sort-eq-UNDERSCORE.true)) ∙ rw (w.path-is, w.all-is, n)
            | else-sort-eq-UNDERSCORE+in_ok-text-2+in_ok-push-2 w ↦
                let one : c.if-sort-eq-UNDERSCORE.path ≡ path ++ k.text ∷ [] = w.path-is ∙ (w.in_ok-push-2.ensures.ok ∙ ap (λ x. path ++ x ∷ []) w.in_ok-text-2.ensures) in
                let open_still : c.if-sort-eq-UNDERSCORE.all ≡ false = w.all-is ∙ c.steps-test.true in
                steps_more b path ts more d.0 h d.1 k rest told (ne_eqb _ _ (λ s. w.if-sort-eq-UNDERSCORE.false (c.sort.ensures ∙ s))) ∙ rw (one, open_still, n)
          ]);
    }

pub returns-clause-told : goal.returns-clause-told
returns-clause-told c =
    let bytes = c.args.bytes.now in
    let tokens = c.args.tokens.now in
    let path = c.steps.path in
    let all = c.steps.all in
    let ts = behind bytes tokens c.steps.at in
    import_whole c.args.file bytes tokens c.args.start (spelled bytes c.in_ok-expect.field-0) c.in_ok-expect.ensures.told path all ts c.span_between-span.result
    (λ b. c.steps.invariant.grows b
    ∙ elim c.steps-test.branch [
      | then-steps-test+else-peek-eq-DOT w ↦ steps_end b (path, all) ts (comes_not dot w.peek.result ts w.peek.ensures.sort w.if-peek-eq-DOT.false)
      | else-steps-test w ↦ rw w.steps-test.false (steps_all b path ts)
    ])
    (c.span_between-span.ensures bytes)
