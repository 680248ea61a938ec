use Rattle.std.proofs.Common.{◌≡◌, ◌∷◌, [], ◌++◌, ◌+◌, suc, ◌∙◌, ap, refl, arith}
use Rattle.sl_grammar.specs.Law.{found_as}
use Rattle.sl_tree.specs.Sorts.{spelled, comma, right_parenthesis}
use Rattle.sl_parse_expr.specs.Told.{behind}
use Rattle.sl_parse.specs.Names.{Pair}
use Rattle.sl_parse.specs.Told.{reads, pairs_form, pairs_view}
use Rattle.sl_parse.proofs.Telling.{err_told}
use Rattle.sl_parse.proofs.LoopsRead.{closed_at_fault, closed_on, closed_open, closed_over, pairs_begin, pairs_unopened, pairs_first}
use Rattle.sl_parse.proofs.notes.pairs.Goals as goal

pub returns-in_err-expect-clause-told : goal.returns-in_err-expect-clause-told
returns-in_err-expect-clause-told c =
    let file = c.args.file in
    let bytes = c.args.bytes.now in
    let tokens = c.args.tokens.now in
    let ts = behind bytes tokens c.args.start in
    let e = c.in_err-expect.field-0.0 in
    err_told file bytes tokens (λ b. found_as pairs_view (reads b pairs_form ts)) e c.from_residual.result (pairs_unopened file bytes tokens ts e c.in_err-expect.ensures.told) c.from_residual.ensures.1

pub returns-in_err-first-clause-told : goal.returns-in_err-first-clause-told
returns-in_err-first-clause-told c =
    let file = c.args.file in
    let bytes = c.args.bytes.now in
    let tokens = c.args.tokens.now in
    let ts = behind bytes tokens c.args.start in
    let e = c.in_err-first.field-0.0 in
    let n : suc c.args.start ≡ c.args.start + 1 = omega arith in
    let opened = rw (n) at c.in_ok-expect.ensures.told in
    err_told file bytes tokens (λ b. found_as pairs_view (reads b pairs_form ts)) e c.from_residual-in_err-first.result
    (pairs_first file bytes tokens ts e (behind bytes tokens (c.args.start + 1)) (spelled bytes c.in_ok-expect.field-0) opened c.in_err-first.ensures.told) c.from_residual-in_err-first.ensures.1

pub pairs-init : goal.pairs-init
pairs-init c =
    let bytes = c.args.bytes.now in
    let tokens = c.args.tokens.now in
    let ts = behind bytes tokens c.args.start in
    let rest = behind bytes tokens c.in_ok-first.next in
    let n : suc c.args.start ≡ c.args.start + 1 = omega arith in
    let opened = rw (n) at c.in_ok-expect.ensures.told in
    let all : c.push.new.self ≡ c.in_ok-first.first ∷ [] = c.in_ok-push.ensures.ok ∙ ap (λ xs. xs ++ c.in_ok-first.first ∷ []) c.new-all.ensures in
    let l = c.in_ok-first.ensures.lies in
    record {
      begun = omega arith;
      in_bounds = omega arith;
      grows = λ b. pairs_begin ts (behind bytes tokens (c.args.start + 1)) rest (spelled bytes c.in_ok-expect.field-0) c.in_ok-first.first opened c.in_ok-first.ensures.told b ∙ rw (all);
    }

pub returns-in_err-one-clause-told : goal.returns-in_err-one-clause-told
returns-in_err-one-clause-told c =
    let file = c.args.file in
    let bytes = c.args.bytes.now in
    let tokens = c.args.tokens.now in
    let ts = behind bytes tokens c.args.start in
    let e = c.in_err-one.field-0.0 in
    err_told file bytes tokens (λ b. found_as pairs_view (reads b pairs_form ts)) e c.from_residual-in_err-one.result
    (closed_at_fault file bytes tokens Pair comma refl refl (λ b. found_as pairs_view (reads b pairs_form ts)) c.pairs.all c.pairs.at c.peek.result c.peek.ensures.sort right_parenthesis refl c.pairs.invariant.grows e
    c.pairs-test.true c.in_err-one.ensures.told)
    c.from_residual-in_err-one.ensures.1

pub pairs-preserved : goal.pairs-preserved
pairs-preserved c =
    let bytes = c.args.bytes.now in
    let tokens = c.args.tokens.now in
    let ts = behind bytes tokens c.args.start in
    let l = c.in_ok-one.ensures.lies in
    let i = c.pairs.invariant.begun in
    record {
      begun = omega arith;
      in_bounds = omega arith;
      grows = closed_on c.args.file bytes tokens Pair comma refl refl (λ b. found_as pairs_view (reads b pairs_form ts)) c.pairs.all c.pairs.at c.peek.result c.peek.ensures.sort right_parenthesis refl c.pairs.invariant.grows
          c.in_ok-one.one c.in_ok-one.next c.push-in-pairs.new.self c.pairs-test.true c.in_ok-one.ensures.told c.in_ok-push-2.ensures.ok;
    }

pub returns-in_err-expect-2-clause-told : goal.returns-in_err-expect-2-clause-told
returns-in_err-expect-2-clause-told c =
    let file = c.args.file in
    let bytes = c.args.bytes.now in
    let tokens = c.args.tokens.now in
    let ts = behind bytes tokens c.args.start in
    let e = c.in_err-expect-2.field-0.0 in
    err_told file bytes tokens (λ b. found_as pairs_view (reads b pairs_form ts)) e c.from_residual-in_err-expect-2.result
    (closed_open file bytes tokens Pair comma refl refl (λ b. found_as pairs_view (reads b pairs_form ts)) c.pairs.all c.pairs.at c.peek.result c.peek.ensures.sort right_parenthesis refl c.pairs.invariant.grows e
    c.pairs-test.false c.in_err-expect-2.ensures.told)
    c.from_residual-in_err-expect-2.ensures.1

pub returns-clause-told : goal.returns-clause-told
returns-clause-told c =
    let bytes = c.args.bytes.now in
    let tokens = c.args.tokens.now in
    let ts = behind bytes tokens c.args.start in
    let n : suc c.pairs.at ≡ c.pairs.at + 1 = omega arith in
    let closed = rw (n) at c.in_ok-expect-2.ensures.told in
    closed_over c.args.file bytes tokens Pair comma refl refl (λ b. found_as pairs_view (reads b pairs_form ts)) c.pairs.all c.pairs.at c.peek.result c.peek.ensures.sort right_parenthesis refl c.pairs.invariant.grows
    (spelled bytes c.in_ok-expect-2.field-0) (behind bytes tokens (c.pairs.at + 1)) c.pairs-test.false closed
