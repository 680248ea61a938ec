use Rattle.std.proofs.Common.{◌≡◌, ◌∷◌, [], ◌++◌, ◌+◌, suc, ◌∙◌, sym, ap, refl, arith}
use Rattle.sl_tree.specs.Sorts.{spelled, comma, right_parenthesis}
use Rattle.sl_parse_expr.specs.Told.{behind}
use Rattle.sl_parse_expr.proofs.Telling.{comes_not}
use Rattle.sl_parse.specs.Names.{Param_of, Params}
use Rattle.sl_parse.specs.Told.{found_tree}
use Rattle.sl_parse.proofs.Telling.{err_told}
use Rattle.sl_parse.proofs.LoopsRead.{token_comes, closed_at_fault, closed_on, closed_open, closed_over, params_none, params_begin, params_unopened, params_first}
use Rattle.sl_parse.proofs.params.params.Goals as goal

pub returns-in_err-expect-clause-told : goal.returns-in_err-expect-clause-told
returns-in_err-expect-clause-told c =
    let file = c.args.file in
    let bytes = c.args.bytes.now in
    let tokens = c.args.tokens.now in
    let ts = behind bytes tokens c.args.start in
    let e = c.in_err-expect.field-0.0 in
    err_told file bytes tokens (λ b. found_tree b Params ts) e c.from_residual.result (params_unopened file bytes tokens ts e c.in_err-expect.ensures.told) c.from_residual.ensures.1

pub returns-then-peek-eq-RIGHT_PARENTHESIS-clause-told : goal.returns-then-peek-eq-RIGHT_PARENTHESIS-clause-told
returns-then-peek-eq-RIGHT_PARENTHESIS-clause-told c =
    let bytes = c.args.bytes.now in
    let tokens = c.args.tokens.now in
    let ts = behind bytes tokens c.args.start in
    let more = behind bytes tokens (c.args.start + 1) in
    let rest = behind bytes tokens (c.args.start + 2) in
    let n : suc c.args.start ≡ c.args.start + 1 = omega arith in
    let opened = rw (n) at c.in_ok-expect.ensures.told in
    let p = c.if-peek-eq-RIGHT_PARENTHESIS.true in
    let k = token_comes bytes tokens right_parenthesis (c.args.start + 1) (c.args.start + 2) c.peek.result refl (omega arith) c.peek.ensures.sort p in
    rw (c.new-all.ensures) (params_none ts more rest (spelled bytes c.in_ok-expect.field-0) k.0 opened (sym c.peek.ensures.sort ∙ p) k.1)

pub returns-in_err-first-clause-told : goal.returns-in_err-first-clause-told
returns-in_err-first-clause-told c =
    let file = c.args.file in
    let bytes = c.args.bytes.now in
    let tokens = c.args.tokens.now in
    let ts = behind bytes tokens c.args.start in
    let more = behind bytes tokens (c.args.start + 1) in
    let e = c.in_err-first.field-0.0 in
    let n : suc c.args.start ≡ c.args.start + 1 = omega arith in
    let opened = rw (n) at c.in_ok-expect.ensures.told in
    err_told file bytes tokens (λ b. found_tree b Params ts) e c.from_residual-in_err-first.result
    (params_first file bytes tokens ts e more (spelled bytes c.in_ok-expect.field-0) opened
    (comes_not right_parenthesis c.peek.result more c.peek.ensures.sort c.if-peek-eq-RIGHT_PARENTHESIS.false) c.in_err-first.ensures.told)
    c.from_residual-in_err-first.ensures.1

pub params-init : goal.params-init
params-init c =
    let bytes = c.args.bytes.now in
    let tokens = c.args.tokens.now in
    let ts = behind bytes tokens c.args.start in
    let rest = behind bytes tokens c.in_ok-first.next in
    let n : suc c.args.start ≡ c.args.start + 1 = omega arith in
    let opened = rw (n) at c.in_ok-expect.ensures.told in
    let all : c.push.new.self ≡ c.in_ok-first.first ∷ [] = c.in_ok-push.ensures.ok ∙ ap (λ xs. xs ++ c.in_ok-first.first ∷ []) c.new-all.ensures in
    let l = c.in_ok-first.ensures.lies in
    record {
      begun = omega arith;
      in_bounds = omega arith;
      grows = λ b. params_begin ts (behind bytes tokens (c.args.start + 1)) rest (spelled bytes c.in_ok-expect.field-0) c.in_ok-first.first opened c.in_ok-first.ensures.told b ∙ rw (all);
    }

pub returns-in_err-one-clause-told : goal.returns-in_err-one-clause-told
returns-in_err-one-clause-told c =
    let file = c.args.file in
    let bytes = c.args.bytes.now in
    let tokens = c.args.tokens.now in
    let ts = behind bytes tokens c.args.start in
    let e = c.in_err-one.field-0.0 in
    err_told file bytes tokens (λ b. found_tree b Params ts) e c.from_residual-in_err-one.result
    (closed_at_fault file bytes tokens Param_of comma refl refl (λ b. found_tree b Params ts) c.params.all c.params.at c.peek-in-params.result c.peek-in-params.ensures.sort right_parenthesis refl
    c.params.invariant.grows e c.params-test.true c.in_err-one.ensures.told)
    c.from_residual-in_err-one.ensures.1

pub params-preserved : goal.params-preserved
params-preserved c =
    let bytes = c.args.bytes.now in
    let tokens = c.args.tokens.now in
    let ts = behind bytes tokens c.args.start in
    let l = c.in_ok-one.ensures.lies in
    let i = c.params.invariant.begun in
    record {
      begun = omega arith;
      in_bounds = omega arith;
      grows = closed_on c.args.file bytes tokens Param_of comma refl refl (λ b. found_tree b Params ts) c.params.all c.params.at c.peek-in-params.result c.peek-in-params.ensures.sort right_parenthesis refl
          c.params.invariant.grows c.in_ok-one.one c.in_ok-one.next c.push-in-params.new.self c.params-test.true c.in_ok-one.ensures.told c.in_ok-push-2.ensures.ok;
    }

pub returns-in_err-expect-2-clause-told : goal.returns-in_err-expect-2-clause-told
returns-in_err-expect-2-clause-told c =
    let file = c.args.file in
    let bytes = c.args.bytes.now in
    let tokens = c.args.tokens.now in
    let ts = behind bytes tokens c.args.start in
    let e = c.in_err-expect-2.field-0.0 in
    err_told file bytes tokens (λ b. found_tree b Params ts) e c.from_residual-in_err-expect-2.result
    (closed_open file bytes tokens Param_of comma refl refl (λ b. found_tree b Params ts) c.params.all c.params.at c.peek-in-params.result c.peek-in-params.ensures.sort right_parenthesis refl
    c.params.invariant.grows e c.params-test.false c.in_err-expect-2.ensures.told)
    c.from_residual-in_err-expect-2.ensures.1

pub returns-clause-told : goal.returns-clause-told
returns-clause-told c =
    let bytes = c.args.bytes.now in
    let tokens = c.args.tokens.now in
    let ts = behind bytes tokens c.args.start in
    let n : suc c.params.at ≡ c.params.at + 1 = omega arith in
    let closed = rw (n) at c.in_ok-expect-2.ensures.told in
    closed_over c.args.file bytes tokens Param_of comma refl refl (λ b. found_tree b Params ts) c.params.all c.params.at c.peek-in-params.result c.peek-in-params.ensures.sort right_parenthesis refl
    c.params.invariant.grows (spelled bytes c.in_ok-expect-2.field-0) (behind bytes tokens (c.params.at + 1)) c.params-test.false closed
