use Rattle.std.proofs.Common.{◌≡◌, ◌∷◌, [], ◌++◌, ◌+◌, suc, ◌∙◌, sym, ap, refl, arith}
use Rattle.sl_tree.specs.Sorts.{spelled, separator, right_brace}
use Rattle.sl_parse_expr.specs.Told.{behind}
use Rattle.sl_parse_expr.proofs.Telling.{comes_not}
use Rattle.sl_parse.specs.Names.{Member, Members}
use Rattle.sl_parse.specs.Told.{found_tree}
use Rattle.sl_parse.proofs.Telling.{err_told}
use Rattle.sl_parse.proofs.LoopsRead.{token_comes, closed_at_fault, closed_on, closed_open, closed_over, members_none, members_begin, members_first}
use Rattle.sl_parse.proofs.members.members.Goals as goal

pub returns-then-peek-eq-RIGHT_BRACE-clause-told : goal.returns-then-peek-eq-RIGHT_BRACE-clause-told
returns-then-peek-eq-RIGHT_BRACE-clause-told c =
    let bytes = c.args.bytes.now in
    let tokens = c.args.tokens.now in
    let p = c.if-peek-eq-RIGHT_BRACE.true in
    let k = token_comes bytes tokens right_brace c.args.start (c.args.start + 1) c.peek.result refl (omega arith) c.peek.ensures.sort p in
    rw (c.new-all.ensures) (members_none c.args.globals (behind bytes tokens c.args.start) (behind bytes tokens (c.args.start + 1)) k.0 (sym c.peek.ensures.sort ∙ p) k.1)

pub returns-in_err-first-clause-told : goal.returns-in_err-first-clause-told
returns-in_err-first-clause-told c =
    let file = c.args.file in
    let bytes = c.args.bytes.now in
    let tokens = c.args.tokens.now in
    let ts = behind bytes tokens c.args.start in
    let e = c.in_err-first.field-0.0 in
    err_told file bytes tokens (λ b. found_tree b (Members c.args.globals) ts) e c.from_residual.result
    (members_first c.args.globals file bytes tokens ts e (comes_not right_brace c.peek.result ts c.peek.ensures.sort c.if-peek-eq-RIGHT_BRACE.false) c.in_err-first.ensures.told)
    c.from_residual.ensures.1

pub members-init : goal.members-init
members-init c =
    let bytes = c.args.bytes.now in
    let tokens = c.args.tokens.now in
    let ts = behind bytes tokens c.args.start in
    let rest = behind bytes tokens c.in_ok-first.next in
    let all : c.push.new.self ≡ c.in_ok-first.first ∷ [] = c.in_ok-push.ensures.ok ∙ ap (λ xs. xs ++ c.in_ok-first.first ∷ []) c.new-all.ensures in
    let l = c.in_ok-first.ensures.lies in
    record {
      begun = omega arith;
      in_bounds = omega arith;
      grows = λ b. members_begin c.args.globals ts rest c.in_ok-first.first c.in_ok-first.ensures.told b ∙ rw (all);
    }

pub returns-in_err-one-clause-told : goal.returns-in_err-one-clause-told
returns-in_err-one-clause-told c =
    let file = c.args.file in
    let bytes = c.args.bytes.now in
    let tokens = c.args.tokens.now in
    let ts = behind bytes tokens c.args.start in
    let e = c.in_err-one.field-0.0 in
    err_told file bytes tokens (λ b. found_tree b (Members c.args.globals) ts) e c.from_residual-in_err-one.result
    (closed_at_fault file bytes tokens (Member c.args.globals) separator refl refl (λ b. found_tree b (Members c.args.globals) ts) c.members.all c.members.at c.peek-in-members.result
    c.peek-in-members.ensures.sort right_brace refl c.members.invariant.grows e c.members-test.true c.in_err-one.ensures.told)
    c.from_residual-in_err-one.ensures.1

pub members-preserved : goal.members-preserved
members-preserved c =
    let bytes = c.args.bytes.now in
    let tokens = c.args.tokens.now in
    let ts = behind bytes tokens c.args.start in
    let l = c.in_ok-one.ensures.lies in
    let i = c.members.invariant.begun in
    record {
      begun = omega arith;
      in_bounds = omega arith;
      grows = closed_on c.args.file bytes tokens (Member c.args.globals) separator refl refl (λ b. found_tree b (Members c.args.globals) ts) c.members.all c.members.at c.peek-in-members.result
          c.peek-in-members.ensures.sort right_brace refl c.members.invariant.grows c.in_ok-one.one c.in_ok-one.next c.push-in-members.new.self c.members-test.true c.in_ok-one.ensures.told
          c.in_ok-push-2.ensures.ok;
    }

pub returns-in_err-expect-clause-told : goal.returns-in_err-expect-clause-told
returns-in_err-expect-clause-told c =
    let file = c.args.file in
    let bytes = c.args.bytes.now in
    let tokens = c.args.tokens.now in
    let ts = behind bytes tokens c.args.start in
    let e = c.in_err-expect.field-0.0 in
    err_told file bytes tokens (λ b. found_tree b (Members c.args.globals) ts) e c.from_residual-in_err-expect.result
    (closed_open file bytes tokens (Member c.args.globals) separator refl refl (λ b. found_tree b (Members c.args.globals) ts) c.members.all c.members.at c.peek-in-members.result
    c.peek-in-members.ensures.sort right_brace refl c.members.invariant.grows e c.members-test.false c.in_err-expect.ensures.told)
    c.from_residual-in_err-expect.ensures.1

pub returns-clause-told : goal.returns-clause-told
returns-clause-told c =
    let bytes = c.args.bytes.now in
    let tokens = c.args.tokens.now in
    let ts = behind bytes tokens c.args.start in
    let n : suc c.members.at ≡ c.members.at + 1 = omega arith in
    let closed = rw (n) at c.in_ok-expect.ensures.told in
    closed_over c.args.file bytes tokens (Member c.args.globals) separator refl refl (λ b. found_tree b (Members c.args.globals) ts) c.members.all c.members.at c.peek-in-members.result
    c.peek-in-members.ensures.sort right_brace refl c.members.invariant.grows (spelled bytes c.in_ok-expect.field-0) (behind bytes tokens (c.members.at + 1)) c.members-test.false closed
