use Rattle.std.proofs.Common.{◌∙◌, arith}
use Rattle.sl_parse_expr.specs.Told.{behind}
use Rattle.sl_parse.specs.Names.{Notes}
use Rattle.sl_parse.specs.Told.{found_tree}
use Rattle.sl_parse.proofs.Telling.{err_told}
use Rattle.sl_parse.proofs.Listing.{notes_is}
use Rattle.sl_parse.proofs.LoopsRead.{notes_at_fault, notes_on, notes_over}
use Rattle.sl_parse.proofs.notes.notes.Goals as goal

pub notes-init : goal.notes-init
notes-init c =
    let ts = behind c.args.bytes.now c.args.tokens.now c.args.start in
    record {
      begun = omega arith;
      in_bounds = omega arith;
      grows = λ b. notes_is b ts ∙ rw (c.new-all.ensures);
    }

pub returns-in_err-one-clause-told : goal.returns-in_err-one-clause-told
returns-in_err-one-clause-told c =
    let file = c.args.file in
    let bytes = c.args.bytes.now in
    let tokens = c.args.tokens.now in
    let ts = behind bytes tokens c.args.start in
    let e = c.in_err-one.field-0.0 in
    err_told file bytes tokens (λ b. found_tree b Notes ts) e c.from_residual.result
    (notes_at_fault file bytes tokens (λ b. found_tree b Notes ts) c.notes.all c.notes.at c.peek.result c.peek.ensures.sort c.notes.invariant.grows e c.notes-test.true c.in_err-one.ensures.told)
    c.from_residual.ensures.1

pub notes-preserved : goal.notes-preserved
notes-preserved c =
    let bytes = c.args.bytes.now in
    let tokens = c.args.tokens.now in
    let ts = behind bytes tokens c.args.start in
    let l = c.in_ok-one.ensures.lies in
    let i = c.notes.invariant.begun in
    record {
      begun = omega arith;
      in_bounds = omega arith;
      grows = notes_on c.args.file bytes tokens (λ b. found_tree b Notes ts) c.notes.all c.notes.at c.peek.result c.peek.ensures.sort c.notes.invariant.grows
          c.in_ok-one.one c.in_ok-one.next c.push.new.self c.notes-test.true c.in_ok-one.ensures.told c.in_ok-push.ensures.ok;
    }

pub returns-clause-told : goal.returns-clause-told
returns-clause-told c =
    let bytes = c.args.bytes.now in
    let tokens = c.args.tokens.now in
    let ts = behind bytes tokens c.args.start in
    notes_over c.args.file bytes tokens (λ b. found_tree b Notes ts) c.notes.all c.notes.at c.peek.result c.peek.ensures.sort c.notes.invariant.grows c.notes-test.false
