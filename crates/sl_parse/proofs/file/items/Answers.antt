use Rattle.std.proofs.Common.{◌∙◌, arith}
use Rattle.sl_grammar.specs.Law.{found_as}
use Rattle.sl_parse_expr.specs.Told.{behind}
use Rattle.sl_parse.specs.Told.{reads, items_form, items_view}
use Rattle.sl_parse.proofs.Telling.{err_told_two}
use Rattle.sl_parse.proofs.Listing.{items_is}
use Rattle.sl_parse.proofs.LoopsRead.{import_at_fault, import_on, decl_at_fault, decl_on, items_over}
use Rattle.sl_parse.proofs.file.items.Goals as goal

pub items-init : goal.items-init
items-init c =
    let ts = behind c.args.bytes.now c.args.tokens.now c.args.start in
    record {
      begun = omega arith;
      in_bounds = omega arith;
      grows = λ b. items_is b ts ∙ rw (c.new-imports.ensures, c.new-decls.ensures);
    }

pub returns-in_err-one-clause-told : goal.returns-in_err-one-clause-told
returns-in_err-one-clause-told c =
    let file = c.args.file in
    let bytes = c.args.bytes.now in
    let tokens = c.args.tokens.now in
    let ts = behind bytes tokens c.args.start in
    let e = c.in_err-one.field-0.0 in
    err_told_two file bytes tokens (λ b. found_as items_view (reads b items_form ts)) e c.from_residual.result
    (import_at_fault file bytes tokens (λ b. found_as items_view (reads b items_form ts)) c.items.imports c.items.decls c.items.at c.peek.result c.peek.ensures.sort c.items.invariant.grows
    c.peek-in-items.result c.peek-in-items.ensures.sort e c.items-test.true c.if-peek-eq-IMPORT.true c.in_err-one.ensures.told)
    c.from_residual.ensures.1

pub items-preserved-then-peek-eq-IMPORT : goal.items-preserved-then-peek-eq-IMPORT
items-preserved-then-peek-eq-IMPORT c =
    let bytes = c.args.bytes.now in
    let tokens = c.args.tokens.now in
    let ts = behind bytes tokens c.args.start in
    let l = c.in_ok-one.ensures.lies in
    let i = c.items.invariant.begun in
    record {
      begun = omega arith;
      in_bounds = omega arith;
      grows = import_on c.args.file bytes tokens (λ b. found_as items_view (reads b items_form ts)) c.items.imports c.items.decls c.items.at c.peek.result c.peek.ensures.sort c.items.invariant.grows
          c.peek-in-items.result c.peek-in-items.ensures.sort c.in_ok-one.one c.in_ok-one.next c.push.new.self c.items-test.true c.if-peek-eq-IMPORT.true c.in_ok-one.ensures.told c.in_ok-push.ensures.ok;
    }

pub returns-in_err-one-2-clause-told : goal.returns-in_err-one-2-clause-told
returns-in_err-one-2-clause-told c =
    let file = c.args.file in
    let bytes = c.args.bytes.now in
    let tokens = c.args.tokens.now in
    let ts = behind bytes tokens c.args.start in
    let e = c.in_err-one-2.field-0.0 in
    err_told_two file bytes tokens (λ b. found_as items_view (reads b items_form ts)) e c.from_residual-in_err-one-2.result
    (decl_at_fault file bytes tokens (λ b. found_as items_view (reads b items_form ts)) c.items.imports c.items.decls c.items.at c.peek.result c.peek.ensures.sort c.items.invariant.grows
    c.peek-in-items.result c.peek-in-items.ensures.sort e c.items-test.true c.if-peek-eq-IMPORT.false c.in_err-one-2.ensures.told)
    c.from_residual-in_err-one-2.ensures.1

pub items-preserved : goal.items-preserved
items-preserved c =
    let bytes = c.args.bytes.now in
    let tokens = c.args.tokens.now in
    let ts = behind bytes tokens c.args.start in
    let l = c.in_ok-one-2.ensures.lies in
    let i = c.items.invariant.begun in
    record {
      begun = omega arith;
      in_bounds = omega arith;
      grows = decl_on c.args.file bytes tokens (λ b. found_as items_view (reads b items_form ts)) c.items.imports c.items.decls c.items.at c.peek.result c.peek.ensures.sort c.items.invariant.grows
          c.peek-in-items.result c.peek-in-items.ensures.sort c.in_ok-one-2.one c.in_ok-one-2.next c.push-else-peek-eq-IMPORT.new.self c.items-test.true c.if-peek-eq-IMPORT.false
          c.in_ok-one-2.ensures.told c.in_ok-push-2.ensures.ok;
    }

pub returns-clause-told : goal.returns-clause-told
returns-clause-told c =
    let bytes = c.args.bytes.now in
    let tokens = c.args.tokens.now in
    let ts = behind bytes tokens c.args.start in
    items_over c.args.file bytes tokens (λ b. found_as items_view (reads b items_form ts)) c.items.imports c.items.decls c.items.at c.peek.result c.peek.ensures.sort c.items.invariant.grows c.items-test.false
