use Rattle.std.proofs.Common.{subst}
use Rattle.c_machine.specs.Naming.{callee_named, place_named}
use Rattle.c_machine.specs.Related.{DoAs, DoesAs}
use Rattle.c_machine.proofs.Lists.{pairwise_more}
use Rattle.c_machine.proofs.Doing.{assign_does, if_does, if_else_does, loop_does, count_does, break_does, put_does, get_does, halt_does}
use Rattle.c_machine.proofs.statements.+blocks.Goals as goal

pub resolve_block-loop-stmt-preserved : goal.resolve_block-loop-stmt-preserved
resolve_block-loop-stmt-preserved t c =
    pairwise_more (DoesAs (place_named c.args.around.now) (callee_named c.args.around.now))
    c.args.stmts.now c.loop-stmt.resolved c.push.new.self c.loop-stmt.stmt-index c.stmt-item.result c.stmt-item.result c.in_ok-resolve_stmt.field-0
    c.loop-stmt-test.true c.stmt-item.is c.in_ok-push.ensures.ok c.loop-stmt.invariant c.in_ok-resolve_stmt.ensures

pub resolve_stmt-returns-in_ok-resolve_expr-in-Assign : goal.resolve_stmt-returns-in_ok-resolve_expr-in-Assign
resolve_stmt-returns-in_ok-resolve_expr-in-Assign t c =
    rw (c.in-Assign.is, c.place-place.ensures)
    (assign_does (place_named c.args.around.now) (callee_named c.args.around.now) c.in-Assign.place c.in-Assign.e c.in_ok-resolve_expr-in-Assign.field-0 c.in_ok-resolve_expr-in-Assign.ensures)

pub resolve_stmt-returns-in_ok-other-in-None : goal.resolve_stmt-returns-in_ok-other-in-None
resolve_stmt-returns-in_ok-other-in-None t c =
    let places = place_named c.args.around.now in
    let callees = callee_named c.args.around.now in
    let first = subst (λ stmts. DoAs places callees stmts c.in_ok-chosen-in-If.chosen) c.as_slice-in-If.ensures c.in_ok-chosen-in-If.ensures
    in rw (c.in-If.is, c.in-None.is, c.in_ok-other-in-None.ensures) (if_does places callees c.in-If.test c.in_ok-test-in-If.test c.in-If.chosen c.in_ok-chosen-in-If.chosen c.in_ok-test-in-If.ensures first)

pub resolve_stmt-returns-in_ok-other-in-Some : goal.resolve_stmt-returns-in_ok-other-in-Some
resolve_stmt-returns-in_ok-other-in-Some t c =
    let places = place_named c.args.around.now in
    let callees = callee_named c.args.around.now in
    let first = subst (λ stmts. DoAs places callees stmts c.in_ok-chosen-in-If.chosen) c.as_slice-in-If.ensures c.in_ok-chosen-in-If.ensures in
    let second = subst (λ stmts. DoAs places callees stmts c.in_ok-other-in-Some.other) c.as_slice-in-Some.ensures c.in_ok-other-in-Some.ensures
    in rw (c.in-If.is, c.in-Some.is) (if_else_does places callees c.in-If.test c.in_ok-test-in-If.test c.in-If.chosen c.in-Some.other c.in_ok-chosen-in-If.chosen c.in_ok-other-in-Some.other c.in_ok-test-in-If.ensures first second)

pub resolve_stmt-returns-in_ok-resolve_expr-in-Put : goal.resolve_stmt-returns-in_ok-resolve_expr-in-Put
resolve_stmt-returns-in_ok-resolve_expr-in-Put t c =
    rw c.in-Put.is (put_does (place_named c.args.around.now) (callee_named c.args.around.now) c.in-Put.e c.in_ok-resolve_expr-in-Put.field-0 c.in_ok-resolve_expr-in-Put.ensures)

pub resolve_stmt-returns-in-Halt : goal.resolve_stmt-returns-in-Halt
resolve_stmt-returns-in-Halt t c =
    rw c.in-Halt.is (halt_does (place_named c.args.around.now) (callee_named c.args.around.now) c.in-Halt.kind c.in-Halt.file c.in-Halt.line)

pub resolve_stmt-returns-in_ok-resolve_block-in-Loop : goal.resolve_stmt-returns-in_ok-resolve_block-in-Loop
resolve_stmt-returns-in_ok-resolve_block-in-Loop t c =
    let places = place_named c.args.around.now in
    let callees = callee_named c.args.around.now in
    let inside = subst (λ stmts. DoAs places callees stmts c.in_ok-resolve_block-in-Loop.field-0) c.as_slice-in-Loop.ensures c.in_ok-resolve_block-in-Loop.ensures
    in rw c.in-Loop.is (loop_does places callees c.in-Loop.body c.in_ok-resolve_block-in-Loop.field-0 inside)

pub resolve_stmt-returns-in_ok-body-in-Count : goal.resolve_stmt-returns-in_ok-body-in-Count
resolve_stmt-returns-in_ok-body-in-Count t c =
    let places = place_named c.args.around.now in
    let callees = callee_named c.args.around.now in
    let inside = subst (λ stmts. DoAs places callees stmts c.in_ok-body-in-Count.body) c.as_slice-in-Count.ensures c.in_ok-body-in-Count.ensures
    in rw (c.in-Count.is, c.place_named-place.ensures) (count_does places callees c.in-Count.set c.in-Count.field-1 c.in-Count.count c.in-Count.field-3 c.in-Count.body c.in_ok-body-in-Count.body inside)

pub resolve_stmt-returns-in-Break : goal.resolve_stmt-returns-in-Break
resolve_stmt-returns-in-Break t c = rw c.in-Break.is (break_does (place_named c.args.around.now) (callee_named c.args.around.now))

pub resolve_stmt-returns-in-Get : goal.resolve_stmt-returns-in-Get
resolve_stmt-returns-in-Get t c = rw (c.in-Get.is, c.place.ensures) (get_does (place_named c.args.around.now) (callee_named c.args.around.now) c.in-Get.place)
