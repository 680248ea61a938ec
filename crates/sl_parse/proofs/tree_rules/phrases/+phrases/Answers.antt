use Rattle.std.proofs.Common.{◌≡◌, length, sym, ap, ◌∙◌}
use Rattle.sl_parse.specs.TreeRules.{first_of, broken_expr, broken_field, broken_case, broken_stmt}
use Rattle.sl_parse.proofs.FirstFault.{first_more, first_all}
use Rattle.sl_parse.proofs.PhraseFaults.{value_is}
use Rattle.sl_parse.proofs.tree_rules.phrases.+phrases.Goals as goal

pub in_exprs-loop-e-preserved : goal.in_exprs-loop-e-preserved
in_exprs-loop-e-preserved t c =
    first_more broken_expr c.args.exprs.now c.loop-e.e-index c.e-item.result c.loop-e.first c.in_expr.result c.sooner-first.result
    c.loop-e-test.true c.e-item.is c.loop-e.invariant c.in_expr.ensures c.sooner-first.ensures

pub in_exprs-returns : goal.in_exprs-returns
in_exprs-returns t c = first_all broken_expr c.args.exprs.now c.loop-e.e-index c.loop-e.first c.loop-e-test.false c.loop-e.invariant

pub in_fields-loop-field-preserved : goal.in_fields-loop-field-preserved
in_fields-loop-field-preserved t c =
    first_more broken_field c.args.fields.now c.loop-field.field-index c.field-item.result c.loop-field.first c.in_expr.result c.sooner-first.result
    c.loop-field-test.true c.field-item.is c.loop-field.invariant c.in_expr.ensures c.sooner-first.ensures

pub in_fields-returns : goal.in_fields-returns
in_fields-returns t c = first_all broken_field c.args.fields.now c.loop-field.field-index c.loop-field.first c.loop-field-test.false c.loop-field.invariant

pub in_cases-loop-one-preserved : goal.in_cases-loop-one-preserved
in_cases-loop-one-preserved t c =
    first_more (broken_case c.args.valued) c.args.cases.now c.loop-one.one-index c.one-item.result c.loop-one.first c.in_case.result c.sooner-first.result
    c.loop-one-test.true c.one-item.is c.loop-one.invariant c.in_case.ensures c.sooner-first.ensures

pub in_cases-returns : goal.in_cases-returns
in_cases-returns t c = first_all (broken_case c.args.valued) c.args.cases.now c.loop-one.one-index c.loop-one.first c.loop-one-test.false c.loop-one.invariant

pub in_stmts-loop-stmt-preserved : goal.in_stmts-loop-stmt-preserved
in_stmts-loop-stmt-preserved t c =
    first_more broken_stmt c.args.stmts.now c.loop-stmt.stmt-index c.stmt-item.result c.loop-stmt.first c.in_stmt.result c.sooner-first.result
    c.loop-stmt-test.true c.stmt-item.is c.loop-stmt.invariant c.in_stmt.ensures c.sooner-first.ensures

pub in_stmts-returns : goal.in_stmts-returns
in_stmts-returns t c = first_all broken_stmt c.args.stmts.now c.loop-stmt.stmt-index c.loop-stmt.first c.loop-stmt-test.false c.loop-stmt.invariant

pub in_value-returns-else-stmts-eq1 : goal.in_value-returns-else-stmts-eq1
in_value-returns-else-stmts-eq1 t c =
    let other : length c.args.stmts.now ≡ 1 → ⊥ = c.if-stmts-eq1.false
    in c.in_stmts.ensures ∙ ap first_of (sym (value_is c.args.stmts.now other))
