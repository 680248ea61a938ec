use Rattle.sl_tree.specs.Sorts.{spelled}
use Rattle.sl_parse_expr.proofs.PatternsRead.{bind_truth, bind_name}
use Rattle.sl_parse_expr.proofs.patterns.bind.Goals as goal

pub returns-in_ok-lexeme : goal.returns-in_ok-lexeme
unfolding spelled
returns-in_ok-lexeme c = bind_truth (spelled c.args.bytes.now c.args.first) c.sort.result c.in_ok-lexeme.field-0 c.sort.ensures c.if-sort-eq-TRUTH_NAME.true c.in_ok-lexeme.ensures

pub returns-in_ok-text : goal.returns-in_ok-text
unfolding spelled
returns-in_ok-text c = bind_name (spelled c.args.bytes.now c.args.first) c.sort.result c.in_ok-text.field-0 c.sort.ensures c.if-sort-eq-TRUTH_NAME.false c.in_ok-text.ensures
