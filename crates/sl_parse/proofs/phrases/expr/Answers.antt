use Rattle.sl_parse.proofs.Telling.{expr_told, expr_bounds}
use Rattle.sl_parse.proofs.phrases.expr.Goals as goal

pub returns-clause-told : goal.returns-clause-told
returns-clause-told c = expr_told c.args.file c.args.bytes.now c.args.tokens.now c.args.start c.expr.result c.expr.ensures

pub returns-clause-lies : goal.returns-clause-lies
returns-clause-lies c = expr_bounds c.args.file c.args.bytes.now c.args.tokens.now c.args.start c.expr.result c.expr.ensures
