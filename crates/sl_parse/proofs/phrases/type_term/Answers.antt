use Rattle.sl_parse.proofs.Telling.{type_told, type_bounds}
use Rattle.sl_parse.proofs.phrases.type_term.Goals as goal

pub returns-clause-told : goal.returns-clause-told
returns-clause-told c = type_told c.args.file c.args.bytes.now c.args.tokens.now c.args.start c.type_term.result c.type_term.ensures

pub returns-clause-lies : goal.returns-clause-lies
returns-clause-lies c = type_bounds c.args.file c.args.bytes.now c.args.tokens.now c.args.start c.type_term.result c.type_term.ensures
