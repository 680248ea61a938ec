use Rattle.sl_parse.proofs.Telling.{block_told}
use Rattle.sl_parse.proofs.phrases.block.Goals as goal

pub returns-clause-told : goal.returns-clause-told
returns-clause-told c = block_told c.args.file c.args.bytes.now c.args.tokens.now c.args.start c.block.result c.block.ensures
