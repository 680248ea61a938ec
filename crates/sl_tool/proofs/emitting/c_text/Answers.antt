use Rattle.sl_tool.proofs.Meant.{text_written, text_read, text_means}
use Rattle.sl_tool.proofs.emitting.c_text.Goals as goal

pub returns-clause-text : goal.returns-clause-text
returns-clause-text c = text_written c.args.program.now c.in_ok-tree.tree c.write.result c.in_ok-tree.ensures.value c.write.ensures.text

pub returns-clause-means : goal.returns-clause-means
returns-clause-means c = text_means c.args.program.now c.write.result c.in_ok-tree.ensures.means

pub returns-clause-reads : goal.returns-clause-reads
returns-clause-reads c = text_read c.args.program.now c.in_ok-tree.ensures.means c.in_ok-tree.tree c.write.result c.in_ok-tree.ensures.value c.write.ensures.text c.write.ensures.reads
