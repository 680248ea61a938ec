use Rattle.sl_parse.specs.TreeRules.{noted_again}
use Rattle.sl_parse.proofs.FirstFault.{first_more, first_all}
use Rattle.sl_parse.proofs.tree_rules.notes.in_others.Goals as goal

pub loop-note-preserved : goal.loop-note-preserved
loop-note-preserved c =
    first_more noted_again c.args.notes.now c.loop-note.note-index c.note-item.result c.loop-note.first c.in_other.result c.sooner-first.result
    c.loop-note-test.true c.note-item.is c.loop-note.invariant c.in_other.ensures c.sooner-first.ensures

pub returns : goal.returns
returns c = first_all noted_again c.args.notes.now c.loop-note.note-index c.loop-note.first c.loop-note-test.false c.loop-note.invariant
