use Rattle.std.proofs.Common.{sym, subst, ◌∙◌}
use Rattle.c_tree.specs.Text.{CText, prelude, postlude}
use Rattle.c_write.specs.Lined.{lined}
use Rattle.c_write.proofs.Writing.{wrote_text}
use Rattle.c_write.proofs.TextReads.{text_reads}
use Rattle.c_write.proofs.write.Goals as goal

pub returns-clause-text : goal.returns-clause-text
unfolding prelude postlude
returns-clause-text c =
    c.from_vec.ensures
    ∙ wrote_text c.new-writer.result c.put.new.self c.write_file.new.writer c.put-2.new.self c.put-3.new.self c.args.file.now
    c.new-writer.ensures.bytes c.new-writer.ensures.place c.in_ok-put.ensures.bytes c.in_ok-put.ensures.place c.in_ok-write_file.ensures c.in_ok-put-2.ensures.bytes c.in_ok-put-3.ensures.bytes

pub returns-clause-reads : goal.returns-clause-reads
returns-clause-reads c well =
    subst (λ bytes. CText bytes (lined c.args.file.now)) (sym (returns-clause-text c)) (text_reads c.args.file.now well)
