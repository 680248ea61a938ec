use Rattle.sl_outside.proofs.Listed.{writes}
use Rattle.sl_outside.proofs.memory.folder.SureFolderFolder.write.Goals as goal

pub returns-clause-written : goal.returns-clause-written
returns-clause-written c =
    rw (← c.self.view_is)
    (writes c.self.inside.files c.write_entry.new.entries c.args.name.now c.args.bytes.now c.write_entry.result
    c.write_entry.ensures.ok c.write_entry.ensures.err c.write_entry.ensures.refused)
