use Rattle.sl_outside.proofs.Listed.{writes}
use Rattle.sl_outside.proofs.memory.folder.MemoryFolderFolder.write.Goals as goal

pub returns-clause-written : goal.returns-clause-written
returns-clause-written c =
    writes c.args.self.now.files c.write_entry.new.entries c.args.name.now c.args.bytes.now c.write_entry.result
    (rw (← c.self.view_is) c.write_entry.ensures.ok) (rw (← c.self.view_is) c.write_entry.ensures.err) c.write_entry.ensures.refused
