use Rattle.std.proofs.Common.{◌≡◌, drop}
use Rattle.sl_outside.specs.Entries.{contents_of}
use Rattle.sl_outside.proofs.memory.folder.read_entry.Given as goal

-- none of the entries so far has the name
abbrev pub invariant-loop-entry : goal.invariant-loop-entry
invariant-loop-entry l = contents_of l.entries l.name ≡ contents_of (drop l.entry-index l.entries) l.name
