use Rattle.std.proofs.Common.{◌≡◌, ℕ, List, ◌++◌, take, drop}
use Rattle.sl_outside.specs.Entries.{stored}
use Rattle.sl_outside.proofs.memory.folder.place_of.Given as goal

-- none of the entries so far has the name
abbrev pub invariant-loop-at : goal.invariant-loop-at
invariant-loop-at l = (bytes : List ℕ) → stored l.entries l.name bytes ≡ take l.at l.entries ++ stored (drop l.at l.entries) l.name bytes
