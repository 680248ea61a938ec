use Rattle.std.proofs.Common.{length}
use Rattle.sl_plain.specs.Checking.{entries_of, IsIndexed}
use Rattle.sl_plain.proofs.Checked.Entries.{IsLeft}
use Rattle.sl_plain.proofs.checking.scopes.Scope.leave.Given as goal

-- the last names are taken, and no more than to this length
abbrev pub invariant-loop-self : goal.invariant-loop-self
invariant-loop-self l = record { left : IsLeft l.len (entries_of l.initial.self) (entries_of l.self); indexed : IsIndexed l.self }

abbrev pub decreases-loop-self : goal.decreases-loop-self
decreases-loop-self l = length l.self.entries.items
