use Rattle.std.proofs.Common.{length}
use Rattle.sl_outside.proofs.Streams.{WrittenUpTo}
use Rattle.sl_outside.proofs.adapters.streams.write_whole.Given as goal

-- what is gone from the rest is written
abbrev pub invariant-loop-rest : goal.invariant-loop-rest
invariant-loop-rest g l = WrittenUpTo (g.W.Write.contents l.initial.writer) (g.W.Write.contents l.writer) l.initial.rest l.rest

abbrev pub decreases-loop-rest : goal.decreases-loop-rest
decreases-loop-rest g l = length l.rest
