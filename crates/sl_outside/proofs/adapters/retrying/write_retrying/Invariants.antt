use Rattle.std.specs.Io.KnownBytes.{Keeps}
use Rattle.sl_outside.proofs.adapters.retrying.write_retrying.Given as goal

-- no byte is written so far
abbrev pub invariant-loop : goal.invariant-loop
invariant-loop g l = Keeps (g.W.Write.contents l.initial.writer) (g.W.Write.contents l.writer)
