use Rattle.std.proofs.Common.{◌≤◌, ◌^◌, length, vec_items}
use Rattle.std.specs.Io.KnownBytes.{Consumes}
use Rattle.sl_outside.proofs.adapters.disk.read_whole.Given as goal

-- the bytes so far are what is gone from the reader, and not too many
abbrev pub invariant-loop : goal.invariant-loop
invariant-loop g l = record {
  taken : Consumes (g.F.Read.remaining l.initial.file) (g.F.Read.remaining l.file) (vec_items l.bytes);
  short : length (vec_items l.bytes) ≤ 2 ^ 30;
}
