use Rattle.std.proofs.Common.{◌≡◌, ◌++◌, map, take}
use Rattle.sl_frames.specs.Translated.{put_byte}
use Rattle.sl_frames.proofs.statements.put_bytes.Given as goal

-- the bytes so far were added
abbrev pub invariant-loop-byte : goal.invariant-loop-byte
invariant-loop-byte l = l.body ≡ l.initial.body ++ map put_byte (take l.byte-index l.bytes)
