use Rattle.std.proofs.Common.{◌≡◌, take}
use Rattle.sl_text.specs.Places.{feeds_from}
use Rattle.sl_parse.proofs.file.feeds.Given as goal

abbrev pub invariant-loop-place : goal.invariant-loop-place
invariant-loop-place l = l.feeds ≡ feeds_from 0 (take l.place l.bytes)
