use Rattle.std.proofs.Common.{◌≡◌, false, drop}
use Rattle.sl_token.specs.Spellings.{more, bad_escape}
use Rattle.sl_token.proofs.escapes.bad_escape.Given as goal

-- what is found in the rest stands so many bytes further on
abbrev pub invariant-loop-at : goal.invariant-loop-at
invariant-loop-at l = bad_escape false l.content ≡ more l.at (bad_escape l.escaped (drop l.at l.content))
