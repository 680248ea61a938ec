use Rattle.std.proofs.Common.{◌≤◌, ◌-◌, length}
use Rattle.sl_token.specs.Layouts.{IsLayoutOf}
use Rattle.sl_token.proofs.Cuts.{Reached}
use Rattle.sl_token.proofs.cutting.tokens.Given as goal

-- the bytes so far are cut, and the layout has the tokens of the cut
abbrev pub invariant-loop-at : goal.invariant-loop-at
invariant-loop-at l = (l.at ≤ length l.bytes) × Reached l.bytes l.file l.at (λ tokens. IsLayoutOf l.bytes tokens l.layout)

abbrev pub decreases-loop-at : goal.decreases-loop-at
decreases-loop-at l = length l.bytes - l.at
