use Rattle.std.proofs.Common.{◌≡◌, ◌++◌}
use Rattle.std.specs.Fmt.{decimal}
use Rattle.sl_frames.specs.Translated.{named_from}
use Rattle.sl_frames.proofs.functions.declare.Given as goal

-- the variables so far were added
abbrev pub invariant-loop-number : goal.invariant-loop-number
invariant-loop-number l = l.vars ≡ l.initial.vars ++ named_from (λ number. l.text ++ decimal number) 0 l.number
