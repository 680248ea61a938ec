use Rattle.std.proofs.Common.{◌≡◌, ◌++◌, map, take}
use Rattle.c_helpers.specs.Functions.{call_digit}
use Rattle.c_helpers.proofs.printing.call_digits.Given as goal

-- the calls at the powers so far were added
abbrev pub invariant-loop-power : goal.invariant-loop-power
invariant-loop-power l = l.body ≡ l.initial.body ++ map call_digit (take l.power-index l.powers)
