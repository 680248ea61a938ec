use Rattle.std.proofs.Common.{◌≡◌, ◌++◌, take}
use Rattle.c_helpers.specs.Functions.{helper_functions}
use Rattle.sl_frames.specs.Translated.{of_each, proto_of, function_of}
use Rattle.sl_frames.proofs.to_c.Given as goal

-- the prototypes and the functions so far
abbrev pub invariant-loop-number : goal.invariant-loop-number
invariant-loop-number l =
    (l.protos ≡ of_each (proto_of l.core) 0 (take l.number l.core.functions))
    × (l.functions ≡ helper_functions ++ of_each (function_of l.core) 0 (take l.number l.core.functions))
