use Rattle.std.proofs.Common.{◌≡◌, map, take}
use Rattle.std.specs.List.{flat_map}
use Rattle.sl_core.specs.Sound.{greatest}
use Rattle.sl_frames.specs.Translated.{stmts_of, needs}
use Rattle.sl_frames.proofs.statements.+statements.Given as goal

-- the C of the statements so far, and how many temporaries they need
abbrev pub invariant-translate_block-loop-stmt : goal.invariant-translate_block-loop-stmt
invariant-translate_block-loop-stmt l = (l.body ≡ flat_map (stmts_of l.core) (take l.stmt-index l.stmts)) × (l.needs ≡ greatest (map needs (take l.stmt-index l.stmts)))
