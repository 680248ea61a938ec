use Rattle.std.proofs.Common.{[], ◌∷◌, ◌++◌, take, codes}
use Rattle.std.specs.List.{flat_map}
use Rattle.c_tree.specs.Flat.{lexemes, flat_argument}
use Rattle.c_write.specs.Written.{Wrote}
use Rattle.c_write.proofs.trees.write_arguments.Given as goal

-- the arguments behind the first so far were written
abbrev pub invariant-loop-argument : goal.invariant-loop-argument
invariant-loop-argument l = Wrote (flat_map (λ argument. lexemes (codes "," ∷ []) ++ flat_argument argument) (take l.argument-index l.others)) l.initial.writer l.writer
