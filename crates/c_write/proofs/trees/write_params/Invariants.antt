use Rattle.std.proofs.Common.{[], ◌∷◌, ◌++◌, take, codes}
use Rattle.std.specs.List.{flat_map}
use Rattle.c_tree.specs.Flat.{lexemes, flat_typed}
use Rattle.c_write.specs.Written.{Wrote}
use Rattle.c_write.proofs.trees.write_params.Given as goal

-- the parameters behind the first so far were written
abbrev pub invariant-loop-param : goal.invariant-loop-param
invariant-loop-param l = Wrote (flat_map (λ param. lexemes (codes "," ∷ []) ++ flat_typed param) (take l.param-index l.others)) l.initial.writer l.writer
