use Rattle.std.proofs.Common.{[], ◌∷◌, take}
use Rattle.std.specs.List.{flat_map}
use Rattle.c_tree.specs.Flat.{lexemes}
use Rattle.c_write.specs.Written.{Wrote}
use Rattle.c_write.proofs.layout.Writer.tokens.Given as goal

-- the tokens so far were written
abbrev pub invariant-loop-spelling : goal.invariant-loop-spelling
invariant-loop-spelling l = Wrote (flat_map (λ spelling. lexemes (spelling.now ∷ [])) (take l.spelling-index l.spellings)) l.initial.self l.self
