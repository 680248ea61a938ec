use Rattle.std.proofs.Common.{[], ◌∷◌, ◌++◌, refl, sym, subst, codes}
use Rattle.c_tree.specs.declared.tree.CArg.{CArg}
use Rattle.c_write.specs.Written.{Wrote}
use Rattle.c_tree.specs.Flat.{lexemes, flat_argument, flat_arguments}
use Rattle.c_write.proofs.Writing.{wrote_then, wrote_more, wrote_all}
use Rattle.c_write.proofs.trees.write_arguments.Goals as goal

pub loop-argument-preserved : goal.loop-argument-preserved
loop-argument-preserved c =
    wrote_more (λ argument. lexemes (codes "," ∷ []) ++ flat_argument argument) c.in-Some.others.now c.loop-argument.argument-index c.argument-item.result c.argument-item.result c.loop-argument-test.true c.argument-item.is c.loop-argument.invariant
    (wrote_then c.in_ok-token.ensures c.in_ok-write_argument-2.ensures)

pub returns : goal.returns
returns c =
    let separated = λ (argument : CArg). lexemes (codes "," ∷ []) ++ flat_argument argument in
    let others = c.in-Some.others.now in
    subst (λ arguments. Wrote (flat_arguments arguments) c.args.writer.now c.loop-argument.writer) (sym c.in-Some.ensures.cases.0)
    (wrote_then c.in_ok-write_argument.ensures (wrote_all separated others others c.loop-argument.argument-index c.loop-argument-test.false refl c.loop-argument.invariant))
