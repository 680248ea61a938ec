use Rattle.std.proofs.Common.{[], ◌∷◌, ◌++◌, refl, sym, subst, codes}
use Rattle.c_tree.specs.declared.tree.CVar.{CVar}
use Rattle.c_write.specs.Written.{Wrote}
use Rattle.c_tree.specs.Flat.{lexemes, flat_typed, flat_params}
use Rattle.c_write.proofs.Writing.{wrote_then, wrote_more, wrote_all}
use Rattle.c_write.proofs.trees.write_params.Goals as goal

pub loop-param-preserved : goal.loop-param-preserved
loop-param-preserved c =
    wrote_more (λ param. lexemes (codes "," ∷ []) ++ flat_typed param) c.in-Some.others.now c.loop-param.param-index c.param-item.result c.param-item.result c.loop-param-test.true c.param-item.is c.loop-param.invariant
    (wrote_then c.in_ok-token.ensures c.in_ok-write_typed-2.ensures)

pub returns : goal.returns
returns c =
    let separated = λ (param : CVar). lexemes (codes "," ∷ []) ++ flat_typed param in
    let others = c.in-Some.others.now in
    subst (λ params. Wrote (flat_params params) c.args.writer.now c.loop-param.writer) (sym c.in-Some.ensures.cases.0)
    (wrote_then c.in_ok-write_typed.ensures (wrote_all separated others others c.loop-param.param-index c.loop-param-test.false refl c.loop-param.invariant))
