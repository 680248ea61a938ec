use Rattle.std.proofs.Common.{[], ◌∷◌, codes}
use Rattle.c_tree.specs.Flat.{lexemes, flat_var, flat_stmt}
use Rattle.c_write.proofs.Writing.{wrote_then, writes_then, wrote_more, wrote_all}
use Rattle.c_write.proofs.trees.write_function.Goals as goal

pub loop-var-preserved : goal.loop-var-preserved
loop-var-preserved c =
    wrote_more flat_var c.as_slice-var-items.result.now c.loop-var.var-index c.var-item.result c.var-item.result
    c.loop-var-test.true c.var-item.is c.loop-var.invariant c.in_ok-write_var.ensures

pub loop-stmt-preserved : goal.loop-stmt-preserved
loop-stmt-preserved c =
    wrote_more flat_stmt c.as_slice-stmt-items.result.now c.loop-stmt.stmt-index c.stmt-item.result c.stmt-item.result
    c.loop-stmt-test.true c.stmt-item.is c.loop-stmt.invariant c.in_ok-write_stmt.ensures

pub returns : goal.returns
returns c =
    writes_then (lexemes (codes "}" ∷ [])) c.token-2.new.self c.token-2.result
    (wrote_then (wrote_then (wrote_then c.in_ok-write_head.ensures c.in_ok-token.ensures)
    (wrote_all flat_var c.as_slice-var-items.result.now c.args.function.now.vars c.loop-var.var-index c.loop-var-test.false c.as_slice-var-items.ensures c.loop-var.invariant))
    (wrote_all flat_stmt c.as_slice-stmt-items.result.now c.args.function.now.body c.loop-stmt.stmt-index c.loop-stmt-test.false c.as_slice-stmt-items.ensures c.loop-stmt.invariant))
    c.token-2.ensures
