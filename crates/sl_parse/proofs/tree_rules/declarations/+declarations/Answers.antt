use Rattle.sl_parse.specs.TreeRules.{broken_decl}
use Rattle.sl_parse.proofs.FirstFault.{first_more, first_all}
use Rattle.sl_parse.proofs.tree_rules.declarations.+declarations.Goals as goal

pub in_decls-loop-decl-preserved : goal.in_decls-loop-decl-preserved
in_decls-loop-decl-preserved t c =
    first_more broken_decl c.args.decls.now c.loop-decl.decl-index c.decl-item.result c.loop-decl.first c.in_decl.result c.sooner-first.result
    c.loop-decl-test.true c.decl-item.is c.loop-decl.invariant c.in_decl.ensures c.sooner-first.ensures

pub in_decls-returns : goal.in_decls-returns
in_decls-returns t c = first_all broken_decl c.args.decls.now c.loop-decl.decl-index c.loop-decl.first c.loop-decl-test.false c.loop-decl.invariant
