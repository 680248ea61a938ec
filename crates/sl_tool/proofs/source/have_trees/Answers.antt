use Rattle.std.proofs.Common.{◌++◌, ◌∷◌, [], take, drop, suc, sym, subst}
use Rattle.sl_tool.specs.SourceFiles.{HaveTrees}
use Rattle.sl_tool.specs.Parts.{GivesNone, source_seen, sources_seen}
use Rattle.sl_tool.proofs.Trees.{none_given, trees_more, stopped_trees, sources_cut, sources_up_to}
use Rattle.sl_tool.proofs.source.have_trees.Goals as goal

-- a source has no tree
pub returns-in_err-_tree : goal.returns-in_err-_tree
returns-in_err-_tree c =
    let sources = c.args.sources.now in
    let i = c.loop-source.source-index in
    let source = c.source-item.result in
    let why = c.in_err-_tree.field-0.0 in
    stopped_trees (sources_seen sources) why c.from_residual.result c.from_residual.ensures.1
    (subst (λ all. GivesNone all why) (sym (sources_cut sources i source c.loop-source-test.true c.source-item.is))
    (none_given (sources_seen (take i sources)) (sources_seen (drop (suc i) sources)) c.loop-source.invariant.0 (source_seen source) why c.loop-source.invariant.1 c.in_err-_tree.ensures))

-- one more tree
pub loop-source-preserved : goal.loop-source-preserved
loop-source-preserved c =
    let sources = c.args.sources.now in
    let i = c.loop-source.source-index in
    let source = c.source-item.result in
    let tree = c.in_ok-_tree._tree in
    let trees = c.loop-source.invariant.0 ++ tree ∷ [] in (
      trees,
      subst (λ all. HaveTrees all trees) (sym (sources_up_to sources i source c.loop-source-test.true c.source-item.is))
          (trees_more (sources_seen (take i sources)) c.loop-source.invariant.0 (source_seen source) tree c.loop-source.invariant.1 c.in_ok-_tree.ensures),
    )
