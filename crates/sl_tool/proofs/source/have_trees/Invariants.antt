-- The sources so far have trees.
use Rattle.std.proofs.Common.{List, take}
use Rattle.sl_tree.specs.declared.tree.File.{File}
use Rattle.sl_tool.specs.SourceFiles.{HaveTrees}
use Rattle.sl_tool.specs.Parts.{sources_seen}
use Rattle.sl_tool.proofs.source.have_trees.Given as goal

abbrev pub invariant-loop-source : goal.invariant-loop-source
invariant-loop-source l = (trees : List File) × HaveTrees (sources_seen (take l.source-index l.sources)) trees
