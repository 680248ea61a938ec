use Rattle.sl_tool.specs.SourceFiles.{only_file}
use Rattle.sl_tool.proofs.Trees.{starts_or_short}
use Rattle.sl_tool.proofs.source.tree_of.Goals as goal

-- a rule is broken at the start, or in a file that isn't too long
pub line_and_column-requires : goal.line_and_column-requires
line_and_column-requires c = starts_or_short only_file c.as_slice-bytes.result.now c.in-Err-Broken.broken (rw c.in-Err-Broken.field-0-is at c.in-Err-Broken.ensures)
