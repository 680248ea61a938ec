use Rattle.sl_tool.proofs.Trees.{is_short}
use Rattle.sl_tool.proofs.accepting.read_tree.Goals as goal

-- what has tokens isn't too long
pub parse-requires : goal.parse-requires
parse-requires c = record { small = is_short c.args.bytes.now c.in_ok-tokens.ensures.ok.keeps }
