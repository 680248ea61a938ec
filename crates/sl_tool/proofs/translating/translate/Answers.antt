use Rattle.sl_tool.proofs.Meant.{tree_value, tree_means, core_has_one_type}
use Rattle.sl_tool.proofs.translating.translate.Goals as goal

-- the core is sound, and has one type
pub to_c-requires-clause-sound : goal.to_c-requires-clause-sound
to_c-requires-clause-sound c = c.in_ok-core.ensures.sound c.requires

pub to_c-requires-clause-one_type : goal.to_c-requires-clause-one_type
to_c-requires-clause-one_type c = core_has_one_type c.args.program.now c.in_ok-core.core c.in_ok-core.ensures.value

pub returns-clause-value : goal.returns-clause-value
returns-clause-value c = tree_value c.args.program.now c.in_ok-core.core c.to_c.result c.in_ok-core.ensures.value c.to_c.ensures.value

pub returns-clause-means : goal.returns-clause-means
returns-clause-means c =
    tree_means c.args.program.now c.in_ok-core.core c.to_c.result c.in_ok-core.ensures.value
    (c.in_ok-core.ensures.sound c.requires) (c.in_ok-core.ensures.means c.requires) c.to_c.ensures.translates
