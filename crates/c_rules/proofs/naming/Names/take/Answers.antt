use Rattle.std.proofs.lemmas.Map.Text.{btree_map_updates_text}
use Rattle.c_rules.proofs.naming.Names.take.Goals as goal

pub returns-clause-others : goal.returns-clause-others
returns-clause-others g c = btree_map_updates_text c.args.name.now c.args.self.now.items c.remove.new.self _ c.remove.ensures.updates
