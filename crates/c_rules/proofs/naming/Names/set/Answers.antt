use Rattle.std.proofs.Common.{string_bytes}
use Rattle.std.proofs.lemmas.Map.Text.{btree_map_updates_text}
use Rattle.c_rules.proofs.naming.Names.set.Goals as goal

pub returns : goal.returns
returns g c =
    let sets = btree_map_updates_text (string_bytes c.in_ok-key.key) c.args.self.now.items c.insert.new.self _ c.in_ok-insert.ensures.updates
    in λ other. rw c.in_ok-key.ensures.ok at (sets other)
