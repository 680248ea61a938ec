use Rattle.std.proofs.lemmas.Map.Text.{btree_map_updates_str}
use Rattle.sl_plain.specs.declared.checking.scopes.Entry.{Entry}
use Rattle.sl_plain.proofs.Checked.Entries.{declared_indexed}
use Rattle.sl_plain.proofs.checking.scopes.Scope.declare.Goals as goal

pub returns-clause-indexed : goal.returns-clause-indexed
returns-clause-indexed c =
    let entry : Entry = record { name = c.args.name; variable = c.args.variable; hidden = c.in_ok-hidden.hidden } in
    declared_indexed c.args.self.now (record { entries = c.push.new.self; known = c.insert.new.self }) entry c.requires c.in_ok-push.ensures.items c.in_ok-hidden.ensures.old
    (btree_map_updates_str c.args.name.now c.args.self.now.known c.insert.new.self _ c.in_ok-hidden.ensures.updates)
