use Rattle.std.proofs.Common.{◌≡◌, ◌++◌, ◌∷◌, [], Some, None, rules, ap, sym, ◌∙◌, bytes_eq}
use Rattle.std.specs.Map.{update}
use Rattle.std.proofs.lemmas.Map.Text.{btree_map_updates_str}
use Rattle.sl_plain.proofs.Checked.Entries.{left_indexed}
use Rattle.sl_plain.proofs.Checked.Seen.{found_in}
use Rattle.sl_plain.proofs.checking.scopes.Scope.leave_last.Goals as goal

pub returns-in_ok-insert-in-Some-hidden-clause-indexed : goal.returns-in_ok-insert-in-Some-hidden-clause-indexed
returns-in_ok-insert-in-Some-hidden-clause-indexed c =
    let entry = c.in-Some.field-0 in
    let known = c.args.self.now.known in
    let more : c.args.self.now.entries.items ≡ c.pop.new.self.items ++ entry ∷ [] = search rules in
    let hidden : entry.hidden ≡ Some c.in-Some-hidden.variable = search rules
    in left_indexed c.args.self.now (record { entries = c.pop.new.self; known = c.insert.new.self }) entry c.requires more
    (λ q. btree_map_updates_str entry.name.now known c.insert.new.self _ c.in_ok-insert-in-Some-hidden.ensures.updates q ∙ ap (λ w. update bytes_eq (found_in known) entry.name.now w q) (sym hidden))

pub returns-in-None-clause-indexed : goal.returns-in-None-clause-indexed
returns-in-None-clause-indexed c =
    let entry = c.in-Some.field-0 in
    let known = c.args.self.now.known in
    let more : c.args.self.now.entries.items ≡ c.pop.new.self.items ++ entry ∷ [] = search rules in
    let hidden : entry.hidden ≡ None = search rules
    in left_indexed c.args.self.now (record { entries = c.pop.new.self; known = c.remove.new.self }) entry c.requires more
    (λ q. btree_map_updates_str entry.name.now known c.remove.new.self _ c.remove.ensures.updates q ∙ ap (λ w. update bytes_eq (found_in known) entry.name.now w q) (sym hidden))
