use Rattle.std.proofs.Common.{◌≡◌, List, ℕ, map, take, bytes_eq, Bor}
use Rattle.std.specs.HashSet.{contains_by}
use Rattle.std.specs.List.{list_any}
use Rattle.c_rules.proofs.Clashes.{AreFine}
use Rattle.c_rules.proofs.names.names_clash.Given as goal

-- the names so far don't clash, and they are those that were seen
abbrev pub invariant-loop-name : goal.invariant-loop-name
invariant-loop-name l = record {
  seen : (asked : Bor (List ℕ)) → contains_by (λ k. bytes_eq asked.now k.now) l.seen ≡ list_any (bytes_eq asked.now) (map (λ name. name.now) (take l.name-index l.names));
  fine : AreFine (map (λ name. name.now) (take l.name-index l.names));
}
