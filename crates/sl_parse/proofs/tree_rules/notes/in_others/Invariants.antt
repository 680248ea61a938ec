use Rattle.std.proofs.Common.{◌≡◌, take}
use Rattle.std.specs.List.{flat_map}
use Rattle.sl_parse.specs.TreeRules.{first_of, noted_again}
use Rattle.sl_parse.proofs.tree_rules.notes.in_others.Given as goal

-- the notes so far were looked at
abbrev pub invariant-loop-note : goal.invariant-loop-note
invariant-loop-note l = l.first ≡ first_of (flat_map noted_again (take l.note-index l.notes))
