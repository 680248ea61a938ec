use Rattle.std.proofs.Common.{◌≡◌, take, count_by}
use Rattle.sl_parse.specs.TreeRules.{named}
use Rattle.sl_parse.proofs.tree_rules.forms.times.Given as goal

-- the pairs so far were counted
abbrev pub invariant-loop-pair : goal.invariant-loop-pair
invariant-loop-pair l = l.times ≡ count_by (named l.name) (take l.pair-index l.pairs)
