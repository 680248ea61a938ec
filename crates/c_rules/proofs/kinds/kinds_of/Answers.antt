use Rattle.std.proofs.Common.{[]}
use Rattle.c_rules.proofs.kinds.kinds_of.Goals as goal

pub returns : goal.returns
returns c = c.in_ok-add_kinds.ensures [] c.new-kinds.ensures
