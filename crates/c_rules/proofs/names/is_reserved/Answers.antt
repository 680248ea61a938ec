use Rattle.c_rules.specs.Names.{is_reserved}
use Rattle.c_rules.proofs.names.is_reserved.Goals as goal

-- the array has the reserved words
pub returns : goal.returns
unfolding is_reserved
returns c = c.is_among.ensures
