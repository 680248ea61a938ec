use Rattle.std.proofs.Common.{rules}
use Rattle.sl_plain.specs.Names.{is_reserved}
use Rattle.sl_plain.proofs.reading.names.is_reserved.Goals as goal

pub returns : goal.returns
unfolding is_reserved
returns c = search rules
