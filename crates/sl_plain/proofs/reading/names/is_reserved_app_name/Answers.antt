use Rattle.std.proofs.Common.{rules}
use Rattle.sl_plain.specs.Names.{is_reserved_app_name}
use Rattle.sl_plain.proofs.reading.names.is_reserved_app_name.Goals as goal

pub returns : goal.returns
unfolding is_reserved_app_name
returns c = search rules
