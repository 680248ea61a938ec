use Rattle.std.proofs.Common.{sym}
use Rattle.sl_parse_expr.proofs.Building.{is_named, no_name}
use Rattle.sl_parse_expr.proofs.build.is_name_expr.Goals as goal

pub returns-in-Name : goal.returns-in-Name
returns-in-Name c = sym (is_named c.args.of.now c.in-Name.field-0 c.in-Name.is)

pub returns-in_default : goal.returns-in_default
returns-in_default c = sym (no_name c.args.of.now c.in_default.not-Name)
