use Rattle.std.proofs.Common.{sym, ap, ◌∙◌}
use Rattle.sl_tool.proofs.source.read_program.Goals as goal
