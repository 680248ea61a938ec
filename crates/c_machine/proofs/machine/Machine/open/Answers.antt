use Rattle.std.proofs.Common.{subst}
use Rattle.c_machine.specs.Resolved.{MeansFile}
use Rattle.c_tree.specs.declared.tree.CFile.{CFile}
use Rattle.c_machine.proofs.Beginning.{opened_files}
use Rattle.c_machine.proofs.machine.Machine.open.Goals as goal

pub returns : goal.returns
returns c =
    opened_files c.begin.result c.args.file.file c.in_ok-program.program c.args.turns
    (subst (λ (file : CFile). MeansFile file c.in_ok-program.program) c.file.ensures (c.in_ok-program.ensures {u = tt})) c.begin.ensures
