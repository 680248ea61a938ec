use Rattle.std.proofs.Common.{ap, ◌∙◌}
use Rattle.std.specs.List.{list_any}
use Rattle.c_rules.specs.Protos.{lacks_number}
use Rattle.c_rules.proofs.Found.{any_lacks_found}
use Rattle.c_rules.proofs.protos.any_lacks_proto.Goals as goal

pub returns : goal.returns
returns c =
    let file = c.args.file.now in
    c.any_lacks_number.ensures
    ∙ (ap (list_any (lacks_number c.args.protos.now)) c.as_slice.ensures
    ∙ any_lacks_found file.protos c.args.protos.now c.requires file.functions)
