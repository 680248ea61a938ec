use Rattle.std.proofs.Common.{not, ap, ◌∙◌}
use Rattle.std.specs.List.{list_any}
use Rattle.c_rules.specs.Protos.{is_number_of}
use Rattle.c_rules.proofs.Found.{alike_found}
use Rattle.c_rules.proofs.protos.lacks_function.Goals as goal

pub returns : goal.returns
returns c =
    let functions = c.args.functions.now in
    let proto = c.args.proto.now in
    ap not (c.has_function.ensures
    ∙ (ap (list_any (λ number. is_number_of functions proto number)) c.numbers_named.ensures
    ∙ alike_found functions c.args.numbers.now c.requires proto))
