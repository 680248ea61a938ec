use Rattle.std.proofs.Common.{ap, ◌∙◌}
use Rattle.std.specs.Option.{is_some}
use Rattle.c_rules.specs.Naming.{item_named}
use Rattle.c_rules.proofs.bodies.stands_earlier.Goals as goal

pub returns : goal.returns
returns c =
    c.has.ensures
    ∙ (ap (λ name. is_some (item_named c.args.around.now.names.now name)) c.as_str.ensures
    ∙ c.requires.names.named c.args.name.now)
