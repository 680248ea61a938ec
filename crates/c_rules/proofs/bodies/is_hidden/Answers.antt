use Rattle.std.proofs.Common.{ap, ◌∙◌}
use Rattle.std.specs.Option.{is_some}
use Rattle.c_rules.specs.Naming.{item_named}
use Rattle.c_rules.proofs.Declared.{local_there}
use Rattle.c_rules.proofs.bodies.is_hidden.Goals as goal

pub returns : goal.returns
returns c =
    let function = c.args.around.now.function.now in
    c.has.ensures
    ∙ (ap (λ name. is_some (item_named c.args.around.now.locals.now name)) c.as_str.ensures
    ∙ (ap is_some (c.requires.locals c.args.name.now) ∙ local_there function.params function.vars c.args.name.now))
