use Rattle.std.proofs.Common.{sym, ap, ◌∙◌, Some, None}
use Rattle.sl_plain.specs.Numbering.{variable_named}
use Rattle.sl_plain.proofs.Numbered.{kind_named}
use Rattle.sl_plain.proofs.lowering.statements.kind_of_atom.Goals as goal

pub returns-in-Some : goal.returns-in-Some
returns-in-Some c = λ names numbered.
    rw c.in-Name.is (kind_named names c.args.variables.now c.in-Name.name (Some c.in-Some.variable) numbered (sym c.in-Some.is ∙ (c.get.ensures ∙ ap (λ name. variable_named c.args.variables.now name) c.as_slice.ensures)))

pub returns-in-None : goal.returns-in-None
returns-in-None c = λ names numbered.
    rw c.in-Name.is (kind_named names c.args.variables.now c.in-Name.name None numbered (sym c.in-None.is ∙ (c.get.ensures ∙ ap (λ name. variable_named c.args.variables.now name) c.as_slice.ensures)))
