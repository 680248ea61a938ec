use Rattle.std.proofs.Common.{ℕ, Bool, sym, ap, ap₂, ◌∙◌}
use Rattle.std.specs.Option.{is_some}
use Rattle.c_machine.specs.declared.scopes.Variable.{Variable}
use Rattle.c_rules.specs.Naming.{item_named}
use Rattle.c_machine.proofs.Numbering.{vars_keep, vars_more}
use Rattle.c_machine.proofs.variables.add_var.Goals as goal

pub returns-then-has : goal.returns-then-has
returns-then-has c = λ earlier counted are.
    vars_keep earlier c.args.var.now c.args.names.now are
    (ap (λ name. is_some (item_named c.args.names.now name)) (sym c.as_str.ensures) ∙ (sym c.has.ensures ∙ c.if-has.true))

pub returns : goal.returns
returns c = λ earlier counted are.
    let item : ℕ → Bool → Variable = λ number signed. record { number = number; signed = signed }
    in vars_more earlier c.args.var.now c.args.names.now c.set.new.self (item c.args.number c.is_signed-signed.result) (ap₂ item (sym counted) c.is_signed-signed.ensures) are
    (ap (λ name. is_some (item_named c.args.names.now name)) (sym c.as_str.ensures) ∙ (sym c.has.ensures ∙ c.if-has.false))
    (rw c.as_str-2.ensures at c.in_ok-set.ensures)
