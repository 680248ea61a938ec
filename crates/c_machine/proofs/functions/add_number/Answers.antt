use Rattle.std.proofs.Common.{sym, ap, ◌∙◌}
use Rattle.std.specs.Option.{is_some}
use Rattle.c_rules.specs.Naming.{item_named}
use Rattle.c_machine.proofs.Numbering.{numbers_skip, numbers_keep, numbers_more}
use Rattle.c_machine.proofs.functions.add_number.Goals as goal

pub returns-then-function : goal.returns-then-function
returns-then-function c = λ earlier counted are. numbers_skip earlier c.args.function.now c.args.names.now are c.if-function.true

pub returns-then-has : goal.returns-then-has
returns-then-has c = λ earlier counted are.
    numbers_keep earlier c.args.function.now c.args.names.now are c.if-function.false
    (ap (λ name. is_some (item_named c.args.names.now name)) (sym c.as_str.ensures) ∙ (sym c.has.ensures ∙ c.if-has.true))

pub returns : goal.returns
returns c = λ earlier counted are.
    numbers_more earlier c.args.function.now c.args.names.now c.set.new.self c.args.number (sym counted) are c.if-function.false
    (ap (λ name. is_some (item_named c.args.names.now name)) (sym c.as_str.ensures) ∙ (sym c.has.ensures ∙ c.if-has.false))
    (rw c.as_str-2.ensures at c.in_ok-set.ensures)
