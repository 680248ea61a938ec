use Rattle.std.proofs.Common.{sym, ap, ◌∙◌}
use Rattle.std.specs.Option.{is_some}
use Rattle.c_rules.specs.Naming.{item_named}
use Rattle.c_rules.proofs.Declared.{kinds_keep, kinds_more}
use Rattle.c_rules.proofs.kinds.add_kind.Goals as goal

pub returns-then-has : goal.returns-then-has
returns-then-has c = λ earlier are.
    kinds_keep earlier c.args.var.now c.args.kinds.now are
    (ap (λ name. is_some (item_named c.args.kinds.now name)) (sym c.as_str.ensures) ∙ (sym c.has.ensures ∙ c.if-has.true))

pub returns : goal.returns
returns c = λ earlier are.
    kinds_more earlier c.args.var.now c.args.kinds.now c.set.new.self c.copied.result c.copied.ensures are
    (ap (λ name. is_some (item_named c.args.kinds.now name)) (sym c.as_str.ensures) ∙ (sym c.has.ensures ∙ c.if-has.false))
    (rw c.as_str-2.ensures at c.in_ok-set.ensures)
