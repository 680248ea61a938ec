use Rattle.std.proofs.Common.{sym, ap, ◌∙◌}
use Rattle.sl_plain.specs.Reading.{name_in, called_on, form_of}
use Rattle.sl_plain.proofs.Calls.{called_none, called_one, called_more}
use Rattle.sl_plain.proofs.ExpressionForms.{name_form, prefix_form}
use Rattle.sl_plain.proofs.reading.expressions.+form.Goals as goal

pub applied-returns-in-empty : goal.applied-returns-in-empty
applied-returns-in-empty t c = c.called_bare.ensures ∙ sym (called_none (form_of c.args.feeds.now) c.args.operand c.args.arguments.now c.in-empty.len_below)

pub applied-returns-in_ok-argument-in-len1 : goal.applied-returns-in_ok-argument-in-len1
applied-returns-in_ok-argument-in-len1 t c =
    c.called_on.ensures
    ∙ ap (λ name. called_on name c.in_ok-argument-in-len1.argument) c.name_in-name.ensures
    ∙ ap (called_on (name_in c.args.operand)) (c.in_ok-argument-in-len1.ensures ∙ ap (form_of c.args.feeds.now) c.argument-item.is)
    ∙ sym (called_one (form_of c.args.feeds.now) c.args.operand c.args.arguments.now c.argument-item.result c.in-len1.len_at_least c.in-len1.len_below)

pub applied-returns-in_default : goal.applied-returns-in_default
applied-returns-in_default t c = sym (called_more (form_of c.args.feeds.now) c.args.operand c.args.arguments.now c.in_default.len_at_least)

pub form_of-returns-in_ok-form-in-Name : goal.form_of-returns-in_ok-form-in-Name
form_of-returns-in_ok-form-in-Name t c = c.in_ok-form-in-Name.ensures ∙ sym (name_form c.args.feeds.now c.args.expr.now c.in-Name.name c.in-Name.is)

pub form_of-returns-in-Prefix : goal.form_of-returns-in-Prefix
form_of-returns-in-Prefix t c = sym (prefix_form c.args.feeds.now c.args.expr.now c.in-Prefix.field-0 c.in-Prefix.field-1 c.in-Prefix.is)
