use Rattle.std.proofs.Common.{refl, sym, ◌∙◌}
use Rattle.sl_num.proofs.Reading.{stored}
use Rattle.sl_plain.proofs.Numbers.{number_none, number_read, converted}
use Rattle.sl_plain.proofs.reading.names.number_of.Goals as goal

pub returns-in_err-read_decimal : goal.returns-in_err-read_decimal
returns-in_err-read_decimal c = c.from_residual.ensures ∙ sym (number_none c.args.bytes.now c.in_err-read_decimal.ensures)

pub returns : goal.returns
returns c =
    let bytes = c.args.bytes.now in
    let number = c.in_ok-read_decimal.field-0 in
    let is = c.in_ok-read_decimal.ensures in
    c.ok.ensures.value ∙ converted c.try_from.result number _ (stored bytes number number is refl) c.try_from.ensures ∙ sym (number_read bytes number is)
