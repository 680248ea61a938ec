use Rattle.std.proofs.Common.{None, Some}
use Rattle.std.proofs.lemmas.Bool.Decides.{Decides-eqb}
use Rattle.std.proofs.lemmas.Slice.Eq.{strip_prefix_is, strip_suffix_is}
use Rattle.sl_plain.proofs.Between.{between_other, between_rest}
use Rattle.sl_plain.proofs.reading.names.between.Goals as goal

pub returns-in_err-strip_prefix : goal.returns-in_err-strip_prefix
returns-in_err-strip_prefix c =
    rw c.from_residual.ensures
    (between_other c.args.front.now c.args.end.now c.args.bytes.now (strip_prefix_is Decides-eqb c.args.bytes.now c.args.front.now None c.in_err-strip_prefix.ensures.cases))

pub returns : goal.returns
returns c =
    let rest = c.in_ok-strip_prefix.field-0 in
    between_rest c.args.front.now c.args.end.now c.args.bytes.now rest.now c.strip_suffix.result
    (strip_prefix_is Decides-eqb c.args.bytes.now c.args.front.now (Some rest) c.in_ok-strip_prefix.ensures.cases)
    (strip_suffix_is Decides-eqb rest.now c.args.end.now c.strip_suffix.result c.strip_suffix.ensures.cases)
