use Rattle.std.proofs.Common.{sym, ap, ◌∙◌}
use Rattle.sl_parse_expr.specs.Told.{head_sort}
use Rattle.sl_parse_expr.proofs.Behind.{behind_more, behind_end}
use Rattle.sl_parse.proofs.tokens.peek.Goals as goal

pub returns-in-None-clause-sort : goal.returns-in-None-clause-sort
returns-in-None-clause-sort c = sym (ap head_sort (behind_end c.args.bytes.now c.args.tokens.now c.args.at c.in-None.ensures.lookup.3))

pub returns-in-Some-clause-sort : goal.returns-in-Some-clause-sort
returns-in-Some-clause-sort c =
    let w = c.in-Some.ensures.lookup in
    c.sort.ensures ∙ sym (ap head_sort (behind_more c.args.bytes.now c.args.tokens.now c.args.at c.in-Some.token.now w.3.0 w.1))
