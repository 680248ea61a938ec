use Rattle.std.proofs.Common.{Some, true, false, sym, ap, ◌∙◌}
use Rattle.sl_parse.proofs.PhraseFaults.{call_idle}
use Rattle.sl_parse.proofs.tree_rules.phrases.idle.Goals as goal

pub returns-then-is_call : goal.returns-then-is_call
returns-then-is_call c = sym (call_idle c.args.stmt.now c.in-Call.value true c.in-Call.is (sym c.is_call.ensures ∙ c.if-is_call.true))

pub returns-else-is_call : goal.returns-else-is_call
returns-else-is_call c = ap Some c.at.ensures ∙ sym (call_idle c.args.stmt.now c.in-Call.value false c.in-Call.is (sym c.is_call.ensures ∙ c.if-is_call.false))
