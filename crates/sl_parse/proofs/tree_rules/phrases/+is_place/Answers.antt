use Rattle.std.proofs.Common.{sym, ap, ◌∙◌}
use Rattle.std.proofs.lemmas.Bool.{ne_eqb}
use Rattle.sl_parse.specs.TreeRules.{seen_expr}
use Rattle.sl_parse.proofs.PhraseFaults.{apply_one, apply_more}
use Rattle.sl_parse.proofs.tree_rules.phrases.+is_place.Goals as goal

pub returns-then-len-eq1 : goal.returns-then-len-eq1
returns-then-len-eq1 t c =
    c.is_place-then-len-eq1.ensures ∙ (ap (λ z. (seen_expr z).place) c.get-then-len-eq1.ensures
    ∙ sym (apply_one c.args.e.now c.in-Apply.operand c.in-Apply.arguments c.in-Apply.is (sym c.len.ensures ∙ c.if-len-eq1.true)))

pub returns-else-len-eq1 : goal.returns-else-len-eq1
returns-else-len-eq1 t c =
    ne_eqb c.len.result 1 c.if-len-eq1.false
    ∙ sym (apply_more c.args.e.now c.in-Apply.operand c.in-Apply.arguments c.in-Apply.is (λ e. c.if-len-eq1.false (c.len.ensures ∙ e)))
