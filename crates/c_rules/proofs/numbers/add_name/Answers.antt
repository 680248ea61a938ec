use Rattle.c_rules.proofs.Found.{earlier_more}
use Rattle.c_rules.proofs.numbers.add_name.Goals as goal

pub returns : goal.returns
returns c = λ earlier are.
    earlier_more earlier c.args.function.now c.args.names.now c.set.new.self c.is_inline_or-inline.result are c.is_inline_or-inline.ensures
    (rw c.as_str.ensures at c.in_ok-set.ensures)
