use Rattle.std.proofs.Common.{List, ℕ, [], ◌∷◌, ◌++◌, ap, ◌∙◌}
use Rattle.c_rules.specs.Naming.{numbers_named}
use Rattle.c_rules.proofs.Counted.{numbers_more}
use Rattle.c_rules.proofs.numbers.add_number.Goals as goal

pub returns : goal.returns
returns c = λ earlier counted are.
    numbers_more earlier c.args.function.now c.args.numbers.now c.taken-same.new.numbers c.set.new.self c.push.new.self c.args.number counted are
    (c.in_ok-push.ensures.items ∙ ap (λ (some : List ℕ). some ++ c.args.number ∷ []) (c.taken-same.ensures.items ∙ ap (numbers_named c.args.numbers.now) c.as_str-name.ensures))
    (rw c.as_str-name.ensures at c.taken-same.ensures.others)
    (rw c.as_str-name.ensures at c.in_ok-set.ensures)
