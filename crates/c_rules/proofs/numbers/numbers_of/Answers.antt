use Rattle.std.proofs.Common.{[], refl, subst, take, arith}
use Rattle.std.proofs.lemmas.List.{take_all}
use Rattle.c_rules.specs.Naming.{AreNumbered}
use Rattle.c_rules.proofs.Keeping.{appended, reached}
use Rattle.c_rules.proofs.Counted.{numbers_none}
use Rattle.c_rules.proofs.numbers.numbers_of.Goals as goal

pub loop-number-init : goal.loop-number-init
loop-number-init c = numbers_none c.new-numbers.result c.new-numbers.ensures

pub loop-number-preserved : goal.loop-number-preserved
loop-number-preserved c =
    let functions = c.args.functions.now in
    let i = c.loop-number.number in
    let x = c.index-functions-number.result in
    let counted = reached [] functions 0 i refl c.loop-number-test.true
    in subst (λ some. AreNumbered some c.add_number.new.numbers) (appended [] functions i x x c.loop-number-test.true c.index-functions-number.is)
    (c.in_ok-add_number.ensures (take i functions) (omega (arith, counted)) c.loop-number.invariant)

pub returns : goal.returns
returns c = subst (λ some. AreNumbered some c.loop-number.numbers) (take_all c.loop-number.number c.args.functions.now c.loop-number-test.false) c.loop-number.invariant
