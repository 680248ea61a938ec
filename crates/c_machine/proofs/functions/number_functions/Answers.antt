use Rattle.std.proofs.Common.{[], take, refl, subst, arith}
use Rattle.c_machine.specs.Resolved.{AreNumbers}
use Rattle.c_rules.proofs.Keeping.{appended, reached}
use Rattle.c_machine.proofs.functions.number_functions.Goals as goal

pub loop-function-preserved : goal.loop-function-preserved
loop-function-preserved c =
    let functions = c.args.functions.now in
    let i = c.loop-function.function-index in
    let x = c.function-item.result in
    let counted = reached [] functions 0 i refl c.loop-function-test.true
    in record {
      counted = omega (arith, c.in_ok-number.ensures, c.loop-function.invariant.counted);
      named =
          subst (λ some. AreNumbers some c.add_number.new.names) (appended [] functions i x x c.loop-function-test.true c.function-item.is)
          (c.in_ok-add_number.ensures (take i functions) (omega (arith, counted, c.loop-function.invariant.counted)) c.loop-function.invariant.named);
    }
