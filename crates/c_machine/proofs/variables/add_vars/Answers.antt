use Rattle.std.proofs.Common.{◌++◌, take, subst, arith}
use Rattle.c_machine.specs.Naming.{AreVars}
use Rattle.c_rules.proofs.Keeping.{appended, reached}
use Rattle.c_machine.proofs.variables.add_vars.Goals as goal

pub loop-var-preserved : goal.loop-var-preserved
loop-var-preserved c = record {
  counted = omega (arith, c.in_ok-number.ensures, c.loop-var.invariant.counted);
  named = λ earlier start are.
      let vars = c.args.vars.now in
      let i = c.loop-var.var-index in
      let x = c.var-item.result in
      let counted = reached earlier vars c.args.first i start c.loop-var-test.true
      in subst (λ vars. AreVars vars c.add_var.new.names) (appended earlier vars i x x c.loop-var-test.true c.var-item.is)
      (c.in_ok-add_var.ensures (earlier ++ take i vars) (omega (arith, counted, c.loop-var.invariant.counted)) (c.loop-var.invariant.named earlier start are));
}
