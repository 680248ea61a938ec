use Rattle.std.proofs.Common.{◌++◌, take, subst}
use Rattle.c_rules.specs.Naming.{AreKinds}
use Rattle.c_rules.proofs.Keeping.{appended}
use Rattle.c_rules.proofs.kinds.add_kinds.Goals as goal

pub loop-var-preserved : goal.loop-var-preserved
loop-var-preserved c = λ earlier are.
    let vars = c.args.vars.now in
    let i = c.loop-var.var-index in
    let x = c.var-item.result
    in subst (λ vars. AreKinds vars c.add_kind.new.kinds) (appended earlier vars i x x c.loop-var-test.true c.var-item.is)
    (c.in_ok-add_kind.ensures (earlier ++ take i vars) (c.loop-var.invariant earlier are))
