use Rattle.std.proofs.Common.{[], refl, sym}
use Rattle.c_machine.proofs.variables.number_vars.Goals as goal

pub returns : goal.returns
returns c = c.in_ok-add_vars-2.ensures c.args.vars.now (sym c.in_ok-count.ensures) (c.in_ok-add_vars.ensures [] refl c.new-names.ensures)
