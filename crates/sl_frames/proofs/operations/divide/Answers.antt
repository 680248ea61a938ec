use Rattle.std.proofs.Common.{ap, codes}
use Rattle.c_tree.specs.declared.tree.CBinary.TheVariants.{Div}
use Rattle.c_tree.specs.declared.tree.CExpr.TheVariants.{Binary}
use Rattle.sl_frames.specs.Translated.{halt_at_zero, where_it_fits}
use Rattle.sl_frames.proofs.Added.{on_ok, adds_then}
use Rattle.sl_frames.proofs.operations.divide.Goals as goal

pub returns : goal.returns
returns c =
    on_ok c.where_it_fits.result
    (adds_then c.args.body.now c.halt_at_zero.new.body c.where_it_fits.new.body
    (halt_at_zero c.in_ok-divisor.divisor 4 c.args.operation.now.file c.args.operation.now.line)
    (halt_at_zero c.args.operation.now.right 4 c.args.operation.now.file c.args.operation.now.line)
    (where_it_fits c.args.operation.now.target (codes "sl_quotient_fits") c.args.operation.now.left c.args.operation.now.right c.args.operation.now.file c.args.operation.now.line (Binary Div c.args.operation.now.left c.args.operation.now.right))
    (ap (λ e. halt_at_zero e 4 c.args.operation.now.file c.args.operation.now.line) c.in_ok-divisor.ensures) c.in_ok-halt_at_zero.ensures)
    c.where_it_fits.ensures
