use Rattle.std.proofs.Common.{codes}
use Rattle.c_tree.specs.declared.tree.CBinary.TheVariants.{Sub}
use Rattle.c_helpers.specs.Functions.{constant}
use Rattle.sl_frames.proofs.Added.{on_ok, adds_same}
use Rattle.sl_frames.proofs.operations.subtract_from_zero.Goals as goal

pub returns : goal.returns
returns c =
    on_ok c.where_it_fits.result
    (adds_same c.args.body.now c.where_it_fits.new.body c.args.operation.now.target (codes "sl_difference_fits") Sub c.constant.result c.in_ok-copied.field-0 (constant 0) c.args.operation.now.left
    c.args.operation.now.file c.args.operation.now.line c.constant.ensures c.in_ok-copied.ensures)
    c.where_it_fits.ensures
