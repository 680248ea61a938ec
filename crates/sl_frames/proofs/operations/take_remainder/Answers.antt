use Rattle.std.proofs.Common.{[], ◌∷◌, ap, codes}
use Rattle.sl_frames.specs.Translated.{halt_at_zero, call_helper}
use Rattle.sl_frames.proofs.Added.{on_ok, adds_then}
use Rattle.sl_frames.proofs.operations.take_remainder.Goals as goal

pub returns : goal.returns
returns c =
    on_ok c.call_helper.result
    (adds_then c.args.body.now c.halt_at_zero.new.body c.call_helper.new.body
    (halt_at_zero c.in_ok-divisor.divisor 4 c.args.operation.now.file c.args.operation.now.line)
    (halt_at_zero c.args.operation.now.right 4 c.args.operation.now.file c.args.operation.now.line)
    (call_helper c.args.operation.now.target (codes "sl_remainder") c.args.operation.now.left c.args.operation.now.right ∷ [])
    (ap (λ e. halt_at_zero e 4 c.args.operation.now.file c.args.operation.now.line) c.in_ok-divisor.ensures) c.in_ok-halt_at_zero.ensures)
    c.call_helper.ensures
