use Rattle.std.proofs.Common.{◌≡◌, true, arith, rules}
use Rattle.sl_plain.specs.Checking.{entries_of}
use Rattle.sl_plain.proofs.Checked.Scopes.{fit_keeps, left}
use Rattle.sl_plain.proofs.checking.statements.+scopes.Goals as goal

pub block_fits-leave-requires-clause-within : goal.block_fits-leave-requires-clause-within
block_fits-leave-requires-clause-within t c =
    let so : c.in_ok-fit.field-0 ≡ true = search rules in
    let keeps = fit_keeps c.args.block.now (entries_of c.args.scope.now) (entries_of c.fit.new.scope) c.in_ok-fit.field-0 c.in_ok-fit.ensures.fits so
    in omega (arith, keeps.long, c.len-len.ensures)

pub block_fits-returns-clause-kept : goal.block_fits-returns-clause-kept
block_fits-returns-clause-kept t c =
    let so : c.in_ok-fit.field-0 ≡ true = search rules in
    let keeps = fit_keeps c.args.block.now (entries_of c.args.scope.now) (entries_of c.fit.new.scope) c.in_ok-fit.field-0 c.in_ok-fit.ensures.fits so
    in λ fits. left (entries_of c.args.scope.now) (entries_of c.fit.new.scope) (entries_of c.leave.new.self) c.len-len.result keeps c.len-len.ensures c.in_ok-leave.ensures.rest
