use Rattle.std.proofs.Common.{◌≤◌, sym, subst}
use Rattle.sl_token.proofs.Sizes.{size_bounds}
use Rattle.sl_token.proofs.characters.char_len.Goals as goal

pub returns-in-Some-default-clause-most : goal.returns-in-Some-default-clause-most
returns-in-Some-default-clause-most c = subst (λ size. size ≤ 4) (sym c.decode.ensures.size) (size_bounds c.args.bytes.now).0
