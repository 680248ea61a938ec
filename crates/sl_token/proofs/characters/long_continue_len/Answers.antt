use Rattle.std.proofs.Common.{◌≤◌, length, sym, subst}
use Rattle.sl_token.proofs.Sizes.{size_bounds}
use Rattle.sl_token.proofs.characters.long_continue_len.Goals as goal

pub returns-in-Some-default-clause-within : goal.returns-in-Some-default-clause-within
returns-in-Some-default-clause-within c =
    let bytes = c.args.bytes.now in
    subst (λ size. size ≤ length bytes) (sym c.decode.ensures.size) (size_bounds bytes).1
