use Rattle.std.proofs.Common.{rules}
use Rattle.sl_token.specs.Spellings.{is_sign}
use Rattle.sl_token.proofs.words.is_sign.Goals as goal

pub returns : goal.returns
unfolding is_sign
returns c = search rules
