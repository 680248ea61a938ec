use Rattle.std.proofs.Common.{drop, length, ap, sym, subst, ◌∙◌}
use Rattle.sl_token.specs.Spellings.{piece_of}
use Rattle.sl_token.specs.Cut.{LiesWithin, IsLongestIfSpelled}
use Rattle.sl_token.proofs.Within.{lies_within}
use Rattle.sl_token.proofs.Longest.{longest_if_spelled}
use Rattle.sl_token.proofs.cutting.piece_at.Goals as goal

pub returns-clause-within : goal.returns-clause-within
returns-clause-within c =
    let bytes = c.args.bytes.now in
    let is = c.piece_of.ensures ∙ ap piece_of c.behind.ensures in
    subst (LiesWithin (length bytes) c.args.at) (sym is) (lies_within bytes c.args.at c.requires)

pub returns-clause-longest : goal.returns-clause-longest
returns-clause-longest c =
    let rest = drop c.args.at c.args.bytes.now in
    subst (IsLongestIfSpelled rest) (sym (c.piece_of.ensures ∙ ap piece_of c.behind.ensures)) (longest_if_spelled rest)
