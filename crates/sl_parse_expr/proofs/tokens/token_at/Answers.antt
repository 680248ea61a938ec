use Rattle.std.proofs.Common.{map, ap}
use Rattle.std.proofs.Math.Seq.{drop-cons}
use Rattle.sl_tree.specs.Sorts.{spelled}
use Rattle.sl_parse_expr.specs.Told.{behind}
use Rattle.sl_parse_expr.proofs.tokens.token_at.Goals as goal

pub returns : goal.returns
unfolding behind
returns c = λ bytes. ap (map (spelled bytes)) (drop-cons c.args.tokens.now c.args.at _ c.requires)
