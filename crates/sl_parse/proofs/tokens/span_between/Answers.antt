use Rattle.std.proofs.Common.{◌∙◌}
use Rattle.sl_parse.proofs.AtTokens.{between_cover}
use Rattle.sl_parse.proofs.tokens.span_between.Goals as goal

pub returns : goal.returns
returns c bytes used e = c.join.ensures ∙ between_cover bytes c.args.tokens.now c.args.start c.args.next used _ _ c.requires.0 c.requires.1 e
