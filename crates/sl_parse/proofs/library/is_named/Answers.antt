use Rattle.std.proofs.Common.{sym, ◌∙◌, ap}
use Rattle.std.specs.Prelude.{bytes_eq}
use Rattle.sl_tree.specs.Sorts.{spelled}
use Rattle.sl_parse.proofs.AtTokens.{named_is}
use Rattle.sl_parse.proofs.library.is_named.Goals as goal

pub returns-then-is_name : goal.returns-then-is_name
unfolding spelled
returns-then-is_name c =
    named_is (spelled c.args.bytes.now c.args.token) c.args.wanted.now c.eq.result (rw (← c.sort.ensures) (sym c.is_name.ensures ∙ c.if-is_name.true)) (c.eq.ensures ∙ ap (λ w. bytes_eq w c.args.wanted.now) c.within.ensures)
