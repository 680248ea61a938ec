use Rattle.std.proofs.Common.{sym, ap, ◌∙◌}
use Rattle.std.specs.Str.{bytes_eq}
use Rattle.sl_outside.proofs.Listed.{stores_at}
use Rattle.sl_outside.proofs.memory.folder.place_of.Goals as goal

pub returns-then-eq-clause-present : goal.returns-then-eq-clause-present
returns-then-eq-clause-present c =
    stores_at c.args.entries.now c.args.name.now c.loop-at.at c.index-entries-at.result c.loop-at-test.true c.index-entries-at.is
    (ap (λ known. bytes_eq known c.args.name.now) (sym c.as_str.ensures) ∙ (sym c.eq.ensures ∙ c.if-eq.true))
    c.loop-at.invariant
