use Rattle.std.proofs.Common.{◌≡◌, ◌+◌, false, drop, arith, ap, sym, ◌∙◌, Some}
use Rattle.sl_token.specs.Spellings.{more, is_bad, bad_escape}
use Rattle.sl_token.proofs.Going.{more_more, bad_here, bad_later, bad_nowhere}
use Rattle.sl_token.proofs.escapes.bad_escape.Goals as goal

pub returns-then-is_bad-clause-at : goal.returns-then-is_bad-clause-at
returns-then-is_bad-clause-at c =
    let content = c.args.content.now in
    let at = c.loop-at.at in
    let so_far : bad_escape false content ≡ more at (bad_escape c.loop-at.escaped (drop at content)) = c.loop-at.invariant in
    let here = bad_here content at c.loop-at.escaped c.loop-at-test.true (ap (λ rest. is_bad rest c.loop-at.escaped) (sym c.behind.ensures) ∙ sym c.is_bad.ensures ∙ c.if-is_bad.true) in
    let same : at + 0 ≡ at = omega arith in
    sym (so_far ∙ ap (more at) here ∙ ap Some same)

pub loop-at-preserved : goal.loop-at-preserved
loop-at-preserved c =
    let content = c.args.content.now in
    let at = c.loop-at.at in
    let so_far : bad_escape false content ≡ more at (bad_escape c.loop-at.escaped (drop at content)) = c.loop-at.invariant in
    let later = bad_later content at c.loop-at.escaped c.loop-at-test.true (ap (λ rest. is_bad rest c.loop-at.escaped) (sym c.behind.ensures) ∙ sym c.is_bad.ensures ∙ c.if-is_bad.false) in
    let next = ap (λ escaped. more 1 (bad_escape escaped (drop (at + 1) content))) (sym c.escapes-escaped.ensures) in
    so_far ∙ ap (more at) (later ∙ next) ∙ more_more at _

pub returns-clause-at : goal.returns-clause-at
returns-clause-at c =
    let content = c.args.content.now in
    let at = c.loop-at.at in
    let so_far : bad_escape false content ≡ more at (bad_escape c.loop-at.escaped (drop at content)) = c.loop-at.invariant in
    sym (so_far ∙ ap (more at) (bad_nowhere content at c.loop-at.escaped c.loop-at-test.false))
