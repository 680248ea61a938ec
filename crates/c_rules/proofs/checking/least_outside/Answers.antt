use Rattle.std.proofs.Common.{false, ap, ◌∙◌, subst, sym}
use Rattle.std.proofs.lemmas.Bool.{iff_false, false≢true}
use Rattle.c_tree.specs.Rules.{BreaksOutside}
use Rattle.c_rules.specs.Least.{told, least, IsLeast}
use Rattle.c_rules.proofs.Outside.{names_least, outside_least}
use Rattle.c_rules.proofs.checking.least_outside.Goals as goal

pub returns-then-branch : goal.returns-then-branch
returns-then-branch c = names_least c.args.file.now (c.in_ok-breaks_names.ensures.0 c.if-branch.true)

pub returns : goal.returns
returns c =
    let file = c.args.file.now in
    let sizes = c.breaks_sizes-sizes.result in
    let whole = c.least.ensures ∙ (ap (λ left. least left c.told-2.result) c.told.ensures ∙ ap (least (told 13 sizes)) c.told-2.ensures) in
    subst (IsLeast (BreaksOutside file)) (sym whole)
    (outside_least file false sizes c.breaks_prototypes-protos.result
    (λ never. absurd (false≢true never), λ clash. absurd (iff_false c.in_ok-breaks_names.ensures c.if-branch.false clash))
    c.breaks_sizes-sizes.ensures c.breaks_prototypes-protos.ensures)
