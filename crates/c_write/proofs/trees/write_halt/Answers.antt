use Rattle.std.proofs.Common.{◌∙◌}
use Rattle.c_tree.proofs.Variants.{flat_of_halt}
use Rattle.c_write.proofs.trees.write_halt.Goals as goal

pub returns : goal.returns
returns c =
    let kind = c.as_bytes.ensures.value ∙ c.in_ok-kind.ensures.ok in
    let file = c.as_bytes-2.ensures.value ∙ c.in_ok-file.ensures.ok in
    let line = c.as_bytes-3.ensures.value ∙ c.in_ok-line.ensures.ok
    in rw (flat_of_halt c.args.kind c.args.file c.args.line, ← kind, ← file, ← line) c.tokens.ensures
