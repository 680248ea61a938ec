use Rattle.std.proofs.Common.{List, ℕ, not, length, ap, ◌∙◌}
use Rattle.std.specs.Prelude.{◌==◌}
use Rattle.c_rules.proofs.Found.{any_found}
use Rattle.c_rules.proofs.bodies.has_proto.Goals as goal

pub returns : goal.returns
returns c =
    let around = c.args.around.now in
    ap not (c.is_empty.ensures ∙ ap (λ (some : List ℕ). length some == 0) c.numbers_named.ensures)
    ∙ any_found around.file.now.protos around.protos.now c.requires.protos c.args.name.now
