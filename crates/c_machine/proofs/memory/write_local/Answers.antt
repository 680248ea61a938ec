use Rattle.std.proofs.Common.{◌≡◌, ℤ, List, Option, Some, slice_set, refl, ap, ◌∙◌, rules, length}
use Rattle.std.specs.Prelude.{vec_len}
use Rattle.std.specs.Int.{w128}
use Rattle.std.proofs.lemmas.Int.{to_z-of_z}
use Rattle.c_machine.specs.declared.program.Frame.{Frame}
use Rattle.c_machine.specs.State.{cells_of, with_cells}
use Rattle.c_machine.proofs.Lasts.{last_written}
use Rattle.c_machine.proofs.memory.write_local.Goals as goal

pub returns : goal.returns
returns c =
    let change : List (Option ℤ) → List (Option ℤ) = λ cells. slice_set cells c.args.at (Some c.args.number) in
    let sized : vec_len c.frames.inside.items ≡ length c.frames.inside.items.items = search rules in
    rw (c.write.ensures, to_z-of_z w128 c.args.number c.ranges.number)
    (last_written c.frames.inside.items.items c.in-Some.frame.now (vec_len c.frames.inside.items) change sized (c.in-Some.ensures.variant.0 refl) c.in-Some.ensures.value
    ∙ ap (λ (frames : List Frame). with_cells (change (cells_of frames)) frames) c.frames.view_is)
