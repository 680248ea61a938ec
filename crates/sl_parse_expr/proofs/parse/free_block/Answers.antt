use Rattle.sl_parse_expr.proofs.Answering.{went_done, went_stopped}
use Rattle.sl_parse_expr.proofs.parse.free_block.Goals as goal
use Rattle.sl_parse_expr.proofs.parse.free_block.Goals.{in-Ok, in-Err-At, in-Err-Mem}

pub returns : goal.returns
returns c =
    elim c.match-block.branch [
      | in-Ok w ↦ rw (w.result-is, ← c.up_to-seen.ensures) (went_done _ _ _ _ _ w.in-Ok.ensures.told w.in-Ok.ensures.lies.1)
      | in-Err-At w ↦ rw (w.result-is, ← c.up_to-seen.ensures) (went_stopped _ _ _ _ _ (rw w.in-Err-At.field-0-is at w.in-Err-At.ensures.told) w.min.ensures)
      | in-Err-Mem w ↦ rw (w.result-is) tt
    ]
