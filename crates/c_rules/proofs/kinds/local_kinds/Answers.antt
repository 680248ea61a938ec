use Rattle.c_rules.proofs.kinds.local_kinds.Goals as goal

pub returns : goal.returns
returns c = rw (c.as_slice.ensures, c.as_slice-2.ensures) at (c.in_ok-add_kinds.ensures c.as_slice.result.now c.in_ok-kinds.ensures)
