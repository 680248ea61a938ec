use Rattle.sl_tool.proofs.telling.try_line.Goals as goal

pub returns-clause-tried : goal.returns-clause-tried
returns-clause-tried g c = (c.put.result, record { taken = c.put.ensures.taken; cause = c.put.ensures.cause; counted = c.put.ensures.counted })
