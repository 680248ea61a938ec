use Rattle.sl_frames.proofs.operations.operate.Goals as goal

pub returns-in-Add : goal.returns-in-Add
returns-in-Add c = rw c.in-Add.is c.where_it_fits.ensures

pub returns-in-Sub : goal.returns-in-Sub
returns-in-Sub c = rw c.in-Sub.is c.where_it_fits-in-Sub.ensures

pub returns-in-Mul : goal.returns-in-Mul
returns-in-Mul c = rw c.in-Mul.is c.where_it_fits-in-Mul.ensures
