-- The vocabulary of runs: its definitions, in reading order.

-- the run so far (`Trace`), and the parts (acts, `Act`) of which every meaning is made
pub mod Run
-- how statements are left, and how a run goes on after them (`FlowOf`, `then_on`, `after_round`); what there is of the input (`gotten`)
pub mod Statements
-- what the outside knows of a run that is over (`Outcome`)
pub mod Outcome
-- when two runs go alike (`Follows`, `FollowsUnless`)
pub mod Alike
-- what each part of a run obeys (`Alone`, `Steady`, `Respects`)
pub mod Laws
