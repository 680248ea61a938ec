-- The machine that runs C trees: its definitions, in reading order.

-- the state of a run of a resolved program: globals and frames
pub mod State
-- the values of expressions, where they have one
pub mod Values
-- what a resolved program does, as a run
pub mod Meaning
-- what names mean where a function is resolved
pub mod Naming
-- when a resolved program goes as the C that it was resolved from
pub mod Related
-- what resolving gives (`MeansFile`)
pub mod Resolved
-- what still happens from a configuration of the machine
pub mod Resume
-- what steps do to an input and an output (`Deed`)
pub mod Outside
-- what a step owes (`Stepped`, `Faulted`)
pub mod Stepped
-- what the machine as a whole owes (`Opened`, `Steps`, `Runs`)
pub mod Ran
