-- Plain trees and their programs: the definitions, in reading order.

-- the names, texts and numbers that a plain program may have
pub mod Names
-- which programs are plain (`IsProgram`)
pub mod Program
-- how depths, names and types are checked
pub mod Checking
-- which trees are plain, and their programs (`plain_of`)
pub mod Reading
-- the numbers of the type `Z`
pub mod Numbers
-- what a plain program does, as a run (`plain_run`)
pub mod Means
-- the core of a plain program (`core_of`)
pub mod Lowered
-- programs with numbers of 32 bits (`IsInReach`)
pub mod Reach
-- how the variables of a core are found by names
pub mod Numbering
