-- From cores to C: its definitions, in reading order.

-- the C names of what a core numbers
pub mod Names
-- the C tree of a core (`c_of`)
pub mod Translated
-- what is promised of it (`Translates`)
pub mod Promise
-- the C of what the code keeps of an operation
pub mod Operations
