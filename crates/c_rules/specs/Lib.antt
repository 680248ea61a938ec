-- The check of C trees: its definitions, in reading order.

-- what a check of a tree owes (`Checks`)
pub mod Checking
-- of rules that may be broken, the one with the least number
pub mod Least
-- tests of types, and what is known of an expression
pub mod Types
-- tests of prototypes
pub mod Protos
-- the least rule that an action in a function breaks
pub mod Bodies
-- what is found by names: items, kinds of variables, numbers of functions
pub mod Naming
-- that the maps of a file and of a function hold what is found (`AreFound`)
pub mod Found
-- the variables of the loops around a statement
pub mod Loops
-- tests of names
pub mod Names
-- what is broken in some functions of a file
pub mod Inside
-- sizes up to a bound, and tests of sizes
pub mod Sizes
