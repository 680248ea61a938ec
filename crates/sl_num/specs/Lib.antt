-- The integers: its definitions, in reading order.

-- integer types (`IntType`), and the numbers that each has
pub mod Types
-- what an operation gives, and when it halts (`applied`)
pub mod Arithmetic
-- whether a comparison holds (`holds`)
pub mod Comparing
-- which bytes are a number in decimal (`IsDecimalOf`)
pub mod Decimals
