-- The grammar of types, patterns, expressions and statements: the definitions, in reading order.

-- its names and their rules, as data
pub mod Names
-- what the names read, and the trees that are made of it
pub mod Values
-- the grammar as a whole: the kinds of tokens that begin each name, what there is room for, and how it is read (`read`)
pub mod Grammar
-- what a function tells of what a reader finds
pub mod Told
-- what is told of arguments
pub mod Applied
-- what the public calls answer: the tree of the longest front, or the rule that it breaks (`Answers`)
pub mod Answers
-- what a second reader tells
pub mod Went
