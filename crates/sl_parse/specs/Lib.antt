-- The grammar of declarations and files: the definitions, in reading order.

-- its names and their rules, as data
pub mod Names
-- what the names read, and the trees that are made of it
pub mod Values
-- the grammar as a whole: the kinds of tokens that begin each name, what it spells, and how it is read (`read`)
pub mod Grammar
-- what a function tells of what a reader finds
pub mod Told
-- the rules that are tested on the tree of a file (`broken_in`), and the first that is broken (`first_of`)
pub mod TreeRules
-- what is answered of a file (`Parsed`)
pub mod Answers
