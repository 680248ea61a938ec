-- how a run goes on at a place
pub mod Going
-- how many bytes a character has
pub mod Sizes
-- what stands at a place lies within the bytes
pub mod Within
-- what stands at a place is the longest that is spelled there
pub mod Longest
-- what one token more does to the layout
pub mod Layouts
-- how a cut goes on, and that one text has no two of them
pub mod Cuts
-- which faults there are
pub mod Faults
-- which broken rule is the first
pub mod Broken
-- a name is compared with the words of its length alone
pub mod WordLengths
-- what is answered of a file is determined
pub mod OneAnswer
-- each file has an answer
pub mod EachAnswer
