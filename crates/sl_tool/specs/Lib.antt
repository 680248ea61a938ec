-- The tool: its definitions, in reading order.

-- which sources have a tree (`HasTree`), and which rule one breaks first, and where (`IsFirstBroken`)
pub mod Accepting
-- the files of a command as sources (`AreSources`), and what comes of reading them (`Verdict`, `Judged`)
pub mod SourceFiles
-- the C of a plain program (`tree_of`, `written`)
pub mod Written
-- the lines of the tool
pub mod Texts
-- the tool as one function of the verdict (`answer_of`, `IsVerdict`), and the numbers of statuses (`code_of`)
pub mod Answer
-- the outside before and after a call
pub mod Outside
-- what a call of `slang` promises (`Promise`, with the fields of `Keeps`)
pub mod Promise
-- what a refused call of the folder stops a command for
pub mod Stopping
-- what the private functions owe
pub mod Parts
