-- Grammars as data, and readers of the longest front: the definitions, in reading order.

-- what phrases spell, and what is found at the front of a list of tokens (`IsRead`)
pub mod Phrase
-- what a reader of a phrase owes (`Law`, `Piece`)
pub mod Law
-- phrases that repeat
pub mod Many
-- tokens for which there may be no room
pub mod Guard
-- phrases that repeat while there is room
pub mod Steps
-- the same as loops: a state that grows (`folded`, `grown`)
pub mod Growing
-- a choice that looks two tokens ahead
pub mod Ahead
-- a phrase less its words that begin with some tokens
pub mod Without
-- forms of phrases as data, what they spell, how they are read, and the test of a form (`Form`, `ok`)
pub mod Grammar
-- a rule for each name, and the test of a whole grammar (`Names`, `good`, `Spells`, `read_at`)
pub mod Rules
-- brackets that match, and a group of tokens between two of them (`closes`, `spells_group`, `read_group`)
pub mod Brackets
-- an example: sums with a limit of nesting
pub mod Sums
