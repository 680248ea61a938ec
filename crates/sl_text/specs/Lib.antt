-- What all crates share: its definitions, in reading order.

-- how a broken rule prints (`rule_text`)
pub mod Rules
-- the line and the column of a place in a file (`line_of`, `column_of`)
pub mod Places
-- `Shared` as a type that may hold the type that holds it
pub mod formers
