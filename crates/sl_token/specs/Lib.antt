-- Tokens: its definitions, in reading order.

-- characters, and which of them make identifiers
pub mod Characters
-- what stands at a place: a blank, a token or a fault (`piece_of`)
pub mod Spellings
-- what spells a blank or a token, and that the longest stands at a place (`Spells`)
pub mod Longest
-- where a line's end ends a statement (`laid`)
pub mod Layout
-- what the state of the layout holds
pub mod Layouts
-- the cut of a file, and the rules that it breaks (`AreTokens`, `IsFirstBroken`)
pub mod Cut
