-- The writer of C: its definitions, in reading order.

-- the text that the writer gives a tree (`text_of`): which blanks stand before each token
pub mod Layout
-- the writer as a list of bytes and a place
pub mod Written
-- the lines on which functions and prototypes stand in the text (`lined`)
pub mod Lined
