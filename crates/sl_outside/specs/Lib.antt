-- The outside: its definitions, in reading order.

-- counts of faults and of calls (`HasCause`, `Rose`)
pub mod Counts
-- what calls of a folder answer and leave (`ReadGives`, `WriteGives`)
pub mod Folder
-- what asking a source answers and leaves (`Asked`, `Reads`)
pub mod Source
-- what putting a piece on a sink answers and leaves (`Put`, `Prints`)
pub mod Sink
-- contents that are listed, and the forms over memory that never fail
pub mod Entries
-- what each call of the forms over memory that can fail answers, exactly
pub mod Numbered
-- what the adapters over the system hold, and what reading a byte and writing bytes whole do
pub mod Adapters
