-- The command line: its definitions, in reading order.

-- which command words ask for (`Reads`, `HasNoReading`)
pub mod Words
-- how it is found, word by word (`command_of`)
pub mod WordsReading
