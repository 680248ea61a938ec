-- C trees: its definitions, in reading order.

-- what an identifier, a number and a mark of C is, and which identifiers are taken
pub mod Words
-- the C name of a name (`mangled`)
pub mod Mangled
-- what stands in expressions and in bodies, nested or not
pub mod Parts
-- the tokens of a tree, in order
pub mod Flat
-- the trees that a text can have (`IsWellFormed`)
pub mod WellFormed
-- which bytes are the text of a tree (`CText`)
pub mod Text
-- how many bytes types, structs and frames have
pub mod Bytes
-- which variables a function can name
pub mod Scope
-- which rules a tree breaks, and which is told (`Breaks`, `IsFirstBroken`, `KeepsRules`)
pub mod Rules
-- the memory of a C program: globals and frames, and what places hold
pub mod Memory
-- what a C program does, as a run (`c_run`)
pub mod Meaning
