-- Why files are read as the grammar has them.

-- each rule passes the test
pub mod Good
-- the laws of what is read in its own way: types, expressions, blocks and the library's import
pub mod Own
-- one and more phrases with a token between each two
pub mod Lists
-- the span of what a form reads, and what is owed of each name (`To`, `Back`)
pub mod Spans
-- each name spells just its well-shaped trees: paths, imports, packages, type parameters and the names of an enum
pub mod SeenNames
-- notes, parameters, parents and members
pub mod SeenMembers
-- declarations and files
pub mod SeenFiles
-- all of them
pub mod Seen
-- what is within a limit is so without one
pub mod Wider
-- the laws of the whole
pub mod Laws
-- tokens have one tree at most
pub mod OneTree
-- tokens, and the fault where another one stands
pub mod AtTokens
-- which forms pass the test of the grammar, as a test that computes
pub mod Fine
-- what is told of a whole follows from what is told of its parts: what they find, and their faults
pub mod Telling
-- loops, as the code reads what repeats
pub mod Listing
-- rules as the code reads them, part by part: names and types in lists
pub mod NamesRead
-- packages
pub mod PackagesRead
-- the library's import
pub mod LibraryRead
-- imports
pub mod ImportsRead
-- notes
pub mod NotesRead
-- parameters and parents
pub mod ParamsRead
-- methods
pub mod MethodsRead
-- members
pub mod MembersRead
-- declarations
pub mod DeclarationsRead
-- loops over phrases
pub mod LoopsRead
-- files
pub mod FilesRead
-- what is answered of a file
pub mod FilesAnswered
-- the first of what is broken in a tree: of parts, and of nothing
pub mod FirstFault
-- what expressions and statements break first, by their forms
pub mod PhraseFaults
-- what declarations break first, and their forms
pub mod BrokenDecls
-- which expressions are numbers, and which are `T` or `F`
pub mod Noting
pub mod OneAnswer
-- each file has an answer
pub mod EachAnswer
