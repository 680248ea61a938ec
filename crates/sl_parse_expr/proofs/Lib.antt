-- The grammar is one that can be read one token ahead, or two, and its names spell the trees that are well shaped.

-- each rule passes the test
pub mod Good
-- what there is room for
pub mod Rooms
-- what is owed of each name that has a tree
pub mod SeenAt
-- the tokens from an index on
pub mod Behind
-- the span of what begins and ends with some tokens
pub mod Ends
-- paths, types and what is listed
pub mod SeenTypes
-- the rule of a case, and of a `match`
pub mod SeenCases
-- the rules of statements, of blocks, and of an `if` with blocks
pub mod SeenBlocks
-- the group in brackets
pub mod Group
-- what is owed of every name
pub mod Seen
-- the laws of the grammar
pub mod Laws
-- tokens have one tree at most
pub mod OneTree
-- how a refusal within bounds is told
pub mod Fronts
-- patterns
pub mod SeenPatterns
-- an operand with its suffixes
pub mod SeenPostfix
-- the infix operators of a level
pub mod SeenLevels
-- operands
pub mod SeenOperands
-- expressions
pub mod SeenExpressions
-- what begins with an expression, and `return`
pub mod SeenOpenings
-- the rule of a statement
pub mod SeenStatement
-- and all of it
pub mod AllSeen
-- what is answered, from what two readers find
pub mod Answering
-- the three phrases that are answered
pub mod Phrases
-- what is told of a whole follows from what is told of its parts
pub mod Telling
-- paths, as the code reads them
pub mod Paths
-- what is listed with commas, as the code reads it
pub mod Listing
-- types, as the code reads them
pub mod TypesRead
-- phrases that are read, by computation
pub mod Examples
-- what repeats up to a token that closes it, as the code reads it
pub mod ClosedRows
-- arguments, as the code reads them
pub mod ArgumentsRead
-- cases, as the code reads them
pub mod CasesRead
-- trees made of their parts
pub mod Building
-- statements that are skipped, as the code reads them
pub mod Skipping
-- patterns, as the code reads them
pub mod PatternsRead
-- expressions, as the code reads them
pub mod ExpressionsRead
-- infix operators and operands, as the code reads them
pub mod LevelsRead
-- what has suffixes, as the code reads it
pub mod PostfixRead
-- statements, blocks, declarations, loops and `return`, as the code reads them
pub mod StatementsRead
-- what begins with `if` as a statement, as the code reads it
pub mod IfsRead
-- a statement that begins with an expression, or is skipped, as the code reads it
pub mod OpeningsRead
