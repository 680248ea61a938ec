-- Slang's trees: which tokens are a tree's, and which trees are well shaped, in reading order.

-- tokens with their bytes (`Spelled`), and the sorts of tokens that the grammar tells apart (`sort`)
pub mod Sorts
-- which trees are well shaped: the grammar, precedence, association, spans, and how deep a tree nests
pub mod WellShaped
-- the same of declarations and files
pub mod Declarations
-- the tokens of a tree as they are written (`flat_file`, `flat_stmt`, `flat_expr`), and the grammar of a file
pub mod Flat
