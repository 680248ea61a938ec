-- Facts of well-shaped trees.

-- the span of tokens that follow one another
pub mod Spans
-- what a tree's tokens are: one at least, and the tree's span is theirs
pub mod Trees
-- what a token's sort says of its kind and of its bytes
pub mod Spellings
-- the tokens of each form of tree, from the tokens of its parts
pub mod FlatLayers
-- the tokens of a tree as they are written are the tokens that it is of
pub mod FlatIs
-- the tokens of each form of declaration, from the tokens of its parts
pub mod FlatDeclarationLayers
-- the tokens of a declaration as they are written are the tokens that it is of
pub mod FlatDeclarations
