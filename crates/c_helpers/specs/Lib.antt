-- The inline functions of C: its definitions, in reading order.

-- the inline functions, as C trees
pub mod Functions
-- what calls of them give
pub mod Laws
