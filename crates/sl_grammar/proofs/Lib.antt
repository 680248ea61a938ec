-- one phrase behind another, and one of two
pub mod Both
pub mod Either
pub mod Then
-- the laws of the pieces that forms are made of
pub mod Laws
pub mod Pieces
pub mod Many
pub mod Guarded
pub mod Steps
-- the readers that repeat are loops whose state grows (`many_grown`, `steps_grown`, `chain_grown`), and how such a loop goes on
pub mod Growing
pub mod Gated
pub mod Ahead
pub mod Without
-- a form that passes its test is read (`form_law`)
pub mod Grammar
-- two readers that obey the law find the same
pub mod Unique
-- a grammar that passes its test is read (`grammar_reads`), spells each tree once (`grammar_one`), and is read by any function that
-- meets the equations of its rules (`grammar_is`, `grammar_same`)
pub mod Rules
-- what a refused token is: too deep, or wrong (`refusal`)
pub mod Front
-- a group between two brackets that match is read (`group_shape`, `group_law`)
pub mod Groups
-- the example is read
pub mod Sums
