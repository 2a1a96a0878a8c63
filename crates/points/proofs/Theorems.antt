-- What is proved of the definitions.
-- Sums of weights that moved.
pub mod Sums
-- The weights in a cell and those in its halves.
pub mod Halving
-- The weights in a root.
pub mod RootCells
-- Points in the cells of the bisection.
pub mod Cells
-- Document 01's weights: there are such, and no others.
pub mod BoxWeights
-- The weights in closed form: a point lies in a cell exactly when they are natural numbers.
pub mod ClosedWeights
-- The points of a query.
pub mod CubePoints
