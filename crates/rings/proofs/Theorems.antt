-- That the forms hold exactly where the leaves are compatible, in every dimension at once.
-- What the theory knows of cells, and the laws that it asks of them.
pub mod Shape
-- Forests as sets of split cells.
pub mod Forests
-- Who has all vertices of a facet.
pub mod Sharers
-- The forms, over any cells that obey the laws.
pub mod Whole
-- The bisection's cells: their tree, and their crossings.
pub mod Cells
-- A crossing seen from a child and from the parent.
pub mod Halving
-- The bisection obeys the laws.
pub mod Bisected
-- Cells that lie in cells.
pub mod Lying
-- The leaves of a forest as a set of split cells.
pub mod Leaves
-- The forms, over the leaves of a forest.
pub mod Forms
