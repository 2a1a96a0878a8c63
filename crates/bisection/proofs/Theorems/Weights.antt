-- Weights of points in cells.
-- Sums of weights.
pub mod Sums
-- Weights as a function of the place, one axis at a time.
pub mod Axes
-- A cell's vertices along one entry, weighed.
pub mod Offsets
-- A cell's vertices are independent: no two weights of one sum give the same point.
pub mod Independent
-- The points of a facet are those of the cell that the vertex it lacks does not weigh.
pub mod Facets
