-- Crossing and splitting agree.
-- A child by its places.
pub mod Children
-- Which facets of a child lie inside which of the cell's.
pub mod Inside
-- What lies across a child's facet that is inside one of the cell's.
pub mod Agreement
-- The facet that the two children share, and the one facet of the cell that each other lies inside.
pub mod Siblings
-- Crossing keeps the place, but between the two children of a cell.
pub mod Changes
-- The middle at which a cell is split is no vertex of a cell of its depth or less.
pub mod Newest
