-- The slope of the only linear function through numbers at a cell's vertices.
-- Whole numbers with a sign as differences of two without one.
pub mod Differences
-- A sum over all axes is one over all entries.
pub mod Places
-- Along the entries: what a slope is there, in numbers alone.
pub mod Rising
-- The equations of a cell's vertices are those along its entries.
pub mod Entries
-- Every cell of the bisection has exactly one slope, and its closed form.
pub mod One
