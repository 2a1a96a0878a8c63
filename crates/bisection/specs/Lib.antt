-- Document 01 as definitions, to be read from the top. A reader must believe Cells, Roots, Codes, Refusals, Facets, Weights and
-- Slopes; the rest is checked.
-- The cube and the bisection: points, cells, children, the cell of a root and a path.
pub mod Cells
-- The roots, and all of them in dictionary order.
pub mod Roots
-- The code: signed entries, orthants, the step rule, the code of a root and a path, its bytes.
pub mod Codes
-- The refusal numbers, and the order of refusals for a code.
pub mod Refusals
-- The refusals as the code has them, by their numbers.
pub mod Numbers
pub mod NumberLaws
-- Facets, faces of the cube, cells that have all of a facet's vertices, and the cell across a facet.
pub mod Facets
-- A point in a closed cell, and its weights; points inside points.
pub mod Weights
-- The slope of the only linear function through numbers at a cell's vertices.
pub mod Slopes
-- The definitions computed on small cases: the document's quoted orthants, and how many codes pass.
pub mod Computed
-- What the theorems speak of beside them; they stand in the modules of the same names in proofs/.
pub mod Theorems
