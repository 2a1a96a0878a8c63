-- What is proved of the definitions.
-- Tests in their order: which refusal comes first.
pub mod Ladders
-- Lists with one element put in another's place, or turned by one; the midpoint of two points, and the size of a point's bytes.
pub mod Lists
-- One axis of a cell: the closed form, and what a step of the bisection makes of it.
pub mod Axis
-- A map of the numbers below d that takes no value twice takes every value.
pub mod Onto
-- Orthant bytes: their bits, and the orthant of a permutation.
pub mod Orthants
-- Signed permutations: an entry's axis and sign, and the turn of child 1 with its way back.
pub mod Entries
-- Names of cells: what a step of the rule keeps, and the one name whose step a name is.
pub mod Passing
-- Every such name is that of exactly one root and path.
pub mod Paths
-- The byte check says just that: a code passes exactly when it is a name's bytes.
pub mod Checked
-- Path to code and code to path undo each other; the child's code and the parent's.
pub mod CodePaths
-- The cell of a root and a path is the one that its name draws: the closed form of the vertices.
pub mod Drawn
-- Cells of the bisection: the closed form, whole midpoints, the geometric reading of a signed entry.
pub mod Geometry
-- Two cells are equal only if their codes are.
pub mod OneCode
-- A code that passes has one cell, and a cell has one code.
pub mod CodeCells
-- The cell of a path with one step more is that child of the path's cell.
pub mod CellChildren
-- The cell across a facet: one axis at a time, in units of half a side.
pub mod Crossing
-- The crossing theorem: the cell across a facet is the one of the table, and there is no other.
pub mod Neighbour
-- Weights of points in cells and facets.
pub mod Weights
-- The slope of the only linear function through numbers at a cell's vertices.
pub mod Slopes
-- Crossing and splitting agree: a child's facets, inside the cell's and between the two children.
pub mod Splitting
