-- The proof of the crossing theorem, from one axis to lists of points.
-- Counting axes by their places.
pub mod Sums
-- One axis of a cell, in halves of the box's side.
pub mod Rows
-- A cell by its frame; the places of a shared vertex.
pub mod Frames
-- A frame that has all vertices of a facet: its places are the same, or off by one.
pub mod Shift
-- One axis of two such frames.
pub mod Axes
-- The rows of the table on one axis, and which row a facet takes.
pub mod Moves
-- The same places: the frame itself or the one across.
pub mod Level
-- Places off by one: the turned frame.
pub mod Turning
-- A frame with all vertices of a facet is the frame itself or the one across.
pub mod Unique
-- Where a wall of the cube is in the way.
pub mod Walls
-- The frame across has the facet's vertices.
pub mod Sound
-- The places under a row and its way back.
pub mod Places
-- The frame across is a good one in the cube.
pub mod Across
-- The places of a cell but one.
pub mod Skips
-- The facet's vertices in order, the new vertex, the ends of the split edge.
pub mod Shared
-- Orthant bytes with a bit flipped.
pub mod Flips
-- Boxes as numbers, and the carry that moves them.
pub mod Boxes
-- Where a carry stops; facet 0 at the start of a level.
pub mod Stops
-- Frames and lists of points.
pub mod Points
-- The frame of a name.
pub mod Named
-- What a row does to the entries.
pub mod Rearranged
-- What a row does to the boxes.
pub mod Carries
-- The name across: its frame, and that it is a cell's.
pub mod Crossed
-- A code with its cell and its frame.
pub mod Coded
-- The cells with all vertices of a facet of a code's cell.
pub mod Beside
