-- The vertices of a cell: points as words, the low sides of a box, signed steps from them, a cell drawn. All of it is checked, none is believed.
pub mod PointWords
pub mod Lows
pub mod Steps
pub mod Adding
pub mod Vertices
pub mod Drawing
