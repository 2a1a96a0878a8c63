-- The way down to a point. All of it is checked, none is believed: no entry answers a way.
-- The way, and what the functions answer.
pub mod Ways
-- The laws of ways.
pub mod WayLaws
-- Every point of the cube lies in a root.
pub mod InRoot
-- The laws of the functions.
pub mod Starts
pub mod Descents
