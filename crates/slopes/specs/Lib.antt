-- The slope of the grey field in a cell. A reader must believe Slopes; the rest is checked.
-- The four components, and the answer of a slope query for a C program.
pub mod Slopes
-- The slope along one entry, from the samples at hand.
pub mod Along
-- What the walk over the entries keeps, and that its end is the slope.
pub mod Gathering
-- Two records of components of the same numbers are equal.
pub mod Determined
