-- What the program of worked cases writes is text, of which no contract speaks. Nothing here is to be believed.
-- The slopes of an answer are no NaNs, so that they can be written by their bits.
pub mod Slopes
