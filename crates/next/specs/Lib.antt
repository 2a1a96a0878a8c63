-- The next cell, kept as a code. All of it is checked, none is believed.
-- What the next cell stands for, and what the functions answer.
pub mod Nexts
-- Paths with their last step first: followed by zeros, without the 1s at their end, as a number, and on the line.
pub mod Paths
-- The name of a root and such a path, and the orthants of the first cell of greatest depth inside.
pub mod Names
-- Orthants as the digits of a number.
pub mod Digits
-- The laws of `matches`, of `climb` and `after`, and of `first`.
pub mod Matching
pub mod Climbing
pub mod Going
pub mod Starts
