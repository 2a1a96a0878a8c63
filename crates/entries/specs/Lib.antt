-- Signed entries, orthant bytes, and the tests of a code's body. All of it is checked, none is believed.
-- Signed entries as numbers, and the bits of masks.
pub mod Signs
pub mod Masks
-- Bytes as one word.
pub mod Words
-- The walks that test a code; the permutation and the signs by masks.
pub mod Walks
pub mod Fitting
pub mod Marks
pub mod SignMasks
-- What a check that passes tells.
pub mod Passed
