-- The listing of a sheet. A reader must believe Texts; the rest is checked.
-- What the program writes, byte by byte, and the listing's contract.
pub mod Texts
-- Two outcomes that the contract allows are equal.
pub mod Determined
-- What the proofs of the functions use.
pub mod Digits
pub mod Lines
pub mod Leaves
pub mod Whole
