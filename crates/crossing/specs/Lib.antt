-- Crossing a facet. A reader must believe Outcome; the rest is checked.
-- What the entry answers, for every input: the contract, to be read beside document 01.
pub mod Outcome
-- The answer in the form that a C program has of it.
pub mod Forms
-- What is said of two outcomes, of an answer and of crossing back; that it holds stands in proofs/.
pub mod Determined
-- What the contracts of the functions below the entry say; the laws of the same names stand in proofs/.
pub mod Unpacking
pub mod Answers
pub mod Landing
pub mod Leaving
pub mod Staying
