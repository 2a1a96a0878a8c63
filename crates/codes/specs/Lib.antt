-- The code layer. A reader must believe Outcomes and Fronts; the rest is checked.
-- What each entry answers: the contracts' relations, to be read beside document 01.
pub mod Outcomes
-- The answers in the form that a C program has of them.
pub mod Forms
-- A code at the front of bytes, for those who read records; its laws stand below it.
pub mod Fronts
-- Two outcomes that a contract allows are equal.
pub mod Determined
-- Children and parents agree with the bisection.
pub mod Bisects
-- What the proofs of the entries use: the order of refusals, and one law for each way out of an entry.
pub mod Heads
pub mod Writing
pub mod ChildAnswers
pub mod ParentAnswers
pub mod PathAnswers
pub mod CellAnswers
