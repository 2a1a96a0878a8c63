-- Point queries. A reader must believe Queries, SlopeQueries and Forms; the rest is checked.
-- The leaf at a point, and what the leaf query and the value query answer.
pub mod Queries
-- What the slope query answers.
pub mod SlopeQueries
-- The leaf query's answer for a C program.
pub mod Forms
-- What is proved of the definitions.
pub mod Theorems
-- Two outcomes that a contract allows are equal: of the leaf query, of the value query,
pub mod Determined
-- and of the slope query.
pub mod SlopeDetermined
-- The record of the leaf at a point, and the one that a query is answered from.
pub mod Choice
-- The weights as they are written.
pub mod Writing
-- The answers, put together: the leaf and the value.
pub mod Answers
-- And the slope.
pub mod SlopeAnswers
