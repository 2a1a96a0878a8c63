-- The compatibility test. A reader must believe Compatible, and rings/specs/Compatible.antt, which it cites; the rest is checked.
-- What the test answers.
pub mod Compatible
-- The answer in the form that a C program has of it.
pub mod Forms
-- One look at a cell.
pub mod Looks
-- The last step of a leaf, and where the next one starts.
pub mod Steps
-- One facet of a leaf.
pub mod FacetLaws
-- The walk over leaves and facets.
pub mod Walking
-- The whole test.
pub mod Answers
-- Its answer is determined.
pub mod Determined
