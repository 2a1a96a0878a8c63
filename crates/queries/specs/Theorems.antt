-- What is proved of the definitions.
-- The leaf at a point is the leaf on the way down to it.
pub mod OnTheWay
-- The leaf at a point by the sizes of the leaves.
pub mod Sizes
-- Every good sheet has a leaf at every point of the cube.
pub mod EverySheet
