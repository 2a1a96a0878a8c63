-- What is proved of the definitions.
-- Parts of the line are nested or apart, and so are cells.
pub mod Nested
-- Every cell is among the leaves in exactly one of the three ways.
pub mod OneOfThree
