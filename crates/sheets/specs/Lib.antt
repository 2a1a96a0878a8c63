-- The sheet layer. A reader must believe Forests and Sheets; the rest is checked.
-- Binary trees and forests over the roots, and their leaves in tree order.
pub mod Forests
-- Records, good sheets, the next leaf, a record's own tests, and what the sheet check answers.
pub mod Sheets
-- The answer of the sheet check in the form that a C program has of it.
pub mod Forms
-- What is proved of the definitions.
pub mod Theorems
-- What the functions answer, and what their proofs use.
pub mod Steps
pub mod StepLaws
pub mod Ahead
pub mod Progress
pub mod Ends
