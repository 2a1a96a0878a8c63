-- What is proved of the definitions, each statement with its proof's place.
pub mod Theorems
