-- What is proved of them.
pub mod Theorems
