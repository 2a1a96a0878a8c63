-- Theorems on which edits of definitions rest.
pub mod Theorems
