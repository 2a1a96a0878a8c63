-- They hold exactly where the leaves are compatible.
pub mod Theorems
