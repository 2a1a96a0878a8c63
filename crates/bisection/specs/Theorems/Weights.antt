-- Definitions that the theorems of the same modules in proofs/ speak of, and what contracts cite of them.
pub mod Sums
pub mod Axes
pub mod Offsets
