-- Definitions that the theorems of the same modules in proofs/ speak of, and what contracts cite of them.
pub mod Sums
pub mod Halving
pub mod RootCells
pub mod Cells
pub mod BoxWeights
pub mod CubePoints
