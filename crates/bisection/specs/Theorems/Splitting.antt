-- Definitions that the theorems of the same modules in proofs/ speak of, and what contracts cite of them.
pub mod Children
pub mod Inside
pub mod Agreement
pub mod Siblings
pub mod Changes
