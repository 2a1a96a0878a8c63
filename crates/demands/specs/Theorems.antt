-- The demands hold.
pub mod Numbers
pub mod One
pub mod Two
pub mod Three
pub mod Agree
pub mod ChildFacets
pub mod Cracked
pub mod Seam
pub mod Idle
