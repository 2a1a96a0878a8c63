-- The table of the roots holds them.
pub mod RootRows
