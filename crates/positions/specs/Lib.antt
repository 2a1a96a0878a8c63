-- Cells on the line. All of it is checked, none is believed: no entry answers a position.
-- The number of a code's root, where its cell starts, how long its part is.
pub mod Positions
-- Dictionary order over any list, and the number of a root in it.
pub mod Arrangements
pub mod Rising
pub mod RootNumbers
-- That the roots stand in dictionary order of their permutations, for every dimension.
pub mod DictionaryOrder
-- What the proofs of the walk up from a code use.
pub mod Walks
pub mod Places
-- Where the roots of a dimension begin in their table.
pub mod RootTable
