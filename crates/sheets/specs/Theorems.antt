-- What is proved of the definitions.
-- Trees by the list of cells still to do.
pub mod Todo
-- The frontier rule: what is still to do after a leaf is read off its root and path.
pub mod Frontier
-- The frontier on the line: the next leaf starts where the last one ends.
pub mod Line
-- A record: what its own tests say of its bytes.
pub mod Reading
-- Records one after the other list cells in one way only.
pub mod Listing
-- The answer of the sheet check is determined.
pub mod Determined
-- The leaves of a good sheet fill the line, with no gap and no overlap.
pub mod Tiles
-- Tree order is a strict order, any two different cells have it one way or the other, a cell is before those inside it.
pub mod TreeOrder
-- The leaves of a forest stand in tree order.
pub mod Order
-- What holds of a good sheet, and what its bytes determine.
pub mod Good
-- The first record of a good sheet.
pub mod FirstRecord
