-- Finding a cell in a checked sheet. All of it is checked, none is believed: no entry answers it. Callers know `find` by Finding.
-- A cell among the leaves of a sheet, and what callers know of an index and of what is found.
pub mod Finding
-- What is proved of the definitions.
pub mod Theorems
-- The whole check of a sheet.
pub mod Opened
-- A good sheet read record by record.
pub mod Walk
-- Leaves by their sizes.
pub mod Sizes
-- Distances on the line, and the record at an offset.
pub mod Distances
pub mod Records
-- The search for a place on the line.
pub mod Seeks
-- An index: its entries, and how it is filled.
pub mod Indexes
-- A cell found by an index.
pub mod Finds
