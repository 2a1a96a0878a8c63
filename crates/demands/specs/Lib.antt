-- What a reader opens first. To be believed are what a row says (Rows), the rows and the claim of Worked, and the claims of
-- Determined, of the demands and of Seam, Agree, Caching and ChildFacets.
-- What a row of worked cells says.
pub mod Rows
-- The worked cells of document 01 as rows of one table, and the claim that holds of every row.
pub mod Worked
-- Two outcomes that a contract allows are equal: one claim over all entries.
pub mod Determined
-- The three demands; that they hold stands in Theorems.
pub mod One
pub mod Two
pub mod Three
-- Request No. 4: a small sheet that the old rule passes and the new one fails.
pub mod Seam
-- Request No. 5: crossing and splitting agree.
pub mod Agree
-- The same of the entries' contracts, for programs that keep children of neighbours.
pub mod Caching
-- A child's facets: the one that it shares with its sibling, and those inside the cell's.
pub mod ChildFacets
-- Programs that do nothing, and that none meets its contract.
pub mod Idle
pub mod Theorems
-- How a row is shown, and document 01's sheet.
pub mod Shown
pub mod TwoLeaves
pub mod PointTen
pub mod SlopeTwo
