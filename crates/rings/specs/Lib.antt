-- Rings of split cells. A reader must believe Compatible; what Rings defines is for the theorems, and all else is checked.
-- Compatible sheets.
pub mod Compatible
-- The forms in which the rule is used: who has a facet, one look for each facet, whole rings.
pub mod Rings
-- What the theorems speak of beside them; they stand in the modules of the same names in proofs/.
pub mod Theorems
