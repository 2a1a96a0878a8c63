-- The sizes that belong to a dimension. A reader must believe Sizes; the rest is checked.
-- The sizes, as definitions over any dimension d.
pub mod Sizes
-- Which numbers of axes are a dimension.
pub mod Known
-- What callers use of the sizes: no proof above this crate looks into them.
pub mod Laws
