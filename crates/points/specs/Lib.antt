-- Points in cells, by bisection's Weights. A reader must believe Points and Roots; the rest is checked.
-- The points of a query.
pub mod Points
-- The first root that contains a point.
pub mod Roots
-- The weights in closed form: that they are the weights is proved.
pub mod ClosedForm
-- What the theorems speak of beside them; they stand in the modules of the same names in proofs/.
pub mod Theorems
