-- Grey values. A reader must believe Fractions, Samples and Values; the rest is checked.
-- An f64 that is a fraction, or a quotient with its sign, exactly.
pub mod Fractions
-- The samples of a record, and the sum of wi times sample i.
pub mod Samples
-- The answer of a value query for a C program.
pub mod Values
-- One float for a fraction or a quotient, one value for equal fractions, and a quotient by a power of two.
pub mod Exact
-- A difference of two sums as an i64 holds it, and its quotient.
pub mod Differences
-- Weighted sums: weights in a ratio, and weights of the cube's side.
pub mod Sums
-- What the loops of the functions keep.
pub mod Loops
