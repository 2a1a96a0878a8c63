-- What the theory of rings knows of cells: children, depth, crossings, and which cells have all vertices of a facet. `Laws` is what the
-- bisection is shown to satisfy in Bisected; nothing here knows a dimension, a point or a code.
use Rattle.std.specs.Prelude.{Bool, ℕ}

pub record Shape : Type 1 where
  pub C : Type 0
  -- the cells there are: a root of the dimension and a path no longer than the greatest depth
  pub Real : C → Type 0
  pub depth : C → ℕ
  pub greatest : ℕ
  pub child : Bool → C → C
  -- the place k, by the depth
  pub split_at : ℕ → ℕ
  -- across facet i of the first cell lies the second, whose new vertex stands at place j
  pub LeadsTo : C → ℕ → C → ℕ → Type 0
  -- the second cell, of whatever depth, has all vertices of facet i of the first
  pub Has : C → ℕ → C → Type 0
