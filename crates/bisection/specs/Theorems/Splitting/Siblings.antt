-- A child's facets and the cell's, for every dimension: the facet opposite the end that the child keeps lies inside none of the cell's,
-- and the other child lies across it; each other facet lies inside exactly one.
use Rattle.std.specs.Prelude.{◌≡◌, ℕ, ◌≤◌}
use Rattle.bisection.specs.Cells.{Cell}
use Rattle.bisection.specs.Facets.{facet}
use Rattle.bisection.specs.Weights.{LiesInside}

-- one facet of the cell, and no other, has facet j of the child inside
pub record OneHolder (d : ℕ) (vs us : Cell) (j : ℕ) : Type 0 where
  pub i : ℕ
  pub within : i ≤ d
  pub inside : LiesInside (facet j us) (facet i vs)
  pub only : (i' : ℕ) → i' ≤ d → LiesInside (facet j us) (facet i' vs) → i' ≡ i
