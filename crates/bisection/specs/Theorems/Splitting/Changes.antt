-- Crossing keeps the place, but between siblings. For a cell that has a parent: its facets but one lie inside the parent's, and across
-- those the place is kept; across the one that is left lies the sibling. The facets of a root opposite the ends of its split edge lie in
-- faces of the cube, and any other place is kept.
use Rattle.std.specs.Prelude.{ℕ, ◌-◌, ◌≤◌, ◌<◌}
use mathlib.Core.List.{List}
use Rattle.dimension.specs.Sizes.{greatest_depth, split_place}
use Rattle.bisection.specs.Cells.{Cell, child}
use Rattle.bisection.specs.Codes.{dimension_of, depth_of}
use Rattle.bisection.specs.Facets.{IsCell}

-- the two children of one cell
pub record TwoChildren (code code' : List ℕ) : Type 0 where
  pub parent : List ℕ
  pub ps : Cell
  pub cell : IsCell parent ps
  pub below : depth_of parent < greatest_depth (dimension_of parent)
  pub number : ℕ
  pub small : number ≤ 1
  pub one_child : IsCell code (child number (split_place (dimension_of parent) (depth_of parent)) ps)
  pub other_child : IsCell code' (child (1 - number) (split_place (dimension_of parent) (depth_of parent)) ps)
